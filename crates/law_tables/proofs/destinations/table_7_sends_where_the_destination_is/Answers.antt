use Rattle.law_tables.proofs.TableOfDestinations.{law}
use Rattle.law_tables.proofs.destinations.table_7_sends_where_the_destination_is.Goals as goal

pub returns : goal.returns
returns c = λ conf now d setting. law conf now d setting (λ to hop is. c.the_stack_goes_over_ends_of_links.ensures.hops conf now.ups d.id to hop setting.valid is)
