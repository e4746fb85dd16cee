use Rattle.law_tables.proofs.TableOfFloods.{law}
use Rattle.law_tables.proofs.floods.table_8_floods_as_described.Goals as goal

pub returns : goal.returns
returns c = λ conf now d setting. law conf now d setting (λ number is. c.the_stack_goes_over_ends_of_links.ensures.tree conf now.ups d.id number setting.valid is)
