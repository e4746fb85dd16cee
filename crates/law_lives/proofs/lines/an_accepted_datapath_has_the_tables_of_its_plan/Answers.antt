use Rattle.plan_units.specs.Units.{plan}
use Rattle.law_lives.proofs.Tables.{all_within}
use Rattle.law_lives.proofs.lines.an_accepted_datapath_has_the_tables_of_its_plan.Goals as goal

pub returns : goal.returns
returns c = λ conf now d n_tables auxiliary setting fits.
    all_within conf d.id n_tables auxiliary fits (plan conf now d) (c.each_entry_is_short.ensures conf now d setting) (c.each_entry_can_be_done.ensures.plan conf now d setting)
