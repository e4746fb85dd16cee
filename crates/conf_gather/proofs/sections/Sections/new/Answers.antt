use Rattle.conf_gather.proofs.SectionLemmas.{nothing_known}
use Rattle.conf_gather.proofs.sections.Sections.new.Goals as goal

pub returns : goal.returns
returns c =
    nothing_known c.new.result c.new-2.result c.new-3.result c.new-4.result
    (c.new.ensures.place, c.new.ensures.names) (c.new-2.ensures.place, c.new-2.ensures.names) (c.new-3.ensures.place, c.new-3.ensures.names) (c.new-4.ensures.place, c.new-4.ensures.names)
