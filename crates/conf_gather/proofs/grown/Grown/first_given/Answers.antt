use Rattle.conf_gather.specs.Joined.{gathered_under}
use Rattle.conf_gather.specs.Known.{section_key}
use Rattle.conf_gather.proofs.SectionLemmas.{known_here}
use Rattle.conf_gather.proofs.grown.Grown.first_given.Goals as goal

pub returns : goal.returns
returns c =
    c.first_known.ensures (gathered_under (section_key c.args.section) c.args.self.now)
    (known_here c.self.inside.pairs c.args.self.now c.args.section c.self.inside.sections c.of.result.now c.self.invariant.1 c.of.ensures c.self.view_is).names
