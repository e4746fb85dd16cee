use Rattle.bgp_speaker.proofs.speaker.Speaker.routes.Goals as goal

pub returns : goal.returns
returns c = λ s stands. c.routes.ensures s.known stands.known
