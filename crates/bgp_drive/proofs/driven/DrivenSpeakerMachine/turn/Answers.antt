use Rattle.std.proofs.Common.{◌≡◌, ◌∙◌}
use Rattle.bgp_speaker.specs.Speaking.{said, turn}
use Rattle.bgp_drive.specs.Speech.{moment_of}
use Rattle.bgp_drive.proofs.Told.{same_records}
use Rattle.bgp_drive.proofs.driven.DrivenSpeakerMachine.turn.Goals as goal

pub returns-clause-moment : goal.returns-clause-moment
returns-clause-moment c = λ s stands. c.moment-moment.ensures (turn c.args.what.now s) (c.in_ok-sayings.ensures.known s stands)

pub returns-clause-prints : goal.returns-clause-prints
returns-clause-prints c = λ s stands.
    let moment = c.moment-moment.ensures (turn c.args.what.now s) (c.in_ok-sayings.ensures.known s stands) in
    let says : c.as_slice.result.now ≡ said (turn c.args.what.now s) = cc (c.in_ok-sayings.ensures.says s stands, c.as_slice.ensures) in
    c.in_ok-prints.ensures
    ∙ same_records c.moment-moment.result (moment_of (turn c.args.what.now s)) c.as_slice.result.now (said (turn c.args.what.now s)) c.in_ok-sayings.field-0.text (turn c.args.what.now s).text moment says
    (c.in_ok-sayings.ensures.text s stands)
