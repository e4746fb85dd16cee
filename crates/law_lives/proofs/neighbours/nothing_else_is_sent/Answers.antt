use Rattle.ctl_core.specs.Reloading.{accepted}
use Rattle.law_lives.proofs.Quietly.{ended_outs, opened_outs, passed_outs, reloaded_outs}
use Rattle.law_lives.proofs.neighbours.nothing_else_is_sent.Goals as goal

pub returns : goal.returns
returns c = record { opened = opened_outs; ended = ended_outs; passed = passed_outs; reloaded = λ text w. reloaded_outs (accepted text) w }
