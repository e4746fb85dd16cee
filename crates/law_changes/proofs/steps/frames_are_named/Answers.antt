use Rattle.law_changes.proofs.Heard.{frame_named}
use Rattle.law_names.proofs.Stepped.{learn_named}
use Rattle.law_changes.proofs.steps.frames_are_named.Goals as goal

pub returns-clause-frame : goal.returns-clause-frame
returns-clause-frame c = frame_named

pub returns-clause-host : goal.returns-clause-host
returns-clause-host c = learn_named
