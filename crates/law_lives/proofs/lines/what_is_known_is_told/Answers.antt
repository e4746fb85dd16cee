use Rattle.std.proofs.Common.{sym}
use Rattle.ctl_world.specs.World.{first}
use Rattle.law_lives.proofs.Fixed.{conf_known, moment_known}
use Rattle.law_lives.proofs.Opened.{open_known}
use Rattle.law_lives.proofs.lines.what_is_known_is_told.Goals as goal

pub returns : goal.returns
returns c = record {
  configuration = λ conf story. conf_known (first conf) story;
  moment = λ conf story. moment_known (first conf) story;
  opened = λ conf story number. sym (open_known number (first conf) story);
}
