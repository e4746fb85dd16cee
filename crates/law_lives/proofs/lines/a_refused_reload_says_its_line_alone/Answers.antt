use Rattle.ctl_core.specs.Story.{behind}
use Rattle.ctl_world.specs.World.{first}
use Rattle.law_lives.proofs.lines.a_refused_reload_says_its_line_alone.Goals as goal

pub returns : goal.returns
returns c = λ conf story text cause is. c.a_refused_reload_changes_nothing.ensures text cause (behind (first conf) story) (c.after_each_turn_it_rests.ensures conf story) is
