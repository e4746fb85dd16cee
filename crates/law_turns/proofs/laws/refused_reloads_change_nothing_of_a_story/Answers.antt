use Rattle.law_turns.proofs.Reloaded.{same_without}
use Rattle.law_turns.proofs.laws.refused_reloads_change_nothing_of_a_story.Goals as goal

pub returns : goal.returns
returns c = λ conf story. same_without conf (λ past. c.after_each_turn_it_rests.ensures conf past) (λ text cause w rests is. c.a_refused_reload_changes_nothing.ensures text cause w rests is) story
