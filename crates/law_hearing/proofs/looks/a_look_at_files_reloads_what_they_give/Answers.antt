use Rattle.law_hearing.proofs.FoundTexts.{look_gives, front_gives}
use Rattle.law_hearing.proofs.looks.a_look_at_files_reloads_what_they_give.Goals as goal

pub returns : goal.returns
returns c = record {
  gathered = look_gives c.a_gathered_tree_is_sound.ensures c.a_canonical_text_has_its_tree.ensures.has (λ text t. (c.a_text_is_read_by_the_grammar.ensures.tree text t).1);
  front = front_gives;
}
