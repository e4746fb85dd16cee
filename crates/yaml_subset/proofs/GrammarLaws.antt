-- What reading gives is what the text has by the grammar.
use Rattle.std.proofs.Common.{◌≡◌, ℕ, List, Result, Ok, Err}
use Rattle.yaml_subset.specs.declared.fault.YamlFault.{YamlFault}
use Rattle.yaml_subset.specs.declared.fault.YamlRefused.{YamlRefused}
use Rattle.yaml_subset.specs.declared.fault.YamlRefused.TheVariants as refused
use Rattle.yaml_tree.specs.declared.tree.Tree.{Tree}
use Rattle.yaml_subset.specs.Reading.{read_of, GivesTree}
use Rattle.yaml_subset.specs.Grammar.{Reads, GivesByGrammar}
use Rattle.yaml_subset.proofs.GrammarTexts.{text_read}
use Rattle.yaml_subset.proofs.GrammarLines.{text_split}

never_both : (r : Result Tree YamlFault) (t : Tree) (fault : YamlFault) → r ≡ Err fault → r ≡ Ok t → ⊥
never_both r t fault e h = cc

pub by_grammar : (result : Result Tree YamlRefused) (text : List ℕ) → GivesTree result (read_of text) → GivesByGrammar result text
by_grammar (Ok t) text h = text_split text t h
by_grammar (Err refused.Memory) text h = tt
by_grammar (Err (refused.At fault)) text h = λ t r. never_both (read_of text) t fault h (text_read text t r)

same_tree : (t u : Tree) (r : Result Tree YamlFault) → r ≡ Ok t → r ≡ Ok u → t ≡ u
same_tree t u r e h = cc

pub one_tree : (text : List ℕ) (t u : Tree) → Reads text t → Reads text u → t ≡ u
one_tree text t u r s = same_tree t u (read_of text) (text_read text t r) (text_read text u s)
