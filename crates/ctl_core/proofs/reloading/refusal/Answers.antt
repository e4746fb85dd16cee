use Rattle.std.proofs.Common.{◌≡◌, IfOk, Result, Err, sym, subst}
use Rattle.yaml_subset.specs.declared.fault.YamlFault.{YamlFault}
use Rattle.yaml_tree.specs.declared.tree.Tree.{Tree}
use Rattle.yaml_subset.specs.Reading.{read_of}
use Rattle.ctl_core.specs.declared.reloading.Read.{Read}
use Rattle.ctl_core.specs.Reloading.{Gives, of_text}
use Rattle.ctl_core.proofs.reloading.refusal.Goals as goal

pub returns-in-Yaml : goal.returns-in-Yaml
returns-in-Yaml c = λ text refused.
    let is_read : read_of text ≡ Err c.in-Yaml.fault = c.a_file_is_read_by_the_grammar.ensures.fault text c.in-Yaml.fault (rw c.in-Yaml.is at refused) in
    subst (λ (read : Result Tree YamlFault). IfOk c.yaml_refusal.result (λ (made : Read). Gives made (of_text read))) (sym is_read) c.yaml_refusal.ensures
