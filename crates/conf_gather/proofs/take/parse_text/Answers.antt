use Rattle.std.proofs.Common.{◌∙◌, List, ℕ, Err, ap, sym}
use Rattle.conf_gather.specs.declared.refused.LoadRefused.TheVariants.{Yaml}
use Rattle.conf_gather.specs.Gathered.{text_tree}
use Rattle.conf_gather.proofs.ReadLemmas.{tree_read, fault_read}
use Rattle.conf_gather.proofs.take.parse_text.Goals as goal

pub returns-in-Ok-clause-told : goal.returns-in-Ok-clause-told
returns-in-Ok-clause-told c = ap (text_tree c.args.name.now) (tree_read c.args.text.now c.in-Ok.tree c.in-Ok.ensures.grammar)

pub returns-in_ok-copy-in-Err-At-clause-told : goal.returns-in_ok-copy-in-Err-At-clause-told
returns-in_ok-copy-in-Err-At-clause-told c =
    ap (text_tree c.args.name.now) (fault_read c.args.text.now c.in-Err-At.fault (rw c.in-Err-At.field-0-is at c.in-Err-At.ensures.first).0)
    ∙ ap (λ (n : List ℕ). Err (Yaml n c.in-Err-At.fault)) (sym c.in_ok-copy-in-Err-At.ensures)
