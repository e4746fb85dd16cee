use Rattle.std.proofs.Common.{◌≡◌, Result, Ok, Err, ap, arith}
use Rattle.std.proofs.lemmas.Grind.{common_steps}
use Rattle.yaml_tree.specs.declared.tree.Tree.{Tree}
use Rattle.yaml_subset.specs.Printed.{printed}
use Rattle.conf_types.specs.Configuration.{Configuration}
use Rattle.conf_gather.specs.declared.refused.LoadRefused.{LoadRefused}
use Rattle.conf_gather.specs.declared.refused.LoadRefused.TheVariants.{Read, Memory}
use Rattle.conf_gather.specs.Gives.{◌>>=◌}
use Rattle.conf_gather.proofs.FilesLemmas.{never_unread}
use Rattle.conf_gather.proofs.GatherLemmas.{fails_first, other_err}
use Rattle.conf_gather.specs.Gathered.{gathered}
use Rattle.conf_load.specs.Loaded.{checked, checked_with_text}
use Rattle.conf_load.proofs.LoadLemmas.{gathered_first}
use Rattle.conf_load.proofs.loading.load_with_text.Goals as goal

pub returns-in_err-tree-clause-told : goal.returns-in_err-tree-clause-told
returns-in_err-tree-clause-told g c = λ held told.
    let result : c.from_residual.result ≡ Err c.in_err-tree.field-0.0 = grind (arith, common_steps) in
    rw result (fails_first c.in_err-tree.field-0.0 (gathered (held 0) c.args.name.now) checked_with_text (c.in_err-tree.ensures.told held told))

pub returns-in_err-conf-clause-told : goal.returns-in_err-conf-clause-told
returns-in_err-conf-clause-told g c = λ held told.
    let result : c.from_residual-in_err-conf.result ≡ Err c.in_err-conf.field-0.0 = grind (arith, common_steps) in
    rw result (gathered_first checked_with_text (Err c.in_err-conf.field-0.0) c.in_ok-tree.tree (gathered (held 0) c.args.name.now) (c.in_ok-tree.ensures.told held told)
    (fails_first c.in_err-conf.field-0.0 (checked c.in_ok-tree.tree) (λ conf. Ok (conf, printed c.in_ok-tree.tree)) c.in_err-conf.ensures.told))

pub returns-in_err-text-clause-told : goal.returns-in_err-text-clause-told
returns-in_err-text-clause-told g c = λ held told.
    let result : c.from_residual-in_err-text.result ≡ Err Memory = grind (arith, common_steps) in
    rw result tt

pub returns-clause-told : goal.returns-clause-told
returns-clause-told g c = λ held told.
    gathered_first checked_with_text (Ok (c.in_ok-conf.conf, c.in_ok-text.text)) c.in_ok-tree.tree (gathered (held 0) c.args.name.now) (c.in_ok-tree.ensures.told held told)
    (gathered_first (λ conf. Ok (conf, printed c.in_ok-tree.tree)) (Ok (c.in_ok-conf.conf, c.in_ok-text.text)) c.in_ok-conf.conf (checked c.in_ok-tree.tree) c.in_ok-conf.ensures.told (grind (arith, common_steps)))

pub returns-in_err-tree-clause-unread : goal.returns-in_err-tree-clause-unread
returns-in_err-tree-clause-unread g c = λ held file told err.
    let result : c.from_residual.result ≡ Err c.in_err-tree.field-0.0 = grind (arith, common_steps) in
    ap (λ (r : Result Tree LoadRefused). r >>= checked_with_text) (c.in_err-tree.ensures.unread held file told (other_err c.in_err-tree.field-0.0 (Read file) (rw result at err)))

pub returns-in_err-conf-clause-unread : goal.returns-in_err-conf-clause-unread
returns-in_err-conf-clause-unread g c = λ held file told err.
    let result : c.from_residual-in_err-conf.result ≡ Err c.in_err-conf.field-0.0 = grind (arith, common_steps) in
    absurd (never_unread {Y = Configuration} (Err c.in_err-conf.field-0.0) file c.in_err-conf.ensures.within (other_err c.in_err-conf.field-0.0 (Read file) (rw result at err)))
