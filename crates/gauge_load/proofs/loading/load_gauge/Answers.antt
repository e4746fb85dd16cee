use Rattle.std.proofs.Common.{◌≡◌, ◌∙◌, Err, arith}
use Rattle.std.proofs.lemmas.Grind.{common_steps}
use Rattle.conf_gather.specs.declared.refused.LoadRefused.TheVariants.{Read}
use Rattle.conf_gather.specs.Gathered.{held_by}
use Rattle.conf_gather.proofs.GatherLemmas.{fails_first, other_err}
use Rattle.gauge_load.specs.Loaded.{raw_by, named_by}
use Rattle.conf_load.proofs.LoadLemmas.{gathered_first}
use Rattle.gauge_load.proofs.Steps.{gauge_unread, gauge_below}
use Rattle.gauge_load.proofs.loading.load_gauge.Goals as goal

pub returns-in_err-raw-clause-told : goal.returns-in_err-raw-clause-told
returns-in_err-raw-clause-told g c = λ held told.
    let result : c.from_residual.result ≡ Err c.in_err-raw.field-0.0 = grind (arith, common_steps) in
    rw result (fails_first c.in_err-raw.field-0.0 (raw_by (held_by (held 0)) c.args.name.now) (named_by (held_by (held 0)) c.args.name.now) (c.in_err-raw.ensures.told held told))

pub returns-clause-told : goal.returns-clause-told
returns-clause-told g c = λ held told.
    gathered_first (named_by (held_by (held 0)) c.args.name.now) c.with_named.result c.in_ok-raw.raw (raw_by (held_by (held 0)) c.args.name.now) (c.in_ok-raw.ensures.told held told)
    (c.with_named.ensures.told held (c.read_raw.ensures.files.same_contents ∙ told))

pub returns-in_err-raw-clause-unread : goal.returns-in_err-raw-clause-unread
returns-in_err-raw-clause-unread g c = λ held file told err.
    let result : c.from_residual.result ≡ Err c.in_err-raw.field-0.0 = grind (arith, common_steps) in
    gauge_unread file (held 0) c.args.name.now (c.in_err-raw.ensures.named file (other_err c.in_err-raw.field-0.0 (Read file) (rw result at err)))

pub returns-clause-unread : goal.returns-clause-unread
returns-clause-unread g c = λ held file told err.
    gauge_below file (held 0) c.args.name.now c.in_ok-raw.raw (c.in_ok-raw.ensures.told held told) (c.with_named.ensures.unread held file (c.read_raw.ensures.files.same_contents ∙ told) err)
