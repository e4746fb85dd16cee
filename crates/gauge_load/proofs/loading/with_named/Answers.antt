use Rattle.std.proofs.Common.{◌≡◌, Result, Err, ap, arith}
use Rattle.std.proofs.lemmas.Grind.{common_steps}
use Rattle.conf_types.specs.Configuration.{Configuration}
use Rattle.conf_gather.specs.declared.refused.LoadRefused.{LoadRefused}
use Rattle.conf_gather.specs.declared.refused.LoadRefused.TheVariants.{Read}
use Rattle.conf_gather.specs.Gives.{◌>>=◌}
use Rattle.conf_gather.specs.Gathered.{held_by}
use Rattle.conf_gather.specs.WholeName.{whole_name}
use Rattle.conf_gather.proofs.FilesLemmas.{never_unread}
use Rattle.conf_gather.proofs.GatherLemmas.{fails_first, other_err}
use Rattle.conf_load.specs.Loaded.{loaded_by}
use Rattle.gauge_load.specs.Loaded.{with_conf}
use Rattle.conf_load.proofs.LoadLemmas.{gathered_first}
use Rattle.gauge_load.proofs.loading.with_named.Goals as goal

pub returns-in_err-conf-clause-told : goal.returns-in_err-conf-clause-told
returns-in_err-conf-clause-told g c = λ held told.
    let result : c.from_residual-in_err-conf.result ≡ Err c.in_err-conf.field-0.0 = grind (arith, common_steps) in
    let name : c.as_str-2.result.now ≡ whole_name c.args.name.now c.args.raw.now.faucet_config = grind (arith, common_steps) in
    rw result (fails_first c.in_err-conf.field-0.0 (loaded_by (held_by (held 0)) (whole_name c.args.name.now c.args.raw.now.faucet_config)) (with_conf c.args.raw.now) (rw name at (c.in_err-conf.ensures.told held told)))

pub returns-clause-told : goal.returns-clause-told
returns-clause-told g c = λ held told.
    let name : c.as_str-2.result.now ≡ whole_name c.args.name.now c.args.raw.now.faucet_config = grind (arith, common_steps) in
    gathered_first (with_conf c.args.raw.now) c.resolved.result c.in_ok-conf.conf (loaded_by (held_by (held 0)) (whole_name c.args.name.now c.args.raw.now.faucet_config)) (rw name at (c.in_ok-conf.ensures.told held told)) c.resolved.ensures.told

pub returns-in_err-conf-clause-unread : goal.returns-in_err-conf-clause-unread
returns-in_err-conf-clause-unread g c = λ held file told err.
    let result : c.from_residual-in_err-conf.result ≡ Err c.in_err-conf.field-0.0 = grind (arith, common_steps) in
    let name : c.as_str-2.result.now ≡ whole_name c.args.name.now c.args.raw.now.faucet_config = grind (arith, common_steps) in
    ap (λ (r : Result Configuration LoadRefused). r >>= with_conf c.args.raw.now) (rw name at (c.in_err-conf.ensures.unread held file told (other_err c.in_err-conf.field-0.0 (Read file) (rw result at err))))

pub returns-clause-unread : goal.returns-clause-unread
returns-clause-unread g c = λ held file told err. absurd (never_unread c.resolved.result file c.resolved.ensures.within err)
