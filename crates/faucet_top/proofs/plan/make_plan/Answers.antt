use Rattle.conf_load.specs.Loaded.{loaded}
use Rattle.std.proofs.Common.{◌≡◌, Err, arith}
use Rattle.std.proofs.lemmas.Grind.{common_steps}
use Rattle.conf_gather.specs.declared.refused.LoadRefused.TheVariants.{Memory}
use Rattle.faucet_top.proofs.CheckLemmas.{memory_loads}
use Rattle.faucet_top.proofs.plan.make_plan.Goals as goal

pub returns-in_err-opening_batch-clause-made : goal.returns-in_err-opening_batch-clause-made
returns-in_err-opening_batch-clause-made g c =
    let is : c.from_residual-in_err-opening_batch.result ≡ Err Memory = grind (arith, common_steps) in
    (Err Memory, memory_loads loaded _ _ _ _ c.args.config.now, is)
