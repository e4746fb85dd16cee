use Rattle.std.proofs.Common.{◌≡◌, subst, sym, arith}
use Rattle.std.proofs.lemmas.Grind.{common_steps}
use Rattle.of_match.specs.Pipeline.{Pipes, first_run}
use Rattle.of_match.proofs.Allowed.{allowed}
use Rattle.of_match.proofs.pipeline.run.Goals as goal

-- the run by chosen entries is allowed
pub returns-clause-allowed : goal.returns-clause-allowed
returns-clause-allowed c =
    let by_chosen : c.run_into.new.outs ≡ first_run c.args.tables.now c.args.port c.args.packet.now = grind (arith, common_steps) in
    subst (Pipes c.args.tables.now c.args.port c.args.packet.now) (sym by_chosen) (allowed c.args.tables.now c.args.port c.args.packet.now)
