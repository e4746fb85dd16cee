use Rattle.std.proofs.Common.{◌==◌, ◌≤◌, List, not, length, sym, subst, arith}
use Rattle.conf_types.specs.declared.state.HostRec.{HostRec}
use Rattle.host_learn.proofs.Sizes.{fewer}
use Rattle.host_learn.proofs.table.HostTable.forget_dp.Goals as goal

pub invariant_of-self : goal.invariant_of-self
invariant_of-self c =
    let t = c.self.inside in
    let test = (λ (host : HostRec). host.dp.0 == c.args.dp.0) in
    let within : length t.hosts ≤ t.limit = c.self.invariant in
    subst (λ (hs : List HostRec). length hs ≤ t.limit) (sym c.forget_dp.ensures) (omega (arith, fewer (λ (host : HostRec). not (test host)) t.hosts, within))
