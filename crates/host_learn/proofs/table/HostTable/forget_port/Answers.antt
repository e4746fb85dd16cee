use Rattle.std.proofs.Common.{◌≤◌, List, not, length, sym, subst, arith}
use Rattle.conf_types.specs.declared.state.HostRec.{HostRec}
use Rattle.conf_types.specs.State.{is_host_at}
use Rattle.host_learn.proofs.Sizes.{fewer}
use Rattle.host_learn.proofs.table.HostTable.forget_port.Goals as goal

pub invariant_of-self : goal.invariant_of-self
invariant_of-self c =
    let t = c.self.inside in
    let test = is_host_at c.args.dp c.args.port in
    let within : length t.hosts ≤ t.limit = c.self.invariant in
    subst (λ (hs : List HostRec). length hs ≤ t.limit) (sym c.forget_port.ensures) (omega (arith, fewer (λ (host : HostRec). not (test host)) t.hosts, within))
