use Rattle.std.proofs.Common.{◌≤◌, List, length, sym, subst, arith}
use Rattle.conf_types.specs.declared.state.HostRec.{HostRec}
use Rattle.conf_types.specs.State.{is_to_forget}
use Rattle.host_learn.proofs.Sizes.{one_fewer}
use Rattle.host_learn.proofs.table.HostTable.age.Goals as goal

pub invariant_of-self : goal.invariant_of-self
invariant_of-self c =
    let t = c.self.inside in
    let test = is_to_forget c.args.conf.now c.args.now.0 in
    let within : length t.hosts ≤ t.limit = c.self.invariant in
    subst (λ (hs : List HostRec). length hs ≤ t.limit) (sym c.age.ensures.list) (omega (arith, one_fewer test t.hosts, within))
