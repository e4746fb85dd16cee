use Rattle.std.proofs.Common.{◌≤◌, List, length, sym, ap, ◌∙◌, subst}
use Rattle.conf_types.specs.declared.state.HostRec.{HostRec}
use Rattle.host_learn.specs.Learning.{hosts_after}
use Rattle.host_learn.proofs.Sizes.{learned_within}
use Rattle.host_learn.proofs.table.HostTable.learn.Goals as goal

pub invariant_of-self-2 : goal.invariant_of-self-2
invariant_of-self-2 c =
    let conf = c.args.conf.now in
    let limit = c.self.inside.limit in
    let hosts = c.self.inside.hosts in
    let heard : HostRec = record { dp = c.args.dp; port = c.args.port; vid = c.args.vid; mac = c.args.mac; learned = c.args.now } in
    let after = c.in_ok-take_in.ensures.ok ∙ ap (hosts_after conf heard hosts) c.outcome-told.ensures in
    subst (λ (hs : List HostRec). length hs ≤ limit) (sym after) (learned_within conf limit heard hosts c.self.invariant)
