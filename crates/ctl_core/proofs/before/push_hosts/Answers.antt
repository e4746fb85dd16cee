use Rattle.std.proofs.Common.{not, [], ◌∷◌, drop, ◌++◌, sym, ap, ◌∙◌, ◌+◌, arith}
use Rattle.std.specs.Option.{option_map}
use Rattle.conf_types.specs.declared.state.HostRec.{HostRec}
use Rattle.law_names.specs.Differing.{host}
use Rattle.ctl_settle.specs.Touched.{MayDiffer}
use Rattle.ctl_core.specs.Behind.{hosts_left, is_still}
use Rattle.ctl_core.proofs.Pushed.{passed, pushed}
use Rattle.ctl_core.proofs.before.push_hosts.Goals.{then-not-is_still+in_ok-push, else-not-is_still}
use Rattle.ctl_core.proofs.before.push_hosts.Goals as goal

pub loop-host-preserved : goal.loop-host-preserved
loop-host-preserved c =
    let conf = c.args.conf.now in
    let test = λ (h : HostRec). not (is_still conf c.args.before.0 c.args.moment.0 c.args.hosts.now.hosts h) in
    let left = hosts_left conf c.args.before.0 c.args.moment.0 (drop (c.loop-host.host-index + 1) c.args.from.now) c.args.hosts.now.hosts in
    let more = λ (touched : MayDiffer). option_map (λ named. named ++ left) touched in
    let x = c.host-item.result in
    elim c.if-not-is_still.branch [
      | then-not-is_still+in_ok-push w ↦
          ap more (w.touched-is ∙ w.in_ok-push.ensures ∙ ap (λ change. option_map (λ named. named ++ change ∷ []) c.loop-host.touched) w.change_of.ensures)
          ∙ pushed (host conf) test c.args.from.now c.loop-host.host-index x (omega arith) c.host-item.is c.loop-host.touched (ap not (sym c.is_still.ensures) ∙ ap not (w.if-not-is_still.true)) ∙ c.loop-host.invariant
      | else-not-is_still w ↦
          ap more w.touched-is ∙ passed (host conf) test c.args.from.now c.loop-host.host-index x (omega arith) c.host-item.is c.loop-host.touched (ap not (sym c.is_still.ensures ∙ w.if-not-is_still.false)) ∙ c.loop-host.invariant
    ]
