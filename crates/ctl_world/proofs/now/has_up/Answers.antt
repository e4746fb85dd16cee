use Rattle.std.proofs.Common.{◌≡◌, ◌==◌, ◌&&◌, Bool, true, List, sym, ap, ◌∙◌}
use Rattle.std.specs.List.{list_any}
use Rattle.conf_types.specs.declared.datapath.Port.{Port}
use Rattle.switch_session.specs.declared.ports.PortTold.{PortTold}
use Rattle.ctl_world.specs.World.{has_ports, is_up_by}
use Rattle.ctl_world.proofs.Present.{up_by}
use Rattle.ctl_world.proofs.now.has_up.Goals as goal

-- src/now.rt:133:1
pub returns-then-has_ports : goal.returns-then-has_ports
returns-then-has_ports c =
    let any : List PortTold → List Port → Bool = λ told ports. list_any (λ p. p.no == c.args.no && is_up_by told p) ports in
    let stage : has_ports c.args.conn.now.session.state.stage ≡ true = cc (c.has_ports.ensures, c.stage.ensures, c.if-has_ports.true) in
    c.is_one_up.ensures ∙ ap (λ told. any told c.as_slice.result.now) c.ports.ensures ∙ ap (any c.args.conn.now.session.state.ports) c.as_slice.ensures
    ∙ sym (up_by c.args.dp.now c.args.no c.args.conn.now ∙ ap (λ b. b && any c.args.conn.now.session.state.ports c.args.dp.now.ports) stage)
