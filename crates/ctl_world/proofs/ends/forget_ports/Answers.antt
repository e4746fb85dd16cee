use Rattle.std.proofs.Common.{List, ◌∷◌, ◌+◌, drop, filter, not, sym, ap, ◌∙◌, arith}
use Rattle.std.proofs.lemmas.List.{at_drop_all, at_drop_more}
use Rattle.conf_types.specs.declared.state.HostRec.{HostRec}
use Rattle.conf_types.specs.declared.state.UpRec.{UpRec}
use Rattle.host_learn.specs.Table.{Table}
use Rattle.ctl_world.specs.Lost.{is_at_any}
use Rattle.ctl_world.proofs.Lost.{off_more, off_none}
use Rattle.ctl_world.proofs.ends.forget_ports.Goals as goal

-- the table without the hosts at these ports
abbrev left : List UpRec → Table → Table
left ports table = record table { hosts = filter (λ h. not (is_at_any ports h)) table.hosts }

pub loop-port-preserved : goal.loop-port-preserved
loop-port-preserved c =
    let table = c.loop-port.hosts in
    let i = c.loop-port.port-index in
    let ports = c.args.ports.now in
    let port = c.port-item.result in
    let more = drop (i + 1) ports in
    ap (left more) c.forget_port.ensures
    ∙ ap (λ (hosts : List HostRec). record table { hosts = hosts }) (off_more port more table.hosts)
    ∙ ap (λ u. left (u ∷ more) table) c.port-item.is
    ∙ sym (at_drop_more (λ us. left us table) ports i port c.loop-port-test.true) ∙ c.loop-port.invariant

pub returns : goal.returns
returns c =
    let table = c.loop-port.hosts in
    ap (λ (hosts : List HostRec). record table { hosts = hosts }) (sym (off_none table.hosts))
    ∙ sym (at_drop_all (λ us. left us table) c.args.ports.now c.loop-port.port-index (omega (arith, c.loop-port-test.false))) ∙ c.loop-port.invariant
