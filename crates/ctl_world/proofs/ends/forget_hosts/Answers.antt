use Rattle.std.proofs.Common.{List, filter, not, ap, ◌∙◌}
use Rattle.conf_types.specs.declared.state.HostRec.{HostRec}
use Rattle.conf_types.specs.declared.state.UpRec.{UpRec}
use Rattle.ctl_world.specs.Lost.{is_at_any}
use Rattle.ctl_world.proofs.Lost.{off_lost}
use Rattle.ctl_world.proofs.ends.forget_hosts.Goals as goal

pub returns : goal.returns
returns c =
    let table = c.args.hosts.now in
    let running = c.args.running.now in
    let ups = c.args.ups.now in
    let lost = c.as_slice.ensures ∙ c.in_ok-lost.ensures in
    c.forget_ports.ensures
    ∙ ap (λ (ports : List UpRec). record table { hosts = filter (λ h. not (is_at_any ports h)) table.hosts }) lost
    ∙ ap (λ (hosts : List HostRec). record table { hosts = hosts }) (off_lost running ups table.hosts)
