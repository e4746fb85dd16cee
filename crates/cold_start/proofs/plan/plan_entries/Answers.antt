use Rattle.packet_way.specs.Present.{state_of}
use Rattle.cold_start.proofs.Gathered.{gathered}
use Rattle.cold_start.proofs.plan.plan_entries.Goals as goal

pub returns-clause-entries : goal.returns-clause-entries
returns-clause-entries g c =
    let ports = c.in_ok-push_ports.ensures.entries in
    let vlans = rw (c.as_slice-vlans.ensures, c.vlans.ensures.lists, c.in_ok-paths.ensures, c.as_slice.ensures) at c.in_ok-push_vlans.ensures.entries in
    let hosts = rw (c.as_slice-hosts.ensures, c.in_ok-hosts.ensures, c.in_ok-paths.ensures, c.as_slice.ensures) at c.in_ok-push_hosts.ensures.entries in
    let routes = rw (c.as_slice-vlans.ensures, c.vlans.ensures.lists) at c.in_ok-push_routes.ensures.entries in
    gathered c.args.conf.now (state_of c.args.now.now) c.args.dp.now _ _ _ _ _ c.in_ok-all.ensures ports vlans hosts routes
