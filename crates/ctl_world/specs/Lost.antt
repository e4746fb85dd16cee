-- The ports of the hosts that don't stand where they may, as the code finds them.
use Rattle.std.specs.Prelude.{Bool, ◌||◌, if◌then◌else◌, List, [], ◌∷◌, ◌++◌}
use Rattle.std.specs.List.{fold, list_any}
use Rattle.net_base.specs.declared.numbers.DpId.{DpId}
use Rattle.conf_types.specs.declared.state.HostRec.{HostRec}
use Rattle.conf_types.specs.declared.state.UpRec.{UpRec}
use Rattle.conf_types.specs.State.{is_host_at}
use Rattle.ctl_world.specs.Ends.{stands}

-- the host stands at one of these ports
abbrev pub is_at_any : List UpRec → HostRec → Bool
is_at_any ports host = list_any (λ u. is_host_at u.dp u.port host) ports

-- with the port of a host that doesn't stand, once
abbrev pub with_lost : List DpId → List UpRec → List UpRec → HostRec → List UpRec
with_lost running ups lost host =
    if (stands running ups host || is_at_any lost host) then lost else lost ++ (record { dp = host.dp; port = host.port }) ∷ []

abbrev pub lost_ports : List DpId → List UpRec → List HostRec → List UpRec
lost_ports running ups hosts = fold (with_lost running ups) [] hosts
