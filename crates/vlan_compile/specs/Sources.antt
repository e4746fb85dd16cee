-- Table 3, by host: where a packet comes from.
use Rattle.std.specs.Prelude.{ℕ, ◌==◌, Some, None, List, [], ◌∷◌, ◌++◌, if◌then◌else◌}
use Rattle.of_match.specs.declared.action.Action.{Action}
use Rattle.of_match.specs.declared.entry.Entry.{Entry}
use Rattle.conf_types.specs.declared.datapath.Dp.{Dp}
use Rattle.conf_types.specs.declared.state.HostRec.{HostRec}
use Rattle.conf_types.specs.Configuration.{Configuration}
use Rattle.conf_types.specs.State.{is_stale, is_permanent}
use Rattle.plan_base.specs.declared.table.Table.TheVariants.{Source, Ipv4Route}
use Rattle.plan_base.specs.Fields.{in_port, eth_src, vid_field}
use Rattle.plan_base.specs.Actions.{to_controller}
use Rattle.plan_base.specs.Entries.{leads_to, entry}

-- the controller hears of a stale host again
abbrev pub heard_copies : Configuration → ℕ → HostRec → List Action
heard_copies conf moment h = if is_stale conf moment h then to_controller ∷ [] else []

-- priority 30: a host at its own port
abbrev pub at_its_port : Configuration → ℕ → HostRec → Entry
at_its_port conf moment h =
    entry Source 30 (in_port h.port ∷ eth_src h.mac ∷ vid_field h.vid ∷ []) (leads_to (heard_copies conf moment h) (Some Ipv4Route))

-- priority 20: the address of a host that stays ends at every other port
abbrev pub elsewhere : HostRec → Entry
elsewhere h = entry Source 20 (eth_src h.mac ∷ vid_field h.vid ∷ []) (leads_to [] None)

-- the host has the first on its own datapath; the second, if it stays, on each datapath of its group
abbrev pub sources : Configuration → Dp → HostRec → ℕ → List Entry
sources conf d h moment =
    (if h.dp.0 == d.id.0 then at_its_port conf moment h ∷ [] else []) ++ (if is_permanent conf h then elsewhere h ∷ [] else [])
