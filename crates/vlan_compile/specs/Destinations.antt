-- Table 7, by host: a destination that is known.
use Rattle.std.specs.Prelude.{ℕ, ◌==◌, None, List, [], ◌∷◌, option_to_list, if◌then◌else◌}
use Rattle.std.specs.Option.{option_map, option_map_or}
use Rattle.of_match.specs.declared.action.Action.{Action}
use Rattle.of_match.specs.declared.entry.Entry.{Entry}
use Rattle.stack_paths.specs.Chosen.{hop_of}
use Rattle.stack_paths.specs.Stack.{Stack}
use Rattle.conf_types.specs.declared.datapath.Dp.{Dp}
use Rattle.conf_types.specs.declared.datapath.Port.{Port}
use Rattle.conf_types.specs.declared.state.HostRec.{HostRec}
use Rattle.conf_types.specs.Configuration.{port_with}
use Rattle.plan_base.specs.declared.table.Table.TheVariants.{Destination}
use Rattle.plan_base.specs.Fields.{in_port, eth_dst, vid_field}
use Rattle.plan_base.specs.Actions.{out, to_ingress}
use Rattle.plan_base.specs.Entries.{leads_to, entry}
use Rattle.plan_base.specs.Sending.{sent}

-- back by the port that the packet came in by only with `hairpin`
abbrev pub sent_back : Dp → Port → HostRec → List Action
sent_back d q h = if q.hairpin then sent d h.vid q to_ingress else []

-- priority 20: from the host's own port q
abbrev pub from_its_port : Dp → HostRec → Port → Entry
from_its_port d h q =
    entry Destination 20 (in_port q.no ∷ eth_dst h.mac ∷ vid_field h.vid ∷ []) (leads_to (sent_back d q h) None)

-- priority 10: from any other
abbrev pub to_its_port : Dp → HostRec → Port → Entry
to_its_port d h q =
    entry Destination 10 (eth_dst h.mac ∷ vid_field h.vid ∷ []) (leads_to (sent d h.vid q (out q.no)) None)

-- priority 10: over the stack, with its tag
abbrev pub over_stack : HostRec → ℕ → Entry
over_stack h hop = entry Destination 10 (eth_dst h.mac ∷ vid_field h.vid ∷ []) (leads_to (out hop ∷ []) None)

abbrev pub at_port : Dp → HostRec → Port → List Entry
at_port d h q = from_its_port d h q ∷ to_its_port d h q ∷ []

-- a host on this datapath by its port, one elsewhere by the next hop, if some way leads there
abbrev pub destinations : Dp → HostRec → Stack → List Entry
destinations d h stack =
    if h.dp.0 == d.id.0 then option_map_or (at_port d h) (port_with d.ports h.port) []
    else option_to_list (option_map (over_stack h) (hop_of stack d.id h.dp))
