-- Actions (OpenFlow 1.3, 7.2.5).
use Rattle.std.specs.Prelude.{ℕ}
use Rattle.net_base.specs.declared.address.Mac.{Mac}
use Rattle.of_match.specs.declared.action.TheConstants.{CONTROLLER, IN_PORT}
use Rattle.of_match.specs.declared.action.Action.{Action}
use Rattle.of_match.specs.declared.action.Action.TheVariants.{Output, PushVlan, PopVlan, DecTtl, Set}
use Rattle.of_match.specs.declared.ether_type.TheConstants.{VLAN_TAG}
use Rattle.plan_base.specs.declared.actions.TheConstants.{WHOLE_PACKET}
use Rattle.plan_base.specs.Fields.{eth_dst, eth_src, vid_field}

-- by a port
abbrev pub out : ℕ → Action
out port = Output port 0

-- one whole copy to the controller (OFPP_CONTROLLER and OFPCML_NO_BUFFER)
abbrev pub to_controller : Action
to_controller = Output CONTROLLER WHOLE_PACKET

-- back by the port that the packet came in by (OFPP_IN_PORT)
abbrev pub to_ingress : Action
to_ingress = Output IN_PORT 0

abbrev pub push_tag : Action
push_tag = PushVlan VLAN_TAG

abbrev pub pop_tag : Action
pop_tag = PopVlan

abbrev pub set_vid : ℕ → Action
set_vid vid = Set (vid_field vid)

abbrev pub set_eth_src : Mac → Action
set_eth_src mac = Set (eth_src mac)

abbrev pub set_eth_dst : Mac → Action
set_eth_dst mac = Set (eth_dst mac)

abbrev pub dec_ttl : Action
dec_ttl = DecTtl
