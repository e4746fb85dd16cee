-- What sends a packet by ports and by those that mirror them.
use Rattle.std.specs.Prelude.{ℕ, List, [], ◌∷◌, ◌++◌, map, if◌then◌else◌}
use Rattle.of_match.specs.declared.action.Action.{Action}
use Rattle.conf_types.specs.declared.datapath.Dp.{Dp}
use Rattle.conf_types.specs.declared.datapath.Port.{Port}
use Rattle.conf_types.specs.Membership.{is_native_in, mirrors_of}
use Rattle.plan_base.specs.Actions.{out, pop_tag}

-- by each of these interfaces
abbrev pub outs : List Port → List Action
outs ports = map (λ q. out q.no) ports

-- copies by the enabled interfaces that mirror a port
abbrev pub mirrored : Dp → ℕ → List Action
mirrored d number = outs (mirrors_of d number)

-- an action that sends by a port, and copies by those that mirror the port
abbrev pub copied : Dp → ℕ → Action → List Action
copied d number by = by ∷ mirrored d number

-- a packet of a VLAN by an edge port: without its tag where the VLAN is native there
abbrev pub sent : Dp → ℕ → Port → Action → List Action
sent d vid q by = (if is_native_in q vid then pop_tag ∷ [] else []) ++ copied d q.no by
