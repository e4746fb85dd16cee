-- Which datapaths hold what they are to hold: they run, and no barrier is outstanding for them.
use Rattle.std.specs.Prelude.{◌&&◌, ◌||◌, Bool, false, not, List, Option, Some, is_some}
use Rattle.std.specs.List.{find}
use Rattle.std.specs.Option.{option_map_or}
use Rattle.net_base.specs.declared.numbers.DpId.{DpId}
use Rattle.stack_paths.specs.Chosen.{hop_of, is_same_dp}
use Rattle.stack_paths.specs.Stack.{Stack}
use Rattle.conf_types.specs.declared.datapath.Dp.{Dp}
use Rattle.conf_types.specs.State.{is_running}
use Rattle.packet_way.specs.Known.{stack_of}
use Rattle.ctl_world.specs.World.{World, running, ups}
use Rattle.ctl_core.specs.Waits.{waits}

-- it is one of these, which run, and no barrier is outstanding for it
abbrev pub is_ready_in : Option World → (running : List DpId) → DpId → Bool
is_ready_in known running id = is_running running id && not (option_map_or (λ w. waits w id) known false)

abbrev pub is_ready : World → DpId → Bool
is_ready w id = is_ready_in (Some w) (running w) id

-- they are one, or a next hop leads from one to the other
abbrev pub is_joined : Stack → (from to : DpId) → Bool
is_joined stack from to = is_same_dp from to || is_some (hop_of stack from to)

-- the first datapath by name that links which are up join to this one, or that is it, and that isn't ready
abbrev pub unready : World → DpId → Option Dp
unready w from = find (λ d. is_joined (stack_of w.conf (ups w)) from d.id && not (is_ready w d.id)) w.conf.dps
