-- Gateways that are wanted leave a world sound: each is a neighbour of its VLAN.
use Rattle.std.proofs.Common.{◌≡◌, ◌==◌, Bool, true, false, Some, List, [], ◌∷◌, IsTrue, refl, ap, ◌∙◌, arith, if◌then◌else◌}
use Rattle.std.specs.List.{AllByRecursion, list_any}
use Rattle.std.specs.Option.{option_map_or}
use Rattle.net_base.specs.declared.numbers.DpId.{DpId}
use Rattle.conf_types.specs.declared.state.NeighRec.{NeighRec}
use Rattle.conf_types.specs.declared.vlan.Route.{Route}
use Rattle.conf_types.specs.declared.vlan.Vlan.{Vlan}
use Rattle.conf_types.specs.Configuration.{vlan_with}
use Rattle.conf_types.specs.Groups.{group_of}
use Rattle.conf_types.specs.Networks.{is_neighbour_address}
use Rattle.conf_types.specs.State.{IsNeighbour}
use Rattle.conf_types.specs.Valid.{RoutesAreValid}
use Rattle.host_learn.proofs.KeptValid.{vlans_found}
use Rattle.neighbour_resolve.specs.Table.{Table, after_told, stays, unresolved}
use Rattle.neighbour_resolve.proofs.Valid.{told_valid}
use Rattle.ctl_world.specs.World.{IsSound, World, now, running}
use Rattle.ctl_core.specs.Hearing.{want_gateways, want_in, want_routes}
use Rattle.ctl_core.proofs.SoundSteps.{Holds}

told_sound : (stays : NeighRec → Bool) (told : NeighRec) (w : World) → IsNeighbour w.conf (now w) told → IsSound w → IsSound (record w { neighbours = after_told stays told w.neighbours })
told_sound stays told w is sound = record {
  valid = told_valid w.conf (now w) stays told w.neighbours.limit (omega (arith, sound.neighbours)) (omega (arith, sound.neighbours, sound.valid.neighbour_table)) is sound.valid;
  hosts = sound.hosts;
  neighbours = sound.neighbours;
}

-- some datapath of the group runs
abbrev has_any : DpId → World → Bool
has_any group w = list_any (λ dp. (group_of w.conf dp).0 == group.0) (running w)

module _ (group : DpId) (w : World) (runs : has_any group w ≡ true) where
  abbrev holding : Table → World
  holding table = record w { neighbours = table }

  routes_sound : (v : Vlan) → vlan_with w.conf.vlans v.vid ≡ Some v → (routes : List Route) → AllByRecursion (λ (r : Route). IsTrue (is_neighbour_address v.vips r.gw)) routes
      → (table : Table) → IsSound (holding table) → IsSound (holding (want_routes group v.vid routes w.moment table))
  routes_sound v found [] reached table sound = sound
  routes_sound v found (r ∷ rs) reached table sound =
      let told : NeighRec = unresolved group v.vid r.gw w.moment in
      routes_sound v found rs reached.1 (after_told (stays true) told table)
      (told_sound (stays true) told (holding table)
      (record { address = ap (λ o. is_neighbour_address (option_map_or (λ (x : Vlan). x.vips) o []) r.gw) found ∙ reached.0; runs = runs }) sound)

  gateways_sound : (vlans : List Vlan) → AllByRecursion (λ (v : Vlan). vlan_with w.conf.vlans v.vid ≡ Some v) vlans → AllByRecursion (RoutesAreValid w.conf) vlans
      → (table : Table) → IsSound (holding table) → IsSound (holding (want_gateways group vlans w.moment table))
  gateways_sound [] found valid table sound = sound
  gateways_sound (v ∷ vs) found valid table sound =
      gateways_sound vs found.1 valid.1 (want_routes group v.vid v.routes w.moment table) (routes_sound v found.0 v.routes valid.0.reached table sound)

pub want_holds : (group : DpId) (w : World) → Holds w → Holds (want_in group w)
want_holds group w holds = by_test (has_any group w) refl where
  by_test : (b : Bool) → has_any group w ≡ b → Holds (if b then record w { neighbours = want_gateways group w.conf.vlans w.moment w.neighbours } else w)
  by_test true runs = (holds.0, gateways_sound group w runs w.conf.vlans (vlans_found w.conf holds.0) holds.0.routing.each w.neighbours holds.1)
  by_test false idle = holds
