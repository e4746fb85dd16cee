-- The cold start of a datapath, and its units.
use Rattle.std.specs.Prelude.{List, [], ◌∷◌, ◌++◌, map}
use Rattle.std.specs.Option.{option_map_or}
use Rattle.net_base.specs.declared.numbers.DpId.{DpId}
use Rattle.of_match.specs.declared.entry.Command.TheVariants.{Add}
use Rattle.of_match.specs.declared.entry.Entry.{Entry}
use Rattle.of_match.specs.Settled.{after_all}
use Rattle.conf_types.specs.declared.datapath.Dp.{Dp}
use Rattle.conf_types.specs.Configuration.{Configuration, dp_with}
use Rattle.conf_types.specs.State.{State}
use Rattle.plan_units.specs.declared.unit.Unit.{Unit}
use Rattle.plan_units.specs.declared.unit.Unit.TheVariants as unit
use Rattle.plan_units.specs.Units.{entries, hosts_of, plan}

-- what a switch without entries holds once each entry of the plan is added
unfoldable pub cold : Configuration → State → Dp → List Entry
cold conf now d = after_all [] (map Add (plan conf now d))

-- what stands once, each interface, each VLAN, each host of the datapath's group, and the routes of each VLAN
unfoldable pub units_of : Configuration → State → Dp → List Unit
units_of conf now d =
    unit.Dp ∷ (map (λ i. unit.Port i.no) d.ports
    ++ (map (λ v. unit.Vlan v.vid) conf.vlans
    ++ (map (λ h. unit.Host h.vid h.mac) (hosts_of conf now d)
    ++ map (λ v. unit.Route v.vid) conf.vlans)))

-- ---- of the datapath with an identifier; where there is none, nothing

abbrev pub entries_at : Configuration → State → DpId → Unit → List Entry
entries_at conf now id u = option_map_or (λ d. entries conf now d u) (dp_with conf.dps id) []

abbrev pub cold_at : Configuration → State → DpId → List Entry
cold_at conf now id = option_map_or (cold conf now) (dp_with conf.dps id) []

abbrev pub units_at : Configuration → State → DpId → List Unit
units_at conf now id = option_map_or (units_of conf now) (dp_with conf.dps id) []
