-- The reach of changes as a test, for what is counted or compiled by it.
use Rattle.std.specs.Prelude.{ℕ, ◌==◌, ◌&&◌, ◌||◌, not, Bool, false, List, if◌then◌else◌}
use Rattle.std.specs.List.{list_any}
use Rattle.std.specs.Option.{option_map_or}
use Rattle.net_base.specs.declared.address.Mac.{Mac}
use Rattle.net_base.specs.declared.numbers.DpId.{DpId}
use Rattle.conf_types.specs.declared.datapath.Dp.{Dp}
use Rattle.conf_types.specs.Changes.{host_by}
use Rattle.conf_types.specs.Configuration.{Configuration, port_at}
use Rattle.conf_types.specs.Groups.{group_of}
use Rattle.conf_types.specs.Lists.{is_among, is_same}
use Rattle.conf_types.specs.Membership.{is_stack}
use Rattle.conf_types.specs.Routing.{routing_set}
use Rattle.conf_types.specs.State.{State, is_host_at, is_table_full}
use Rattle.plan_units.specs.declared.unit.Unit.{Unit as PlanUnit}
use Rattle.plan_units.specs.declared.unit.Unit.TheVariants as unit
use Rattle.conf_types.specs.declared.change.Change.{Change}
use Rattle.conf_types.specs.declared.change.Change.TheVariants as change
use Rattle.law_units.specs.Reach.{has_vlan, is_full_in}

-- two answers differ
abbrev pub is_other : Bool → Bool → Bool
is_other a b = if a then not b else b

module _ (conf : Configuration) (old new : State) (d : Dp) where
  abbrev pub is_ours : DpId → Bool
  is_ours group = group.0 == (group_of conf d.id).0

  abbrev pub stands_at : State → DpId → ℕ → Mac → ℕ → Bool
  stands_at now group vid mac number = option_map_or (is_host_at d.id number) (host_by conf now.hosts group vid mac) false

  abbrev pub touches_port : DpId → ℕ → Mac → ℕ → Bool
  touches_port group vid mac number =
      (stands_at old group vid mac number || stands_at new group vid mac number)
      || ((is_ours group && (has_vlan conf old new d number vid && is_other (is_full_in conf old new d old group vid) (is_full_in conf old new d new group vid)))
      || is_other (is_table_full old.hosts) (is_table_full new.hosts))

  abbrev pub is_stack_end : DpId → ℕ → Bool
  is_stack_end dp port = is_ours (group_of conf dp) && option_map_or is_stack (port_at conf dp port) false

  -- the rows of `Reaches`
  abbrev pub reaches : Change → PlanUnit → Bool
  reaches (change.Host group vid mac) (unit.Host w address) = is_ours group && (vid == w && is_same mac.0 address.0)
  reaches (change.Host group vid mac) (unit.Port number) = touches_port group vid mac number
  reaches (change.Port dp port) (unit.Vlan w) = is_stack_end dp port
  reaches (change.Port dp port) (unit.Host w address) = is_stack_end dp port
  reaches (change.Dp dp) (unit.Vlan w) = is_ours (group_of conf dp)
  reaches (change.Dp dp) (unit.Host w address) = is_ours (group_of conf dp)
  reaches (change.Neighbour group vid ip) (unit.Route w) = is_ours group && is_among (routing_set conf w) vid
  reaches c u = false

  abbrev pub is_reached : List Change → PlanUnit → Bool
  is_reached changes u = list_any (λ c. reaches c u) changes
