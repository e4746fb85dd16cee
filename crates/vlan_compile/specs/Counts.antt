-- What a port's entries need of the hosts, so that it is found once.
use Rattle.std.specs.Prelude.{◌≡◌, ◌==◌, ◌&&◌, ◌||◌, ℕ, Bool, Some, None, List, [], ◌∷◌, length, filter, count_by, nat_le, slice_index, if◌then◌else◌}
use Rattle.std.specs.List.{AllByRecursion, list_any}
use Rattle.net_base.specs.declared.numbers.DpId.{DpId}
use Rattle.of_match.specs.declared.action.Instr.{Instr}
use Rattle.of_match.specs.declared.entry.Entry.{Entry}
use Rattle.conf_types.specs.declared.datapath.Dp.{Dp}
use Rattle.conf_types.specs.declared.datapath.Port.{Port}
use Rattle.conf_types.specs.declared.state.HostRec.{HostRec}
use Rattle.conf_types.specs.declared.vlan.Vlan.{Vlan}
use Rattle.conf_types.specs.Configuration.{Configuration}
use Rattle.conf_types.specs.Groups.{group_of}
use Rattle.conf_types.specs.State.{is_host_at, is_host_in, is_table_full}
use Rattle.plan_base.specs.declared.table.Table.TheVariants.{Source, Ipv4Route}
use Rattle.plan_base.specs.Fields.{in_port, vid_field}
use Rattle.plan_base.specs.Actions.{to_controller}
use Rattle.plan_base.specs.Entries.{leads_to, entry}
use Rattle.vlan_compile.specs.declared.learned.Asked.{Asked}
use Rattle.vlan_compile.specs.declared.learned.Learned.{Learned}

-- the datapath is of the group with this number
abbrev pub is_of_group : Configuration → DpId → DpId → Bool
is_of_group conf group dp = (group_of conf dp).0 == group.0

-- what was asked before was answered right
abbrev pub AreAnswered : Configuration → DpId → List Asked → Type 0
AreAnswered conf group asked = AllByRecursion (λ a. a.is_in ≡ is_of_group conf group a.dp) asked

-- at the place of each VLAN's identifier is how many hosts of it the group has
abbrev pub AreCounts : Configuration → DpId → List HostRec → List ℕ → Type 0
AreCounts conf group hosts counts = (vid : ℕ) → slice_index counts vid ≡ count_by (is_host_in conf group vid) hosts

pub record AreLearned (conf : Configuration) (d : Dp) (i : Port) (hosts : List HostRec) (learned : Learned) : Type 0 where
  pub here : learned.here ≡ filter (is_host_at d.id i.no) hosts
  pub counts : AreCounts conf (group_of conf d.id) hosts learned.in_group.items
  pub is_full : learned.is_full ≡ is_table_full hosts

-- ---- the entries by it

abbrev pub is_full_by : Learned → Port → Vlan → Bool
is_full_by learned i v = nat_le i.max_hosts (length learned.here) || nat_le v.max_hosts (slice_index learned.in_group.items v.vid) || learned.is_full

-- where the port keeps the host that it has, and where no further host may be learned
abbrev pub missed_if : Bool → Bool → List Instr
missed_if keeps full =
    if keeps then leads_to [] None
    else if full then leads_to [] (Some Ipv4Route)
    else leads_to (to_controller ∷ []) (Some Ipv4Route)

abbrev pub miss_if : Port → Vlan → Bool → Bool → Entry
miss_if i v keeps full = entry Source 10 (in_port i.no ∷ vid_field v.vid ∷ []) (missed_if keeps full)

abbrev pub miss_by : Learned → Port → Vlan → Entry
miss_by learned i v = miss_if i v (i.permanent_learn && list_any (λ h. h.vid == v.vid) learned.here) (is_full_by learned i v)
