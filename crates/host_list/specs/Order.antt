-- The hosts with their places in the order of learning, and what is kept to look them up.
use Rattle.std.specs.Prelude.{◌≡◌, ◌==◌, ◌<◌, ◌+◌, ◌&&◌, not, map, nat_le, Bool, true, false, ℕ, List, [], ◌∷◌, filter, sum_by, Option, Some, None, if◌then◌else◌}
use Rattle.std.specs.List.{AllByRecursion}
use Rattle.net_base.specs.declared.numbers.DpId.{DpId}
use Rattle.net_base.specs.declared.numbers.Moment.{Moment}
use Rattle.conf_types.specs.declared.datapath.Dp.{Dp}
use Rattle.conf_types.specs.declared.state.HostRec.{HostRec}
use Rattle.conf_types.specs.Configuration.{Configuration}
use Rattle.conf_types.specs.State.{forgotten_at}
use Rattle.conf_types.specs.Groups.{group_of}
use Rattle.conf_types.specs.Lists.{EachBefore}
use Rattle.indexmap.specs.IndexMap.{IndexMap}
use Rattle.host_list.specs.declared.addresses.Address.{Address}
use Rattle.host_list.specs.declared.addresses.Standing.{Standing}
use Rattle.host_list.specs.declared.counts.Spot.{Spot}
use Rattle.host_list.specs.declared.shelves.Shelf.{Shelf}
use Rattle.host_list.specs.Addresses.{Entry, entries_at, has_address}
use Rattle.host_list.specs.Counts.{one_at, at_spot}
use Rattle.host_list.specs.Hosts.{is_heard, is_in_place}
use Rattle.host_list.specs.Shelves.{is_shelved, last_moment, least_on}

-- the place of the first host that passes
abbrev pub first_place : (HostRec → Bool) → List Entry → Option ℕ
first_place test [] = None
first_place test (e ∷ entries) = if test e.1 then Some e.0 else first_place test entries

-- the place of the first entry that passes
abbrev pub first_entry : (Entry → Bool) → List Entry → Option ℕ
first_entry test [] = None
first_entry test (e ∷ entries) = if test e then Some e.0 else first_entry test entries

-- the hosts alone
abbrev pub hosts_of : List Entry → List HostRec
hosts_of entries = map (λ e. e.1) entries

-- the host that is heard stands there, with another moment
abbrev pub is_old : HostRec → Entry → Bool
is_old heard e = is_in_place heard e.1 && not (e.1.learned.0 == heard.learned.0)

-- it is the host that is heard, at another place
abbrev pub is_other : Configuration → HostRec → ℕ → Entry → Bool
is_other conf heard place e = is_heard conf heard e.1 && not (e.0 == place)

-- the spots at which a host counts: its port, its VLAN on the datapath, both
abbrev pub port_spot : HostRec → Spot
port_spot host = record { dp = host.dp; port = Some host.port; vid = None }

abbrev pub vlan_spot : HostRec → Spot
vlan_spot host = record { dp = host.dp; port = None; vid = Some host.vid }

abbrev pub both_spot : HostRec → Spot
both_spot host = record { dp = host.dp; port = Some host.port; vid = Some host.vid }

abbrev pub share : Spot → HostRec → ℕ
share spot host = one_at (port_spot host) spot + one_at (vlan_spot host) spot + one_at (both_spot host) spot

-- the hosts of a VLAN on a datapath, where it is one of the group
abbrev pub vlan_part : Configuration → List Entry → DpId → ℕ → Dp → ℕ
vlan_part conf entries group vid d =
    if (group_of conf d.id).0 == group.0 then sum_by (λ (e : Entry). share (record { dp = d.id; port = None; vid = Some vid }) e.1) entries else 0

-- a host that was last heard at the shelf's moment would be to be forgotten
abbrev pub is_due_from : Configuration → ℕ → Shelf → Bool
is_due_from conf moment shelf = nat_le (forgotten_at conf shelf.dp shelf.least.0) moment

-- the least moment of the shelf's hosts, where one of them may be to be forgotten
abbrev pub tight : Configuration → ℕ → List Entry → Shelf → Moment
tight conf moment entries shelf = if is_due_from conf moment shelf then least_on shelf.dp last_moment entries else shelf.least

abbrev pub tightened : Configuration → ℕ → List Entry → Shelf → Shelf
tightened conf moment entries shelf = record shelf { least = tight conf moment entries shelf }

-- each place is below those behind it
abbrev pub AreRising : List Entry → Type 0
AreRising = EachBefore (λ (e : Entry) (f : Entry). e.0 < f.0)

-- each shelf is of another datapath
abbrev pub AreShelves : List Shelf → Type 0
AreShelves = EachBefore (λ (s : Shelf) (t : Shelf). (s.dp.0 == t.dp.0) ≡ false)

-- what is kept beside the entries is of these entries
pub record IsIndexed {S T : Type 0} (next : ℕ) (entries : List Entry) (addresses : IndexMap Address Standing S) (counts : IndexMap Spot ℕ T) (shelves : List Shelf) : Type 0 where
  pub rising : AreRising entries
  pub below : AllByRecursion (λ (e : Entry). e.0 < next) entries
  pub at : (a : Address) → entries_at addresses a ≡ filter (has_address a) entries
  pub counted : (s : Spot) → at_spot counts s ≡ sum_by (λ (e : Entry). share s e.1) entries
  pub shelved : AllByRecursion (λ (e : Entry). is_shelved shelves e.1 ≡ true) entries
  pub shelves_apart : AreShelves shelves
