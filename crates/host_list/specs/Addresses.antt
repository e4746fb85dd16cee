-- The hosts of an address in a VLAN, with their places, as they are kept to be looked up.
use Rattle.std.specs.Prelude.{ℕ, ◌==◌, ◌&&◌, not, Bool, List, [], ◌∷◌, map, filter, nat_eq, if◌then◌else◌}
use Rattle.std.specs.Cmp.Lexicographic.{pointwise}
use Rattle.std.specs.Option.{option_map_or}
use Rattle.net_base.specs.declared.numbers.Moment.{Moment}
use Rattle.conf_types.specs.declared.state.HostRec.{HostRec}
use Rattle.indexmap.specs.IndexMap.{IndexMap, get}
use Rattle.host_list.specs.declared.addresses.Address.{Address}
use Rattle.host_list.specs.declared.addresses.Standing.{Standing}
use Rattle.host_list.specs.declared.addresses.Standing.TheVariants.{One, Several}

-- a host with its place
abbrev pub Entry : Type 0
Entry = ℕ × HostRec

abbrev pub is_address : Address → Address → Bool
is_address a b = a.vid == b.vid && pointwise nat_eq a.mac.0 b.mac.0

abbrev pub address_of : HostRec → Address
address_of host = record { vid = host.vid; mac = host.mac }

abbrev pub has_address : Address → Entry → Bool
has_address address entry = is_address address (address_of entry.1)

-- the entries of an address, as they are kept
abbrev pub entries_of : Standing → List Entry
entries_of (One entry) = entry ∷ []
entries_of (Several list) = list.items

-- the entries that are kept under an address
abbrev pub entries_at : {S : Type 0} → IndexMap Address Standing S → Address → List Entry
entries_at addresses address = option_map_or entries_of (get is_address addresses address) []

-- without the entry at a place
abbrev pub off_place : ℕ → List Entry → List Entry
off_place place entries = filter (λ e. not (e.0 == place)) entries

-- with another moment at a place
abbrev pub heard_at : ℕ → Moment → List Entry → List Entry
heard_at place moment entries = map (λ e. if e.0 == place then (e.0, record e.1 { learned = moment }) else e) entries
