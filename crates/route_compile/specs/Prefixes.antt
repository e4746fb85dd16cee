-- Prefixes of the items of a route list.
use Rattle.std.specs.Prelude.{◌≡◌, ℕ, ◌-◌, ◌/◌, ◌^◌, List, IfSome}
use Rattle.std.specs.List.{AllByRecursion}
use Rattle.net_base.specs.Address.{IsSixBytes}
use Rattle.conf_types.specs.declared.state.NeighRec.{NeighRec}
use Rattle.conf_types.specs.Families.{family_of, ip_value, width_of}
use Rattle.packet_way.specs.declared.routes.RouteItem.{RouteItem}

-- how many bits stand behind the prefix
abbrev pub bits_behind : RouteItem → ℕ
bits_behind item = width_of item.ip - item.len

-- two items look at the same bits of an address of one family, and want the same of them
pub record SamePrefix (a b : RouteItem) : Type 0 where
  pub family : family_of a.ip ≡ family_of b.ip
  pub len : a.len ≡ b.len
  pub bits : ip_value a.ip / 2 ^ bits_behind a ≡ ip_value b.ip / 2 ^ bits_behind b

-- the Ethernet address of a neighbour, if it is known, has six bytes: so has each `Mac`
abbrev pub HaveAddresses : List NeighRec → Type 0
HaveAddresses neighbours = AllByRecursion (λ n. IfSome n.mac (λ mac. IsSixBytes mac.0)) neighbours
