-- The longest prefix of a route list.
use Rattle.std.specs.Prelude.{◌≡◌, ◌-◌, ◌/◌, ◌^◌, ◌≤◌, List, Contains}
use Rattle.conf_types.specs.declared.address.Ip.{Ip}
use Rattle.conf_types.specs.Families.{family_of, ip_value, width_of}
use Rattle.packet_way.specs.declared.routes.RouteItem.{RouteItem}

-- the address is of the item's family and has the first bits of the item's, as many as its prefix is long
-- (RFC 4632, 3.1; RFC 4291, 2.3)
pub record HasPrefix (ip : Ip) (item : RouteItem) : Type 0 where
  pub family : family_of ip ≡ family_of item.ip
  pub bits : ip_value ip / 2 ^ (width_of item.ip - item.len) ≡ ip_value item.ip / 2 ^ (width_of item.ip - item.len)

-- one of the items that hold an address, and none that holds it is longer (RFC 1812, 5.2.4.3)
pub record IsLongestFor (items : List RouteItem) (ip : Ip) (item : RouteItem) : Type 0 where
  pub listed : Contains items item
  pub holds : HasPrefix ip item
  pub longest : (other : RouteItem) → Contains items other → HasPrefix ip other → other.len ≤ item.len
