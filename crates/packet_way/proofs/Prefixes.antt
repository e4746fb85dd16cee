-- Prefixes of items, as networks.
use Rattle.std.proofs.Common.{◌≡◌, ℕ, ◌-◌, ◌/◌, ◌^◌, ◌==◌, ◌&&◌, ap, ◌∙◌, arith}
use Rattle.std.specs.Prelude.{min}
use Rattle.conf_types.specs.declared.address.Ip.{Ip}
use Rattle.conf_types.specs.declared.address.Net.{Net}
use Rattle.conf_types.specs.Families.{ip_value, width_of, is_same_family, address_of, len_of}
use Rattle.conf_types.specs.Networks.{is_held}
use Rattle.packet_way.specs.declared.routes.RouteItem.{RouteItem}
use Rattle.packet_way.specs.Routes.{item_holds}

-- a prefix is no longer than its address
pub bits_behind : (width len : ℕ) → width - min len width ≡ width - len
bits_behind width len = omega arith

-- an item's network holds what the item holds
pub holds_as_item : (item : RouteItem) (net : Net) → address_of net ≡ item.ip → len_of net ≡ min item.len (width_of item.ip) → (to : Ip) → is_held net to ≡ item_holds to item
holds_as_item item net ip len to =
    ap (λ a. is_same_family to a && (ip_value to / 2 ^ (width_of a - len_of net) == ip_value a / 2 ^ (width_of a - len_of net))) ip
    ∙ ap (λ n. is_same_family to item.ip && (ip_value to / 2 ^ n == ip_value item.ip / 2 ^ n)) (ap (λ n. width_of item.ip - n) len ∙ bits_behind (width_of item.ip) item.len)
