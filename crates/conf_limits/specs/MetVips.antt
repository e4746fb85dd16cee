-- The VIPs of the VLANs that were met so far, by the VLANs' identifiers.
use Rattle.std.specs.Prelude.{◌≡◌, ℕ, ◌==◌, List, [], if◌then◌else◌, nat_eq}
use Rattle.std.specs.HashMap.{HashMap, get}
use Rattle.std.specs.List.{flat_map}
use Rattle.std.specs.Option.{option_map_or}
use Rattle.std.specs.declared.alloc.Global.{Global}
use Rattle.std.specs.declared.vec.Vec.{Vec}
use Rattle.conf_types.specs.declared.address.Net.{Net}
use Rattle.conf_types.specs.declared.vlan.Vlan.{Vlan}

abbrev pub met_vips : {S : Type 0} → HashMap ℕ (Vec Net Global) S → ℕ → List Net
met_vips met n = option_map_or (λ vips. vips.items) (get nat_eq met n) []

-- the VIPs of the VLANs with the identifier, in their order
abbrev pub vips_with : List Vlan → ℕ → List Net
vips_with vlans n = flat_map (λ w. if w.vid == n then w.vips else []) vlans

-- the map has the VIPs of these VLANs, and no others
abbrev pub HasVips : {S : Type 0} → HashMap ℕ (Vec Net Global) S → List Vlan → Type 0
HasVips met vlans = (n : ℕ) → met_vips met n ≡ vips_with vlans n
