-- The places of routers, by the identifiers of their VLANs.
use Rattle.std.specs.Prelude.{◌≡◌, ℕ, ◌&&◌, Bool, false, List, [], nat_eq}
use Rattle.std.specs.HashMap.{HashMap, get}
use Rattle.std.specs.List.{list_any, slice_get}
use Rattle.std.specs.Option.{option_map_or}
use Rattle.std.specs.declared.alloc.Global.{Global}
use Rattle.std.specs.declared.vec.Vec.{Vec}
use Rattle.conf_types.specs.declared.vlan.Router.{Router}
use Rattle.conf_types.specs.Lists.{is_among}

abbrev pub places_at : {S : Type 0} → HashMap ℕ (Vec ℕ Global) S → ℕ → List ℕ
places_at places n = option_map_or (λ at. at.items) (get nat_eq places n) []

-- the router at the place has the VLAN
abbrev pub has_at : List Router → ℕ → ℕ → Bool
has_at routers n at = option_map_or (λ r. is_among r.vlans n) (slice_get routers at) false

-- the places that an identifier leads to are those of the first routers that have it
abbrev pub LeadToRouters : {S : Type 0} → HashMap ℕ (Vec ℕ Global) S → List Router → List Router → Type 0
LeadToRouters places all firsts = (n m : ℕ) → list_any (has_at all m) (places_at places n) ≡ list_any (λ r. is_among r.vlans m && is_among r.vlans n) firsts
