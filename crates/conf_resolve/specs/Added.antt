-- The VLANs that numbers name, added one at a time.
use Rattle.std.specs.Prelude.{ℕ, ◌==◌, Bool, if◌then◌else◌, List, [], ◌∷◌, ◌++◌, Option, Some, None}
use Rattle.std.specs.List.{list_any}
use Rattle.conf_types.specs.Lists.{is_among}
use Rattle.conf_shape.specs.declared.raw.VlanRef.{VlanRef}
use Rattle.conf_shape.specs.declared.raw.VlanRef.TheVariants.{Vid, Name}
use Rattle.conf_resolve.specs.declared.ordered.PlacedVlan.{PlacedVlan}

-- one has the number
abbrev pub has_vid : List PlacedVlan → ℕ → Bool
has_vid vlans vid = list_any (λ v. v.vlan.vid == vid) vlans

-- the number that is named, where none has it
abbrev pub new_number : List PlacedVlan → VlanRef → Option ℕ
new_number vlans (Vid vid) = if has_vid vlans vid then None else Some vid
new_number vlans (Name name) = None

-- with one behind, where none has its number
abbrev pub with_one : List PlacedVlan → PlacedVlan → List PlacedVlan
with_one vlans v = if has_vid vlans v.vlan.vid then vlans else vlans ++ v ∷ []

-- with each of these, one behind the other
abbrev pub with_each : List PlacedVlan → List PlacedVlan → List PlacedVlan
with_each vlans [] = vlans
with_each vlans (v ∷ more) = with_each (with_one vlans v) more

-- with a number behind, where it isn't there
abbrev pub with_number : List ℕ → ℕ → List ℕ
with_number ns n = if is_among ns n then ns else ns ++ n ∷ []

-- with each of these, one behind the other
abbrev pub with_numbers : List ℕ → List ℕ → List ℕ
with_numbers ns [] = ns
with_numbers ns (n ∷ more) = with_numbers (with_number ns n) more
