-- What is kept beside VLANs, interfaces and datapaths, by which one of them is found.
use Rattle.std.specs.Prelude.{◌≡◌, ℕ, ◌==◌, List, Option}
use Rattle.std.specs.BTreeMap.{BTreeMap, get_by_text}
use Rattle.std.specs.BTreeSet.{BTreeSet, contains}
use Rattle.std.specs.List.{find, list_any}
use Rattle.std.specs.Option.{option_map}
use Rattle.std.specs.Ordering.{nat_cmp}
use Rattle.std.specs.declared.string.String.{String}
use Rattle.std.specs.declared.alloc.Global.{Global}
use Rattle.conf_types.specs.Lists.{is_same}
use Rattle.conf_shape.specs.declared.raw.RawPort.{RawPort}
use Rattle.conf_resolve.specs.declared.ordered.PlacedVlan.{PlacedVlan}
use Rattle.conf_resolve.specs.Added.{has_vid}

-- the set has the numbers of these, and no others
pub record HaveVids (vlans : List PlacedVlan) (vids : BTreeSet ℕ) : Type 0 where
  pub each : (vid : ℕ) → contains nat_cmp vids vid ≡ has_vid vlans vid

-- what the first item of this name has
abbrev pub first_named : {A B : Type 0} → (A → List ℕ) → (A → B) → List A → List ℕ → Option B
first_named name value items text = option_map value (find (λ x. is_same (name x) text) items)

-- each name leads to what the first item of this name has
pub record LeadToFirst {A B : Type 0} (name : A → List ℕ) (value : A → B) (items : List A) (values : BTreeMap (String Global) B) : Type 0 where
  pub first : (text : List ℕ) → get_by_text values text ≡ first_named name value items text

-- the set has the numbers of these, and each name leads to the number of the first of this name
pub record HavePorts (ports : List RawPort) (numbers : BTreeSet ℕ) (names : BTreeMap (String Global) ℕ) : Type 0 where
  pub numbered : (number : ℕ) → contains nat_cmp numbers number ≡ list_any (λ p. p.no == number) ports
  pub named : LeadToFirst (λ (p : RawPort). p.names.name) (λ (p : RawPort). p.no) ports names
