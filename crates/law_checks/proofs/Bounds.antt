-- Keys that take a number, by the range of their rows.
use Rattle.std.proofs.Common.{◌≡◌, ℕ, ◌^◌, ◌<◌, ◌≤◌, ◌&&◌, Bool, true, false, List, [], None, Ok, refl}
use Rattle.std.specs.Prelude.{codes, nat_lt, nat_le, Result}
use Rattle.std.proofs.lemmas.Bool.{and_parts, ltb-true, leb-true}
use Rattle.yaml_tree.specs.declared.tree.Key.TheVariants as key
use Rattle.conf_shape.specs.declared.kinds.Kind.{Kind}
use Rattle.conf_shape.specs.declared.kinds.Kind.TheVariants.{One}
use Rattle.conf_shape.specs.declared.kinds.MapKind.{MapKind}
use Rattle.conf_shape.specs.declared.kinds.MapKind.TheVariants as maps
use Rattle.conf_shape.specs.declared.kinds.Scalar.{Scalar}
use Rattle.conf_shape.specs.declared.kinds.Scalar.TheVariants.{Number}
use Rattle.conf_shape.specs.declared.refused.ConfCause.{ConfCause}
use Rattle.conf_shape.specs.Reads.{default_of, default_number}
use Rattle.conf_shape.specs.Sections.{under_key}

abbrev pub range_in : Result Kind ConfCause → ℕ × ℕ
range_in (Ok (One (Number low high))) = (low, high)
range_in _ = (1, 0)

-- the least and the greatest number that a key of a map takes
abbrev pub least_of : MapKind → List ℕ → ℕ
least_of m name = (range_in (under_key m [] (key.Text name))).0

abbrev pub most_of : MapKind → List ℕ → ℕ
most_of m name = (range_in (under_key m [] (key.Text name))).1

abbrev pub ranged : MapKind → List ℕ → Scalar
ranged m name = Number (least_of m name) (most_of m name)

-- ---- a number of so many bits

abbrev fits : ℕ → Result Kind ConfCause → Bool
fits bits (Ok (One (Number low high))) = nat_lt high (2 ^ bits)
fits bits _ = false

-- what stands under the key is a number of this range
pub record IsRange (bits : ℕ) (kind : Result Kind ConfCause) : Type 0 where
  pub takes : kind ≡ Ok (One (Number (range_in kind).0 (range_in kind).1))
  pub small : (range_in kind).1 < 2 ^ bits

abbrev pub HasRange : ℕ → MapKind → List ℕ → Type 0
HasRange bits m name = IsRange bits (under_key m [] (key.Text name))

range_is : (bits : ℕ) (kind : Result Kind ConfCause) → fits bits kind ≡ true → IsRange bits kind
range_is bits (Ok (One (Number low high))) is = record { takes = refl; small = ltb-true high (2 ^ bits) is }
range_is bits kind is = absurd cc

-- ---- a number of 32 bits with a default, which is in its range

abbrev holds : ℕ → ℕ × ℕ → Bool
holds default range = nat_le range.0 default && nat_le default range.1

pub record IsDefault (default : ℕ) (kind : Result Kind ConfCause) : Type 0 where
  pub range : IsRange 32 kind
  pub least : (range_in kind).0 ≤ default
  pub most : default ≤ (range_in kind).1

abbrev pub HasDefault : MapKind → List ℕ → Type 0
HasDefault m name = IsDefault (default_number (default_of m name)) (under_key m [] (key.Text name))

default_is : (default : ℕ) (kind : Result Kind ConfCause) → fits 32 kind ≡ true → holds default (range_in kind) ≡ true → IsDefault default kind
default_is default kind small is =
    let ends = and_parts (nat_le (range_in kind).0 default) (nat_le default (range_in kind).1) is in
    record { range = range_is 32 kind small; least = leb-true (range_in kind).0 default ends.0; most = leb-true default (range_in kind).1 ends.1 }

-- ---- tests of the tables, which computing answers

module _ (m : MapKind) (name : List ℕ) where
  has_range : (bits : ℕ) → fits bits (under_key m [] (key.Text name)) ≡ true → HasRange bits m name
  has_range bits is = range_is bits (under_key m [] (key.Text name)) is

  has_default : fits 32 (under_key m [] (key.Text name)) ≡ true → holds (default_number (default_of m name)) (least_of m name, most_of m name) ≡ true → HasDefault m name
  has_default small is = default_is (default_number (default_of m name)) (under_key m [] (key.Text name)) small is

pub dp_id_range : HasRange 64 maps.Datapath (codes "dp_id")
dp_id_range = has_range maps.Datapath (codes "dp_id") 64 refl

pub our_as_range : HasRange 16 maps.Bgp (codes "as")
our_as_range = has_range maps.Bgp (codes "as") 16 refl

pub neighbor_as_range : HasRange 16 maps.Bgp (codes "neighbor_as")
neighbor_as_range = has_range maps.Bgp (codes "neighbor_as") 16 refl

pub priority_range : HasRange 32 maps.DatapathStack (codes "priority")
priority_range = has_range maps.DatapathStack (codes "priority") 32 refl

pub timeout_default : HasDefault maps.Datapath (codes "timeout")
unfolding default_of
timeout_default = has_default maps.Datapath (codes "timeout") refl refl

pub arp_timeout_default : HasDefault maps.Datapath (codes "arp_neighbor_timeout")
unfolding default_of
arp_timeout_default = has_default maps.Datapath (codes "arp_neighbor_timeout") refl refl

pub port_hosts_default : HasDefault (maps.Interface None) (codes "max_hosts")
unfolding default_of
port_hosts_default = has_default (maps.Interface None) (codes "max_hosts") refl refl

pub vlan_hosts_default : HasDefault (maps.Vlan None) (codes "max_hosts")
unfolding default_of
vlan_hosts_default = has_default (maps.Vlan None) (codes "max_hosts") refl refl

pub send_interval_default : HasDefault maps.LldpBeacon (codes "send_interval")
unfolding default_of
send_interval_default = has_default maps.LldpBeacon (codes "send_interval") refl refl
