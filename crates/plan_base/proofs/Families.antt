-- What both families of IP addresses have in common: what is proved of a family is proved from this row.
use Rattle.std.proofs.Common.{◌≡◌, ℕ, ◌-◌, ◌*◌, ◌/◌, ◌^◌, ◌<◌, ◌≤◌, true, [], ◌∷◌, refl, sym, ap, subst, inl, inr, arith, lit<, lit≤}
use Rattle.std.proofs.Math.Nat.{div-mul-le_self, mul-div_cancel}
use Rattle.std.proofs.lemmas.Nat.{pow_pos}
use Rattle.net_base.specs.declared.field.Prerequisite.TheVariants.{Exactly}
use Rattle.net_base.specs.declared.field.FieldId.TheVariants.{EthType, VlanVid}
use Rattle.net_base.specs.Field.{prefix_in}
use Rattle.net_base.specs.FieldId.{number_of, bits_of, may_be_masked, prerequisites_of}
use Rattle.conf_types.specs.declared.address.Ip.{Ip}
use Rattle.conf_types.specs.declared.address.Ip.TheVariants.{V4, V6}
use Rattle.conf_types.specs.declared.family.Family.{Family}
use Rattle.conf_types.specs.Families.{ipv4, ipv6, family_of, width_of}
use Rattle.plan_base.specs.Families.{IsFamily}
use Rattle.plan_base.specs.MatchFields.{IsMatchField}
use Rattle.plan_base.proofs.MatchFields.{without_host_bits}

-- what holds of each of them
pub of_families : (P : Family → Type 0) → P ipv4 → P ipv6 → (f : Family) → IsFamily f → P f
of_families P four six f (inl is) = subst P (sym is) four
of_families P four six f (inr is) = subst P (sym is) six

pub record IsRow (f : Family) : Type 0 where
  pub type_fits : f.ether_type < 2 ^ 16
  pub some_bits : 0 < f.width
  pub narrow : f.width ≤ 128
  -- a destination has the bits of an address, stands behind the VLAN and asks for the EtherType
  pub bits : bits_of f.destination ≡ f.width
  pub masked : may_be_masked f.destination ≡ true
  pub order : number_of VlanVid < number_of f.destination
  pub asks : prerequisites_of f.destination ≡ Exactly EthType f.ether_type ∷ []

row4 : IsRow ipv4
row4 = record { type_fits = lit< tt; some_bits = lit< tt; narrow = lit≤ tt; bits = refl; masked = refl; order = lit< tt; asks = refl }

row6 : IsRow ipv6
row6 = record { type_fits = lit< tt; some_bits = lit< tt; narrow = lit≤ tt; bits = refl; masked = refl; order = lit< tt; asks = refl }

pub is_row : (f : Family) → IsFamily f → IsRow f
is_row f is = of_families IsRow row4 row6 f is

pub is_family : (a : Ip) → IsFamily (family_of a)
is_family (V4 a) = inl refl
is_family (V6 a) = inr refl

-- the width tells which it is
pub by_width : (f : Family) → IsFamily f → (a : Ip) → width_of a ≡ f.width → family_of a ≡ f
by_width f (inl is) (V4 a) e = sym is
by_width f (inl is) (V6 a) e = let w = ap (λ (f : Family). f.width) is in absurd (omega (arith, w, e))
by_width f (inr is) (V4 a) e = let w = ap (λ (f : Family). f.width) is in absurd (omega (arith, w, e))
by_width f (inr is) (V6 a) e = sym is

-- a prefix of an address is a field that a switch accepts
pub is_prefix_field : (f : Family) → IsFamily f → (ip len : ℕ) → ip < 2 ^ f.width → IsMatchField (prefix_in f.width f.destination ip len)
is_prefix_field f is ip len h =
    let row = is_row f is in
    let k : ℕ = f.width - len in
    let size : ℕ = 2 ^ k in
    let some : 0 < size = pow_pos k in
    let all : 0 < 2 ^ f.width = pow_pos f.width in
    let below : ip / size * size < 2 ^ f.width = omega (arith, h, div-mul-le_self ip size) in
    let mask : 2 ^ f.width - size < 2 ^ f.width = omega (arith, some, all) in
    record {
      bits = subst (λ (n : ℕ). ip / size * size < 2 ^ n) (sym row.bits) below;
      within = without_host_bits f.width (ip / size * size) k (omega arith) below (ap (λ n. n * size) (mul-div_cancel (ip / size) some));
      mask = inr (row.masked, subst (λ (n : ℕ). 2 ^ f.width - size < 2 ^ n) (sym row.bits) mask);
    }
