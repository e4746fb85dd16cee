-- What is wrong with a value that is no list and no map, or that it is right.
use Rattle.std.specs.Prelude.{◌≡◌, ℕ, ◌%◌, ◌≤◌, ℤ, pos, negsuc, ◌&&◌, ◌||◌, Bool, true, false, List, [], ◌∷◌, ◌++◌, length, slice_index, bit_and, Option, Some, None, nat_le, ◌==◌, if◌then◌else◌}
use Rattle.std.specs.List.{AllByRecursion}
use Rattle.std.proofs.Common.{inl, inr, refl, sym, ap, ◌∙◌, subst, arith, true≢false, leb-true, eqb-true, eq-eqb}
use Rattle.std.proofs.lemmas.Bool.{and_parts, and_from, or_parts, or_cases, eqb-false, le-leb, true_from_ne_false}
use Rattle.std.proofs.lemmas.Option.{same_Some, none-some}
use Rattle.net_base.specs.Address.{SpellsMac}
use Rattle.net_base.specs.AddressReading.{spelled_mac, cut_at}
use Rattle.net_base.proofs.Addresses.{mac_ok, mac_again}
use Rattle.yaml_tree.specs.declared.tree.Pair.{Pair}
use Rattle.yaml_tree.specs.declared.tree.Tree.{Tree}
use Rattle.yaml_tree.specs.declared.tree.Tree.TheOpen.{Tree-F}
use Rattle.yaml_tree.specs.declared.tree.Tree.TheOpen as tree
use Rattle.conf_shape.specs.declared.kinds.Scalar.{Scalar}
use Rattle.conf_shape.specs.declared.kinds.Scalar.TheVariants.{Flag, Number, Name, Words, Label, Reference, Permission, NoEffect, StationMac, MaskedMac, Vip, Destination, Gateway, Prefix, Address, Identifier, Passive}
use Rattle.conf_shape.specs.declared.refused.ConfCause.{ConfCause}
use Rattle.conf_shape.specs.declared.refused.ConfCause.TheVariants.{LeftOut, WrongType, OutOfRange, BadText}
use Rattle.conf_shape.specs.Addresses.{is_group, is_zero, station_fault, is_masked, masked_fault, mac_fault, masked_parts}
use Rattle.conf_shape.specs.Scalars.{unless, within, if_within, is_name, flag_fault, number_fault}
use Rattle.law_keys.specs.Causes.{HasForm, IsOutside, IsUnsupported, HasToSpell}
use Rattle.law_keys.specs.Grammar.{IsOneOf, IsFromTo, IsName, IsInside, SpellsMasked, FitsScalar}
use Rattle.law_keys.proofs.Texts.{cut_there, no_cut, same_cut, no_slash_mac}

-- the cause holds of the value
abbrev pub Holds : Scalar → Tree-F Tree Pair → ConfCause → Type 0
Holds s x WrongType = HasForm s x → ⊥
Holds s x OutOfRange = IsOutside s x
Holds s x LeftOut = IsUnsupported s x
Holds s x BadText = HasToSpell s x × (FitsScalar s x → ⊥) × (IsOutside s x → ⊥) × (IsUnsupported s x → ⊥)
Holds s x _ = ⊥

-- there is none where the value is right, and else it holds
abbrev pub Told : Scalar → Tree-F Tree Pair → Option ConfCause → Type 0
Told s x None = FitsScalar s x
Told s x (Some cause) = Holds s x cause

-- ---- numbers

from_to : (low high n : ℕ) (b : Bool) → (nat_le low n && nat_le n high) ≡ b → IsFromTo low high (pos n) → b ≡ true
from_to low high n true is f = refl
from_to low high n false is f = absurd (true≢false (sym (and_from (nat_le low n) (nat_le n high) (le-leb low n (omega (arith, low_is))) (le-leb n high (omega (arith, high_is)))) ∙ is))
  where
    same : n ≡ f.0
    same = let e = f.1 in cc

    low_is : low ≤ n
    low_is = subst (λ k. low ≤ k) (sym same) f.2

    high_is : n ≤ high
    high_is = subst (λ k. k ≤ high) (sym same) f.3

abbrev pub WithinTold : ℕ → ℕ → ℤ → Option ℕ → Type 0
WithinTold low high z None = IsFromTo low high z → ⊥
WithinTold low high z (Some n) = (z ≡ pos n) × (low ≤ n) × (n ≤ high)

pub within_told : (low high : ℕ) (z : ℤ) → WithinTold low high z (within low high z)
within_told low high (negsuc n) = λ f. let e = f.1 in absurd cc
within_told low high (pos n) = by (nat_le low n && nat_le n high) refl
  where
    by : (b : Bool) → (nat_le low n && nat_le n high) ≡ b → WithinTold low high (pos n) (if b then Some n else None)
    by true is = let both = and_parts (nat_le low n) (nat_le n high) is in (refl, leb-true low n both.0, leb-true n high both.1)
    by false is = λ f. true≢false (sym (from_to low high n false is f))

number_as : (s : Scalar) (low high : ℕ) (z : ℤ) → (IsFromTo low high z → FitsScalar s (tree.Int z)) → ((IsFromTo low high z → ⊥) → IsOutside s (tree.Int z)) → Told s (tree.Int z) (if_within (within low high z))
number_as s low high z right outside = by (within low high z) (within_told low high z)
  where
    by : (o : Option ℕ) → WithinTold low high z o → Told s (tree.Int z) (if_within o)
    by (Some n) r = right (n, r.0, r.1, r.2)
    by None r = outside r

pub flag_told : (s : Scalar) (flag : Bool) → Told s (tree.Bool flag) (flag_fault s)
flag_told Flag flag = tt
flag_told Permission flag = inl tt
flag_told NoEffect flag = inl tt
flag_told (Number low high) flag = λ f. f
flag_told Name flag = λ f. f
flag_told Words flag = λ f. f
flag_told Label flag = λ f. elim f as (λ _. ⊥) [ inl a ↦ a | inr b ↦ b ]
flag_told (Reference low high) flag = λ f. elim f as (λ _. ⊥) [ inl a ↦ a | inr b ↦ b ]
flag_told StationMac flag = λ f. f
flag_told MaskedMac flag = λ f. f
flag_told Vip flag = λ f. f
flag_told Destination flag = λ f. f
flag_told Gateway flag = λ f. f
flag_told (Prefix width) flag = λ f. f
flag_told (Address width) flag = λ f. f
flag_told Identifier flag = λ f. f
flag_told Passive flag = λ f. f

pub number_told : (s : Scalar) (z : ℤ) → Told s (tree.Int z) (number_fault s z)
number_told (Number low high) z = number_as (Number low high) low high z (λ f. f) (λ f. f)
number_told (Reference low high) z = number_as (Reference low high) low high z (λ f. inr f) (λ f. f)
number_told Permission z = number_as Permission 0 1 z (λ f. inr f) (λ f. f)
number_told Label z = inr tt
number_told NoEffect z = inr (inl tt)
number_told Flag z = λ f. f
number_told Name z = λ f. f
number_told Words z = λ f. f
number_told StationMac z = λ f. f
number_told MaskedMac z = λ f. f
number_told Vip z = λ f. f
number_told Destination z = λ f. f
number_told Gateway z = λ f. f
number_told (Prefix width) z = λ f. f
number_told (Address width) z = λ f. f
number_told Identifier z = λ f. f
number_told Passive z = λ f. f

-- ---- names

pub name_is : (text : List ℕ) → is_name text ≡ true → IsName text
name_is text is = let both = and_parts (nat_le 1 (length text)) (nat_le (length text) 255) is in (leb-true 1 (length text) both.0, leb-true (length text) 255 both.1)

pub name_not : (text : List ℕ) → is_name text ≡ false → IsName text → ⊥
name_not text is n = true≢false (sym (and_from (nat_le 1 (length text)) (nat_le (length text) 255) (le-leb 1 (length text) n.0) (le-leb (length text) 255 n.1)) ∙ is)

pub name_told : (text : List ℕ) → Told Name (tree.Text text) (unless (is_name text) OutOfRange)
name_told text = by (is_name text) refl
  where
    by : (b : Bool) → is_name text ≡ b → Told Name (tree.Text text) (unless b OutOfRange)
    by true is = name_is text is
    by false is = name_not text is

-- ---- Ethernet addresses

zeros : (mac : List ℕ) → is_zero mac ≡ true → AllByRecursion (λ byte. byte ≡ 0) mac
zeros [] is = tt
zeros (b ∷ bs) is = let both = and_parts (b == 0) (is_zero bs) is in (eqb-true b 0 both.0, zeros bs both.1)

no_zeros : (mac : List ℕ) → is_zero mac ≡ false → AllByRecursion (λ byte. byte ≡ 0) mac → ⊥
no_zeros [] is all = true≢false is
no_zeros (b ∷ bs) is all = true≢false (sym (and_from (b == 0) (is_zero bs) (eq-eqb b 0 all.0) (true_from_ne_false (is_zero bs) (λ e. no_zeros bs e all.1))) ∙ is)

pub station_told : (text : List ℕ) → Told StationMac (tree.Text text) (station_fault (spelled_mac text))
station_told text = by (spelled_mac text) refl
  where
    tested : (mac : List ℕ) → spelled_mac text ≡ Some mac → (b : Bool) → (is_group mac || is_zero mac) ≡ b → Told StationMac (tree.Text text) (if b then Some OutOfRange else None)
    tested mac e false is = let none = or_parts (is_group mac) (is_zero mac) is in (mac, mac_ok text mac e, (eqb-false (slice_index mac 0 % 2) 1 none.0, no_zeros mac none.1))
    tested mac e true is = (mac, mac_ok text mac e, λ station. elim (or_cases (is_group mac) (is_zero mac) is) as (λ _. ⊥) [ inl g ↦ station.0 (eqb-true (slice_index mac 0 % 2) 1 g) | inr z ↦ station.1 (zeros mac z) ])

    by : (read : Option (List ℕ)) → spelled_mac text ≡ read → Told StationMac (tree.Text text) (station_fault read)
    by None e = (tt, (λ f. none-some f.0 (sym e ∙ mac_again text f.0 f.1)), (λ f. none-some f.0 (sym e ∙ mac_again text f.0 f.1)), λ f. f)
    by (Some mac) e = tested mac e (is_group mac || is_zero mac) refl

inside_is : (value mask : List ℕ) → is_masked value mask ≡ true → IsInside value mask
inside_is [] mask is = tt
inside_is (v ∷ vs) [] is = tt
inside_is (v ∷ vs) (m ∷ ms) is = let both = and_parts (bit_and v m == v) (is_masked vs ms) is in (eqb-true (bit_and v m) v both.0, inside_is vs ms both.1)

inside_tests : (value mask : List ℕ) → IsInside value mask → is_masked value mask ≡ true
inside_tests [] mask i = refl
inside_tests (v ∷ vs) [] i = refl
inside_tests (v ∷ vs) (m ∷ ms) i = and_from (bit_and v m == v) (is_masked vs ms) (eq-eqb (bit_and v m) v i.0) (inside_tests vs ms i.1)

-- where no value and mask around a slash are spelled, and no address
masked_not : (text : List ℕ) → (((mac : List ℕ) × SpellsMac text mac) → ⊥) → (SpellsMasked text → ⊥) → Holds MaskedMac (tree.Text text) BadText
masked_not text alone masked = (tt, (λ f. elim f as (λ _. ⊥) [ inl a ↦ alone a | inr m ↦ masked m ]), (λ f. f), λ f. f)

pub mark_there : (mark : ℕ) (front rest : List ℕ) → IsOneOf (front ++ mark ∷ rest) mark
mark_there mark [] rest = inl refl
mark_there mark (b ∷ bs) rest = inr (mark_there mark bs rest)

module _ (text : List ℕ) (parts : List ℕ × List ℕ) (cut : cut_at 47 text ≡ Some parts) where
  is_cut : text ≡ parts.0 ++ 47 ∷ parts.1
  is_cut = cut_there 47 text parts cut

  no_mac : ((mac : List ℕ) × SpellsMac text mac) → ⊥
  no_mac a = no_slash_mac text a.0 a.1 (subst (λ t. IsOneOf t 47) (sym is_cut) (mark_there 47 parts.0 parts.1))

  cut_as : (m : SpellsMasked text) → parts ≡ (m.before, m.behind)
  cut_as m = same_cut 47 text m.before m.behind parts cut (no_slash_mac m.before m.value m.value_spelled) m.is

  value_read : (m : SpellsMasked text) → spelled_mac parts.0 ≡ Some m.value
  value_read m = ap (λ (p : List ℕ × List ℕ). spelled_mac p.0) (cut_as m) ∙ mac_again m.before m.value m.value_spelled

  mask_read : (m : SpellsMasked text) → spelled_mac parts.1 ≡ Some m.mask
  mask_read m = ap (λ (p : List ℕ × List ℕ). spelled_mac p.1) (cut_as m) ∙ mac_again m.behind m.mask m.mask_spelled

  tested : (value mask : List ℕ) → spelled_mac parts.0 ≡ Some value → spelled_mac parts.1 ≡ Some mask → (b : Bool) → is_masked value mask ≡ b → Told MaskedMac (tree.Text text) (if b then None else Some BadText)
  tested value mask v m true inside = inr (record { before = parts.0; behind = parts.1; value = value; mask = mask; is = is_cut; value_spelled = mac_ok parts.0 value v; mask_spelled = mac_ok parts.1 mask m; inside = inside_is value mask inside })
  tested value mask v m false inside = masked_not text no_mac (λ s. true≢false (sym (inside_tests value mask (subst (λ w. IsInside w mask) (same_Some s.value value (sym (value_read s) ∙ v)) (subst (λ w. IsInside s.value w) (same_Some s.mask mask (sym (mask_read s) ∙ m)) s.inside))) ∙ inside))

  both_told : (v m : Option (List ℕ)) → spelled_mac parts.0 ≡ v → spelled_mac parts.1 ≡ m → Told MaskedMac (tree.Text text) (masked_fault v m)
  both_told (Some value) (Some mask) v m = tested value mask v m (is_masked value mask) refl
  both_told (Some value) None v m = masked_not text no_mac (λ s. none-some s.mask (sym m ∙ mask_read s))
  both_told None m v n = masked_not text no_mac (λ s. none-some s.value (sym v ∙ value_read s))

pub masked_told : (text : List ℕ) → Told MaskedMac (tree.Text text) (masked_parts text (cut_at 47 text))
masked_told text = by (cut_at 47 text) refl
  where
    alone : cut_at 47 text ≡ None → (read : Option (List ℕ)) → spelled_mac text ≡ read → Told MaskedMac (tree.Text text) (mac_fault read)
    alone none (Some mac) e = inl (mac, mac_ok text mac e)
    alone none None e = masked_not text (λ a. none-some a.0 (sym e ∙ mac_again text a.0 a.1)) (λ m. no_cut 47 text m.before m.behind none (no_slash_mac m.before m.value m.value_spelled) m.is)

    by : (o : Option (List ℕ × List ℕ)) → cut_at 47 text ≡ o → Told MaskedMac (tree.Text text) (masked_parts text o)
    by None e = alone e (spelled_mac text) refl
    by (Some parts) e = both_told text parts e (spelled_mac parts.0) (spelled_mac parts.1) refl refl
