-- Texts that spell addresses and networks of either family: their colons and slashes, and what is read of them.
use Rattle.std.specs.Prelude.{◌≡◌, ℕ, ◌-◌, ◌%◌, ◌^◌, ◌≤◌, ◌⊎◌, Bool, true, false, List, [], ◌∷◌, ◌++◌, length, Option, Some, None, ◌==◌, if◌then◌else◌}
use Rattle.std.specs.Option.{option_map}
use Rattle.std.proofs.Common.{inl, inr, refl, sym, ap, ap₂, ◌∙◌, subst, arith, true≢false, eqb-true, eq-eqb}
use Rattle.std.proofs.Math.Nat.{min-eq_left}
use Rattle.std.proofs.lemmas.Option.{same_Some, none-some}
use Rattle.net_base.specs.Address.{decimal, ip4_text, net4_text}
use Rattle.net_base.specs.Address6.{SpellsGroups, SpellsIp6}
use Rattle.net_base.specs.AddressReading.{ip4_of, net4_of}
use Rattle.net_base.specs.Address6Reading.{ip6_of, net6_of}
use Rattle.net_base.proofs.Addresses.{ip4_again, net4_again}
use Rattle.net_base.proofs.Groups.{ip6_again, net6_again}
use Rattle.conf_types.specs.declared.address.Ip.{Ip}
use Rattle.conf_types.specs.declared.address.Ip.TheVariants as ip
use Rattle.conf_types.specs.declared.address.Net.{Net}
use Rattle.conf_types.specs.declared.address.Net.TheVariants as net
use Rattle.conf_types.specs.Families.{ip_value, width_of, address_of, len_of}
use Rattle.conf_types.specs.Networks.{HasNoHostBits}
use Rattle.conf_types.proofs.Families.{one_family}
use Rattle.conf_shape.specs.Addresses.{has_colon, width_written, ip4_with, ip6_with, net4_with, net6_with, ip_in, net_in}
use Rattle.law_checks.specs.Values.{SpellsIp, SpellsNet}
use Rattle.law_checks.proofs.Addresses.{written_family}
use Rattle.law_checks.proofs.Texts6.{ip6_no_slash}
use Rattle.law_keys.specs.Causes.{most_vip_len}
use Rattle.law_keys.specs.Grammar.{IsOneOf, SpellsNetworkOf, family_bits}
use Rattle.law_keys.proofs.Lists.{any_in, in_any, of_joined, in_front, behind}
use Rattle.law_keys.proofs.Texts.{cut_is, digits_alone, no_slash_address, no_colon_address}

-- ---- colons

colon_there : (text : List ℕ) → has_colon text ≡ true → IsOneOf text 58
colon_there text is = let m = any_in (λ b. b == 58) text is in subst (IsOneOf text) (eqb-true m.0 58 m.2) m.1

no_colon : (text : List ℕ) → has_colon text ≡ false → IsOneOf text 58 → ⊥
no_colon text is i = true≢false (sym (in_any (λ b. b == 58) text 58 i (eq-eqb 58 58 refl)) ∙ is)

eight_colon : (text groups : List ℕ) → SpellsGroups text groups → length groups ≡ 8 → IsOneOf text 58
eight_colon text [] s count = absurd (omega (arith, count))
eight_colon text (a ∷ []) s count = absurd (omega (arith, count))
eight_colon text (a ∷ b ∷ groups) s count = subst (λ (t : List ℕ). IsOneOf t 58) (sym s.2) (behind s.0 (58 ∷ s.1) 58 (inl refl))

ip6_colon : (text : List ℕ) (n : ℕ) → SpellsIp6 text n → IsOneOf text 58
ip6_colon text n (inl s) = eight_colon text s.groups s.spelled s.count
ip6_colon text n (inr s) = subst (λ (t : List ℕ). IsOneOf t 58) (sym s.row) (behind s.before (58 ∷ 58 ∷ s.behind) 58 (inl refl))

-- an address of IPv6 has a colon, and one of IPv4 has none
abbrev HasItsColon : List ℕ → Ip → Type 0
HasItsColon text (ip.V4 a) = IsOneOf text 58 → ⊥
HasItsColon text (ip.V6 a) = IsOneOf text 58

as_written : (text : List ℕ) (a : Ip) → HasItsColon text a → width_of a ≡ width_written text
as_written text (ip.V4 a) none = by (has_colon text) refl
  where
    by : (b : Bool) → has_colon text ≡ b → ◌≡◌ {A = ℕ} 32 (if b then 128 else 32)
    by true is = absurd (none (colon_there text is))
    by false is = refl
as_written text (ip.V6 a) there = by (has_colon text) refl
  where
    by : (b : Bool) → has_colon text ≡ b → ◌≡◌ {A = ℕ} 128 (if b then 128 else 32)
    by true is = refl
    by false is = absurd (no_colon text is there)

-- an address, and behind it a text without a colon
with_colon : (text before rest : List ℕ) (a : Ip) → SpellsIp before a → (IsOneOf rest 58 → ⊥) → text ≡ before ++ rest → HasItsColon text a
with_colon text before rest (ip.V4 a) s none is = λ i. by (of_joined before rest 58 (subst (λ (t : List ℕ). IsOneOf t 58) is i))
  where
    by : IsOneOf before 58 ⊎ IsOneOf rest 58 → ⊥
    by (inl j) = no_colon_address a.0 s.1 (subst (λ (t : List ℕ). IsOneOf t 58) s.0 j)
    by (inr j) = none j
with_colon text before rest (ip.V6 a) s none is = subst (λ (t : List ℕ). IsOneOf t 58) (sym is) (in_front before rest 58 (ip6_colon before a.0 s))

slash_digits : (digits : List ℕ) → (IsOneOf digits 58 → ⊥) → IsOneOf (47 ∷ digits) 58 → ⊥
slash_digits digits none (inl e) = absurd (omega (arith, e))
slash_digits digits none (inr i) = none i

-- an address is of the family that its text is read as, alone and in front of a slash and digits
pub ip_family : (text : List ℕ) (a : Ip) → SpellsIp text a → width_of a ≡ family_bits (width_written text)
ip_family text (ip.V4 a) s = as_written text (ip.V4 a) (λ i. no_colon_address a.0 s.1 (subst (λ (t : List ℕ). IsOneOf t 58) s.0 i)) ∙ sym (written_family text)
ip_family text (ip.V6 a) s = as_written text (ip.V6 a) (ip6_colon text a.0 s) ∙ sym (written_family text)

pub joined_family : (text before digits : List ℕ) (a : Ip) → SpellsIp before a → (IsOneOf digits 58 → ⊥) → text ≡ before ++ 47 ∷ digits → width_of a ≡ family_bits (width_written text)
joined_family text before digits a s none is = as_written text a (with_colon text before (47 ∷ digits) a s (slash_digits digits none) is) ∙ sym (written_family text)

-- ---- slashes

pub no_slash_ip : (text : List ℕ) (a : Ip) → SpellsIp text a → IsOneOf text 47 → ⊥
no_slash_ip text (ip.V4 a) s i = no_slash_address a.0 s.1 (subst (λ (t : List ℕ). IsOneOf t 47) s.0 i)
no_slash_ip text (ip.V6 a) s i = true≢false (sym (in_any (λ c. c == 47) text 47 i (eq-eqb 47 47 refl)) ∙ ip6_no_slash text a.0 s)

-- behind the slash of a text stand the same digits
pub digits_are_one : (text before digits other more : List ℕ) (a b : Ip) → SpellsIp before a → text ≡ before ++ 47 ∷ digits → SpellsIp other b → text ≡ other ++ 47 ∷ more → digits ≡ more
digits_are_one text before digits other more a b s is t be =
    let mine = cut_is 47 text before digits (no_slash_ip before a s) is in
    let theirs = cut_is 47 text other more (no_slash_ip other b t) be in
    ap (λ (p : List ℕ × List ℕ). p.1) (same_Some (before, digits) (other, more) (sym mine ∙ theirs))

-- ---- the parts of a network's text

pub record HasParts (text : List ℕ) (n : Net) : Type 0 where
  pub before : List ℕ
  pub spelled : SpellsIp before (address_of n)
  pub is : text ≡ before ++ 47 ∷ decimal (len_of n)
  pub short : len_of n ≤ width_of (address_of n)

pub parts_of : (text : List ℕ) (n : Net) → SpellsNet text n → HasParts text n
parts_of text (net.V4 n) s = record { before = ip4_text n.ip.0; spelled = (refl, s.1); is = s.0; short = n.short }
parts_of text (net.V6 n) s = record { before = s.address; spelled = s.spelled; is = s.row; short = s.most }

most_width : (a : Ip) → width_of a ≤ 128
most_width (ip.V4 a) = omega arith
most_width (ip.V6 a) = omega arith

pub net_family : (text : List ℕ) (n : Net) → SpellsNet text n → width_of (address_of n) ≡ family_bits (width_written text)
net_family text n s =
    let p = parts_of text n s in
    let short = p.short in
    let most = most_width (address_of n) in
    joined_family text p.before (decimal (len_of n)) (address_of n) p.spelled (digits_alone (len_of n) 58 (omega (arith, short, most)) (inr refl)) p.is

-- ---- what is read

four_bits : (width : ℕ) → 32 ≡ family_bits width → (width == 128) ≡ false
four_bits width is = by (width == 128) refl is
  where
    by : (b : Bool) → (width == 128) ≡ b → ◌≡◌ {A = ℕ} 32 (if b then 128 else 32) → (width == 128) ≡ false
    by true e is = absurd (omega (arith, is))
    by false e is = e

six_bits : (width : ℕ) → 128 ≡ family_bits width → (width == 128) ≡ true
six_bits width is = by (width == 128) refl is
  where
    by : (b : Bool) → (width == 128) ≡ b → ◌≡◌ {A = ℕ} 128 (if b then 128 else 32) → (width == 128) ≡ true
    by true e is = e
    by false e is = absurd (omega (arith, is))

abbrev read_ip : List ℕ → Bool → Option Ip
read_ip text six = if six then option_map ip6_with (ip6_of text) else option_map ip4_with (ip4_of text)

abbrev read_net : List ℕ → Bool → Option Net
read_net text six = if six then option_map net6_with (net6_of text) else option_map net4_with (net4_of text)

pub ip_none : (width : ℕ) (text : List ℕ) (a : Ip) → ip_in width text ≡ None → width_of a ≡ family_bits width → SpellsIp text a → ⊥
ip_none width text (ip.V4 a) none family s = none-some (ip4_with a.0) (sym none ∙ ap (read_ip text) (four_bits width family) ∙ ap (option_map ip4_with) (ap ip4_of s.0 ∙ ip4_again a.0 s.1))
ip_none width text (ip.V6 a) none family s = none-some (ip6_with a.0) (sym none ∙ ap (read_ip text) (six_bits width family) ∙ ap (option_map ip6_with) (ip6_again text a.0 s))

-- the network is that of the address and the length
pub record IsNetOf (n : Net) (a : Ip) (len : ℕ) : Type 0 where
  pub width : width_of (address_of n) ≡ width_of a
  pub value : ip_value (address_of n) ≡ ip_value a
  pub length : len_of n ≡ len

joined_read : (width : ℕ) (text before : List ℕ) (a : Ip) (len : ℕ) → width_of a ≡ family_bits width → SpellsIp before a → len ≤ width_of a → text ≡ before ++ 47 ∷ decimal len
    → (n : Net) × (net_in width text ≡ Some n) × IsNetOf n a len
joined_read width text before (ip.V4 a) len family s short is = (
  net4_with (a.0, len),
  ap (read_net text) (four_bits width family) ∙ ap (option_map net4_with) (ap net4_of written ∙ net4_again a.0 len s.1 short),
  record { width = refl; value = refl; length = min-eq_left short },
)
  where
    written : text ≡ net4_text a.0 len
    written = is ∙ ap (λ (w : List ℕ). w ++ 47 ∷ decimal len) s.0
joined_read width text before (ip.V6 a) len family s short is = (
  net6_with (a.0, len),
  ap (read_net text) (six_bits width family) ∙ ap (option_map net6_with) (net6_again text a.0 len (record { address = before; row = is; spelled = s; most = short })),
  record { width = refl; value = refl; length = min-eq_left short },
)

pub net_none : (width : ℕ) (text before : List ℕ) (a : Ip) (len : ℕ) → net_in width text ≡ None → width_of a ≡ family_bits width → SpellsIp before a → len ≤ width_of a → text ≡ before ++ 47 ∷ decimal len → ⊥
net_none width text before a len none family s short is = let r = joined_read width text before a len family s short is in none-some r.0 (sym none ∙ r.1)

pub net_same : (width : ℕ) (text : List ℕ) (n : Net) (before : List ℕ) (a : Ip) (len : ℕ) → net_in width text ≡ Some n → width_of a ≡ family_bits width → SpellsIp before a → len ≤ width_of a → text ≡ before ++ 47 ∷ decimal len → IsNetOf n a len
net_same width text n before a len e family s short is = let r = joined_read width text before a len family s short is in subst (λ (m : Net). IsNetOf m a len) (same_Some r.0 n (sym r.1 ∙ e)) r.2

-- what isn't read spells no network of the family
pub no_network : (width : ℕ) (text : List ℕ) (n : Net) → net_in width text ≡ None → SpellsNet text n → width_of (address_of n) ≡ family_bits width → ⊥
no_network width text n none s family = let p = parts_of text n s in net_none width text p.before (address_of n) (len_of n) none family p.spelled p.short p.is

-- what is read has no more bits behind its length than what is spelled
pub same_bits : (width : ℕ) (text : List ℕ) (n : Net) → net_in width text ≡ Some n → SpellsNetworkOf width text → HasNoHostBits n
same_bits width text n e m =
    let spelled = m.0 in
    let p = parts_of text spelled.net spelled.is in
    let r = net_same width text n p.before (address_of spelled.net) (len_of spelled.net) e m.1 p.spelled p.short p.is in
    ap₂ (λ (v h : ℕ). v % 2 ^ h) r.value (ap₂ (λ (w l : ℕ). w - l) r.width r.length) ∙ spelled.whole

-- ---- rows of families

pub same_room : (a b : Ip) → width_of a ≡ width_of b → most_vip_len a ≡ most_vip_len b
same_room a b same = ap (λ f. f.most_vip_len) (one_family a b same)

pub room_short : (a : Ip) → most_vip_len a ≤ width_of a
room_short (ip.V4 a) = omega arith
room_short (ip.V6 a) = omega arith
