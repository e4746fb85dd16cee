-- Texts that spell addresses and networks, with no fault.
use Rattle.std.proofs.Common.{◌≡◌, ℕ, ◌+◌, ◌*◌, ◌%◌, ◌^◌, ◌<◌, ◌≤◌, ◌&&◌, ◌||◌, not, Bool, true, false, List, [], ◌∷◌, length, Option, Some, None, refl, sym, ap, ap₂, ◌∙◌, subst, arith, leb-true, eqb-true}
use Rattle.std.specs.Prelude.{nat_le, ◌==◌, IsTrue, if◌then◌else◌, bit_and, min, unwrap_or}
use Rattle.std.specs.Char.{digit_value, is_ascii_hexdigit}
use Rattle.std.specs.List.{AllByRecursion, list_any}
use Rattle.std.specs.Option.{option_map}
use Rattle.std.proofs.Math.Nat.{min-eq_left, min-le_right}
use Rattle.std.proofs.lemmas.Bool.{and_parts, or_parts, eqb-false}
use Rattle.std.proofs.lemmas.Bool.Decides.{nat_tests}
use Rattle.std.proofs.lemmas.Nat.{and_block}
use Rattle.std.proofs.lemmas.Option.{same_Some}
use Rattle.net_base.specs.Address.{IsSixBytes, IsPair, SpellsBehind, SpellsMac, mac_value, net4_text}
use Rattle.net_base.specs.Address6.{SpellsNet6}
use Rattle.net_base.specs.AddressReading.{spelled_mac, ip4_of, net4_of}
use Rattle.net_base.specs.Address6Reading.{ip6_of, net6_of}
use Rattle.net_base.proofs.Addresses.{mac_ok, ip4_ok, net4_ok}
use Rattle.net_base.proofs.Groups.{ip6_ok, net6_ok}
use Rattle.conf_types.specs.declared.address.Ip.{Ip}
use Rattle.conf_types.specs.declared.address.Net.{Net}
use Rattle.conf_types.specs.Families as families
use Rattle.conf_types.specs.Families.{family_of, ip_value, width_of, address_of, len_of, host_bits}
use Rattle.conf_types.specs.Networks.{HasNoHostBits}
use Rattle.conf_types.specs.Valid.{IsStation, IsVip}
use Rattle.conf_shape.specs.declared.refused.ConfCause.TheVariants.{OutOfRange, BadText}
use Rattle.conf_shape.specs.Addresses.{is_group, is_zero, station_fault, station_cause, is_masked, has_colon, width_written, ip4_with, ip6_with, net4_with, net6_with, ip_in, net_in, other_cause, leaves_room, has_no_host_bits, vip_fault, network_fault, vip_cause, destination_cause, identifier_fault, identifier_cause}
use Rattle.conf_shape.specs.Values.{mac_or_zero, mac_of, ip_or_zero, ip_of, net_or_zero, net_of, identifier_of}
use Rattle.law_checks.specs.Values.{SpellsIp, SpellsNet}
use Rattle.law_checks.proofs.Texts6.{ip6_below}

-- ---- Ethernet addresses

hex_below : (c : ℕ) → IsTrue (is_ascii_hexdigit c) → digit_value c < 16
hex_below c h = grind (arith, nat_tests)

pair_below : (a b byte : ℕ) → IsPair a b byte → byte < 256
pair_below a b byte p = let high = hex_below a p.first in let low = hex_below b p.second in omega (arith, p.value, high, low)

behind_below : (text bytes : List ℕ) → SpellsBehind text bytes → AllByRecursion (λ byte. byte < 256) bytes
behind_below text [] s = tt
behind_below text (b ∷ bs) s = (pair_below s.0 s.1 b s.4, behind_below s.2 bs s.5)

pub spelled_six : (text bytes : List ℕ) → spelled_mac text ≡ Some bytes → IsSixBytes bytes
spelled_six text bytes e = by bytes (mac_ok text bytes e)
  where
    by : (bytes : List ℕ) → SpellsMac text bytes → IsSixBytes bytes
    by [] s = absurd s
    by (b ∷ bs) s = record { count = let five : length bs ≡ 5 = s.6 in omega arith; each = (pair_below s.0 s.1 b s.4, behind_below s.2 bs s.5) }

some_byte : (bytes : List ℕ) → is_zero bytes ≡ false → list_any (λ b. not (b == 0)) bytes ≡ true
some_byte [] e = absurd cc
some_byte (b ∷ bs) e = by (b == 0) (some_byte bs) e
  where
    by : (zero : Bool) → (is_zero bs ≡ false → list_any (λ b. not (b == 0)) bs ≡ true) → (zero && is_zero bs) ≡ false → (not zero || list_any (λ b. not (b == 0)) bs) ≡ true
    by true more e = more e
    by false more e = refl

station_is : (mac : List ℕ) → IsSixBytes mac → is_group mac ≡ false → is_zero mac ≡ false → IsStation mac
station_is [] six group zero = absurd (omega (arith, six.count))
station_is (b ∷ bs) six group zero = record {
  six = six.count;
  each = six.each;
  individual = let odd : b % 2 ≡ 1 → ⊥ = eqb-false (b % 2) 1 group in omega arith;
  not_zero = some_byte (b ∷ bs) zero;
}

pub station_right : (text : List ℕ) → station_cause text ≡ None → IsStation (mac_of text).0
station_right text e = by (spelled_mac text) refl e
  where
    by : (read : Option (List ℕ)) → spelled_mac text ≡ read → station_fault read ≡ None → IsStation (mac_or_zero read).0
    by None r e = absurd cc
    by (Some mac) r e = tested (is_group mac || is_zero mac) refl e
      where
        tested : (is : Bool) → (is_group mac || is_zero mac) ≡ is → (if is then Some OutOfRange else None) ≡ None → IsStation mac
        tested true is e = absurd cc
        tested false is e = let none = or_parts (is_group mac) (is_zero mac) is in station_is mac (spelled_six text mac r) none.0 none.1

-- ---- Ethernet addresses with masks

joined : (x y r s : ℕ) → r < 256 → s < 256 → bit_and x y ≡ x → bit_and r s ≡ r → bit_and (x * 2 ^ 8 + r) (y * 2 ^ 8 + s) ≡ x * 2 ^ 8 + r
joined x y r s a b e f = and_block 8 x y r s a b ∙ ap₂ (λ (m n : ℕ). m * 2 ^ 8 + n) e f

six_masked : (a b c d e f p q r s t u : ℕ) → AllByRecursion (λ byte. byte < 256) (a ∷ b ∷ c ∷ d ∷ e ∷ f ∷ []) → AllByRecursion (λ byte. byte < 256) (p ∷ q ∷ r ∷ s ∷ t ∷ u ∷ [])
    → is_masked (a ∷ b ∷ c ∷ d ∷ e ∷ f ∷ []) (p ∷ q ∷ r ∷ s ∷ t ∷ u ∷ []) ≡ true
    → bit_and (mac_value (record { 0 = a ∷ b ∷ c ∷ d ∷ e ∷ f ∷ [] })) (mac_value (record { 0 = p ∷ q ∷ r ∷ s ∷ t ∷ u ∷ [] })) ≡ mac_value (record { 0 = a ∷ b ∷ c ∷ d ∷ e ∷ f ∷ [] })
six_masked a b c d e f p q r s t u v m is =
    let i = and_parts (bit_and a p == a) _ is in
    let j = and_parts (bit_and b q == b) _ i.1 in
    let k = and_parts (bit_and c r == c) _ j.1 in
    let l = and_parts (bit_and d s == d) _ k.1 in
    let n = and_parts (bit_and e t == e) _ l.1 in
    let o = and_parts (bit_and f u == f) _ n.1 in
    let two = joined a p b q v.1.0 m.1.0 (eqb-true (bit_and a p) a i.0) (eqb-true (bit_and b q) b j.0) in
    let three = joined (a * 2 ^ 8 + b) (p * 2 ^ 8 + q) c r v.1.1.0 m.1.1.0 two (eqb-true (bit_and c r) c k.0) in
    let four = joined ((a * 2 ^ 8 + b) * 2 ^ 8 + c) ((p * 2 ^ 8 + q) * 2 ^ 8 + r) d s v.1.1.1.0 m.1.1.1.0 three (eqb-true (bit_and d s) d l.0) in
    let five = joined (((a * 2 ^ 8 + b) * 2 ^ 8 + c) * 2 ^ 8 + d) (((p * 2 ^ 8 + q) * 2 ^ 8 + r) * 2 ^ 8 + s) e t v.1.1.1.1.0 m.1.1.1.1.0 four (eqb-true (bit_and e t) e n.0) in
    let six = joined ((((a * 2 ^ 8 + b) * 2 ^ 8 + c) * 2 ^ 8 + d) * 2 ^ 8 + e) ((((p * 2 ^ 8 + q) * 2 ^ 8 + r) * 2 ^ 8 + s) * 2 ^ 8 + t) f u v.1.1.1.1.1.0 m.1.1.1.1.1.0 five (eqb-true (bit_and f u) f o.0) in
    ap₂ bit_and (in_steps a b c d e f) (in_steps p q r s t u) ∙ six ∙ sym (in_steps a b c d e f)
  where
    in_steps : (a b c d e f : ℕ) → mac_value (record { 0 = a ∷ b ∷ c ∷ d ∷ e ∷ f ∷ [] }) ≡ ((((a * 2 ^ 8 + b) * 2 ^ 8 + c) * 2 ^ 8 + d) * 2 ^ 8 + e) * 2 ^ 8 + f
    in_steps a b c d e f = omega arith

-- a list of six bytes, taken apart
by_six : (P : List ℕ → Type 0) → ((a b c d e f : ℕ) → AllByRecursion (λ byte. byte < 256) (a ∷ b ∷ c ∷ d ∷ e ∷ f ∷ []) → P (a ∷ b ∷ c ∷ d ∷ e ∷ f ∷ [])) → (bytes : List ℕ) → IsSixBytes bytes → P bytes
by_six P each [] six = absurd (omega (arith, six.count))
by_six P each (a ∷ []) six = absurd (omega (arith, six.count))
by_six P each (a ∷ b ∷ []) six = absurd (omega (arith, six.count))
by_six P each (a ∷ b ∷ c ∷ []) six = absurd (omega (arith, six.count))
by_six P each (a ∷ b ∷ c ∷ d ∷ []) six = absurd (omega (arith, six.count))
by_six P each (a ∷ b ∷ c ∷ d ∷ e ∷ []) six = absurd (omega (arith, six.count))
by_six P each (a ∷ b ∷ c ∷ d ∷ e ∷ f ∷ []) six = each a b c d e f six.each
by_six P each (a ∷ b ∷ c ∷ d ∷ e ∷ f ∷ g ∷ more) six = absurd (omega (arith, six.count))

-- no bit of the number stands outside the mask
pub masked_value : (value mask : List ℕ) → IsSixBytes value → IsSixBytes mask → is_masked value mask ≡ true → bit_and (mac_value (record { 0 = value })) (mac_value (record { 0 = mask })) ≡ mac_value (record { 0 = value })
masked_value value mask v m =
    by_six (λ value. is_masked value mask ≡ true → bit_and (mac_value (record { 0 = value })) (mac_value (record { 0 = mask })) ≡ mac_value (record { 0 = value }))
    (λ a b c d e f bytes. by_six (λ mask. is_masked (a ∷ b ∷ c ∷ d ∷ e ∷ f ∷ []) mask ≡ true → bit_and (mac_value (record { 0 = a ∷ b ∷ c ∷ d ∷ e ∷ f ∷ [] })) (mac_value (record { 0 = mask })) ≡ mac_value (record { 0 = a ∷ b ∷ c ∷ d ∷ e ∷ f ∷ [] }))
    (λ p q r s t u masks. six_masked a b c d e f p q r s t u bytes masks) mask m) value v

-- ---- IP addresses

-- what is read of a text, in the family of so many bits
pub record IsReadIp (width : ℕ) (text : List ℕ) (ip : Ip) : Type 0 where
  pub spelled : SpellsIp text ip
  pub fits : families.IsAddress ip
  pub family : width_of ip ≡ (if width == 128 then 128 else 32)

abbrev Reads : List ℕ → Bool → Ip → Type 0
Reads text six ip = SpellsIp text ip × families.IsAddress ip × (width_of ip ≡ (if six then 128 else 32))

pub ip_ok : (width : ℕ) (text : List ℕ) (ip : Ip) → ip_in width text ≡ Some ip → IsReadIp width text ip
ip_ok width text ip e = let r = by (width == 128) e in record { spelled = r.0; fits = r.1; family = r.2 }
  where
    six : (read : Option ℕ) → ip6_of text ≡ read → option_map ip6_with read ≡ Some ip → Reads text true ip
    six None r e = absurd cc
    six (Some n) r e = let s = ip6_ok text n r in subst (Reads text true) (same_Some (ip6_with n) ip e) (s, ip6_below text n s, refl)

    four : (read : Option ℕ) → ip4_of text ≡ read → option_map ip4_with read ≡ Some ip → Reads text false ip
    four None r e = absurd cc
    four (Some n) r e = let s = ip4_ok text n r in subst (Reads text false) (same_Some (ip4_with n) ip e) ((s.0, s.1), s.1, refl)

    by : (is : Bool) → (if is then option_map ip6_with (ip6_of text) else option_map ip4_with (ip4_of text)) ≡ Some ip → Reads text is ip
    by true e = six (ip6_of text) refl e
    by false e = four (ip4_of text) refl e

-- ---- networks

pub record IsReadNet (width : ℕ) (text : List ℕ) (net : Net) : Type 0 where
  pub spelled : SpellsNet text net
  pub fits : families.IsAddress (address_of net)
  pub short : len_of net ≤ width_of (address_of net)
  pub family : width_of (address_of net) ≡ (if width == 128 then 128 else 32)

abbrev ReadsNet : List ℕ → Bool → Net → Type 0
ReadsNet text six net = SpellsNet text net × families.IsAddress (address_of net) × (len_of net ≤ width_of (address_of net)) × (width_of (address_of net) ≡ (if six then 128 else 32))

pub net_ok : (width : ℕ) (text : List ℕ) (net : Net) → net_in width text ≡ Some net → IsReadNet width text net
net_ok width text net e = let r = by (width == 128) e in record { spelled = r.0; fits = r.1; short = r.2; family = r.3 }
  where
    six : (read : Option (ℕ × ℕ)) → net6_of text ≡ read → option_map net6_with read ≡ Some net → ReadsNet text true net
    six None r e = absurd cc
    six (Some n) r e =
        let s = net6_ok text n r in
        let same : min n.1 128 ≡ n.1 = min-eq_left s.most in
        subst (ReadsNet text true) (same_Some (net6_with n) net e) (subst (SpellsNet6 text n.0) (sym same) s, ip6_below s.address n.0 s.spelled, min-le_right n.1 128, refl)

    four : (read : Option (ℕ × ℕ)) → net4_of text ≡ read → option_map net4_with read ≡ Some net → ReadsNet text false net
    four None r e = absurd cc
    four (Some n) r e =
        let s = net4_ok text n r in
        let same : min n.1 32 ≡ n.1 = min-eq_left s.2 in
        subst (ReadsNet text false) (same_Some (net4_with n) net e) ((s.0 ∙ ap (net4_text n.0) (sym same), s.1), s.1, min-le_right n.1 32, refl)

    by : (is : Bool) → (if is then option_map net6_with (net6_of text) else option_map net4_with (net4_of text)) ≡ Some net → ReadsNet text is net
    by true e = six (net6_of text) refl e
    by false e = four (net4_of text) refl e

-- the family that a text is read as
pub written_family : (text : List ℕ) → (if width_written text == 128 then 128 else 32) ≡ width_written text
written_family text = by (has_colon text)
  where
    by : (has : Bool) → ◌≡◌ {A = ℕ} (if (if has then 128 else 32) == 128 then 128 else 32) (if has then 128 else 32)
    by true = refl
    by false = refl

pub vip_right : (text : List ℕ) → vip_cause text ≡ None → IsVip (net_of text)
vip_right text e = by (net_in (width_written text) text) refl e
  where
    by : (read : Option Net) → net_in (width_written text) text ≡ read → vip_fault (other_cause (width_written text) text) read ≡ None → IsVip (net_or_zero read)
    by None r e = absurd cc
    by (Some net) r e = tested (leaves_room net) refl e
      where
        tested : (is : Bool) → leaves_room net ≡ is → (if is then None else Some OutOfRange) ≡ None → IsVip net
        tested false is e = absurd cc
        tested true is e =
            let ok = net_ok (width_written text) text net r in
            let most = (family_of (address_of net)).most_vip_len in
            let both = and_parts (nat_le 1 (len_of net)) (nat_le (len_of net) most) is in
            record { address = ok.fits; least = leb-true 1 (len_of net) both.0; most = leb-true (len_of net) most both.1 }

-- the destination of a route; a text that isn't there, as no text at all, stands for zeros
pub record IsDestination (text : List ℕ) : Type 0 where
  pub address : families.IsAddress (address_of (net_of text))
  pub length : len_of (net_of text) ≤ width_of (address_of (net_of text))
  pub network : HasNoHostBits (net_of text)

net_zero : (text : List ℕ) → net_in (width_written text) text ≡ None → IsDestination text
net_zero text e = record {
  address = subst (λ read. families.IsAddress (address_of (net_or_zero read))) (sym e) (omega arith);
  length = subst (λ read. len_of (net_or_zero read) ≤ width_of (address_of (net_or_zero read))) (sym e) (omega arith);
  network = subst (λ read. HasNoHostBits (net_or_zero read)) (sym e) refl;
}

no_net : net_in (width_written []) [] ≡ None
unfolding net4_of
no_net = refl

pub no_network : IsDestination []
no_network = net_zero [] no_net

pub network_right : (text : List ℕ) → destination_cause text ≡ None → IsDestination text
network_right text e = by (net_in (width_written text) text) refl e
  where
    by : (read : Option Net) → net_in (width_written text) text ≡ read → network_fault (other_cause (width_written text) text) read ≡ None → IsDestination text
    by None r e = absurd cc
    by (Some net) r e = tested (has_no_host_bits net) refl e
      where
        tested : (is : Bool) → has_no_host_bits net ≡ is → (if is then None else Some BadText) ≡ None → IsDestination text
        tested false is e = absurd cc
        tested true is e =
            let ok = net_ok (width_written text) text net r in
            record {
              address = subst (λ read. families.IsAddress (address_of (net_or_zero read))) (sym r) ok.fits;
              length = subst (λ read. len_of (net_or_zero read) ≤ width_of (address_of (net_or_zero read))) (sym r) ok.short;
              network = subst (λ read. HasNoHostBits (net_or_zero read)) (sym r) (eqb-true (ip_value (address_of net) % 2 ^ host_bits net) 0 is);
            }

pub gateway_below : (text : List ℕ) → families.IsAddress (ip_of text)
gateway_below text = by (ip_in (width_written text) text) refl
  where
    by : (read : Option Ip) → ip_in (width_written text) text ≡ read → families.IsAddress (ip_or_zero read)
    by None r = omega arith
    by (Some ip) r = (ip_ok (width_written text) text ip r).fits

-- ---- what speakers of BGP are called

pub identifier_below : (text : List ℕ) → (identifier_of text).0 < 2 ^ 32
identifier_below text = by (ip4_of text) refl
  where
    by : (read : Option ℕ) → ip4_of text ≡ read → unwrap_or read 0 < 2 ^ 32
    by None r = omega arith
    by (Some ip) r = (ip4_ok text ip r).1

pub identifier_right : (text : List ℕ) → identifier_cause text ≡ None → 1 ≤ (identifier_of text).0
identifier_right text e = by (ip4_of text) e
  where
    by : (read : Option ℕ) → identifier_fault read ≡ None → 1 ≤ unwrap_or read 0
    by None e = absurd cc
    by (Some ip) e = tested (ip == 0) refl e
      where
        tested : (is : Bool) → (ip == 0) ≡ is → (if is then Some OutOfRange else None) ≡ None → 1 ≤ ip
        tested true is e = absurd cc
        tested false is e = let other : ip ≡ 0 → ⊥ = eqb-false ip 0 is in omega arith
