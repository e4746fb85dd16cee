-- What is wrong with a text that has to spell an address or a network, or that it is right.
use Rattle.std.specs.Prelude.{◌≡◌, ℕ, ◌+◌, ◌%◌, ◌^◌, ◌<◌, ◌≤◌, ◌⊎◌, ◌&&◌, Bool, true, false, List, [], ◌∷◌, ◌++◌, codes, Option, Some, None, nat_le, ◌==◌, if◌then◌else◌, IsTrue}
use Rattle.std.specs.Char.{is_ascii_digit}
use Rattle.std.specs.Int.{is_in_range}
use Rattle.std.specs.List.{AllByRecursion, list_all}
use Rattle.std.specs.Str.{bytes_eq}
use Rattle.std.proofs.Common.{inl, inr, refl, sym, ap, ◌∙◌, subst, arith, true≢false, leb-true, leb-false, eqb-true}
use Rattle.std.proofs.lemmas.Bool.{and_parts, and_from, eqb-false, le-leb}
use Rattle.std.proofs.lemmas.Option.{none-some}
use Rattle.std.proofs.lemmas.Bool.Decides.{nat_tests}
use Rattle.std.proofs.lemmas.Slice.Eq.{bytes_eq-Decides}
use Rattle.net_base.specs.Address.{ip4_text}
use Rattle.net_base.specs.Address as address
use Rattle.net_base.specs.AddressReading.{ip4_of, cut_at}
use Rattle.net_base.proofs.Addresses.{ip4_again, ip4_ok}
use Rattle.yaml_tree.specs.declared.tree.Tree.TheOpen as tree
use Rattle.conf_types.specs.declared.address.Ip.{Ip}
use Rattle.conf_types.specs.declared.address.Ip.TheVariants as ip
use Rattle.conf_types.specs.declared.address.Net.{Net}
use Rattle.conf_types.specs.Families.{ip_value, width_of, address_of, len_of, host_bits}
use Rattle.conf_shape.specs.declared.kinds.Scalar.{Scalar}
use Rattle.conf_shape.specs.declared.kinds.Scalar.TheVariants.{Flag, Number, Name, Words, Label, Reference, Permission, NoEffect, StationMac, MaskedMac, Vip, Destination, Gateway, Prefix, Address, Identifier, Passive}
use Rattle.conf_shape.specs.declared.refused.ConfCause.{ConfCause}
use Rattle.conf_shape.specs.declared.refused.ConfCause.TheVariants.{LeftOut, OutOfRange, BadText}
use Rattle.conf_shape.specs.Addresses.{width_written, ip_in, net_in, is_length, long_behind, long_parts, other_cause, leaves_room, has_no_host_bits, vip_fault, network_fault, network_cause, address_cause, address_or, vip_cause, destination_cause, gateway_cause, prefix_cause, identifier_fault, identifier_cause}
use Rattle.conf_shape.specs.Scalars.{unless, text_fault}
use Rattle.law_checks.specs.Values.{SpellsIp}
use Rattle.law_checks.proofs.Addresses.{ip_ok, net_ok}
use Rattle.law_keys.specs.Causes.{AreDigits, HasLengthOutside, HasLengthOutsideOf, most_vip_len}
use Rattle.law_keys.specs.Grammar.{IsOneOf, SpellsNetworkOf, family_bits}
use Rattle.law_keys.proofs.Texts.{cut_there, no_cut, same_cut}
use Rattle.law_keys.proofs.Scalars.{Holds, Told, name_told, station_told, masked_told}
use Rattle.law_keys.proofs.Spelled.{ip_family, joined_family, no_slash_ip, digits_are_one, parts_of, net_family, ip_none, net_none, net_same, no_network, same_bits, room_short}

-- ---- digits behind a slash

digits_are : (digits : List ℕ) → is_length digits ≡ true → AreDigits digits
digits_are [] is = absurd (true≢false (sym is))
digits_are (d ∷ ds) is = let both = and_parts (is_in_range 49 57 d) (list_all is_ascii_digit ds) is in (both.0, each ds both.1)
  where
    each : (ds : List ℕ) → list_all is_ascii_digit ds ≡ true → AllByRecursion (λ d. IsTrue (is_ascii_digit d)) ds
    each [] is = tt
    each (d ∷ ds) is = let both = and_parts (is_ascii_digit d) (list_all is_ascii_digit ds) is in (both.0, each ds both.1)

digits_tests : (digits : List ℕ) → AreDigits digits → is_length digits ≡ true
digits_tests [] a = absurd a
digits_tests (d ∷ ds) a = and_from (is_in_range 49 57 d) (list_all is_ascii_digit ds) a.0 (each ds a.1)
  where
    each : (ds : List ℕ) → AllByRecursion (λ d. IsTrue (is_ascii_digit d)) ds → list_all is_ascii_digit ds ≡ true
    each [] all = refl
    each (d ∷ ds) all = and_from (is_ascii_digit d) (list_all is_ascii_digit ds) all.0 (each ds all.1)

-- a colon is no digit
no_colon_digit : (d : ℕ) → IsTrue (is_ascii_digit d) → d ≡ 58 → ⊥
no_colon_digit d h e = grind (arith, nat_tests)

no_colon_first : (d : ℕ) → IsTrue (is_in_range 49 57 d) → d ≡ 58 → ⊥
no_colon_first d h e = grind (arith, nat_tests)

digits_colon : (digits : List ℕ) → AreDigits digits → IsOneOf digits 58 → ⊥
digits_colon [] a i = i
digits_colon (d ∷ ds) a (inl e) = no_colon_first d a.0 e
digits_colon (d ∷ ds) a (inr i) = behind ds a.1 i
  where
    behind : (ds : List ℕ) → AllByRecursion (λ d. IsTrue (is_ascii_digit d)) ds → IsOneOf ds 58 → ⊥
    behind [] all i = i
    behind (d ∷ ds) all (inl e) = no_colon_digit d all.0 e
    behind (d ∷ ds) all (inr i) = behind ds all.1 i

zero_colon : IsOneOf {A = ℕ} (48 ∷ []) 58 → ⊥
zero_colon (inl e) = absurd (omega (arith, e))
zero_colon (inr i) = i

-- a length that is outside stands behind an address of the family that the text is read as
pub long_family : (least : ℕ) (most : Ip → ℕ) (text : List ℕ) (o : HasLengthOutside least most text) → width_of o.ip ≡ family_bits (width_written text)
long_family least most text o = joined_family text o.before o.digits o.ip o.spelled (λ i. by o.number i) o.is
  where
    by : AreDigits o.digits ⊎ (o.digits ≡ 48 ∷ []) → IsOneOf o.digits 58 → ⊥
    by (inl a) i = digits_colon o.digits a i
    by (inr z) i = zero_colon (subst (λ (d : List ℕ). IsOneOf d 58) z i)

-- ---- texts that spell no network

abbrev IsLong : ℕ → ℕ → (Ip → ℕ) → List ℕ → Type 0
IsLong width least most text = (o : HasLengthOutside least most text) × (width_of o.ip ≡ family_bits width)

abbrev OtherTold : ℕ → ℕ → (Ip → ℕ) → List ℕ → ConfCause → Type 0
OtherTold width least most text OutOfRange = IsLong width least most text
OtherTold width least most text BadText = IsLong width least most text → ⊥
OtherTold width least most text _ = ⊥

module _ (width least : ℕ) (most : Ip → ℕ) (short : (a : Ip) → most a ≤ width_of a) (text : List ℕ) (none : net_in width text ≡ None) where
  module _ (parts : List ℕ × List ℕ) (cut : cut_at 47 text ≡ Some parts) where
    is : text ≡ parts.0 ++ 47 ∷ parts.1
    is = cut_there 47 text parts cut

    cut_as : (o : HasLengthOutside least most text) → parts ≡ (o.before, o.digits)
    cut_as o = same_cut 47 text o.before o.digits parts cut (no_slash_ip o.before o.ip o.spelled) o.is

    tested : (a : Ip) → ip_in width parts.0 ≡ Some a → (b : Bool) → is_length parts.1 ≡ b → OtherTold width least most text (if b then OutOfRange else BadText)
    tested a e true digits =
        let ok = ip_ok width parts.0 a e in (
          record {
            ip = a;
            before = parts.0;
            digits = parts.1;
            spelled = ok.spelled;
            is = is;
            number = inl (digits_are parts.1 digits);
            outside = λ len low high d. let fits = short a in net_none width text parts.0 a len none ok.family ok.spelled (omega (arith, high, fits)) (is ∙ ap (λ w. parts.0 ++ 47 ∷ w) d);
          },
          ok.family,
        )
    tested a e false digits = λ o. by o.0 o.1
      where
        by : (o : HasLengthOutside least most text) → width_of o.ip ≡ family_bits width → ⊥
        by o family = either o.number
          where
            either : AreDigits o.digits ⊎ (o.digits ≡ 48 ∷ []) → ⊥
            either (inl a) = true≢false (sym (ap (λ (p : List ℕ × List ℕ). is_length p.1) (cut_as o) ∙ digits_tests o.digits a) ∙ digits)
            either (inr z) = net_none width text o.before o.ip 0 none family o.spelled (omega arith) (o.is ∙ ap (λ w. o.before ++ 47 ∷ w) z)

    behind : (read : Option Ip) → ip_in width parts.0 ≡ read → OtherTold width least most text (long_behind read parts.1)
    behind None e = λ o. by o.0 o.1
      where
        by : (o : HasLengthOutside least most text) → width_of o.ip ≡ family_bits width → ⊥
        by o family = ip_none width parts.0 o.ip e family (subst (λ (p : List ℕ × List ℕ). SpellsIp p.0 o.ip) (sym (cut_as o)) o.spelled)
    behind (Some a) e = tested a e (is_length parts.1) refl

  other_told : OtherTold width least most text (other_cause width text)
  other_told = by (cut_at 47 text) refl
    where
      without : cut_at 47 text ≡ None → HasLengthOutside least most text → ⊥
      without e o = no_cut 47 text o.before o.digits e (no_slash_ip o.before o.ip o.spelled) o.is

      by : (o : Option (List ℕ × List ℕ)) → cut_at 47 text ≡ o → OtherTold width least most text (long_parts width o)
      by None e = λ o. without e o.0
      by (Some parts) e = behind parts e (ip_in width parts.0) refl

-- ---- VIPs

few_in : (width most n : ℕ) → width ≡ most + 1 → n ≤ width → (nat_le 1 n && nat_le n most) ≡ false → (n ≡ 0) ⊎ (n ≡ width)
few_in width most n one le other = by (nat_le 1 n) (nat_le n most) refl refl other
  where
    by : (a b : Bool) → nat_le 1 n ≡ a → nat_le n most ≡ b → (a && b) ≡ false → (n ≡ 0) ⊎ (n ≡ width)
    by true true e f both = absurd (true≢false both)
    by true false e f both = inr (let l = leb-false n most f in omega (arith, le, l, one))
    by false b e f both = inl (let l = leb-false 1 n e in omega (arith, l))

few : (a : Ip) (n : ℕ) → n ≤ width_of a → (nat_le 1 n && nat_le n (most_vip_len a)) ≡ false → (n ≡ 0) ⊎ (n ≡ width_of a)
few (ip.V4 a) n le other = few_in 32 31 n refl le other
few (ip.V6 a) n le other = few_in 128 127 n refl le other

few_digits : (a : Ip) (n : ℕ) → (n ≡ 0) ⊎ (n ≡ width_of a) → AreDigits (address.decimal n) ⊎ (address.decimal n ≡ 48 ∷ [])
few_digits a n (inl e) = inr (ap address.decimal e)
few_digits (ip.V4 a) n (inr e) = inl (subst (λ k. AreDigits (address.decimal k)) (sym e) (refl, (refl, tt)))
few_digits (ip.V6 a) n (inr e) = inl (subst (λ k. AreDigits (address.decimal k)) (sym e) (refl, (refl, (refl, tt))))

-- a network that is read and leaves no room has a length outside
no_room : (width : ℕ) (text : List ℕ) (net : Net) → net_in width text ≡ Some net → leaves_room net ≡ false → HasLengthOutside 1 most_vip_len text
no_room width text net e is =
    let ok = net_ok width text net e in
    let p = parts_of text net ok.spelled in
    record {
      ip = address_of net;
      before = p.before;
      digits = address.decimal (len_of net);
      spelled = p.spelled;
      is = p.is;
      number = few_digits (address_of net) (len_of net) (few (address_of net) (len_of net) ok.short is);
      outside = λ len least most d.
          let fits = room_short (address_of net) in
          let same = net_same width text net p.before (address_of net) len e ok.family p.spelled (omega (arith, most, fits)) (p.is ∙ ap (λ w. p.before ++ 47 ∷ w) d) in
          let one = same.length in
          true≢false (sym (and_from (nat_le 1 (len_of net)) (nat_le (len_of net) (most_vip_len (address_of net))) (le-leb 1 (len_of net) (omega (arith, least, one))) (le-leb (len_of net) (most_vip_len (address_of net)) (omega (arith, most, one)))) ∙ is);
    }

vip_told : (text : List ℕ) → Told Vip (tree.Text text) (vip_cause text)
vip_told text = by (net_in (width_written text) text) refl
  where
    tested : (net : Net) → net_in (width_written text) text ≡ Some net → (b : Bool) → leaves_room net ≡ b → Told Vip (tree.Text text) (if b then None else Some OutOfRange)
    tested net e true is =
        let both = and_parts (nat_le 1 (len_of net)) (nat_le (len_of net) (most_vip_len (address_of net))) is in
        record { net = net; is = (net_ok (width_written text) text net e).spelled; least = leb-true 1 (len_of net) both.0; most = leb-true (len_of net) (most_vip_len (address_of net)) both.1 }
    tested net e false is = no_room (width_written text) text net e is

    other : net_in (width_written text) text ≡ None → (cause : ConfCause) → OtherTold (width_written text) 1 most_vip_len text cause → Holds Vip (tree.Text text) cause
    other e OutOfRange t = t.0
    other e BadText t = (tt, (λ v. no_network (width_written text) text v.net e v.is (net_family text v.net v.is)), (λ o. t (o, long_family 1 most_vip_len text o)), λ f. f)
    other e _ t = absurd t

    by : (o : Option Net) → net_in (width_written text) text ≡ o → Told Vip (tree.Text text) (vip_fault (other_cause (width_written text) text) o)
    by None e = other e (other_cause (width_written text) text) (other_told (width_written text) 1 most_vip_len room_short text e)
    by (Some net) e = tested net e (leaves_room net) refl

-- ---- networks

abbrev NetworkTold : ℕ → List ℕ → Option ConfCause → Type 0
NetworkTold width text None = SpellsNetworkOf width text
NetworkTold width text (Some OutOfRange) = HasLengthOutsideOf width text
NetworkTold width text (Some BadText) = (SpellsNetworkOf width text → ⊥) × (HasLengthOutsideOf width text → ⊥)
NetworkTold width text (Some _) = ⊥

-- the length of a network that is read is none outside
in_length : (width : ℕ) (text : List ℕ) (net : Net) → net_in width text ≡ Some net → HasLengthOutsideOf width text → ⊥
in_length width text net e o =
    let ok = net_ok width text net e in
    let p = parts_of text net ok.spelled in
    let long = o.0 in
    long.outside (len_of net) (omega arith) (subst (λ (w : ℕ). len_of net ≤ w) (ok.family ∙ sym o.1) ok.short)
    (digits_are_one text long.before long.digits p.before (address.decimal (len_of net)) long.ip (address_of net) long.spelled long.is p.spelled p.is)

network_told : (width : ℕ) (text : List ℕ) → NetworkTold width text (network_cause width text)
network_told width text = by (net_in width text) refl
  where
    tested : (net : Net) → net_in width text ≡ Some net → (b : Bool) → has_no_host_bits net ≡ b → NetworkTold width text (if b then None else Some BadText)
    tested net e true is = let ok = net_ok width text net e in (record { net = net; is = ok.spelled; whole = eqb-true (ip_value (address_of net) % 2 ^ host_bits net) 0 is }, ok.family)
    tested net e false is = ((λ n. eqb-false (ip_value (address_of net) % 2 ^ host_bits net) 0 is (same_bits width text net e n)), in_length width text net e)

    other : net_in width text ≡ None → (cause : ConfCause) → OtherTold width 0 width_of text cause → NetworkTold width text (Some cause)
    other e OutOfRange t = t
    other e BadText t = ((λ n. let spelled = n.0 in no_network width text spelled.net e spelled.is n.1), t)
    other e _ t = absurd t

    by : (o : Option Net) → net_in width text ≡ o → NetworkTold width text (network_fault (other_cause width text) o)
    by None e = other e (other_cause width text) (other_told width 0 width_of (λ a. omega arith) text e)
    by (Some net) e = tested net e (has_no_host_bits net) refl

destination_told : (text : List ℕ) → Told Destination (tree.Text text) (destination_cause text)
destination_told text = by (destination_cause text) (network_told (width_written text) text)
  where
    by : (o : Option ConfCause) → NetworkTold (width_written text) text o → Told Destination (tree.Text text) o
    by None t = t.0
    by (Some OutOfRange) t = t.0
    by (Some BadText) t = (tt, (λ n. t.0 (n, net_family text n.net n.is)), (λ o. t.1 (o, long_family 0 width_of text o)), λ f. f)
    by (Some _) t = absurd t

-- ---- addresses

gateway_told : (text : List ℕ) → Told Gateway (tree.Text text) (gateway_cause text)
gateway_told text = by (ip_in (width_written text) text) refl
  where
    by : (o : Option Ip) → ip_in (width_written text) text ≡ o → Told Gateway (tree.Text text) (address_or (Some BadText) o)
    by None e = (tt, (λ a. ip_none (width_written text) text a.0 e (ip_family text a.0 a.1) a.1), (λ f. f), λ f. f)
    by (Some a) e = (a, (ip_ok (width_written text) text a e).spelled)

address_told : (width : ℕ) (text : List ℕ) → Told (Address width) (tree.Text text) (address_cause width text)
address_told width text = by (ip_in width text) refl
  where
    by : (o : Option Ip) → ip_in width text ≡ o → Told (Address width) (tree.Text text) (address_or (Some BadText) o)
    by None e = (tt, (λ a. ip_none width text a.0 e a.2 a.1), (λ f. f), λ f. f)
    by (Some a) e = let ok = ip_ok width text a e in (a, ok.spelled, ok.family)

prefix_told : (width : ℕ) (text : List ℕ) → Told (Prefix width) (tree.Text text) (prefix_cause width text)
prefix_told width text = by (ip_in width text) refl
  where
    network : ip_in width text ≡ None → (o : Option ConfCause) → NetworkTold width text o → Told (Prefix width) (tree.Text text) o
    network e None t = inr t
    network e (Some OutOfRange) t = t
    network e (Some BadText) t = (tt, (λ f. elim f as (λ _. ⊥) [ inl a ↦ ip_none width text a.0 e a.2 a.1 | inr n ↦ t.0 n ]), t.1, λ f. f)
    network e (Some _) t = absurd t

    by : (o : Option Ip) → ip_in width text ≡ o → Told (Prefix width) (tree.Text text) (address_or (network_cause width text) o)
    by None e = network e (network_cause width text) (network_told width text)
    by (Some a) e = let ok = ip_ok width text a e in inl (a, ok.spelled, ok.family)

no_address : (text : List ℕ) → ip4_of text ≡ None → (n : ℕ) → n < 2 ^ 32 → text ≡ ip4_text n → ⊥
no_address text none n below is = none-some n (sym none ∙ ap ip4_of is ∙ ip4_again n below)

identifier_told : (text : List ℕ) → Told Identifier (tree.Text text) (identifier_cause text)
identifier_told text = by (ip4_of text) refl
  where
    tested : (ip : ℕ) → ip4_of text ≡ Some ip → (b : Bool) → (ip == 0) ≡ b → Told Identifier (tree.Text text) (if b then Some OutOfRange else None)
    tested ip e true is = (ip4_ok text ip e).0 ∙ ap ip4_text (eqb-true ip 0 is)
    tested ip e false is =
        let ok = ip4_ok text ip e in
        let other : ip ≡ 0 → ⊥ = eqb-false ip 0 is in
        (ip, omega arith, ok.1, ok.0)

    by : (o : Option ℕ) → ip4_of text ≡ o → Told Identifier (tree.Text text) (identifier_fault o)
    by None e = (tt, (λ a. no_address text e a.0 a.2 a.3), (λ z. no_address text e 0 (omega arith) z), λ f. f)
    by (Some ip) e = tested ip e (ip == 0) refl

-- ---- words

passive_told : (text : List ℕ) → Told Passive (tree.Text text) (unless (bytes_eq text (codes "passive")) LeftOut)
passive_told text = by (bytes_eq text (codes "passive")) refl
  where
    by : (b : Bool) → bytes_eq text (codes "passive") ≡ b → Told Passive (tree.Text text) (unless b LeftOut)
    by true is = (bytes_eq-Decides text (codes "passive")).0 is
    by false is = λ e. true≢false (sym ((bytes_eq-Decides text (codes "passive")).1 e) ∙ is)

-- ---- texts

pub text_told : (s : Scalar) (text : List ℕ) → Told s (tree.Text text) (text_fault s text)
text_told Flag text = λ f. f
text_told (Number low high) text = λ f. f
text_told Permission text = λ f. elim f as (λ _. ⊥) [ inl a ↦ a | inr b ↦ b ]
text_told Name text = name_told text
text_told Words text = tt
text_told Label text = inl tt
text_told (Reference low high) text = inl tt
text_told NoEffect text = inr (inr tt)
text_told StationMac text = station_told text
text_told MaskedMac text = masked_told text
text_told Vip text = vip_told text
text_told Destination text = destination_told text
text_told Gateway text = gateway_told text
text_told (Prefix width) text = prefix_told width text
text_told (Address width) text = address_told width text
text_told Identifier text = identifier_told text
text_told Passive text = passive_told text
