-- Path attributes at the front of bytes, and their faults one by one.
use Rattle.std.proofs.Common.{◌≡◌, ℕ, suc, ◌+◌, ◌≤◌, ◌<◌, Bool, true, false, cond, lit≤, List, [], ◌∷◌, ◌++◌, length, take, drop, get_or, Option, Some, None, sym, ap, refl, ◌∙◌, arith, length-append, length-drop, drop-cons, add-one}
use Rattle.std.specs.Option.{option_or}
use Rattle.std.proofs.lemmas.List.{length-take-le, take_more, drop_all}
use Rattle.bgp_messages.specs.declared.attribute.Attribute.{Attribute}
use Rattle.bgp_messages.specs.declared.fault.Fault.{Fault}
use Rattle.bgp_messages.specs.Numbers.{number_in, has_bit}
use Rattle.bgp_messages.specs.Grammar.{BeginsNone}
use Rattle.bgp_messages.specs.Attributes.{length_octets, SpellsAttribute, AreSizes, attribute_fault, attributes_fault}
use Rattle.bgp_messages.proofs.Numbers.{number_of_front, number_of_take, same_number, same_front}
use Rattle.bgp_messages.proofs.Joining.{Alone, HasBytes}

-- ---- one attribute

pub attribute_bytes : HasBytes SpellsAttribute
attribute_bytes x f s = omega (arith, s.size)

octets_some : (flags : ℕ) → 1 ≤ length_octets flags
octets_some flags = by (has_bit 16 flags)
  where
    by : (b : Bool) → 1 ≤ cond b 2 1
    by true = lit≤ tt
    by false = lit≤ tt

pub octets_or : (flags : ℕ) → (length_octets flags ≡ 2 → ⊥) → length_octets flags ≡ 1
octets_or flags = by (has_bit 16 flags)
  where
    by : (b : Bool) → (◌≡◌ {A = ℕ} (cond b 2 1) 2 → ⊥) → ◌≡◌ {A = ℕ} (cond b 2 1) 1
    by true n = absurd (n refl)
    by false n = refl

pub attribute_alone : Alone SpellsAttribute
attribute_alone x y f g a b s t e =
    let flags : x.flags ≡ y.flags = sym s.flags ∙ same_number 0 1 f g a b (omega (arith, s.size)) (omega (arith, t.size)) e ∙ t.flags in
    let octets : length_octets x.flags ≡ length_octets y.flags = ap length_octets flags in
    let len : length x.value ≡ length y.value =
    sym s.len ∙ same_number 2 (length_octets x.flags) f g a b (omega (arith, s.size)) (omega (arith, t.size, octets)) e ∙ ap (λ n. number_in 2 n g) octets ∙ t.len in
    let long : length f ≡ length g = omega (arith, s.size, t.size, octets, len) in
    let same = same_front f g a b long e in
    let kind : x.kind ≡ y.kind = sym s.kind ∙ ap (number_in 1 1) same.0 ∙ t.kind in
    let value : x.value ≡ y.value = sym s.value ∙ ap (drop (2 + length_octets x.flags)) same.0 ∙ ap (λ n. drop (2 + n) g) octets ∙ t.value in
    ((λ i. record { flags = flags i; kind = kind i; value = value i }), same.1)

-- ---- reading one

pub attribute_sizes : (head n len : ℕ) (bytes : List ℕ) → head ≡ 2 + length_octets (number_in 0 1 bytes) → len ≡ number_in 2 (length_octets (number_in 0 1 bytes)) bytes
    → n ≡ head + len → n ≤ length bytes → AreSizes head n bytes
attribute_sizes head n len bytes is told whole within =
    let octets = length_octets (number_in 0 1 bytes) in
    let some = octets_some (number_in 0 1 bytes) in
    let front : length (take n bytes) ≡ n = length-take-le n bytes within in
    let size : length (drop head (take n bytes)) ≡ len = omega (arith, length-drop head (take n bytes), front, whole) in
    record {
      begins = record {
        some = omega (arith, whole, is);
        within = within;
        spelled = record {
          flags = number_of_take 0 1 n bytes (omega (arith, whole, is)) within;
          kind = number_of_take 1 1 n bytes (omega (arith, whole, is)) within;
          len = number_of_take 2 octets n bytes (omega (arith, whole, is)) within ∙ sym told ∙ sym size;
          value = ap (λ k. drop k (take n bytes)) (sym is);
          size = omega (arith, front, whole, is, size);
        };
      };
      two = omega (arith, is);
      inside = omega (arith, whole);
    }

told_flags : (bytes : List ℕ) (x : Attribute) (f rest : List ℕ) → SpellsAttribute x f → bytes ≡ f ++ rest → x.flags ≡ number_in 0 1 bytes
told_flags bytes x f rest s e = sym s.flags ∙ sym (number_of_front 0 1 f rest (omega (arith, s.size))) ∙ ap (number_in 0 1) (sym e)

pub attribute_headless : (bytes : List ℕ) → length bytes < 2 + length_octets (number_in 0 1 bytes) → BeginsNone SpellsAttribute bytes
attribute_headless bytes h x f rest s e =
    let octets : length_octets x.flags ≡ length_octets (number_in 0 1 bytes) = ap length_octets (told_flags bytes x f rest s e) in
    omega (arith, h, s.size, octets, ap length e, length-append f rest)

pub attribute_cut : (bytes : List ℕ)
    → length bytes < 2 + length_octets (number_in 0 1 bytes) + number_in 2 (length_octets (number_in 0 1 bytes)) bytes → BeginsNone SpellsAttribute bytes
attribute_cut bytes h x f rest s e =
    let octets : length_octets x.flags ≡ length_octets (number_in 0 1 bytes) = ap length_octets (told_flags bytes x f rest s e) in
    let len : number_in 2 (length_octets (number_in 0 1 bytes)) bytes ≡ length x.value =
    ap (λ n. number_in 2 n bytes) (sym octets) ∙ ap (number_in 2 (length_octets x.flags)) e ∙ number_of_front 2 (length_octets x.flags) f rest (omega (arith, s.size)) ∙ s.len in
    omega (arith, h, s.size, octets, len, ap length e, length-append f rest)

-- ---- the first fault

pub faults_step : (is_path : Bool) (all : List Attribute) (i : ℕ) (a : Attribute) → i < length all → a ≡ get_or all i a
    → attributes_fault is_path (take i all) (drop i all) ≡ option_or (attribute_fault is_path (take i all) a) (attributes_fault is_path (take (i + 1) all) (drop (i + 1) all))
faults_step is_path all i a below is =
    let cut : drop i all ≡ a ∷ drop (i + 1) all = drop-cons all i a below ∙ ap (λ x. x ∷ drop (suc i) all) (sym is) ∙ ap (λ n. a ∷ drop n all) (sym (add-one i)) in
    let front : take i all ++ a ∷ [] ≡ take (i + 1) all = ap (λ x. take i all ++ x ∷ []) is ∙ sym (take_more all i a below) in
    ap (attributes_fault is_path (take i all)) cut
    ∙ ap (λ l. option_or (attribute_fault is_path (take i all) a) (attributes_fault is_path l (drop (i + 1) all))) front

pub faults_found : (is_path : Bool) (all : List Attribute) (i : ℕ) (a : Attribute) (f : Fault) (total : Option Fault) → i < length all → a ≡ get_or all i a
    → attributes_fault is_path (take i all) (drop i all) ≡ total → attribute_fault is_path (take i all) a ≡ Some f → total ≡ Some f
faults_found is_path all i a f total below is so here =
    sym so ∙ faults_step is_path all i a below is ∙ ap (λ o. option_or o (attributes_fault is_path (take (i + 1) all) (drop (i + 1) all))) here

pub faults_go_on : (is_path : Bool) (all : List Attribute) (i : ℕ) (a : Attribute) (total : Option Fault) → i < length all → a ≡ get_or all i a
    → attributes_fault is_path (take i all) (drop i all) ≡ total → attribute_fault is_path (take i all) a ≡ None → attributes_fault is_path (take (i + 1) all) (drop (i + 1) all) ≡ total
faults_go_on is_path all i a total below is so here =
    sym (faults_step is_path all i a below is ∙ ap (λ o. option_or o (attributes_fault is_path (take (i + 1) all) (drop (i + 1) all))) here) ∙ so

pub faults_end : (is_path : Bool) (all : List Attribute) (i : ℕ) (total : Option Fault) → length all ≤ i → attributes_fault is_path (take i all) (drop i all) ≡ total → total ≡ None
faults_end is_path all i total past so = sym so ∙ ap (attributes_fault is_path (take i all)) (drop_all i all past)
