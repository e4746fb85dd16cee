-- Matches of the rules of ACLs are matches that a switch accepts.
use Rattle.std.proofs.Common.{◌≡◌, ℕ, ◌+◌, ◌-◌, ◌*◌, ◌/◌, ◌^◌, ◌<◌, ◌≤◌, ◌==◌, ◌&&◌, ◌||◌, not, nat_lt, Bool, true, false, cond, if◌then◌else◌, Option, Some, None, List, [], ◌∷◌, ◌++◌, map, filter, find, refl, sym, ap, ◌∙◌, arith, lit<, lit≤, inl, inr, ◌⊎◌}
use Rattle.std.specs.Prelude.{Contains, IsTrue, bit_and}
use Rattle.std.specs.List.{AllByRecursion, list_any, list_all, filter_map, flat_map, enumerate_from}
use Rattle.std.specs.Option.{option_map, option_map_or, option_and_then}
use Rattle.std.proofs.lemmas.Bool.{cases_Bool, eqb-true, ltb-true, and_parts, or_cases, true≢false}
use Rattle.std.proofs.lemmas.Bool.Decides.{nat_tests}
use Rattle.std.proofs.lemmas.Nat.{pow_pos, and_le_r, shr_split}
use Rattle.std.proofs.lemmas.List.Folds.{list_any-append}
use Rattle.std.proofs.lemmas.Map.Views.{any-filter_same}
use Rattle.net_base.specs.declared.field.Field.{Field}
use Rattle.net_base.specs.declared.field.FieldId.{FieldId}
use Rattle.net_base.specs.declared.field.FieldId.TheVariants.{InPort, VlanVid}
use Rattle.net_base.specs.declared.field.Prerequisite.{Prerequisite}
use Rattle.net_base.specs.declared.field.Prerequisite.TheVariants.{Tagged, Exactly, Either}
use Rattle.net_base.specs.FieldId.{number_of, bits_of, may_be_masked, prerequisites_of, all_ones}
use Rattle.net_base.specs.Numbers.{IsVid, IsPortNo}
use Rattle.net_base.specs.WellFormed.{AreAscending, IsWellFormed, is_whole, meets, is_met, has_prerequisite}
use Rattle.net_base.proofs.Rows.{every_field}
use Rattle.of_match.proofs.AfterOrder.{all_pass}
use Rattle.conf_types.specs.RuleFields.{IsNumber, IsMasked, IsPrefix, IsAddress, MayAskBits, MayAsk}
use Rattle.conf_types.specs.declared.acl.Rule.{Rule}
use Rattle.conf_types.specs.Valid.{IsRule}
use Rattle.plan_base.specs.Fields.{in_port, vid_field}
use Rattle.plan_base.specs.MatchFields.{IsMatchField}
use Rattle.plan_base.proofs.Each.{all_from, all_append, all_filter}
use Rattle.plan_base.proofs.MatchFields.{is_in_port, is_vid_field, whole_field, without_host_bits, AreFields, are_fields}
use Rattle.acl_compile.specs.Rows.{with_vid}

-- ---- what a rule asks for

number_asked : (least most : ℕ) (f : Field) → IsNumber least most f → most < 2 ^ bits_of f.id → IsMatchField f
number_asked least most f h less = whole_field f (omega (arith, h.to)) h.whole

masked_asked : (bits : ℕ) (f : Field) → IsMasked bits f → bits_of f.id ≡ bits → may_be_masked f.id ≡ true → IsMatchField f
masked_asked bits f h same may =
    let less : f.value < 2 ^ bits = omega (arith, h.most, h.within, and_le_r f.value f.mask) in
    record { bits = rw same less; within = h.within; mask = inr (may, rw same h.most) }

prefix_asked : (bits : ℕ) (f : Field) → IsPrefix bits f → bits_of f.id ≡ bits → may_be_masked f.id ≡ true → IsMatchField f
prefix_asked bits f h same may =
    let some : 0 < 2 ^ h.host_bits = pow_pos h.host_bits in
    let all : 0 < 2 ^ bits = pow_pos bits in
    let none : f.value / 2 ^ h.host_bits * 2 ^ h.host_bits ≡ f.value = omega (arith, shr_split f.value h.host_bits, h.zeros) in
    record {
      bits = rw same h.most;
      within = ap (bit_and f.value) h.mask ∙ without_host_bits bits f.value h.host_bits (omega (arith, h.long)) h.most none;
      mask = inr (may, rw same (omega (arith, h.mask, some, all)));
    }

address_asked : (is_mac : Bool) (bits : ℕ) (f : Field) → IsAddress is_mac bits f → bits_of f.id ≡ bits → may_be_masked f.id ≡ true → IsMatchField f
address_asked true bits f h same may = masked_asked bits f h same may
address_asked false bits f h same may = prefix_asked bits f h same may

bits_asked : (bits : ℕ) (may : Bool) (f : Field) → MayAskBits bits may f → bits_of f.id ≡ bits → may_be_masked f.id ≡ may → IsMatchField f
bits_asked bits true f h same may = address_asked (bits == 48) bits f h same may
bits_asked bits false f h same may = let some = pow_pos bits in number_asked 0 (2 ^ bits - 1) f h (rw same (omega (arith, some)))

is_asked : (id : FieldId) (f : Field) → f.id ≡ id → MayAsk id f → IsMatchField f
is_asked InPort f e h = absurd h
is_asked VlanVid f e h = number_asked _ _ f h (rw e (lit< tt))
is_asked id f e h = bits_asked (bits_of id) (may_be_masked id) f h (ap bits_of e) (ap may_be_masked e)

pub are_match_fields : (rule : Rule) → IsRule rule → AllByRecursion IsMatchField rule.fields
are_match_fields rule h = all_from {P = λ (f : Field). MayAsk f.id f} {Q = IsMatchField} (λ f asked. is_asked f.id f refl asked) rule.fields h.each

-- ---- the port, before what the rule asks for

asks_no_port : (id : FieldId) (f : Field) → MayAsk id f → 0 < number_of id
asks_no_port InPort f h = absurd h
asks_no_port id f h = lit< tt

-- what a field asks for stays met where a field is added
still_asked : (asked : List Prerequisite) (g : Field) (fields : List Field) → list_all (is_met fields) asked ≡ true → list_all (is_met (g ∷ fields)) asked ≡ true
still_asked [] g fields h = refl
still_asked (p ∷ asked) g fields h =
    let parts = and_parts (is_met fields p) (list_all (is_met fields) asked) h in
    let first : is_met (g ∷ fields) p ≡ true = either (meets p g) (is_met fields p) parts.0 in
    let more : list_all (is_met (g ∷ fields)) asked ≡ true = still_asked asked g fields parts.1 in
    λ i. first i && more i
  where
    either : (a b : Bool) → b ≡ true → (a || b) ≡ true
    either true b e = refl
    either false b e = e

pub with_port : (number : ℕ) (rule : Rule) → IsPortNo number → IsRule rule → AreFields (in_port number ∷ rule.fields)
with_port number rule port h =
    are_fields _
    (all_from {P = λ (f : Field). MayAsk f.id f} {Q = λ (f : Field). 0 < number_of f.id} (λ f asked. asks_no_port f.id f asked) rule.fields h.each, h.fields.ascending)
    (is_in_port number port, are_match_fields rule h)
    (refl, all_from {P = λ (f : Field). IsTrue (has_prerequisite f.id rule.fields)} {Q = λ (f : Field). IsTrue (has_prerequisite f.id (in_port number ∷ rule.fields))} (λ f met. still_asked (prerequisites_of f.id) (in_port number) rule.fields met) rule.fields h.fields.prerequisites)

-- ---- the tag of a VLAN, among what the rule asks for

ascending_filter : (p : Field → Bool) (fields : List Field) → AreAscending fields → AreAscending (filter p fields)
ascending_filter p [] h = tt
ascending_filter p (f ∷ more) h = kept (p f) (all_filter (λ (g : Field). number_of f.id < number_of g.id) p more h.0) (ascending_filter p more h.1)
  where
    kept : (b : Bool) → AllByRecursion (λ (g : Field). number_of f.id < number_of g.id) (filter p more) → AreAscending (filter p more) → AreAscending (cond b (f ∷ filter p more) (filter p more))
    kept true all rest = (all, rest)
    kept false all rest = rest

-- one before, one after
ascending_joined : (g : Field) (fields others : List Field) → AreAscending fields → AllByRecursion (λ (f : Field). number_of f.id < number_of g.id) fields → AreAscending (g ∷ others) → AreAscending (fields ++ g ∷ others)
ascending_joined g [] others h low k = k
ascending_joined g (f ∷ more) others h low k = (
  all_append (λ (x : Field). number_of f.id < number_of x.id) more (g ∷ others) h.0
      (low.0, all_from {P = λ (x : Field). number_of g.id < number_of x.id} {Q = λ (x : Field). number_of f.id < number_of x.id} (λ x lt. let first : number_of f.id < number_of g.id = low.0 in omega arith) others k.0),
  ascending_joined g more others h.1 low.1 k,
)

-- what is asked for is a tag, or no field of the tag's number
abbrev is_other : Prerequisite → Bool
is_other Tagged = true
is_other (Exactly id value) = nat_lt (number_of id) 6 || nat_lt 6 (number_of id)
is_other (Either id value other) = nat_lt (number_of id) 6 || nat_lt 6 (number_of id)

asks_others : (id : FieldId) → list_all is_other (prerequisites_of id) ≡ true
asks_others id = every_field (λ id. list_all is_other (prerequisites_of id)) refl id

module _ (vid : ℕ) (fields : List Field) where
  abbrev low : Field → Bool
  low = λ f. nat_lt (number_of f.id) 6

  abbrev high : Field → Bool
  high = λ f. nat_lt 6 (number_of f.id)

  -- the tag is one
  is_tag : meets Tagged (vid_field vid) ≡ true
  is_tag = let some : (0x1000 + vid == 0) ≡ false = grind (arith, nat_tests) in ap not some

  or_right : (a b : Bool) → b ≡ true → (a || b) ≡ true
  or_right true b e = refl
  or_right false b e = e

  either_is : (a b c x : Bool) → (a || b) ≡ true → c ≡ true → ((a && c) || (x || (b && c))) ≡ true
  either_is true b c x h e = or_left c (x || (b && c)) e
    where
      or_left : (c d : Bool) → c ≡ true → (c || d) ≡ true
      or_left true d e = refl
      or_left false d e = absurd (cc)
  either_is false true c x h e = or_right x c e
  either_is false false c x h e = absurd (cc)

  whole_number : (id : FieldId) (f : Field) (b : Bool) → (is_whole id f && b) ≡ true → number_of f.id ≡ number_of id
  whole_number id f b h = eqb-true (number_of f.id) (number_of id) (and_parts (number_of f.id == number_of id) (f.mask == all_ones id) (and_parts (is_whole id f) b h).0).0

  -- a test that fields of one number alone pass is passed as before, where that isn't the tag's number
  among_named : (test : Field → Bool) (id : FieldId) → ((f : Field) → test f ≡ true → number_of f.id ≡ number_of id) → (nat_lt (number_of id) 6 || nat_lt 6 (number_of id)) ≡ true
      → list_any test fields ≡ true → list_any test (with_vid vid fields) ≡ true
  among_named test id same other h =
      let before : list_any test (filter low fields) ≡ (nat_lt (number_of id) 6 && list_any test fields) = any-filter_same test low (nat_lt (number_of id) 6) (λ f is. ap (λ n. nat_lt n 6) (same f is)) fields in
      let behind : list_any test (filter high fields) ≡ (nat_lt 6 (number_of id) && list_any test fields) = any-filter_same test high (nat_lt 6 (number_of id)) (λ f is. ap (λ n. nat_lt 6 n) (same f is)) fields in
      list_any-append test (filter low fields) (vid_field vid ∷ filter high fields)
      ∙ ap (λ b. b || (test (vid_field vid) || list_any test (filter high fields))) before
      ∙ ap (λ b. (nat_lt (number_of id) 6 && list_any test fields) || (test (vid_field vid) || b)) behind
      ∙ either_is (nat_lt (number_of id) 6) (nat_lt 6 (number_of id)) (list_any test fields) (test (vid_field vid)) other h

  among_one : (p : Prerequisite) → is_other p ≡ true → is_met fields p ≡ true → is_met (with_vid vid fields) p ≡ true
  among_one Tagged other h =
      list_any-append (meets Tagged) (filter low fields) (vid_field vid ∷ filter high fields)
      ∙ ap (λ b. list_any (meets Tagged) (filter low fields) || (b || list_any (meets Tagged) (filter high fields))) is_tag
      ∙ or_right (list_any (meets Tagged) (filter low fields)) true refl
  among_one (Exactly id value) other h = among_named (meets (Exactly id value)) id (λ f is. whole_number id f (f.value == value) is) other h
  among_one (Either id value second) other h = among_named (meets (Either id value second)) id (λ f is. whole_number id f ((f.value == value) || (f.value == second)) is) other h

  among : (asked : List Prerequisite) → list_all is_other asked ≡ true → list_all (is_met fields) asked ≡ true → list_all (is_met (with_vid vid fields)) asked ≡ true
  among [] other h = refl
  among (p ∷ asked) other h =
      let others = and_parts (is_other p) (list_all is_other asked) other in
      let parts = and_parts (is_met fields p) (list_all (is_met fields) asked) h in
      let first : is_met (with_vid vid fields) p ≡ true = among_one p others.0 parts.0 in
      let more : list_all (is_met (with_vid vid fields)) asked ≡ true = among asked others.1 parts.1 in
      λ i. first i && more i

  all_passing : (P : Field → Type 0) (p : Field → Bool) → ((f : Field) → p f ≡ true → P f) → AllByRecursion P (filter p fields)
  all_passing P p h = all_from {P = λ (f : Field). p f ≡ true} {Q = P} (λ f is. h f is) (filter p fields) (all_pass p fields)

  abbrev Met : Field → Type 0
  Met = λ f. IsTrue (has_prerequisite f.id (with_vid vid fields))

  pub among_fields : IsVid vid → IsWellFormed fields → AllByRecursion IsMatchField fields → AreFields (with_vid vid fields)
  among_fields v h each =
      are_fields _
      (ascending_joined (vid_field vid) (filter low fields) (filter high fields) (ascending_filter low fields h.ascending)
      (all_passing (λ f. number_of f.id < 6) low (λ f is. ltb-true (number_of f.id) 6 is))
      (all_passing (λ f. 6 < number_of f.id) high (λ f is. ltb-true 6 (number_of f.id) is), ascending_filter high fields h.ascending))
      (all_append IsMatchField (filter low fields) (vid_field vid ∷ filter high fields) (all_filter IsMatchField low fields each) (is_vid_field vid v, all_filter IsMatchField high fields each))
      (all_append Met (filter low fields) (vid_field vid ∷ filter high fields) (all_filter Met low fields met) (refl, all_filter Met high fields met))
    where
      met : AllByRecursion (λ f. IsTrue (has_prerequisite f.id (with_vid vid fields))) fields
      met = all_from {P = λ (f : Field). IsTrue (has_prerequisite f.id fields)} {Q = λ (f : Field). IsTrue (has_prerequisite f.id (with_vid vid fields))} (λ f is. among (prerequisites_of f.id) (asks_others f.id) is) fields h.prerequisites
