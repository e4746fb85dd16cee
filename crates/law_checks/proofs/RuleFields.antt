-- A rule that is in range and lacks no field is valid: its fields make a match.
use Rattle.std.specs.Prelude.{◌≡◌, ℕ, ◌+◌, ◌-◌, ◌^◌, ◌<◌, ◌≤◌, ◌==◌, ◌&&◌, Bool, true, false, List, [], ◌∷◌, map, Option, Some, None, IfSome, IsTrue, nat_lt}
use Rattle.std.specs.List.{AllByRecursion, flat_map, list_all}
use Rattle.std.proofs.Common.{refl, sym, subst, arith, lit≤}
use Rattle.std.proofs.lemmas.Bool.{and_parts}
use Rattle.std.proofs.lemmas.Nat.{and_le_r, pow_pos}
use Rattle.net_base.specs.declared.field.Field.{Field}
use Rattle.net_base.specs.declared.field.FieldId.{FieldId}
use Rattle.net_base.specs.declared.field.FieldId.TheVariants.{InPort, VlanVid}
use Rattle.net_base.specs.declared.field.Prerequisite.{Prerequisite}
use Rattle.net_base.specs.FieldId.{number_of, bits_of, may_be_masked, prerequisites_of, all_ones}
use Rattle.net_base.specs.WellFormed.{Fits, AreAscending, has_prerequisite, is_met, meets}
use Rattle.conf_types.specs.declared.acl.Rule.{Rule}
use Rattle.conf_types.specs.Lists.{EachBefore}
use Rattle.conf_types.specs.RuleFields.{MayAsk, MayAskBits, IsNumber, IsMasked, IsPrefix, IsAddress}
use Rattle.conf_types.specs.Valid.{IsRule, NamesPort}
use Rattle.conf_shape.specs.declared.raw.RawField.{RawField}
use Rattle.conf_shape.specs.declared.raw.RawOutput.{RawOutput}
use Rattle.conf_shape.specs.declared.raw.RawRule.{RawRule}
use Rattle.conf_resolve.specs.InOrder.{in_order}
use Rattle.conf_resolve.specs.InRange.{OutputIsInRange, RuleIsInRange}
use Rattle.conf_resolve.specs.Resolved.{items_of, ports_of, rule_of, to_list}
use Rattle.law_checks.proofs.Members.{IsIn, of_all, all_by, all_mapped, all_joined, all_flat, of_mapped, some_of, any_by, before_mapped, before_both}
use Rattle.law_checks.proofs.Orders.{of_order, into_order, all_ordered, each_ordered, sorted, number_order, rises_apart}

-- ---- what a field may be asked for has as many bytes as the field

record IsWithin (most : ℕ) (f : Field) : Type 0 where
  value : f.value ≤ most
  mask : f.mask ≤ most

of_number : (least most bound : ℕ) (f : Field) → most ≤ bound → all_ones f.id ≤ bound → IsNumber least most f → IsWithin bound f
of_number least most bound f le ones is = record { value = omega (arith, is.to); mask = omega (arith, is.whole) }

of_masked : (bits : ℕ) (f : Field) → IsMasked bits f → IsWithin (2 ^ bits - 1) f
of_masked bits f is = record { value = subst (λ v. v ≤ 2 ^ bits - 1) is.within (omega (arith, and_le_r f.value f.mask, is.most)); mask = omega (arith, is.most) }

of_prefix : (bits : ℕ) (f : Field) → IsPrefix bits f → IsWithin (2 ^ bits - 1) f
of_prefix bits f is = record { value = omega (arith, is.most); mask = omega (arith, is.mask, pow_pos is.host_bits) }

of_address : (is_mac : Bool) (bits : ℕ) (f : Field) → IsAddress is_mac bits f → IsWithin (2 ^ bits - 1) f
of_address true bits f is = of_masked bits f is
of_address false bits f is = of_prefix bits f is

wider : (most bound : ℕ) (f : Field) → most ≤ bound → IsWithin most f → IsWithin bound f
wider most bound f le is = record { value = omega (arith, le, is.value); mask = omega (arith, le, is.mask) }

of_bits : (bits : ℕ) (may : Bool) (bound : ℕ) (f : Field) → 2 ^ bits - 1 ≤ bound → all_ones f.id ≤ bound → MayAskBits bits may f → IsWithin bound f
of_bits bits true bound f le ones is = wider (2 ^ bits - 1) bound f le (of_address (bits == 48) bits f is)
of_bits bits false bound f le ones is = of_number 0 (2 ^ bits - 1) bound f le ones is

within : (id : FieldId) (f : Field) → all_ones f.id ≤ all_ones id → MayAsk id f → IsWithin (all_ones id) f
within InPort f ones is = absurd is
within VlanVid f ones is = of_number (0x1000 + 1) (0x1000 + 4094) 65535 f (omega arith) ones is
within id f ones is = of_bits (bits_of id) (may_be_masked id) (all_ones id) f (lit≤ tt) ones is

fits : (f : Field) → MayAsk f.id f → Fits f
fits f is = let w = within f.id f (omega arith) is in record { value = w.value; mask = w.mask }

-- ---- in order

ascending : (fs : List Field) → EachBefore (λ (f g : Field). number_of f.id < number_of g.id) fs → AreAscending fs
ascending [] r = tt
ascending (f ∷ fs) r = (r.0, ascending fs r.1)

-- what is asked for stands there where all stands there
pub same_asked : (fs gs : List Field) → ((f : Field) → IsIn fs f → IsIn gs f) → (id : FieldId) → has_prerequisite id fs ≡ true → has_prerequisite id gs ≡ true
same_asked fs gs also id = by (prerequisites_of id)
  where
    by : (asked : List Prerequisite) → list_all (is_met fs) asked ≡ true → list_all (is_met gs) asked ≡ true
    by [] is = refl
    by (p ∷ asked) is =
        let parts = and_parts (is_met fs p) (list_all (is_met fs) asked) is in
        let m = some_of (meets p) fs parts.0 in
        let first : is_met gs p ≡ true = any_by (meets p) gs m.0 (also m.0 m.1) m.2 in
        let more : list_all (is_met gs) asked ≡ true = by asked parts.1 in
        λ i. first i && more i

abbrev pub HasWhatItAsks : Rule → Type 0
HasWhatItAsks rule = AllByRecursion (λ f. IsTrue (has_prerequisite f.id rule.fields)) rule.fields

-- a rule has what its fields ask for where they have as they are written
pub asks : (r : RawRule) → ((f : RawField) → IsIn r.fields f → has_prerequisite f.field.id (map (λ g. g.field) r.fields) ≡ true) → HasWhatItAsks (rule_of r)
asks r asked = all_by (λ f. IsTrue (has_prerequisite f.id (in_order before fields))) (in_order before fields) (λ f i.
    let m = of_mapped (λ (f : RawField). f.field) r.fields f (of_order before fields f i) in
    same_asked fields (in_order before fields) (λ g j. into_order before fields g j) f.id (subst (λ (g : Field). has_prerequisite g.id fields ≡ true) m.2 (asked m.0 m.1)))
  where
    fields : List Field
    fields = map (λ f. f.field) r.fields

    before : Field → Field → Bool
    before f g = nat_lt (number_of f.id) (number_of g.id)

-- ---- the ports that are named by their numbers

of_option : {A : Type 0} (P : A → Type 0) (o : Option A) → IfSome o P → AllByRecursion P (to_list o)
of_option P None h = tt
of_option P (Some x) h = (h, tt)

ports_in_range : (o : RawOutput) → OutputIsInRange o → AllByRecursion NamesPort (ports_of o)
ports_in_range o range = all_joined NamesPort (to_list o.port) o.ports (of_option NamesPort o.port range.port) range.ports

-- ---- the rule

pub rule_valid : (r : RawRule) → RuleIsInRange r → ((f : RawField) → IsIn r.fields f → has_prerequisite f.field.id (map (λ g. g.field) r.fields) ≡ true) → IsRule (rule_of r)
rule_valid r range asked = record {
  fields = record {
    ascending = ascending (in_order before fields) (before_both (λ (f g : Field). nat_lt (number_of g.id) (number_of f.id) ≡ false) (λ f g. number_of f.id ≡ number_of g.id → ⊥) (λ f g. number_of f.id < number_of g.id) (in_order before fields)
        (sorted before (number_order (λ (f : Field). number_of f.id)) fields)
        (each_ordered (λ (f g : Field). number_of f.id ≡ number_of g.id → ⊥) before fields (λ f g other same. other (sym same)) (before_mapped (λ (f g : Field). number_of f.id ≡ number_of g.id → ⊥) (λ (f : RawField). f.field) r.fields range.once))
        (λ f g not other. rises_apart (number_of f.id) (number_of g.id) not other));
    fitting = all_by Fits (in_order before fields) (λ f i. fits f (of_all (λ (f : Field). MayAsk f.id f) (in_order before fields) each f i));
    prerequisites = asks r asked;
  };
  each = each;
  ports = all_joined NamesPort (to_list r.mirror) (flat_map ports_of (items_of r.output)) (of_option NamesPort r.mirror range.mirror)
      (all_flat NamesPort ports_of (items_of r.output) (all_by (λ o. AllByRecursion NamesPort (ports_of o)) (items_of r.output) (λ o i. ports_in_range o (of_all OutputIsInRange (items_of r.output) range.output o i))));
}
  where
    fields : List Field
    fields = map (λ f. f.field) r.fields

    before : Field → Field → Bool
    before f g = nat_lt (number_of f.id) (number_of g.id)

    each : AllByRecursion (λ (f : Field). MayAsk f.id f) (in_order (λ f g. nat_lt (number_of f.id) (number_of g.id)) (map (λ f. f.field) r.fields))
    each = all_ordered (λ (f : Field). MayAsk f.id f) (λ f g. nat_lt (number_of f.id) (number_of g.id)) (map (λ f. f.field) r.fields) (all_mapped (λ (f : Field). MayAsk f.id f) (λ (f : RawField). f.field) r.fields range.each)
