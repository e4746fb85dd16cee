-- The most bytes that parts take.
use Rattle.std.proofs.Common.{ℕ, suc, ◌+◌, ◌<◌, ◌^◌, ◌-◌, ◌*◌, ◌%◌, ◌≤◌, inl, inr, List, [], ◌∷◌, ◌++◌, length, replicate, arith}
use Rattle.std.specs.List.{AllByRecursion, flat_map}
use Rattle.std.proofs.lemmas.Bool.Decides.{eqb_tells}
use Rattle.std.proofs.lemmas.List.{length-append, length-replicate}
use Rattle.net_base.specs.declared.field.Field.{Field}
use Rattle.net_base.specs.FieldId.{number_of, all_ones}
use Rattle.net_base.proofs.Rows.{most_bytes, low_number}
use Rattle.of_match.specs.declared.action.Action.{Action}
use Rattle.of_match.specs.declared.action.Action.TheVariants.{Output, PushVlan, PopVlan, DecTtl, Set}
use Rattle.of_match.specs.WellFormed.{IsAction}
use Rattle.of_wire.specs.Parts.{number, field_bytes, match_bytes, action_bytes}
use Rattle.net_base.specs.WellFormed.{AreAscending}
use Rattle.of_wire.proofs.Ascending.{AreFrom, from_below}
use Rattle.of_wire.proofs.Lengths.{number_length, set_length, field_plain, field_masked, output_length, push_length, bare_length}

field_most : (f : Field) → length (field_bytes f) ≤ 36
field_most f =
    elim (eqb_tells f.mask (all_ones f.id)) [
      | inl same ↦ omega (arith, field_plain f same.1, most_bytes f.id)
      | inr other ↦ omega (arith, field_masked f other.1, most_bytes f.id)
    ]

pub fields_most : (fields : List Field) → length (flat_map field_bytes fields) ≤ 36 * length fields
fields_most [] = omega arith
fields_most (f ∷ more) = omega (arith, length-append (field_bytes f) (flat_map field_bytes more), field_most f, fields_most more)

-- fields that ascend are few, since each has a number of its own below 32
few : (n : ℕ) (fields : List Field) → n ≤ 32 → AreAscending fields → AreFrom n fields → n + length fields ≤ 32
few n [] least a from = omega (arith, least)
few n (f ∷ more) least a from = omega (arith, few (suc (number_of f.id)) more (omega (arith, low_number f.id)) a.1 (from_below (number_of f.id) more a.0), from.0)

from_zero : (fields : List Field) → AreFrom 0 fields
from_zero [] = tt
from_zero (f ∷ more) = (omega arith, from_zero more)

pub ascending_fit : (fields : List Field) → AreAscending fields → 4 + length (flat_map field_bytes fields) < 2 ^ 16
ascending_fit fields a = omega (arith, fields_most fields, few 0 fields (omega arith) a (from_zero fields))

pub match_most : (fields : List Field) → length (match_bytes fields) ≤ 11 + 36 * length fields
match_most fields =
    let body = flat_map field_bytes fields in
    let head = number 2 1 ++ number 2 (4 + length body) in
    let pad = (8 - length (head ++ body) % 8) % 8 in
    omega (arith, length-append (head ++ body) (replicate pad 0), length-replicate {A = ℕ} pad 0, length-append head body, length-append (number 2 1) (number 2 (4 + length body)), number_length 2 1, number_length 2 (4 + length body), fields_most fields)

action_most : (a : Action) → length (action_bytes a) ≤ 40
action_most (Output port max_len) = omega (arith, output_length port max_len)
action_most (PushVlan eth_type) = omega (arith, push_length eth_type)
action_most PopVlan = omega (arith, bare_length 18)
action_most DecTtl = omega (arith, bare_length 24)
action_most (Set f) = omega (arith, set_length f, field_most f)

pub actions_most : (actions : List Action) → length (flat_map action_bytes actions) ≤ 40 * length actions
actions_most [] = omega arith
actions_most (a ∷ more) = omega (arith, length-append (action_bytes a) (flat_map action_bytes more), action_most a, actions_most more)

-- the field that is set has no mask
sent_most : (a : Action) → IsAction a → length (action_bytes a) ≤ 24
sent_most (Output port max_len) h = omega (arith, output_length port max_len)
sent_most (PushVlan eth_type) h = omega (arith, push_length eth_type)
sent_most PopVlan h = omega (arith, bare_length 18)
sent_most DecTtl h = omega (arith, bare_length 24)
sent_most (Set f) h = omega (arith, set_length f, field_plain f h.1, most_bytes f.id)

pub sent_actions_most : (actions : List Action) → AllByRecursion IsAction actions → length (flat_map action_bytes actions) ≤ 24 * length actions
sent_actions_most [] h = omega arith
sent_actions_most (a ∷ more) h = omega (arith, length-append (action_bytes a) (flat_map action_bytes more), sent_most a h.0, sent_actions_most more h.1)
