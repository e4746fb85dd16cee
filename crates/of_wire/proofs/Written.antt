-- What is written of a well-formed match, and of well-formed actions and instructions, spells them.
use Rattle.std.proofs.Common.{◌≡◌, ℕ, ◌+◌, ◌-◌, ◌*◌, ◌%◌, ◌^◌, ◌≤◌, ◌<◌, Bool, true, false, eqb, List, [], ◌∷◌, ◌++◌, length, replicate, Option, Some, refl, sym, ap, ◌∙◌, subst, arith, append_assoc, inl, inr}
use Rattle.std.specs.List.{AllByRecursion, flat_map}
use Rattle.std.proofs.lemmas.Bool.{cases_eq, eq-eqb, ne_eqb}
use Rattle.std.proofs.lemmas.List.{length-append, length-replicate, append-nil}
use Rattle.std.proofs.lemmas.Nat.{pow_pos}
use Rattle.byteorder.proofs.Bytes.{pow256}
use Rattle.net_base.specs.declared.field.Field.{Field}
use Rattle.net_base.specs.declared.field.FieldId.{FieldId}
use Rattle.net_base.specs.FieldId.{number_of, byte_len_of, all_ones}
use Rattle.of_match.specs.declared.action.Action.{Action}
use Rattle.of_match.specs.declared.action.Action.TheVariants.{Output, PushVlan, PopVlan, DecTtl, Set}
use Rattle.of_match.specs.declared.action.Instr.{Instr}
use Rattle.of_match.specs.declared.action.Instr.TheVariants.{Goto, Apply}
use Rattle.net_base.specs.WellFormed.{Fits, AreAscending, has_prerequisite}
use Rattle.net_base.proofs.Rows.{most_bytes, low_number}
use Rattle.of_wire.specs.Parts.{number, zeros, up_to_8, field_bytes, match_bytes, set_bytes, action_bytes, instr_bytes}
use Rattle.of_wire.specs.Grammar.{Then, ◌▷◌, Number, Ignored, Zeros, Joined}
use Rattle.of_wire.specs.Spelling.{SpellsPlain, SpellsMasked, SpellsField, SpellsItem, SpellsAnyMatch, SpellsSet, SpellsAction, SpellsActions, SpellsInstr, SpellsInstrs, MayStand, known, in_order, in_order_onto}
use Rattle.of_match.specs.WellFormed.{IsAction, AreApplied, AreInstrs}
use Rattle.of_wire.specs.WellFormed.{IsMatch, IsMatchSeen}
use Rattle.of_wire.proofs.Bounds.{ascending_fit}
use Rattle.of_wire.proofs.Lengths.{number_length}
use Rattle.of_wire.proofs.FieldOrder.{known_some}
use Rattle.of_wire.proofs.Ascending.{AreBelow, AreFrom, below_push, from_above, placed_last, stands_not, prerequisite_before}

pub then_append : (front back : List ℕ → Type 0) (xs ys : List ℕ) → front xs → back ys → Then front back (xs ++ ys)
then_append front back xs ys p q = record { first = xs; rest = ys; whole = refl; in_front = p; behind = q }

pub is_number : (n v : ℕ) → v < 256 ^ n → Number n v (number n v)
is_number n v h = record { fits = h; spelled = refl }

value_fits : (id : FieldId) (v : ℕ) → v ≤ all_ones id → v < 256 ^ byte_len_of id
value_fits id v h = omega (arith, pow256 (byte_len_of id), pow_pos (8 * byte_len_of id), h)

-- ---- fields

plain_written : (f : Field) → Fits f → f.mask ≡ all_ones f.id
    → SpellsPlain f (((number 2 0x8000 ++ number 1 (2 * number_of f.id)) ++ number 1 (byte_len_of f.id)) ++ number (byte_len_of f.id) f.value)
plain_written f h e =
    let n = byte_len_of f.id in
    let a = number 2 0x8000 in let b = number 1 (2 * number_of f.id) in let l = number 1 n in let v = number n f.value in
    let regroup : a ++ (b ++ (l ++ v)) ≡ ((a ++ b) ++ l) ++ v = sym (append_assoc (a ++ b) l v ∙ append_assoc a b (l ++ v)) in
    let parts : (Number 2 0x8000 ▷ Number 1 (2 * number_of f.id) ▷ Number 1 n ▷ Number n f.value) (a ++ (b ++ (l ++ v))) =
    then_append _ _ a (b ++ (l ++ v)) (is_number 2 0x8000 (omega arith)) (then_append _ _ b (l ++ v) (is_number 1 _ (omega (arith, low_number f.id))) (
    then_append _ _ l v (is_number 1 n (omega (arith, most_bytes f.id))) (is_number n f.value (value_fits f.id f.value h.value)))) in
    record { parts = subst (λ bs. (Number 2 0x8000 ▷ Number 1 (2 * number_of f.id) ▷ Number 1 n ▷ Number n f.value) bs) regroup parts; whole_mask = e }

masked_written : (f : Field) → Fits f
    → SpellsMasked f ((((number 2 0x8000 ++ number 1 (2 * number_of f.id + 1)) ++ number 1 (2 * byte_len_of f.id)) ++ number (byte_len_of f.id) f.value) ++ number (byte_len_of f.id) f.mask)
masked_written f h =
    let n = byte_len_of f.id in
    let a = number 2 0x8000 in let b = number 1 (2 * number_of f.id + 1) in let l = number 1 (2 * n) in let v = number n f.value in let m = number n f.mask in
    let regroup : a ++ (b ++ (l ++ (v ++ m))) ≡ (((a ++ b) ++ l) ++ v) ++ m = sym (append_assoc ((a ++ b) ++ l) v m ∙ append_assoc (a ++ b) l (v ++ m) ∙ append_assoc a b (l ++ (v ++ m))) in
    let parts : SpellsMasked f (a ++ (b ++ (l ++ (v ++ m)))) =
    then_append _ _ a (b ++ (l ++ (v ++ m))) (is_number 2 0x8000 (omega arith)) (then_append _ _ b (l ++ (v ++ m)) (is_number 1 _ (omega (arith, low_number f.id))) (
    then_append _ _ l (v ++ m) (is_number 1 (2 * n) (omega (arith, most_bytes f.id))) (then_append _ _ v m (is_number n f.value (value_fits f.id f.value h.value)) (
    is_number n f.mask (value_fits f.id f.mask h.mask))))) in
    subst (λ bs. SpellsMasked f bs) regroup parts

pub field_written : (f : Field) → Fits f → SpellsField f (field_bytes f)
field_written f h = elim (cases_eq f.mask (all_ones f.id)) [
  | inl e ↦ let t : eqb f.mask (all_ones f.id) ≡ true = eq-eqb _ _ e in rw t (inl (plain_written f h e))
  | inr ne ↦ let t : eqb f.mask (all_ones f.id) ≡ false = ne_eqb _ _ ne in rw t (inr (masked_written f h))
]

-- ---- matches

items : List Field → List (Option Field)
items [] = []
items (f ∷ fields) = Some f ∷ items fields

known_items : (fields : List Field) → known (items fields) ≡ fields
unfolding items
known_items [] = refl
known_items (f ∷ fields) = ap (λ l. f ∷ l) (known_items fields)

-- fields that go on from those before them
record GoOn (before fields : List Field) : Type 0 where
  pub ascending : AreAscending fields
  pub above : AllByRecursion (λ g. AreBelow (number_of g.id) before) fields

above_push : (before : List Field) (f : Field) (fields : List Field) → AllByRecursion (λ g. AreBelow (number_of g.id) before) fields → AllByRecursion (λ g. number_of f.id < number_of g.id) fields
    → AllByRecursion (λ g. AreBelow (number_of g.id) (before ++ f ∷ [])) fields
above_push before f [] h k = tt
above_push before f (g ∷ fields) h k = (below_push (number_of g.id) before f h.0 k.0, above_push before f fields h.1 k.1)

goes_on : (before : List Field) (f : Field) (fields : List Field) → GoOn before (f ∷ fields) → GoOn (before ++ f ∷ []) fields
goes_on before f fields g = record { ascending = g.ascending.1; above = above_push before f fields g.above.1 g.ascending.0 }

none_below : (fields : List Field) → AllByRecursion (λ g. AreBelow (number_of g.id) []) fields
none_below [] = tt
none_below (f ∷ fields) = (tt, none_below fields)

onto_is : (before fields : List Field) → GoOn before fields → in_order_onto before fields ≡ before ++ fields
onto_is before [] g = sym (append-nil before)
onto_is before (f ∷ fields) g =
    ap (λ l. in_order_onto l fields) (placed_last f before g.above.0) ∙ onto_is (before ++ f ∷ []) fields (goes_on before f fields g) ∙ append_assoc before (f ∷ []) fields

pub in_order_is : (fields : List Field) → AreAscending fields → in_order fields ≡ fields
in_order_is fields h = onto_is [] fields (record { ascending = h; above = none_below fields })

joined_written : (strict : Bool) (before : List (Option Field)) (fields : List Field) → GoOn (known before) fields → AllByRecursion Fits fields
    → (strict ≡ true → AllByRecursion (λ f. has_prerequisite f.id (known before ++ fields) ≡ true) fields)
    → Joined (SpellsItem strict) before (items fields) (flat_map field_bytes fields)
unfolding items
joined_written strict before [] g fits met = refl
joined_written strict before (f ∷ fields) g fits met =
    let acc = known before in
    let from : AreFrom (number_of f.id) (f ∷ fields) = (omega arith, from_above (number_of f.id) fields g.ascending.0) in
    let may : MayStand strict acc f = record {
      once = stands_not f.id acc g.above.0;
      prerequisites = λ t. (let m = met t in prerequisite_before f.id acc (f ∷ fields) from m.0);
    } in
    let push : known (before ++ Some f ∷ []) ≡ acc ++ f ∷ [] = known_some before f in
    let again : (acc ++ f ∷ []) ++ fields ≡ acc ++ (f ∷ fields) = append_assoc acc (f ∷ []) fields in
    let whole : known (before ++ Some f ∷ []) ++ fields ≡ acc ++ (f ∷ fields) = ap (λ l. l ++ fields) push ∙ again in
    record {
      first = field_bytes f;
      rest = flat_map field_bytes fields;
      whole = refl;
      in_front = (field_written f fits.0, may);
      behind = joined_written strict (before ++ Some f ∷ []) fields (subst (λ l. GoOn l fields) (sym push) (goes_on acc f fields g)) fits.1
          (λ t. (let m = met t in subst (λ l. AllByRecursion (λ f. has_prerequisite f.id l ≡ true) fields) (sym whole) m.1));
    }

any_match_written : (strict : Bool) (fields : List Field) → AreAscending fields → AllByRecursion Fits fields
    → (strict ≡ true → AllByRecursion (λ f. has_prerequisite f.id fields ≡ true) fields) → SpellsAnyMatch strict fields (match_bytes fields)
any_match_written strict fields ascending fits met =
    let body = flat_map field_bytes fields in
    let len = 4 + length body in
    let a = number 2 1 in let b = number 2 len in
    let whole : length ((a ++ b) ++ body) ≡ len = omega (arith, length-append (a ++ b) body, length-append a b, number_length 2 1, number_length 2 len) in
    let pad : (8 - length ((a ++ b) ++ body) % 8) % 8 ≡ up_to_8 len - len = rw whole (omega arith) in
    let z = replicate (up_to_8 len - len) 0 in
    let regroup : a ++ (b ++ (body ++ z)) ≡ match_bytes fields =
    sym (append_assoc (a ++ b) body z ∙ append_assoc a b (body ++ z)) ∙ ap (λ k. ((a ++ b) ++ body) ++ replicate k 0) (sym pad) in
    let is : known (items fields) ≡ fields = known_items fields in
    record {
      items = items fields;
      len = len;
      parts = subst (λ bs. (Number 2 1 ▷ Number 2 len ▷ (λ body. (4 + length body ≡ len) × Joined (SpellsItem strict) [] (items fields) body) ▷ Zeros (up_to_8 len - len)) bs) regroup (
          then_append _ _ a (b ++ (body ++ z)) (is_number 2 1 (omega arith)) (then_append _ _ b (body ++ z) (is_number 2 len (ascending_fit fields ascending)) (
          then_append _ _ body z (refl, joined_written strict [] fields (record { ascending = ascending; above = none_below fields }) fits met) refl)));
      sorted = sym (in_order_is fields ascending) ∙ ap in_order (sym is);
    }

pub match_written : (fields : List Field) → IsMatch fields → SpellsAnyMatch true fields (match_bytes fields)
match_written fields h = any_match_written true fields h.ascending h.fitting (λ t. h.prerequisites)

pub match_seen_written : (fields : List Field) → IsMatchSeen fields → SpellsAnyMatch false fields (match_bytes fields)
match_seen_written fields h = any_match_written false fields h.ascending h.fitting (λ t. absurd (cc))

-- ---- actions

pub regroup3 : (a b c : List ℕ) → a ++ (b ++ c) ≡ (a ++ b) ++ c
regroup3 a b c = sym (append_assoc a b c)

pub regroup4 : (a b c d : List ℕ) → a ++ (b ++ (c ++ d)) ≡ ((a ++ b) ++ c) ++ d
regroup4 a b c d = sym (append_assoc (a ++ b) c d ∙ append_assoc a b (c ++ d))

pub regroup5 : (a b c d e : List ℕ) → a ++ (b ++ (c ++ (d ++ e))) ≡ (((a ++ b) ++ c) ++ d) ++ e
regroup5 a b c d e = sym (append_assoc ((a ++ b) ++ c) d e ∙ append_assoc (a ++ b) c (d ++ e) ∙ append_assoc a b (c ++ (d ++ e)))

bare_written : (kind : ℕ) → kind < 2 ^ 16 → (Number 2 kind ▷ Number 2 8 ▷ Ignored 4) ((number 2 kind ++ number 2 8) ++ zeros 4)
bare_written kind h =
    subst (λ bs. (Number 2 kind ▷ Number 2 8 ▷ Ignored 4) bs) (regroup3 (number 2 kind) (number 2 8) (zeros 4)) (
    then_append _ _ (number 2 kind) (number 2 8 ++ zeros 4) (is_number 2 kind (omega arith)) (then_append _ _ (number 2 8) (zeros 4) (is_number 2 8 (omega arith)) refl))

output_written : (port max_len : ℕ) → IsAction (Output port max_len) → SpellsAction (Output port max_len) (action_bytes (Output port max_len))
output_written port max_len h =
    let a = number 2 0 in let b = number 2 16 in let c = number 4 port in let d = number 2 max_len in let e = zeros 6 in
    subst (λ bs. (Number 2 0 ▷ Number 2 16 ▷ Number 4 port ▷ Number 2 max_len ▷ Ignored 6) bs) (regroup5 a b c d e) (
    then_append _ _ a (b ++ (c ++ (d ++ e))) (is_number 2 0 (omega arith)) (then_append _ _ b (c ++ (d ++ e)) (is_number 2 16 (omega arith)) (
    then_append _ _ c (d ++ e) (is_number 4 port (omega (arith, h.0))) (then_append _ _ d e (is_number 2 max_len (omega (arith, h.1))) refl))))

push_written : (eth_type : ℕ) → eth_type < 2 ^ 16 → SpellsAction (PushVlan eth_type) (action_bytes (PushVlan eth_type))
push_written eth_type h =
    let a = number 2 17 in let b = number 2 8 in let c = number 2 eth_type in let d = zeros 2 in
    subst (λ bs. (Number 2 17 ▷ Number 2 8 ▷ Number 2 eth_type ▷ Ignored 2) bs) (regroup4 a b c d) (
    then_append _ _ a (b ++ (c ++ d)) (is_number 2 17 (omega arith)) (then_append _ _ b (c ++ d) (is_number 2 8 (omega arith)) (
    then_append _ _ c d (is_number 2 eth_type (omega arith)) refl)))

set_written : (f : Field) → Fits f → f.mask ≡ all_ones f.id → SpellsSet f (set_bytes f)
set_written f h e =
    let n = byte_len_of f.id in
    let plain = ((number 2 0x8000 ++ number 1 (2 * number_of f.id)) ++ number 1 n) ++ number n f.value in
    let t : eqb f.mask (all_ones f.id) ≡ true = eq-eqb _ _ e in
    let is : field_bytes f ≡ plain = rw t refl in
    let size : length plain ≡ 4 + n =
    omega (
      arith,
      length-append ((number 2 0x8000 ++ number 1 (2 * number_of f.id)) ++ number 1 n) (number n f.value),
      length-append (number 2 0x8000 ++ number 1 (2 * number_of f.id)) (number 1 n),
      length-append (number 2 0x8000) (number 1 (2 * number_of f.id)),
      number_length 2 0x8000,
      number_length 1 (2 * number_of f.id),
      number_length 1 n,
      number_length n f.value,
    ) in
    let len = up_to_8 (8 + n) in
    let a = number 2 25 in let b = number 2 len in let z = zeros (len - (8 + n)) in
    let eight : 4 + (4 + n) ≡ 8 + n = omega arith in
    let lens : up_to_8 (4 + length plain) ≡ len = ap up_to_8 (ap (λ k. 4 + k) size ∙ eight) in
    let whole : length ((a ++ b) ++ plain) ≡ 8 + n = omega (arith, length-append (a ++ b) plain, length-append a b, number_length 2 25, number_length 2 len, size) in
    let pad : (8 - length ((a ++ b) ++ plain) % 8) % 8 ≡ len - (8 + n) = rw whole (omega arith) in
    let written : set_bytes f ≡ ((a ++ b) ++ plain) ++ z =
    ap (λ p. ((number 2 25 ++ number 2 (up_to_8 (4 + length p))) ++ p) ++ replicate ((8 - length ((number 2 25 ++ number 2 (up_to_8 (4 + length p))) ++ p) % 8) % 8) 0) is
    ∙ ap (λ k. ((number 2 25 ++ number 2 k) ++ plain) ++ replicate ((8 - length ((number 2 25 ++ number 2 k) ++ plain) % 8) % 8) 0) lens
    ∙ ap (λ k. ((a ++ b) ++ plain) ++ replicate k 0) pad in
    subst (λ bs. SpellsSet f bs) (regroup4 a b plain z ∙ sym written) (
    then_append _ _ a (b ++ (plain ++ z)) (is_number 2 25 (omega arith)) (then_append _ _ b (plain ++ z) (is_number 2 len (omega (arith, most_bytes f.id))) (
    then_append _ _ plain z (plain_written f h e) refl)))

pub action_written : (a : Action) → IsAction a → SpellsAction a (action_bytes a)
action_written (Output port max_len) h = output_written port max_len h
action_written (PushVlan eth_type) h = push_written eth_type h
action_written PopVlan h = bare_written 18 (omega arith)
action_written DecTtl h = bare_written 24 (omega arith)
action_written (Set f) h = set_written f h.0 h.1

actions_from : (before actions : List Action) → AllByRecursion IsAction actions → Joined (λ before a. SpellsAction a) before actions (flat_map action_bytes actions)
actions_from before [] h = refl
actions_from before (a ∷ actions) h = record {
  first = action_bytes a;
  rest = flat_map action_bytes actions;
  whole = refl;
  in_front = action_written a h.0;
  behind = actions_from (before ++ a ∷ []) actions h.1;
}

pub actions_written : (actions : List Action) → AllByRecursion IsAction actions → SpellsActions actions (flat_map action_bytes actions)
actions_written actions h = actions_from [] actions h

-- ---- instructions

goto_written : (table : ℕ) → table < 2 ^ 8 → SpellsInstr (Goto table) (instr_bytes (Goto table))
goto_written table h =
    let a = number 2 1 in let b = number 2 8 in let c = number 1 table in let d = zeros 3 in
    subst (λ bs. (Number 2 1 ▷ Number 2 8 ▷ Number 1 table ▷ Ignored 3) bs) (regroup4 a b c d) (
    then_append _ _ a (b ++ (c ++ d)) (is_number 2 1 (omega arith)) (then_append _ _ b (c ++ d) (is_number 2 8 (omega arith)) (
    then_append _ _ c d (is_number 1 table (omega arith)) refl)))

-- how many bytes an APPLY_ACTIONS takes
apply_size : (actions : List Action) → length (instr_bytes (Apply actions)) ≡ 8 + length (flat_map action_bytes actions)
apply_size actions =
    let body = flat_map action_bytes actions in
    let a = number 2 4 in let b = number 2 (8 + length body) in let z = zeros 4 in
    omega (arith, length-append ((a ++ b) ++ z) body, length-append (a ++ b) z, length-append a b, number_length 2 4, number_length 2 (8 + length body), length-replicate {A = ℕ} 4 0)

apply_written : (actions : List Action) → AreApplied actions → 8 + length (flat_map action_bytes actions) < 2 ^ 16 → SpellsInstr (Apply actions) (instr_bytes (Apply actions))
apply_written actions h room =
    let body = flat_map action_bytes actions in
    let len = 8 + length body in
    let a = number 2 4 in let b = number 2 len in let z = zeros 4 in
    let four : length z ≡ 4 = length-replicate {A = ℕ} 4 0 in
    let size : len ≡ length (((a ++ b) ++ z) ++ body) = sym (apply_size actions) in
    let parts : (Number 2 4 ▷ Number 2 len ▷ Ignored 4 ▷ SpellsActions actions) (((a ++ b) ++ z) ++ body) =
    subst (λ bs. (Number 2 4 ▷ Number 2 len ▷ Ignored 4 ▷ SpellsActions actions) bs) (regroup4 a b z body) (
    then_append _ _ a (b ++ (z ++ body)) (is_number 2 4 (omega arith)) (then_append _ _ b (z ++ body) (is_number 2 len room) (
    then_append _ _ z body four (actions_written actions h.each)))) in
    (subst (λ k. (Number 2 4 ▷ Number 2 k ▷ Ignored 4 ▷ SpellsActions actions) (((a ++ b) ++ z) ++ body)) size parts, h.some)

apply_room : (actions : List Action) (more : List Instr) → length (flat_map instr_bytes (Apply actions ∷ more)) < 2 ^ 16 → 8 + length (flat_map action_bytes actions) < 2 ^ 16
apply_room actions more room = omega (arith, apply_size actions, length-append (instr_bytes (Apply actions)) (flat_map instr_bytes more), room)

pub instrs_written : (instrs : List Instr) → AreInstrs instrs → length (flat_map instr_bytes instrs) < 2 ^ 16 → SpellsInstrs instrs (flat_map instr_bytes instrs)
instrs_written [] h room = refl
instrs_written (Goto table ∷ []) h room = record { first = instr_bytes (Goto table); rest = []; whole = refl; in_front = (goto_written table h, refl); behind = refl }
instrs_written (Goto table ∷ i ∷ more) h room = absurd h
instrs_written (Apply actions ∷ []) h room = record { first = instr_bytes (Apply actions); rest = []; whole = refl; in_front = (apply_written actions h (apply_room actions [] room), (refl, refl)); behind = refl }
instrs_written (Apply actions ∷ Goto table ∷ []) h room = record {
  first = instr_bytes (Apply actions);
  rest = instr_bytes (Goto table) ++ [];
  whole = refl;
  in_front = (apply_written actions h.0 (apply_room actions (Goto table ∷ []) room), (refl, refl));
  behind = record { first = instr_bytes (Goto table); rest = []; whole = refl; in_front = (goto_written table h.1, refl); behind = refl };
}
instrs_written (Apply actions ∷ Goto table ∷ i ∷ more) h room = absurd h
instrs_written (Apply actions ∷ Apply others ∷ more) h room = absurd h
