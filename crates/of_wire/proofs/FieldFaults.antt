-- What reading a field of a match answers is the first fault that stands in its bytes.
use Rattle.std.proofs.Common.{◌≡◌, ◌≢◌, ℕ, ◌+◌, ◌*◌, ◌/◌, ◌%◌, ◌≤◌, ◌<◌, Bool, true, false, not, ◌&&◌, cond, ltb, List, [], length, Option, Some, None, Result, Ok, Err, refl, sym, ap, ◌∙◌, subst, arith, inl, inr}
use Rattle.std.proofs.lemmas.Bool.{eqb-true, eqb-false, not-true, not-false, and_parts, and_cases, cases_Bool}
use Rattle.std.proofs.lemmas.List.{append-nil}
use Rattle.net_base.specs.declared.field.Field.{Field}
use Rattle.net_base.specs.declared.field.FieldId.{FieldId}
use Rattle.net_base.specs.FieldId.{byte_len_of}
use Rattle.net_base.specs.WellFormed.{has_prerequisite}
use Rattle.net_base.proofs.Rows.{same_field}
use Rattle.of_wire.specs.declared.fault.PartFault.{PartFault}
use Rattle.of_wire.specs.declared.fault.PartCause.{PartCause}
use Rattle.of_wire.specs.declared.fault.PartCause.TheVariants.{BadClass, BadLength, Repeated, Prerequisite}
use Rattle.of_wire.specs.Numbers.{number_in}
use Rattle.of_wire.specs.Answers.{fault_at}
use Rattle.of_wire.specs.Reading.{◌>>=◌, field_named, has_mask, payload_len, wanted_len, field_value, known_field, known_step, unknown_step, named_step, field_step}
use Rattle.of_wire.specs.Spelling.{stands, placed, known, MayStand, SpellsItem, SpellsUnknown}
use Rattle.of_wire.specs.Faults.{ComesFirst, NamesNone, Names, FieldEndsEarly, FieldFault, unknown_field, field_again, unprepared, value_length, mask_length}
use Rattle.of_wire.proofs.Grammars.{AreBytes, number_again}
use Rattle.of_wire.proofs.Joining.{Part}
use Rattle.of_wire.proofs.FieldNames.{named, unnamed, unnamed_again}
use Rattle.of_wire.proofs.FieldOrder.{view, stands_in_order, prerequisites_in_order}
use Rattle.of_wire.proofs.FieldLaws.{plain_again, masked_again, known_part, unknown_part, step_complete}
use Rattle.of_wire.proofs.Verdicts.{Steps}
use Rattle.of_wire.proofs.Told.{by_equal, by_less, by_test, Told, told_ok, told_fault, told_end, told_map}

false_true : {A : Type 0} (b : Bool) → b ≡ false → b ≡ true → A
false_true b e t = absurd (cc)

pub some_header : (strict : Bool) (before : List (Option Field)) (bytes : List ℕ) (q : ℕ) (d : PartCause) → FieldFault strict before bytes q d → 4 ≤ length bytes
some_header strict before bytes q d (unknown_field h t n) = h
some_header strict before bytes q d (field_again h id n t) = h
some_header strict before bytes q d (unprepared h t id n p) = h
some_header strict before bytes q d (value_length h id n e l) = h
some_header strict before bytes q d (mask_length h id n e l) = h

-- what a step gives where it reads a field: its part of the bytes
abbrev FieldPart : (strict : Bool) → List (Option Field) → List ℕ → List Field × ℕ → Type 0
FieldPart strict before bytes y = Part (SpellsItem strict) view before bytes y

-- ---- a field that isn't known

class_first : (strict : Bool) (before : List (Option Field)) (bytes : List ℕ) (q : ℕ) (d : PartCause) → FieldFault strict before bytes q d → ComesFirst 0 BadClass q d
class_first strict before bytes q d (unknown_field h t n) = inr (refl, omega arith)
class_first strict before bytes q d (field_again h id n t) = inr (refl, omega arith)
class_first strict before bytes q d (unprepared h t id n p) = inr (refl, omega arith)
class_first strict before bytes q d (value_length h id n e l) = inl (omega arith)
class_first strict before bytes q d (mask_length h id n e l) = inl (omega arith)

passed_over : (before : List (Option Field)) (bytes : List ℕ) (strict : Bool) → strict ≡ false → NamesNone 0 bytes → (q : ℕ) (d : PartCause) → FieldFault strict before bytes q d → ⊥
passed_over before bytes strict lax none q d (unknown_field h t n) = false_true strict lax t
passed_over before bytes strict lax none q d (field_again h id n t) = none id n.0 n.1
passed_over before bytes strict lax none q d (unprepared h t id n p) = none id n.0 n.1
passed_over before bytes strict lax none q d (value_length h id n e l) = none id n.0 n.1
passed_over before bytes strict lax none q d (mask_length h id n e l) = none id n.0 n.1

unknown_told : (strict : Bool) (past : PartFault) (before : List (Option Field)) (at : ℕ) (bytes : List ℕ) → AreBytes bytes → 4 ≤ length bytes → field_named bytes ≡ None
    → Told (FieldPart strict before bytes) past at (FieldFault strict before bytes) (FieldEndsEarly bytes) bytes (unknown_step strict past (view before) at bytes)
unfolding unknown_step
unknown_told strict past before at bytes h head name =
    let own = FieldFault strict before bytes in
    let early = FieldEndsEarly bytes in
    let P = λ (r : Result (List Field × ℕ) PartFault). Told (FieldPart strict before bytes) past at own early bytes r in
    let n = 4 + payload_len bytes in
    let out : Result (List Field × ℕ) PartFault = Ok (view before, n) in
    let wrong : Result (List Field × ℕ) PartFault = Err (fault_at at BadClass) in
    let none : NamesNone 0 bytes = λ id c k. unnamed bytes id name c k in
    by_test P strict wrong (cond (ltb (length bytes) n) (Err past) out)
    (λ t. told_fault past at own early bytes wrong 0 BadClass (ap (λ k. Err (fault_at k BadClass)) (omega arith)) (omega arith) (unknown_field head t none) (class_first strict before bytes))
    (λ lax. by_less P (length bytes) n (Err past) out
    (λ few. told_end past at own early bytes (Err past) refl (omega arith) (inr few) (passed_over before bytes strict lax none))
    (λ room. told_ok past at own early bytes out (view before, n) refl (unknown_part strict before bytes h name lax room) (passed_over before bytes strict lax none)
    (λ ends. elim ends [ inl lt ↦ omega (arith, lt) | inr lt ↦ omega (arith, lt, room) ])))

-- ---- a known field

repeated_first : (strict : Bool) (before : List (Option Field)) (bytes : List ℕ) (id : FieldId) → Names 0 id bytes → (q : ℕ) (d : PartCause) → FieldFault strict before bytes q d → ComesFirst 0 Repeated q d
repeated_first strict before bytes id name q d (unknown_field h t n) = absurd (n id name.0 name.1)
repeated_first strict before bytes id name q d (field_again h other n t) = inr (refl, omega arith)
repeated_first strict before bytes id name q d (unprepared h t other n p) = inr (refl, omega arith)
repeated_first strict before bytes id name q d (value_length h other n e l) = inl (omega arith)
repeated_first strict before bytes id name q d (mask_length h other n e l) = inl (omega arith)

same_name : (bytes : List ℕ) (id other : FieldId) → Names 0 id bytes → Names 0 other bytes → other ≡ id
same_name bytes id other n m = same_field other id (sym m.1 ∙ n.1)

prerequisite_first : (strict : Bool) (before : List (Option Field)) (bytes : List ℕ) (id : FieldId) → Names 0 id bytes → stands id (known before) ≡ false
    → (q : ℕ) (d : PartCause) → FieldFault strict before bytes q d → ComesFirst 0 Prerequisite q d
prerequisite_first strict before bytes id name once q d (unknown_field h t n) = absurd (n id name.0 name.1)
prerequisite_first strict before bytes id name once q d (field_again h other n t) =
    false_true (stands id (known before)) once (ap (λ i. stands i (known before)) (sym (same_name bytes id other name n)) ∙ t)
prerequisite_first strict before bytes id name once q d (unprepared h t other n p) = inr (refl, omega arith)
prerequisite_first strict before bytes id name once q d (value_length h other n e l) = inl (omega arith)
prerequisite_first strict before bytes id name once q d (mask_length h other n e l) = inl (omega arith)

-- a known field that may stand there: what is left is its length
module _ (strict : Bool) (before : List (Option Field)) (bytes : List ℕ) (id : FieldId) (name : Names 0 id bytes) (once : stands id (known before) ≡ false)
    (prepared : strict ≡ true → has_prerequisite id (known before) ≡ true) where
  only_length : (P : ℕ → PartCause → Type 0)
      → (number_in 2 1 bytes % 2 ≡ 0 → number_in 3 1 bytes ≢ byte_len_of id → P 3 BadLength)
      → (number_in 2 1 bytes % 2 ≡ 1 → number_in 3 1 bytes ≢ 2 * byte_len_of id → P 3 BadLength)
      → (q : ℕ) (d : PartCause) → FieldFault strict before bytes q d → P q d
  only_length P value mask q d (unknown_field h t n) = absurd (n id name.0 name.1)
  only_length P value mask q d (field_again h other n t) =
      false_true (stands id (known before)) once (ap (λ i. stands i (known before)) (sym (same_name bytes id other name n)) ∙ t)
  only_length P value mask q d (unprepared h t other n p) =
      false_true (has_prerequisite id (known before)) (ap (λ i. has_prerequisite i (known before)) (sym (same_name bytes id other name n)) ∙ p) (prepared t)
  only_length P value mask q d (value_length h other n e l) = value e (λ s. l (s ∙ ap byte_len_of (sym (same_name bytes id other name n))))
  only_length P value mask q d (mask_length h other n e l) = mask e (λ s. l (s ∙ ap (λ i. 2 * byte_len_of i) (sym (same_name bytes id other name n))))

  right_length : number_in 3 1 bytes ≡ wanted_len id (has_mask bytes) → (q : ℕ) (d : PartCause) → FieldFault strict before bytes q d → ⊥
  right_length e = elim (cases_Bool (has_mask bytes)) [
    | inl t ↦
        let len : number_in 3 1 bytes ≡ 2 * byte_len_of id = e ∙ rw t refl in
        only_length (λ q d. ⊥) (λ even ne. (let odd = eqb-true _ _ t in omega arith)) (λ odd ne. ne len)
    | inr t ↦
        let len : number_in 3 1 bytes ≡ byte_len_of id = e ∙ rw t refl in
        only_length (λ q d. ⊥) (λ even ne. ne len) (λ odd ne. eqb-false _ _ t odd)
  ]

  wrong_length : 4 ≤ length bytes → (number_in 3 1 bytes ≡ wanted_len id (has_mask bytes) → ⊥) → FieldFault strict before bytes 3 BadLength
  wrong_length head ne = elim (cases_Bool (has_mask bytes)) [
    | inl t ↦
        let wanted : wanted_len id (has_mask bytes) ≡ 2 * byte_len_of id = rw t refl in
        mask_length head id name (eqb-true _ _ t) (λ e. ne (e ∙ sym wanted))
    | inr t ↦
        let wanted : wanted_len id (has_mask bytes) ≡ byte_len_of id = rw t refl in
        let odd = eqb-false _ _ t in
        value_length head id name (omega arith) (λ e. ne (e ∙ sym wanted))
  ]

  known_told : (past : PartFault) (at : ℕ) → 4 ≤ length bytes → Told (λ f. (f ≡ field_value id bytes) × (payload_len bytes ≡ wanted_len id (has_mask bytes)) × (4 + payload_len bytes ≤ length bytes)) past at (FieldFault strict before bytes) (FieldEndsEarly bytes) bytes (known_field past id at bytes)
  unfolding known_field
  known_told past at head =
      let own = FieldFault strict before bytes in
      let early = FieldEndsEarly bytes in
      let P = λ (r : Result Field PartFault). Told (λ f. (f ≡ field_value id bytes) × (payload_len bytes ≡ wanted_len id (has_mask bytes)) × (4 + payload_len bytes ≤ length bytes)) past at own early bytes r in
      let n = 4 + payload_len bytes in
      let out : Result Field PartFault = Ok (field_value id bytes) in
      let wrong : Result Field PartFault = Err (fault_at (at + 3) BadLength) in
      by_equal P (payload_len bytes) (wanted_len id (has_mask bytes)) (cond (ltb (length bytes) n) (Err past) out) wrong
      (λ e. by_less P (length bytes) n (Err past) out
      (λ few. told_end past at own early bytes (Err past) refl (omega arith) (inr few) (right_length e))
      (λ room. told_ok past at own early bytes out (field_value id bytes) refl (refl, e, room) (right_length e)
      (λ ends. elim ends [ inl lt ↦ omega (arith, lt) | inr lt ↦ omega (arith, lt, room) ])))
      (λ ne. told_fault past at own early bytes wrong 3 BadLength refl (omega arith) (wrong_length head ne)
      (only_length (ComesFirst 3 BadLength) (λ even l. inr (refl, omega arith)) (λ odd l. inr (refl, omega arith))))

known_step_told : (strict : Bool) (past : PartFault) (before : List (Option Field)) (id : FieldId) (at : ℕ) (bytes : List ℕ) → AreBytes bytes → 4 ≤ length bytes → field_named bytes ≡ Some id
    → Told (FieldPart strict before bytes) past at (FieldFault strict before bytes) (FieldEndsEarly bytes) bytes (known_step strict past id (view before) at bytes)
unfolding known_step field_value
known_step_told strict past before id at bytes h head is =
    let own = FieldFault strict before bytes in
    let early = FieldEndsEarly bytes in
    let P = λ (r : Result (List Field × ℕ) PartFault). Told (FieldPart strict before bytes) past at own early bytes r in
    let fs = view before in
    let name : Names 0 id bytes = named bytes id is in
    let make : Field → List Field × ℕ = λ f. (placed f fs, 4 + payload_len bytes) in
    let read = known_field past id at bytes in
    let again : Result (List Field × ℕ) PartFault = Err (fault_at at Repeated) in
    let bare : Result (List Field × ℕ) PartFault = Err (fault_at at Prerequisite) in
    let lacks = strict && not (has_prerequisite id fs) in
    by_test P (stands id fs) again (cond lacks bare (read >>= λ f. Ok (make f)))
    (λ t. told_fault past at own early bytes again 0 Repeated (ap (λ k. Err (fault_at k Repeated)) (omega arith)) (omega arith)
    (field_again head id name (sym (stands_in_order id (known before)) ∙ t)) (repeated_first strict before bytes id name))
    (λ t.
    (let once : stands id (known before) ≡ false = sym (stands_in_order id (known before)) ∙ t in
    by_test P lacks bare (read >>= λ f. Ok (make f))
    (λ l.
    (let b = and_parts strict (not (has_prerequisite id fs)) l in
    told_fault past at own early bytes bare 0 Prerequisite (ap (λ k. Err (fault_at k Prerequisite)) (omega arith)) (omega arith)
    (unprepared head b.0 id name (sym (prerequisites_in_order id (known before)) ∙ not-true _ b.1)) (prerequisite_first strict before bytes id name once)))
    (λ l.
    (let prepared : strict ≡ true → has_prerequisite id (known before) ≡ true = λ s. elim (and_cases strict (not (has_prerequisite id fs)) l) [
      | inl lax ↦ false_true strict lax s
      | inr met ↦ sym (prerequisites_in_order id (known before)) ∙ not-false _ met
    ] in
    let may : MayStand strict (known before) (field_value id bytes) = record { once = once; prerequisites = prepared } in
    told_map past at (length bytes) own _ early read make
    (λ f p. subst (λ g. FieldPart strict before bytes (placed g fs, 4 + payload_len bytes)) (sym p.0) (known_part strict id before bytes h is may p.1 p.2))
    (known_told strict before bytes id name once prepared past at head)))))

named_told : (strict : Bool) (past : PartFault) (before : List (Option Field)) (o : Option FieldId) (at : ℕ) (bytes : List ℕ) → AreBytes bytes → 4 ≤ length bytes → field_named bytes ≡ o
    → Told (FieldPart strict before bytes) past at (FieldFault strict before bytes) (FieldEndsEarly bytes) bytes (named_step o strict past (view before) at bytes)
named_told strict past before (Some id) at bytes h head name = known_step_told strict past before id at bytes h head name
named_told strict past before None at bytes h head name = unknown_told strict past before at bytes h head name

field_told : (strict : Bool) (past : PartFault) (before : List (Option Field)) (at : ℕ) (bytes : List ℕ) → AreBytes bytes → 0 < length bytes
    → Told (FieldPart strict before bytes) past at (FieldFault strict before bytes) (FieldEndsEarly bytes) bytes (field_step strict past (view before) at bytes)
unfolding field_step
field_told strict past before at bytes h some =
    let own = FieldFault strict before bytes in
    let early = FieldEndsEarly bytes in
    let P = λ (r : Result (List Field × ℕ) PartFault). Told (FieldPart strict before bytes) past at own early bytes r in
    by_less P (length bytes) 4 (Err past) (named_step (field_named bytes) strict past (view before) at bytes)
    (λ few. told_end past at own early bytes (Err past) refl some (inl few) (λ q d f. (let l = some_header strict before bytes q d f in omega arith)))
    (λ head. named_told strict past before (field_named bytes) at bytes h head refl)

-- ---- bytes spell one field

unknown_named : (bytes : List ℕ) → SpellsUnknown bytes → field_named bytes ≡ None
unknown_named bytes p =
    let a = number_again 0 2 p.class _ bytes p.parts in
    let b = number_again 2 1 p.head _ bytes a.behind in
    unnamed_again bytes (λ id c k. p.unknown id (sym a.value ∙ c) (ap (λ n. n / 2) (sym b.value) ∙ k))

record Named (f : Field) (bytes : List ℕ) : Type 0 where
  pub name : field_named bytes ≡ Some f.id
  pub value : field_value f.id bytes ≡ f

named_field : (strict : Bool) (before : List (Option Field)) (f : Field) (bytes : List ℕ) → SpellsItem strict before (Some f) bytes → Named f bytes
named_field strict before f bytes p = elim p.0 [
  | inl q ↦ let g = plain_again f bytes [] q in subst (λ l. Named f l) (append-nil bytes) (record { name = g.name; value = g.value })
  | inr q ↦ let g = masked_again f bytes [] q in subst (λ l. Named f l) (append-nil bytes) (record { name = g.name; value = g.value })
]

some_none : {X A : Type 0} (o : Option X) (x : X) → o ≡ Some x → o ≡ None → A
some_none o x p q = absurd (cc)

some_once : {X : Type 0} (o : Option X) (x y : X) → o ≡ Some x → o ≡ Some y → x ≡ y
some_once o x y p q = cc

one_field : (strict : Bool) (before : List (Option Field)) (a b : Option Field) (bytes : List ℕ) → SpellsItem strict before a bytes → SpellsItem strict before b bytes → a ≡ b
one_field strict before (Some f) (Some g) bytes p q =
    let m = named_field strict before f bytes p in
    let n = named_field strict before g bytes q in
    let id = some_once (field_named bytes) f.id g.id m.name n.name in
    ap Some (sym m.value ∙ ap (λ i. field_value i bytes) id ∙ n.value)
one_field strict before (Some f) None bytes p q = let m = named_field strict before f bytes p in some_none (field_named bytes) f.id m.name (unknown_named bytes q.0)
one_field strict before None (Some g) bytes p q = let n = named_field strict before g bytes q in some_none (field_named bytes) g.id n.name (unknown_named bytes p.0)
one_field strict before None None bytes p q = refl

pub field_steps : (strict : Bool) (past : PartFault) → Steps (SpellsItem strict) view (field_step strict past) past FieldEndsEarly (FieldFault strict)
field_steps strict past = record {
  verdict = field_told strict past;
  complete = step_complete strict past;
  same = one_field strict;
  some = λ before bytes q d f. (let l = some_header strict before bytes q d f in omega arith);
}
