-- What reading an action answers is the first fault that stands in its bytes.
use Rattle.std.proofs.Common.{subst, ◌≡◌, ◌≢◌, ℕ, ◌+◌, ◌/◌, ◌%◌, ◌-◌, ◌≤◌, ◌<◌, not, ◌||◌, cond, eqb, ltb, List, [], ◌∷◌, ◌++◌, length, take, drop, replicate, get_or, Option, Some, None, Result, Ok, Err, refl, sym, ap, ◌∙◌, arith, inl, inr}
use Rattle.std.proofs.lemmas.Bool.{eqb-true, eqb-false, not-true, not-false, or_parts, or_cases}
use Rattle.std.proofs.lemmas.List.{drop-drop}
use Rattle.byteorder.specs.Endian.{big_from}
use Rattle.net_base.specs.declared.field.FieldId.{FieldId}
use Rattle.net_base.specs.declared.field.FieldId.TheVariants.{InPort}
use Rattle.net_base.specs.FieldId.{byte_len_of}
use Rattle.net_base.proofs.Rows.{same_field}
use Rattle.of_match.specs.declared.action.Action.{Action}
use Rattle.of_match.specs.declared.action.Action.TheVariants.{Output, PushVlan, PopVlan, DecTtl, Set}
use Rattle.of_wire.specs.declared.fault.PartFault.{PartFault}
use Rattle.of_wire.specs.declared.fault.PartCause.{PartCause}
use Rattle.of_wire.specs.declared.fault.PartCause.TheVariants.{Short, BadClass, BadLength, BadPad, UnknownAction}
use Rattle.of_wire.specs.declared.fault.PartRefused.{PartRefused}
use Rattle.of_wire.specs.Causes.{cause_number}
use Rattle.of_wire.specs.Numbers.{number_in}
use Rattle.of_wire.specs.Parts.{up_to_8}
use Rattle.of_wire.specs.Answers.{Gives, fault_at}
use Rattle.of_wire.specs.Reading.{◌>>=◌, padding_at, field_named, has_mask, payload_len, field_value, sized_at, set_named, set_at, output_at, push_at, bare_at, action_of, action_at, action_step, actions_at}
use Rattle.of_wire.specs.Faults.{ComesFirst, EndsEarly, type_of, IsSized, NamesNone, Names, SetFault, no_room, set_length, set_unknown, set_mask, set_value, set_padding, ActionFault, unknown_action, action_length, in_set, EachAction, WrongAction, ActionsFault, FaultInActions, FaultInActionsAt, OrShort, Behind, EndsIn, CutsOff, TellsFirst, SpelledOrFaulty}
use Rattle.of_wire.proofs.Grammars.{AreBytes}
use Rattle.of_wire.proofs.FieldNames.{named, unnamed}
use Rattle.of_wire.specs.Spelling.{SpellsAction, SpellsActions}
use Rattle.of_wire.proofs.Chosen.{one_answer}
use Rattle.of_wire.proofs.SetLaws.{set_front, action_complete, step_complete}
use Rattle.of_wire.proofs.ActionLaws.{Front, front_part, output_front, push_front, bare_front}
use Rattle.of_wire.proofs.Padding.{padding_sound}
use Rattle.of_wire.proofs.Joining.{Parts}
use Rattle.of_wire.proofs.Verdicts.{Verdict, Steps, many_verdict, cut_ends}
use Rattle.of_wire.proofs.Told.{by_equal, by_other, by_less, by_test, Told, told_ok, told_fault, told_end, told_map, told_as, told_spelled, told_value, first_of_cause, padding_told, told_from_start, tells_first, tells_cut, spelled_or_faulty}

-- a number behind some bytes
pub number_behind : (b a n : ℕ) (xs : List ℕ) → number_in a n (drop b xs) ≡ number_in (b + a) n xs
unfolding number_in
number_behind b a n xs = ap (big_from 0 n) (drop-drop a b xs)

-- ---- actions of a fixed length

-- each type with a fixed length is known, is no SET_FIELD, and has one length
sized_known : (kind size : ℕ) → IsSized kind size → ((a : Action) → type_of a ≡ kind → ⊥) → ⊥
sized_known kind size s none = elim s [
  | inl p ↦ none (Output 0 0) (sym p.0)
  | inr p ↦ elim p.0 [
    | inl e ↦ none (PushVlan 0) (sym e)
    | inr q ↦ elim q [ inl e ↦ none PopVlan (sym e) | inr e ↦ none DecTtl (sym e) ]
  ]
]

sized_no_set : (kind size : ℕ) → IsSized kind size → kind ≡ 25 → ⊥
sized_no_set kind size s e = elim s [
  | inl p ↦ omega (arith, e, p.0)
  | inr p ↦ elim p.0 [
    | inl k ↦ omega (arith, e, k)
    | inr q ↦ elim q [ inl k ↦ omega (arith, e, k) | inr k ↦ omega (arith, e, k) ]
  ]
]

sized_zero : (kind size : ℕ) → IsSized kind size → kind ≡ 0 → size ≡ 16
sized_zero kind size s e = elim s [
  | inl p ↦ p.1
  | inr p ↦ elim p.0 [
    | inl k ↦ absurd (omega (arith, e, k))
    | inr q ↦ elim q [ inl k ↦ absurd (omega (arith, e, k)) | inr k ↦ absurd (omega (arith, e, k)) ]
  ]
]

sized_once : (kind a b : ℕ) → IsSized kind a → IsSized kind b → a ≡ b
sized_once kind a b s t = elim s [
  | inl p ↦ p.1 ∙ sym (sized_zero kind b t p.0)
  | inr p ↦ elim t [
    | inl q ↦ sized_zero kind a (inr p) q.0 ∙ sym q.1
    | inr q ↦ p.1 ∙ sym q.1
  ]
]

sized_least : (bytes : List ℕ) (size : ℕ) → IsSized (number_in 0 2 bytes) size → (q : ℕ) (d : PartCause) → ActionFault bytes q d → ComesFirst 2 BadLength q d
sized_least bytes size s q d (unknown_action h none) = absurd (sized_known (number_in 0 2 bytes) size s none)
sized_least bytes size s q d (action_length h other o ne) = inr (refl, omega arith)
sized_least bytes size s q d (in_set h e place cause f) = absurd (sized_no_set (number_in 0 2 bytes) size s e)

sized_none : (bytes : List ℕ) (size : ℕ) → IsSized (number_in 0 2 bytes) size → number_in 2 2 bytes ≡ size → (q : ℕ) (d : PartCause) → ActionFault bytes q d → ⊥
sized_none bytes size s len q d (unknown_action h none) = sized_known (number_in 0 2 bytes) size s none
sized_none bytes size s len q d (action_length h other o ne) = ne (len ∙ sized_once (number_in 0 2 bytes) size other s o)
sized_none bytes size s len q d (in_set h e place cause f) = sized_no_set (number_in 0 2 bytes) size s e

-- what reading an action gives: it stands at the front
abbrev ActionFront : List ℕ → Action × ℕ → Type 0
ActionFront bytes y = Front (SpellsAction y.0) y.1 bytes

sized_told : (past : PartFault) (size at : ℕ) (bytes : List ℕ) (a : Action) → 4 ≤ length bytes → IsSized (number_in 0 2 bytes) size
    → (number_in 2 2 bytes ≡ size → size ≤ length bytes → Front (SpellsAction a) size bytes)
    → Told (ActionFront bytes) past at (ActionFault bytes) (EndsEarly bytes) bytes (sized_at past size (number_in 2 2 bytes) at bytes >>= λ n. Ok (a, n))
unfolding sized_at
sized_told past size at bytes a head s front =
    let len = number_in 2 2 bytes in
    let own = ActionFault bytes in
    let early = EndsEarly bytes in
    let P = λ (r : Result ℕ PartFault). Told (ActionFront bytes) past at own early bytes (r >>= λ n. Ok (a, n)) in
    by_other P len size (Err (fault_at (at + 2) BadLength)) (cond (ltb (length bytes) size) (Err past) (Ok size))
    (λ ne. told_fault past at own early bytes (Err (fault_at (at + 2) BadLength)) 2 BadLength refl (omega arith) (action_length head size s ne) (sized_least bytes size s))
    (λ e. by_less P (length bytes) size (Err past) (Ok size)
    (λ lt. told_end past at own early bytes (Err past) refl (omega arith) (inr (omega (arith, e, lt))) (sized_none bytes size s e))
    (λ le. told_ok past at own early bytes (Ok (a, size)) (a, size) refl (front e le) (sized_none bytes size s e) (λ ends. elim ends [ inl lt ↦ omega (arith, lt) | inr lt ↦ omega (arith, lt, e, le) ])))

-- ---- SET_FIELD

set_first : (bytes : List ℕ) (q : ℕ) (d : PartCause) → SetFault bytes q d → ComesFirst 2 BadLength q d
set_first bytes q d (no_room l) = inr (refl, omega arith)
set_first bytes q d (set_length h ne) = inr (refl, omega arith)
set_first bytes q d (set_unknown h n) = inl (omega arith)
set_first bytes q d (set_mask h id n m) = inl (omega arith)
set_first bytes q d (set_value h id n v) = inl (omega arith)
set_first bytes q d (set_padding h place low high there bit) = inl (omega arith)

cut_head : (bytes : List ℕ) → 8 ≤ number_in 2 2 bytes → length bytes < 8 → (q : ℕ) (d : PartCause) → SetFault bytes q d → ⊥
cut_head bytes room few q d (no_room l) = omega arith
cut_head bytes room few q d (set_length h ne) = omega arith
cut_head bytes room few q d (set_unknown h n) = omega arith
cut_head bytes room few q d (set_mask h id n m) = omega arith
cut_head bytes room few q d (set_value h id n v) = omega arith
cut_head bytes room few q d (set_padding h place low high there bit) = omega arith

-- a SET_FIELD whose length is right
record Sized (bytes : List ℕ) : Type 0 where
  pub room : 8 ≤ number_in 2 2 bytes
  pub there : 8 ≤ length bytes
  pub padded : number_in 2 2 bytes ≡ up_to_8 (8 + number_in 7 1 bytes)

unknown_first : (bytes : List ℕ) → Sized bytes → (q : ℕ) (d : PartCause) → SetFault bytes q d → ComesFirst 4 BadClass q d
unknown_first bytes s q d (no_room l) = absurd (omega (arith, s.room))
unknown_first bytes s q d (set_length h ne) = absurd (ne s.padded)
unknown_first bytes s q d (set_unknown h n) = inr (refl, omega arith)
unknown_first bytes s q d (set_mask h id n m) = inl (omega arith)
unknown_first bytes s q d (set_value h id n v) = inl (omega arith)
unknown_first bytes s q d (set_padding h place low high there bit) = inl (omega arith)

value_first : (bytes : List ℕ) (id : FieldId) → Sized bytes → Names 4 id bytes → (q : ℕ) (d : PartCause) → SetFault bytes q d → ComesFirst 7 BadLength q d
value_first bytes id s name q d (no_room l) = absurd (omega (arith, s.room))
value_first bytes id s name q d (set_length h ne) = absurd (ne s.padded)
value_first bytes id s name q d (set_unknown h n) = absurd (n id name.0 name.1)
value_first bytes id s name q d (set_mask h other n m) = inr (refl, omega arith)
value_first bytes id s name q d (set_value h other n v) = inr (refl, omega arith)
value_first bytes id s name q d (set_padding h place low high there bit) = inl (omega arith)

-- a byte of its padding that isn't zero
record Bit (bytes : List ℕ) (q : ℕ) (d : PartCause) : Type 0 where
  pub cause : d ≡ BadPad
  pub low : 8 + number_in 7 1 bytes ≤ q
  pub high : q < number_in 2 2 bytes
  pub there : q < length bytes
  pub bit : get_or bytes q 0 ≢ 0

only_padding : (bytes : List ℕ) (id : FieldId) → Sized bytes → Names 4 id bytes → (number_in 6 1 bytes % 2 ≡ 1 → ⊥) → number_in 7 1 bytes ≡ byte_len_of id
    → (q : ℕ) (d : PartCause) → SetFault bytes q d → Bit bytes q d
only_padding bytes id s name plain size q d (no_room l) = absurd (omega (arith, s.room))
only_padding bytes id s name plain size q d (set_length h ne) = absurd (ne s.padded)
only_padding bytes id s name plain size q d (set_unknown h n) = absurd (n id name.0 name.1)
only_padding bytes id s name plain size q d (set_mask h other n m) = absurd (plain m)
only_padding bytes id s name plain size q d (set_value h other n v) =
    let same : id ≡ other = same_field id other (sym name.1 ∙ n.1) in
    absurd (v (size ∙ ap byte_len_of same))
only_padding bytes id s name plain size q d (set_padding h place low high there bit) = record { cause = refl; low = low; high = high; there = there; bit = bit }

padding_first : (bytes : List ℕ) (place : ℕ) → ((j : ℕ) → 8 + number_in 7 1 bytes ≤ j → j < number_in 2 2 bytes → j < length bytes → get_or bytes j 0 ≢ 0 → place ≤ j)
    → (q : ℕ) (d : PartCause) → Bit bytes q d → ComesFirst place BadPad q d
padding_first bytes place first q d b = elim (first_of_cause place q BadPad (first q b.low b.high b.there b.bit)) [
  | inl lt ↦ inl lt
  | inr e ↦ inr (e.0, omega (arith, ap cause_number b.cause))
]

set_padding_told : (past : PartFault) (id : FieldId) (at : ℕ) (bytes : List ℕ) → Sized bytes → Names 4 id bytes → (number_in 6 1 bytes % 2 ≡ 1 → ⊥) → number_in 7 1 bytes ≡ byte_len_of id
    → Told (λ n. (number_in 2 2 bytes ≡ n) × (number_in 2 2 bytes ≤ length bytes) × (take (number_in 2 2 bytes - (8 + byte_len_of id)) (drop (8 + byte_len_of id) bytes) ≡ replicate (number_in 2 2 bytes - (8 + byte_len_of id)) 0))
    past at (SetFault bytes) (EndsEarly bytes) bytes (padding_at past at (8 + byte_len_of id) (number_in 2 2 bytes) bytes)
set_padding_told past id at bytes s name plain size =
    let len = number_in 2 2 bytes in
    let own = SetFault bytes in
    let early = EndsEarly bytes in
    let r = padding_at past at (8 + byte_len_of id) len bytes in
    let only = only_padding bytes id s name plain size in
    let order : 8 + byte_len_of id ≤ len = omega (arith, s.padded, size) in
    elim (padding_told past at (8 + byte_len_of id) len bytes order) [
      | inl z ↦ told_fault past at own early bytes r z.place BadPad z.is z.inside (set_padding s.there z.place (omega (arith, size, z.least)) z.most z.inside z.bit)
          (λ q d f. padding_first bytes z.place (λ j low high in_ bit. z.first j (omega (arith, size, low)) high in_ bit) q d (only q d f))
      | inr (inl e) ↦ told_end past at own early bytes r e.is (omega (arith, s.there)) (inr e.few)
          (λ q d f. (let b = only q d f in e.zeros q (omega (arith, size, b.low)) b.high b.there b.bit))
      | inr (inr e) ↦ told_ok past at own early bytes r len e.is (padding_sound past at (8 + byte_len_of id) len bytes len order e.is)
          (λ q d f. (let b = only q d f in e.zeros q (omega (arith, size, b.low)) b.high b.there b.bit))
          (λ ends. elim ends [ inl lt ↦ omega (arith, lt, s.there) | inr lt ↦ omega (arith, lt, e.room) ])
    ]

set_named_told : (past : PartFault) (o : Option FieldId) (at : ℕ) (bytes : List ℕ) → AreBytes bytes → number_in 0 2 bytes ≡ 25 → Sized bytes → field_named (drop 4 bytes) ≡ o
    → Told (ActionFront bytes) past at (SetFault bytes) (EndsEarly bytes) bytes (set_named o past (number_in 2 2 bytes) at bytes)
unfolding set_named
set_named_told past None at bytes h kind s name =
    let none : NamesNone 4 bytes = λ id c n. unnamed (drop 4 bytes) id name (number_behind 4 0 2 bytes ∙ c) (ap (λ k. k / 2) (number_behind 4 2 1 bytes) ∙ n) in
    told_fault past at (SetFault bytes) (EndsEarly bytes) bytes (Err (fault_at (at + 4) BadClass)) 4 BadClass refl (omega (arith, s.there)) (set_unknown s.there none) (unknown_first bytes s)
set_named_told past (Some id) at bytes h kind s name =
    let field = drop 4 bytes in
    let n = byte_len_of id in
    let own = SetFault bytes in
    let early = EndsEarly bytes in
    let is = named field id name in
    let names : Names 4 id bytes = (sym (number_behind 4 0 2 bytes) ∙ is.0, sym (ap (λ k. k / 2) (number_behind 4 2 1 bytes)) ∙ is.1) in
    let P = λ (r : Result (Action × ℕ) PartFault). Told (ActionFront bytes) past at own early bytes r in
    let wrong : Result (Action × ℕ) PartFault = Err (fault_at (at + 7) BadLength) in
    let fails : SetFault bytes 7 BadLength → P wrong = λ f. told_fault past at own early bytes wrong 7 BadLength refl (omega (arith, s.there)) f (value_first bytes id s names) in
    let pad = padding_at past at (8 + n) (number_in 2 2 bytes) bytes in
    let make : ℕ → Action × ℕ = λ taken. (Set (field_value id field), taken) in
    by_test P (has_mask field || not (eqb (payload_len field) n)) wrong (pad >>= λ taken. Ok (make taken))
    (λ t. elim (or_cases (has_mask field) (not (eqb (payload_len field) n)) t) [
      | inl m ↦ fails (set_mask s.there id names (ap (λ k. k % 2) (sym (number_behind 4 2 1 bytes)) ∙ eqb-true _ _ m))
      | inr v ↦ fails (set_value s.there id names (λ e. eqb-false _ _ (not-true _ v) (number_behind 4 3 1 bytes ∙ e)))
    ])
    (λ t.
    (let plain = or_parts (has_mask field) (not (eqb (payload_len field) n)) t in
    let even : number_in 6 1 bytes % 2 ≡ 1 → ⊥ = λ e. eqb-false _ _ plain.0 (ap (λ k. k % 2) (number_behind 4 2 1 bytes) ∙ e) in
    let size : number_in 7 1 bytes ≡ n = sym (number_behind 4 3 1 bytes) ∙ eqb-true _ _ (not-false _ plain.1) in
    let front : Front (SpellsAction (Set (field_value id field))) (number_in 2 2 bytes) bytes → (taken : ℕ) → number_in 2 2 bytes ≡ taken → ActionFront bytes (make taken) =
    λ f taken e. subst (λ k. Front (SpellsAction (Set (field_value id field))) k bytes) e f in
    told_map past at (length bytes) own _ early pad make
    (λ taken p. front (set_front id bytes h kind name plain.0 (eqb-true _ _ (not-false _ plain.1)) (s.padded ∙ ap (λ k. up_to_8 (8 + k)) size) p.1 p.2) taken p.0)
    (set_padding_told past id at bytes s names even size)))

set_told : (past : PartFault) (at : ℕ) (bytes : List ℕ) → AreBytes bytes → number_in 0 2 bytes ≡ 25 → 4 ≤ length bytes → Told (ActionFront bytes) past at (SetFault bytes) (EndsEarly bytes) bytes (set_at past (number_in 2 2 bytes) at bytes)
unfolding set_at
set_told past at bytes h kind head =
    let len = number_in 2 2 bytes in
    let own = SetFault bytes in
    let early = EndsEarly bytes in
    let P = λ (r : Result (Action × ℕ) PartFault). Told (ActionFront bytes) past at own early bytes r in
    let wrong : Result (Action × ℕ) PartFault = Err (fault_at (at + 2) BadLength) in
    let fails : SetFault bytes 2 BadLength → P wrong = λ f. told_fault past at own early bytes wrong 2 BadLength refl (omega arith) f (set_first bytes) in
    let right = up_to_8 (8 + payload_len (drop 4 bytes)) in
    let read = set_named (field_named (drop 4 bytes)) past len at bytes in
    let same : right ≡ up_to_8 (8 + number_in 7 1 bytes) = ap (λ k. up_to_8 (8 + k)) (number_behind 4 3 1 bytes) in
    by_less P len 8 wrong (cond (ltb (length bytes) 8) (Err past) (cond (not (eqb len right)) wrong read))
    (λ lt. fails (no_room lt))
    (λ room. by_less P (length bytes) 8 (Err past) (cond (not (eqb len right)) wrong read)
    (λ few. told_end past at own early bytes (Err past) refl (omega arith) (inr (omega (arith, few, room))) (cut_head bytes room few))
    (λ there. by_other P len right wrong read
    (λ ne. fails (set_length there (λ e. ne (e ∙ sym same))))
    (λ e. set_named_told past (field_named (drop 4 bytes)) at bytes h kind (record { room = room; there = there; padded = e ∙ same }) refl)))

-- ---- an action

of_set : (bytes : List ℕ) → number_in 0 2 bytes ≡ 25 → (q : ℕ) (d : PartCause) → ActionFault bytes q d → SetFault bytes q d
of_set bytes kind q d (unknown_action h none) = absurd (none (Set (record { id = InPort; value = 0; mask = 0 })) (sym kind))
of_set bytes kind q d (action_length h size s ne) = absurd (sized_no_set (number_in 0 2 bytes) size s kind)
of_set bytes kind q d (in_set h e place cause f) = f

unknown_least : (bytes : List ℕ) → ((a : Action) → type_of a ≡ number_in 0 2 bytes → ⊥) → (q : ℕ) (d : PartCause) → ActionFault bytes q d → ComesFirst 0 UnknownAction q d
unknown_least bytes none q d (unknown_action h _) = inr (refl, omega arith)
unknown_least bytes none q d (action_length h size s ne) = absurd (sized_known (number_in 0 2 bytes) size s none)
unknown_least bytes none q d (in_set h e place cause f) = absurd (none (Set (record { id = InPort; value = 0; mask = 0 })) (sym e))

no_header : (bytes : List ℕ) → length bytes < 4 → (q : ℕ) (d : PartCause) → ActionFault bytes q d → ⊥
no_header bytes few q d (unknown_action h none) = omega arith
no_header bytes few q d (action_length h size s ne) = omega arith
no_header bytes few q d (in_set h e place cause f) = omega arith

no_type : (kind : ℕ) → (kind ≡ 0 → ⊥) → (kind ≡ 17 → ⊥) → (kind ≡ 18 → ⊥) → (kind ≡ 24 → ⊥) → (kind ≡ 25 → ⊥) → (a : Action) → type_of a ≡ kind → ⊥
no_type kind a b c d e (Output port max_len) is = a (sym is)
no_type kind a b c d e (PushVlan eth_type) is = b (sym is)
no_type kind a b c d e PopVlan is = c (sym is)
no_type kind a b c d e DecTtl is = d (sym is)
no_type kind a b c d e (Set f) is = e (sym is)

action_told : (past : PartFault) (at : ℕ) (bytes : List ℕ) → AreBytes bytes → 0 < length bytes → Told (ActionFront bytes) past at (ActionFault bytes) (EndsEarly bytes) bytes (action_at past at bytes)
unfolding action_at action_of output_at push_at bare_at
action_told past at bytes h some =
    let kind = number_in 0 2 bytes in
    let len = number_in 2 2 bytes in
    let own = ActionFault bytes in
    let early = EndsEarly bytes in
    let P = λ (r : Result (Action × ℕ) PartFault). Told (ActionFront bytes) past at own early bytes r in
    let none : Result (Action × ℕ) PartFault = Err (fault_at at UnknownAction) in
    let five = cond (eqb kind 25) (set_at past len at bytes) none in
    let four = cond (eqb kind 24) (bare_at past DecTtl len at bytes) five in
    let three = cond (eqb kind 18) (bare_at past PopVlan len at bytes) four in
    let two = cond (eqb kind 17) (push_at past len at bytes) three in
    by_less P (length bytes) 4 (Err past) (action_of kind past len at bytes)
    (λ few. told_end past at own early bytes (Err past) refl some (inl few) (no_header bytes few))
    (λ head. by_equal P kind 0 (output_at past len at bytes) two
    (λ e. sized_told past 16 at bytes (Output (number_in 4 4 bytes) (number_in 8 2 bytes)) head (inl (e, refl)) (output_front bytes h e))
    (λ a. by_equal P kind 17 (push_at past len at bytes) three
    (λ e. sized_told past 8 at bytes (PushVlan (number_in 4 2 bytes)) head (inr (inl e, refl)) (push_front bytes h e))
    (λ b. by_equal P kind 18 (bare_at past PopVlan len at bytes) four
    (λ e. sized_told past 8 at bytes PopVlan head (inr (inr (inl e), refl)) (bare_front 18 bytes h e))
    (λ c. by_equal P kind 24 (bare_at past DecTtl len at bytes) five
    (λ e. sized_told past 8 at bytes DecTtl head (inr (inr (inr e), refl)) (bare_front 24 bytes h e))
    (λ d. by_equal P kind 25 (set_at past len at bytes) none
    (λ e. told_as past at (SetFault bytes) own early bytes (set_at past len at bytes) (λ q z f. in_set head e q z f) (of_set bytes e) (set_told past at bytes h e head))
    (λ f.
    (let unknown = no_type kind a b c d f in
    told_fault past at own early bytes none 0 UnknownAction (ap (λ n. Err (fault_at n UnknownAction)) (omega arith)) (omega arith) (unknown_action head unknown) (unknown_least bytes unknown))))))))

-- ---- actions up to the end

pub some_bytes : (bytes : List ℕ) (q : ℕ) (d : PartCause) → ActionFault bytes q d → 0 < length bytes
some_bytes bytes q d (unknown_action h none) = omega arith
some_bytes bytes q d (action_length h size s ne) = omega arith
some_bytes bytes q d (in_set h e place cause f) = omega arith

one_action : (a b : Action) (bytes : List ℕ) → SpellsAction a bytes → SpellsAction b bytes → a ≡ b
one_action a b bytes p q =
    let past = fault_at 0 BadLength in
    let x = action_complete past a 0 bytes [] p in
    let y = action_complete past b 0 bytes [] q in
    ap (λ (z : Action × ℕ). z.0) (one_answer (action_at past 0 (bytes ++ [])) (a, length bytes) (b, length bytes) x.0 y.0)

action_steps : (past : PartFault) → Steps EachAction (λ l. l) (action_step past) past EndsEarly WrongAction
unfolding action_step
action_steps past = record {
  verdict = λ before at bytes h some. told_map past at (length bytes) (ActionFault bytes) _ (EndsEarly bytes) (action_at past at bytes) (λ x. (before ++ x.0 ∷ [], x.1)) (λ x f. front_part EachAction before x.0 x.1 bytes f) (action_told past at bytes h some);
  complete = step_complete past;
  same = λ before x y bytes p q. one_action x y bytes p q;
  some = λ before bytes q d f. some_bytes bytes q d f;
}

pub actions_told : (past : PartFault) (at : ℕ) (bytes : List ℕ) → AreBytes bytes
    → Verdict (λ actions. SpellsActions actions bytes) past at (length bytes) (ActionsFault bytes) (Behind EachAction (CutsOff EndsEarly WrongAction) [] bytes) (Behind EachAction (EndsIn EndsEarly) [] bytes) (actions_at past at bytes)
unfolding actions_at
actions_told past at bytes h =
    told_spelled (Parts EachAction (λ l. l) [] bytes) (λ actions. SpellsActions actions bytes) past at (length bytes) (ActionsFault bytes) _ _ (actions_at past at bytes) (λ x p. subst (λ l. SpellsActions l bytes) (sym p.seen) p.joined)
    (many_verdict EachAction (λ l. l) (action_step past) past EndsEarly WrongAction (action_steps past) (length bytes) [] at bytes h (omega arith))

pub actions_sound : (past : PartFault) (at : ℕ) (bytes : List ℕ) (actions : List Action) → AreBytes bytes → actions_at past at bytes ≡ Ok actions → SpellsActions actions bytes
actions_sound past at bytes actions h e = told_value past at (length bytes) (ActionsFault bytes) _ _ (actions_at past at bytes) actions (actions_told past at bytes h) e

pub actions_tell_first : (bytes : List ℕ) (r : Result (List Action) PartRefused) → ((i : ℕ) → get_or bytes i 0 < 256) → Gives (λ x. x) r (actions_at (fault_at (length bytes) Short) 0 bytes)
    → TellsFirst (FaultInActions bytes) r
actions_tell_first bytes r h e =
    let own = ActionsFault bytes in
    let cut = Behind EachAction (CutsOff EndsEarly WrongAction) [] bytes in
    let ends = Behind EachAction (EndsIn EndsEarly) [] bytes in
    let end : length bytes ≡ 0 + length bytes = omega arith in
    told_from_start (OrShort own ends bytes) r (tells_first own cut ends 0 bytes r (actions_at (fault_at (length bytes) Short) 0 bytes) (cut_ends EachAction EndsEarly WrongAction [] bytes) e
    (subst (λ n. Verdict (λ actions. SpellsActions actions bytes) (fault_at n Short) 0 (length bytes) own cut ends (actions_at (fault_at (length bytes) Short) 0 bytes)) end (actions_told (fault_at (length bytes) Short) 0 bytes (record { small = h }))))

pub actions_tell_cut : (past : PartFault) (at : ℕ) (bytes : List ℕ) (r : Result (List Action) PartRefused) → ((i : ℕ) → get_or bytes i 0 < 256) → Gives (λ x. x) r (actions_at past at bytes)
    → TellsFirst (FaultInActionsAt at past bytes) r
actions_tell_cut past at bytes r h e =
    tells_cut past (ActionsFault bytes) (Behind EachAction (CutsOff EndsEarly WrongAction) [] bytes) (Behind EachAction (EndsIn EndsEarly) [] bytes) at (length bytes) r
    (actions_at past at bytes) (cut_ends EachAction EndsEarly WrongAction [] bytes) e (actions_told past at bytes (record { small = h }))

pub actions_spelled_or_faulty : (bytes : List ℕ) → ((i : ℕ) → get_or bytes i 0 < 256) → SpelledOrFaulty ((actions : List Action) × SpellsActions actions bytes) (FaultInActions bytes)
actions_spelled_or_faulty bytes h =
    let past = fault_at (0 + length bytes) Short in
    spelled_or_faulty ((actions : List Action) × SpellsActions actions bytes) (ActionsFault bytes) (Behind EachAction (CutsOff EndsEarly WrongAction) [] bytes) (Behind EachAction (EndsIn EndsEarly) [] bytes) bytes
    (actions_at past 0 bytes) (cut_ends EachAction EndsEarly WrongAction [] bytes) (λ x p. (x, p)) (actions_told past 0 bytes (record { small = h }))
