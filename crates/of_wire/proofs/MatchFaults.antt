-- What reading a match answers is the first fault that stands in its bytes.
use Rattle.std.proofs.Common.{◌≡◌, ◌≢◌, ℕ, ◌+◌, ◌-◌, ◌≤◌, ◌<◌, Bool, not, cond, eqb, ltb, List, [], ◌++◌, length, take, drop, get_or, Result, Ok, Err, refl, sym, ap, ◌∙◌, arith, inl, inr}
use Rattle.std.proofs.lemmas.List.{length-append, length-drop, length-take, take-append-drop}
use Rattle.net_base.specs.declared.field.Field.{Field}
use Rattle.of_wire.specs.declared.fault.PartFault.{PartFault}
use Rattle.of_wire.specs.declared.fault.PartCause.{PartCause}
use Rattle.of_wire.specs.declared.fault.PartCause.TheVariants.{Short, BadClass, BadLength, BadPad}
use Rattle.of_wire.specs.declared.fault.PartRefused.{PartRefused}
use Rattle.of_wire.specs.Numbers.{number_in}
use Rattle.of_wire.specs.Parts.{up_to_8}
use Rattle.of_wire.specs.Answers.{Gives, fault_at}
use Rattle.of_wire.specs.Reading.{◌>>=◌, many, past_end, padding_at, field_step, fields_at, sized_match_at, match_at}
use Rattle.of_wire.specs.Spelling.{SpellsItem, SpellsAnyMatch}
use Rattle.of_wire.proofs.MatchLaws.{match_front}
use Rattle.of_wire.specs.Faults.{ComesFirst, Behind, EndsIn, CutsOff, TellsFirst, From, SpelledOrFaulty, FieldEndsEarly, FieldFault, FieldsFault, fields_of, MatchFault, match_type, match_length, match_cut, in_field, match_padding, PaddedEndsEarly, FaultInMatch}
use Rattle.of_wire.proofs.Grammars.{AreBytes, bytes_take, bytes_drop}
use Rattle.of_wire.proofs.FieldOrder.{view}
use Rattle.of_wire.proofs.FieldFaults.{some_header, field_steps}
use Rattle.of_wire.proofs.ActionLaws.{Front}
use Rattle.of_wire.proofs.Padding.{padding_sound}
use Rattle.of_wire.proofs.Joining.{Parts}
use Rattle.of_wire.proofs.Verdicts.{Verdict, Failed, many_verdict, cut_ends, comes_first_after}
use Rattle.of_wire.proofs.Told.{by_other, by_less, Told, told_ok, told_fault, told_end, told_value, first_of_cause, padding_told, tells_first, spelled_or_faulty}

abbrev CutField : Bool → List ℕ → Type 0
CutField strict region = Behind (SpellsItem strict) (CutsOff FieldEndsEarly (FieldFault strict)) [] region

abbrev EndsInField : Bool → List ℕ → Type 0
EndsInField strict region = Behind (SpellsItem strict) (EndsIn FieldEndsEarly) [] region

abbrev short : ℕ → List ℕ → PartFault
short at bytes = fault_at (at + length bytes) Short

-- what reading a match gives: it stands at the front
abbrev MatchFront : Bool → List ℕ → List Field × ℕ → Type 0
MatchFront strict bytes y = Front (SpellsAnyMatch strict y.0) y.1 bytes

fields_told : (strict : Bool) (past : PartFault) (at : ℕ) (region : List ℕ) → AreBytes region
    → Verdict (Parts (SpellsItem strict) view [] region) past at (length region) (FieldsFault strict region) (CutField strict region) (EndsInField strict region) (many (field_step strict past) (length region) [] at region)
fields_told strict past at region h = many_verdict (SpellsItem strict) view (field_step strict past) past FieldEndsEarly (FieldFault strict) (field_steps strict past) (length region) [] at region h (omega arith)

-- ---- what is wrong with the header

type_first : (strict : Bool) (bytes : List ℕ) (q : ℕ) (d : PartCause) → MatchFault strict bytes q d → ComesFirst 0 BadClass q d
type_first strict bytes q d (match_type h ne) = inr (refl, omega arith)
type_first strict bytes q d (match_length h l) = inl (omega arith)
type_first strict bytes q d (match_cut l b) = inl (omega arith)
type_first strict bytes q d (in_field place cause f) = inl (omega arith)
type_first strict bytes q d (match_padding l place low high in_ bit) = inl (omega arith)

length_first : (strict : Bool) (bytes : List ℕ) → number_in 0 2 bytes ≡ 1 → (q : ℕ) (d : PartCause) → MatchFault strict bytes q d → ComesFirst 2 BadLength q d
length_first strict bytes kind q d (match_type h ne) = absurd (ne kind)
length_first strict bytes kind q d (match_length h l) = inr (refl, omega arith)
length_first strict bytes kind q d (match_cut l b) = inr (refl, omega arith)
length_first strict bytes kind q d (in_field place cause f) = inl (omega arith)
length_first strict bytes kind q d (match_padding l place low high in_ bit) = inl (omega arith)

-- ---- a match whose header is right

module _ (strict : Bool) (at : ℕ) (bytes : List ℕ) (h : AreBytes bytes) (head : 4 ≤ length bytes) (kind : number_in 0 2 bytes ≡ 1) (least : 4 ≤ number_in 2 2 bytes) where
  only_behind : (P : ℕ → PartCause → Type 0)
      → (number_in 2 2 bytes ≤ length bytes → CutField strict (fields_of bytes) → P 2 BadLength)
      → ((q : ℕ) (d : PartCause) → FieldsFault strict (fields_of bytes) q d → P (4 + q) d)
      → ((q : ℕ) → number_in 2 2 bytes ≤ q → q < up_to_8 (number_in 2 2 bytes) → q < length bytes → get_or bytes q 0 ≢ 0 → P q BadPad)
      → (q : ℕ) (d : PartCause) → MatchFault strict bytes q d → P q d
  only_behind P cut inside pad q d (match_type _ ne) = absurd (ne kind)
  only_behind P cut inside pad q d (match_length _ l) = absurd (omega arith)
  only_behind P cut inside pad q d (match_cut l b) = cut l b
  only_behind P cut inside pad q d (in_field place cause f) = inside place cause f
  only_behind P cut inside pad q d (match_padding l place low high in_ bit) = pad place low high in_ bit

  abbrev Says : Result (List Field × ℕ) PartFault → Type 0
  Says r = Told (MatchFront strict bytes) (short at bytes) at (MatchFault strict bytes) (PaddedEndsEarly bytes) bytes r

  -- what reading goes on to behind the fields
  abbrev padded : List Field → Result (List Field × ℕ) PartFault
  padded fields = padding_at (short at bytes) at (number_in 2 2 bytes) (up_to_8 (number_in 2 2 bytes)) bytes >>= λ taken. Ok (fields, taken)

  -- a fault in a field comes before the padding
  failed_field : (past : PartFault) (read : Result (List Field) PartFault) → (number_in 2 2 bytes ≤ length bytes → CutField strict (fields_of bytes) → ⊥)
      → (f : Failed (FieldsFault strict (fields_of bytes)) (CutField strict (fields_of bytes)) (at + 4) (length (fields_of bytes)) read) → Says (read >>= padded)
  failed_field past read uncut f =
      let len = number_in 2 2 bytes in
      let region = fields_of bytes in
      let r : Result (List Field × ℕ) PartFault = read >>= padded in
      let size : length region ≤ length bytes - 4 = omega (arith, length-take (len - 4) (drop 4 bytes), length-drop 4 bytes) in
      let below : length region ≤ len - 4 = omega (arith, length-take (len - 4) (drop 4 bytes)) in
      told_fault (short at bytes) at (MatchFault strict bytes) (PaddedEndsEarly bytes) bytes r (4 + f.place) f.cause
      (ap (λ (q : Result (List Field) PartFault). q >>= padded) f.is ∙ ap (λ n. Err (fault_at n f.cause)) (omega arith)) (omega (arith, f.inside, size)) (in_field f.place f.cause f.there)
      (only_behind (ComesFirst (4 + f.place) f.cause) (λ le b. absurd (uncut le b)) (λ q d o. comes_first_after 4 f.place (4 + q) q f.cause d refl (f.least q d o))
      (λ q low high in_ bit. inl (omega (arith, f.inside, below, low, least))))

  -- where nothing is wrong with the fields, the padding comes
  passed_fields : (read : Result (List Field) PartFault) (fields : List Field) → read ≡ Ok fields → Parts (SpellsItem strict) view [] (fields_of bytes) fields → (number_in 2 2 bytes ≤ length bytes → CutField strict (fields_of bytes) → ⊥)
      → ((q : ℕ) (d : PartCause) → FieldsFault strict (fields_of bytes) q d → ⊥) → Says (read >>= padded)
  passed_fields read fields is parts uncut none =
      let len = number_in 2 2 bytes in
      let own = MatchFault strict bytes in
      let early = PaddedEndsEarly bytes in
      let r : Result (List Field × ℕ) PartFault = read >>= padded in
      let open_ : r ≡ padded fields = ap (λ (q : Result (List Field) PartFault). q >>= padded) is in
      let next : Result ℕ PartFault → Result (List Field × ℕ) PartFault = λ q. q >>= (λ taken. Ok (fields, taken)) in
      let order : len ≤ up_to_8 len = omega arith in
      elim (padding_told (short at bytes) at len (up_to_8 len) bytes order) [
        | inl z ↦ told_fault (short at bytes) at own early bytes r z.place BadPad (open_ ∙ ap next z.is) z.inside (match_padding least z.place z.least z.most z.inside z.bit)
            (only_behind (ComesFirst z.place BadPad) (λ le b. absurd (uncut le b)) (λ q d o. absurd (none q d o))
            (λ q low high in_ bit. first_of_cause z.place q BadPad (z.first q low high in_ bit)))
        | inr (inl e) ↦ told_end (short at bytes) at own early bytes r (open_ ∙ ap next e.is) (omega arith) (inr e.few)
            (only_behind (λ q d. ⊥) uncut none (λ q low high in_ bit. e.zeros q low high in_ bit))
        | inr (inr e) ↦ told_ok (short at bytes) at own early bytes r (fields, up_to_8 len) (open_ ∙ ap next e.is)
            (let p = padding_sound (short at bytes) at len (up_to_8 len) bytes (up_to_8 len) order e.is in match_front strict fields bytes h kind least parts p.1 p.2)
            (only_behind (λ q d. ⊥) uncut none (λ q low high in_ bit. e.zeros q low high in_ bit))
            (λ ends. elim ends [ inl lt ↦ omega (arith, lt) | inr lt ↦ omega (arith, lt, e.room) ])
      ]

  -- the bytes end before the length
  short_told : length bytes < number_in 2 2 bytes → Says (many (field_step strict (short at bytes)) (length (fields_of bytes)) [] (at + 4) (fields_of bytes) >>= padded)
  short_told few =
      let len = number_in 2 2 bytes in
      let region = fields_of bytes in
      let read = many (field_step strict (short at bytes)) (length region) [] (at + 4) region in
      let r : Result (List Field × ℕ) PartFault = read >>= padded in
      elim (fields_told strict (short at bytes) (at + 4) region (bytes_take (len - 4) (drop 4 bytes) (bytes_drop 4 bytes h))) [
        | inl p ↦ passed_fields read p.value p.is p.spelled (λ le b. omega arith) p.none
        | inr (inl f) ↦ failed_field (short at bytes) read (λ le b. omega arith) f
        | inr (inr e) ↦ told_end (short at bytes) at (MatchFault strict bytes) (PaddedEndsEarly bytes) bytes r (ap (λ (q : Result (List Field) PartFault). q >>= padded) e.is) (omega arith) (inr (omega arith))
            (only_behind (λ q d. ⊥) (λ le b. omega arith) e.none (λ q low high in_ bit. omega arith))
      ]

  -- the length ends in the bytes: where it cuts off a field it is wrong
  whole_told : number_in 2 2 bytes ≤ length bytes → Says (many (field_step strict (fault_at (at + 2) BadLength)) (length (fields_of bytes)) [] (at + 4) (fields_of bytes) >>= padded)
  whole_told fits =
      let len = number_in 2 2 bytes in
      let region = fields_of bytes in
      let wrong = fault_at (at + 2) BadLength in
      let read = many (field_step strict wrong) (length region) [] (at + 4) region in
      let r : Result (List Field × ℕ) PartFault = read >>= padded in
      elim (fields_told strict wrong (at + 4) region (bytes_take (len - 4) (drop 4 bytes) (bytes_drop 4 bytes h))) [
        | inl p ↦ passed_fields read p.value p.is p.spelled (λ le b. p.whole (cut_ends (SpellsItem strict) FieldEndsEarly (FieldFault strict) [] region b)) p.none
        | inr (inl f) ↦ failed_field wrong read (λ le b. f.uncut b) f
        | inr (inr e) ↦ told_fault (short at bytes) at (MatchFault strict bytes) (PaddedEndsEarly bytes) bytes r 2 BadLength (ap (λ (q : Result (List Field) PartFault). q >>= padded) e.is) (omega arith)
            (match_cut fits e.early) (length_first strict bytes kind)
      ]

  sized_told : Says (sized_match_at strict (number_in 2 2 bytes) at bytes)
  unfolding sized_match_at fields_at past_end
  sized_told =
      by_less (λ (past : PartFault). Says (many (field_step strict past) (length (fields_of bytes)) [] (at + 4) (fields_of bytes) >>= padded))
      (length bytes) (number_in 2 2 bytes) (short at bytes) (fault_at (at + 2) BadLength) short_told whole_told

-- ---- a match

pub no_header : (strict : Bool) (bytes : List ℕ) → length bytes < 4 → (q : ℕ) (d : PartCause) → MatchFault strict bytes q d → ⊥
no_header strict bytes few q d (match_type h ne) = omega arith
no_header strict bytes few q d (match_length h l) = omega arith
no_header strict bytes few q d (match_cut l b) =
    let c = b.there in
    omega (arith, length-take (number_in 2 2 bytes - 4) (drop 4 bytes), length-drop 4 bytes, ap length b.whole, length-append b.front b.rest, c.0)
no_header strict bytes few q d (in_field place cause b) =
    let f = b.there in
    let some = some_header strict b.parts b.rest f.inside cause f.fault in
    omega (arith, length-take (number_in 2 2 bytes - 4) (drop 4 bytes), length-drop 4 bytes, ap length b.whole, length-append b.front b.rest, some)
no_header strict bytes few q d (match_padding l place low high in_ bit) = omega arith

pub match_told : (strict : Bool) (at : ℕ) (bytes : List ℕ) → AreBytes bytes
    → Verdict (MatchFront strict bytes) (short at bytes) at (length bytes) (MatchFault strict bytes) (PaddedEndsEarly bytes × ((q : ℕ) (d : PartCause) → MatchFault strict bytes q d → ⊥)) (PaddedEndsEarly bytes) (match_at strict at bytes)
unfolding match_at
match_told strict at bytes h =
    let len = number_in 2 2 bytes in
    let own = MatchFault strict bytes in
    let early = PaddedEndsEarly bytes in
    let P = λ (r : Result (List Field × ℕ) PartFault). Verdict (MatchFront strict bytes) (short at bytes) at (length bytes) own (early × ((q : ℕ) (d : PartCause) → own q d → ⊥)) early r in
    let other : Result (List Field × ℕ) PartFault = Err (fault_at at BadClass) in
    let small : Result (List Field × ℕ) PartFault = Err (fault_at (at + 2) BadLength) in
    let sized = sized_match_at strict len at bytes in
    let loose : (r : Result (List Field × ℕ) PartFault) → Told (MatchFront strict bytes) (short at bytes) at own early bytes r → P r = λ r t. elim t [
      | inl p ↦ inl p
      | inr (inl f) ↦ inr (inl (record { place = f.place; cause = f.cause; is = f.is; there = f.there; least = f.least; inside = f.inside; uncut = λ c. c.1 f.place f.cause f.there }))
      | inr (inr e) ↦ inr (inr (record { is = e.is; none = e.none; early = (e.early.1, e.early.2) }))
    ] in
    by_less P (length bytes) 4 (Err (short at bytes)) (cond (not (eqb (number_in 0 2 bytes) 1)) other (cond (ltb len 4) small sized))
    (λ few. inr (inr (record { is = refl; none = no_header strict bytes few; early = (inl few, no_header strict bytes few) })))
    (λ head. by_other P (number_in 0 2 bytes) 1 other (cond (ltb len 4) small sized)
    (λ ne. loose other (told_fault (short at bytes) at own early bytes other 0 BadClass (ap (λ n. Err (fault_at n BadClass)) (omega arith)) (omega arith) (match_type head ne) (type_first strict bytes)))
    (λ kind. by_less P len 4 small sized
    (λ lt. loose small (told_fault (short at bytes) at own early bytes small 2 BadLength refl (omega arith) (match_length head lt) (length_first strict bytes kind)))
    (λ least. loose sized (sized_told strict at bytes h head kind least))))

pub match_sound : (strict : Bool) (at : ℕ) (bytes : List ℕ) (y : List Field × ℕ) → AreBytes bytes → match_at strict at bytes ≡ Ok y → Front (SpellsAnyMatch strict y.0) y.1 bytes
match_sound strict at bytes y h e = told_value (short at bytes) at (length bytes) (MatchFault strict bytes) _ _ (match_at strict at bytes) y (match_told strict at bytes h) e

pub match_tells_first : (strict : Bool) (at : ℕ) (bytes : List ℕ) (r : Result (List Field × ℕ) PartRefused) → ((i : ℕ) → get_or bytes i 0 < 256) → Gives (λ x. x) r (match_at strict at bytes)
    → TellsFirst (From at (FaultInMatch strict bytes)) r
match_tells_first strict at bytes r h e =
    let own = MatchFault strict bytes in
    let ends = PaddedEndsEarly bytes in
    tells_first own (ends × ((q : ℕ) (d : PartCause) → own q d → ⊥)) ends at bytes r (match_at strict at bytes) (λ c. c.0) e (match_told strict at bytes (record { small = h }))

pub match_spelled_or_faulty : (strict : Bool) (bytes : List ℕ) → ((i : ℕ) → get_or bytes i 0 < 256)
    → SpelledOrFaulty ((fields : List Field) × (spelling : List ℕ) × (rest : List ℕ) × SpellsAnyMatch strict fields spelling × (bytes ≡ spelling ++ rest)) (FaultInMatch strict bytes)
match_spelled_or_faulty strict bytes h =
    let own = MatchFault strict bytes in
    let ends = PaddedEndsEarly bytes in
    spelled_or_faulty ((fields : List Field) × (spelling : List ℕ) × (rest : List ℕ) × SpellsAnyMatch strict fields spelling × (bytes ≡ spelling ++ rest)) own
    (ends × ((q : ℕ) (d : PartCause) → own q d → ⊥)) ends bytes (match_at strict 0 bytes) (λ c. c.0)
    (λ x f. (x.0, take x.1 bytes, drop x.1 bytes, f.spelled, sym (take-append-drop x.1 bytes)))
    (match_told strict 0 bytes (record { small = h }))
