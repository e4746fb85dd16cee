-- What reading a part gives is what its bytes spell, or what is wrong with them.
use Rattle.std.proofs.Common.{◌≡◌, ◌↔◌, ◌<◌, get_or, ℕ, zero, suc, ◌+◌, ◌%◌, ◌≤◌, Bool, true, false, cond, eqb, ltb, not, ◌||◌, List, [], ◌∷◌, ◌++◌, length, take, drop, Option, Some, None, Result, Ok, Err, refl, sym, ap, ◌∙◌, subst, arith, inl, inr, ◌⊎◌, append_assoc}
use Rattle.std.proofs.lemmas.Bool.{ltb-false, ltb-true, eqb-true, eqb-false, cases_lt}
use Rattle.std.proofs.lemmas.List.{length-append, length-drop, length-take-le, take-append-drop, append-nil, nil_from_length}
use Rattle.of_wire.specs.declared.fault.PartCause.{PartCause}
use Rattle.of_wire.specs.declared.fault.PartFault.{PartFault}
use Rattle.of_wire.specs.declared.fault.PartRefused.{PartRefused}
use Rattle.of_wire.specs.declared.fault.PartRefused.TheVariants.{At, Memory}
use Rattle.of_wire.specs.Answers.{Gives}
use Rattle.of_wire.specs.Grammar.{◌▷◌, Ignored}
use Rattle.of_wire.specs.Numbers.{number_in}
use Rattle.of_wire.specs.Reading.{◌>>=◌, many}
use Rattle.of_wire.proofs.Grammars.{AreBytes, bytes_drop, bytes_take, front_then, has_number, number_then, ignored_then, number_again, ignored_again, number_of_take, number_at_drop}
use Rattle.of_wire.proofs.Joining.{one_more, no_more}
use Rattle.of13_codec.specs.Decoding.{has_more}
use Rattle.of13_codec.specs.Spelling.{Flags}
use Rattle.flow_stats.specs.declared.flow.Flow.{Flow}
use Rattle.flow_stats.specs.declared.flow.FlowPart.{FlowPart}
use Rattle.flow_stats.specs.Parts.{Answers, FaultInPart, IsOtherPart, IsRead, SpellsFlows, SpellsPart, flow_fault, flow_len, told_place}
use Rattle.flow_stats.specs.Reading.{flow_in, flow_or, flow_step, flows_at, flows_part, part_at}
use Rattle.flow_stats.proofs.Entries.{is_sound, flow_begins}
use Rattle.flow_stats.proofs.Joining.{one_behind, one_fault, one_list, never_both}

-- ---- a whole part

pub part_sound : (body : List ℕ) (flows : List Flow) → AreBytes body → 8 ≤ length body → number_in 0 2 body ≡ 1 → SpellsFlows [] flows (drop 8 body)
    → SpellsPart (record { more = has_more body; flows = flows }) body
part_sound body flows h long kind j =
    let behind = length-drop 2 body in
    let two = take 2 (drop 2 body) in
    let size : length two ≡ 2 = length-take-le 2 (drop 2 body) (omega arith) in
    let is : number_in 0 2 two ≡ number_in 2 2 body = number_of_take 0 2 2 (drop 2 body) (omega arith) (omega arith) ∙ sym (number_at_drop 2 2 body) in
    number_then 0 2 1 _ body h (omega arith) kind (
    front_then (Flags (has_more body)) _ 2 2 body
    (record { flags = number_in 2 2 body; number = has_number 0 2 (number_in 2 2 body) two (bytes_take 2 (drop 2 body) (bytes_drop 2 body h)) (omega arith) is; bit = refl }) (
    ignored_then 4 4 _ body (omega arith) j))

pub record ReadPart (part : FlowPart) (body : List ℕ) : Type 0 where
  pub long : 8 ≤ length body
  pub kind : number_in 0 2 body ≡ 1
  pub more : part.more ≡ has_more body
  pub flows : SpellsFlows [] part.flows (drop 8 body)

pub part_again : (part : FlowPart) (body : List ℕ) → SpellsPart part body → ReadPart part body
part_again part body s =
    let a = number_again 0 2 1 (Flags part.more ▷ Ignored 4 ▷ SpellsFlows [] part.flows) body s in
    let t = a.behind in
    let f = t.in_front in
    let b = number_again 2 2 f.flags (Ignored 4 ▷ SpellsFlows [] part.flows) body (record { first = t.first; rest = t.rest; whole = t.whole; in_front = f.number; behind = t.behind }) in
    let c = ignored_again 4 4 (SpellsFlows [] part.flows) body b.behind in
    record {
      long = omega (arith, a.size, b.size, c.0);
      kind = a.value;
      more = f.bit ∙ ap (λ n. eqb (n % 2) 1) (sym b.value);
      flows = c.1;
    }

-- ---- flow entries as they are read

abbrev Told : List ℕ → Result (List Flow) PartFault → Type 0
Told body (Ok flows) = SpellsFlows [] flows (drop 8 body)
Told body (Err fault) = FaultInPart body fault

by_fault : (P : Option PartCause → Type 0) (o : Option PartCause) → (o ≡ None → P None) → ((cause : PartCause) → o ≡ Some cause → P (Some cause)) → P o
by_fault P None none some = none refl
by_fault P (Some cause) none some = some cause refl

module _ (body : List ℕ) (long : 8 ≤ length body) (kind : number_in 0 2 body ≡ 1) where
  ended : (flows : List Flow) (front rest : List ℕ) → drop 8 body ≡ front ++ rest → SpellsFlows [] flows front → length rest ≡ 0 → SpellsFlows [] flows (drop 8 body)
  ended flows front rest whole spelled none =
      subst (SpellsFlows [] flows) (sym (whole ∙ ap (λ l. front ++ l) (nil_from_length rest none) ∙ append-nil front)) spelled

  told_all : (steps : ℕ) (flows : List Flow) (front rest : List ℕ) → drop 8 body ≡ front ++ rest → SpellsFlows [] flows front → AreBytes rest → length rest ≤ steps
      → Told body (many flow_step steps flows (8 + length front) rest)
  unfolding flow_step
  told_all zero flows front rest whole spelled are enough =
      let none : length rest ≡ 0 = omega arith in
      subst (Told body) (sym (no_more flow_step zero flows (8 + length front) rest none)) (ended flows front rest whole spelled none)
  told_all (suc steps) flows front rest whole spelled are enough =
      let at = 8 + length front in
      elim (cases_lt 0 (length rest)) [
        | inr past ↦ (let none : length rest ≡ 0 = omega arith in
            subst (Told body) (sym (no_more flow_step (suc steps) flows at rest none)) (ended flows front rest whole spelled none))
        | inl some ↦ subst (Told body) (sym (one_more flow_step steps flows at rest (λ e. omega (arith, some, e))))
            (by_fault (λ o. Told body (flow_or o flows at rest >>= λ x. many flow_step steps x.0 (at + x.1) (drop x.1 rest))) (flow_fault rest)
            (λ none. (let s = is_sound rest none in
            let n = flow_len rest in
            let first = take n rest in
            let size : length first ≡ n = length-take-le n rest s.within in
            let place : 8 + length (front ++ first) ≡ at + n = omega (arith, length-append front first, size) in
            let again : drop 8 body ≡ (front ++ first) ++ drop n rest = whole ∙ ap (λ l. front ++ l) (sym (take-append-drop n rest)) ∙ sym (append_assoc front first (drop n rest)) in
            let joined = one_behind [] flows (flow_in first) front first spelled (flow_begins rest are s) in
            let more = told_all steps (flows ++ flow_in first ∷ []) (front ++ first) (drop n rest) again joined (bytes_drop n rest are) (omega (arith, length-drop n rest, s.least, enough, some)) in
            subst (λ k. Told body (many flow_step steps (flows ++ flow_in first ∷ []) k (drop n rest))) place more))
            (λ cause is. record {
              head = long;
              kind = kind;
              flows = flows;
              front = front;
              rest = rest;
              whole = whole;
              spelled = spelled;
              some = some;
              cause = is;
              place = refl;
            }))
      ]

-- ---- what a part tells

abbrev TellsPart : List ℕ → Result (Option FlowPart) PartFault → Type 0
TellsPart body (Ok (Some part)) = SpellsPart part body
TellsPart body (Ok None) = IsOtherPart body
TellsPart body (Err fault) = FaultInPart body fault

by_test : {X : Type 0} (P : X → Type 0) (b : Bool) (x y : X) → (b ≡ true → P x) → (b ≡ false → P y) → P (cond b x y)
by_test P true x y t f = t refl
by_test P false x y t f = f refl

either : (a b : Bool) → a || b ≡ true → (a ≡ true) ⊎ (b ≡ true)
either true b e = inl refl
either false b e = inr e

neither : (a b : Bool) → a || b ≡ false → (a ≡ false) × (b ≡ false)
neither true b e = absurd (cc)
neither false b e = (refl, e)

not_true : (b : Bool) → not b ≡ true → b ≡ false
not_true true e = absurd (cc)
not_true false e = refl

not_false : (b : Bool) → not b ≡ false → b ≡ true
not_false true e = refl
not_false false e = absurd (cc)

other_part : (body : List ℕ) → ltb (length body) 8 || not (eqb (number_in 0 2 body) 1) ≡ true → IsOtherPart body
other_part body e = elim (either _ _ e) [
  | inl short ↦ inl (ltb-true _ _ short)
  | inr other ↦ inr (eqb-false _ _ (not_true _ other))
]

told_part : (body : List ℕ) (r : Result (List Flow) PartFault) → 8 ≤ length body → number_in 0 2 body ≡ 1 → AreBytes body → Told body r
    → TellsPart body (r >>= λ flows. Ok (Some (record { more = has_more body; flows = flows })))
told_part body (Ok flows) long kind are told = part_sound body flows are long kind told
told_part body (Err fault) long kind are told = told

pub part_told : (body : List ℕ) → AreBytes body → TellsPart body (part_at body)
unfolding part_at flows_at
part_told body are =
    by_test (TellsPart body) (ltb (length body) 8 || not (eqb (number_in 0 2 body) 1)) (Ok None) (flows_part body)
    (λ t. other_part body t)
    (λ f. (let both = neither _ _ f in
    let long : 8 ≤ length body = ltb-false _ _ both.0 in
    let kind : number_in 0 2 body ≡ 1 = eqb-true _ _ (not_false _ both.1) in
    told_part body (flows_at (drop 8 body)) long kind are
    (told_all body long kind (length (drop 8 body)) [] [] (drop 8 body) refl refl (bytes_drop 8 body are) (omega arith))))

-- ---- the laws

pub no_part : (a : FlowPart) (body : List ℕ) → IsOtherPart body → SpellsPart a body → ⊥
no_part a body (inl short) s = let r = part_again a body s in omega (arith, short, r.long)
no_part a body (inr other) s = let r = part_again a body s in other r.kind

pub no_fault : (body : List ℕ) (fault : PartFault) → IsOtherPart body → FaultInPart body fault → ⊥
no_fault body fault (inl short) f = omega (arith, short, f.head)
no_fault body fault (inr other) f = other f.kind

pub one_part : (a b : FlowPart) (body : List ℕ) → SpellsPart a body → SpellsPart b body → a ≡ b
one_part a b body s t =
    let p = part_again a body s in
    let q = part_again b body t in
    let more : a.more ≡ b.more = p.more ∙ sym q.more in
    let flows : a.flows ≡ b.flows = one_list [] [] a.flows b.flows (drop 8 body) p.flows q.flows in
    λ i. record { more = more i; flows = flows i }

pub part_or_fault : (a : FlowPart) (body : List ℕ) (fault : PartFault) → SpellsPart a body → FaultInPart body fault → ⊥
part_or_fault a body fault s f =
    let p = part_again a body s in
    never_both [] [] f.flows a.flows f.front f.rest (drop 8 body) fault.cause f.whole f.spelled p.flows f.some f.cause

pub fault_once : (body : List ℕ) (a b : PartFault) → FaultInPart body a → FaultInPart body b → a ≡ b
fault_once body a b f g =
    let one = one_fault [] [] f.flows g.flows f.front g.front f.rest g.rest a.cause b.cause f.spelled g.spelled (sym f.whole ∙ g.whole) f.some g.some f.cause g.cause in
    let at : a.at ≡ b.at = f.place ∙ ap (λ n. told_place (8 + n)) one.place ∙ sym g.place in
    let cause : a.cause ≡ b.cause = one.cause in
    λ i. record { at = at i; cause = cause i }

-- ---- what the call answers

pub answers : (body : List ℕ) (r : Result (Option FlowPart) PartRefused) → AreBytes body → Gives (λ x. x) r (part_at body) → Answers body r
answers body (Ok (Some part)) are is = subst (TellsPart body) is (part_told body are)
answers body (Ok None) are is = subst (TellsPart body) is (part_told body are)
answers body (Err (At fault)) are is = subst (TellsPart body) is (part_told body are)
answers body (Err Memory) are is = tt

pub is_read : (body : List ℕ) (r : Result (Option FlowPart) PartRefused) (part : FlowPart) → Answers body r → SpellsPart part body → IsRead part r
is_read body (Ok (Some other)) part told s = inl (ap (λ p. Ok (Some p)) (one_part other part body told s))
is_read body (Ok None) part told s = absurd (no_part part body told s)
is_read body (Err (At fault)) part told s = absurd (part_or_fault part body fault s told)
is_read body (Err Memory) part told s = inr refl

-- ---- reading, as a function

by_part : (body : List ℕ) (r : Result (Option FlowPart) PartFault) (part : FlowPart) → TellsPart body r → SpellsPart part body → r ≡ Ok (Some part)
by_part body (Ok (Some other)) part told s = ap (λ p. Ok (Some p)) (one_part other part body told s)
by_part body (Ok None) part told s = absurd (no_part part body told s)
by_part body (Err fault) part told s = absurd (part_or_fault part body fault s told)

by_other : (body : List ℕ) (r : Result (Option FlowPart) PartFault) → TellsPart body r → IsOtherPart body → r ≡ Ok None
by_other body (Ok (Some part)) told is = absurd (no_part part body is told)
by_other body (Ok None) told is = refl
by_other body (Err fault) told is = absurd (no_fault body fault is told)

by_first : (body : List ℕ) (r : Result (Option FlowPart) PartFault) (fault : PartFault) → TellsPart body r → FaultInPart body fault → r ≡ Err fault
by_first body (Ok (Some part)) fault told f = absurd (part_or_fault part body fault told f)
by_first body (Ok None) fault told f = absurd (no_fault body fault told f)
by_first body (Err other) fault told f = ap (λ g. Err g) (fault_once body other fault told f)

module _ (body : List ℕ) (small : (i : ℕ) → get_or body i 0 < 256) where
  told : TellsPart body (part_at body)
  told = part_told body (record { small = small })

  pub reads_part : (part : FlowPart) → (part_at body ≡ Ok (Some part)) ↔ SpellsPart part body
  reads_part part = ((λ e. subst (TellsPart body) e told), (λ s. by_part body (part_at body) part told s))

  pub reads_other : (part_at body ≡ Ok None) ↔ IsOtherPart body
  reads_other = ((λ e. subst (TellsPart body) e told), (λ is. by_other body (part_at body) told is))

  pub reads_fault : (fault : PartFault) → (part_at body ≡ Err fault) ↔ FaultInPart body fault
  reads_fault fault = ((λ e. subst (TellsPart body) e told), (λ f. by_first body (part_at body) fault told f))
