-- What reading instructions answers is the first fault that stands in their bytes.
use Rattle.std.proofs.Common.{◌≡◌, ◌≢◌, ℕ, ◌+◌, ◌-◌, ◌≤◌, ◌<◌, Bool, true, false, not, cond, eqb, ltb, List, [], ◌∷◌, ◌++◌, length, drop, get_or, Result, Ok, Err, refl, sym, ap, ◌∙◌, subst, arith, inl, inr}
use Rattle.std.proofs.lemmas.Bool.{lt-ltb, le-ltb}
use Rattle.std.proofs.lemmas.List.{length-append, length-drop, length-take}
use Rattle.of_match.specs.declared.action.Action.{Action}
use Rattle.of_match.specs.declared.action.Instr.{Instr}
use Rattle.of_match.specs.declared.action.Instr.TheVariants.{Goto, Apply}
use Rattle.of_wire.specs.declared.fault.PartFault.{PartFault}
use Rattle.of_wire.specs.declared.fault.PartCause.{PartCause}
use Rattle.of_wire.specs.declared.fault.PartCause.TheVariants.{Short, BadLength, Repeated, UnknownInstr}
use Rattle.of_wire.specs.declared.fault.PartRefused.{PartRefused}
use Rattle.of_wire.specs.Numbers.{number_in}
use Rattle.of_wire.specs.Answers.{Gives, fault_at}
use Rattle.of_wire.specs.Reading.{◌>>=◌, past_end, actions_at, goto_at, applied_at, apply_at, instr_of, instr_at, instr_step, instrs_at}
use Rattle.of_wire.specs.Faults.{ComesFirst, Behind, EndsIn, CutsOff, EndsEarly, TellsFirst, From, SpelledOrFaulty, EachAction, WrongAction, ActionsFault, applied, GotoFault, goto_again, goto_length, ApplyFault, apply_again, apply_late, apply_empty, apply_cut, in_action, InstrFault, unknown_instr, in_goto, in_apply, EachInstr, InstrsFault, FaultInInstrs}
use Rattle.of_wire.proofs.Grammars.{AreBytes, bytes_take, bytes_drop}
use Rattle.of_wire.proofs.Chosen.{one_answer}
use Rattle.of_wire.proofs.InstrLaws.{goto_front, apply_front, instr_complete, step_complete}
use Rattle.of_wire.specs.Spelling.{has_goto, has_apply, SpellsInstrs}
use Rattle.of_wire.proofs.ActionLaws.{Front, front_part}
use Rattle.of_wire.proofs.Joining.{Parts}
use Rattle.of_wire.proofs.Verdicts.{Verdict, Steps, many_verdict, cut_ends, comes_first_after}
use Rattle.of_wire.proofs.Told.{by_equal, by_other, by_less, by_not_less, by_test, Told, told_ok, told_fault, told_end, told_map, told_as, told_spelled, told_value, tells_first, spelled_or_faulty}
use Rattle.of_wire.proofs.ActionFaults.{some_bytes, actions_told}

false_true : {A : Type 0} (b : Bool) → b ≡ false → b ≡ true → A
false_true b e t = absurd (cc)

-- what reading an instruction gives: it stands at the front, and may stand there
abbrev InstrFront : List Instr → List ℕ → Instr × ℕ → Type 0
InstrFront before bytes y = Front (EachInstr before y.0) y.1 bytes

-- ---- GOTO_TABLE

again_first : (before : List Instr) (bytes : List ℕ) (q : ℕ) (d : PartCause) → GotoFault before bytes q d → ComesFirst 0 Repeated q d
again_first before bytes q d (goto_again t) = inr (refl, omega arith)
again_first before bytes q d (goto_length ne) = inl (omega arith)

length_first : (before : List Instr) (bytes : List ℕ) → has_goto before ≡ false → (q : ℕ) (d : PartCause) → GotoFault before bytes q d → ComesFirst 2 BadLength q d
length_first before bytes once q d (goto_again t) = false_true (has_goto before) once t
length_first before bytes once q d (goto_length ne) = inr (refl, omega arith)

no_goto_fault : (before : List Instr) (bytes : List ℕ) → has_goto before ≡ false → number_in 2 2 bytes ≡ 8 → (q : ℕ) (d : PartCause) → GotoFault before bytes q d → ⊥
no_goto_fault before bytes once e q d (goto_again t) = false_true (has_goto before) once t
no_goto_fault before bytes once e q d (goto_length ne) = ne e

goto_told : (past : PartFault) (before : List Instr) (at : ℕ) (bytes : List ℕ) → AreBytes bytes → number_in 0 2 bytes ≡ 1 → 4 ≤ length bytes → Told (InstrFront before bytes) past at (GotoFault before bytes) (EndsEarly bytes) bytes (goto_at past before (number_in 2 2 bytes) at bytes)
unfolding goto_at
goto_told past before at bytes h kind head =
    let len = number_in 2 2 bytes in
    let own = GotoFault before bytes in
    let early = EndsEarly bytes in
    let P = λ (r : Result (Instr × ℕ) PartFault). Told (InstrFront before bytes) past at own early bytes r in
    let out : Result (Instr × ℕ) PartFault = Ok (Goto (number_in 4 1 bytes), 8) in
    let wrong : Result (Instr × ℕ) PartFault = Err (fault_at (at + 2) BadLength) in
    let again : Result (Instr × ℕ) PartFault = Err (fault_at at Repeated) in
    by_test P (has_goto before) again (cond (not (eqb len 8)) wrong (cond (ltb (length bytes) 8) (Err past) out))
    (λ t. told_fault past at own early bytes again 0 Repeated (ap (λ n. Err (fault_at n Repeated)) (omega arith)) (omega arith) (goto_again t) (again_first before bytes))
    (λ once. by_other P len 8 wrong (cond (ltb (length bytes) 8) (Err past) out)
    (λ ne. told_fault past at own early bytes wrong 2 BadLength refl (omega arith) (goto_length ne) (length_first before bytes once))
    (λ e. by_less P (length bytes) 8 (Err past) out
    (λ few. told_end past at own early bytes (Err past) refl (omega arith) (inr (omega (arith, e, few))) (no_goto_fault before bytes once e))
    (λ room. told_ok past at own early bytes out (Goto (number_in 4 1 bytes), 8) refl (goto_front before bytes h kind e room once) (no_goto_fault before bytes once e)
    (λ ends. elim ends [ inl lt ↦ omega (arith, lt) | inr lt ↦ omega (arith, lt, e, room) ]))))

-- ---- APPLY_ACTIONS

apply_again_first : (before : List Instr) (bytes : List ℕ) (q : ℕ) (d : PartCause) → ApplyFault before bytes q d → ComesFirst 0 Repeated q d
apply_again_first before bytes q d (apply_again t) = inr (refl, omega arith)
apply_again_first before bytes q d (apply_late t) = inr (refl, omega arith)
apply_again_first before bytes q d (apply_empty l) = inl (omega arith)
apply_again_first before bytes q d (apply_cut l b) = inl (omega arith)
apply_again_first before bytes q d (in_action place cause f) = inl (omega arith)

apply_late_first : (before : List Instr) (bytes : List ℕ) → has_apply before ≡ false → (q : ℕ) (d : PartCause) → ApplyFault before bytes q d → ComesFirst 0 UnknownInstr q d
apply_late_first before bytes once q d (apply_again t) = false_true (has_apply before) once t
apply_late_first before bytes once q d (apply_late t) = inr (refl, omega arith)
apply_late_first before bytes once q d (apply_empty l) = inl (omega arith)
apply_late_first before bytes once q d (apply_cut l b) = inl (omega arith)
apply_late_first before bytes once q d (in_action place cause f) = inl (omega arith)

-- one that comes once and first
record Alone (before : List Instr) : Type 0 where
  pub once : has_apply before ≡ false
  pub leads : has_goto before ≡ false

apply_length_first : (before : List Instr) (bytes : List ℕ) → Alone before → (q : ℕ) (d : PartCause) → ApplyFault before bytes q d → ComesFirst 2 BadLength q d
apply_length_first before bytes a q d (apply_again t) = false_true (has_apply before) a.once t
apply_length_first before bytes a q d (apply_late t) = false_true (has_goto before) a.leads t
apply_length_first before bytes a q d (apply_empty l) = inr (refl, omega arith)
apply_length_first before bytes a q d (apply_cut l b) = inr (refl, omega arith)
apply_length_first before bytes a q d (in_action place cause f) = inl (omega arith)

-- what is left is the end of its actions, and what is wrong with them
module _ (before : List Instr) (bytes : List ℕ) (a : Alone before) (large : 8 < number_in 2 2 bytes) where
  only_inside : (P : ℕ → PartCause → Type 0)
      → (number_in 2 2 bytes ≤ length bytes → Behind EachAction (CutsOff EndsEarly WrongAction) [] (applied bytes) → P 2 BadLength)
      → ((q : ℕ) (d : PartCause) → ActionsFault (applied bytes) q d → P (8 + q) d)
      → (q : ℕ) (d : PartCause) → ApplyFault before bytes q d → P q d
  only_inside P cut inside q d (apply_again t) = false_true (has_apply before) a.once t
  only_inside P cut inside q d (apply_late t) = false_true (has_goto before) a.leads t
  only_inside P cut inside q d (apply_empty l) = absurd (omega arith)
  only_inside P cut inside q d (apply_cut l b) = cut l b
  only_inside P cut inside q d (in_action place cause f) = inside place cause f

pub some_inside : (region : List ℕ) (q : ℕ) (d : PartCause) → ActionsFault region q d → 0 < length region
some_inside region q d b =
    let f = b.there in
    omega (arith, ap length b.whole, length-append b.front b.rest, some_bytes b.rest f.inside d f.fault)

abbrev next : List ℕ → PartFault → List Action → Result (Instr × ℕ) PartFault
next bytes past actions = cond (ltb (length bytes) (number_in 2 2 bytes)) (Err past) (Ok (Apply actions, number_in 2 2 bytes))

-- the bytes end before the length: what is wrong inside comes first
short_told : (past : PartFault) (before : List Instr) (at : ℕ) (bytes : List ℕ) → AreBytes bytes → 8 ≤ length bytes → Alone before → 8 < number_in 2 2 bytes → length bytes < number_in 2 2 bytes
    → Told (InstrFront before bytes) past at (ApplyFault before bytes) (EndsEarly bytes) bytes (actions_at past (at + 8) (applied bytes) >>= next bytes past)
short_told past before at bytes h head a large few =
    let len = number_in 2 2 bytes in
    let own = ApplyFault before bytes in
    let early = EndsEarly bytes in
    let region = applied bytes in
    let read = actions_at past (at + 8) region in
    let r : Result (Instr × ℕ) PartFault = read >>= next bytes past in
    let bind = λ (q : Result (List Action) PartFault). q >>= next bytes past in
    let size : length region ≤ length bytes - 8 = omega (arith, length-take (len - 8) (drop 8 bytes), length-drop 8 bytes) in
    let t : ltb (length bytes) len ≡ true = lt-ltb _ _ few in
    elim (actions_told past (at + 8) region (bytes_take (len - 8) (drop 8 bytes) (bytes_drop 8 bytes h))) [
      | inl p ↦
          let ends : next bytes past p.value ≡ Err past = rw t refl in
          told_end past at own early bytes r (ap bind p.is ∙ ends) (omega arith) (inr few)
          (only_inside before bytes a large (λ q d. ⊥) (λ le b. omega arith) p.none)
      | inr (inl f) ↦ told_fault past at own early bytes r (8 + f.place) f.cause (ap bind f.is ∙ ap (λ n. Err (fault_at n f.cause)) (omega arith)) (omega (arith, f.inside, size)) (in_action f.place f.cause f.there)
          (only_inside before bytes a large (ComesFirst (8 + f.place) f.cause) (λ le b. absurd (omega arith)) (λ q d o. comes_first_after 8 f.place (8 + q) q f.cause d refl (f.least q d o)))
      | inr (inr e) ↦ told_end past at own early bytes r (ap bind e.is) (omega arith) (inr few)
          (only_inside before bytes a large (λ q d. ⊥) (λ le b. omega arith) e.none)
    ]

-- the length ends in the bytes: where it cuts off an action it is wrong
whole_told : (past : PartFault) (before : List Instr) (at : ℕ) (bytes : List ℕ) → AreBytes bytes → number_in 0 2 bytes ≡ 4 → 8 ≤ length bytes → Alone before → 8 < number_in 2 2 bytes → number_in 2 2 bytes ≤ length bytes
    → Told (InstrFront before bytes) past at (ApplyFault before bytes) (EndsEarly bytes) bytes (actions_at (fault_at (at + 2) BadLength) (at + 8) (applied bytes) >>= next bytes past)
whole_told past before at bytes h kind head a large fits =
    let len = number_in 2 2 bytes in
    let own = ApplyFault before bytes in
    let early = EndsEarly bytes in
    let region = applied bytes in
    let wrong = fault_at (at + 2) BadLength in
    let read = actions_at wrong (at + 8) region in
    let r : Result (Instr × ℕ) PartFault = read >>= next bytes past in
    let bind = λ (q : Result (List Action) PartFault). q >>= next bytes past in
    let size : length region ≤ length bytes - 8 = omega (arith, length-take (len - 8) (drop 8 bytes), length-drop 8 bytes) in
    let t : ltb (length bytes) len ≡ false = le-ltb _ _ fits in
    elim (actions_told wrong (at + 8) region (bytes_take (len - 8) (drop 8 bytes) (bytes_drop 8 bytes h))) [
      | inl p ↦
          let ends : next bytes past p.value ≡ Ok (Apply p.value, len) = rw t refl in
          told_ok past at own early bytes r (Apply p.value, len) (ap bind p.is ∙ ends) (apply_front before p.value bytes h kind large fits p.spelled (a.once, a.leads))
          (only_inside before bytes a large (λ q d. ⊥) (λ le b. p.whole (cut_ends EachAction EndsEarly WrongAction [] region b)) p.none)
          (λ ends. elim ends [ inl lt ↦ omega (arith, lt) | inr lt ↦ omega (arith, lt) ])
      | inr (inl f) ↦ told_fault past at own early bytes r (8 + f.place) f.cause (ap bind f.is ∙ ap (λ n. Err (fault_at n f.cause)) (omega arith)) (omega (arith, f.inside, size)) (in_action f.place f.cause f.there)
          (only_inside before bytes a large (ComesFirst (8 + f.place) f.cause) (λ le b. absurd (f.uncut b)) (λ q d o. comes_first_after 8 f.place (8 + q) q f.cause d refl (f.least q d o)))
      | inr (inr e) ↦ told_fault past at own early bytes r 2 BadLength (ap bind e.is) (omega arith) (apply_cut fits e.early) (apply_length_first before bytes a)
    ]

applied_told : (past : PartFault) (before : List Instr) (at : ℕ) (bytes : List ℕ) → AreBytes bytes → number_in 0 2 bytes ≡ 4 → 8 ≤ length bytes → Alone before → 8 < number_in 2 2 bytes
    → Told (InstrFront before bytes) past at (ApplyFault before bytes) (EndsEarly bytes) bytes (applied_at past (number_in 2 2 bytes) at bytes)
unfolding applied_at past_end
applied_told past before at bytes h kind head a large =
    let len = number_in 2 2 bytes in
    let wrong = fault_at (at + 2) BadLength in
    let P = λ (inside : PartFault). Told (InstrFront before bytes) past at (ApplyFault before bytes) (EndsEarly bytes) bytes (actions_at inside (at + 8) (applied bytes) >>= next bytes past) in
    by_less P (length bytes) len past wrong (short_told past before at bytes h head a large) (whole_told past before at bytes h kind head a large)

no_bytes_inside : (before : List Instr) (bytes : List ℕ) → Alone before → 8 < number_in 2 2 bytes → length bytes < 8 → (q : ℕ) (d : PartCause) → ApplyFault before bytes q d → ⊥
no_bytes_inside before bytes a large few =
    let len = number_in 2 2 bytes in
    let none : length (applied bytes) ≡ 0 = omega (arith, length-take (len - 8) (drop 8 bytes), length-drop 8 bytes) in
    only_inside before bytes a large (λ q d. ⊥) (λ le b. omega arith) (λ q d o. omega (arith, none, some_inside (applied bytes) q d o))

apply_told : (past : PartFault) (before : List Instr) (at : ℕ) (bytes : List ℕ) → AreBytes bytes → number_in 0 2 bytes ≡ 4 → 4 ≤ length bytes → Told (InstrFront before bytes) past at (ApplyFault before bytes) (EndsEarly bytes) bytes (apply_at past before (number_in 2 2 bytes) at bytes)
unfolding apply_at
apply_told past before at bytes h kind head =
    let len = number_in 2 2 bytes in
    let own = ApplyFault before bytes in
    let early = EndsEarly bytes in
    let P = λ (r : Result (Instr × ℕ) PartFault). Told (InstrFront before bytes) past at own early bytes r in
    let again : Result (Instr × ℕ) PartFault = Err (fault_at at Repeated) in
    let late : Result (Instr × ℕ) PartFault = Err (fault_at at UnknownInstr) in
    let wrong : Result (Instr × ℕ) PartFault = Err (fault_at (at + 2) BadLength) in
    let four = applied_at past len at bytes in
    let three = cond (ltb (length bytes) 8) (Err past) four in
    let two = cond (not (ltb 8 len)) wrong three in
    by_test P (has_apply before) again (cond (has_goto before) late two)
    (λ t. told_fault past at own early bytes again 0 Repeated (ap (λ n. Err (fault_at n Repeated)) (omega arith)) (omega arith) (apply_again t) (apply_again_first before bytes))
    (λ once. by_test P (has_goto before) late two
    (λ t. told_fault past at own early bytes late 0 UnknownInstr (ap (λ n. Err (fault_at n UnknownInstr)) (omega arith)) (omega arith) (apply_late t) (apply_late_first before bytes once))
    (λ leads.
    (let a : Alone before = record { once = once; leads = leads } in
    by_not_less P 8 len wrong three
    (λ small. told_fault past at own early bytes wrong 2 BadLength refl (omega arith) (apply_empty small) (apply_length_first before bytes a))
    (λ large. by_less P (length bytes) 8 (Err past) four
    (λ few. told_end past at own early bytes (Err past) refl (omega arith) (inr (omega (arith, few, large))) (no_bytes_inside before bytes a large few))
    (λ room. applied_told past before at bytes h kind room a large)))))

-- ---- an instruction

of_goto : (before : List Instr) (bytes : List ℕ) → number_in 0 2 bytes ≡ 1 → (q : ℕ) (d : PartCause) → InstrFault before bytes q d → GotoFault before bytes q d
of_goto before bytes kind q d (unknown_instr h one four) = absurd (one kind)
of_goto before bytes kind q d (in_goto h e place cause f) = f
of_goto before bytes kind q d (in_apply h e place cause f) = absurd (omega (arith, kind, e))

of_apply : (before : List Instr) (bytes : List ℕ) → number_in 0 2 bytes ≡ 4 → (q : ℕ) (d : PartCause) → InstrFault before bytes q d → ApplyFault before bytes q d
of_apply before bytes kind q d (unknown_instr h one four) = absurd (four kind)
of_apply before bytes kind q d (in_goto h e place cause f) = absurd (omega (arith, kind, e))
of_apply before bytes kind q d (in_apply h e place cause f) = f

unknown_first : (before : List Instr) (bytes : List ℕ) → number_in 0 2 bytes ≢ 1 → number_in 0 2 bytes ≢ 4 → (q : ℕ) (d : PartCause) → InstrFault before bytes q d → ComesFirst 0 UnknownInstr q d
unknown_first before bytes one four q d (unknown_instr h _ _) = inr (refl, omega arith)
unknown_first before bytes one four q d (in_goto h e place cause f) = absurd (one e)
unknown_first before bytes one four q d (in_apply h e place cause f) = absurd (four e)

some_header : (before : List Instr) (bytes : List ℕ) (q : ℕ) (d : PartCause) → InstrFault before bytes q d → 4 ≤ length bytes
some_header before bytes q d (unknown_instr h one four) = h
some_header before bytes q d (in_goto h e place cause f) = h
some_header before bytes q d (in_apply h e place cause f) = h

instr_told : (past : PartFault) (before : List Instr) (at : ℕ) (bytes : List ℕ) → AreBytes bytes → 0 < length bytes → Told (InstrFront before bytes) past at (InstrFault before bytes) (EndsEarly bytes) bytes (instr_at past before at bytes)
unfolding instr_at instr_of
instr_told past before at bytes h some =
    let kind = number_in 0 2 bytes in
    let len = number_in 2 2 bytes in
    let own = InstrFault before bytes in
    let early = EndsEarly bytes in
    let P = λ (r : Result (Instr × ℕ) PartFault). Told (InstrFront before bytes) past at own early bytes r in
    let none : Result (Instr × ℕ) PartFault = Err (fault_at at UnknownInstr) in
    let goto = goto_at past before len at bytes in
    let apply = apply_at past before len at bytes in
    by_less P (length bytes) 4 (Err past) (cond (eqb kind 1) goto (cond (eqb kind 4) apply none))
    (λ few. told_end past at own early bytes (Err past) refl some (inl few) (λ q d f. (let l = some_header before bytes q d f in omega arith)))
    (λ head. by_equal P kind 1 goto (cond (eqb kind 4) apply none)
    (λ e. told_as past at (GotoFault before bytes) own early bytes goto (λ q d f. in_goto head e q d f) (of_goto before bytes e) (goto_told past before at bytes h e head))
    (λ one. by_equal P kind 4 apply none
    (λ e. told_as past at (ApplyFault before bytes) own early bytes apply (λ q d f. in_apply head e q d f) (of_apply before bytes e) (apply_told past before at bytes h e head))
    (λ four. told_fault past at own early bytes none 0 UnknownInstr (ap (λ n. Err (fault_at n UnknownInstr)) (omega arith)) (omega arith) (unknown_instr head one four) (unknown_first before bytes one four))))

-- ---- instructions up to the end

one_instr : (before : List Instr) (a b : Instr) (bytes : List ℕ) → EachInstr before a bytes → EachInstr before b bytes → a ≡ b
one_instr before a b bytes p q =
    let past = fault_at 0 Short in
    let x = instr_complete past before a 0 bytes [] p in
    let y = instr_complete past before b 0 bytes [] q in
    ap (λ (z : Instr × ℕ). z.0) (one_answer (instr_at past before 0 (bytes ++ [])) (a, length bytes) (b, length bytes) x.0 y.0)

instr_steps : (past : PartFault) → Steps EachInstr (λ l. l) (instr_step past) past EndsEarly InstrFault
unfolding instr_step
instr_steps past = record {
  verdict = λ before at bytes h some. told_map past at (length bytes) (InstrFault before bytes) _ (EndsEarly bytes) (instr_at past before at bytes) (λ x. (before ++ x.0 ∷ [], x.1)) (λ x f. front_part EachInstr before x.0 x.1 bytes f) (instr_told past before at bytes h some);
  complete = step_complete past;
  same = one_instr;
  some = λ before bytes q d f. (let l = some_header before bytes q d f in omega arith);
}

pub instrs_told : (at : ℕ) (bytes : List ℕ) → AreBytes bytes
    → Verdict (λ instrs. SpellsInstrs instrs bytes) (fault_at (at + length bytes) Short) at (length bytes) (InstrsFault bytes) (Behind EachInstr (CutsOff EndsEarly InstrFault) [] bytes) (Behind EachInstr (EndsIn EndsEarly) [] bytes) (instrs_at at bytes)
unfolding instrs_at
instrs_told at bytes h =
    let past = fault_at (at + length bytes) Short in
    told_spelled (Parts EachInstr (λ l. l) [] bytes) (λ instrs. SpellsInstrs instrs bytes) past at (length bytes) (InstrsFault bytes) _ _ (instrs_at at bytes) (λ x p. subst (λ l. SpellsInstrs l bytes) (sym p.seen) p.joined)
    (many_verdict EachInstr (λ l. l) (instr_step past) past EndsEarly InstrFault (instr_steps past) (length bytes) [] at bytes h (omega arith))

pub instrs_sound : (at : ℕ) (bytes : List ℕ) (instrs : List Instr) → AreBytes bytes → instrs_at at bytes ≡ Ok instrs → SpellsInstrs instrs bytes
instrs_sound at bytes instrs h e = told_value (fault_at (at + length bytes) Short) at (length bytes) (InstrsFault bytes) _ _ (instrs_at at bytes) instrs (instrs_told at bytes h) e

pub instrs_tell_first : (at : ℕ) (bytes : List ℕ) (r : Result (List Instr) PartRefused) → ((i : ℕ) → get_or bytes i 0 < 256) → Gives (λ x. x) r (instrs_at at bytes) → TellsFirst (From at (FaultInInstrs bytes)) r
instrs_tell_first at bytes r h e =
    tells_first (InstrsFault bytes) (Behind EachInstr (CutsOff EndsEarly InstrFault) [] bytes) (Behind EachInstr (EndsIn EndsEarly) [] bytes) at bytes r (instrs_at at bytes)
    (cut_ends EachInstr EndsEarly InstrFault [] bytes) e (instrs_told at bytes (record { small = h }))

pub instrs_spelled_or_faulty : (bytes : List ℕ) → ((i : ℕ) → get_or bytes i 0 < 256) → SpelledOrFaulty ((instrs : List Instr) × SpellsInstrs instrs bytes) (FaultInInstrs bytes)
instrs_spelled_or_faulty bytes h =
    spelled_or_faulty ((instrs : List Instr) × SpellsInstrs instrs bytes) (InstrsFault bytes) (Behind EachInstr (CutsOff EndsEarly InstrFault) [] bytes) (Behind EachInstr (EndsIn EndsEarly) [] bytes) bytes
    (instrs_at 0 bytes) (cut_ends EachInstr EndsEarly InstrFault [] bytes) (λ x p. (x, p)) (instrs_told 0 bytes (record { small = h }))
