-- Instructions are read exactly where they are spelled.
use Rattle.std.proofs.Common.{◌≡◌, ℕ, ◌+◌, ◌-◌, ◌≤◌, ◌<◌, true, false, ltb, List, [], ◌∷◌, ◌++◌, length, take, drop, Ok, refl, sym, ap, ◌∙◌, subst, arith}
use Rattle.std.proofs.lemmas.Bool.{le-ltb, lt-ltb}
use Rattle.std.proofs.lemmas.List.{length-drop, length-take-le, length-append, drop-append-le, take-append-le, take_all}
use Rattle.of_match.specs.declared.action.Action.{Action}
use Rattle.of_match.specs.declared.action.Instr.{Instr}
use Rattle.of_match.specs.declared.action.Instr.TheVariants.{Goto, Apply}
use Rattle.of_wire.specs.declared.fault.PartFault.{PartFault}
use Rattle.of_wire.specs.declared.fault.PartCause.TheVariants.{Short, BadLength}
use Rattle.of_wire.specs.Numbers.{number_in}
use Rattle.of_wire.specs.Answers.{fault_at}
use Rattle.of_wire.specs.Reading.{past_end, actions_at, goto_at, applied_at, apply_at, instr_of, instr_at, instr_step, instrs_at}
use Rattle.of_wire.specs.Faults.{applied, EachInstr}
use Rattle.of_wire.specs.Spelling.{has_goto, has_apply, SpellsActions, SpellsInstrs}
use Rattle.of_wire.proofs.Grammars.{AreBytes, bytes_take, number_then, ignored_then, number_again, ignored_again, number_of_take, number_of_front}
use Rattle.of_wire.proofs.Chosen.{bind_from}
use Rattle.of_wire.proofs.MatchLaws.{outer}
use Rattle.of_wire.proofs.ActionLaws.{Front, front_of}
use Rattle.of_wire.proofs.SetLaws.{action_complete, actions_complete}
use Rattle.of_wire.proofs.Joining.{IsRead, joined_read}

pub goto_front : (before : List Instr) (bytes : List ℕ) → AreBytes bytes → number_in 0 2 bytes ≡ 1 → number_in 2 2 bytes ≡ 8 → 8 ≤ length bytes → has_goto before ≡ false
    → Front (EachInstr before (Goto (number_in 4 1 bytes))) 8 bytes
goto_front before bytes h kind len room once =
    let xs = take 8 bytes in
    front_of _ 8 bytes h (omega arith) room (λ hx lx. (
      number_then 0 2 1 _ xs hx (omega arith) (number_of_take 0 2 8 bytes (omega arith) room ∙ kind) (
          number_then 2 2 8 _ xs hx (omega arith) (number_of_take 2 2 8 bytes (omega arith) room ∙ len) (
          number_then 4 1 (number_in 4 1 bytes) _ xs hx (omega arith) (number_of_take 4 1 8 bytes (omega arith) room) (
          omega (arith, length-drop 5 xs)))),
      once,
    ))

some_action : (actions : List Action) (bytes : List ℕ) → SpellsActions actions bytes → 0 < length bytes → 0 < length actions
some_action [] bytes p h = absurd (omega (arith, ap length p))
some_action (a ∷ actions) bytes p h = omega arith

pub apply_front : (before : List Instr) (actions : List Action) (bytes : List ℕ) → AreBytes bytes → number_in 0 2 bytes ≡ 4 → 8 < number_in 2 2 bytes → number_in 2 2 bytes ≤ length bytes
    → SpellsActions actions (applied bytes) → (has_apply before ≡ false) × (has_goto before ≡ false) → Front (EachInstr before (Apply actions)) (number_in 2 2 bytes) bytes
apply_front before actions bytes h kind large room spelled may =
    let len = number_in 2 2 bytes in
    let xs = take len bytes in
    let hx = bytes_take len bytes h in
    let lx : length xs ≡ len = length-take-le len bytes room in
    let size : length (applied bytes) ≡ len - 8 = length-take-le (len - 8) (drop 8 bytes) (omega (arith, length-drop 8 bytes)) in
    record {
      room = room;
      some = omega arith;
      spelled = (
        (
          number_then 0 2 4 _ xs hx (omega arith) (number_of_take 0 2 len bytes (omega arith) room ∙ kind) (
              number_then 2 2 (length xs) _ xs hx (omega arith) (number_of_take 2 2 len bytes (omega arith) room ∙ sym lx) (
              ignored_then 4 4 _ xs (omega arith) (subst (λ b. SpellsActions actions b) (sym (outer 8 len bytes (omega arith))) spelled))),
          some_action actions (applied bytes) spelled (omega arith),
        ),
        may,
      );
    }

goto_complete : (past : PartFault) (before : List Instr) (table at : ℕ) (first rest : List ℕ) → EachInstr before (Goto table) first
    → (instr_at past before at (first ++ rest) ≡ Ok (Goto table, length first)) × (1 ≤ length first)
unfolding instr_at instr_of goto_at
goto_complete past before table at first rest p =
    let bytes = first ++ rest in
    let a = number_again 0 2 1 _ first p.0 in
    let b = number_again 2 2 8 _ first a.behind in
    let c = number_again 4 1 table _ first b.behind in
    let size : length first ≡ 8 = omega (arith, a.size, b.size, c.size, c.behind) in
    let whole : length bytes ≡ length first + length rest = length-append first rest in
    let kind : number_in 0 2 bytes ≡ 1 = number_of_front 0 2 first rest (omega arith) ∙ a.value in
    let len : number_in 2 2 bytes ≡ 8 = number_of_front 2 2 first rest (omega arith) ∙ b.value in
    let value : number_in 4 1 bytes ≡ table = number_of_front 4 1 first rest (omega arith) ∙ c.value in
    let long : ltb (length bytes) 4 ≡ false = le-ltb _ _ (omega arith) in
    let there : ltb (length bytes) 8 ≡ false = le-ltb _ _ (omega arith) in
    let once = p.1 in
    (rw (long, kind, len, once, there, value, size) refl, omega arith)

apply_complete : (past : PartFault) (before : List Instr) (actions : List Action) (at : ℕ) (first rest : List ℕ) → EachInstr before (Apply actions) first
    → (instr_at past before at (first ++ rest) ≡ Ok (Apply actions, length first)) × (1 ≤ length first)
unfolding instr_at instr_of apply_at applied_at
apply_complete past before actions at first rest p =
    let bytes = first ++ rest in
    let n = length first in
    let a = number_again 0 2 4 _ first p.0.0 in
    let b = number_again 2 2 n _ first a.behind in
    let c = ignored_again 4 4 _ first b.behind in
    let size : n ≡ 8 + length (drop 8 first) = omega (arith, a.size, b.size, c.0) in
    let some : 0 < length (drop 8 first) = some_bytes actions (drop 8 first) c.1 p.0.1 in
    let whole : length bytes ≡ n + length rest = length-append first rest in
    let kind : number_in 0 2 bytes ≡ 4 = number_of_front 0 2 first rest (omega arith) ∙ a.value in
    let len : number_in 2 2 bytes ≡ n = number_of_front 2 2 first rest (omega arith) ∙ b.value in
    let long : ltb (length bytes) 4 ≡ false = le-ltb _ _ (omega arith) in
    let there : ltb (length bytes) 8 ≡ false = le-ltb _ _ (omega arith) in
    let large : ltb 8 n ≡ true = lt-ltb _ _ (omega arith) in
    let all : ltb (length bytes) n ≡ false = le-ltb _ _ (omega arith) in
    let once = p.1.0 in let first_ = p.1.1 in
    let part : take (n - 8) (drop 8 bytes) ≡ drop 8 first =
    ap (take (n - 8)) (drop-append-le 8 first rest (omega arith)) ∙ take-append-le (n - 8) (drop 8 first) rest (omega (arith, length-drop 8 first)) ∙ take_all (n - 8) (drop 8 first) (omega (arith, length-drop 8 first)) in
    let inside = past_end n (length bytes) (fault_at (at + 2) BadLength) past in
    let read : actions_at inside (at + 8) (take (n - 8) (drop 8 bytes)) ≡ Ok actions = ap (actions_at inside (at + 8)) part ∙ actions_complete inside (at + 8) actions (drop 8 first) c.1 in
    (rw (long, kind, len, once, first_, large, there, read, all) refl, omega arith)
  where
    some_bytes : (actions : List Action) (bytes : List ℕ) → SpellsActions actions bytes → 0 < length actions → 0 < length bytes
    some_bytes [] bytes p h = absurd (omega arith)
    some_bytes (a ∷ actions) bytes p h =
        let one = action_complete past a 0 p.first [] p.in_front in
        omega (arith, one.1, ap length p.whole, length-append p.first p.rest)

pub instr_complete : (past : PartFault) (before : List Instr) (i : Instr) (at : ℕ) (first rest : List ℕ) → EachInstr before i first
    → (instr_at past before at (first ++ rest) ≡ Ok (i, length first)) × (1 ≤ length first)
instr_complete past before (Goto table) at first rest p = goto_complete past before table at first rest p
instr_complete past before (Apply actions) at first rest p = apply_complete past before actions at first rest p

pub step_complete : (past : PartFault) (before : List Instr) (i : Instr) (at : ℕ) (first rest : List ℕ) → EachInstr before i first → IsRead (λ l. l) (instr_step past) before i at first rest
unfolding instr_step
step_complete past before i at first rest p =
    let c = instr_complete past before i at first rest p in
    let next = λ (x : Instr × ℕ). Ok (before ++ x.0 ∷ [], x.1) in
    record { read = bind_from (instr_at past before at (first ++ rest)) next (i, length first) (before ++ i ∷ [], length first) c.0 refl; some = c.1 }

pub instrs_complete : (at : ℕ) (instrs : List Instr) (bytes : List ℕ) → SpellsInstrs instrs bytes → instrs_at at bytes ≡ Ok instrs
unfolding instrs_at
instrs_complete at instrs bytes p =
    let past = fault_at (at + length bytes) Short in
    joined_read EachInstr (λ l. l) (instr_step past) (step_complete past) instrs (length bytes) [] at bytes (omega arith) p
