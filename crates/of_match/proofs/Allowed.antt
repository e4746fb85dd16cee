-- The run by chosen entries: its steps, and that it is an allowed one.
use Rattle.std.proofs.Common.{◌≡◌, ℕ, zero, suc, ◌+◌, ◌-◌, ◌<◌, ◌≤◌, Bool, true, false, ◌&&◌, if◌then◌else◌, List, [], ◌++◌, Option, Some, None, refl, sym, ap, ◌∙◌, subst, arith, append-nil, nat_lt}
use Rattle.std.specs.Prelude.{option_and_then}
use Rattle.std.specs.Option.{option_map, option_map_or}
use Rattle.std.proofs.lemmas.Bool.Decides.{nat_tests}
use Rattle.of_match.specs.declared.entry.Entry.{Entry}
use Rattle.of_match.specs.declared.packet.Packet.{Packet}
use Rattle.of_match.specs.declared.packet.Sent.{Sent}
use Rattle.of_match.specs.Act.{act_left}
use Rattle.of_match.specs.Pipeline.{actions_of, goto_of, next_table, sends_by, goes_on, PipesFrom, misses, stops, goes, Pipes, chosen, run_from, first_run}
use Rattle.of_match.proofs.Best.{chosen_misses, chosen_best}

-- ---- a packet goes on only to a higher table, of 256

next_if : (t u v : ℕ) (b : Bool) → nat_lt t v && nat_lt v 256 ≡ b → (if b then Some v else None) ≡ Some u → (t < u) × (u < 256)
next_if t u v true test e = let same : v ≡ u = cc in let k : (t < v) × (v < 256) = (grind (arith, nat_tests), grind (arith, nat_tests)) in (omega arith, omega arith)
next_if t u v false test e = absurd cc

next_bounds : (t u : ℕ) (o : Option ℕ) → option_and_then (λ u. if nat_lt t u && nat_lt u 256 then Some u else None) o ≡ Some u → (t < u) × (u < 256)
next_bounds t u None e = absurd cc
next_bounds t u (Some v) e = next_if t u v (nat_lt t v && nat_lt v 256) refl e

goes_parts : (o : Option Packet) (n : Option ℕ) (s : ℕ × Packet) → option_and_then (λ q. option_map (λ u. (u, q)) n) o ≡ Some s → n ≡ Some s.0
goes_parts None n s e = absurd cc
goes_parts (Some q) None s e = absurd cc
goes_parts (Some q) (Some u) s e = ap (option_map (λ (s : ℕ × Packet). s.0)) e

pub goes_bounds : (e : Entry) (t : ℕ) (p : Packet) (s : ℕ × Packet) → goes_on e t p ≡ Some s → (t < s.0) × (s.0 < 256)
goes_bounds e t p s on = next_bounds t s.0 (goto_of e.instrs) (goes_parts (act_left (actions_of e.instrs) p) (next_table e.instrs t) s on)

module _ (tables : List Entry) (port : ℕ) where
  -- what a packet does from the next table on, within n tables
  abbrev rest_of : ℕ → Option (ℕ × Packet) → List Sent
  rest_of n o = option_map_or (λ s. run_from n tables s.0 port s.1) o []

  abbrev from_chosen : ℕ → ℕ → Packet → Option Entry → List Sent
  from_chosen n t p o = option_map_or (λ e. sends_by e port p ++ rest_of n (goes_on e t p)) o []

  -- ---- the number of tables that are left, if there are enough, changes nothing

  pub same_run : (n m t : ℕ) (p : Packet) → 256 ≤ n + t → 256 ≤ m + t → t < 256 → run_from n tables t port p ≡ run_from m tables t port p
  unfolding run_from
  same_run zero m t p a b lt = absurd (omega arith)
  same_run (suc n) zero t p a b lt = absurd (omega arith)
  same_run (suc n) (suc m) t p a b lt =
      elim (chosen tables t port p) as (λ o. from_chosen n t p o ≡ from_chosen m t p o) [
        | None ↦ refl
        | Some e ↦ ap (λ l. sends_by e port p ++ l) (same_rest (λ q u c d l. same_run n m u q c d l) e (goes_on e t p) refl)
      ]
    where
      same_rest : ((q : Packet) (u : ℕ) → 256 ≤ n + u → 256 ≤ m + u → u < 256 → run_from n tables u port q ≡ run_from m tables u port q) → (e : Entry) (o : Option (ℕ × Packet)) → goes_on e t p ≡ o → rest_of n o ≡ rest_of m o
      same_rest same e None on = refl
      same_rest same e (Some s) on = let k = goes_bounds e t p s on in same s.1 s.0 (omega arith) (omega arith) k.1

  -- ---- the run is allowed

  allowed_step : (n t : ℕ) (p : Packet) → ((q : Packet) (u : ℕ) → 256 ≤ n + u → u < 256 → PipesFrom tables port u q (run_from n tables u port q)) → 256 ≤ suc n + t → (o : Option Entry) → chosen tables t port p ≡ o → PipesFrom tables port t p (from_chosen n t p o)
  allowed_step n t p later a None none = misses t p (chosen_misses t port p tables none)
  allowed_step n t p later a (Some e) some = onwards (goes_on e t p) refl
    where
      onwards : (o : Option (ℕ × Packet)) → goes_on e t p ≡ o → PipesFrom tables port t p (sends_by e port p ++ rest_of n o)
      onwards None on = subst (PipesFrom tables port t p) (sym (append-nil (sends_by e port p))) (stops t p e (chosen_best t port p tables e some) on)
      onwards (Some s) on =
          let k = goes_bounds e t p s on in
          goes t p e s.0 s.1 (run_from n tables s.0 port s.1) (chosen_best t port p tables e some) on (later s.1 s.0 (omega arith) k.1)

  allowed_from : (n t : ℕ) (p : Packet) → 256 ≤ n + t → t < 256 → PipesFrom tables port t p (run_from n tables t port p)
  unfolding run_from
  allowed_from zero t p a lt = absurd (omega arith)
  allowed_from (suc n) t p a lt = allowed_step n t p (λ q u b l. allowed_from n u q b l) a (chosen tables t port p) refl

  pub allowed : (p : Packet) → Pipes tables port p (first_run tables port p)
  allowed p = allowed_from 256 0 p (omega arith) (omega arith)

  -- ---- one step, with as many tables left as there are above

  pub run_misses : (t : ℕ) (p : Packet) → t < 256 → None ≡ chosen tables t port p → run_from (256 - t) tables t port p ≡ []
  unfolding run_from
  run_misses t p lt none = unfolded (256 - t) refl
    where
      unfolded : (n : ℕ) → 256 - t ≡ n → run_from n tables t port p ≡ []
      unfolded zero e = refl
      unfolded (suc n) e = ap (from_chosen n t p) (sym none)

  pub run_stops : (t : ℕ) (p : Packet) (e : Entry) → t < 256 → Some e ≡ chosen tables t port p → goes_on e t p ≡ None → run_from (256 - t) tables t port p ≡ sends_by e port p
  unfolding run_from
  run_stops t p e lt some on = unfolded (256 - t) refl
    where
      unfolded : (n : ℕ) → 256 - t ≡ n → run_from n tables t port p ≡ sends_by e port p
      unfolded zero eq = absurd (omega arith)
      unfolded (suc n) eq = ap (from_chosen n t p) (sym some) ∙ ap (λ o. sends_by e port p ++ rest_of n o) on ∙ append-nil (sends_by e port p)

  pub run_goes : (t : ℕ) (p : Packet) (e : Entry) (u : ℕ) (q : Packet) → t < 256 → Some e ≡ chosen tables t port p → goes_on e t p ≡ Some (u, q) → run_from (256 - t) tables t port p ≡ sends_by e port p ++ run_from (256 - u) tables u port q
  unfolding run_from
  run_goes t p e u q lt some on = unfolded (256 - t) refl
    where
      unfolded : (n : ℕ) → 256 - t ≡ n → run_from n tables t port p ≡ sends_by e port p ++ run_from (256 - u) tables u port q
      unfolded zero eq = absurd (omega arith)
      unfolded (suc n) eq =
          let k = goes_bounds e t p (u, q) on in
          ap (from_chosen n t p) (sym some) ∙ ap (λ o. sends_by e port p ++ rest_of n o) on
          ∙ ap (λ l. sends_by e port p ++ l) (same_run n (256 - u) u q (omega arith) (omega arith) k.1)

-- ---- where a packet goes on

pub ends_here : (e : Entry) (t : ℕ) (p : Packet) → None ≡ act_left (actions_of e.instrs) p → goes_on e t p ≡ None
ends_here e t p left = ap (option_and_then (λ q. option_map (λ u. (u, q)) (next_table e.instrs t))) (sym left)

pub stays_here : (e : Entry) (t : ℕ) (p q : Packet) → Some q ≡ act_left (actions_of e.instrs) p → None ≡ next_table e.instrs t → goes_on e t p ≡ None
stays_here e t p q left next =
    ap (option_and_then (λ q. option_map (λ u. (u, q)) (next_table e.instrs t))) (sym left) ∙ ap (option_map (λ (u : ℕ). (u, q))) (sym next)

pub goes_there : (e : Entry) (t : ℕ) (p q : Packet) (u : ℕ) → Some q ≡ act_left (actions_of e.instrs) p → Some u ≡ next_table e.instrs t → goes_on e t p ≡ Some (u, q)
goes_there e t p q u left next =
    ap (option_and_then (λ q. option_map (λ u. (u, q)) (next_table e.instrs t))) (sym left) ∙ ap (option_map (λ (u : ℕ). (u, q))) (sym next)
