-- What each call keeps holds behind all.
use Rattle.std.proofs.Common.{List}
use Rattle.law_calls.specs.Runs.{Run, start, next}

module _ {S C : Type 0} (may : S → C → S → Type 0) where
  pub run_keeps : (Q : S → Type 0) → ((old : S) (call : C) (new : S) → Q old → may old call new → Q new) → (from : S) → Q from → (calls : List C) (to : S) → Run may from calls to → Q to
  run_keeps Q keeps from first _ _ start = first
  run_keeps Q keeps from first _ _ (next calls mid call to way made) = keeps mid call to (run_keeps Q keeps from first calls mid way) made
