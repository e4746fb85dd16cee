-- Lists of calls of a value that keeps a state, with whatever answers.
use Rattle.std.specs.Prelude.{List, [], ◌∷◌, ◌++◌}

-- the calls lead from one state to another, one behind the other, each as it may
pub data Run {S C : Type 0} (may : S → C → S → Type 0) (from : S) : List C → S → Type 0 where
  start : Run may from [] from
  next : (calls : List C) (mid : S) (call : C) (to : S) → Run may from calls mid → may mid call to → Run may from (calls ++ call ∷ []) to
