-- What many calls make of a source.

-- a source came from one state to another by calls, in steps that it may take
pub data Went {S : Type 0} (may : S → S → Type 0) (from : S) : S → Type 0 where
  stay : Went may from from
  on : (mid to : S) → Went may from mid → may mid to → Went may from to
