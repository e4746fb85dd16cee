-- The words of a command line.
use Rattle.std.specs.Prelude.{◌≡◌, ℕ, List, map, drop, String, string_bytes, ⊤}
use Rattle.std.specs.Iterator.{DrainsIf}
use Rattle.std.specs.Vec.Iter.{into_iter_steps}
use Rattle.std.specs.declared.vec.IntoIter.{IntoIter}

-- these are the words, as UTF-8 bytes, behind the first of the arguments, which is the program's name
abbrev pub AreBehindName : {A : Type 0} → IntoIter (String A) A → (words : List (List ℕ)) → Type 0
AreBehindName args words = (all : List (String _)) × DrainsIf into_iter_steps ⊤ args all × (words ≡ map string_bytes (drop 1 all))
