-- What one byte of a double quoted scalar adds, as bytes.
use Rattle.std.specs.Prelude.{ℕ, List, [], ◌∷◌}
use Rattle.yaml_subset.specs.declared.quoted.Escape.{Escape}
use Rattle.yaml_subset.specs.declared.quoted.Added.{Added}
use Rattle.yaml_subset.specs.declared.quoted.Added.TheVariants.{Nothing, Byte, Character}
use Rattle.yaml_subset.specs.Quoted.{utf8_bytes}

abbrev pub added_bytes : Added → List ℕ
added_bytes Nothing = []
added_bytes (Byte b) = b ∷ []
added_bytes (Character n) = utf8_bytes n

abbrev pub step_view : Escape × Added → Escape × List ℕ
step_view s = (s.0, added_bytes s.1)
