-- What callers see of a file that is made at the first write.
use Rattle.std.specs.Prelude.{ℕ, List, Option}
use Rattle.real_outside.specs.declared.new_file.NewFile.{NewFile}

-- its name, as UTF-8 bytes
abbrev pub named_in : {A F B : Type 0} → NewFile A F B → List ℕ
named_in new = new.name

-- the file, once it is made
abbrev pub made_in : {A F B : Type 0} → NewFile A F B → Option F
made_in new = new.file
