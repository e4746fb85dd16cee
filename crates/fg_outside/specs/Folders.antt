-- What folders in memory hold.
use Rattle.std.specs.Prelude.{ℕ, ◌-◌, List, [], length, min, Option, nat_eq, slice_get, find}
use Rattle.std.specs.Option.{option_map, option_map_or}
use lib.Pointwise.{pointwise}
use Rattle.fg_outside.specs.declared.held.HeldFile.{HeldFile}
use Rattle.fg_outside.specs.declared.held.Folder.{Folder}
use Rattle.fg_outside.specs.Contents.{Contents}

-- the bytes of the first file of this name
abbrev pub file_named : List HeldFile → List ℕ → Option (List ℕ)
file_named files name = option_map (λ file. file.bytes) (find (λ file. pointwise nat_eq file.name name) files)

-- the files after so many refreshes: each goes on to the next folder, and the last one stays
abbrev pub files_after : List Folder → ℕ → List HeldFile
files_after folders count = option_map_or (λ folder. folder.held) (slice_get folders (min count (length folders - 1))) []

-- what the folders hold: with none no file is there
abbrev pub contents_of : List Folder → Contents
contents_of folders count name = file_named (files_after folders count) name
