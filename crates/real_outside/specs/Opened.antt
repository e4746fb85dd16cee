-- What callers see of a file that is open at a place, of real files and of a stream.
use Rattle.std.specs.Prelude.{◌≡◌, ℕ, ◌<◌, List, length, take, Option}
use Rattle.std.specs.Io.KnownBytes.{Consumes, IsAtEnd}
use Rattle.real_outside.specs.declared.opened.OpenAt.{OpenAt}
use Rattle.real_outside.specs.declared.real_files.RealFiles.{RealFiles}
use Rattle.real_outside.specs.declared.stream.Stream.{Stream}

-- its name, as UTF-8 bytes
abbrev pub name_of : {F : Type 0} → OpenAt F → List ℕ
name_of opened = opened.name

-- the file itself
abbrev pub file_of : {F : Type 0} → OpenAt F → F
file_of opened = opened.file

-- the place that it stands at, counted from 0
abbrev pub place_of : {F : Type 0} → OpenAt F → ℕ
place_of opened = opened.at

-- A read went on in the file: where the file tells which bytes it has left, it gave the next n of them, none only at the end.
abbrev pub WentOn : {F : Type 0} → (F → Option (List ℕ)) → OpenAt F → OpenAt F → ℕ → List ℕ → Type 0
WentOn remaining before after n buf = Consumes (remaining before.file) (remaining after.file) (take n buf) × (n ≡ 0 → 0 < length buf → IsAtEnd (remaining after.file))

-- the file that was read last, where it is still open
abbrev pub last_of : {A F B : Type 0} → RealFiles A F B → Option (OpenAt F)
last_of files = files.last

-- the name at which a read of them last failed or found no file
abbrev pub refused_of : {A F B : Type 0} → RealFiles A F B → List ℕ
refused_of files = files.refused.name

-- what a stream writes to
abbrev pub writer_of : {W : Type 0} → Stream W → W
writer_of stream = stream.writer
