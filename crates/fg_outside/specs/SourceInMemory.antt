-- What callers see of a source in memory.
use Rattle.std.specs.Prelude.{ℕ, List, drop}
use Rattle.fg_outside.specs.declared.mem_source.SourceInMemory.{SourceInMemory}

-- the bytes that it has left
abbrev pub left_in : {P : Type 0} → SourceInMemory P → List ℕ
left_in source = drop source.at source.bytes

-- which of the reads are to fail
abbrev pub plan_of : {P : Type 0} → SourceInMemory P → P
plan_of source = source.plan
