-- What callers see of a sink in memory.
use Rattle.std.specs.Prelude.{ℕ, ◌+◌, ◌-◌, ◌^◌, List, min}
use Rattle.fg_outside.specs.declared.mem_sink.SinkInMemory.{SinkInMemory}

-- all bytes that it has taken
abbrev pub taken_by : {P : Type 0} → SinkInMemory P → List ℕ
taken_by sink = sink.bytes.items

-- how many bytes it can hold
abbrev pub room_of : {P : Type 0} → SinkInMemory P → ℕ
room_of sink = sink.room

-- how often a write found no room left
abbrev pub overflows_of : {P : Type 0} → SinkInMemory P → ℕ
overflows_of sink = sink.overflows

-- which of the writes are to fail
abbrev pub plan_of : {P : Type 0} → SinkInMemory P → P
plan_of sink = sink.plan

-- how many writes failed: those of the plan and those that found no room, as a counter that stays at its last value
abbrev pub faults_of : {P : Type 0} → (P → ℕ) → SinkInMemory P → ℕ
faults_of planned sink = min (planned sink.plan + sink.overflows) (2 ^ 64 - 1)
