-- What callers see of a link in memory.
use Rattle.std.specs.Prelude.{ℕ, List}
use Rattle.fg_outside.specs.declared.fault_plan.FailListed.{FailListed}
use Rattle.fg_outside.specs.SourceInMemory.{left_in as source_left}
use Rattle.fg_outside.specs.SinkInMemory.{taken_by, room_of as sink_room}
use Rattle.fg_links.specs.declared.mem_link.LinkInMemory.{LinkInMemory}

-- the bytes that it has left for reads
abbrev pub left_in : {P : Type 0} → LinkInMemory P → List ℕ
left_in link = source_left link.input

-- all bytes that writes gave it
abbrev pub given_to : {P : Type 0} → LinkInMemory P → List ℕ
given_to link = taken_by link.output

-- how many bytes it can hold
abbrev pub room_of : {P : Type 0} → LinkInMemory P → ℕ
room_of link = sink_room link.output

-- which of the calls are to fail
abbrev pub fail_of : {P : Type 0} → LinkInMemory P → P
fail_of link = link.fail

-- which of the calls are to answer NotYet
abbrev pub wait_of : {P : Type 0} → LinkInMemory P → FailListed
wait_of link = link.wait

-- how often a call failed
abbrev pub faults_of : {P : Type 0} → LinkInMemory P → ℕ
faults_of link = link.faults

-- how often a read answered NotYet
abbrev pub unread_of : {P : Type 0} → LinkInMemory P → ℕ
unread_of link = link.unread

-- how often a write answered NotYet
abbrev pub unwritten_of : {P : Type 0} → LinkInMemory P → ℕ
unwritten_of link = link.unwritten
