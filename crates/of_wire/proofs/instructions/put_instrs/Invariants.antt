use Rattle.std.proofs.Common.{◌≡◌, ◌++◌, take}
use Rattle.std.specs.List.{flat_map}
use Rattle.of_wire.specs.Parts.{instr_bytes}
use Rattle.of_wire.proofs.instructions.put_instrs.Given as goal

abbrev pub invariant-loop-instr : goal.invariant-loop-instr
invariant-loop-instr l = l.out ≡ l.fn.out ++ flat_map instr_bytes (take l.instr-index l.instrs)
