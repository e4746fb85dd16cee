use Rattle.std.specs.Prelude.{ℕ}
use Rattle.of_wire.specs.declared.fault.PartCause.{PartCause}
use Rattle.of_wire.specs.declared.fault.PartCause.TheVariants.{Short, BadClass, BadLength, BadPad, Repeated, Prerequisite, UnknownAction, UnknownInstr}

-- the causes are numbered in their order, from 1
abbrev pub cause_number : PartCause → ℕ
cause_number Short = 1
cause_number BadClass = 2
cause_number BadLength = 3
cause_number BadPad = 4
cause_number Repeated = 5
cause_number Prerequisite = 6
cause_number UnknownAction = 7
cause_number UnknownInstr = 8
