-- How much of a packet the outputs of a flow entry ask for (OpenFlow 1.3, 7.2.5).
use Rattle.std.specs.Prelude.{◌≡◌, ◌==◌, if◌then◌else◌}
use Rattle.std.specs.List.{AllByRecursion}
use Rattle.of_match.specs.declared.action.TheConstants.{CONTROLLER}
use Rattle.of_match.specs.declared.action.Action.{Action}
use Rattle.of_match.specs.declared.action.Action.TheVariants.{Output, PushVlan, PopVlan, DecTtl, Set}
use Rattle.of_match.specs.declared.action.Instr.{Instr}
use Rattle.of_match.specs.declared.action.Instr.TheVariants.{Goto, Apply}
use Rattle.of_match.specs.declared.entry.Entry.{Entry}

-- to the controller the whole packet, of which the switch keeps nothing (OFPCML_NO_BUFFER); to a port the
-- number says nothing, and is 0
abbrev pub IsWhole : Action → Type 0
IsWhole (Output port max_len) = max_len ≡ (if port == CONTROLLER then 0xffff else 0)
IsWhole (PushVlan eth_type) = Unit {0}
IsWhole PopVlan = Unit {0}
IsWhole DecTtl = Unit {0}
IsWhole (Set f) = Unit {0}

-- each action of an instruction
abbrev pub DoesWhole : Instr → Type 0
DoesWhole (Apply actions) = AllByRecursion IsWhole actions
DoesWhole (Goto table) = Unit {0}

-- each instruction of an entry
abbrev pub SendsWhole : Entry → Type 0
SendsWhole e = AllByRecursion DoesWhole e.instrs
