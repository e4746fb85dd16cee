-- The hub with no connection.
use Rattle.fg_outside.specs.HubStep.{HubStep, turned, said, closed}
use Rattle.fg_outside.specs.declared.hub.Turn.TheVariants.{Happened, Done, Failed, Memory}
use Rattle.fg_outside.specs.declared.hub.Said.TheVariants.{Taken, Gone}
use Rattle.fg_outside.specs.declared.hub.Said.TheVariants as answers

-- each turn is done at once, and each connection is gone
abbrev pub IsIdle : HubStep → Type 0
IsIdle (turned Done) = Unit {0}
IsIdle (turned (Happened it)) = ⊥
IsIdle (turned Failed) = ⊥
IsIdle (turned Memory) = ⊥
IsIdle (said conn piece Gone) = Unit {0}
IsIdle (said conn piece Taken) = ⊥
IsIdle (said conn piece answers.Memory) = ⊥
IsIdle (closed conn) = Unit {0}
