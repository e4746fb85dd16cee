-- How long a flow entry is, and where it stands.
use Rattle.std.specs.Prelude.{ℕ, ◌+◌, ◌<◌, ◌≤◌, List, [], ◌∷◌, length}
use Rattle.of_match.specs.declared.action.Instr.{Instr}
use Rattle.of_match.specs.declared.action.Instr.TheVariants.{Goto, Apply}
use Rattle.of_match.specs.declared.entry.Entry.{Entry}

-- the actions of all its instructions
abbrev pub count_actions : List Instr → ℕ
count_actions [] = 0
count_actions (Apply actions ∷ more) = length actions + count_actions more
count_actions (Goto table ∷ more) = count_actions more

pub record IsShort (e : Entry) : Type 0 where
  -- one of the nine, and so not 0xff, which stands for all of them (OpenFlow 1.3, 7.3.4.1, OFPTT_ALL)
  pub table : e.key.table < 9
  pub fields : length e.key.fields ≤ 64
  pub actions : count_actions e.instrs ≤ 2000
