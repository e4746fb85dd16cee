-- Matches that can be written: each number fits its bytes. That of actions and instructions stands
-- with them.
use Rattle.std.specs.Prelude.{List}
use Rattle.std.specs.List.{AllByRecursion}
use Rattle.net_base.specs.declared.field.Field.{Field}
use Rattle.net_base.specs.WellFormed.{Fits, AreAscending, IsWellFormed}

-- a match that is sent to a switch, and one that a switch reports, whose fields need no prerequisites
abbrev pub IsMatch : List Field → Type 0
IsMatch fields = IsWellFormed fields

pub record IsMatchSeen (fields : List Field) : Type 0 where
  pub ascending : AreAscending fields
  pub fitting : AllByRecursion Fits fields
