-- Flow entries that a switch accepts (OpenFlow 1.3, 5.2 and 6.4).
use Rattle.std.specs.Prelude.{◌≡◌, ◌^◌, ◌<◌, List}
use Rattle.std.specs.List.{AllByRecursion}
use Rattle.net_base.specs.WellFormed.{IsWellFormed}
use Rattle.of_match.specs.declared.entry.Entry.{Entry}
use Rattle.of_match.specs.WellFormed.{AreInstrs}
use Rattle.conf_types.specs.Lists.{EachBefore}
use Rattle.plan_base.specs.MatchFields.{IsMatchField}

pub record IsFlowEntry (e : Entry) : Type 0 where
  pub table : e.key.table < 2 ^ 8
  pub priority : e.key.priority < 2 ^ 16
  pub fields : IsWellFormed e.key.fields
  pub each : AllByRecursion IsMatchField e.key.fields
  pub instrs : AreInstrs e.instrs

-- no two entries have one key
abbrev pub HaveDistinctKeys : List Entry → Type 0
HaveDistinctKeys es = EachBefore (λ e f. e.key ≡ f.key → ⊥) es
