-- Flow entries of their parts (OpenFlow 1.3, 5.2). The tables and priorities are this project's own.
use Rattle.std.specs.Prelude.{ℕ, List, [], ◌∷◌, ◌++◌, Option, Some, None}
use Rattle.net_base.specs.declared.field.Field.{Field}
use Rattle.of_match.specs.declared.action.Action.{Action}
use Rattle.of_match.specs.declared.action.Instr.{Instr}
use Rattle.of_match.specs.declared.action.Instr.TheVariants.{Goto, Apply}
use Rattle.of_match.specs.declared.entry.Entry.{Entry}
use Rattle.plan_base.specs.declared.table.Table.{Table}
use Rattle.plan_base.specs.declared.table.Table.TheVariants.{PortAcl, Admission, VlanAcl, Source, Ipv4Route, Ipv6Route, Vip, Destination, Flood}

-- the nine tables
abbrev pub table_number : Table → ℕ
table_number PortAcl = 0
table_number Admission = 1
table_number VlanAcl = 2
table_number Source = 3
table_number Ipv4Route = 4
table_number Ipv6Route = 5
table_number Vip = 6
table_number Destination = 7
table_number Flood = 8

-- actions are applied at once (OpenFlow 1.3, 7.2.4), where there are any
abbrev pub applied : List Action → List Instr
applied [] = []
applied (a ∷ more) = Apply (a ∷ more) ∷ []

-- the packet goes on to a table, where one is named
abbrev pub gone_to : Option Table → List Instr
gone_to None = []
gone_to (Some table) = Goto (table_number table) ∷ []

-- actions, and then the next table
abbrev pub leads_to : List Action → Option Table → List Instr
leads_to actions next = applied actions ++ gone_to next

abbrev pub entry : Table → ℕ → List Field → List Instr → Entry
entry table priority fields instrs =
    record { key = record { table = table_number table; priority = priority; fields = fields }; instrs = instrs }
