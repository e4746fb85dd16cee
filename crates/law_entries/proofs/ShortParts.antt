-- Entries that are short by their parts.
use Rattle.std.specs.Prelude.{◌≡◌, ℕ, ◌<◌, ◌≤◌, Bool, true, false, List, [], ◌∷◌, length, Option, Some, None, if◌then◌else◌}
use Rattle.std.proofs.Common.{refl, arith}
use Rattle.net_base.specs.declared.field.Field.{Field}
use Rattle.of_match.specs.declared.action.Action.{Action}
use Rattle.of_match.specs.declared.action.Instr.{Instr}
use Rattle.plan_base.specs.declared.table.Table.{Table}
use Rattle.plan_base.specs.declared.table.Table.TheVariants.{PortAcl, Admission, VlanAcl, Source, Ipv4Route, Ipv6Route, Vip, Destination, Flood}
use Rattle.plan_base.specs.Entries.{table_number, leads_to, entry}
use Rattle.law_entries.specs.Short.{count_actions, IsShort}

pub low : (table : Table) → table_number table < 9
low PortAcl = omega arith
low Admission = omega arith
low VlanAcl = omega arith
low Source = omega arith
low Ipv4Route = omega arith
low Ipv6Route = omega arith
low Vip = omega arith
low Destination = omega arith
low Flood = omega arith

led_count : (actions : List Action) (next : Option Table) → count_actions (leads_to actions next) ≡ length actions
led_count [] None = refl
led_count [] (Some table) = refl
led_count (a ∷ more) None = omega arith
led_count (a ∷ more) (Some table) = omega arith

pub led : (actions : List Action) (next : Option Table) → length actions ≤ 2000 → count_actions (leads_to actions next) ≤ 2000
led actions next few = let same = led_count actions next in omega (arith, same, few)

pub short : (table : Table) (priority : ℕ) (fields : List Field) (actions : List Action) (next : Option Table) → length fields ≤ 64 → length actions ≤ 2000
    → IsShort (entry table priority fields (leads_to actions next))
short table priority fields actions next few fit = record { table = low table; fields = few; actions = led actions next fit }

-- an entry that ends, whichever packets it takes
pub ends : (table : Table) (priority : ℕ) (fields : List Field) → length fields ≤ 64 → IsShort (entry table priority fields [])
ends table priority fields few = record { table = low table; fields = few; actions = omega arith }

-- one or the other
pub led_if : (b : Bool) (first second : List Instr) → count_actions first ≤ 2000 → count_actions second ≤ 2000 → count_actions (if b then first else second) ≤ 2000
led_if true first second a c = a
led_if false first second a c = c

pub length_if : {A : Type 0} (most : ℕ) (b : Bool) (xs ys : List A) → length xs ≤ most → length ys ≤ most → length (if b then xs else ys) ≤ most
length_if most true xs ys a c = a
length_if most false xs ys a c = c
