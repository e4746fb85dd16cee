-- What an entry does that is made of actions and a next table.
use Rattle.std.specs.Prelude.{◌≡◌, ℕ, ◌==◌, ◌&&◌, ◌≤◌, Bool, true, false, List, [], ◌∷◌, ◌++◌, Option, Some, None, option_and_then}
use Rattle.std.specs.List.{AllByRecursion}
use Rattle.std.specs.Option.{option_map, option_map_or}
use Rattle.std.proofs.Common.{refl, sym, ap, ◌∙◌, subst}
use Rattle.std.proofs.lemmas.Bool.{eqb-true, and_parts}
use Rattle.std.proofs.lemmas.List.{append-nil}
use Rattle.net_base.specs.declared.field.Field.{Field}
use Rattle.of_match.specs.declared.action.Action.{Action}
use Rattle.of_match.specs.declared.entry.Entry.{Entry}
use Rattle.of_match.specs.declared.packet.Packet.{Packet}
use Rattle.of_match.specs.declared.packet.Sent.{Sent}
use Rattle.of_match.specs.Act.{act_sends, act_left}
use Rattle.of_match.specs.Hit.{hits}
use Rattle.of_match.specs.Pipeline.{takes, sends_by, goes_on, actions_of, next_table}
use Rattle.plan_base.specs.declared.table.Table.{Table}
use Rattle.plan_base.specs.Entries.{table_number, leads_to, entry}
use Rattle.law_runs.specs.Decided.{Does, Follows}
use Rattle.plan_units.specs.Tables.{AtTable}

-- an entry that takes a packet in a table stands in it, and its match hits
pub in_its_table : (t port : ℕ) (p : Packet) (e : Entry) → takes t port p e ≡ true → e.key.table ≡ t
in_its_table t port p e hit = eqb-true e.key.table t (and_parts (e.key.table == t) (hits e.key.fields port p) hit).0

pub hit_by : (t port : ℕ) (p : Packet) (e : Entry) → takes t port p e ≡ true → hits e.key.fields port p ≡ true
hit_by t port p e hit = (and_parts (e.key.table == t) (hits e.key.fields port p) hit).1

-- so what holds of the entries of the table holds of all that take the packet there
pub followed : (t port : ℕ) (p : Packet) (priority : ℕ) (sent : List Sent) (on : Option (ℕ × Packet)) (es : List Entry)
    → AtTable t (λ e. hits e.key.fields port p ≡ true → priority ≤ e.key.priority → Does t port p sent on e) es → AllByRecursion (Follows t port p priority sent on) es
followed t port p priority sent on [] all = tt
followed t port p priority sent on (e ∷ es) all =
    ((λ hit le. all.0 (in_its_table t port p e hit) (hit_by t port p e hit) le), followed t port p priority sent on es all.1)

pub actions_led : (actions : List Action) (next : Option Table) → actions_of (leads_to actions next) ≡ actions
actions_led [] None = refl
actions_led [] (Some table) = refl
actions_led (a ∷ more) None = append-nil (a ∷ more)
actions_led (a ∷ more) (Some table) = append-nil (a ∷ more)

pub sends_led : (table : Table) (priority : ℕ) (fields : List Field) (actions : List Action) (next : Option Table) (port : ℕ) (p : Packet)
    → sends_by (entry table priority fields (leads_to actions next)) port p ≡ act_sends actions port p
sends_led table priority fields actions next port p = ap (λ xs. act_sends xs port p) (actions_led actions next)

-- the table that comes next, with what the actions leave
pub goes_led : (table : Table) (priority : ℕ) (fields : List Field) (actions : List Action) (next : Option Table) (t : ℕ) (p : Packet)
    → goes_on (entry table priority fields (leads_to actions next)) t p ≡ option_and_then (λ q. option_map (λ u. (u, q)) (next_table (leads_to actions next) t)) (act_left actions p)
goes_led table priority fields actions next t p =
    ap (λ xs. option_and_then (λ (q : Packet). option_map (λ u. (u, q)) (next_table (leads_to actions next) t)) (act_left xs p)) (actions_led actions next)

-- nothing comes next where no table is named
pub ends_led : (actions : List Action) (t : ℕ) → next_table (leads_to actions None) t ≡ None
ends_led [] t = refl
ends_led (a ∷ more) t = refl

pub next_led : (actions : List Action) (table : Table) (t : ℕ) → next_table (leads_to actions (Some table)) t ≡ next_table (leads_to [] (Some table)) t
next_led [] table t = refl
next_led (a ∷ more) table t = refl
