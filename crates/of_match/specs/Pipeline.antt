-- The way of a packet through the flow tables (OpenFlow 1.3, 5.1 and 5.3).
use Rattle.std.specs.Prelude.{◌≡◌, ℕ, ◌≤◌, Bool, false, ◌==◌, ◌&&◌, nat_lt, if◌then◌else◌, List, [], ◌∷◌, ◌++◌, Contains, Option, Some, None, option_and_then, IsTrue}
use Rattle.std.proofs.Common.{zero, suc}
use Rattle.std.specs.Option.{option_map, option_map_or}
use Rattle.std.specs.List.{filter}
use Rattle.of_match.specs.declared.action.Action.{Action}
use Rattle.of_match.specs.declared.action.Instr.{Instr}
use Rattle.of_match.specs.declared.action.Instr.TheVariants.{Goto, Apply}
use Rattle.of_match.specs.declared.entry.Entry.{Entry}
use Rattle.of_match.specs.declared.packet.Packet.{Packet}
use Rattle.of_match.specs.declared.packet.Sent.{Sent}
use Rattle.of_match.specs.Hit.{hits}
use Rattle.of_match.specs.Act.{act_sends, act_left}

-- ---- one table

-- an entry of table t that hits
abbrev pub takes : ℕ → ℕ → Packet → Entry → Bool
takes t port p e = (e.key.table == t) && hits e.key.fields port p

-- the entry takes the packet in table t, and none of higher priority does; of those of one
-- priority any may be taken (5.3)
pub record IsBest (tables : List Entry) (t port : ℕ) (p : Packet) (e : Entry) : Type 0 where
  pub is_entry : Contains tables e
  pub hit : IsTrue (takes t port p e)
  pub highest : (f : Entry) → Contains tables f → IsTrue (takes t port p f) → f.key.priority ≤ e.key.priority

-- no entry takes the packet in table t
abbrev pub Misses : List Entry → ℕ → ℕ → Packet → Type 0
Misses tables t port p = (f : Entry) → Contains tables f → takes t port p f ≡ false

-- ---- instructions (5.9)

-- the actions that an instruction does at once
abbrev pub actions_in : Instr → List Action
actions_in (Goto t) = []
actions_in (Apply actions) = actions

-- the actions that are done at once, in order
abbrev pub actions_of : List Instr → List Action
actions_of [] = []
actions_of (instr ∷ more) = actions_in instr ++ actions_of more

-- where the packet goes on then, if anywhere
abbrev pub goto_of : List Instr → Option ℕ
goto_of [] = None
goto_of (Goto t ∷ more) = Some t
goto_of (Apply actions ∷ more) = goto_of more

-- the same, from table t: a packet goes on only to a higher table, of 256
abbrev pub next_table : List Instr → ℕ → Option ℕ
next_table instrs t = option_and_then (λ u. if nat_lt t u && nat_lt u 256 then Some u else None) (goto_of instrs)

-- what an entry sends of a packet
abbrev pub sends_by : Entry → ℕ → Packet → List Sent
sends_by e port p = act_sends (actions_of e.instrs) port p

-- the table and the packet with which the run goes on after an entry; none where an action ended
-- the packet, or where no instruction leads to a higher table
abbrev pub goes_on : Entry → ℕ → Packet → Option (ℕ × Packet)
goes_on e t p = option_and_then (λ q. option_map (λ u. (u, q)) (next_table e.instrs t)) (act_left (actions_of e.instrs) p)

-- ---- runs

-- a run from table t on, by any best entries
pub data PipesFrom (tables : List Entry) (port : ℕ) : ℕ → Packet → List Sent → Type 0 where
  misses : (t : ℕ) (p : Packet) → Misses tables t port p → PipesFrom tables port t p []
  stops : (t : ℕ) (p : Packet) (e : Entry) → IsBest tables t port p e → goes_on e t p ≡ None → PipesFrom tables port t p (sends_by e port p)
  goes : (t : ℕ) (p : Packet) (e : Entry) (u : ℕ) (q : Packet) (rest : List Sent) → IsBest tables t port p e → goes_on e t p ≡ Some (u, q) → PipesFrom tables port u q rest → PipesFrom tables port t p (sends_by e port p ++ rest)

-- a run from table 0 on may send these
abbrev pub Pipes : List Entry → ℕ → Packet → List Sent → Type 0
Pipes tables port p outs = PipesFrom tables port 0 p outs

-- ---- the run that takes the first in key order

-- e, unless another has a higher priority
abbrev pub prefer : Entry → Option Entry → Entry
prefer e None = e
prefer e (Some f) = if nat_lt e.key.priority f.key.priority then f else e

-- the first of those with the highest priority
abbrev pub highest_of : List Entry → Option Entry
highest_of [] = None
highest_of (e ∷ es) = Some (prefer e (highest_of es))

-- an entry that comes later, if it has a higher priority than the best so far
abbrev pub keep_first : Entry → Option Entry → Entry
keep_first e None = e
keep_first e (Some best) = if nat_lt best.key.priority e.key.priority then e else best

-- the entry that takes a packet in table t
abbrev pub chosen : List Entry → ℕ → ℕ → Packet → Option Entry
chosen tables t port p = highest_of (filter (takes t port p) tables)

-- what is sent from table t on, where at most n tables are left to go through
unfoldable pub run_from : ℕ → List Entry → ℕ → ℕ → Packet → List Sent
run_from zero tables t port p = []
run_from (suc n) tables t port p =
    option_map_or (λ e. sends_by e port p ++ option_map_or (λ s. run_from n tables s.0 port s.1) (goes_on e t p) []) (chosen tables t port p) []

-- what is sent from table 0 on
abbrev pub first_run : List Entry → ℕ → Packet → List Sent
first_run tables port p = run_from 256 tables 0 port p
