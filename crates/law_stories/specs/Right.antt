-- What is right of all that a controller says.
use Rattle.std.specs.Prelude.{◌≡◌, ◌⊎◌, ℕ, ◌^◌, ◌<◌, true, is_some, List, [], ◌∷◌, ◌++◌, map, Some, None}
use Rattle.std.specs.List.{AllByRecursion}
use Rattle.net_base.specs.declared.numbers.DpId.{DpId}
use Rattle.fg_outside.specs.declared.hub.Happening.{Happening}
use Rattle.fg_outside.specs.declared.hub.Happening.TheVariants as happenings
use Rattle.of_match.specs.declared.entry.Command.{Command}
use Rattle.of_match.specs.declared.entry.Entry.{Entry}
use Rattle.of_match.specs.declared.packet.Packet.{Packet}
use Rattle.of_match.specs.Settled.{SettlesInTurn}
use Rattle.of_match.specs.Shaped.{IsShaped}
use Rattle.conf_types.specs.Configuration.{Configuration}
use Rattle.conf_types.specs.State.{is_running}
use Rattle.packet_way.specs.Description.{sends}
use Rattle.law_runs.specs.Runs.{SendsJust}
use Rattle.plan_difference.specs.Difference.{difference}
use Rattle.of13_codec.specs.declared.message.Message.{Message}
use Rattle.of13_codec.specs.declared.message.Message.TheVariants as messages
use Rattle.flow_messages.specs.Commands.{Says}
use Rattle.flow_messages.specs.Messages.{command_message}
use Rattle.ctl_world.specs.declared.conns.Conn.{Conn}
use Rattle.ctl_world.specs.declared.said.Said.{Said}
use Rattle.ctl_world.specs.Connections.{conn_of, conn_with}
use Rattle.ctl_world.specs.TablesSaid.{tables_said}
use Rattle.ctl_world.specs.World.{IsSound, World, first, has_ports, now, running}
use Rattle.ctl_core.specs.Settlings.{wanted}
use Rattle.ctl_core.specs.Story.{behind}
use Rattle.law_stories.specs.Sayable.{IdsCount, SaysOnOpen}
use Rattle.law_stories.specs.Settlings.{Settling, known_behind, said_before, said_behind, said_in, settlings}

-- ---- cold tables

-- Messages are lists of commands with a barrier behind each; whatever a switch held that keeps the barrier rule, in whichever
-- order it does what stands between two barriers, behind the last barrier it holds exactly these entries.
abbrev pub LeadsTo : List (Message × ℕ) → List Entry → Type 0
LeadsTo said entries =
    (batches : List (List Command)) × Says (map (λ m. m.0) said) batches
    × ((held settled : List Entry) → SettlesInTurn held batches settled → settled ≡ entries)

-- Of each datapath that runs: nothing is said of its tables in this settling, or all that was said of them since its
-- connection was opened leads to the cold start of what is known behind it.
abbrev pub HasColdTables : Settling → Type 0
HasColdTables s =
    (dp : DpId) (c : Conn) → is_running (running (known_behind s)) dp ≡ true → conn_of (known_behind s).conns dp ≡ Some c
    → (tables_said c.number (said_behind s) ≡ tables_said c.number (said_before s))
    ⊎ LeadsTo (tables_said c.number (said_behind s)) (wanted (known_behind s) dp)

-- ---- description

-- what came on a connection is bytes: a list of numbers may have greater ones, and then two Ethernet addresses can have one value
abbrev pub IsOfBytes : Happening → Type 0
IsOfBytes (happenings.Opened number) = Unit {0}
IsOfBytes (happenings.Heard number piece) = AllByRecursion (λ byte. byte < 256) piece
IsOfBytes (happenings.Closed number cause) = Unit {0}
IsOfBytes (happenings.Moment moment) = Unit {0}
IsOfBytes (happenings.Reload text) = Unit {0}

-- these cold starts send every packet, by every port, as the configuration describes
abbrev pub Describes : Settling → Type 0
Describes s =
    (dp : DpId) → is_running (running (known_behind s)) dp ≡ true
    → (port : ℕ) (p : Packet) → port < 2 ^ 32 → IsShaped p
    → SendsJust (wanted (known_behind s) dp) port 0 p (sends (known_behind s).conf (now (known_behind s)) dp port p)

-- ---- nothing waits

-- a barrier is outstanding on the connection of a datapath that runs, or what was noted as sent is its cold start
abbrev pub NothingWaits : World → Type 0
NothingWaits w =
    (dp : DpId) (c : Conn) → is_running (running w) dp ≡ true → conn_of w.conns dp ≡ Some c
    → (is_some c.session.state.awaited ≡ true) ⊎ (c.sent ≡ wanted w dp)

-- what was said of its tables leads to what was noted as sent
abbrev pub IsNoted : World → List Said → Type 0
IsNoted w said =
    (dp : DpId) (c : Conn) → is_running (running w) dp ≡ true → conn_of w.conns dp ≡ Some c → LeadsTo (tables_said c.number said) c.sent

-- where no barrier is outstanding, all that was said of the tables of a datapath that runs leads to the cold start of what is known
abbrev pub HoldsColdStart : World → List Said → Type 0
HoldsColdStart w said =
    (dp : DpId) (c : Conn) → is_running (running w) dp ≡ true → conn_of w.conns dp ≡ Some c → c.session.state.awaited ≡ None
    → LeadsTo (tables_said c.number said) (wanted w dp)

-- ---- one batch

-- while a barrier is outstanding, it is the last that was said of the tables on its connection
abbrev pub HasOneBatch : World → List Said → Type 0
HasOneBatch w said =
    (number xid : ℕ) (c : Conn) → conn_with w.conns number ≡ Some c → has_ports c.session.state.stage ≡ true
    → c.session.state.awaited ≡ Some xid
    → (before : List (Message × ℕ)) × (tables_said number said ≡ before ++ (messages.BarrierRequest, xid) ∷ [])

-- ---- least batch

-- What is said in a settling of the tables of a datapath that runs is nothing; or no barrier is outstanding on its connection, and
-- it is the difference of what was noted as sent and its cold start, in key order, with a barrier behind it.
abbrev pub SaysTheLeast : Settling → Type 0
SaysTheLeast s =
    (dp : DpId) (c : Conn) → is_running (running (known_behind s)) dp ≡ true → conn_of s.before.conns dp ≡ Some c
    → (more : List (Message × ℕ)) × (tables_said c.number (said_behind s) ≡ tables_said c.number (said_before s) ++ more)
    × ((more ≡ [])
    ⊎ ((c.session.state.awaited ≡ None) × (map (λ m. m.0) more ≡ map command_message (difference c.sent (wanted (known_behind s) dp)) ++ messages.BarrierRequest ∷ [])))

-- ---- all of it

-- Of a story: what is known is valid and no limit is passed; the parts above; and what is said can be said. The rest is what a
-- turn says (Turns of ctl_core): the setup, echoes, asks, replies, closings and their lines, reloads.
pub record IsRight (conf : Configuration) (story : List Happening) : Type 0 where
  pub sound : IsSound (behind (first conf) story)
  pub cold_tables : AllByRecursion HasColdTables (settlings (first conf) story)
  pub description : AllByRecursion IsOfBytes story → AllByRecursion Describes (settlings (first conf) story)
  pub nothing_waits : NothingWaits (behind (first conf) story)
  pub noted : IsNoted (behind (first conf) story) (said_in (first conf) story)
  pub held : HoldsColdStart (behind (first conf) story) (said_in (first conf) story)
  pub one_batch : HasOneBatch (behind (first conf) story) (said_in (first conf) story)
  pub least_batch : AllByRecursion SaysTheLeast (settlings (first conf) story)
  pub ids : IdsCount (behind (first conf) story) (said_in (first conf) story)
  pub sayable : SaysOnOpen (first conf) story
