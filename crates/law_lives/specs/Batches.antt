-- Which messages of tables are said, exactly: in a settling the batches that are due, and outside of settlings the wipe.
use Rattle.std.specs.Prelude.{◌≡◌, ◌⊎◌, ℕ, true, List, [], ◌∷◌, ◌++◌, map, Option, Some, None}
use Rattle.net_base.specs.declared.numbers.DpId.{DpId}
use Rattle.of_match.specs.declared.entry.Command.{Command}
use Rattle.conf_types.specs.State.{is_running}
use Rattle.plan_difference.specs.Difference.{difference}
use Rattle.of13_codec.specs.declared.message.Message.{Message}
use Rattle.of13_codec.specs.declared.message.Message.TheVariants as messages
use Rattle.flow_messages.specs.Messages.{command_message, delete_all}
use Rattle.ctl_world.specs.declared.conns.Conn.{Conn}
use Rattle.ctl_world.specs.declared.said.Said.{Said}
use Rattle.ctl_world.specs.Connections.{conn_of}
use Rattle.ctl_world.specs.TablesSaid.{tables_said}
use Rattle.ctl_world.specs.World.{running}
use Rattle.ctl_core.specs.Settlings.{wanted}
use Rattle.law_stories.specs.Settlings.{Settling, known_behind, said_before, said_behind}

-- ---- in a settling

-- What is due where these commands lead from what a switch was sent to its cold start: nothing while a barrier is outstanding, or
-- where there is no command; else a FLOW_MOD for each command, in order, and one BARRIER_REQUEST (OpenFlow 1.3, 7.3.8).
abbrev pub batch_due : (outstanding : Option ℕ) → List Command → List Message
batch_due (Some xid) commands = []
batch_due None [] = []
batch_due None (c ∷ more) = map command_message (c ∷ more) ++ messages.BarrierRequest ∷ []

-- these messages, and no others, are said of tables on a connection
abbrev pub SaysOn : (number : ℕ) → Settling → List Message → Type 0
SaysOn number s ms =
    (more : List (Message × ℕ)) × (tables_said number (said_behind s) ≡ tables_said number (said_before s) ++ more)
    × (map (λ (m : Message × ℕ). m.0) more ≡ ms)

-- to each datapath that runs, what is due
abbrev pub SaysWhatIsDue : Settling → Type 0
SaysWhatIsDue s =
    (dp : DpId) (c : Conn) → is_running (running (known_behind s)) dp ≡ true → conn_of s.before.conns dp ≡ Some c
    → SaysOn c.number s (batch_due c.session.state.awaited (difference c.sent (wanted (known_behind s) dp)))

-- on every other connection, nothing
abbrev pub SaysNothingElse : Settling → Type 0
SaysNothingElse s =
    (number : ℕ)
    → ((dp : DpId) (c : Conn) → is_running (running (known_behind s)) dp ≡ true → conn_of s.before.conns dp ≡ Some c → c.number ≡ number → ⊥)
    → tables_said number (said_behind s) ≡ tables_said number (said_before s)

pub record SaysExactly (s : Settling) : Type 0 where
  pub due : SaysWhatIsDue s
  pub nothing_else : SaysNothingElse s

-- ---- outside of settlings

-- the tables are wiped: a FLOW_MOD that deletes all that stands in all tables, and a BARRIER_REQUEST (7.3.4.1, 7.3.8)
abbrev pub IsWipe : List (Message × ℕ) → Type 0
IsWipe said = (wipe : ℕ) × (xid : ℕ) × (said ≡ (delete_all, wipe) ∷ (messages.BarrierRequest, xid) ∷ [])

-- what was said of tables is what it was; or none, of a connection that opens; or the wipe, where none was said before
abbrev pub StaysOrWipes : (before after : List (Message × ℕ)) → Type 0
StaysOrWipes before after = (after ≡ before) ⊎ ((after ≡ []) ⊎ ((before ≡ []) × IsWipe after))

-- from the end of each settling, and from the beginning, to the next one; behind the last one nothing is said of tables
abbrev pub OnlyWipesBetween : (said : List Said) → List Settling → (all : List Said) → Type 0
OnlyWipesBetween said [] all = (number : ℕ) → tables_said number all ≡ tables_said number said
OnlyWipesBetween said (s ∷ more) all =
    ((number : ℕ) → StaysOrWipes (tables_said number said) (tables_said number (said_before s))) × OnlyWipesBetween (said_behind s) more all
