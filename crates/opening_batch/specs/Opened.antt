-- What the bytes of an opening batch do to a switch that gets them.
use Rattle.std.specs.Prelude.{◌≡◌, ℕ, ◌<◌, ◌^◌, List, [], ◌∷◌, ◌++◌, Some}
use Rattle.conf_types.specs.declared.datapath.Dp.{Dp}
use Rattle.conf_types.specs.Configuration.{Configuration, dp_with}
use Rattle.of_match.specs.declared.entry.Command.{Command}
use Rattle.of_match.specs.declared.entry.Entry.{Entry}
use Rattle.of_match.specs.declared.packet.Packet.{Packet}
use Rattle.of_match.specs.Settled.{SettlesInTurn}
use Rattle.of_match.specs.Shaped.{IsShaped}
use Rattle.packet_way.specs.Description.{sends}
use Rattle.law_runs.specs.Runs.{SendsJust}
use Rattle.cold_start.specs.Cold.{cold}
use Rattle.of_wire.specs.Grammar.{Then}
use Rattle.of13_codec.specs.Messages.{written}
use Rattle.of13_codec.specs.Spelling.{Spells}
use Rattle.of13_codec.specs.declared.message.Message.{Message}
use Rattle.flow_messages.specs.Commands.{Says}
use Rattle.opening_batch.specs.Opening.{nothing_learned}
use Rattle.opening_batch.specs.Messages.{next_xid}

-- messages in a row, with transaction ids that count up
abbrev pub written_from : ℕ → List Message → List ℕ
written_from xid [] = []
written_from xid (m ∷ more) = written m xid ++ written_from (next_xid xid) more

-- bytes spell messages in a row, frame by frame, with transaction ids that count up: the standard's
-- spelling, which allows anything where a receiver ignores it
abbrev pub SpellAll : ℕ → List Message → List ℕ → Type 0
SpellAll xid [] bytes = bytes ≡ []
SpellAll xid (m ∷ more) bytes = Then (Spells m xid) (SpellAll (next_xid xid) more) bytes

-- ---- a switch that gets the batch

-- The batch opens the datapath of a name that a configuration has: whatever a switch held that keeps the
-- barrier rule, behind the last barrier it holds exactly the cold start. These tables send every packet, by
-- every port, exactly as the configuration describes, up to order, whichever of several best entries the
-- switch takes.
pub record Opens (conf : Configuration) (dp batch : List ℕ) : Type 0 where
  pub datapath : Dp
  pub messages : List Message
  pub commands : List (List Command)
  pub is_dp : dp_with conf.dps datapath.id ≡ Some datapath
  pub named : datapath.name ≡ dp
  pub sent : batch ≡ written_from 1 messages
  pub spelled : SpellAll 1 messages batch
  pub said : Says messages commands
  pub holds : (held settled : List Entry) → SettlesInTurn held commands settled → settled ≡ cold conf (nothing_learned conf) datapath
  pub goes : (port : ℕ) (p : Packet) → port < 2 ^ 32 → IsShaped p
      → SendsJust (cold conf (nothing_learned conf) datapath) port 0 p (sends conf (nothing_learned conf) datapath.id port p)
