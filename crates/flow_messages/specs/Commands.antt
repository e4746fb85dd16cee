-- What messages do to flow tables, as a switch understands them.
use Rattle.std.specs.Prelude.{◌≡◌, ◌==◌, ◌&&◌, nat_lt, Bool, if◌then◌else◌, List, [], ◌∷◌, length, Option, Some, None}
use Rattle.of_match.specs.declared.entry.Command.{Command}
use Rattle.of_match.specs.declared.entry.Command.TheVariants.{Add, DeleteStrict, DeleteAll}
use Rattle.of_match.specs.declared.entry.Key.{Key}
use Rattle.of13_codec.specs.declared.flow_mod.FlowMod.{FlowMod}
use Rattle.of13_codec.specs.declared.message.Message.{Message}
use Rattle.of13_codec.specs.declared.message.Message.TheVariants as messages

-- ---- messages as commands of the flow tables (OpenFlow 1.3, 7.3.4.1)

-- the entry stays until it is deleted, and nothing else happens: no timeouts, no flags, no packet
abbrev pub is_lasting : FlowMod → Bool
is_lasting m = m.idle == 0 && m.hard == 0 && m.flags == 0 && m.buffer == 0xffffffff

-- what is deleted isn't narrowed by cookie, output port or group
abbrev pub is_whole : FlowMod → Bool
is_whole m = m.cookie_mask == 0 && m.out_port == 0xffffffff && m.out_group == 0xffffffff

-- it names one table: 0xff stands for all of them, and of these a delete alone may speak (OFPTT_ALL)
abbrev pub is_of_one_table : FlowMod → Bool
is_of_one_table m = nat_lt m.table 0xff

abbrev pub key_in : FlowMod → Key
key_in m = record { table = m.table; priority = m.priority; fields = m.fields }

-- OFPFC_ADD, OFPFC_DELETE of everything in all tables, and OFPFC_DELETE_STRICT in one table
abbrev pub command_in : FlowMod → Option Command
command_in m =
    if m.command == 0 && is_of_one_table m && is_lasting m then Some (Add (record { key = key_in m; instrs = m.instrs }))
    else if m.command == 3 && m.table == 0xff && length m.fields == 0 && is_whole m then Some DeleteAll
    else if m.command == 4 && is_of_one_table m && is_whole m then Some (DeleteStrict (key_in m))
    else None

-- Messages say these lists of commands, each with a barrier behind it (7.3.8).
pub data Says : List Message → List (List Command) → Type 0 where
  nothing : Says [] []
  barrier : (more : List Message) (batches : List (List Command)) → Says more batches → Says (messages.BarrierRequest ∷ more) ([] ∷ batches)
  command : (m : FlowMod) (c : Command) (more : List Message) (batch : List Command) (batches : List (List Command)) → command_in m ≡ Some c → Says more (batch ∷ batches) → Says (messages.FlowMod m ∷ more) ((c ∷ batch) ∷ batches)
