-- The messages that change flow tables (FLOW_MOD; OpenFlow 1.3, 7.3.4.1).
use Rattle.std.specs.Prelude.{ℕ, List, []}
use Rattle.net_base.specs.declared.field.Field.{Field}
use Rattle.of_match.specs.declared.action.Instr.{Instr}
use Rattle.of_match.specs.declared.entry.Command.{Command}
use Rattle.of_match.specs.declared.entry.Command.TheVariants.{Add, DeleteStrict, DeleteAll}
use Rattle.of_match.specs.declared.entry.Entry.{Entry}
use Rattle.of_match.specs.declared.entry.Key.{Key}
use Rattle.of13_codec.specs.declared.message.Message.{Message}
use Rattle.of13_codec.specs.declared.message.Message.TheVariants as messages
use Rattle.flow_messages.specs.declared.messages.TheConstants.{COOKIE}

-- a FLOW_MOD of this controller: no cookie mask, no timeouts, no buffered packet, any port,
-- any group and no flags
abbrev pub flow_mod : (cookie table command priority : ℕ) → List Field → List Instr → Message
flow_mod cookie table command priority fields instrs = messages.FlowMod (record {
  cookie = cookie;
  cookie_mask = 0;
  table = table;
  command = command;
  idle = 0;
  hard = 0;
  priority = priority;
  buffer = 0xffffffff;
  out_port = 0xffffffff;
  out_group = 0xffffffff;
  flags = 0;
  fields = fields;
  instrs = instrs;
})

-- an entry is added (command OFPFC_ADD) under the cookie of this controller
abbrev pub add : Entry → Message
add e = flow_mod COOKIE e.key.table 0 e.key.priority e.key.fields e.instrs

-- every entry of every table is deleted (OFPFC_DELETE, OFPTT_ALL)
abbrev pub delete_all : Message
delete_all = flow_mod 0 0xff 3 0 [] []

-- the entry of a key is deleted (OFPFC_DELETE_STRICT)
abbrev pub delete_strict : Key → Message
delete_strict key = flow_mod 0 key.table 4 key.priority key.fields []

-- the message of a command
abbrev pub command_message : Command → Message
command_message (Add e) = add e
command_message (DeleteStrict key) = delete_strict key
command_message DeleteAll = delete_all
