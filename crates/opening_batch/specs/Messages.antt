-- The batch that opens a datapath, in the messages of OpenFlow 1.3.
use Rattle.std.specs.Prelude.{ℕ, ◌+◌, ◌==◌, if◌then◌else◌, List, [], ◌∷◌, ◌++◌}
use Rattle.of_match.specs.declared.entry.Entry.{Entry}
use Rattle.of13_codec.specs.Messages.{written}
use Rattle.of13_codec.specs.declared.message.Message.TheVariants as messages
use Rattle.flow_messages.specs.Messages.{add, delete_all}

-- the transaction id behind another: they count up, and 0 is left out
abbrev pub next_xid : ℕ → ℕ
next_xid xid = if xid == 0xffffffff then 1 else xid + 1

-- one add for each entry, and the transaction id behind the last
abbrev pub adds : ℕ → List Entry → List ℕ
adds xid [] = []
adds xid (e ∷ es) = written (add e) xid ++ adds (next_xid xid) es

abbrev pub xid_after : ℕ → List Entry → ℕ
xid_after xid [] = xid
xid_after xid (e ∷ es) = xid_after (next_xid xid) es

-- what opens a datapath: its tables are wiped, and behind a barrier its entries are added, with a
-- barrier at the end
abbrev pub opening : List Entry → List ℕ
opening es = written delete_all 1 ++ written messages.BarrierRequest 2 ++ adds 3 es ++ written messages.BarrierRequest (xid_after 3 es)
