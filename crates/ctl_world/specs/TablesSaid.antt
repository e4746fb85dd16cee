-- What is said of a switch's tables.
use Rattle.std.specs.Prelude.{ℕ, ◌==◌, Bool, true, false, if◌then◌else◌, List, [], ◌∷◌, ◌++◌}
use Rattle.std.specs.List.{fold}
use Rattle.of13_codec.specs.declared.message.Message.{Message}
use Rattle.of13_codec.specs.declared.message.Message.TheVariants as messages
use Rattle.ctl_world.specs.declared.said.Said.{Said}
use Rattle.ctl_world.specs.declared.said.Said.TheVariants as said

-- it changes flow tables, or is the barrier that ends such changes (OpenFlow 1.3, 7.3.4.1 and 7.3.8)
abbrev pub is_of_tables : Message → Bool
is_of_tables (messages.FlowMod m) = true
is_of_tables messages.BarrierRequest = true
is_of_tables other = false

-- a HELLO begins a connection (7.5.1)
abbrev pub is_hello : Message → Bool
is_hello (messages.Hello version bitmap) = true
is_hello other = false

-- what was said of the tables on a connection, where this was said of them before and one thing more is said
abbrev pub said_more : (number : ℕ) → List (Message × ℕ) → Said → List (Message × ℕ)
said_more number before (said.Message conn m xid) =
    if conn == number then (if is_hello m then [] else if is_of_tables m then before ++ (m, xid) ∷ [] else before) else before
said_more number before (said.Closing conn cause) = before
said_more number before (said.Line text) = before

-- all of that in what was said, since the connection with this number was last opened: messages with their transaction ids
abbrev pub tables_said : (number : ℕ) → List Said → List (Message × ℕ)
tables_said number said = fold (said_more number) [] said
