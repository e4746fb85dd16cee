use Rattle.std.proofs.Common.{ℕ, ◌≤◌, length}
use Rattle.of_wire.proofs.Many.{Left}
use Rattle.of13_codec.specs.Decoding.{item_step, items_at}
use Rattle.of13_codec.proofs.multipart.read_items.Given as goal

abbrev pub invariant-loop-rest : goal.invariant-loop-rest
invariant-loop-rest g l = (length l.rest ≤ length l.bytes) × (at : ℕ) × Left (item_step g.T.Item.SIZE g.T.Item.of l.past) (items_at g.T.Item.SIZE g.T.Item.of l.past l.bytes) l.items at l.rest

abbrev pub decreases-loop-rest : goal.decreases-loop-rest
decreases-loop-rest g l = length l.rest
