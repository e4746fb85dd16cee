use Rattle.std.proofs.Common.{◌+◌, ◌≤◌, ◌<◌, [], length, arith}
use Rattle.of_wire.proofs.Many.{starts, is_done, is_some, is_none}
use Rattle.of13_codec.specs.Decoding.{item_step, items_at}
use Rattle.of13_codec.proofs.ItemLaws.{loop_ends, loop_goes}
use Rattle.of13_codec.proofs.multipart.read_items.Goals as goal

pub loop-rest-init : goal.loop-rest-init
unfolding items_at
loop-rest-init g c = (omega arith, 16, rw c.new-items.ensures (starts (item_step g.T.Item.SIZE g.T.Item.of c.args.past) [] 16 c.args.bytes.now))

pub returns-then-rest-SIZE-clause-exact : goal.returns-then-rest-SIZE-clause-exact
returns-then-rest-SIZE-clause-exact g c =
    let few : length c.loop-rest.rest.now < g.T.Item.SIZE = omega (arith, c.if-rest-SIZE.true, c.SIZE.ensures) in
    loop_ends g.T.Item.SIZE g.T.Item.of c.args.past (items_at g.T.Item.SIZE g.T.Item.of c.args.past c.args.bytes.now) c.loop-rest.items c.loop-rest.invariant.1 c.loop-rest.rest.now
    (is_some c.loop-rest.rest.now c.loop-rest-test.ensures) few c.loop-rest.invariant.2

pub loop-rest-preserved : goal.loop-rest-preserved
loop-rest-preserved g c =
    let at = c.loop-rest.invariant.1 in
    let room : g.T.Item.SIZE ≤ length c.loop-rest.rest.now = omega (arith, c.if-rest-SIZE.false, c.SIZE.ensures) in (
      omega (arith, c.loop-rest.invariant.0, c.split_at.ensures.back_len),
      at + g.T.Item.SIZE,
      rw (c.in_ok-push.ensures.ok, c.in_ok-from_bytes.ensures, c.split_at.ensures.back, c.SIZE-in-loop-rest.ensures)
          (loop_goes g.T.Item.SIZE g.T.Item.of c.args.past (items_at g.T.Item.SIZE g.T.Item.of c.args.past c.args.bytes.now) c.loop-rest.items at c.loop-rest.rest.now
          (is_some c.loop-rest.rest.now c.loop-rest-test.ensures) c.requires room c.loop-rest.invariant.2),
    )

pub returns-clause-exact : goal.returns-clause-exact
returns-clause-exact g c =
    is_done (item_step g.T.Item.SIZE g.T.Item.of c.args.past) (items_at g.T.Item.SIZE g.T.Item.of c.args.past c.args.bytes.now) c.loop-rest.items c.loop-rest.invariant.1 c.loop-rest.rest.now
    (is_none c.loop-rest.rest.now c.loop-rest-test.ensures) c.loop-rest.invariant.2
