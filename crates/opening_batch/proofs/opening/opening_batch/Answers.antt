use Rattle.std.proofs.Common.{sym}
use Rattle.opening_batch.proofs.Nothing.{called_is}
use Rattle.opening_batch.proofs.opening.opening_batch.Goals as goal

pub open_dp-requires : goal.open_dp-requires
open_dp-requires g c =
    let called = rw (c.as_slice.ensures, c.dps.ensures.lists) at c.in-Some.ensures in
    (called_is c.args.conf.now c.dps.ensures.valid c.in-Some.dp.now c.args.dp.now (sym called)).0
