use Rattle.opening_batch.proofs.Nothing.{nothing_valid}
use Rattle.opening_batch.proofs.opening.first_entries.Goals as goal

pub cold-requires : goal.cold-requires
cold-requires g c =
    rw (c.new-running.ensures, c.in_ok-ups.ensures, c.new-hosts.ensures, c.as_slice.ensures, c.dps.ensures.lists)
    (nothing_valid c.args.conf.now c.dps.ensures.valid)
