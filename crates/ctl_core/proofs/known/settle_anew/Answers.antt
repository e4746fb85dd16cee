use Rattle.std.proofs.Common.{sym, subst}
use Rattle.ctl_world.specs.World.{World}
use Rattle.ctl_core.specs.Found.{Bounds}
use Rattle.ctl_core.proofs.Rests.{current_states}
use Rattle.ctl_core.proofs.Settled.{settle_bounds}
use Rattle.ctl_core.proofs.known.settle_anew.Goals as goal

pub returns-clause-rests : goal.returns-clause-rests
returns-clause-rests g c = record {
  sound = c.in_ok-settle.ensures.sound;
  in_order = c.in_ok-settle.ensures.in_order;
  held = c.in_ok-settle.ensures.held;
  follow = c.in_ok-settle.ensures.follow;
  states = current_states c.settle.new.world c.in_ok-settle.ensures.sound c.settle.new.plans c.in_ok-settle.ensures.current;
  until = c.until_behind-known.ensures.bound;
  rests = c.until_behind-known.ensures.rests c.in_ok-settle.ensures.rests;
}

pub until_behind-known-requires : goal.until_behind-known-requires
until_behind-known-requires g c =
    let w = c.args.known.now.world in
    subst (λ (v : World). Bounds c.args.ends c.args.known.now.until v) (sym c.in_ok-settle.ensures.settled) (settle_bounds c.args.ends c.args.known.now.until w c.requires.bounds)
