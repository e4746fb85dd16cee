use Rattle.std.proofs.Common.{◌≡◌}
use Rattle.std.proofs.lemmas.Result.{on_ok_weaker}
use Rattle.neighbour_resolve.specs.Asks.{in_order}
use Rattle.ctl_world.specs.World.{running}
use Rattle.ctl_settle.proofs.Following.{all_follow_on, current_follow}
use Rattle.ctl_settle.proofs.Brought.{all_in_order, asked_brought, asked_in_order}
use Rattle.ctl_settle.proofs.settling.settle.Goals as goal

pub say_batches-requires-clause-in_order : goal.say_batches-requires-clause-in_order
say_batches-requires-clause-in_order g c = asked_in_order c.args.world.now _ c.in_ok-ask_all.ensures.asked c.requires.in_order

pub say_batches-requires-clause-brought : goal.say_batches-requires-clause-brought
say_batches-requires-clause-brought g c =
    asked_brought c.args.world.now _ c.in_ok-ask_all.ensures.asked c.requires.in_order c.args.plans.now _ c.requires.fit c.in_ok-bring.ensures.brought

pub say_batches-requires-clause-run : goal.say_batches-requires-clause-run
say_batches-requires-clause-run g c =
    let w = c.ask_all.new.world in
    let dps : c.as_slice-2.result.now ≡ in_order (running w) = cc (c.in_ok-dps.ensures, c.in_ok-running.ensures) in
    all_in_order w c.as_slice-2.result.now dps

pub bring-requires-clause-in_order : goal.bring-requires-clause-in_order
bring-requires-clause-in_order g c = asked_in_order c.args.world.now _ c.in_ok-ask_all.ensures.asked c.requires.in_order

pub bring-requires-clause-follow : goal.bring-requires-clause-follow
bring-requires-clause-follow g c =
    all_follow_on c.args.world.now c.ask_all.new.world c.args.touched.now c.ask_all.new.touched c.in_ok-ask_all.ensures.goes c.args.plans.now c.requires.follow

pub returns-clause-follow : goal.returns-clause-follow
returns-clause-follow g c = on_ok_weaker c.say_batches.result (λ brought. current_follow c.say_batches.new.world c.say_batches.new.plans brought.current) c.say_batches.ensures.brought
