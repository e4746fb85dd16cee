use Rattle.std.proofs.Common.{ℕ, map, subst, ◌∙◌}
use Rattle.std.proofs.lemmas.Result.{on_ok_weaker}
use Rattle.ctl_world.specs.declared.conns.Conn.{Conn}
use Rattle.ctl_world.specs.World.{World}
use Rattle.ctl_life.specs.Silence.{look_each, show}
use Rattle.gauge_poll.specs.Polls.{poll_due}
use Rattle.gauge_poll.specs.StandsFor.{Keeps}
use Rattle.gauge_poll.proofs.Keeping.{kept_by}
use Rattle.gauge_poll.proofs.Opens.{Within, look_each_within}
use Rattle.gauge_poll.proofs.turns.passed.Goals as goal

abbrev looked : ℕ → World → World
looked moment w = look_each (map (λ (c : Conn). c.number) w.conns) (show moment w)

looked_within : (moment : ℕ) (w : World) → Within (looked moment w) w
looked_within moment w n there = look_each_within (map (λ (c : Conn). c.number) w.conns) (show moment w) n there

pub returns : goal.returns
returns c =
    let moment = c.args.moment in
    let k = c.args.kept.now in
    on_ok_weaker c.poll_due.result
    (λ does m all. record {
      watchers = all.watchers;
      said = subst (λ ws. Keeps c.poll_due.new.known (poll_due 0 ws (record m.said { world = looked moment m.said.world }))) (c.as_slice.ensures ∙ all.watchers)
          (does (record m.said { world = looked moment m.said.world }) (kept_by (looked moment) (looked_within moment) k.known m.said c.look_after.new.world c.in_ok-look_after.ensures.looked all.said));
      lines = all.lines;
    })
    c.poll_due.ensures
