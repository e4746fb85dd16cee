use Rattle.std.proofs.Common.{[], List, ℕ, take, refl, ◌∙◌, ap}
use Rattle.fg_outside.specs.Wrote.{appended}
use Rattle.link_hub.proofs.LinkLemmas.{sends_then, sends_front}
use Rattle.link_hub.proofs.live.Live.flush.Goals as goal

pub loop-self-preserved : goal.loop-self-preserved
loop-self-preserved g c =
    let it = g.L.Link in
    let old = c.loop-self.self in
    let e = c.in-Some.ensures in
    record {
      sends =
          sends_then it [] c.args.self.now old _ c.loop-self.invariant.sends
          (sends_front it c.in-Some.count old _ c.take_front.ensures
          (e.gave ∙ ap (λ (s : List ℕ). appended (it.wrote old.link) (take c.in-Some.count s)) c.as_slice.ensures) refl e.faults e.unwritten);
      unread = record {
        left = e.left ∙ c.loop-self.invariant.unread.left;
        unread = e.unread ∙ c.loop-self.invariant.unread.unread;
      };
    }
