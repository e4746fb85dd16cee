use Rattle.std.proofs.Common.{[], length}
use Rattle.link_hub.specs.Links.{Sends, IsUnread}
use Rattle.link_hub.proofs.live.Live.flush.Given as goal

abbrev pub invariant-loop-self : goal.invariant-loop-self
invariant-loop-self g l = record {
  sends : Sends g.L.Link [] l.initial.self l.self;
  unread : IsUnread g.L.Link l.initial.self l.self;
}

abbrev pub decreases-loop-self : goal.decreases-loop-self
decreases-loop-self g l = length l.self.unsent
