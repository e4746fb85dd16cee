use Rattle.std.proofs.Common.{◌≡◌}
use Rattle.std.specs.Vec.Iter.{into_iter_len}
use Rattle.fg_links.specs.Stories.{fitting}
use Rattle.fg_links.specs.HubInMemory.{turns_of, story_of, is_spent, plan_of}
use Rattle.fg_links.proofs.mem_hub.HubInMemory.take_turn.Given as goal

abbrev pub invariant-loop-turn : goal.invariant-loop-turn
invariant-loop-turn g l = record {
  turns : fitting (story_of l.initial.self) (turns_of l.self) ≡ fitting (story_of l.initial.self) (turns_of l.initial.self);
  story : story_of l.self ≡ story_of l.initial.self;
  spent : is_spent l.self ≡ is_spent l.initial.self;
  plan : plan_of l.self ≡ plan_of l.initial.self;
}

abbrev pub decreases-loop-turn : goal.decreases-loop-turn
decreases-loop-turn g l = into_iter_len l.self.turns
