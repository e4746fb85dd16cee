use Rattle.std.proofs.Common.{refl}
use Rattle.switch_session.proofs.FrameLemmas.{taken_at}
use Rattle.switch_session.proofs.stream.Stream.next.Goals as goal

pub returns-in-Whole : goal.returns-in-Whole
returns-in-Whole c =
    let front = c.in-Whole.ensures in
    let taken = taken_at _ _ _ _ c.self.inside.start c.in-Whole.len c.deref.ensures.value c.deref-in-Whole.ensures.value c.self.view_is front.0 front.1 front.2 in
    ((refl, λ _. tt, taken), record { rest = tt; short = tt })
