use Rattle.std.proofs.Common.{◌≡◌, ◌<◌, List, [], ◌∷◌, ◌++◌, length, take, sym, ap, ◌∙◌, subst, arith}
use Rattle.std.proofs.lemmas.List.{take_more}
use Rattle.fg_outside.specs.declared.hub.Happening.{Happening}
use Rattle.gauge_poll.specs.Monitoring.{Monitor, behind}
use Rattle.gauge_poll.specs.StandsFor.{StandsFor}
use Rattle.law_turns.proofs.Watched.{behind_then}
use Rattle.law_turns.proofs.stories.watch_turns.Goals as goal

pub loop-what-preserved : goal.loop-what-preserved
loop-what-preserved c = λ m was.
    let story = c.args.story.now in
    let i = c.loop-what.what-index in
    let what = c.what-item.result in
    let within : i < length story = omega arith in
    let front = take_more story i what within ∙ ap (λ (one : Happening). take i story ++ one ∷ []) (sym c.what-item.is) in
    subst (λ (k : Monitor). StandsFor c.turn.new.self k) (sym (behind_then m (take i story) what) ∙ ap (behind m) (sym front))
    (c.in_ok-turn.ensures.known (behind m (take i story)) (c.loop-what.invariant m was))
