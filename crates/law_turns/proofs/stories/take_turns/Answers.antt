use Rattle.std.proofs.Common.{◌≡◌, ◌<◌, List, [], ◌∷◌, ◌++◌, Option, Some, length, take, sym, ap, ◌∙◌, arith}
use Rattle.std.proofs.lemmas.List.{take_more}
use Rattle.fg_outside.specs.declared.hub.Happening.{Happening}
use Rattle.ctl_core.specs.Story.{behind}
use Rattle.ctl_world.specs.World.{World}
use Rattle.law_turns.proofs.Reloaded.{behind_then}
use Rattle.law_turns.proofs.stories.take_turns.Goals as goal

pub loop-what-preserved : goal.loop-what-preserved
loop-what-preserved g c = λ w was.
    let story = c.args.story.now in
    let i = c.loop-what.what-index in
    let what = c.what-item.result in
    let within : i < length story = omega arith in
    let front = take_more story i what within ∙ ap (λ (one : Happening). take i story ++ one ∷ []) (sym c.what-item.is) in
    c.in_ok-turn.ensures.known (behind w (take i story)) (c.loop-what.invariant w was)
    ∙ ap (λ (v : World). Some v) (sym (behind_then w (take i story) what)) ∙ ap (λ (told : List Happening). Some (behind w told)) (sym front)
