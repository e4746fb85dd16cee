use Rattle.bench_story.proofs.Runs.{is_opened, on_ok, opens, same_said}
use Rattle.bench_story.proofs.run.Run.set_up.Goals as goal

pub returns : goal.returns
returns g c = λ stands.
    let first = opens _ _ stands.owed (c.in_ok-take.ensures _ stands.knows) in
    let second = same_said _ _ _ _ c.in_ok-make_hello.ensures (c.in_ok-say.ensures _ first) in
    let third = same_said _ _ _ _ c.in_ok-make_features.ensures (c.in_ok-say-2.ensures _ second) in
    let fourth = same_said _ _ _ _ c.in_ok-make_port_reply.ensures (c.in_ok-say-3.ensures _ third) in
    on_ok c.hear-2.result (is_opened _) (c.hear-2.ensures _ (c.in_ok-hear.ensures _ fourth))
