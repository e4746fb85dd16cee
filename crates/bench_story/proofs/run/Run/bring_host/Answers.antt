use Rattle.std.proofs.Common.{◌≡◌, ◌∙◌, ℕ, ◌*◌, subst, arith}
use Rattle.std.proofs.lemmas.Grind.{common_steps}
use Rattle.bench_story.specs.Story.{StandsFor, shows}
use Rattle.bench_story.proofs.Runs.{has_come, on_ok, same_said}
use Rattle.bench_story.proofs.run.Run.bring_host.Goals as goal

pub returns : goal.returns
returns g c = λ k stands.
    let is : c.from.result ≡ c.args.host = grind (arith, common_steps) in
    let at = subst (λ (m : ℕ). StandsFor c.show.new.self (shows (10 * m) k)) is (c.in_ok-show.ensures k stands) in
    let came = same_said _ _ _ _ c.in_ok-make_packet_in.ensures (c.in_ok-say.ensures _ at) in
    on_ok c.hear.result (has_come _ c.args.host k) (c.hear.ensures _ came)
