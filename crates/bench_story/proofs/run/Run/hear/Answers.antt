use Rattle.std.proofs.Common.{◌≡◌, ◌∙◌, [], ◌++◌, refl, ap, arith}
use Rattle.std.proofs.lemmas.Grind.{common_steps}
use Rattle.bench_story.proofs.Runs.{heard, kept, on_ok}
use Rattle.bench_story.proofs.run.Run.hear.Goals as goal

pub returns : goal.returns
returns g c = λ k stands.
    let none : c.replace-piece.new.dest ≡ [] = grind (arith, common_steps) in
    let was : c.replace-piece.result ≡ c.args.self.now.owed = grind (arith, common_steps) in
    let piece = c.in_ok-append.ensures.ok ∙ ap (λ l. l ++ c.args.message.now) (was ∙ stands.owed) in
    on_ok c.take.result (heard _ c.args.message.now _ _ k none piece) (c.take.ensures k (kept c.args.self.now _ k refl refl stands.knows))
