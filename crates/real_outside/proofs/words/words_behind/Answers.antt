use Rattle.std.proofs.Common.{map, drop, ap, ◌∙◌}
use Rattle.std.specs.Prelude.{string_bytes}
use Rattle.std.proofs.lemmas.Result.{IfOk-weaker}
use Rattle.real_outside.proofs.words.words_behind.Goals as goal

pub returns : goal.returns
returns c =
    let ran = c.in_ok-args.ensures.ran in
    IfOk-weaker c.behind_name.result _ _ (λ words h. (ran.0, ran.1, h ∙ ap (λ all. map string_bytes (drop 1 all)) (c.as_slice.ensures.value ∙ ran.2.0))) c.behind_name.ensures
