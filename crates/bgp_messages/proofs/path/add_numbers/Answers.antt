use Rattle.std.proofs.Common.{◌++◌, ◌∷◌, [], ℕ, List, sym, ap, ◌∙◌, append_assoc}
use Rattle.bgp_messages.specs.Paths.{numbers_in}
use Rattle.bgp_messages.proofs.Paths.{numbers_more}
use Rattle.bgp_messages.proofs.path.add_numbers.Goals as goal

pub loop-i-preserved : goal.loop-i-preserved
loop-i-preserved c =
    let bytes = c.args.bytes.now in
    let i = c.loop-i.i in
    let was = c.args.numbers.now in
    c.in_ok-push.ensures.ok ∙ ap (λ l. l ++ c.u16_at.result ∷ []) c.loop-i.invariant ∙ append_assoc was (numbers_in i bytes) (c.u16_at.result ∷ [])
    ∙ ap (λ (l : List ℕ). was ++ l) (ap (λ x. numbers_in i bytes ++ x ∷ []) c.u16_at.ensures ∙ sym (numbers_more i bytes))
