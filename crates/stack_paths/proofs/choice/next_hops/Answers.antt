use Rattle.std.proofs.Common.{◌≡◌, ◌<◌, length, None, get_or, sym, ◌∙◌, subst, arith}
use Rattle.std.proofs.lemmas.List.{get_or_read}
use Rattle.stack_paths.specs.declared.hops.Hop.{Hop}
use Rattle.stack_paths.specs.Hops.{answer_at, ComesBefore}
use Rattle.stack_paths.proofs.Choices.{AreFirst-skip, AreFirst-take, some_and, if_some}
use Rattle.stack_paths.proofs.choice.next_hops.Goals as goal
use Rattle.stack_paths.proofs.choice.next_hops.Goals.{then-is_next, else-is_next}

pub loop-hop-preserved : goal.loop-hop-preserved
loop-hop-preserved c =
    let hops = c.args.hops.now in
    let distances = c.args.distances.now in
    let best = c.loop-hop.best in
    let count = c.args.count in
    let i = c.loop-hop.hop-index in
    let hop = c.hop-item.result in
    let within : i < length hops = omega arith in
    let is : hop ≡ get_or hops i hop = c.hop-item.is in
    let so_far = c.loop-hop.invariant.first in
    let places = subst (λ (h : Hop). (h.from < count) × (h.to < count)) (sym is) (c.requires.places i hop within) in
    let room : hop.from < length best.items = omega (arith, places, c.loop-hop.invariant.len, best.ok.0) in
    let chosen : c.index.result.now ≡ answer_at best.items hop.from = get_or_read best.items hop.from c.index.result.now room c.index.ensures None in
    elim c.if-is_next.branch [
      | then-is_next w ↦
          rw w.best-is (record {
            len = c.loop-hop.invariant.len;
            first = AreFirst-take hops distances best.items i hop within is so_far room w.if-is_next.ensures.0 (λ g e. if_some c.index.result.now (λ x. ComesBefore hop x) w.if-is_next.ensures.1 g (chosen ∙ e));
          })
      | else-is_next w ↦
          rw w.best-is (record {
            len = c.loop-hop.invariant.len;
            first = AreFirst-skip hops distances best.items i hop within is so_far (λ down. let g = some_and c.index.result.now (λ x. ComesBefore x hop) (w.if-is_next.ensures down) in (g.0, sym chosen ∙ g.1, g.2));
          })
    ]
