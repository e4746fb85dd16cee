use Rattle.std.proofs.Common.{◌≡◌, ◌<◌, length, List, take, get_or, sym, subst, inl, inr, ⊎_elim, arith}
use Rattle.std.specs.Prelude.{Contains}
use Rattle.std.proofs.lemmas.List.{take_all}
use Rattle.stack_paths.specs.declared.hops.Hop.{Hop}
use Rattle.stack_paths.specs.Trees.{IsEndOf}
use Rattle.stack_paths.proofs.Prefix.{contains_later, contains_last, contains_cases}
use Rattle.stack_paths.proofs.tree.ends_at.Goals as goal

pub loop-hop-preserved : goal.loop-hop-preserved
loop-hop-preserved c = λ p.
    let uplinks = c.args.uplinks.now in
    let place = c.args.place in
    let old = c.loop-hop.ports.items in
    let i = c.loop-hop.hop-index in
    let hop = c.hop-item.result in
    let within : i < length uplinks = omega arith in
    let is : hop ≡ get_or uplinks i hop = c.hop-item.is in
    let now = c.in_ok-add_ends.ensures p in
    let before = c.loop-hop.invariant p in (
      λ in_new. ⊎_elim
          (λ (x : Contains old p). let e = before.0 x in (e.0, contains_later uplinks i hop e.0 within is e.1, e.2))
          (λ (x : IsEndOf hop place p). (hop, contains_last uplinks i hop within is, x))
          (now.0 in_new),
      λ e. ⊎_elim
          (λ (x : Contains (take i uplinks) e.0). now.1 (inl (before.1 (e.0, x, e.2))))
          (λ (x : hop ≡ e.0). now.1 (inr (subst (λ (h : Hop). IsEndOf h place p) (sym x) e.2)))
          (contains_cases uplinks i hop e.0 within is e.1),
    )

pub returns : goal.returns
returns c = λ p.
    let uplinks = c.args.uplinks.now in
    let whole = take_all c.loop-hop.hop-index uplinks (omega arith) in
    let before = c.loop-hop.invariant p in (
      λ x. let e = before.0 x in (e.0, subst (λ (hs : List Hop). Contains hs e.0) whole e.1, e.2),
      λ e. before.1 (e.0, subst (λ (hs : List Hop). Contains hs e.0) (sym whole) e.1, e.2),
    )
