use Rattle.std.proofs.Common.{◌≡◌, ◌<◌, ◌≤◌, ◌++◌, ◌∷◌, [], ℕ, List, Vec, Global, sym, refl, subst, ap, ◌∙◌, ⊎_elim, arith}
use Rattle.std.specs.Prelude.{Contains}
use Rattle.std.proofs.lemmas.Bool.{cases_lt}
use Rattle.std.proofs.lemmas.List.Elements.{Contains-append_left, Contains-push, Contains-push_cases}
use Rattle.std.proofs.lemmas.Option.{slice_get_within, same_Some, none-some}
use Rattle.stack_paths.specs.declared.hops.Hop.{Hop}
use Rattle.stack_paths.specs.Trees.{UplinkAt}
use Rattle.stack_paths.proofs.tree.uplinks_of.Goals as goal
use Rattle.stack_paths.proofs.tree.uplinks_of.Goals.{in-Some+in_ok-push, in_default}

pub loop-place-preserved : goal.loop-place-preserved
loop-place-preserved c =
    let ways = c.args.ways.now in
    let roots = c.args.roots.now in
    let place = c.loop-place.place in
    let items = c.loop-place.uplinks.items in
    let before = c.loop-place.invariant in
    elim c.match-uplink_at.branch [
      | in-Some+in_ok-push w ↦
          let hop = w.in-Some.hop in
          let made : c.match-uplink_at.uplinks.items ≡ items ++ hop ∷ [] = ap (λ (v : Vec Hop Global). v.items) w.uplinks-is ∙ w.in_ok-push.ensures.items in
          let uplink : UplinkAt ways roots place hop = (w.in-Some.ensures hop).0 refl in
          record {
            sound = λ h in_new. ⊎_elim
                (λ (old : Contains items h). before.sound h old)
                (λ (same : hop ≡ h). (place, subst (λ (x : Hop). UplinkAt ways roots place x) same uplink))
                (Contains-push_cases items hop h (subst (λ (xs : List Hop). Contains xs h) made in_new));
            complete = λ i low h u. subst (λ (xs : List Hop). Contains xs h) (sym made) (⊎_elim
                (λ (lower : i < place). Contains-append_left items (hop ∷ []) h (before.complete i lower h u))
                (λ (high : place ≤ i).
                let here : i ≡ place = omega (arith, high, low) in
                let same : hop ≡ h = same_Some hop h ((w.in-Some.ensures h).1 (subst (λ (k : ℕ). UplinkAt ways roots k h) here u)) in
                subst (λ (x : Hop). Contains (items ++ hop ∷ []) x) same (Contains-push items hop))
                (cases_lt i place));
          }
      | in_default w ↦
          let same_list : c.match-uplink_at.uplinks.items ≡ items = ap (λ (v : Vec Hop Global). v.items) w.uplinks-is in
          record {
            sound = λ h in_new. before.sound h (subst (λ (xs : List Hop). Contains xs h) same_list in_new);
            complete = λ i low h u. subst (λ (xs : List Hop). Contains xs h) (sym same_list) (⊎_elim
                (λ (lower : i < place). before.complete i lower h u)
                (λ (high : place ≤ i).
                let here : i ≡ place = omega (arith, high, low) in
                absurd (none-some h ((w.in_default.ensures h).1 (subst (λ (k : ℕ). UplinkAt ways roots k h) here u))))
                (cases_lt i place));
          }
    ]

pub returns : goal.returns
returns c = record {
  sound = c.loop-place.invariant.sound;
  complete = λ i h u. c.loop-place.invariant.complete i (omega (arith, slice_get_within c.args.roots.now i u.root u.is_root)) h u;
}
