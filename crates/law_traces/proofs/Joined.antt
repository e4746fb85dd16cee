-- Which datapaths are joined.
use Rattle.std.proofs.Common.{◌≡◌, ◌==◌, ◌&&◌, ◌||◌, ◌⊎◌, inl, inr, ℕ, zero, suc, Bool, true, false, cond, List, [], ◌∷◌, Option, Some, None, find, is_some, refl, sym, ap, subst, ◌∙◌}
use Rattle.std.specs.Prelude.{◌↔◌, IsTrue, Contains}
use Rattle.std.specs.Option.{option_map}
use Rattle.std.proofs.lemmas.Bool.{and_parts, eqb-true, eq-eqb}
use Rattle.std.proofs.lemmas.Option.{none-some, same_Some}
use Rattle.net_base.specs.declared.numbers.DpId.{DpId}
use Rattle.net_base.specs.declared.stack.StackLink.{StackLink}
use Rattle.stack_paths.specs.Chosen.{hop_of, is_same_dp}
use Rattle.stack_paths.specs.Stack.{Stack, IsStack, IsNode, IsJoined, IsNextHop, IsDistance, Walk, HasLink, Joins}
use Rattle.stack_paths.proofs.ChosenHops.{next_hop_found, next_hop_here}
use Rattle.stack_paths.proofs.Finite.{contains_here, contains_there}
use Rattle.stack_paths.proofs.LawLemmas.{distance_exists, hop_exists}
use Rattle.conf_types.specs.declared.datapath.StackEnd.{StackEnd}
use Rattle.net_walk.specs.Arrivals.{is_at, other_end, far_end}
use Rattle.trace_story.specs.Ready.{is_joined}

one_holds : (x y : Bool) → (x || y) ≡ true → (x ≡ true) ⊎ (y ≡ true)
one_holds true y is = inl refl
one_holds false y is = inr is

same_dp : (d e : DpId) → is_same_dp d e ≡ true → d ≡ e
same_dp d e is = ap (λ (n : ℕ). let x : DpId = record { 0 = n } in x) (eqb-true d.0 e.0 is)

-- ---- by a next hop, and by a walk

module _ (s : Stack) (is : IsStack s) (from to : DpId) (node : IsNode s from) where
  by_hop : (o : Option ℕ) → hop_of s from to ≡ o → is_some o ≡ true → IsJoined s from to
  by_hop (Some p) found some =
      let hop = next_hop_found s is from to p found in
      let nearer = hop.2.nearer in
      (suc nearer.rest, nearer.from_here.walk)
  by_hop None found some = absurd cc

  pub walk_between : is_joined s from to ≡ true → IsJoined s from to
  walk_between joined = elim (one_holds (is_same_dp from to) (is_some (hop_of s from to)) joined) [
    | inl same ↦ (zero, (node, same_dp from to same))
    | inr some ↦ by_hop (hop_of s from to) refl some
  ]

  far : (n : ℕ) → IsDistance s from to n → is_joined s from to ≡ true
  far zero near = let same = (near.walk).1 in rw same (ap (λ b. b || is_some (hop_of s to to)) (eq-eqb to.0 to.0 refl))
  far (suc n) away =
      let hop = hop_exists s is from to n away in
      let found = next_hop_here s is from to hop.0 (hop.1, hop.2, hop.3) in
      rw found (by (is_same_dp from to))
    where
      by : (b : Bool) → (b || true) ≡ true
      by true = refl
      by false = refl

  pub joined_by_walk : IsJoined s from to → is_joined s from to ≡ true
  joined_by_walk joined = let distance = distance_exists s from to joined in far distance.0 distance.1

-- ---- over a link

module _ (id : DpId) (port : ℕ) where
  one_link : (l : StackLink) (there : StackEnd) (near : Bool) → (l.a.0 == id.0 && l.a_port == port) ≡ near → (near || (l.b.0 == id.0 && l.b_port == port)) ≡ true
      → (let b_end : StackEnd = record { dp = l.b; port = l.b_port } in let a_end : StackEnd = record { dp = l.a; port = l.a_port } in cond near b_end a_end) ≡ there → Joins l id port there.dp there.port
  one_link l there true here either leads =
      let parts = and_parts (l.a.0 == id.0) (l.a_port == port) here in
      inl (same_dp l.a id parts.0, eqb-true l.a_port port parts.1, ap (λ (e : StackEnd). e.dp) leads, ap (λ (e : StackEnd). e.port) leads)
  one_link l there false here either leads =
      let parts = and_parts (l.b.0 == id.0) (l.b_port == port) either in
      inr (same_dp l.b id parts.0, eqb-true l.b_port port parts.1, ap (λ (e : StackEnd). e.dp) leads, ap (λ (e : StackEnd). e.port) leads)

  pub far_link : (ls : List StackLink) (there : StackEnd) → far_end ls id port ≡ Some there → (l : StackLink) × Contains ls l × Joins l id port there.dp there.port
  far_link [] there e = absurd (none-some there e)
  far_link (l ∷ ls) there e = by (is_at id port l) refl e (λ e. far_link ls there e)
    where
      by : (here : Bool) → is_at id port l ≡ here → option_map (other_end id port) (cond here (Some l) (find (is_at id port) ls)) ≡ Some there
          → (far_end ls id port ≡ Some there → (m : StackLink) × Contains ls m × Joins m id port there.dp there.port)
          → (m : StackLink) × Contains (l ∷ ls) m × Joins m id port there.dp there.port
      by true is e later = (l, contains_here l ls, one_link l there (l.a.0 == id.0 && l.a_port == port) refl is (same_Some (other_end id port l) there e))
      by false is e later = let rest = later e in (rest.0, contains_there l rest.0 ls rest.1, rest.2)
