-- Each connected part has a root.
use Rattle.std.proofs.Common.{◌≡◌, ℕ, zero, Option, Some, None, get_or, slice_get, refl, inl, inr, sym, ap, ◌∙◌, subst, arith}
use Rattle.std.specs.Prelude.{◌⊎◌, Contains}
use Rattle.std.proofs.lemmas.Bool.{cases_lt, cases_order}
use Rattle.std.proofs.lemmas.Option.{same_Some, none-some, slice_get-get_or}
use Rattle.net_base.specs.declared.numbers.DpId.{DpId}
use Rattle.net_base.specs.declared.stack.Node.{Node}
use Rattle.stack_paths.specs.Chosen.{distance_of}
use Rattle.stack_paths.specs.Stack.{Stack, IsAt, IsNode, IsStack, IsJoined, LessPriority, RanksFirst, GoesFirst, IsRoot}
use Rattle.stack_paths.proofs.ChosenWalks.{distance_found, distance_here}
use Rattle.stack_paths.proofs.Finite.{IsKnown, first_of_list}
use Rattle.stack_paths.proofs.LawLemmas.{distance_exists}
use Rattle.stack_paths.proofs.Places.{ids-at, ids-node, ids-within, place_same}
use Rattle.stack_paths.proofs.Walks.{walk_start}

less_total : (p q : Option ℕ) → LessPriority p q ⊎ ((p ≡ q) ⊎ LessPriority q p)
less_total (Some p) (Some q) = elim (cases_order p q) [ inl same ↦ inr (inl (ap Some same)) | inr (inl less) ↦ inl less | inr (inr more) ↦ inr (inr more) ]
less_total (Some p) None = inl tt
less_total None (Some q) = inr (inr tt)
less_total None None = inr (inl refl)

less_trans : (p q r : Option ℕ) → LessPriority p q → LessPriority q r → LessPriority p r
less_trans (Some p) (Some q) (Some r) x y = omega (arith, x, y)
less_trans (Some p) (Some q) None x y = tt
less_trans (Some p) None r x y = absurd y
less_trans None q r x y = absurd x

ranks_total : (p : Option ℕ) (i : ℕ) (q : Option ℕ) (j : ℕ) → RanksFirst p i q j ⊎ RanksFirst q j p i
ranks_total p i q j = elim (less_total p q) [
  | inl less ↦ inl (inl less)
  | inr (inl same) ↦ elim (cases_lt i j) [ inl before ↦ inl (inr (same, omega (arith, before))) | inr behind ↦ inr (inr (sym same, behind)) ]
  | inr (inr more) ↦ inr (inl more)
]

ranks_trans : (p q r : Option ℕ) (i j k : ℕ) → RanksFirst p i q j → RanksFirst q j r k → RanksFirst p i r k
ranks_trans p q r i j k (inl a) (inl b) = inl (less_trans p q r a b)
ranks_trans p q r i j k (inl a) (inr b) = inl (subst (LessPriority p) b.0 a)
ranks_trans p q r i j k (inr a) (inl b) = inl (subst (λ o. LessPriority o r) (sym a.0) b)
ranks_trans p q r i j k (inr a) (inr b) = let x = a.1 in let y = b.1 in inr (a.0 ∙ b.0, omega (arith, x, y))

module _ (s : Stack) (is : IsStack s) where
  goes_trans : (d e f : DpId) → GoesFirst s d e → GoesFirst s e f → GoesFirst s d f
  goes_trans d e f x y =
      let at_x : IsAt s x.j e = ids-node s.nodes x.j x.n x.at_j ∙ ap Some x.is_e in
      let at_y : IsAt s y.i e = ids-node s.nodes y.i y.m y.at_i ∙ ap Some y.is_d in
      let place : x.j ≡ y.i = place_same s is x.j y.i e at_x at_y in
      let same : x.n ≡ y.m = same_Some x.n y.m (sym x.at_j ∙ subst (λ k. slice_get s.nodes k ≡ Some y.m) (sym place) y.at_i) in
      let second : RanksFirst x.n.priority x.j y.n.priority y.j = subst (λ k. RanksFirst x.n.priority k y.n.priority y.j) (sym place) (subst (λ (m : Node). RanksFirst m.priority y.i y.n.priority y.j) (sym same) y.ranks) in
      record {
        i = x.i;
        j = y.j;
        m = x.m;
        n = y.n;
        at_i = x.at_i;
        at_j = y.at_j;
        is_d = x.is_d;
        is_e = y.is_e;
        ranks = ranks_trans x.m.priority x.n.priority y.n.priority x.i x.j y.j x.ranks second;
      }

  goes_total : (d e : DpId) → IsNode s d → IsNode s e → GoesFirst s d e ⊎ GoesFirst s e d
  goes_total d e (i, at_d) (j, at_e) =
      let x : Node = record { id = d; priority = None } in
      let m : Node = get_or s.nodes i x in
      let n : Node = get_or s.nodes j x in
      let at_m : slice_get s.nodes i ≡ Some m = slice_get-get_or s.nodes i x (ids-within s.nodes i d at_d) in
      let at_n : slice_get s.nodes j ≡ Some n = slice_get-get_or s.nodes j x (ids-within s.nodes j e at_e) in
      let is_d : m.id ≡ d = ids-at s.nodes i d at_d x in
      let is_e : n.id ≡ e = ids-at s.nodes j e at_e x in
      elim (ranks_total m.priority i n.priority j) [
        | inl first ↦ inl (record { i = i; j = j; m = m; n = n; at_i = at_m; at_j = at_n; is_d = is_d; is_e = is_e; ranks = first })
        | inr first ↦ inr (record { i = j; j = i; m = n; n = m; at_i = at_n; at_j = at_m; is_d = is_e; is_e = is_d; ranks = first })
      ]

  pub joined_known : (a b : DpId) → IsKnown (IsJoined s a b)
  joined_known a b = by (distance_of s a b) refl
    where
      by : (o : Option ℕ) → distance_of s a b ≡ o → IsKnown (IsJoined s a b)
      by None none = inr (λ joined. let far = distance_exists s a b joined in none-some far.0 (sym none ∙ distance_here s is a b far.0 far.1))
      by (Some n) some = inl (n, (distance_found s a b n some).walk)

  node_of : (e d : DpId) → IsJoined s e d → IsNode s e
  node_of e d (n, w) = walk_start s is n e d w

  pub root_exists : (d : DpId) → IsNode s d → (r : DpId) × IsRoot s d r
  root_exists d node = elim (first_of_list (λ (m : Node). IsJoined s m.id d) (λ m. joined_known m.id d) (λ (m n : Node). GoesFirst s m.id n.id) (λ m n x y. goes_total m.id n.id (node_of m.id d x) (node_of n.id d y)) (λ l m n. goes_trans l.id m.id n.id) s.nodes) [
    | inl best ↦ (
      best.0.id,
      record {
        joined = best.2;
        first = λ e joined.
            let n = node_in e (node_of e d joined) in
            subst (λ x. GoesFirst s best.0.id x) n.2 (best.3 n.0 n.1 (subst (λ x. IsJoined s x d) (sym n.2) joined));
      },
    )
    | inr none ↦ let n = node_in d node in absurd (none n.0 n.1 (subst (λ x. IsJoined s x d) (sym n.2) (zero, (node, refl))))
  ]
    where
      node_in : (x : DpId) → IsNode s x → (m : Node) × Contains s.nodes m × (m.id ≡ x)
      node_in x (i, at) =
          let y : Node = record { id = x; priority = None } in
          let within = ids-within s.nodes i x at in
          let m : Node = get_or s.nodes i y in
          (m, (i, within, same_Some (get_or s.nodes i m) m (sym (slice_get-get_or s.nodes i m within) ∙ slice_get-get_or s.nodes i y within)), ids-at s.nodes i x at y)
