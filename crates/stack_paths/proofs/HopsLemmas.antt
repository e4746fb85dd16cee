use Rattle.std.proofs.Common.{◌≡◌, ℕ, ◌+◌, ◌<◌, ◌++◌, ◌∷◌, [], List, length, get_or, take, slice_get, Some, sym, refl, ◌∙◌, ap, subst, inl, inr, ⊎_elim}
use Rattle.std.specs.Prelude.{Contains, slice_index_or}
use Rattle.std.proofs.lemmas.List.Elements.{Contains-append_left, Contains-push, Contains-push_cases, Contains-get_or}
use Rattle.net_base.specs.declared.stack.Node.{Node}
use Rattle.net_base.specs.declared.stack.StackLink.{StackLink}
use Rattle.net_base.specs.declared.numbers.DpId.{DpId}
use Rattle.stack_paths.specs.declared.hops.Hop.{Hop}
use Rattle.stack_paths.specs.Stack.{Stack, ids, IsAt, Joins, HasLink}
use Rattle.stack_paths.specs.Hops.{IsHops}
use Rattle.stack_paths.proofs.Prefix.{contains_none, contains_later, contains_last, contains_cases}
use Rattle.stack_paths.proofs.Places.{ids-within}

-- hops of a stack are between its places
pub places_within : (s : Stack) (hops : List Hop) → IsHops s hops → (k : ℕ) (d : Hop) → k < length hops → ((slice_index_or hops k d).from < length s.nodes) × ((slice_index_or hops k d).to < length s.nodes)
places_within s hops are k d within =
    let h = are.sound (get_or hops k d) (Contains-get_or hops k d within) in
    (ids-within s.nodes _ h.0 h.2, ids-within s.nodes _ h.1 h.3)

-- no link, no hop
pub IsHops-none : (nodes : List Node) (links : List StackLink) → IsHops (record { nodes = nodes; links = take 0 links }) []
IsHops-none nodes links = record {
  sound = λ h c. absurd (contains_none h c);
  complete = λ d p e q l. absurd (contains_none l.0 l.1);
}

module _ (nodes : List Node) (links : List StackLink) (i : ℕ) (link : StackLink) (within : i < length links) (is : link ≡ get_or links i link) (hops : List Hop) (so_far : IsHops (record { nodes = nodes; links = take i links }) hops) (a b : ℕ) (at_a : slice_get (ids nodes) a ≡ Some link.a) (at_b : slice_get (ids nodes) b ≡ Some link.b) where
  now : Stack
  now = record { nodes = nodes; links = take (i + 1) links }

  there : Hop
  there = record { from = a; port = link.a_port; to = b; far_port = link.b_port }

  back : Hop
  back = record { from = b; port = link.b_port; to = a; far_port = link.a_port }

  -- one more link gives two more hops
  pub IsHops-push : IsHops (record { nodes = nodes; links = take (i + 1) links }) (hops ++ (record { from = a; port = link.a_port; to = b; far_port = link.b_port }) ∷ [] ++ (record { from = b; port = link.b_port; to = a; far_port = link.a_port }) ∷ [])
  unfolding now there back
  IsHops-push = record { sound = sounds; complete = completes } where
    in_last : Contains (take (i + 1) links) link
    in_last = contains_last links i link within is

    in_there : Contains (hops ++ there ∷ [] ++ back ∷ []) there
    in_there = Contains-append_left (hops ++ there ∷ []) (back ∷ []) there (Contains-push hops there)

    in_back : Contains (hops ++ there ∷ [] ++ back ∷ []) back
    in_back = Contains-push (hops ++ there ∷ []) back

    sounds : (h : Hop) → Contains (hops ++ there ∷ [] ++ back ∷ []) h → (d : DpId) × (e : DpId) × IsAt now h.from d × IsAt now h.to e × HasLink now d h.port e h.far_port
    sounds h c = ⊎_elim
        (λ (c' : Contains (hops ++ there ∷ []) h). ⊎_elim
        (λ (old : Contains hops h). let s = so_far.sound h old in (s.0, s.1, s.2, s.3, (s.4.0, contains_later links i link s.4.0 within is s.4.1, s.4.2)))
        (λ (same : there ≡ h). subst (λ (x : Hop). (d : DpId) × (e : DpId) × IsAt now x.from d × IsAt now x.to e × HasLink now d x.port e x.far_port) same (link.a, link.b, at_a, at_b, (link, in_last, inl (refl, refl, refl, refl))))
        (Contains-push_cases hops there h c'))
        (λ (same : back ≡ h). subst (λ (x : Hop). (d : DpId) × (e : DpId) × IsAt now x.from d × IsAt now x.to e × HasLink now d x.port e x.far_port) same (link.b, link.a, at_b, at_a, (link, in_last, inr (refl, refl, refl, refl))))
        (Contains-push_cases (hops ++ there ∷ []) back h c)

    of_link : (d : DpId) (p : ℕ) (e : DpId) (q : ℕ) → Joins link d p e q → (h : Hop) × Contains (hops ++ there ∷ [] ++ back ∷ []) h × IsAt now h.from d × IsAt now h.to e × (h.port ≡ p) × (h.far_port ≡ q)
    of_link d p e q j = ⊎_elim
        (λ (x : (link.a ≡ d) × (link.a_port ≡ p) × (link.b ≡ e) × (link.b_port ≡ q)). (there, in_there, at_a ∙ ap Some x.0, at_b ∙ ap Some x.2, x.1, x.3))
        (λ (x : (link.b ≡ d) × (link.b_port ≡ p) × (link.a ≡ e) × (link.a_port ≡ q)). (back, in_back, at_b ∙ ap Some x.0, at_a ∙ ap Some x.2, x.1, x.3))
        j

    completes : (d : DpId) (p : ℕ) (e : DpId) (q : ℕ) → HasLink now d p e q → (h : Hop) × Contains (hops ++ there ∷ [] ++ back ∷ []) h × IsAt now h.from d × IsAt now h.to e × (h.port ≡ p) × (h.far_port ≡ q)
    completes d p e q (l, c, j) = ⊎_elim
        (λ (old : Contains (take i links) l).
        let h = so_far.complete d p e q (l, old, j) in
        (h.0, Contains-append_left (hops ++ there ∷ []) (back ∷ []) h.0 (Contains-append_left hops (there ∷ []) h.0 h.1), h.2, h.3, h.4, h.5))
        (λ (same : link ≡ l). of_link d p e q (subst (λ (x : StackLink). Joins x d p e q) (sym same) j))
        (contains_cases links i link l within is c)
