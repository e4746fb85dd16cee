-- One link nearer along a next hop.
use Rattle.std.proofs.Common.{◌≡◌, ℕ, zero, suc, refl, sym, subst, arith}
use Rattle.net_base.specs.declared.numbers.DpId.{DpId}
use Rattle.stack_paths.specs.Stack.{Stack, IsNode, HasLink, IsStack, IsDistance, IsHop}
use Rattle.stack_paths.proofs.LawLemmas.{distance_same, hop_exists, link_back}
use Rattle.stack_paths.proofs.Walks.{far_end_same}
use Rattle.law_trees.specs.Ways.{Leads}

-- the next hop from a to b, with the distance that is left
pub record Hopped (s : Stack) (a b : DpId) (n : ℕ) : Type 0 where
  pub port : ℕ
  pub far : DpId
  pub far_port : ℕ
  pub hop : IsHop s a b port far far_port
  pub left : IsDistance s far b n

module _ (s : Stack) (is : IsStack s) (b : DpId) where
  -- the distance that a next hop leaves
  pub hop_leaves : (a : DpId) (n p : ℕ) (e : DpId) (q : ℕ) → IsDistance s a b (suc n) → IsHop s a b p e q → IsDistance s e b n
  hop_leaves a n p e q far hop =
      let near = hop.nearer in
      let same : suc near.rest ≡ suc n = distance_same s a b (suc near.rest) (suc n) near.from_here far in
      let rest : near.rest ≡ n = omega (arith, same) in
      subst (λ k. IsDistance s e b k) rest near.from_there

  pub hopped : (a : DpId) (n : ℕ) → IsDistance s a b (suc n) → Hopped s a b n
  hopped a n far =
      let hop = hop_exists s is a b n far in
      record { port = hop.0; far = hop.1; far_port = hop.2; hop = hop.3; left = hop_leaves a n hop.0 hop.1 hop.2 far hop.3 }

  pub leads : (n : ℕ) (a : DpId) → IsDistance s a b n → Leads s a b n
  leads zero a far = far.walk.1
  leads (suc n) a far = let h = hopped a n far in (h.port, h.far, h.far_port, h.hop, h.left, leads n h.far h.left)

  -- no hop leads back: its other end would be nearer and further
  pub no_hop_back : (a e : DpId) (p q : ℕ) → IsHop s a b p e q → IsHop s e b q a p → ⊥
  no_hop_back a e p q there back =
      let x = there.nearer in
      let y = back.nearer in
      let at_a = distance_same s a b (suc x.rest) y.rest x.from_here y.from_there in
      let at_e = distance_same s e b x.rest (suc y.rest) x.from_there y.from_here in
      omega (arith, at_a, at_e)

  pub goes_onward : (a e : DpId) (p q t : ℕ) → IsHop s a b p e q → (f : DpId) (u : ℕ) → IsHop s e b t f u → t ≡ q → ⊥
  goes_onward a e p q t there f u on same =
      let link : HasLink s e q f u = subst (λ k. HasLink s e k f u) same on.nearer.link in
      let ends = far_end_same s is e q a f p u (link_back s a p e q there.nearer.link) link in
      no_hop_back a e p q there (subst (λ k. IsHop s e b q a k) (sym ends.1) (subst (λ x. IsHop s e b q x u) (sym ends.0) (subst (λ k. IsHop s e b k f u) same on)))

  pub itself : IsNode s b → IsDistance s b b 0
  itself node = record { walk = (node, refl); least = λ m w. omega arith }
