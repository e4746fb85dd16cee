-- What lies below a datapath: those whose next hops to the root r lead over it.
use Rattle.std.proofs.Common.{◌≡◌, ℕ, zero, suc, ◌≤◌, ◌||◌, Bool, true, false, refl, inl, inr, sym, ap, ◌∙◌, subst, arith}
use Rattle.std.specs.Option.{option_map_or}
use Rattle.std.proofs.lemmas.Bool.{cases_Bool, or_cases, or_left, or_right, both_ways}
use Rattle.net_base.specs.declared.numbers.DpId.{DpId}
use Rattle.stack_paths.specs.Chosen.{Step, is_same_dp, distance_of, hop_link}
use Rattle.stack_paths.specs.Stack.{Stack, IsStack, IsDistance, IsHop}
use Rattle.stack_paths.proofs.ChosenHops.{hop_here}
use Rattle.stack_paths.proofs.ChosenWalks.{same_dp, dp_same, distance_here}
use Rattle.stack_paths.proofs.LawLemmas.{distance_same}
use Rattle.law_trees.proofs.Nearer.{hopped}

module _ (s : Stack) (is : IsStack s) (r : DpId) where
  -- c is t or one of the n datapaths behind it
  is_on : ℕ → DpId → DpId → Bool
  is_on zero c t = is_same_dp t c
  is_on (suc n) c t = is_same_dp t c || option_map_or (λ (u : Step). is_on n c u.far) (hop_link s t r) false

  pub below : DpId → DpId → Bool
  below c t = option_map_or (λ n. is_on n c t) (distance_of s t r) false

  below_is : (c t : DpId) (n : ℕ) → IsDistance s t r n → below c t ≡ is_on n c t
  unfolding below
  below_is c t n far = ap (λ o. option_map_or (λ n. is_on n c t) o false) (distance_here s is t r n far)

  pub below_root : (c t : DpId) → IsDistance s t r 0 → below c t ≡ is_same_dp t c
  unfolding is_on
  below_root c t far = below_is c t 0 far

  pub below_hop : (c t : DpId) (p : ℕ) (e : DpId) (q : ℕ) → IsHop s t r p e q → below c t ≡ (is_same_dp t c || below c e)
  unfolding is_on
  below_hop c t p e q hop =
      let u = hop_here s is t r p e q hop in
      let n = hop.nearer.rest in
      below_is c t (suc n) hop.nearer.from_here
      ∙ ap (λ o. is_same_dp t c || option_map_or (λ (u : Step). is_on n c u.far) o false) u.1
      ∙ ap (λ (x : DpId). is_same_dp t c || is_on n c x) u.4
      ∙ ap (λ b. is_same_dp t c || b) (sym (below_is c e n hop.nearer.from_there))

  pub below_itself : (n : ℕ) (t : DpId) → IsDistance s t r n → below t t ≡ true
  below_itself zero t far = below_root t t far ∙ dp_same t t refl
  below_itself (suc n) t far = let h = hopped s is r t n far in below_hop t t h.port h.far h.far_port h.hop ∙ or_left (is_same_dp t t) (below t h.far) (dp_same t t refl)

  pub below_the_root : (n : ℕ) (t : DpId) → IsDistance s t r n → below r t ≡ true
  below_the_root zero t far = below_root r t far ∙ dp_same t r far.walk.1
  below_the_root (suc n) t far = let h = hopped s is r t n far in below_hop r t h.port h.far h.far_port h.hop ∙ or_right (is_same_dp t r) (below r h.far) (below_the_root n h.far h.left)

  -- it is no nearer to the root, and as near only where it is the same
  pub record Above (c t : DpId) (n : ℕ) : Type 0 where
    pub distance : ℕ
    pub most : distance ≤ n
    pub is_far : IsDistance s c r distance
    pub equal : distance ≡ n → c ≡ t

  pub above : (n : ℕ) (c t : DpId) → IsDistance s t r n → below c t ≡ true → Above c t n
  above zero c t far is_below =
      let same : c ≡ t = sym (same_dp t c (sym (below_root c t far) ∙ is_below)) in
      record { distance = 0; most = omega arith; is_far = subst (λ x. IsDistance s x r 0) (sym same) far; equal = λ e. same }
  above (suc n) c t far is_below =
      let h = hopped s is r t n far in
      elim (or_cases (is_same_dp t c) (below c h.far) (sym (below_hop c t h.port h.far h.far_port h.hop) ∙ is_below)) [
        | inl here ↦
            let same : c ≡ t = sym (same_dp t c here) in
            record { distance = suc n; most = omega arith; is_far = subst (λ x. IsDistance s x r (suc n)) (sym same) far; equal = λ e. same }
        | inr there ↦
            let more = above n c h.far h.left there in
            let most = more.most in
            record { distance = more.distance; most = omega (arith, most); is_far = more.is_far; equal = λ e. absurd (omega (arith, most, e)) }
      ]

  -- what lies below a datapath lies below the next hop of that
  pub below_more : (n : ℕ) (c d t : DpId) (p q : ℕ) → IsHop s c r p d q → IsDistance s t r n → below c t ≡ true → below d t ≡ true
  below_more zero c d t p q hop far is_below =
      let same : t ≡ c = same_dp t c (sym (below_root c t far) ∙ is_below) in
      let none = distance_same s c r (suc hop.nearer.rest) 0 hop.nearer.from_here (subst (λ x. IsDistance s x r 0) same far) in
      absurd (omega (arith, none))
  below_more (suc n) c d t p q hop far is_below =
      let h = hopped s is r t n far in
      elim (or_cases (is_same_dp t c) (below c h.far) (sym (below_hop c t h.port h.far h.far_port h.hop) ∙ is_below)) [
        | inl here ↦
            let same : c ≡ t = sym (same_dp t c here) in
            below_hop d t p d q (subst (λ x. IsHop s x r p d q) same hop) ∙ or_right (is_same_dp t d) (below d d) (below_itself hop.nearer.rest d hop.nearer.from_there)
        | inr there ↦ below_hop d t h.port h.far h.far_port h.hop ∙ or_right (is_same_dp t d) (below d h.far) (below_more n c d h.far p q hop h.left there)
      ]

  -- what lies below a datapath and isn't it lies below one whose next hop it is
  pub record Child (d t : DpId) : Type 0 where
    pub child : DpId
    pub port : ℕ
    pub far_port : ℕ
    pub hop : IsHop s child r port d far_port
    pub is_below : below child t ≡ true

  pub child_of : (n : ℕ) (d t : DpId) → IsDistance s t r n → below d t ≡ true → is_same_dp t d ≡ false → Child d t
  child_of zero d t far is_below other = absurd (both_ways (is_same_dp t d) other (sym (below_root d t far) ∙ is_below))
  child_of (suc n) d t far is_below other =
      let h = hopped s is r t n far in
      elim (or_cases (is_same_dp t d) (below d h.far) (sym (below_hop d t h.port h.far h.far_port h.hop) ∙ is_below)) [
        | inl here ↦ absurd (both_ways (is_same_dp t d) other here)
        | inr there ↦ elim (cases_Bool (is_same_dp h.far d)) [
          | inl ends ↦ record {
            child = t;
            port = h.port;
            far_port = h.far_port;
            hop = subst (λ x. IsHop s t r h.port x h.far_port) (same_dp h.far d ends) h.hop;
            is_below = below_itself (suc n) t far;
          }
          | inr further ↦
              let more = child_of n d h.far h.left there further in
              record {
                child = more.child;
                port = more.port;
                far_port = more.far_port;
                hop = more.hop;
                is_below = below_hop more.child t h.port h.far h.far_port h.hop ∙ or_right (is_same_dp t more.child) (below more.child h.far) more.is_below;
              }
        ]
      ]

  -- of two as far from the root only one has t below it
  pub level_once : (n m : ℕ) (c d t : DpId) → IsDistance s t r n → IsDistance s c r m → IsDistance s d r m → below c t ≡ true → below d t ≡ true → c ≡ d
  level_once zero m c d t far c_far d_far c_below d_below = sym (same_dp t c (sym (below_root c t far) ∙ c_below)) ∙ same_dp t d (sym (below_root d t far) ∙ d_below)
  level_once (suc n) m c d t far c_far d_far c_below d_below =
      let h = hopped s is r t n far in
      elim (or_cases (is_same_dp t c) (below c h.far) (sym (below_hop c t h.port h.far h.far_port h.hop) ∙ c_below)) [
        | inl here ↦ first c d c_far d_far (same_dp t c here) d_below
        | inr c_there ↦ elim (or_cases (is_same_dp t d) (below d h.far) (sym (below_hop d t h.port h.far h.far_port h.hop) ∙ d_below)) [
          | inl here ↦ sym (first d c d_far c_far (same_dp t d here) c_below)
          | inr d_there ↦ level_once n m c d h.far h.left c_far d_far c_there d_there
        ]
      ]
    where
      first : (x y : DpId) → IsDistance s x r m → IsDistance s y r m → t ≡ x → below y t ≡ true → x ≡ y
      first x y x_far y_far same y_below =
          let a = above (suc n) y t far y_below in
          let level = distance_same s y r a.distance m a.is_far y_far in
          let whole = distance_same s x r m (suc n) x_far (subst (λ z. IsDistance s z r (suc n)) same far) in
          sym same ∙ sym (a.equal (level ∙ whole))
