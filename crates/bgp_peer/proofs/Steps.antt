-- Messages one behind the other.
use Rattle.std.proofs.Common.{◌≡◌, ℕ, zero, suc, ◌+◌, ◌-◌, ◌<◌, ◌≤◌, refl, ap, ◌∙◌, arith}
use Rattle.bgp_peer.specs.declared.known.Known.{Known}
use Rattle.bgp_peer.specs.Turns.{hear_next, hear_each}

pub nothing_more : (most : ℕ) (k : Known) → hear_next k ≡ k → hear_each most k ≡ k
nothing_more zero k e = refl
nothing_more (suc most) k e = ap (hear_each most) e ∙ nothing_more most k e

pub one_more : (most i : ℕ) (k next : Known) → i < most → hear_next k ≡ next → hear_each (most - i) k ≡ hear_each (most - (i + 1)) next
one_more most i k next within e =
    let left : most - i ≡ suc (most - (i + 1)) = omega arith in
    ap (λ n. hear_each n k) left ∙ ap (hear_each (most - (i + 1))) e

pub none_left : (most i : ℕ) (k : Known) → most ≤ i → hear_each (most - i) k ≡ k
none_left most i k past = let none : most - i ≡ 0 = omega arith in ap (λ n. hear_each n k) none
