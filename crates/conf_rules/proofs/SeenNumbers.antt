-- Different numbers, counted where they weren't seen.
use Rattle.std.proofs.Common.{◌≡◌, ℕ, ◌+◌, ◌<◌, ◌==◌, ◌||◌, Bool, cond, List, ◌∷◌, drop, length, get_or, refl, sym, ap, ◌∙◌, arith}
use Rattle.std.specs.Ordering.{nat_cmp}
use Rattle.std.specs.BTreeSet.{BTreeSet, btree_set_len, contains}
use Rattle.std.proofs.Math.Bool.{or_comm}
use Rattle.std.proofs.lemmas.List.{get_or_default}
use Rattle.conf_types.specs.Lists.{is_among, different}
use Rattle.conf_rules.specs.Seen.{HasNumbers}
use Rattle.conf_rules.proofs.First.{next}

-- one number more, before the others
pub different_more : (seen more : BTreeSet ℕ) (xs : List ℕ) (k i : ℕ) (was : Bool) → k ≡ i + 1 → i < length xs
    → HasNumbers seen (λ n. n) (drop k xs) × (btree_set_len seen ≡ different (drop k xs))
    → was ≡ contains nat_cmp seen (get_or xs i 0) → ((n : ℕ) → contains nat_cmp more n ≡ (contains nat_cmp seen n || get_or xs i 0 == n)) → btree_set_len more ≡ btree_set_len seen + cond was 0 1
    → HasNumbers more (λ n. n) (drop i xs) × (btree_set_len more ≡ different (drop i xs))
different_more seen more xs k i was behind less so_far was_is grown size = (numbers, counted)
  where
    opened : drop i xs ≡ get_or xs i 0 ∷ drop k xs
    opened = next xs xs i (get_or xs i 0) refl less (get_or_default xs i 0 (get_or xs i 0) less) ∙ ap (λ j. get_or xs i 0 ∷ drop j xs) (sym behind)

    numbers : HasNumbers more (λ n. n) (drop i xs)
    numbers n =
        grown n
        ∙ ap (λ b. b || get_or xs i 0 == n) (so_far.0 n)
        ∙ or_comm (is_among (drop k xs) n) (get_or xs i 0 == n)
        ∙ sym (ap (λ ys. is_among ys n) opened)

    sum : (b : Bool) → btree_set_len seen + cond b 0 1 ≡ cond b 0 1 + different (drop k xs)
    sum b = let e = so_far.1 in omega arith

    counted : btree_set_len more ≡ different (drop i xs)
    counted =
        size
        ∙ sum was
        ∙ ap (λ b. cond b 0 1 + different (drop k xs)) (was_is ∙ so_far.0 (get_or xs i 0))
        ∙ sym (ap different opened)
