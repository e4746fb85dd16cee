-- Connections in ascending order, as a set keeps them.
use Rattle.std.proofs.Common.{◌≡◌, ◌==◌, ◌||◌, ℕ, Bool, true, false, cond, not, List, [], ◌∷◌, refl, sym, ap, subst, ◌∙◌, arith}
use Rattle.std.proofs.lemmas.Bool.{eqb-true}
use Rattle.std.proofs.lemmas.Bool.Decides.{nat_tests}
use Rattle.std.proofs.lemmas.Cmp.{ranked}
use Rattle.std.proofs.Math.Bool.{or-false, or_comm}
use Rattle.std.specs.BTreeMap.{is_at}
use Rattle.std.specs.List.{AllByRecursion, list_any}
use Rattle.std.specs.List.Sorted.{IsStrictlySortedBy}
use Rattle.std.specs.Ordering.{match_ordering, nat_cmp}
use Rattle.std.specs.Set.{remove_key}
use Rattle.std.specs.declared.cmp.Ordering.{Ordering}
use Rattle.std.specs.declared.cmp.Ordering.TheVariants.{Less, Equal, Greater}
use Rattle.recording.specs.Conns.{is_among, without, with_one}

is_asked : (conn k : ℕ) → is_at (nat_cmp conn) k ≡ (k == conn)
is_asked conn k = grind (arith, nat_tests)

is_equal : (a b : ℕ) → nat_cmp a b ≡ Equal → a ≡ b
is_equal a b is = ranked a b Equal (sym is)

is_other : (c k : ℕ) → nat_cmp c k ≡ Less → (k == c) ≡ false
is_other c k is = let less = ranked c k Less (sym is) in grind (arith, nat_tests)

pub is_found : (conns : List ℕ) (conn : ℕ) → list_any (is_at (nat_cmp conn)) conns ≡ is_among conns conn
is_found [] conn = refl
is_found (k ∷ ks) conn = ap (λ b. b || list_any (is_at (nat_cmp conn)) ks) (is_asked conn k) ∙ ap (λ b. (k == conn) || b) (is_found ks conn)

-- ---- one more

again : (is there : Bool) → (is || there) ≡ ((is || there) || is)
again true there = refl
again false there = sym (or-false there)

behind : (first there is : Bool) → (first || (there || is)) ≡ ((first || there) || is)
behind true there is = refl
behind false there is = refl

pub is_among-with_one : (conns : List ℕ) (c conn : ℕ) → is_among (with_one conns c) conn ≡ (is_among conns conn || (c == conn))
is_among-with_one [] c conn = or-false (c == conn)
is_among-with_one (k ∷ ks) c conn = placed (nat_cmp c k) refl (is_among-with_one ks c conn)
  where
    placed : (o : Ordering) → nat_cmp c k ≡ o → is_among (with_one ks c) conn ≡ (is_among ks conn || (c == conn))
        → is_among (match_ordering o (c ∷ k ∷ ks) (k ∷ ks) (k ∷ with_one ks c)) conn ≡ (is_among (k ∷ ks) conn || (c == conn))
    placed Less is rest = or_comm (c == conn) (is_among (k ∷ ks) conn)
    placed Equal is rest = again (k == conn) (is_among ks conn) ∙ ap (λ n. is_among (k ∷ ks) conn || (n == conn)) (sym (is_equal c k is))
    placed Greater is rest = ap (λ b. (k == conn) || b) rest ∙ behind (k == conn) (is_among ks conn) (c == conn)

-- ---- one less

all_stay : (c : ℕ) (conns : List ℕ) → AllByRecursion (λ k. nat_cmp c k ≡ Less) conns → conns ≡ without conns c
all_stay c [] above = refl
all_stay c (k ∷ ks) above =
    ap (λ l. k ∷ l) (all_stay c ks above.1) ∙ ap (λ b. cond (not b) (k ∷ without ks c) (without ks c)) (sym (is_other c k above.0))

pub is_removed : (c : ℕ) (conns : List ℕ) → IsStrictlySortedBy nat_cmp conns → remove_key (is_at (nat_cmp c)) conns ≡ without conns c
unfolding IsStrictlySortedBy
is_removed c [] ascend = refl
is_removed c (k ∷ ks) ascend = ap (λ b. cond b ks (k ∷ remove_key (is_at (nat_cmp c)) ks)) (is_asked c k) ∙ by (k == c) refl (is_removed c ks ascend.1)
  where
    by : (b : Bool) → (k == c) ≡ b → remove_key (is_at (nat_cmp c)) ks ≡ without ks c → cond b ks (k ∷ remove_key (is_at (nat_cmp c)) ks) ≡ cond (not b) (k ∷ without ks c) (without ks c)
    by true is rest = all_stay c ks (subst (λ n. AllByRecursion (λ m. nat_cmp n m ≡ Less) ks) (eqb-true k c is) ascend.0)
    by false is rest = ap (λ l. k ∷ l) rest
