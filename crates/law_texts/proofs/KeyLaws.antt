-- Keys that are found the same are one.
use Rattle.std.proofs.Common.{◌≡◌, Bool, true, false, ◌||◌, List, [], ◌∷◌, ◌++◌, refl, sym, ◌∙◌, ap}
use Rattle.std.proofs.lemmas.Bool.Decides.{Decides-int_eq}
use Rattle.std.proofs.lemmas.Slice.Eq.{bytes_eq-Decides}
use Rattle.yaml_tree.specs.declared.tree.Key.{Key}
use Rattle.yaml_tree.specs.declared.tree.Key.TheVariants as key
use Rattle.yaml_tree.specs.declared.tree.Pair.{Pair}
use Rattle.yaml_subset.specs.Entries.{key_eq, has_key}
use Rattle.law_texts.specs.Keys.{HasKey}

pub key_found : (j k : Key) → key_eq j k ≡ true → j ≡ k
key_found (key.Int m) (key.Int n) e = ap key.Int ((Decides-int_eq m n).0 e)
key_found (key.Text s) (key.Text t) e = ap key.Text ((bytes_eq-Decides s t).0 e)
key_found (key.Int m) (key.Text t) e = absurd cc
key_found (key.Text s) (key.Int n) e = absurd cc

pub key_same : (j k : Key) → j ≡ k → key_eq j k ≡ true
key_same j k e = ap (key_eq j) (sym e) ∙ itself j
  where
    itself : (j : Key) → key_eq j j ≡ true
    itself (key.Int n) = (Decides-int_eq n n).1 refl
    itself (key.Text text) = (bytes_eq-Decides text text).1 refl

has_more : (p : Pair) (ps : List Pair) (k : Key) → HasKey ps k → HasKey (p ∷ ps) k
has_more p ps k w = record { before = p ∷ w.before; pair = w.pair; behind = w.behind; there = ap (λ (qs : List Pair). p ∷ qs) w.there; same = w.same }

pub has_found : (pairs : List Pair) (k : Key) → has_key pairs k ≡ true → HasKey pairs k
unfolding has_key
has_found [] k e = absurd cc
has_found (p ∷ ps) k e = by_first (key_eq p.key k) refl e (λ h. has_found ps k h)
  where
    by_first : (b : Bool) → key_eq p.key k ≡ b → b || has_key ps k ≡ true → (has_key ps k ≡ true → HasKey ps k) → HasKey (p ∷ ps) k
    by_first true h e later = record { before = []; pair = p; behind = ps; there = refl; same = key_found p.key k h }
    by_first false h e later = has_more p ps k (later e)

pub or_true : (b : Bool) → b || true ≡ true
or_true true = refl
or_true false = refl

in_list : (before : List Pair) (p : Pair) (behind : List Pair) (k : Key) → key_eq p.key k ≡ true → has_key (before ++ p ∷ behind) k ≡ true
unfolding has_key
in_list [] p behind k e = rw e refl
in_list (q ∷ qs) p behind k e = ap (λ b. key_eq q.key k || b) (in_list qs p behind k e) ∙ or_true (key_eq q.key k)

pub has_there : (pairs : List Pair) (k : Key) → HasKey pairs k → has_key pairs k ≡ true
has_there pairs k w = ap (λ (ps : List Pair). has_key ps k) w.there ∙ in_list w.before w.pair w.behind k (key_same w.pair.key k w.same)
