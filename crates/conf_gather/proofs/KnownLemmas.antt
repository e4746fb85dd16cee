-- What a set of keys tells of entries.
use Rattle.std.proofs.Common.{◌≡◌, ℕ, ℤ, Bool, true, false, cond, ◌||◌, List, [], ◌∷◌, ◌++◌, ◌+◌, ◌<◌, length, get_or, take, drop, Some, refl, sym, ap, ◌∙◌}
use Rattle.std.specs.Prelude.{is_some, if◌then◌else◌}
use Rattle.std.specs.Ordering.{int_cmp, int_eq, nat_cmp}
use Rattle.std.specs.List.{list_any}
use Rattle.std.specs.Cmp.Lexicographic.{slice_cmp}
use Rattle.std.specs.Str.{bytes_eq}
use Rattle.std.specs.String.{string_bytes, string_cmp}
use Rattle.std.specs.BTreeSet.{BTreeSet, UpdatesBy, contains_text}
use Rattle.std.specs.declared.string.String.{String}
use Rattle.std.specs.declared.alloc.Global.{Global}
use Rattle.std.proofs.lemmas.Bool.{cond-true, cond-false}
use Rattle.std.proofs.lemmas.List.{drop_more, take_more}
use Rattle.std.proofs.lemmas.List.Folds.{list_any-append}
use Rattle.std.proofs.lemmas.Map.Text.{btree_set_updates_text}
use Rattle.std.proofs.lemmas.Slice.Eq.{bytes_eq-Decides}
use Rattle.yaml_tree.specs.declared.tree.Key.{Key}
use Rattle.yaml_tree.specs.declared.tree.Key.TheVariants as key
use Rattle.yaml_tree.specs.declared.tree.Pair.{Pair}
use Rattle.yaml_subset.specs.Entries.{key_eq, has_key}
use Rattle.conf_gather.specs.declared.key_set.KeySet.{KeySet}
use Rattle.conf_gather.specs.Known.{knows, AreKeysOf}
use Rattle.conf_gather.specs.WrongTypes.{value_of}
use Rattle.conf_gather.specs.Joined.{first_in_both, extended, with_more}
use Rattle.conf_gather.proofs.SoundLemmas.{found_has}

or_false : (a : Bool) → a || false ≡ a
or_false true = refl
or_false false = refl

or_assoc : (a b c : Bool) → a || (b || c) ≡ (a || b) || c
or_assoc true b c = refl
or_assoc false b c = refl

cond_or : (b a : Bool) → cond b true a ≡ a || b
cond_or true true = refl
cond_or true false = refl
cond_or false true = refl
cond_or false false = refl

-- ---- a key more

pub int_more : (n : ℤ) (ints ints' : BTreeSet ℤ) (texts : BTreeSet (String Global)) → UpdatesBy int_cmp (int_cmp n) ints ints' true
    → (k : Key) → knows (record { ints = ints'; texts = texts }) k ≡ (knows (record { ints = ints; texts = texts }) k || key_eq (key.Int n) k)
int_more n ints ints' texts u (key.Int m) = u.0 m ∙ cond_or (int_eq n m) _
int_more n ints ints' texts u (key.Text bytes) = sym (or_false (contains_text texts bytes))

pub text_more : (bs text : List ℕ) (ints : BTreeSet ℤ) (texts texts' : BTreeSet (String Global)) → bs ≡ text → UpdatesBy string_cmp (λ k. slice_cmp nat_cmp bs (string_bytes k)) texts texts' true
    → (k : Key) → knows (record { ints = ints; texts = texts' }) k ≡ (knows (record { ints = ints; texts = texts }) k || key_eq (key.Text text) k)
text_more bs text ints texts texts' is u (key.Int m) = sym (or_false _)
text_more bs text ints texts texts' is u (key.Text bytes) =
    btree_set_updates_text bs texts texts' true u bytes ∙ cond_or (bytes_eq bs bytes) (contains_text texts bytes)
    ∙ ap (λ (x : List ℕ). contains_text texts bytes || bytes_eq x bytes) is

-- ---- the keys of entries

has_key-push : (pairs : List Pair) (p : Pair) (k : Key) → has_key (pairs ++ p ∷ []) k ≡ has_key pairs k || key_eq p.key k
unfolding has_key
has_key-push [] p k = or_false (key_eq p.key k)
has_key-push (q ∷ qs) p k = ap (λ b. key_eq q.key k || b) (has_key-push qs p k) ∙ or_assoc (key_eq q.key k) (has_key qs k) (key_eq p.key k)

pub keys_push : (pairs : List Pair) (p : Pair) (old new : KeySet) → AreKeysOf pairs old → ((k : Key) → knows new k ≡ (knows old k || key_eq p.key k)) → AreKeysOf (pairs ++ p ∷ []) new
keys_push pairs p old new are more = λ k. more k ∙ ap (λ b. b || key_eq p.key k) (are k) ∙ sym (has_key-push pairs p k)

more_keys_step : (k : Key) (more ps joint : List Pair) (p : Pair) (b : Bool) → has_key joint k ≡ has_key ps k → has_key (if b then extended p more ∷ ps else p ∷ joint) k ≡ has_key (p ∷ ps) k
unfolding has_key
more_keys_step k more ps joint p true later = refl
more_keys_step k more ps joint p false later = ap (λ b. key_eq p.key k || b) later

more_keys : (k key : Key) (more ps : List Pair) → has_key (with_more key more ps) k ≡ has_key ps k
more_keys k key more [] = refl
more_keys k key more (p ∷ ps) = more_keys_step k more ps (with_more key more ps) p (key_eq p.key key) (more_keys k key more ps)

pub keys_joined : (key : Key) (more pairs : List Pair) (keys : KeySet) → AreKeysOf pairs keys → AreKeysOf (with_more key more pairs) keys
keys_joined key more pairs keys are = λ k. are k ∙ sym (more_keys k key more pairs)

pub no_keys : (keys : KeySet) → ((k : Key) → knows keys k ≡ false) → AreKeysOf [] keys
unfolding has_key
no_keys keys none = none

has_key-append : (xs ys : List Pair) (k : Key) → has_key (xs ++ ys) k ≡ (has_key xs k || has_key ys k)
unfolding has_key
has_key-append [] ys k = refl
has_key-append (q ∷ qs) ys k = ap (λ b. key_eq q.key k || b) (has_key-append qs ys k) ∙ or_assoc (key_eq q.key k) (has_key qs k) (has_key ys k)

-- ---- the keys of more entries, one by one

-- the set knows what it knew first, and the keys of these entries
abbrev pub KnowsMore : KeySet → List Pair → KeySet → Type 0
KnowsMore first more keys = (k : Key) → knows keys k ≡ (knows first k || has_key more k)

pub none_more : (keys : KeySet) → KnowsMore keys [] keys
unfolding has_key
none_more keys = λ k. sym (or_false (knows keys k))

pub next_more : (first : KeySet) (pairs : List Pair) (i : ℕ) (p : Pair) (old new : KeySet) → i < length pairs → p ≡ get_or pairs i p → KnowsMore first (take i pairs) old
    → ((k : Key) → knows new k ≡ (knows old k || key_eq p.key k)) → KnowsMore first (take (i + 1) pairs) new
next_more first pairs i p old new below here so_far more = λ k.
    more k ∙ ap (λ b. b || key_eq p.key k) (so_far k) ∙ sym (or_assoc (knows first k) (has_key (take i pairs) k) (key_eq p.key k))
    ∙ ap (λ b. knows first k || b) (sym (has_key-push (take i pairs) p k))
    ∙ ap (λ (l : List Pair). knows first k || has_key l k) (sym (take_more pairs i p below ∙ ap (λ (x : Pair). take i pairs ++ x ∷ []) (sym here)))

-- of the keys of these entries, and of more
pub keys_append : (pairs more : List Pair) (old new : KeySet) → AreKeysOf pairs old → KnowsMore old more new → AreKeysOf (pairs ++ more) new
keys_append pairs more old new are grown = λ k. grown k ∙ ap (λ b. b || has_key more k) (are k) ∙ sym (has_key-append pairs more k)

-- ---- keys that stand in two lists

-- the first of the known keys
module _ (before pairs : List Pair) (known : KeySet) (i : ℕ) (p : Pair) (below : i < length pairs) (here : p ≡ get_or pairs i p) (are : AreKeysOf before known)
    (left : first_in_both before (drop i pairs) ≡ first_in_both before pairs) where
  from_here : first_in_both before pairs ≡ first_in_both before (p ∷ drop (i + 1) pairs)
  from_here = sym left ∙ ap (first_in_both before) (drop_more pairs i p below ∙ ap (λ (x : Pair). x ∷ drop (i + 1) pairs) (sym here))

  known_here : is_some (value_of p.key before) ≡ knows known p.key
  known_here = found_has p.key before ∙ sym (are p.key)

  pub found_here : knows known p.key ≡ true → Some p.key ≡ first_in_both before pairs
  found_here is = sym (from_here ∙ cond-true (is_some (value_of p.key before)) (Some p.key) (first_in_both before (drop (i + 1) pairs)) (known_here ∙ is))

  pub passed_here : knows known p.key ≡ false → first_in_both before (drop (i + 1) pairs) ≡ first_in_both before pairs
  passed_here is = sym (from_here ∙ cond-false (is_some (value_of p.key before)) (Some p.key) (first_in_both before (drop (i + 1) pairs)) (known_here ∙ is))

-- ---- names of files

bytes_sym : (a b : List ℕ) → bytes_eq a b ≡ bytes_eq b a
bytes_sym a b = by (bytes_eq a b) (bytes_eq b a) refl refl
  where
    by : (c d : Bool) → bytes_eq a b ≡ c → bytes_eq b a ≡ d → bytes_eq a b ≡ bytes_eq b a
    by true true x y = x ∙ sym y
    by false false x y = x ∙ sym y
    by true false x y = let same : a ≡ b = (bytes_eq-Decides a b).0 x in x ∙ sym ((bytes_eq-Decides b a).1 (sym same))
    by false true x y = let same : b ≡ a = (bytes_eq-Decides b a).0 y in (bytes_eq-Decides a b).1 (sym same) ∙ sym y

pub name_more : (bs name : List ℕ) (names : List (List ℕ)) (seen seen' : BTreeSet (String Global)) → bs ≡ name → ((t : List ℕ) → contains_text seen t ≡ list_any (bytes_eq t) names)
    → UpdatesBy string_cmp (λ k. slice_cmp nat_cmp bs (string_bytes k)) seen seen' true → (t : List ℕ) → contains_text seen' t ≡ list_any (bytes_eq t) (names ++ name ∷ [])
name_more bs name names seen seen' is have u t =
    btree_set_updates_text bs seen seen' true u t ∙ cond_or (bytes_eq bs t) (contains_text seen t)
    ∙ ap (λ b. b || bytes_eq bs t) (have t)
    ∙ ap (λ b. list_any (bytes_eq t) names || b) (bytes_sym bs t ∙ ap (bytes_eq t) is ∙ sym (or_false (bytes_eq t name)))
    ∙ sym (list_any-append (bytes_eq t) names (name ∷ []))
