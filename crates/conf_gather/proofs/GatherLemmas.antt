-- What gathering gives of one file, by what its reading gives.
use Rattle.std.proofs.Common.{◌≡◌, ℕ, zero, suc, ◌+◌, ◌-◌, ◌<◌, ◌≤◌, ◌⊎◌, inl, inr, Bool, true, false, List, [], ◌∷◌, length, take, drop, get_or, Option, Some, None, Result, Ok, Err, refl, sym, ap, subst, ◌∙◌, arith}
use Rattle.std.specs.Prelude.{IsErrOf, if◌then◌else◌}
use Rattle.std.specs.Str.{bytes_eq}
use Rattle.std.proofs.lemmas.Slice.Eq.{bytes_eq-Decides}
use Rattle.std.proofs.lemmas.Bool.{cond-true, cond-false}
use Rattle.std.proofs.lemmas.List.{drop_all, drop_more}
use Rattle.fg_outside.specs.Contents.{Contents, Tells, told_now}
use Rattle.fg_outside.specs.declared.files.ReadRefused.{ReadRefused}
use Rattle.fg_outside.specs.declared.files.ReadRefused.TheVariants as reads
use Rattle.yaml_tree.specs.declared.tree.Tree.{Tree}
use Rattle.yaml_subset.specs.Reading.{read_of}
use Rattle.conf_shape.specs.Reads.{entries_of}
use Rattle.conf_gather.specs.declared.refused.LoadRefused.{LoadRefused}
use Rattle.conf_gather.specs.declared.refused.LoadRefused.TheVariants.{Read, Yaml, Conf, IncludeTwice, IncludeDepth, Absent, Memory}
use Rattle.conf_gather.specs.declared.include.Include.{Include}
use Rattle.conf_gather.specs.declared.take.Gathered.{Gathered}
use Rattle.conf_gather.specs.Includes.{includes_of}
use Rattle.conf_gather.specs.Gives.{◌>>=◌, Fails, Gives, GivesTold}
use Rattle.conf_gather.specs.Gathered.{Held, Finds, held_by, unread_at, tree_of, text_tree, unread, taken, was_reached, each, with_includes, gather}
use Rattle.conf_gather.proofs.ReadLemmas.{read_front}

abbrev pub Trees : Type 0
Trees = Result (Option Tree) LoadRefused

abbrev pub Files : Type 0
Files = Result Gathered LoadRefused

-- ---- refusals

-- what the definition gives is the refusal, or the refusal is for want of memory or of a read
pub fails_first : {A B : Type 0} (e : LoadRefused) (given : Result A LoadRefused) (more : A → Result B LoadRefused) → Fails e given → Fails e (given >>= more)
fails_first (Read name) given more fails = tt
fails_first (Yaml name fault) given more fails = ap (λ r. r >>= more) fails
fails_first (Conf fault) given more fails = ap (λ r. r >>= more) fails
fails_first (IncludeTwice name) given more fails = ap (λ r. r >>= more) fails
fails_first (IncludeDepth name) given more fails = ap (λ r. r >>= more) fails
fails_first (Absent name) given more fails = ap (λ r. r >>= more) fails
fails_first Memory given more fails = tt

abbrev pub result_of : (A : Type 0) → Result A LoadRefused → Result A LoadRefused
result_of A r = r

-- a refusal is one whatever would have been given
pub other_err : {A B : Type 0} (e f : LoadRefused) → IsErrOf (result_of A (Err e)) f → IsErrOf (result_of B (Err e)) f
other_err {A} {B} e f same = let inner : e ≡ f = cc in ap (λ (x : LoadRefused). result_of B (Err x)) inner

-- ---- reading a file

abbrev read_as : Result (List ℕ) ReadRefused → Result (List ℕ) ReadRefused
read_as r = r

gives_same : {Y : Type 0} (r : Result Y LoadRefused) → Gives r r
gives_same (Ok x) = refl
gives_same (Err (Read name)) = tt
gives_same (Err (Yaml name fault)) = refl
gives_same (Err (Conf fault)) = refl
gives_same (Err (IncludeTwice name)) = refl
gives_same (Err (IncludeDepth name)) = refl
gives_same (Err (Absent name)) = refl
gives_same (Err Memory) = tt

abbrev refused_with : ReadRefused → Result (List ℕ) ReadRefused
refused_with why = Err why

-- of a text that was read under the file's name
pub told_text : (contents : Option Contents) (i : Include) (name text : List ℕ) (r : Trees) → name ≡ i.name
    → ((whole : List ℕ) → Tells contents name (Some whole) → text ≡ take 1048577 whole) → (Tells contents name None → ⊥)
    → Gives r (text_tree i.name (read_of text)) → GivesTold contents r (λ held. tree_of i (held i.name))
told_text contents i name text r same present missing gives = λ held is.
    by_file held (held 0 i.name) (λ file e. ap (λ (c : Option Contents). told_now c name) is ∙ ap (λ (n : List ℕ). Some (held 0 n)) same ∙ ap (λ (f : Option (List ℕ)). Some f) e) refl
  where
    by_file : (held : Contents) (file : Option (List ℕ)) → ((f : Option (List ℕ)) → held 0 i.name ≡ f → Tells contents name f) → held 0 i.name ≡ file → Gives r (tree_of i file)
    by_file held None tells is = absurd (missing (tells None is))
    by_file held (Some whole) tells is =
        let as_whole : read_of text ≡ read_of whole = ap read_of (present whole (tells (Some whole) is)) ∙ read_front whole in
        subst (λ x. Gives r (text_tree i.name x)) as_whole gives

-- of a file that wasn't read
pub told_unread : (contents : Option Contents) (i : Include) (name : List ℕ) (why : ReadRefused) → name ≡ i.name
    → ((file : Option (List ℕ)) → Tells contents name file → IsErrOf (refused_with why) reads.Absent → file ≡ None)
    → GivesTold contents (unread i why) (λ held. tree_of i (held i.name))
told_unread contents i name reads.Absent same absent = λ held is.
    let none : held 0 i.name ≡ None = absent (held 0 i.name) (ap (λ (c : Option Contents). told_now c name) is ∙ ap (λ (n : List ℕ). Some (held 0 n)) same) refl in
    rw none (gives_same (unread i reads.Absent))
told_unread contents i name reads.Failed same absent = λ held is. tt
told_unread contents i name reads.Memory same absent = λ held is. tt

-- a text that was read is no refusal
pub no_refusal : (text : List ℕ) → IsErrOf (read_as (Ok text)) reads.Absent ⊎ IsErrOf (read_as (Ok text)) reads.Failed → ⊥
no_refusal text (inl e) = cc
no_refusal text (inr e) = cc

-- ---- levels

abbrev pub Reached : Include → Gathered → Bool → Type 0
Reached i g b = was_reached i.name g.reached ≡ b

module _ (finds : Finds) (i : Include) (g : Gathered) where
  pub gather_twice : (n : ℕ) (name : List ℕ) → Reached i g true → name ≡ i.name → gather finds n i g ≡ Err (IncludeTwice name)
  unfolding gather
  gather_twice zero name is same = rw (is, same) refl
  gather_twice (suc n) name is same = rw (is, same) refl

  pub gather_deep : (n : ℕ) (name : List ℕ) → Reached i g false → n ≡ 0 → name ≡ i.name → gather finds n i g ≡ Err (IncludeDepth name)
  unfolding gather
  gather_deep zero name is none same = rw (is, same) refl
  gather_deep (suc n) name is none same = absurd (omega arith)

  gather_within : (n : ℕ) → Reached i g false → 0 < n → gather finds n i g ≡ (finds i >>= with_includes (gather finds (n - 1)) i g)
  unfolding gather
  gather_within zero is some = absurd (omega arith)
  gather_within (suc n) is some = let e : suc n - 1 ≡ n = omega arith in rw (e, is) refl

  -- the file's tree is refused
  pub gather_untold : (n : ℕ) (e : LoadRefused) → Reached i g false → 0 < n → Fails e (finds i) → Fails e (gather finds n i g)
  gather_untold n e is some fails = subst (λ (r : Files). Fails e r) (sym (gather_within n is some)) (fails_first e (finds i) (with_includes (gather finds (n - 1)) i g) fails)

  -- the file is passed over
  pub gather_none : (n : ℕ) → Reached i g false → 0 < n → finds i ≡ Ok None → gather finds n i g ≡ Ok g
  gather_none n is some none = gather_within n is some ∙ ap (λ (r : Trees). r >>= with_includes (gather finds (n - 1)) i g) none

  module _ (n : ℕ) (t : Tree) (is : Reached i g false) (some : 0 < n) (told : finds i ≡ Ok (Some t)) where
    pub gather_tree : gather finds n i g ≡ (taken i g t >>= each (gather finds (n - 1)) (includes_of i.name (entries_of t)))
    gather_tree = gather_within n is some ∙ ap (λ (r : Trees). r >>= with_includes (gather finds (n - 1)) i g) told

    -- its tree is not taken
    pub gather_wrong : (e : LoadRefused) → Fails e (taken i g t) → Fails e (gather finds n i g)
    gather_wrong e fails = subst (λ (r : Files). Fails e r) (sym gather_tree) (fails_first e (taken i g t) (each (gather finds (n - 1)) (includes_of i.name (entries_of t))) fails)

    -- its tree is taken, and its includes follow
    pub gather_more : (more : Gathered) (r : Files) → taken i g t ≡ Ok more → Gives r (each (gather finds (n - 1)) (includes_of i.name (entries_of t)) more) → Gives r (gather finds n i g)
    gather_more more r takes gives =
        subst (λ (x : Files). Gives r x) (sym (gather_tree ∙ ap (λ (x : Files). x >>= each (gather finds (n - 1)) (includes_of i.name (entries_of t))) takes)) gives

-- ---- one after the other

module _ (one : Include → Gathered → Files) where
  each_first : (i : Include) (is : List Include) (g : Gathered) → each one (i ∷ is) g ≡ (one i g >>= each one is)
  unfolding each
  each_first i is g = refl

  each_none : (g : Gathered) → each one [] g ≡ Ok g
  unfolding each
  each_none g = refl

  module _ (is : List Include) (k : ℕ) (g : Gathered) where
    item_first : (i : Include) → k < length is → i ≡ get_or is k i → drop k is ≡ i ∷ drop (k + 1) is
    item_first i below here = drop_more is k i below ∙ ap (λ (x : Include). x ∷ drop (k + 1) is) (sym here)

    module _ (i : Include) (below : k < length is) (here : i ≡ get_or is k i) where
      from_item : each one (drop k is) g ≡ (one i g >>= each one (drop (k + 1) is))
      from_item = ap (λ (l : List Include). each one l g) (item_first i below here) ∙ each_first i (drop (k + 1) is) g

      -- the next of them is refused
      pub each_fails : (all : Files) (e : LoadRefused) → each one (drop k is) g ≡ all → Fails e (one i g) → Fails e all
      each_fails all e left fails = subst (λ (r : Files). Fails e r) (sym from_item ∙ left) (fails_first e (one i g) (each one (drop (k + 1) is)) fails)

      -- the next of them gives this
      pub each_next : (all : Files) (next : Gathered) → each one (drop k is) g ≡ all → one i g ≡ Ok next → each one (drop (k + 1) is) next ≡ all
      each_next all next left gives = sym (ap (λ (r : Files). r >>= each one (drop (k + 1) is)) gives) ∙ (sym from_item ∙ left)

    -- none is left
    pub each_end : (all : Files) → length is ≤ k → each one (drop k is) g ≡ all → all ≡ Ok g
    each_end all past left = sym left ∙ ap (λ (l : List Include). each one l g) (drop_all k is past) ∙ each_none g

-- ---- a read that fails

module _ (file : List ℕ) (held : Held) where
  -- where each read of a file fails, gathering is refused for that or goes as before
  abbrev Same : Files → Files → Type 0
  Same a b = (a ≡ b) ⊎ (a ≡ Err (Read file))

  abbrev One : Type 0
  One = Include → Gathered → Files

  abbrev GoSame : One → One → Type 0
  GoSame one other = (i : Include) (g : Gathered) → Same (one i g) (other i g)

  finds_same : (i : Include) → (unread_at file held i ≡ held_by held i) ⊎ (unread_at file held i ≡ Err (Read file))
  finds_same i = by (bytes_eq i.name file) refl
    where
      by : (b : Bool) → bytes_eq i.name file ≡ b → (unread_at file held i ≡ held_by held i) ⊎ (unread_at file held i ≡ Err (Read file))
      by true is = inr (cond-true _ _ _ is)
      by false is = inl (cond-false _ _ _ is)

  first_same : (one other : One) (is : List Include) (a b : Files) → Same a b → ((g : Gathered) → Same (each one is g) (each other is g)) → Same (a >>= each one is) (b >>= each other is)
  first_same one other is a b (inr e) same = inr (ap (λ (x : Files). x >>= each one is) e)
  first_same one other is a (Ok g) (inl e) same = subst (λ (x : Files). Same (x >>= each one is) (each other is g)) (sym e) (same g)
  first_same one other is a (Err why) (inl e) same = inl (ap (λ (x : Files). x >>= each one is) e)

  each_same : (one other : One) → GoSame one other → (is : List Include) (g : Gathered) → Same (each one is g) (each other is g)
  unfolding each
  each_same one other same [] g = inl refl
  each_same one other same (i ∷ is) g = first_same one other is (one i g) (other i g) (same i g) (each_same one other same is)

  tree_same : (one other : One) → GoSame one other → (i : Include) (g : Gathered) (r : Trees) → Same (r >>= with_includes one i g) (r >>= with_includes other i g)
  tree_same one other same i g (Ok None) = inl refl
  tree_same one other same i g (Ok (Some t)) = first_same one other (includes_of i.name (entries_of t)) (taken i g t) (taken i g t) (inl refl) (each_same one other same (includes_of i.name (entries_of t)))
  tree_same one other same i g (Err e) = inl refl

  within_same : (one other : One) → GoSame one other → (i : Include) (g : Gathered) → Same (unread_at file held i >>= with_includes one i g) (held_by held i >>= with_includes other i g)
  within_same one other same i g = by (finds_same i)
    where
      by : (unread_at file held i ≡ held_by held i) ⊎ (unread_at file held i ≡ Err (Read file)) → Same (unread_at file held i >>= with_includes one i g) (held_by held i >>= with_includes other i g)
      by (inl e) = subst (λ (x : Trees). Same (x >>= with_includes one i g) (held_by held i >>= with_includes other i g)) (sym e) (tree_same one other same i g (held_by held i))
      by (inr e) = inr (ap (λ (x : Trees). x >>= with_includes one i g) e)

  reached_same : (b : Bool) (x y z : Files) → Same y z → Same (if b then x else y) (if b then x else z)
  reached_same true x y z same = inl refl
  reached_same false x y z same = same

  gather_same : (n : ℕ) → GoSame (gather (unread_at file held) n) (gather (held_by held) n)
  unfolding gather
  gather_same zero i g = inl refl
  gather_same (suc n) i g = reached_same (was_reached i.name g.reached) (Err (IncludeTwice i.name)) (unread_at file held i >>= with_includes (gather (unread_at file held) n) i g) (held_by held i >>= with_includes (gather (held_by held) n) i g)
      (within_same (gather (unread_at file held) n) (gather (held_by held) n) (gather_same n) i g)

  -- the read of the file itself
  pub gather_unread : (n : ℕ) (i : Include) (g : Gathered) → Reached i g false → 0 < n → file ≡ i.name → gather (unread_at file held) n i g ≡ Err (Read file)
  gather_unread n i g is some named =
      let equal : bytes_eq i.name file ≡ true = (bytes_eq-Decides i.name file).1 (sym named) in
      gather_within (unread_at file held) i g n is some ∙ ap (λ (r : Trees). r >>= with_includes (gather (unread_at file held) (n - 1)) i g) (cond-true _ _ _ equal)

  -- a read of a file below
  pub gather_below : (n : ℕ) (i : Include) (g : Gathered) (t : Tree) (more : Gathered) → Reached i g false → 0 < n → held_by held i ≡ Ok (Some t) → taken i g t ≡ Ok more
      → each (gather (unread_at file held) (n - 1)) (includes_of i.name (entries_of t)) more ≡ Err (Read file) → gather (unread_at file held) n i g ≡ Err (Read file)
  gather_below n i g t more is some found takes below = gather_within (unread_at file held) i g n is some ∙ by (finds_same i)
    where
      by : (unread_at file held i ≡ held_by held i) ⊎ (unread_at file held i ≡ Err (Read file)) → (unread_at file held i >>= with_includes (gather (unread_at file held) (n - 1)) i g) ≡ Err (Read file)
      by (inl e) = ap (λ (r : Trees). r >>= with_includes (gather (unread_at file held) (n - 1)) i g) (e ∙ found) ∙ (ap (λ (x : Files). x >>= each (gather (unread_at file held) (n - 1)) (includes_of i.name (entries_of t))) takes ∙ below)
      by (inr e) = ap (λ (r : Trees). r >>= with_includes (gather (unread_at file held) (n - 1)) i g) e

  -- one after the other: what is left gives what all give, or all are refused for the read
  abbrev pub Left : (levels k : ℕ) → List Include → (start now : Gathered) → Type 0
  Left levels k is start now = (each (gather (unread_at file held) levels) (drop k is) now ≡ each (gather (unread_at file held) levels) is start) ⊎ (each (gather (unread_at file held) levels) is start ≡ Err (Read file))

  pub left_next : (levels k : ℕ) (is : List Include) (start now next : Gathered) (i : Include) → k < length is → i ≡ get_or is k i → Left levels k is start now → gather (held_by held) levels i now ≡ Ok next → Left levels (k + 1) is start next
  left_next levels k is start now next i below here (inr e) gives = inr e
  left_next levels k is start now next i below here (inl e) gives = by (gather_same levels i now)
    where
      by : Same (gather (unread_at file held) levels i now) (gather (held_by held) levels i now) → Left levels (k + 1) is start next
      by (inl same) = inl (each_next (gather (unread_at file held) levels) is k now i below here (each (gather (unread_at file held) levels) is start) next e (same ∙ gives))
      by (inr fails) = inr (sym e ∙ (from_item (gather (unread_at file held) levels) is k now i below here ∙ ap (λ (r : Files). r >>= each (gather (unread_at file held) levels) (drop (k + 1) is)) fails))

  pub left_unread : (levels k : ℕ) (is : List Include) (start now : Gathered) (i : Include) → k < length is → i ≡ get_or is k i → Left levels k is start now → gather (unread_at file held) levels i now ≡ Err (Read file) → each (gather (unread_at file held) levels) is start ≡ Err (Read file)
  left_unread levels k is start now i below here (inr e) fails = e
  left_unread levels k is start now i below here (inl e) fails = sym e ∙ (from_item (gather (unread_at file held) levels) is k now i below here ∙ ap (λ (r : Files). r >>= each (gather (unread_at file held) levels) (drop (k + 1) is)) fails)
