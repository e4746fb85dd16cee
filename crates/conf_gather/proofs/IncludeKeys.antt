-- No key that gathering leaves is an include key.
use Rattle.std.proofs.Common.{◌≡◌, ℕ, Bool, true, false, List, [], ◌∷◌, ◌++◌, Ok, refl, subst}
use Rattle.std.specs.Prelude.{is_none, if◌then◌else◌}
use Rattle.std.specs.List.{AllByRecursion}
use Rattle.yaml_tree.specs.declared.tree.Key.{Key}
use Rattle.yaml_tree.specs.declared.tree.Pair.{Pair}
use Rattle.yaml_tree.specs.declared.tree.Tree.{Tree}
use Rattle.yaml_tree.specs.declared.tree.Tree.TheVariants as trees
use Rattle.yaml_subset.specs.Entries.{key_eq}
use Rattle.conf_shape.specs.Reads.{entries_of}
use Rattle.conf_gather.specs.declared.take.Gathered.{Gathered}
use Rattle.conf_gather.specs.Includes.{is_include_key}
use Rattle.conf_gather.specs.WrongTypes.{value_of, is_section}
use Rattle.conf_gather.specs.Joined.{extended, with_more, joined_entry, joined}
use Rattle.conf_gather.specs.Gathered.{Held, held_by, gathered}
use Rattle.conf_gather.proofs.KeepLemmas.{Takes, taken_parts, gathered_keeps}

abbrev AreLeft : List Pair → Type 0
AreLeft pairs = AllByRecursion (λ p. is_include_key p.key ≡ false) pairs

push_left : (ps : List Pair) (p : Pair) → AreLeft ps → is_include_key p.key ≡ false → AreLeft (ps ++ p ∷ [])
push_left [] p all is = (is, tt)
push_left (q ∷ qs) p all is = (all.0, push_left qs p all.1 is)

more_step : (b : Bool) (more ps joint : List Pair) (p : Pair) → AreLeft (p ∷ ps) → AreLeft joint → AreLeft (if b then extended p more ∷ ps else p ∷ joint)
more_step true more ps joint p all later = (all.0, all.1)
more_step false more ps joint p all later = (all.0, later)

more_left : (key : Key) (more ps : List Pair) → AreLeft ps → AreLeft (with_more key more ps)
more_left key more [] all = tt
more_left key more (p ∷ ps) all = more_step (key_eq p.key key) more ps (with_more key more ps) p all (more_left key more ps all.1)

by_ways : (b c d : Bool) (old pushed more : List Pair) → AreLeft old → (b ≡ false → AreLeft pushed) → AreLeft more → AreLeft (if b then old else if c then pushed else if d then more else old)
by_ways true c d old pushed more o p m = o
by_ways false true d old pushed more o p m = p refl
by_ways false false true old pushed more o p m = m
by_ways false false false old pushed more o p m = o

joined_left : (ps g : List Pair) → AreLeft g → AreLeft (joined g ps)
joined_left [] g all = all
joined_left (p ∷ ps) g all =
    joined_left ps (joined_entry g p)
    (by_ways (is_include_key p.key) (is_none (value_of p.key g)) (is_section p.key) g (g ++ p ∷ []) (with_more p.key (entries_of p.value) g) all (push_left g p all) (more_left p.key (entries_of p.value) g all))

taken_left : Takes AreLeft (λ t. Unit {0})
taken_left i g t all tree more is = subst (λ (x : Gathered). AreLeft x.pairs) (taken_parts i g t more is).1 (joined_left (entries_of t) g.pairs all)

-- a gathered tree is a map without include keys
pub no_include_key : (held : Held) (name : List ℕ) (t : Tree) → gathered held name ≡ Ok t → (pairs : List Pair) × (t ≡ trees.Map pairs) × AllByRecursion (λ p. is_include_key p.key ≡ false) pairs
no_include_key held name t is =
    let whole = gathered_keeps AreLeft (λ u. Unit {0}) taken_left (held_by held) (λ i u e. tt) name t tt is in
    (whole.0, whole.2, whole.1)
