-- A file that includes no other gives its own entries.
use Rattle.std.proofs.Common.{◌≡◌, ℕ, ◌-◌, Bool, true, false, List, [], ◌∷◌, ◌++◌, Option, Some, None, Result, Ok, refl, sym, ap, ◌∙◌, arith}
use Rattle.std.specs.Prelude.{map, codes, is_some, is_none, if◌then◌else◌}
use Rattle.std.specs.List.{AllByRecursion}
use Rattle.std.specs.Option.{option_map, option_map_or, option_or}
use Rattle.std.proofs.lemmas.Bool.{cond-true, cond-false}
use Rattle.std.proofs.lemmas.List.{append-nil, append_assoc}
use Rattle.yaml_tree.specs.declared.tree.Key.{Key}
use Rattle.yaml_tree.specs.declared.tree.Pair.{Pair}
use Rattle.yaml_tree.specs.declared.tree.Tree.{Tree, out-Tree, out-roll-Tree}
use Rattle.yaml_tree.specs.declared.tree.Tree.TheVariants as trees
use Rattle.yaml_tree.specs.declared.tree.Tree.TheOpen as open_tree
use Rattle.yaml_subset.specs.Grammar.{Reads}
use Rattle.yaml_subset.proofs.SoundTrees.{PairsWithin}
use Rattle.yaml_subset.proofs.SoundBlocks.{text_sound}
use Rattle.conf_shape.specs.Sections.{is_key, key_text}
use Rattle.conf_shape.specs.Reads.{value_at, items_of, words_of, entries_in, entries_of}
use Rattle.conf_shape.specs.declared.refused.ConfCause.TheVariants.{WrongType, Duplicate}
use Rattle.conf_shape.specs.declared.refused.ConfFault.{ConfFault}
use Rattle.conf_gather.specs.declared.refused.LoadRefused.{LoadRefused}
use Rattle.conf_gather.specs.declared.include.Role.TheVariants.{Main, Needed, Optional}
use Rattle.conf_gather.specs.declared.include.Include.{Include}
use Rattle.conf_gather.specs.declared.take.Gathered.{Gathered}
use Rattle.conf_gather.specs.Gives.{◌>>=◌}
use Rattle.conf_gather.specs.Includes.{is_include_key, included_as, includes_of}
use Rattle.conf_gather.specs.WrongTypes.{is_map_in, is_document, is_section, value_of, no_names, wrong_entries}
use Rattle.conf_gather.specs.Joined.{first_in_both, given_again, all_given_again, with_more, joined_entry, joined}
use Rattle.conf_gather.specs.Gathered.{Held, held_by, tree_of, text_tree, fault_at, entries_fault, tree_fault, with_tree, unless_fault, taken, each, gather, nothing, main_file, tree_with, gathered}
use Rattle.conf_gather.proofs.GatherLemmas.{gather_tree}
use Rattle.conf_gather.proofs.ReadLemmas.{tree_read}
use Rattle.conf_gather.proofs.SoundLemmas.{or_first, or_second, found_has, parts_of, map_parts}

out_map : (pairs : List Pair) → out-Tree (trees.Map pairs) ≡ open_tree.Map pairs
out_map pairs = ap out-Tree (sym (trees.rolls-Map pairs)) ∙ out-roll-Tree (open_tree.Map pairs)

pub own_entries : (pairs : List Pair) → entries_of (trees.Map pairs) ≡ pairs
own_entries pairs = ap entries_in (out_map pairs)

-- ---- no include key

abbrev pub NoIncludes : List Pair → Type 0
NoIncludes pairs = AllByRecursion (λ p. is_include_key p.key ≡ false) pairs

abbrev IsNone : List ℕ → List Pair → Type 0
IsNone name pairs = AllByRecursion (λ p. is_key name p.key ≡ false) pairs

each_not : (pairs : List Pair) → NoIncludes pairs → IsNone (codes "include") pairs × IsNone (codes "include-optional") pairs
each_not [] free = (tt, tt)
each_not (p ∷ ps) free =
    let later = each_not ps free.1 in (
      (or_first (is_key (codes "include") p.key) (is_key (codes "include-optional") p.key) free.0, later.0),
      (or_second (is_key (codes "include") p.key) (is_key (codes "include-optional") p.key) free.0, later.1),
    )

none_at : (name : List ℕ) (pairs : List Pair) → IsNone name pairs → value_at name pairs ≡ None
none_at name [] all = refl
none_at name (p ∷ ps) all = cond-false (is_key name p.key) (Some p.value) (value_at name ps) all.0 ∙ none_at name ps all.1

abbrev listed : (including : List ℕ) → Option Tree → Option Tree → List Include
listed including needed optional = map (included_as Needed including) (map words_of (option_map_or items_of needed [])) ++ map (included_as Optional including) (map words_of (option_map_or items_of optional []))

includes_none : (including : List ℕ) (pairs : List Pair) → NoIncludes pairs → includes_of including pairs ≡ []
includes_none including pairs free =
    let apart = each_not pairs free in
    ap (λ (o : Option Tree). listed including o (value_at (codes "include-optional") pairs)) (none_at (codes "include") pairs apart.0)
    ∙ ap (λ (o : Option Tree). listed including None o) (none_at (codes "include-optional") pairs apart.1)

-- ---- nothing is wrong

wrong_none : (g pairs : List Pair) → NoIncludes pairs → wrong_entries false g pairs ≡ None
wrong_none g [] free = refl
wrong_none g (p ∷ ps) free =
    ap (λ (o : Option (List ℕ)). option_or o (wrong_entries false g ps)) (cond-false (is_include_key p.key) (no_names (key_text p.key) p.value) None free.0) ∙ wrong_none g ps free.1

nothing_in_both : (pairs : List Pair) → first_in_both [] pairs ≡ None
nothing_in_both [] = refl
nothing_in_both (p ∷ ps) = nothing_in_both ps

abbrev no_path : Option (List ℕ)
no_path = None

both_none : (b : Bool) → (if b then no_path else no_path) ≡ no_path
both_none true = refl
both_none false = refl

given_none : (p : Pair) → given_again [] p ≡ None
given_none p =
    ap (λ (o : Option Key). if is_section p.key then option_map (λ key. key_text p.key ++ 46 ∷ key_text key) o else no_path) (nothing_in_both (entries_of p.value))
    ∙ both_none (is_section p.key)

again_none : (pairs : List Pair) → all_given_again [] pairs ≡ None
again_none [] = refl
again_none (p ∷ ps) = ap (λ (o : Option (List ℕ)). option_or o (all_given_again [] ps)) (given_none p) ∙ again_none ps

no_fault : (pairs : List Pair) → NoIncludes pairs → tree_fault Main [] (trees.Map pairs) ≡ None
no_fault pairs free =
    let document : is_document (trees.Map pairs) ≡ true = ap (is_map_in true) (out_map pairs) in
    cond-true (is_document (trees.Map pairs)) (entries_fault Main [] (entries_of (trees.Map pairs))) (fault_at WrongType (Some (codes "."))) document
    ∙ ap (entries_fault Main []) (own_entries pairs)
    ∙ ap (λ (o : Option (List ℕ)). option_or (fault_at WrongType o) (fault_at Duplicate (all_given_again [] pairs))) (wrong_none [] pairs free)
    ∙ ap (fault_at Duplicate) (again_none pairs)

-- ---- what is joined with nothing

none_of : (found : Option Tree) → is_some found ≡ false → is_none found ≡ true
none_of None e = refl
none_of (Some v) e = absurd cc

joined_own : (n : ℕ) (done pairs : List Pair) → PairsWithin n done pairs → NoIncludes pairs → joined done pairs ≡ done ++ pairs
joined_own n done [] w free = sym (append-nil done)
joined_own n done (p ∷ ps) w free =
    let parts = parts_of n done p ps w in
    let new : is_none (value_of p.key done) ≡ true = none_of (value_of p.key done) (found_has p.key done ∙ parts.first) in
    let rest : List Pair = if is_section p.key then with_more p.key (entries_of p.value) done else done in
    let entry : joined_entry done p ≡ done ++ p ∷ [] =
    cond-false (is_include_key p.key) done (if is_none (value_of p.key done) then done ++ p ∷ [] else rest) free.0 ∙ cond-true (is_none (value_of p.key done)) (done ++ p ∷ []) rest new in
    ap (λ (g : List Pair). joined g ps) entry ∙ joined_own n (done ++ p ∷ []) ps parts.more free.1 ∙ append_assoc done (p ∷ []) ps

-- ---- the whole

each_nil : (one : Include → Gathered → Result Gathered LoadRefused) (g : Gathered) → each one [] g ≡ Ok g
unfolding each
each_nil one g = refl

-- a file that includes no other gives its own entries
pub own_gathered : (held : Held) (name text : List ℕ) (pairs : List Pair) → held name ≡ Some text → Reads text (trees.Map pairs) → NoIncludes pairs → gathered held name ≡ Ok (trees.Map pairs)
own_gathered held name text pairs has reads free =
    let t : Tree = trees.Map pairs in
    let i = main_file name in
    let found : held_by held i ≡ Ok (Some t) = ap (tree_of i) has ∙ ap (text_tree name) (tree_read text t reads) in
    let takes : taken i nothing t ≡ Ok (with_tree i nothing t) = ap (λ (fault : Option ConfFault). unless_fault fault (with_tree i nothing t)) (no_fault pairs free) in
    let below : includes_of name (entries_of t) ≡ [] = ap (includes_of name) (own_entries pairs) ∙ includes_none name pairs free in
    let own : joined [] (entries_of t) ≡ pairs = ap (joined []) (own_entries pairs) ∙ joined_own 31 [] pairs (map_parts 31 pairs (text_sound 32 text t reads)) free in
    let whole : gather (held_by held) 9 i nothing ≡ Ok (with_tree i nothing t) =
    gather_tree (held_by held) i nothing 9 t refl (omega arith) found
    ∙ ap (λ (r : Result Gathered LoadRefused). r >>= each (gather (held_by held) (9 - 1)) (includes_of name (entries_of t))) takes
    ∙ ap (λ (is : List Include). each (gather (held_by held) (9 - 1)) is (with_tree i nothing t)) below
    ∙ each_nil (gather (held_by held) (9 - 1)) (with_tree i nothing t) in
    ap (λ (r : Result Gathered LoadRefused). r >>= tree_with) whole ∙ ap (λ (ps : List Pair). Ok (trees.Map ps)) own
