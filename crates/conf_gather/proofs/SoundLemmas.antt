-- What is gathered is sound, and nests no more lists and maps than a text may.
use Rattle.std.proofs.Common.{◌≡◌, ℕ, suc, ◌≤◌, ℤ, Bool, true, false, ◌||◌, List, [], ◌∷◌, ◌++◌, Option, Some, None, Result, Ok, Err, refl, sym, ap, subst, ◌∙◌, arith}
use Rattle.std.specs.Prelude.{map, codes, is_some, is_none, if◌then◌else◌}
use Rattle.std.specs.Option.{option_map, option_map_or, option_or}
use Rattle.std.proofs.lemmas.Bool.{cond-true, cond-false}
use Rattle.std.proofs.lemmas.Bool.Decides.{Decides-int_eq}
use Rattle.std.proofs.lemmas.Slice.Eq.{bytes_eq-Decides}
use Rattle.std.proofs.lemmas.List.{append-nil, append_assoc}
use Rattle.std.proofs.lemmas.Option.{none-some}
use Rattle.yaml_tree.specs.declared.tree.Key.{Key}
use Rattle.yaml_tree.specs.declared.tree.Key.TheVariants as keys
use Rattle.yaml_tree.specs.declared.tree.Pair.{Pair}
use Rattle.yaml_tree.specs.declared.tree.Tree.{Tree, out-Tree, roll-Tree, roll-out-Tree}
use Rattle.yaml_tree.specs.declared.tree.Tree.TheVariants as trees
use Rattle.yaml_tree.specs.declared.tree.Tree.TheOpen.{Tree-F}
use Rattle.yaml_tree.specs.declared.tree.Tree.TheOpen as open_tree
use Rattle.yaml_subset.specs.declared.fault.YamlFault.{YamlFault}
use Rattle.yaml_subset.specs.Entries.{key_eq, has_key}
use Rattle.yaml_subset.specs.Levels.{levels}
use Rattle.yaml_subset.specs.ReadBack.{is_key, is_sound, entries_sound, entry_sound}
use Rattle.yaml_subset.specs.Reading.{read_of}
use Rattle.yaml_subset.proofs.TreeLevels.{levels_map, levels_pair}
use Rattle.yaml_subset.proofs.PrintedTrees.{sound_map, sound_entries, key_at, has_key_among, keys_push}
use Rattle.yaml_subset.proofs.SoundTrees.{IsWithin, PairsWithin, no_pairs, pairs_more, map_within}
use Rattle.yaml_subset.proofs.SoundBlocks.{text_sound}
use Rattle.conf_shape.specs.Sections.{key_text}
use Rattle.conf_shape.specs.Reads.{entries_in, entries_of}
use Rattle.conf_shape.specs.declared.refused.ConfCause.TheVariants.{WrongType, Duplicate}
use Rattle.conf_shape.specs.declared.refused.ConfFault.{ConfFault}
use Rattle.conf_gather.specs.declared.refused.LoadRefused.TheVariants.{Absent}
use Rattle.conf_gather.specs.declared.include.Include.{Include}
use Rattle.conf_gather.specs.declared.take.Gathered.{Gathered}
use Rattle.conf_gather.specs.Includes.{is_included, is_optional, is_include_key}
use Rattle.conf_gather.specs.WrongTypes.{value_of, is_section, is_document, wrong_entries}
use Rattle.conf_gather.specs.Joined.{first_in_both, gathered_under, given_again, all_given_again, extended, with_more, joined_entry, joined}
use Rattle.conf_gather.specs.Gathered.{Held, held_by, tree_of, text_tree, fault_at, gathered}
use Rattle.conf_gather.proofs.ReadLemmas.{read_tree_of}
use Rattle.conf_gather.proofs.KeepLemmas.{Takes, taken_parts, gathered_keeps}

-- ---- keys

pub same_key : (a b : Key) → key_eq a b ≡ true → a ≡ b
same_key (keys.Int m) (keys.Int n) e = ap (λ (x : ℤ). keys.Int x) ((Decides-int_eq m n).0 e)
same_key (keys.Int m) (keys.Text t) e = absurd cc
same_key (keys.Text s) (keys.Int n) e = absurd cc
same_key (keys.Text s) (keys.Text t) e = ap (λ (x : List ℕ). keys.Text x) ((bytes_eq-Decides s t).0 e)

or_neither : (b c d : Bool) → b || c ≡ false → (c ≡ false → d ≡ false) → b || d ≡ false
or_neither true c d e f = e
or_neither false c d e f = f e

pub or_first : (b c : Bool) → b || c ≡ false → b ≡ false
or_first true c e = absurd cc
or_first false c e = refl

pub or_second : (b c : Bool) → b || c ≡ false → c ≡ false
or_second true c e = absurd cc
or_second false c e = e

-- a key that neither list has
in_neither : (ps qs : List Pair) (k : Key) → has_key ps k ≡ false → has_key qs k ≡ false → has_key (ps ++ qs) k ≡ false
unfolding has_key
in_neither [] qs k a b = b
in_neither (p ∷ ps) qs k a b = or_neither (key_eq p.key k) (has_key ps k) (has_key (ps ++ qs) k) a (λ later. in_neither ps qs k later b)

not_in_front : (ps : List Pair) (p : Pair) (k : Key) → has_key (ps ++ p ∷ []) k ≡ false → has_key ps k ≡ false
unfolding has_key
not_in_front [] p k e = refl
not_in_front (q ∷ qs) p k e = or_neither (key_eq q.key k) (has_key (qs ++ p ∷ []) k) (has_key qs k) e (λ later. not_in_front qs p k later)

not_last : (ps : List Pair) (p : Pair) (k : Key) → has_key (ps ++ p ∷ []) k ≡ false → key_eq p.key k ≡ false
unfolding has_key
not_last [] p k e = or_first (key_eq p.key k) false e
not_last (q ∷ qs) p k e = not_last qs p k (or_second (key_eq q.key k) (has_key (qs ++ p ∷ []) k) e)

-- a key has a value exactly where one of the entries has it
found_step : (b : Bool) (v : Tree) (found : Option Tree) (has : Bool) → is_some found ≡ has → is_some (if b then Some v else found) ≡ b || has
found_step true v found has e = refl
found_step false v found has e = e

pub found_has : (k : Key) (ps : List Pair) → is_some (value_of k ps) ≡ has_key ps k
unfolding has_key
found_has k [] = refl
found_has k (p ∷ ps) = found_step (key_eq p.key k) p.value (value_of k ps) (has_key ps k) (found_has k ps)

none_some : (found : Option Tree) → is_none found ≡ true → is_some found ≡ false
none_some None e = refl
none_some (Some v) e = absurd cc

-- ---- sound entries

pub record Parts (n : ℕ) (before : List Pair) (p : Pair) (ps : List Pair) : Type 0 where
  pub key : is_key p.key ≡ true
  pub first : has_key before p.key ≡ false
  pub value : IsWithin n p.value
  pub more : PairsWithin n (before ++ p ∷ []) ps

pub parts_of : (n : ℕ) (before : List Pair) (p : Pair) (ps : List Pair) → PairsWithin n before (p ∷ ps) → Parts n before p ps
parts_of n before p ps w =
    let s = sound_entries (map key_at before) p ps w.sound in
    record {
      key = s.key;
      first = has_key_among before p.key ∙ s.apart;
      value = record { sound = s.value; nested = omega (arith, levels_pair p, w.nested) };
      more = record {
        sound = subst (λ (ks : List Key). entries_sound ks (map entry_sound ps) ≡ true) (sym (keys_push before p)) s.more;
        nested = omega (arith, w.nested);
      };
    }

pub map_parts : (n : ℕ) (pairs : List Pair) → IsWithin (suc n) (trees.Map pairs) → PairsWithin n [] pairs
map_parts n pairs w = record { sound = sym (sound_map pairs) ∙ w.sound; nested = omega (arith, levels_map pairs, w.nested) }

entries_in_within : (n : ℕ) (t : Tree) (x : Tree-F Tree Pair) → t ≡ roll-Tree x → IsWithin (suc n) t → PairsWithin n [] (entries_in x)
entries_in_within n t open_tree.Null is w = no_pairs n []
entries_in_within n t (open_tree.Bool b) is w = no_pairs n []
entries_in_within n t (open_tree.Int m) is w = no_pairs n []
entries_in_within n t (open_tree.Text text) is w = no_pairs n []
entries_in_within n t (open_tree.List items) is w = no_pairs n []
entries_in_within n t (open_tree.Map pairs) is w = map_parts n pairs (subst (IsWithin (suc n)) (is ∙ trees.rolls-Map pairs) w)

entries_within : (n : ℕ) (t : Tree) → IsWithin (suc n) t → PairsWithin n [] (entries_of t)
entries_within n t w = entries_in_within n t (out-Tree t) (sym (roll-out-Tree t)) w

-- an entry more at the end, whose key is new
push_within : (n : ℕ) (before ps : List Pair) (p : Pair) → PairsWithin n before ps → is_key p.key ≡ true → has_key (before ++ ps) p.key ≡ false → IsWithin n p.value → PairsWithin n before (ps ++ p ∷ [])
push_within n before [] p w key first value =
    pairs_more n before p [] key (subst (λ (l : List Pair). has_key l p.key ≡ false) (append-nil before) first) value (no_pairs n (before ++ p ∷ []))
push_within n before (q ∷ qs) p w key first value =
    let parts = parts_of n before q qs w in
    pairs_more n before q (qs ++ p ∷ []) parts.key parts.first parts.value
    (push_within n (before ++ q ∷ []) qs p parts.more key (subst (λ (l : List Pair). has_key l p.key ≡ false) (sym (append_assoc before (q ∷ []) qs)) first) value)

none_step : (b : Bool) (k : Key) (found : Option Key) → (if b then Some k else found) ≡ None → (b ≡ false) × (found ≡ None)
none_step true k found e = absurd cc
none_step false k found e = (refl, e)

-- entries more at the end, whose keys are new
append_within : (n : ℕ) (ps done more : List Pair) → PairsWithin n [] (ps ++ done) → PairsWithin n done more → first_in_both ps more ≡ None → PairsWithin n [] (ps ++ (done ++ more))
append_within n ps done [] all w none = subst (λ (l : List Pair). PairsWithin n [] (ps ++ l)) (sym (append-nil done)) all
append_within n ps done (p ∷ more) all w none =
    let parts = parts_of n done p more w in
    let apart = none_step (is_some (value_of p.key ps)) p.key (first_in_both ps more) none in
    let new : has_key (ps ++ done) p.key ≡ false = in_neither ps done p.key (sym (found_has p.key ps) ∙ apart.0) parts.first in
    let next : PairsWithin n [] (ps ++ (done ++ p ∷ [])) = subst (PairsWithin n []) (append_assoc ps done (p ∷ [])) (push_within n [] (ps ++ done) p all parts.key new parts.value) in
    subst (λ (l : List Pair). PairsWithin n [] (ps ++ l)) (append_assoc done (p ∷ []) more) (append_within n ps (done ++ p ∷ []) more next parts.more apart.1)

-- what stands under a key is sound
value_step : (n : ℕ) (b : Bool) (u v : Tree) (later : Option Tree) → IsWithin n u → (later ≡ Some v → IsWithin n v) → (if b then Some u else later) ≡ Some v → IsWithin n v
value_step n true u v later w more is = let same : u ≡ v = cc in subst (IsWithin n) same w
value_step n false u v later w more is = more is

value_within : (n : ℕ) (k : Key) (before ps : List Pair) (v : Tree) → PairsWithin n before ps → value_of k ps ≡ Some v → IsWithin n v
value_within n k before [] v w e = absurd (none-some v e)
value_within n k before (p ∷ ps) v w e =
    let parts = parts_of n before p ps w in
    value_step n (key_eq p.key k) p.value v (value_of k ps) parts.value (λ later. value_within n k (before ++ p ∷ []) ps v parts.more later) e

under_within : (n : ℕ) (found : Option Tree) → ((v : Tree) → found ≡ Some v → IsWithin (suc n) v) → PairsWithin n [] (option_map_or entries_of found [])
under_within n None h = no_pairs n []
under_within n (Some v) h = entries_within n v (h v refl)

-- a section with more entries, which are sound together
module _ (n : ℕ) (key : Key) (more before : List Pair) (p : Pair) (ps : List Pair) (parts : Parts n before p ps) where
  same_keys : map key_at (before ++ p ∷ []) ≡ map key_at (before ++ extended p more ∷ [])
  same_keys = keys_push before p ∙ sym (keys_push before (extended p more))

  more_step : (b : Bool) → (IsWithin n (trees.Map (gathered_under key ps ++ more)) → PairsWithin n (before ++ p ∷ []) (with_more key more ps))
      → IsWithin n (trees.Map (option_map_or entries_of (if b then Some p.value else value_of key ps) [] ++ more)) → PairsWithin n before (if b then extended p more ∷ ps else p ∷ with_more key more ps)
  more_step true later all = pairs_more n before (extended p more) ps parts.key parts.first all
      (record { sound = subst (λ (ks : List Key). entries_sound ks (map entry_sound ps) ≡ true) same_keys parts.more.sound; nested = parts.more.nested })
  more_step false later all = pairs_more n before p (with_more key more ps) parts.key parts.first parts.value (later all)

more_within : (n : ℕ) (key : Key) (more before ps : List Pair) → PairsWithin n before ps → IsWithin n (trees.Map (gathered_under key ps ++ more)) → PairsWithin n before (with_more key more ps)
more_within n key more before [] w s = no_pairs n before
more_within n key more before (p ∷ ps) w s =
    let parts = parts_of n before p ps w in
    more_step n key more before p ps parts (key_eq p.key key) (λ all. more_within n key more (before ++ p ∷ []) ps parts.more all) s

-- ---- an entry that is joined

-- each way in which an entry may be joined
by_ways : (P : List Pair → Type 0) (b c d : Bool) (old pushed more : List Pair) → P old → (c ≡ true → P pushed) → (d ≡ true → P more) → P (if b then old else if c then pushed else if d then more else old)
by_ways P true c d old pushed more o p m = o
by_ways P false true d old pushed more o p m = p refl
by_ways P false false true old pushed more o p m = m refl
by_ways P false false false old pushed more o p m = o

pub push_value : (k : Key) (ps : List Pair) (q : Pair) → key_eq q.key k ≡ false → value_of k (ps ++ q ∷ []) ≡ value_of k ps
push_value k [] q other = cond-false (key_eq q.key k) (Some q.value) None other
push_value k (p ∷ ps) q other = ap (λ (found : Option Tree). if key_eq p.key k then Some p.value else found) (push_value k ps q other)

more_value_step : (k key : Key) (more ps : List Pair) (p : Pair) → key_eq key k ≡ false → (b : Bool) → key_eq p.key key ≡ b → value_of k (with_more key more ps) ≡ value_of k ps
    → value_of k (if b then extended p more ∷ ps else p ∷ with_more key more ps) ≡ value_of k (p ∷ ps)
more_value_step k key more ps p other true is later =
    let unlike : key_eq p.key k ≡ false = ap (λ (x : Key). key_eq x k) (same_key p.key key is) ∙ other in
    cond-false (key_eq p.key k) (Some (extended p more).value) (value_of k ps) unlike ∙ sym (cond-false (key_eq p.key k) (Some p.value) (value_of k ps) unlike)
more_value_step k key more ps p other false is later = ap (λ (found : Option Tree). if key_eq p.key k then Some p.value else found) later

pub more_value : (k key : Key) (more ps : List Pair) → key_eq key k ≡ false → value_of k (with_more key more ps) ≡ value_of k ps
more_value k key more [] other = refl
more_value k key more (p ∷ ps) other = more_value_step k key more ps p other (key_eq p.key key) refl (more_value k key more ps other)

-- what stands under another key stays
other_value : (k : Key) (g : List Pair) (p : Pair) → key_eq p.key k ≡ false → value_of k (joined_entry g p) ≡ value_of k g
other_value k g p other =
    by_ways (λ (l : List Pair). value_of k l ≡ value_of k g) (is_include_key p.key) (is_none (value_of p.key g)) (is_section p.key) g (g ++ p ∷ []) (with_more p.key (entries_of p.value) g)
    refl (λ is. push_value k g p other) (λ is. more_value k p.key (entries_of p.value) g other)

map_none : (f : Key → List ℕ) (found : Option Key) → option_map f found ≡ None → found ≡ None
map_none f None e = refl
map_none f (Some k) e = absurd cc

-- a section of which nothing was given before
none_again : (g : List Pair) (p : Pair) → is_section p.key ≡ true → given_again g p ≡ None → first_in_both (gathered_under p.key g) (entries_of p.value) ≡ None
none_again g p is none =
    map_none (λ key. key_text p.key ++ 46 ∷ key_text key) (first_in_both (gathered_under p.key g) (entries_of p.value))
    (sym (cond-true (is_section p.key) (option_map (λ key. key_text p.key ++ 46 ∷ key_text key) (first_in_both (gathered_under p.key g) (entries_of p.value))) None is) ∙ none)

-- `first` is what was gathered before the file that has the entry
entry_within : (n : ℕ) (first g : List Pair) (p : Pair) → PairsWithin (suc n) [] g → is_key p.key ≡ true → IsWithin (suc n) p.value → value_of p.key g ≡ value_of p.key first → given_again first p ≡ None
    → PairsWithin (suc n) [] (joined_entry g p)
entry_within n first g p w key value same none =
    by_ways (PairsWithin (suc n) []) (is_include_key p.key) (is_none (value_of p.key g)) (is_section p.key) g (g ++ p ∷ []) (with_more p.key (entries_of p.value) g)
    w (λ is. push_within (suc n) [] g p w key (sym (found_has p.key g) ∙ none_some (value_of p.key g) is) value)
    (λ is. more_within (suc n) p.key (entries_of p.value) [] g w (map_within n (gathered_under p.key g ++ entries_of p.value) (joint is)))
  where
    joint : is_section p.key ≡ true → PairsWithin n [] (gathered_under p.key g ++ entries_of p.value)
    joint is =
        let under : PairsWithin n [] (gathered_under p.key g) = under_within n (value_of p.key g) (λ v e. value_within (suc n) p.key [] g v w e) in
        let apart : first_in_both (gathered_under p.key g) (entries_of p.value) ≡ None =
        ap (λ (found : Option Tree). first_in_both (option_map_or entries_of found []) (entries_of p.value)) same ∙ none_again first p is none in
        append_within n (gathered_under p.key g) [] (entries_of p.value) (subst (PairsWithin n []) (sym (append-nil (gathered_under p.key g))) under) (entries_within n p.value value) apart

-- ---- the entries of a file

-- under the keys of these entries stands what stood there before
abbrev SameUnder : List Pair → List Pair → List Pair → Type 0
SameUnder g first [] = Unit {0}
SameUnder g first (p ∷ ps) = (value_of p.key g ≡ value_of p.key first) × SameUnder g first ps

same_itself : (g ps : List Pair) → SameUnder g g ps
same_itself g [] = tt
same_itself g (p ∷ ps) = (refl, same_itself g ps)

same_after : (n : ℕ) (p : Pair) (g first before ps : List Pair) → ((k : Key) → has_key before k ≡ false → key_eq p.key k ≡ false) → PairsWithin n before ps → SameUnder g first ps → SameUnder (joined_entry g p) first ps
same_after n p g first before [] other w same = tt
same_after n p g first before (q ∷ qs) other w same =
    let parts = parts_of n before q qs w in
    (other_value q.key g p (other q.key parts.first) ∙ same.0, same_after n p g first (before ++ q ∷ []) qs (λ k no. other k (not_in_front before q k no)) parts.more same.1)

or_none : {A : Type 0} (a b : Option A) → option_or a b ≡ None → (a ≡ None) × (b ≡ None)
or_none None b e = (refl, e)
or_none (Some x) b e = absurd cc

joined_within : (n : ℕ) (first ps before g : List Pair) → PairsWithin (suc n) [] g → PairsWithin (suc n) before ps → SameUnder g first ps → all_given_again first ps ≡ None → PairsWithin (suc n) [] (joined g ps)
joined_within n first [] before g w file same none = w
joined_within n first (p ∷ ps) before g w file same none =
    let parts = parts_of (suc n) before p ps file in
    let each_none = or_none (given_again first p) (all_given_again first ps) none in
    joined_within n first ps (before ++ p ∷ []) (joined_entry g p) (entry_within n first g p w parts.key parts.value same.0 each_none.0) parts.more
    (same_after (suc n) p g first (before ++ p ∷ []) ps (λ k no. not_last before p k no) parts.more same.1) each_none.1

-- ---- files

-- what was gathered so far is sound
abbrev Sound : List Pair → Type 0
Sound pairs = PairsWithin 31 [] pairs

at_no_fault : (path : Option (List ℕ)) → fault_at Duplicate path ≡ None → path ≡ None
at_no_fault None is = refl
at_no_fault (Some p) is = absurd cc

none_given : (document : Bool) (fault : Option ConfFault) (again : Option (List ℕ)) → (if document then option_or fault (fault_at Duplicate again) else fault_at WrongType (Some (codes "."))) ≡ None → again ≡ None
none_given true fault again is = at_no_fault again (or_none fault (fault_at Duplicate again) is).1
none_given false fault again is = absurd cc

taken_sound : Takes Sound (IsWithin 32)
taken_sound i g t w tree more is =
    let takes = taken_parts i g t more is in
    let none : all_given_again g.pairs (entries_of t) ≡ None =
    none_given (is_document t) (fault_at WrongType (wrong_entries (is_included i.role) g.pairs (entries_of t))) (all_given_again g.pairs (entries_of t)) takes.0 in
    subst (λ (x : Gathered). Sound x.pairs) takes.1 (joined_within 30 g.pairs (entries_of t) [] g.pairs w (entries_within 31 t tree) (same_itself g.pairs (entries_of t)) none)

-- ---- the whole

text_found : (name text : List ℕ) (read : Result Tree YamlFault) (t : Tree) → read_of text ≡ read → text_tree name read ≡ Ok (Some t) → read_of text ≡ Ok t
text_found name text (Ok u) t is e = let same : u ≡ t = cc in is ∙ ap (λ (x : Tree). Ok x) same
text_found name text (Err fault) t is e = absurd cc

no_tree : (b : Bool) (i : Include) (t : Tree) → (if b then Ok None else Err (Absent i.name)) ≡ Ok (Some t) → ⊥
no_tree true i t e = cc
no_tree false i t e = cc

found_sound : (i : Include) (held : Option (List ℕ)) (t : Tree) → tree_of i held ≡ Ok (Some t) → IsWithin 32 t
found_sound i None t is = absurd (no_tree (is_optional i.role) i t is)
found_sound i (Some text) t is = text_sound 32 text t (read_tree_of text t (text_found i.name text (read_of text) t refl is))

-- a gathered tree is sound
pub gathered_sound : (held : Held) (name : List ℕ) (t : Tree) → gathered held name ≡ Ok t → (is_sound t ≡ true) × (levels t ≤ 32)
gathered_sound held name t is =
    let whole = gathered_keeps Sound (IsWithin 32) taken_sound (held_by held) (λ i u e. found_sound i (held i.name) u e) name t (no_pairs 31 []) is in
    let w : IsWithin 32 t = subst (IsWithin 32) (sym whole.2) (map_within 31 whole.0 whole.1) in
    (w.sound, w.nested)
