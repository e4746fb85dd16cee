-- Where steps lead in a tree: below a map, below a list, and step by step.
use Rattle.std.specs.Prelude.{◌≡◌, ℕ, ◌+◌, Bool, true, false, if◌then◌else◌, List, [], ◌∷◌, ◌++◌, map, Option, None, Some, MatchOption, IsSomeAnd}
use Rattle.std.specs.Fmt.{decimal}
use Rattle.std.specs.List.{flat_map, enumerate_from}
use Rattle.std.proofs.Common.{inl, inr, refl, sym, ap, subst}
use Rattle.std.proofs.lemmas.Option.{none-some, same_Some}
use Rattle.std.proofs.lemmas.Slice.Eq.{bytes_eq-Decides}
use Rattle.yaml_tree.specs.declared.tree.Key.{Key}
use Rattle.yaml_tree.specs.declared.tree.Key.TheVariants as key
use Rattle.yaml_tree.specs.declared.tree.Pair.{Pair}
use Rattle.yaml_tree.specs.declared.tree.Tree.{Tree, out-Tree}
use Rattle.yaml_tree.specs.declared.tree.Tree.TheOpen.{Tree-F}
use Rattle.yaml_tree.specs.declared.tree.Tree.TheOpen as tree
use Rattle.conf_shape.specs.declared.raw.OneOrList.{OneOrList}
use Rattle.conf_shape.specs.declared.raw.OneOrList.TheVariants as several
use Rattle.conf_shape.specs.Reads.{value_at}
use Rattle.conf_shape.specs.Sections.{key_text, is_key}
use Rattle.conf_resolve.specs.Resolved.{to_list, items_of}
use Rattle.conf_rules.specs.Places.{under, nth, each_at, items_at, with_earlier}
use Rattle.law_checks.specs.Values.{Each, IsList, IsOneOrList, HasEntries, IsMap, Given, Needed}
use Rattle.law_checks.proofs.Members.{IsIn, of_flat}
use Rattle.law_documents.specs.Leads.{IsEntry, IsItem, IsBelow, LeadsTo}

-- the steps lead to a value of which this holds
abbrev pub Reaches : Tree → List (List ℕ) → (Tree → Type 0) → Type 0
Reaches t steps P = (v : Tree) × LeadsTo t steps v × P v

joined : (t : Tree) (steps more : List (List ℕ)) (u v : Tree) → LeadsTo t steps u → LeadsTo u more v → LeadsTo t (steps ++ more) v
joined t [] more u v a b = subst (λ w. LeadsTo w more v) (sym a) b
joined t (step ∷ steps) more u v a b = (a.0, a.1, joined a.0 steps more u v a.2 b)

module _ (t : Tree) (steps : List (List ℕ)) (P : Tree → Type 0) where
  pub onward : (more : List (List ℕ)) (Q : Tree → Type 0) → Reaches t steps P → ((u : Tree) → P u → Reaches u more Q) → Reaches t (steps ++ more) Q
  onward more Q r h = let n = h r.0 r.2 in (n.0, joined t steps more r.0 n.0 r.1 n.1, n.2)

  pub there : (Q : Tree → Type 0) → Reaches t steps P → ((u : Tree) → P u → Q u) → Reaches t steps Q
  there Q r h = (r.0, r.1, h r.0 r.2)

pub one_step : (t : Tree) (step : List ℕ) (v : Tree) → IsBelow (out-Tree t) step v → LeadsTo t (step ∷ []) v
one_step t step v below = (v, below, refl)

-- ---- below a map

pub among_entries : (x : Tree-F Tree Pair) (pairs : List Pair) (step : List ℕ) (v : Tree) → HasEntries x pairs → IsEntry pairs step v → IsBelow x step v
among_entries (tree.Map ps) pairs step v has e = subst (λ ps. IsEntry ps step v) (sym has) e
among_entries tree.Null pairs step v has e = absurd (subst (λ ps. IsEntry ps step v) has e)
among_entries (tree.Bool flag) pairs step v has e = absurd has
among_entries (tree.Int n) pairs step v has e = absurd has
among_entries (tree.Text text) pairs step v has e = absurd has
among_entries (tree.List items) pairs step v has e = absurd has

key_is : (name : List ℕ) (k : Key) → is_key name k ≡ true → key_text k ≡ name
key_is name (key.Text text) is = (bytes_eq-Decides text name).0 is
key_is name (key.Int n) is = absurd cc

pub value_is_entry : (name : List ℕ) (pairs : List Pair) (v : Tree) → value_at name pairs ≡ Some v → IsEntry pairs name v
value_is_entry name [] v is = absurd (none-some v is)
value_is_entry name (p ∷ ps) v is = by (is_key name p.key) refl is (value_is_entry name ps v)
  where
    by : (b : Bool) → is_key name p.key ≡ b → (if b then Some p.value else value_at name ps) ≡ Some v → (value_at name ps ≡ Some v → IsEntry ps name v) → IsEntry (p ∷ ps) name v
    by true same e more = inl (key_is name p.key same, same_Some p.value v e)
    by false same e more = inr (more e)

-- a map has the key, where it is given, and says this of it
abbrev pub HasKey : List ℕ → Type 0 → (Tree → Type 0) → Tree → Type 0
HasKey name default P u = (pairs : List Pair) × HasEntries (out-Tree u) pairs × Given name pairs default P

module _ (t : Tree) (name : List ℕ) (P : Tree → Type 0) where
  pub given : (default : Type 0) → HasKey name default P t → (default → ⊥) → Reaches t (name ∷ []) P
  given default h absent = by (value_at name h.0) refl h.2
    where
      by : (o : Option Tree) → value_at name h.0 ≡ o → MatchOption o default P → Reaches t (name ∷ []) P
      by None is m = absurd (absent m)
      by (Some v) is m = (v, one_step t name v (among_entries (out-Tree t) h.0 name v h.1 (value_is_entry name h.0 v is)), m)

  pub as_given : (default : Type 0) (pairs : List Pair) → HasEntries (out-Tree t) pairs → Needed name pairs P → HasKey name default P t
  as_given default pairs has need = (pairs, has, by (value_at name pairs) need)
    where
      by : (o : Option Tree) → IsSomeAnd o P → MatchOption o default P
      by None m = absurd m
      by (Some v) m = m

  pub needed : (pairs : List Pair) → HasEntries (out-Tree t) pairs → Needed name pairs P → Reaches t (name ∷ []) P
  needed pairs has need = given ⊥ (as_given ⊥ pairs has need) (λ absent. absent)

module _ {A : Type 0} (R : Pair → A → Type 0) where
  of_each : (pairs : List Pair) (xs : List A) → Each R pairs xs → (x : A) → IsIn xs x → (p : Pair) × IsEntry pairs (key_text p.key) p.value × R p x
  of_each [] [] each x i = absurd i
  of_each [] (y ∷ ys) each x i = absurd each
  of_each (p ∷ ps) [] each x i = absurd i
  of_each (p ∷ ps) (y ∷ ys) each x (inl e) = (p, inl (refl, refl), subst (R p) e each.0)
  of_each (p ∷ ps) (y ∷ ys) each x (inr i) = let m = of_each ps ys each.1 x i in (m.0, inr m.1, m.2)

  -- a part of a map by its name
  pub entry : (name : A → List ℕ) (Q : A → Tree → Type 0) → ((p : Pair) (x : A) → R p x → name x ≡ key_text p.key) → ((p : Pair) (x : A) → R p x → Q x p.value)
      → (t : Tree) (xs : List A) → IsMap (Each R) t xs → (x : A) → IsIn xs x → Reaches t (name x ∷ []) (Q x)
  entry name Q named stands t xs m x i =
      let e = of_each m.0 xs m.2 x i in
      (e.0.value, subst (λ step. LeadsTo t (step ∷ []) e.0.value) (sym (named e.0 x e.2)) (one_step t (key_text e.0.key) e.0.value (among_entries (out-Tree t) m.0 (key_text e.0.key) e.0.value m.1 e.1)), stands e.0 x e.2)

-- ---- below a list

pub not_empty : {A : Type 0} (xs : List A) (x : A) → IsIn xs x → xs ≡ [] → ⊥
not_empty xs x i is = subst (λ l. IsIn l x) is i

pub alone : {A : Type 0} (x y : A) → IsIn (x ∷ []) y → x ≡ y
alone x y (inl e) = e
alone x y (inr i) = absurd i

of_items : {A : Type 0} (P : Tree → A → Type 0) (n : ℕ) (items : List Tree) (xs : List A) → Each P items xs → (place : ℕ × A) → IsIn (enumerate_from n xs) place → (v : Tree) × IsItem n items (decimal place.0) v × P v place.1
of_items P n [] [] each place i = absurd i
of_items P n [] (x ∷ xs) each place i = absurd each
of_items P n (t ∷ ts) [] each place i = absurd i
of_items {A = A} P n (t ∷ ts) (x ∷ xs) each place (inl e) = (t, inl (ap (λ (p : ℕ × A). decimal p.0) e, refl), subst (P t) (ap (λ (p : ℕ × A). p.1) e) each.0)
of_items P n (t ∷ ts) (x ∷ xs) each place (inr i) = let m = of_items P (n + 1) ts xs each.1 place i in (m.0, inr m.1, m.2)

-- the place of an item
pub of_places : {A : Type 0} (site : List (List ℕ)) (xs : List A) (item : List (List ℕ) × A) → IsIn (each_at site xs) item → (place : ℕ × A) × IsIn (enumerate_from 0 xs) place × ((nth site place.0, place.1) ≡ item)
of_places {A = A} site xs item i =
    let m = of_flat (λ (place : ℕ × A). (nth site place.0, place.1) ∷ []) (enumerate_from 0 xs) item i in
    (m.0, m.1, alone (nth site m.0.0, m.0.1) item m.2)

-- an item among those before it is one of the list
behind_items : {A : Type 0} (site : List (List ℕ)) (n : ℕ) (earlier xs : List A) (item : List (List ℕ) × (List A × A))
    → IsIn (flat_map (λ (place : ℕ × (List A × A)). (nth site place.0, place.1) ∷ []) (enumerate_from n (with_earlier earlier xs))) item
    → IsIn {A = List (List ℕ) × A} (flat_map (λ (place : ℕ × A). (nth site place.0, place.1) ∷ []) (enumerate_from n xs)) (item.0, item.1.1)
behind_items site n earlier [] item i = absurd i
behind_items {A = A} site n earlier (x ∷ xs) item (inl e) = inl (ap (λ (i : List (List ℕ) × (List A × A)). (i.0, i.1.1)) e)
behind_items site n earlier (x ∷ xs) item (inr i) = inr (behind_items site (n + 1) (earlier ++ x ∷ []) xs item i)

pub behind_earlier : {A : Type 0} (site : List (List ℕ)) (earlier xs : List A) (item : List (List ℕ) × (List A × A)) → IsIn (each_at site (with_earlier earlier xs)) item → IsIn {A = List (List ℕ) × A} (each_at site xs) (item.0, item.1.1)
behind_earlier site earlier xs item i = behind_items site 0 earlier xs item i

-- ---- what a key gives, each at its place

-- the items of a list that stands at the place, where there is one
pub in_list : {A : Type 0} (t : Tree) (site : List (List ℕ)) (P : Tree → A → Type 0) (xs : List A) → ((xs ≡ [] → ⊥) → Reaches t site (λ u. IsList P u xs)) → (item : List (List ℕ) × A) → IsIn (each_at site xs) item → Reaches t item.0 (λ v. P v item.1)
in_list {A = A} t site P xs r item i =
    let m = of_places site xs item i in
    let list = r (λ none. not_empty (each_at site xs) item i (ap (each_at site) none)) in
    subst (λ (item : List (List ℕ) × A). Reaches t item.0 (λ v. P v item.1)) m.2 (onward t site (λ u. IsList P u xs) (decimal m.0.0 ∷ []) (λ v. P v m.0.1) list (λ u l.
    let n = of_items P 0 l.0 xs l.2 m.0 m.1 in
    (n.0, one_step u (decimal m.0.0) n.0 (subst (λ x. IsBelow x (decimal m.0.0) n.0) (sym l.1) n.1), n.2)))

module _ {A : Type 0} (t : Tree) (site : List (List ℕ)) (name : List ℕ) (P : Tree → A → Type 0) where
  -- a list under a key
  pub in_key : (xs : List A) → Reaches t site (HasKey name (xs ≡ []) (λ v. IsList P v xs)) → (item : List (List ℕ) × A) → IsIn (each_at (under site name) xs) item → Reaches t item.0 (λ v. P v item.1)
  in_key xs r = in_list t (under site name) P xs (λ some. onward t site (HasKey name (xs ≡ []) (λ v. IsList P v xs)) (name ∷ []) (λ v. IsList P v xs) r (λ u h. given u name (λ v. IsList P v xs) (xs ≡ []) h some))

  -- one value under a key
  pub in_option : (o : Option A) → Reaches t site (HasKey name (o ≡ None) (λ v. IsSomeAnd o (P v))) → (item : List (List ℕ) × A) → IsIn (map (λ x. (under site name, x)) (to_list o)) item → Reaches t item.0 (λ v. P v item.1)
  in_option None r item i = absurd i
  in_option (Some x) r item (inr i) = absurd i
  in_option (Some x) r item (inl e) =
      subst (λ (item : List (List ℕ) × A). Reaches t item.0 (λ v. P v item.1)) e
      (onward t site (HasKey name (Some x ≡ None) (λ v. P v x)) (name ∷ []) (λ v. P v x) r (λ u h. given u name (λ v. P v x) (Some x ≡ None) h (λ none. none-some x (sym none))))

  -- a list under a key, where it matters that the key is given
  pub in_some : (o : Option (List A)) → Reaches t site (HasKey name (o ≡ None) (λ v. IsSomeAnd o (IsList P v))) → (item : List (List ℕ) × A) → IsIn (flat_map (each_at (under site name)) (to_list o)) item → Reaches t item.0 (λ v. P v item.1)
  in_some None r item i = absurd i
  in_some (Some xs) r item i =
      let m = of_flat (each_at (under site name)) (xs ∷ []) item i in
      in_list t (under site name) P xs (λ some. onward t site (HasKey name (Some xs ≡ None) (λ v. IsList P v xs)) (name ∷ []) (λ v. IsList P v xs) r (λ u h. given u name (λ v. IsList P v xs) (Some xs ≡ None) h (λ none. none-some xs (sym none))))
      item (subst (λ ys. IsIn (each_at (under site name) ys) item) (sym (alone xs m.0 m.1)) m.2)

  -- one value or a list of them
  pub in_several : (o : OneOrList A) → Reaches t site (HasKey name (o ≡ several.List []) (λ v. IsOneOrList P v o)) → (item : List (List ℕ) × A) → IsIn (items_at (under site name) o) item → Reaches t item.0 (λ v. P v item.1)
  in_several (several.One x) r item i =
      subst (λ (item : List (List ℕ) × A). Reaches t item.0 (λ v. P v item.1)) (alone (under site name, x) item i)
      (onward t site (HasKey name (several.One x ≡ several.List []) (λ v. P v x)) (name ∷ []) (λ v. P v x) r (λ u h. given u name (λ v. P v x) (several.One x ≡ several.List []) h (λ none. not_empty (x ∷ []) x (inl refl) (ap items_of none))))
  in_several (several.List xs) r item i =
      in_list t (under site name) P xs (λ some. onward t site (HasKey name (several.List xs ≡ several.List []) (λ v. IsList P v xs)) (name ∷ []) (λ v. IsList P v xs) r (λ u h. given u name (λ v. IsList P v xs) (several.List xs ≡ several.List []) h (λ none. some (ap items_of none)))) item i

-- a part of a map under a key, by its name
module _ {A : Type 0} (R : Pair → A → Type 0) (label : A → List ℕ) (Q : A → Tree → Type 0) (named : (p : Pair) (x : A) → R p x → label x ≡ key_text p.key) (stands : (p : Pair) (x : A) → R p x → Q x p.value) where
  pub in_map : (t : Tree) (site : List (List ℕ)) (name : List ℕ) (xs : List A) → Reaches t site (HasKey name (xs ≡ []) (λ v. IsMap (Each R) v xs)) → (x : A) → IsIn xs x → Reaches t (site ++ name ∷ label x ∷ []) (Q x)
  in_map t site name xs r x i =
      onward t site (HasKey name (xs ≡ []) (λ v. IsMap (Each R) v xs)) (name ∷ label x ∷ []) (Q x) r (λ u h.
      onward u (name ∷ []) (λ v. IsMap (Each R) v xs) (label x ∷ []) (Q x) (given u name (λ v. IsMap (Each R) v xs) (xs ≡ []) h (not_empty xs x i)) (λ w m. entry R label Q named stands w xs m x i))
