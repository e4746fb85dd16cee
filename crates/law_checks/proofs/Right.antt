-- A tree with no fault, and its parts: the entries of a map, the value under a key, the items of a list.
use Rattle.std.proofs.Common.{◌≡◌, ℕ, ◌+◌, Bool, true, false, List, [], ◌∷◌, ◌++◌, Option, Some, None, Result, Ok, Err, refl, sym, ap, ◌∙◌, inl, inr, subst}
use Rattle.std.specs.Prelude.{map, IfSome, if◌then◌else◌}
use Rattle.std.specs.Fmt.{decimal}
use Rattle.std.specs.List.{AllByRecursion}
use Rattle.std.specs.Option.{option_map, option_map_or}
use Rattle.std.proofs.lemmas.Slice.Eq.{bytes_eq-Decides}
use Rattle.yaml_tree.specs.declared.tree.Tree.{Tree, out-Tree, roll-Tree, roll-out-Tree}
use Rattle.yaml_tree.specs.declared.tree.Key.{Key}
use Rattle.yaml_tree.specs.declared.tree.Key.TheVariants as key
use Rattle.yaml_tree.specs.declared.tree.Pair.{Pair}
use Rattle.yaml_tree.specs.declared.tree.Tree.TheOpen.{Tree-F}
use Rattle.yaml_tree.specs.declared.tree.Tree.TheOpen as tree
use Rattle.yaml_tree.specs.declared.tree.Tree.TheFolds.{fold-roll-Tree}
use Rattle.conf_shape.specs.declared.faults.Found.{Found}
use Rattle.conf_shape.specs.declared.refused.ConfCause.{ConfCause}
use Rattle.conf_shape.specs.declared.refused.ConfCause.TheVariants.{WrongType}
use Rattle.conf_shape.specs.declared.kinds.Kind.{Kind}
use Rattle.conf_shape.specs.declared.kinds.Kind.TheVariants as kind_of
use Rattle.conf_shape.specs.declared.kinds.MapKind.{MapKind}
use Rattle.conf_shape.specs.declared.kinds.MapKind.TheVariants as maps
use Rattle.conf_shape.specs.Scalars.{flag_cause, number_cause, text_cause, item_kind, map_kind}
use Rattle.conf_shape.specs.Sections.{key_text, is_key, under_key}
use Rattle.conf_shape.specs.Faults.{Faults, Entry, here, under, item_faults, list_faults, value_faults, missing_in, map_faults, in_map, may_be_null, null_faults, tree_step, pair_step, faults_of, entry_of, first, fault_of, first_fault}
use Rattle.conf_shape.specs.Reads.{value_at, items_in, entries_in, items_of, entries_of}
use Rattle.conf_shape.specs.Written.{IsRight, Takes}
use Rattle.conf_shape.proofs.FaultLaws.{entry_pair}
use Rattle.conf_shape.proofs.Written.{IsSame, same, split, under_none, here_none}

-- ---- the form of a tree with no fault

abbrev pub IsFine : Kind → Tree-F Tree Pair → Type 0
IsFine kind tree.Null = null_faults (map_kind kind) ≡ []
IsFine kind (tree.Bool flag) = flag_cause kind ≡ None
IsFine kind (tree.Int n) = number_cause kind n ≡ None
IsFine kind (tree.Text text) = text_cause kind text ≡ None
IsFine kind (tree.List items) = list_faults (item_kind kind) (map faults_of items) ≡ []
IsFine kind (tree.Map pairs) = in_map (map_kind kind) (map entry_of pairs) ≡ []

module _ (kind : Kind) where
  layer : (x : Tree-F Tree Pair) → faults_of (roll-Tree x) kind ≡ [] → IsFine kind x
  layer tree.Null h = sym (ap (λ (f : Faults). f kind) (fold-roll-Tree Faults Entry tree_step pair_step tree.Null)) ∙ h
  layer (tree.Bool flag) h = here_none (flag_cause kind) (sym (ap (λ (f : Faults). f kind) (fold-roll-Tree Faults Entry tree_step pair_step (tree.Bool flag))) ∙ h)
  layer (tree.Int n) h = here_none (number_cause kind n) (sym (ap (λ (f : Faults). f kind) (fold-roll-Tree Faults Entry tree_step pair_step (tree.Int n))) ∙ h)
  layer (tree.Text text) h = here_none (text_cause kind text) (sym (ap (λ (f : Faults). f kind) (fold-roll-Tree Faults Entry tree_step pair_step (tree.Text text))) ∙ h)
  layer (tree.List items) h = sym (ap (λ (f : Faults). f kind) (fold-roll-Tree Faults Entry tree_step pair_step (tree.List items))) ∙ h
  layer (tree.Map pairs) h = sym (ap (λ (f : Faults). f kind) (fold-roll-Tree Faults Entry tree_step pair_step (tree.Map pairs))) ∙ h

pub fine : (kind : Kind) (t : Tree) → faults_of t kind ≡ [] → IsFine kind (out-Tree t)
fine kind t h = layer kind (out-Tree t) (subst (λ t. faults_of t kind ≡ []) (sym (roll-out-Tree t)) h)

-- ---- lists

items_each : (item : Kind) (n : ℕ) (items : List Tree) → item_faults item n (map faults_of items) ≡ [] → AllByRecursion (λ t. faults_of t item ≡ []) items
items_each item n [] h = tt
items_each item n (t ∷ ts) h =
    let parts = split (under (decimal n) (faults_of t item)) (item_faults item (n + 1) (map faults_of ts)) h in
    (under_none (decimal n) (faults_of t item) parts.0, items_each item (n + 1) ts parts.1)

pub items_right : (kind item : Kind) (t : Tree) → item_kind kind ≡ Some item → faults_of t kind ≡ [] → AllByRecursion (λ t. faults_of t item ≡ []) (items_of t)
items_right kind item t e h = by (out-Tree t) (fine kind t h)
  where
    by : (x : Tree-F Tree Pair) → IsFine kind x → AllByRecursion (λ t. faults_of t item ≡ []) (items_in x)
    by (tree.List items) f = items_each item 0 items (subst (λ o. list_faults o (map faults_of items) ≡ []) e f)
    by tree.Null f = tt
    by (tree.Bool flag) f = tt
    by (tree.Int n) f = tt
    by (tree.Text text) f = tt
    by (tree.Map pairs) f = tt

-- ---- maps

if_null : (m : MapKind) (may : Bool) → (if may then missing_in m [] else here (Some WrongType)) ≡ [] → missing_in m [] ≡ []
if_null m true h = h
if_null m false h = absurd cc

pub map_right : (m : MapKind) (t : Tree) → faults_of t (kind_of.Map m) ≡ [] → IsRight m (entries_of t)
map_right m t h = by (out-Tree t) (fine (kind_of.Map m) t h)
  where
    by : (x : Tree-F Tree Pair) → IsFine (kind_of.Map m) x → IsRight m (entries_in x)
    by tree.Null f = if_null m (may_be_null m) f
    by (tree.Map pairs) f = f
    by (tree.Bool flag) f = absurd cc
    by (tree.Int n) f = absurd cc
    by (tree.Text text) f = absurd cc
    by (tree.List items) f = absurd cc

pub document_fine : (t : Tree) → first_fault t ≡ None → faults_of t (kind_of.Map maps.Top) ≡ []
document_fine t none = by (faults_of t (kind_of.Map maps.Top)) none
  where
    by : (fs : List Found) → option_map fault_of (first fs) ≡ None → fs ≡ []
    by [] e = refl
    by (f ∷ fs) e = absurd cc

pub document_right : (t : Tree) → first_fault t ≡ None → IsRight maps.Top (entries_of t)
document_right t none = map_right maps.Top t (document_fine t none)

-- what stands under a key, where its value has no fault
abbrev pub HasKind : Tree → Result Kind ConfCause → Type 0
HasKind t found = (kind : Kind) × (found ≡ Ok kind) × (faults_of t kind ≡ [])

kind_there : (t : Tree) (found : Result Kind ConfCause) → value_faults (faults_of t) found ≡ [] → HasKind t found
kind_there t (Ok kind) h = (kind, refl, h)
kind_there t (Err cause) h = absurd cc

pub entry_right : (m : MapKind) (earlier : List Key) (p : Pair) (ps : List Pair) → map_faults m earlier (map entry_of (p ∷ ps)) ≡ []
    → HasKind p.value (under_key m earlier p.key) × (map_faults m (earlier ++ p.key ∷ []) (map entry_of ps) ≡ [])
entry_right m earlier p ps h =
    let entry : map_faults m earlier ((p.key, faults_of p.value) ∷ map entry_of ps) ≡ [] = subst (λ (e : Entry). map_faults m earlier (e ∷ map entry_of ps) ≡ []) (entry_pair p) h in
    let value : List Found = value_faults (faults_of p.value) (under_key m earlier p.key) in
    let parts = split (under (key_text p.key) value) (map_faults m (earlier ++ p.key ∷ []) (map entry_of ps)) entry in
    (kind_there p.value (under_key m earlier p.key) (under_none (key_text p.key) value parts.0), parts.1)

pub each_right : (m : MapKind) (P : Pair → Type 0) → ((earlier : List Key) (p : Pair) → HasKind p.value (under_key m earlier p.key) → P p) → (earlier : List Key) (pairs : List Pair) → map_faults m earlier (map entry_of pairs) ≡ [] → AllByRecursion P pairs
each_right m P each earlier [] h = tt
each_right m P each earlier (p ∷ ps) h = let e = entry_right m earlier p ps h in (each earlier p e.0, each_right m P each (earlier ++ p.key ∷ []) ps e.1)

-- ---- the value under a name of the tables

as_that : (t : Tree) (found : Result Kind ConfCause) (kind : Kind) → IsSame found kind → HasKind t found → faults_of t kind ≡ []
as_that t found kind (inl e) h = let is : h.0 ≡ kind = cc (h.1, e) in subst (λ k. faults_of t k ≡ []) is h.2
as_that t found kind (inr e) h = absurd (cc (h.1, e))

key_is : (name : List ℕ) (k : Key) → is_key name k ≡ true → k ≡ key.Text name
key_is name (key.Text text) e = ap key.Text ((bytes_eq-Decides text name).0 e)
key_is name (key.Int n) e = absurd cc

module _ (m : MapKind) (name : List ℕ) (kind : Kind) (takes : Takes m name kind) where
  found : (earlier : List Key) (pairs : List Pair) → map_faults m earlier (map entry_of pairs) ≡ [] → IfSome (value_at name pairs) (λ t. faults_of t kind ≡ [])
  found earlier [] h = tt
  found earlier (p ∷ ps) h = let e = entry_right m earlier p ps h in by (is_key name p.key) refl e.0 (found (earlier ++ p.key ∷ []) ps e.1)
    where
      by : (is : Bool) → is_key name p.key ≡ is → HasKind p.value (under_key m earlier p.key) → IfSome (value_at name ps) (λ t. faults_of t kind ≡ []) → IfSome (if is then Some p.value else value_at name ps) (λ t. faults_of t kind ≡ [])
      by true k here later = as_that p.value (under_key m earlier p.key) kind (subst (λ k. IsSame (under_key m earlier k) kind) (sym (key_is name p.key k)) (same m earlier name kind takes)) here
      by false k here later = later

-- what stands under a name of a right map has no fault as what the name takes
pub value_right : (m : MapKind) (name : List ℕ) (kind : Kind) → Takes m name kind → (pairs : List Pair) → IsRight m pairs → IfSome (value_at name pairs) (λ t. faults_of t kind ≡ [])
value_right m name kind takes pairs right = found m name kind takes [] pairs right

-- the number of a map's own key changes what stands under its own number alone
pub takes_by : (f : Option ℕ → MapKind) (name : List ℕ) (kind : Kind) → Takes (f None) name kind → ((n : ℕ) → Takes (f (Some n)) name kind) → (number : Option ℕ) → Takes (f number) name kind
takes_by f name kind none some None = none
takes_by f name kind none some (Some n) = some n

-- ---- what is read of a map below, and of a list

pub below_right : (inner : MapKind) (P : List Pair → Type 0) → ((pairs : List Pair) → IsRight inner pairs → P pairs) → P [] → (o : Option Tree) → IfSome o (λ t. faults_of t (kind_of.Map inner) ≡ []) → P (option_map_or entries_of o [])
below_right inner P each none None h = none
below_right inner P each none (Some t) h = each (entries_of t) (map_right inner t h)

pub all_through : {A B : Type 0} (P : A → Type 0) (Q : B → Type 0) (f : A → B) → ((x : A) → P x → Q (f x)) → (xs : List A) → AllByRecursion P xs → AllByRecursion Q (map f xs)
all_through P Q f each [] all = tt
all_through P Q f each (x ∷ xs) all = (each x all.0, all_through P Q f each xs all.1)

pub all_read : {A B : Type 0} (Q : B → Type 0) (f : A → B) → ((x : A) → Q (f x)) → (xs : List A) → AllByRecursion Q (map f xs)
all_read Q f each [] = tt
all_read Q f each (x ∷ xs) = (each x, all_read Q f each xs)

pub listed_right : {A : Type 0} (P : A → Type 0) (read : Tree → A) (kind item : Kind) → item_kind kind ≡ Some item → ((t : Tree) → faults_of t item ≡ [] → P (read t)) → (o : Option Tree) → IfSome o (λ t. faults_of t kind ≡ []) → AllByRecursion P (map read (option_map_or items_of o []))
listed_right P read kind item e each None h = tt
listed_right P read kind item e each (Some t) h = all_through (λ t. faults_of t item ≡ []) P read each (items_of t) (items_right kind item t e h)
