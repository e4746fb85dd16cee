-- What is read of a value that has no fault, where it is the same but for the order of entries.
use Rattle.std.proofs.Common.{◌≡◌, ℕ, List, [], ◌∷◌, Some, refl, ap, subst}
use Rattle.std.specs.Prelude.{false, map}
use Rattle.std.specs.List.{AllByRecursion}
use Rattle.yaml_tree.specs.declared.tree.Pair.{Pair}
use Rattle.yaml_tree.specs.declared.tree.Tree.{Tree, out-Tree}
use Rattle.yaml_tree.specs.declared.tree.Tree.TheOpen.{Tree-F}
use Rattle.yaml_tree.specs.declared.tree.Tree.TheOpen as tree
use Rattle.conf_types.specs.Lists.{EachBefore}
use Rattle.conf_shape.specs.declared.kinds.Kind.{Kind}
use Rattle.conf_shape.specs.declared.kinds.TheConstants.{MOST_VID, MOST_PORT_NO}
use Rattle.conf_shape.specs.declared.kinds.MapKind.{MapKind}
use Rattle.conf_shape.specs.declared.raw.OneOrList.TheVariants as several
use Rattle.conf_shape.specs.Faults.{in_map, faults_of, entry_of}
use Rattle.conf_shape.specs.Reads.{items_in, entries_in, items_of, entries_of, one_or_list_in, one_or_list_of, flag_in, flag_of, permission_in, permission_of, number_in, number_of, text_in, text_of, label_in, label_of, port_or, port_of, vlan_or, vlan_of}
use Rattle.conf_shape.specs.Scalars.{item_kind, map_kind}
use Rattle.conf_shape.specs.Sections.{under_key}
use Rattle.law_checks.proofs.Right.{IsFine, fine, items_right, HasKind}
use Rattle.law_documents.specs.SameButOrder.{SameButOrder, SameItems, no_items}
use Rattle.law_documents.proofs.Clash.{clash}
use Rattle.law_documents.proofs.Fits.{fits}
use Rattle.law_documents.proofs.Layers.{IsSameEntry, SameLayer, alike, two_lists, two_maps, layer, items_mapped, items_themselves, read_alone}
use Rattle.law_documents.proofs.Reordered.{Reordered, holding, itself, mapped, none}

-- ---- values that are no list and no map

abbrev pub IsRead : {A : Type 0} → (Tree → A) → Type 0
IsRead f = (t u : Tree) → SameButOrder t u → f t ≡ f u

pub flag_read : IsRead flag_of
flag_read = read_alone flag_in (record { no_list = λ ts us. refl; no_map = λ ps qs. refl })

pub permission_read : IsRead permission_of
permission_read = read_alone permission_in (record { no_list = λ ts us. refl; no_map = λ ps qs. refl })

pub number_read : (low high : ℕ) → IsRead (number_of low high)
number_read low high = read_alone (number_in low high) (record { no_list = λ ts us. refl; no_map = λ ps qs. refl })

pub text_read : IsRead text_of
text_read = read_alone text_in (record { no_list = λ ts us. refl; no_map = λ ps qs. refl })

pub label_read : IsRead label_of
label_read = read_alone label_in (record { no_list = λ ts us. refl; no_map = λ ps qs. refl })

pub port_read : IsRead port_of
port_read = read_alone (λ x. port_or (label_in x) (number_in 1 MOST_PORT_NO x)) (record { no_list = λ ts us. refl; no_map = λ ps qs. refl })

pub vlan_read : IsRead vlan_of
vlan_read = read_alone (λ x. vlan_or (label_in x) (number_in 1 MOST_VID x)) (record { no_list = λ ts us. refl; no_map = λ ps qs. refl })

-- ---- the entries of a map

-- the entries of two maps of one kind: each value is right, no two keys are the same, and they are reordered
pub record Entries (m : MapKind) (ps qs : List Pair) : Type 0 where
  pub each : AllByRecursion (λ p. HasKind p.value (under_key m [] p.key)) ps
  pub apart : EachBefore (λ p q. clash m p.key q.key ≡ false) ps
  pub same : Reordered IsSameEntry ps qs

pub nothing : (m : MapKind) → Entries m [] []
nothing m = record { each = tt; apart = tt; same = none }

module _ (kind : Kind) (m : MapKind) (is : map_kind kind ≡ Some m) where
  of_maps : (ps qs : List Pair) → in_map (map_kind kind) (map entry_of ps) ≡ [] → Reordered IsSameEntry ps qs → Entries m ps qs
  of_maps ps qs h same = let f = fits m [] ps (subst (λ o. in_map o (map entry_of ps) ≡ []) is h) in record { each = f.each; apart = f.apart; same = same }

  of_equal : (x : Tree-F Tree Pair) → IsFine kind x → Entries m (entries_in x) (entries_in x)
  of_equal (tree.Map ps) f = of_maps ps ps f (itself IsSameEntry (λ p. (refl, SameButOrder.equal p.value)) ps)
  of_equal tree.Null f = nothing m
  of_equal (tree.Bool flag) f = nothing m
  of_equal (tree.Int n) f = nothing m
  of_equal (tree.Text text) f = nothing m
  of_equal (tree.List ts) f = nothing m

  of_layers : (x y : Tree-F Tree Pair) → SameLayer x y → IsFine kind x → Entries m (entries_in x) (entries_in y)
  of_layers _ _ (alike x) f = of_equal x f
  of_layers _ _ (two_lists ts us same) f = nothing m
  of_layers _ _ (two_maps ps qs same) f = of_maps ps qs f same

  pub entries_kept : (t u : Tree) → faults_of t kind ≡ [] → SameButOrder t u → Entries m (entries_of t) (entries_of u)
  entries_kept t u h same = of_layers (out-Tree t) (out-Tree u) (layer t u same) (fine kind t h)

-- what is made of each entry
pub each_entry : {A : Type 0} (m : MapKind) (S : A → A → Type 0) (f : Pair → A) → ((p q : Pair) → HasKind p.value (under_key m [] p.key) → IsSameEntry p q → S (f p) (f q)) → (ps qs : List Pair) → Entries m ps qs → Reordered S (map f ps) (map f qs)
each_entry m S f so ps qs e =
    mapped (λ p q. HasKind p.value (under_key m [] p.key) × IsSameEntry p q) S f f (λ p q r. so p q r.0 r.1) ps qs (holding IsSameEntry (λ p. HasKind p.value (under_key m [] p.key)) ps qs e.same e.each)

-- ---- lists

-- what is read of a value of a kind is the same
abbrev pub Keeps : {A : Type 0} → Kind → (Tree → A) → Type 0
Keeps kind f = (t u : Tree) → faults_of t kind ≡ [] → SameButOrder t u → f t ≡ f u

same_items : (t u : Tree) → SameButOrder t u → SameItems (items_of t) (items_of u)
same_items t u same = by (out-Tree t) (out-Tree u) (layer t u same)
  where
    by : (x y : Tree-F Tree Pair) → SameLayer x y → SameItems (items_in x) (items_in y)
    by _ _ (alike x) = items_themselves (items_in x)
    by _ _ (two_lists ts us items) = items
    by _ _ (two_maps ps qs entries) = no_items

one_or_list_by : {A : Type 0} (f : Tree → A) (t u : Tree) → SameButOrder t u → f t ≡ f u → map f (items_of t) ≡ map f (items_of u) → one_or_list_of f t ≡ one_or_list_of f u
one_or_list_by {A = A} f t u same one list = by (out-Tree t) (out-Tree u) (layer t u same) list
  where
    by : (x y : Tree-F Tree Pair) → SameLayer x y → map f (items_in x) ≡ map f (items_in y) → one_or_list_in f (f t) x ≡ one_or_list_in f (f u) y
    by _ _ (alike x) list = ap (λ (a : A). one_or_list_in f a x) one
    by _ _ (two_lists ts us items) list = ap several.List list
    by _ _ (two_maps ps qs entries) list = ap several.One one

module _ {A : Type 0} (kind item : Kind) (is : item_kind kind ≡ Some item) (f : Tree → A) (keeps : Keeps item f) where
  pub items_kept : Keeps kind (λ t. map f (items_of t))
  items_kept t u h same = items_mapped (λ t. faults_of t item ≡ []) f keeps (items_of t) (items_of u) (same_items t u same) (items_right kind item t is h)

  -- a value that stands alone, or a list
  pub one_or_list_kept : Keeps kind f → Keeps kind (one_or_list_of f)
  one_or_list_kept alone t u h same = one_or_list_by f t u same (alone t u h same) (items_kept t u h same)

module _ {A : Type 0} (f : Tree → A) (read : IsRead f) where
  pub read_items : IsRead (λ t. map f (items_of t))
  read_items t u same = items_mapped (λ t. Unit {0}) f (λ t u h. read t u) (items_of t) (items_of u) (same_items t u same) (units (items_of t))
    where
      units : (ts : List Tree) → AllByRecursion (λ t. Unit {0}) ts
      units [] = tt
      units (t ∷ ts) = (tt, units ts)

  pub one_or_list_read : IsRead (one_or_list_of f)
  one_or_list_read t u same = one_or_list_by f t u same (read t u same) (read_items t u same)
