-- The faults of a tree: it is right by its keys where there are none, and else the first is that of the grammar.
use Rattle.std.specs.Prelude.{◌≡◌, ℕ, ◌+◌, Bool, true, false, List, [], ◌∷◌, ◌++◌, map, Option, Some, None, Result, Ok, Err, if◌then◌else◌}
use Rattle.std.specs.Fmt.{decimal}
use Rattle.std.specs.List.{AllByRecursion}
use Rattle.std.specs.Option.{option_map}
use Rattle.std.proofs.Common.{inl, refl, sym, ap, ◌∙◌, subst, true≢false, append_assoc, append-nil}
use Rattle.std.proofs.lemmas.Option.{same_Some, none-some}
use Rattle.yaml_tree.specs.declared.tree.Key.{Key}
use Rattle.yaml_tree.specs.declared.tree.Pair.{Pair}
use Rattle.yaml_tree.specs.declared.tree.Tree.{Tree, out-Tree, roll-Tree}
use Rattle.yaml_tree.specs.declared.tree.Tree.TheOpen.{Tree-F}
use Rattle.yaml_tree.specs.declared.tree.Tree.TheOpen as tree
use Rattle.yaml_tree.specs.declared.tree.Tree.TheVariants as trees
use Rattle.yaml_tree.specs.declared.tree.Tree.TheFolds.{fold-roll-Tree}
use Rattle.conf_types.specs.Lists.{EachBefore}
use Rattle.conf_shape.specs.declared.faults.Found.{Found}
use Rattle.conf_shape.specs.declared.kinds.Kind.{Kind}
use Rattle.conf_shape.specs.declared.kinds.Kind.TheVariants as kind_of
use Rattle.conf_shape.specs.declared.kinds.MapKind.{MapKind}
use Rattle.conf_shape.specs.declared.kinds.MapKind.TheVariants as maps
use Rattle.conf_shape.specs.declared.kinds.Scalar.{Scalar}
use Rattle.conf_shape.specs.declared.refused.ConfCause.{ConfCause}
use Rattle.conf_shape.specs.declared.refused.ConfCause.TheVariants.{WrongType, OutOfRange, LeftOut, BadText}
use Rattle.conf_shape.specs.declared.refused.ConfFault.{ConfFault}
use Rattle.conf_shape.specs.Faults.{Faults, Entry, here, under, item_faults, list_faults, value_faults, missing_in, map_faults, in_map, may_be_null, null_faults, tree_step, pair_step, faults_of, entry_of, first, fault_of, first_fault}
use Rattle.conf_shape.specs.Scalars.{as_scalar, flag_fault, number_fault, text_fault, flag_cause, number_cause, text_cause, scalar_kind, item_kind, map_kind}
use Rattle.conf_shape.specs.Sections.{key_text, under_key}
use Rattle.conf_shape.proofs.FaultLaws.{entry_pair}
use Rattle.law_keys.specs.Causes.{HasForm, HasFormOf, IsWrong, another_form, outside, unsupported, no_spelling, IsNew, FirstFault, at_value, in_items, in_entries, in_nothing, ItemFault, this_item, later_item, EntryFault, this_key, this_value, later_entry, missing, IsFaultOf}
use Rattle.law_keys.specs.Grammar.{FitsScalar, scalar_of, item_of, map_of, MayBeNothing, own_number, Under, AreSame, IsWhole, Fits, alone, items, entries, nothing, AllFit, no_items, item, EntriesFit, no_entries, entry, IsDocument}
use Rattle.law_keys.specs.Tables.{lines}
use Rattle.law_keys.proofs.Lists.{of_all, all_by, in_front, behind}
use Rattle.law_keys.proofs.MapKeys.{plain, KeyTold, key_told}
use Rattle.law_keys.proofs.Missing.{MissingTold, missing_told}
use Rattle.law_keys.proofs.Networks.{text_told}
use Rattle.law_keys.proofs.Scalars.{Holds, Told, flag_told, number_told}
use Rattle.law_keys.proofs.Trees.{as_tree, rolled, layer_of, tree_of, Below, by_layers}

-- ---- the layers of a tree

abbrev pub layer_faults : Tree-F Tree Pair → Kind → List Found
layer_faults tree.Null kind = null_faults (map_kind kind)
layer_faults (tree.Bool flag) kind = here (flag_cause kind)
layer_faults (tree.Int n) kind = here (number_cause kind n)
layer_faults (tree.Text text) kind = here (text_cause kind text)
layer_faults (tree.List ts) kind = list_faults (item_kind kind) (map faults_of ts)
layer_faults (tree.Map ps) kind = in_map (map_kind kind) (map entry_of ps)

pub rolled_faults : (kind : Kind) (x : Tree-F Tree Pair) → faults_of (roll-Tree x) kind ≡ layer_faults x kind
rolled_faults kind tree.Null = ap (λ (f : Faults). f kind) (fold-roll-Tree Faults Entry tree_step pair_step tree.Null)
rolled_faults kind (tree.Bool flag) = ap (λ (f : Faults). f kind) (fold-roll-Tree Faults Entry tree_step pair_step (tree.Bool flag))
rolled_faults kind (tree.Int n) = ap (λ (f : Faults). f kind) (fold-roll-Tree Faults Entry tree_step pair_step (tree.Int n))
rolled_faults kind (tree.Text text) = ap (λ (f : Faults). f kind) (fold-roll-Tree Faults Entry tree_step pair_step (tree.Text text))
rolled_faults kind (tree.List ts) = ap (λ (f : Faults). f kind) (fold-roll-Tree Faults Entry tree_step pair_step (tree.List ts))
rolled_faults kind (tree.Map ps) = ap (λ (f : Faults). f kind) (fold-roll-Tree Faults Entry tree_step pair_step (tree.Map ps))

pub faults_are : (x : Tree-F Tree Pair) (kind : Kind) → faults_of (as_tree x) kind ≡ layer_faults x kind
faults_are x kind = ap (λ t. faults_of t kind) (sym (rolled x)) ∙ rolled_faults kind x

-- ---- the parts of a kind

pub scalar_plain : (kind : Kind) → scalar_kind kind ≡ scalar_of (plain kind)
scalar_plain (kind_of.One s) = refl
scalar_plain kind = refl

pub item_plain : (kind : Kind) → option_map plain (item_kind kind) ≡ item_of (plain kind)
item_plain (kind_of.One s) = refl
item_plain kind = refl

pub map_plain : (kind : Kind) → map_kind kind ≡ map_of (plain kind)
map_plain (kind_of.One s) = refl
map_plain kind = refl

-- ---- what is told of a tree

abbrev TreeTold : Kind → Tree → List Found → Type 0
TreeTold kind t [] = Fits kind t
TreeTold kind t (f ∷ fs) = FirstFault kind t f.steps f.cause

abbrev IsTold : Tree → Type 0
IsTold t = (kind : Kind) → TreeTold (plain kind) t (faults_of t kind)

-- a fault at the value itself
itself : (kind : Kind) (x : Tree-F Tree Pair) (cause : ConfCause) → IsWrong kind x cause → TreeTold kind (as_tree x) (here (Some cause))
itself kind x cause wrong = at_value kind (as_tree x) cause (subst (λ y. IsWrong kind y cause) (sym (layer_of x)) wrong)

-- ---- flags, numbers and texts

module _ (kind : Kind) (x : Tree-F Tree Pair) (form : HasFormOf kind x → (s : Scalar) × (scalar_of kind ≡ Some s) × HasForm s x) where
  wrong_by : (s : Scalar) → scalar_of kind ≡ Some s → (cause : ConfCause) → Holds s x cause → IsWrong kind x cause
  wrong_by s e WrongType h = another_form kind x (λ f. let g = form f in h (subst (λ s. HasForm s x) (same_Some g.0 s (sym g.1 ∙ e)) g.2))
  wrong_by s e OutOfRange h = outside kind s x e h
  wrong_by s e LeftOut h = unsupported kind s x e h
  wrong_by s e BadText h = no_spelling kind s x e h.0 h.1 h.2 h.3
  wrong_by s e _ h = absurd h

  by_fault : (s : Scalar) → scalar_of kind ≡ Some s → (o : Option ConfCause) → Told s x o → TreeTold kind (as_tree x) (here o)
  by_fault s e None t = alone kind s (as_tree x) e (subst (FitsScalar s) (sym (layer_of x)) t)
  by_fault s e (Some cause) h = itself kind x cause (wrong_by s e cause h)

  scalar_told : (fault : Scalar → Option ConfCause) → ((s : Scalar) → Told s x (fault s)) → (o : Option Scalar) → o ≡ scalar_of kind → TreeTold kind (as_tree x) (here (as_scalar fault o))
  scalar_told fault told None e = itself kind x WrongType (another_form kind x (λ f. let g = form f in none-some g.0 (e ∙ g.1)))
  scalar_told fault told (Some s) e = by_fault s (sym e) (fault s) (told s)

-- ---- lists

abbrev ItemsTold : Kind → ℕ → List Tree → List Found → Type 0
ItemsTold one n ts [] = AllFit one ts
ItemsTold one n ts (f ∷ fs) = ItemFault one n ts f.steps f.cause

items_told : (kind : Kind) (n : ℕ) (ts : List Tree) → AllByRecursion IsTold ts → ItemsTold (plain kind) n ts (item_faults kind n (map faults_of ts))
items_told kind n [] all = no_items (plain kind)
items_told kind n (t ∷ ts) all = by (faults_of t kind) (all.0 kind) (items_told kind (n + 1) ts all.1)
  where
    later : Fits (plain kind) t → (fs : List Found) → ItemsTold (plain kind) (n + 1) ts fs → ItemsTold (plain kind) n (t ∷ ts) fs
    later fits [] more = item (plain kind) t ts fits more
    later fits (f ∷ fs) more = later_item (plain kind) n t ts f.steps f.cause fits more

    by : (fs : List Found) → TreeTold (plain kind) t fs → ItemsTold (plain kind) (n + 1) ts (item_faults kind (n + 1) (map faults_of ts)) → ItemsTold (plain kind) n (t ∷ ts) (under (decimal n) fs ++ item_faults kind (n + 1) (map faults_of ts))
    by [] fits more = later fits (item_faults kind (n + 1) (map faults_of ts)) more
    by (f ∷ fs) fault more = this_item (plain kind) n t ts f.steps f.cause fault

list_told : (kind : Kind) (ts : List Tree) → AllByRecursion IsTold ts → (o : Option Kind) → option_map plain o ≡ item_of kind → TreeTold kind (trees.List ts) (list_faults o (map faults_of ts))
list_told kind ts all None e = itself kind (tree.List ts) WrongType (another_form kind (tree.List ts) (λ f. none-some f.0 (e ∙ f.1)))
list_told kind ts all (Some one) e = by (item_faults one 0 (map faults_of ts)) (items_told one 0 ts all)
  where
    by : (fs : List Found) → ItemsTold (plain one) 0 ts fs → TreeTold kind (trees.List ts) fs
    by [] fit = items kind (plain one) ts (sym e) fit
    by (f ∷ fs) fault = in_items kind (plain one) ts f.steps f.cause (sym e) fault

-- ---- maps

-- the entries are right behind these keys
pub record AllRight (m : MapKind) (earlier : List Key) (ps : List Pair) : Type 0 where
  pub each : EntriesFit m ps
  pub apart : EachBefore (λ p q. AreSame m p.key q.key → ⊥) ps
  pub new : AllByRecursion (λ p. IsNew m earlier p.key) ps
  pub whole : IsWhole m (earlier ++ map (λ p. p.key) ps)

abbrev EntriesTold : MapKind → List Key → List Pair → List Found → Type 0
EntriesTold m earlier ps [] = AllRight m earlier ps
EntriesTold m earlier ps (f ∷ fs) = EntryFault m earlier ps f.steps f.cause

none_left : (m : MapKind) (earlier : List Key) (fs : List Found) → MissingTold (own_number m) earlier (lines m) fs → EntriesTold m earlier [] fs
none_left m earlier [] whole = record { each = no_entries m; apart = tt; new = tt; whole = subst (IsWhole m) (sym (append-nil earlier)) whole }
none_left m earlier (f ∷ fs) lacking = subst (λ (f : Found). EntryFault m earlier [] f.steps f.cause) (sym lacking.1) (missing m earlier lacking.0 lacking.2)

one_more : (m : MapKind) (earlier : List Key) (p : Pair) (ps : List Pair) (kind : Kind) → Under m p.key kind → IsNew m earlier p.key → Fits kind p.value → AllRight m (earlier ++ p.key ∷ []) ps → AllRight m earlier (p ∷ ps)
one_more m earlier p ps kind u new fits more = record {
  each = entry m kind p ps u fits more.each;
  apart = (all_by (λ q. AreSame m p.key q.key → ⊥) ps (λ q i. of_all (λ j. AreSame m j q.key → ⊥) (earlier ++ p.key ∷ []) (of_all (λ q. IsNew m (earlier ++ p.key ∷ []) q.key) ps more.new q i) p.key (behind earlier (p.key ∷ []) p.key (inl refl))), more.apart);
  new = (new, all_by (λ q. IsNew m earlier q.key) ps (λ q i. all_by (λ j. AreSame m j q.key → ⊥) earlier (λ j k. of_all (λ j. AreSame m j q.key → ⊥) (earlier ++ p.key ∷ []) (of_all (λ q. IsNew m (earlier ++ p.key ∷ []) q.key) ps more.new q i) j (in_front earlier (p.key ∷ []) j k))));
  whole = subst (IsWhole m) (append_assoc earlier (p.key ∷ []) (map (λ p. p.key) ps)) more.whole;
}

entries_told : (m : MapKind) (earlier : List Key) (ps : List Pair) → AllByRecursion (λ p. IsTold p.value) ps → EntriesTold m earlier ps (map_faults m earlier (map entry_of ps))
entries_told m earlier [] all = none_left m earlier (missing_in m earlier) (missing_told m earlier)
entries_told m earlier (p ∷ ps) all = subst (λ (e : Entry). EntriesTold m earlier (p ∷ ps) (map_faults m earlier (e ∷ map entry_of ps))) (sym (entry_pair p))
    (by (under_key m earlier p.key) (key_told m earlier p.key) (entries_told m (earlier ++ p.key ∷ []) ps all.1))
  where
    rest : List Found
    rest = map_faults m (earlier ++ p.key ∷ []) (map entry_of ps)

    later : (kind : Kind) → Under m p.key kind → IsNew m earlier p.key → Fits kind p.value → (fs : List Found) → EntriesTold m (earlier ++ p.key ∷ []) ps fs → EntriesTold m earlier (p ∷ ps) fs
    later kind u new fits [] more = one_more m earlier p ps kind u new fits more
    later kind u new fits (f ∷ fs) more = later_entry m earlier p ps kind f.steps f.cause u new fits more

    value : (kind : Kind) → Under m p.key (plain kind) → IsNew m earlier p.key → (fs : List Found) → TreeTold (plain kind) p.value fs → EntriesTold m (earlier ++ p.key ∷ []) ps rest → EntriesTold m earlier (p ∷ ps) (under (key_text p.key) fs ++ rest)
    value kind u new [] fits more = later (plain kind) u new fits rest more
    value kind u new (f ∷ fs) fault more = this_value m earlier p ps (plain kind) f.steps f.cause u new fault

    by : (found : Result Kind ConfCause) → KeyTold m earlier p.key found → EntriesTold m (earlier ++ p.key ∷ []) ps rest → EntriesTold m earlier (p ∷ ps) (under (key_text p.key) (value_faults (faults_of p.value) found) ++ rest)
    by (Ok kind) k more = value kind k.0 k.1 (faults_of p.value kind) (all.0 kind) more
    by (Err cause) wrong more = this_key m earlier p ps cause wrong

map_told : (kind : Kind) (ps : List Pair) → AllByRecursion (λ p. IsTold p.value) ps → (o : Option MapKind) → o ≡ map_of kind → TreeTold kind (trees.Map ps) (in_map o (map entry_of ps))
map_told kind ps all None e = itself kind (tree.Map ps) WrongType (another_form kind (tree.Map ps) (λ f. none-some f.0 (e ∙ f.1)))
map_told kind ps all (Some m) e = by (map_faults m [] (map entry_of ps)) (entries_told m [] ps all)
  where
    by : (fs : List Found) → EntriesTold m [] ps fs → TreeTold kind (trees.Map ps) fs
    by [] right = entries kind m ps (sym e) right.each right.apart right.whole
    by (f ∷ fs) fault = in_entries kind m ps f.steps f.cause (sym e) fault

-- ---- nothing

pub nothing_is : (m : MapKind) → may_be_null m ≡ true → MayBeNothing m
nothing_is maps.Top is = tt
nothing_is (maps.Interface number) is = tt
nothing_is (maps.Vlan number) is = tt
nothing_is maps.Vlans is = tt
nothing_is maps.Acls is = tt
nothing_is maps.Routers is = tt
nothing_is m is = absurd (true≢false (sym is))

pub nothing_tests : (m : MapKind) → MayBeNothing m → may_be_null m ≡ true
nothing_tests maps.Top h = refl
nothing_tests (maps.Interface number) h = refl
nothing_tests (maps.Vlan number) h = refl
nothing_tests maps.Vlans h = refl
nothing_tests maps.Acls h = refl
nothing_tests maps.Routers h = refl
nothing_tests m h = absurd h

null_told : (kind : Kind) (o : Option MapKind) → o ≡ map_of kind → TreeTold kind trees.Null (null_faults o)
null_told kind None e = itself kind tree.Null WrongType (another_form kind tree.Null (λ f. none-some f.0 (e ∙ f.1)))
null_told kind (Some m) e = by (may_be_null m) refl
  where
    whole : MayBeNothing m → (fs : List Found) → MissingTold (own_number m) [] (lines m) fs → TreeTold kind trees.Null fs
    whole may [] told = nothing kind m (sym e) may told
    whole may (f ∷ fs) told = in_nothing kind m f.steps f.cause (sym e) may (none_left m [] (f ∷ fs) told)

    by : (b : Bool) → may_be_null m ≡ b → TreeTold kind trees.Null (if b then missing_in m [] else here (Some WrongType))
    by true is = whole (nothing_is m is) (missing_in m []) (missing_told m [])
    by false is = itself kind tree.Null WrongType (another_form kind tree.Null (λ f. true≢false (sym (nothing_tests m (subst MayBeNothing (same_Some f.0 m (sym f.1 ∙ sym e)) f.2)) ∙ is)))

-- ---- the whole

layer_told : (x : Tree-F Tree Pair) → Below IsTold x → (kind : Kind) → TreeTold (plain kind) (as_tree x) (layer_faults x kind)
layer_told tree.Null below kind = null_told (plain kind) (map_kind kind) (map_plain kind)
layer_told (tree.Bool flag) below kind = scalar_told (plain kind) (tree.Bool flag) (λ f. f) flag_fault (λ s. flag_told s flag) (scalar_kind kind) (scalar_plain kind)
layer_told (tree.Int n) below kind = scalar_told (plain kind) (tree.Int n) (λ f. f) (λ s. number_fault s n) (λ s. number_told s n) (scalar_kind kind) (scalar_plain kind)
layer_told (tree.Text text) below kind = scalar_told (plain kind) (tree.Text text) (λ f. f) (λ s. text_fault s text) (λ s. text_told s text) (scalar_kind kind) (scalar_plain kind)
layer_told (tree.List ts) below kind = list_told (plain kind) ts below (item_kind kind) (item_plain kind)
layer_told (tree.Map ps) below kind = map_told (plain kind) ps below (map_kind kind) (map_plain kind)

pub told : (t : Tree) → IsTold t
told = by_layers IsTold (λ t below kind. subst (λ u. TreeTold (plain kind) u (faults_of u kind)) (tree_of t) (subst (TreeTold (plain kind) (as_tree (out-Tree t))) (sym (faults_are (out-Tree t) kind)) (layer_told (out-Tree t) below kind)))

pub document_is : (t : Tree) → first_fault t ≡ None → IsDocument t
document_is t none = by (faults_of t (kind_of.Map maps.Top)) (told t (kind_of.Map maps.Top)) none
  where
    by : (fs : List Found) → TreeTold (kind_of.Map maps.Top) t fs → option_map fault_of (first fs) ≡ None → IsDocument t
    by [] fits e = fits
    by (f ∷ fs) fault e = absurd (none-some (fault_of f) (sym e))

pub fault_is : (t : Tree) (fault : ConfFault) → first_fault t ≡ Some fault → IsFaultOf t fault
fault_is t fault is = by (faults_of t (kind_of.Map maps.Top)) (told t (kind_of.Map maps.Top)) is
  where
    by : (fs : List Found) → TreeTold (kind_of.Map maps.Top) t fs → option_map fault_of (first fs) ≡ Some fault → IsFaultOf t fault
    by [] fits e = absurd (none-some fault e)
    by (f ∷ fs) found e = subst (IsFaultOf t) (same_Some (fault_of f) fault e) (f.steps, refl, found)
