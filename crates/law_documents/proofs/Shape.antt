-- The path of a fault of the shape leads to what is written, or to the map that lacks its last key.
use Rattle.std.specs.Prelude.{◌≡◌, ℕ, ◌+◌, ◌&&◌, ◌||◌, ◌⊎◌, Bool, true, false, not, if◌then◌else◌, List, [], ◌∷◌, ◌++◌, map, Option, None, Some, Result, Ok, Err}
use Rattle.std.specs.Fmt.{decimal}
use Rattle.std.specs.List.{AllByRecursion, list_any}
use Rattle.std.specs.Option.{option_map}
use Rattle.std.proofs.Common.{inl, inr, refl, sym, ap, ◌∙◌, subst, true≢false, append_assoc, append-nil}
use Rattle.std.proofs.lemmas.Option.{none-some, same_Some}
use Rattle.yaml_tree.specs.declared.tree.Key.{Key}
use Rattle.yaml_tree.specs.declared.tree.Pair.{Pair}
use Rattle.yaml_tree.specs.declared.tree.Tree.{Tree, out-Tree, roll-Tree, roll-out-Tree}
use Rattle.yaml_tree.specs.declared.tree.Tree.TheOpen.{Tree-F}
use Rattle.yaml_tree.specs.declared.tree.Tree.TheOpen as tree
use Rattle.yaml_tree.specs.declared.tree.Tree.TheFolds.{fold-roll-Tree}
use Rattle.conf_shape.specs.declared.faults.Found.{Found}
use Rattle.conf_shape.specs.declared.kinds.Kind.{Kind}
use Rattle.conf_shape.specs.declared.kinds.Kind.TheVariants as kind_of
use Rattle.conf_shape.specs.declared.kinds.MapKind.{MapKind}
use Rattle.conf_shape.specs.declared.kinds.MapKind.TheVariants as maps
use Rattle.conf_shape.specs.declared.refused.ConfCause.{ConfCause}
use Rattle.conf_shape.specs.declared.refused.ConfCause.TheVariants.{Missing, WrongType}
use Rattle.conf_shape.specs.declared.refused.ConfFault.{ConfFault}
use Rattle.conf_shape.specs.Faults.{Faults, Entry, here, found_under, under, item_faults, list_faults, missing_row, missing, missing_in, value_faults, map_faults, in_map, may_be_null, null_faults, tree_step, pair_step, faults_of, entry_of, first, fault_of, first_fault}
use Rattle.conf_shape.specs.Keys.{KeyRow, keys_of}
use Rattle.conf_shape.specs.Reads.{value_at, entries_in}
use Rattle.conf_shape.specs.Scalars.{flag_cause, number_cause, text_cause, item_kind, map_kind}
use Rattle.conf_shape.specs.Sections.{key_text, is_key, map_keys, number_of, under_key, is_needed, lacks}
use Rattle.conf_shape.proofs.FaultLaws.{entry_pair}
use Rattle.law_checks.proofs.Members.{all_joined}
use Rattle.law_keys.proofs.Trees.{Below, by_layers}
use Rattle.law_documents.specs.Forms.{IsWritten, IsSection}
use Rattle.law_documents.specs.Leads.{IsEntry, IsItem, IsBelow, LeadsTo, PathLeads}
use Rattle.law_documents.specs.Shape.{Lacks, IsOfMissing}

-- ---- faults that lead somewhere

pub record LeadsToMap (t : Tree) (f : Found) : Type 0 where
  pub steps : List (List ℕ)
  pub key : List ℕ
  pub is : f ≡ record { steps = steps ++ key ∷ []; cause = Missing }
  pub at : Tree
  pub leads : LeadsTo t steps at
  pub lacks : Lacks key at

abbrev FoundLeads : Tree → Found → Type 0
FoundLeads t f = ((v : Tree) × LeadsTo t f.steps v) ⊎ LeadsToMap t f

abbrev AllLead : Tree → List Found → Type 0
AllLead t fs = AllByRecursion (FoundLeads t) fs

here_leads : (t : Tree) (cause : Option ConfCause) → AllLead t (here cause)
here_leads t None = tt
here_leads t (Some cause) = (inl (t, refl), tt)

module _ (t : Tree) (step : List ℕ) (u : Tree) (below : IsBelow (out-Tree t) step u) where
  behind_leads : (f : Found) → FoundLeads u f → FoundLeads t (found_under step f)
  behind_leads f (inl l) = inl (l.0, (u, below, l.1))
  behind_leads f (inr m) = inr (record { steps = step ∷ m.steps; key = m.key; is = ap (found_under step) m.is; at = m.at; leads = (u, below, m.leads); lacks = m.lacks })

  under_lead : (fs : List Found) → AllLead u fs → AllLead t (under step fs)
  under_lead [] all = tt
  under_lead (f ∷ fs) all = (behind_leads f all.0, under_lead fs all.1)

-- every fault of a tree leads somewhere in it
abbrev Leads : Tree → Type 0
Leads t = (kind : Kind) → AllLead t (faults_of t kind)

-- ---- lists

items_lead : (t : Tree) (item : Kind) (n : ℕ) (items : List Tree) → ((step : List ℕ) (v : Tree) → IsItem n items step v → IsBelow (out-Tree t) step v) → AllByRecursion Leads items → AllLead t (item_faults item n (map faults_of items))
items_lead t item n [] below all = tt
items_lead t item n (u ∷ us) below all =
    all_joined (FoundLeads t) (under (decimal n) (faults_of u item)) (item_faults item (n + 1) (map faults_of us))
    (under_lead t (decimal n) u (below (decimal n) u (inl (refl, refl))) (faults_of u item) (all.0 item))
    (items_lead t item (n + 1) us (λ step v i. below step v (inr i)) all.1)

list_leads : (t : Tree) (item : Option Kind) (items : List Tree) → ((step : List ℕ) (v : Tree) → IsItem 0 items step v → IsBelow (out-Tree t) step v) → AllByRecursion Leads items → AllLead t (list_faults item (map faults_of items))
list_leads t None items below all = here_leads t (Some WrongType)
list_leads t (Some item) items below all = items_lead t item 0 items below all

-- ---- maps

no_value : (name : List ℕ) (pairs : List Pair) → list_any (is_key name) (map_keys pairs) ≡ false → value_at name pairs ≡ None
no_value name [] none = refl
no_value name (p ∷ ps) none = by (is_key name p.key) none (no_value name ps)
  where
    by : (b : Bool) → (b || list_any (is_key name) (map_keys ps)) ≡ false → (list_any (is_key name) (map_keys ps) ≡ false → value_at name ps ≡ None) → (if b then Some p.value else value_at name ps) ≡ None
    by true e more = absurd (true≢false e)
    by false e more = more e

no_key : (a b : Bool) → (a && not b) ≡ true → b ≡ false
no_key true true is = absurd (true≢false (sym is))
no_key true false is = refl
no_key false b is = absurd (true≢false (sym is))

rows_lead : (t : Tree) (number : Option ℕ) (keys : List Key) → ((name : List ℕ) → list_any (is_key name) keys ≡ false → Lacks name t) → (rows : List KeyRow) → AllLead t (missing number keys rows)
rows_lead t number keys lack [] = tt
rows_lead t number keys lack (r ∷ rs) = by (lacks number keys r) refl (rows_lead t number keys lack rs)
  where
    by : (b : Bool) → lacks number keys r ≡ b → AllLead t (missing number keys rs) → AllLead t (if b then missing_row r.key ∷ missing number keys rs else missing number keys rs)
    by true is more = (inr (record { steps = []; key = r.key; is = refl; at = t; leads = refl; lacks = lack r.key (no_key (is_needed number keys r.need) (list_any (is_key r.key) keys) is) }), more)
    by false is more = more

value_leads : (v : Tree) → Leads v → (found : Result Kind ConfCause) → AllLead v (value_faults (faults_of v) found)
value_leads v leads (Ok kind) = leads kind
value_leads v leads (Err cause) = here_leads v (Some cause)

entries_lead : (t : Tree) (m : MapKind) (earlier : List Key) (pairs : List Pair) → AllLead t (missing_in m (earlier ++ map_keys pairs)) → ((step : List ℕ) (v : Tree) → IsEntry pairs step v → IsBelow (out-Tree t) step v) → AllByRecursion (λ p. Leads p.value) pairs → AllLead t (map_faults m earlier (map entry_of pairs))
entries_lead t m earlier [] lack below all = subst (λ keys. AllLead t (missing_in m keys)) (append-nil earlier) lack
entries_lead t m earlier (p ∷ ps) lack below all =
    subst (λ (e : Entry). AllLead t (map_faults m earlier (e ∷ map entry_of ps))) (sym (entry_pair p))
    (all_joined (FoundLeads t) (under (key_text p.key) (value_faults (faults_of p.value) (under_key m earlier p.key))) (map_faults m (earlier ++ p.key ∷ []) (map entry_of ps))
    (under_lead t (key_text p.key) p.value (below (key_text p.key) p.value (inl (refl, refl))) (value_faults (faults_of p.value) (under_key m earlier p.key)) (value_leads p.value all.0 (under_key m earlier p.key)))
    (entries_lead t m (earlier ++ p.key ∷ []) ps (subst (λ keys. AllLead t (missing_in m keys)) (sym (append_assoc earlier (p.key ∷ []) (map_keys ps))) lack) (λ step v i. below step v (inr i)) all.1))

map_leads : (t : Tree) (m : Option MapKind) (pairs : List Pair) → out-Tree t ≡ tree.Map pairs → AllByRecursion (λ p. Leads p.value) pairs → AllLead t (in_map m (map entry_of pairs))
map_leads t None pairs is all = here_leads t (Some WrongType)
map_leads t (Some m) pairs is all =
    entries_lead t m [] pairs
    (rows_lead t (number_of m) (map_keys pairs) (λ name none. (subst IsSection (sym is) tt, ap (λ x. value_at name (entries_in x)) is ∙ no_value name pairs none)) (keys_of m).rows)
    (λ step v i. subst (λ x. IsBelow x step v) (sym is) i)
    all

null_leads : (t : Tree) (m : Option MapKind) → out-Tree t ≡ tree.Null → AllLead t (null_faults m)
null_leads t None is = here_leads t (Some WrongType)
null_leads t (Some m) is = by (may_be_null m)
  where
    by : (b : Bool) → AllLead t (if b then missing_in m [] else here (Some WrongType))
    by true = rows_lead t (number_of m) [] (λ name none. (subst IsSection (sym is) tt, ap (λ x. value_at name (entries_in x)) is)) (keys_of m).rows
    by false = here_leads t (Some WrongType)

-- ---- layer by layer

abbrev layer_faults : Tree-F Tree Pair → Kind → List Found
layer_faults tree.Null kind = null_faults (map_kind kind)
layer_faults (tree.Bool flag) kind = here (flag_cause kind)
layer_faults (tree.Int n) kind = here (number_cause kind n)
layer_faults (tree.Text text) kind = here (text_cause kind text)
layer_faults (tree.List items) kind = list_faults (item_kind kind) (map faults_of items)
layer_faults (tree.Map pairs) kind = in_map (map_kind kind) (map entry_of pairs)

rolled_faults : (kind : Kind) (x : Tree-F Tree Pair) → faults_of (roll-Tree x) kind ≡ layer_faults x kind
rolled_faults kind tree.Null = ap (λ (f : Faults). f kind) (fold-roll-Tree Faults Entry tree_step pair_step tree.Null)
rolled_faults kind (tree.Bool flag) = ap (λ (f : Faults). f kind) (fold-roll-Tree Faults Entry tree_step pair_step (tree.Bool flag))
rolled_faults kind (tree.Int n) = ap (λ (f : Faults). f kind) (fold-roll-Tree Faults Entry tree_step pair_step (tree.Int n))
rolled_faults kind (tree.Text text) = ap (λ (f : Faults). f kind) (fold-roll-Tree Faults Entry tree_step pair_step (tree.Text text))
rolled_faults kind (tree.List items) = ap (λ (f : Faults). f kind) (fold-roll-Tree Faults Entry tree_step pair_step (tree.List items))
rolled_faults kind (tree.Map pairs) = ap (λ (f : Faults). f kind) (fold-roll-Tree Faults Entry tree_step pair_step (tree.Map pairs))

faults_are : (kind : Kind) (t : Tree) → faults_of t kind ≡ layer_faults (out-Tree t) kind
faults_are kind t = subst (λ u. faults_of u kind ≡ layer_faults (out-Tree t) kind) (roll-out-Tree t) (rolled_faults kind (out-Tree t))

layer_leads : (t : Tree) (x : Tree-F Tree Pair) → out-Tree t ≡ x → Below Leads x → (kind : Kind) → AllLead t (layer_faults x kind)
layer_leads t tree.Null is below kind = null_leads t (map_kind kind) is
layer_leads t (tree.Bool flag) is below kind = here_leads t (flag_cause kind)
layer_leads t (tree.Int n) is below kind = here_leads t (number_cause kind n)
layer_leads t (tree.Text text) is below kind = here_leads t (text_cause kind text)
layer_leads t (tree.List items) is below kind = list_leads t (item_kind kind) items (λ step v i. subst (λ x. IsBelow x step v) (sym is) i) below
layer_leads t (tree.Map pairs) is below kind = map_leads t (map_kind kind) pairs is below

tree_leads : (t : Tree) → Below Leads (out-Tree t) → Leads t
tree_leads t below kind = subst (AllLead t) (sym (faults_are kind t)) (layer_leads t (out-Tree t) refl below kind)

-- ---- the fault that is told

told_leads : (t : Tree) (f : Found) → FoundLeads t f → PathLeads t IsWritten (fault_of f) ⊎ IsOfMissing t (fault_of f)
told_leads t f (inl l) = inl (f.steps, refl, l.0, l.1, tt)
told_leads t f (inr m) = inr (m.steps, m.key, ap fault_of m.is, m.at, m.leads, m.lacks)

pub shape_leads : (t : Tree) (fault : ConfFault) → first_fault t ≡ Some fault → PathLeads t IsWritten fault ⊎ IsOfMissing t fault
shape_leads t fault is = by (faults_of t (kind_of.Map maps.Top)) (by_layers Leads tree_leads t (kind_of.Map maps.Top)) is
  where
    by : (fs : List Found) → AllLead t fs → option_map fault_of (first fs) ≡ Some fault → PathLeads t IsWritten fault ⊎ IsOfMissing t fault
    by [] all e = absurd (none-some fault e)
    by (f ∷ fs) all e = subst (λ fault. PathLeads t IsWritten fault ⊎ IsOfMissing t fault) (same_Some (fault_of f) fault e) (told_leads t f all.0)
