-- What is written under a key of a map with no fault has the form that the key asks for.
use Rattle.std.proofs.Common.{◌≡◌, ℕ, ℤ, pos, negsuc, ◌<◌, ◌-◌, ◌^◌, ◌&&◌, Bool, true, false, List, [], ◌∷◌, ◌++◌, Option, Some, None, Result, Ok, Err, refl, sym, ap, ◌∙◌, inl, inr, ◌⊎◌, subst, rules}
use Rattle.std.specs.Prelude.{map, nat_le, unwrap_or, option_and_then, if◌then◌else◌}
use Rattle.std.specs.List.{AllByRecursion, list_any}
use Rattle.std.specs.Option.{option_map}
use Rattle.std.specs.Str.{bytes_eq}
use Rattle.std.proofs.lemmas.Slice.Eq.{bytes_eq-Decides}
use Rattle.yaml_tree.specs.declared.tree.Tree.{Tree, out-Tree, roll-Tree, roll-out-Tree}
use Rattle.yaml_tree.specs.declared.tree.Key.{Key}
use Rattle.yaml_tree.specs.declared.tree.Key.TheVariants as key
use Rattle.yaml_tree.specs.declared.tree.Pair.{Pair}
use Rattle.yaml_tree.specs.declared.tree.Tree.TheOpen.{Tree-F}
use Rattle.yaml_tree.specs.declared.tree.Tree.TheOpen as open_tree
use Rattle.yaml_tree.specs.declared.tree.Tree.TheFolds.{fold-roll-Tree}
use Rattle.conf_shape.specs.declared.faults.Found.{Found}
use Rattle.conf_shape.specs.declared.refused.ConfCause.{ConfCause}
use Rattle.conf_shape.specs.declared.refused.ConfCause.TheVariants.{LeftOut, WrongType, OutOfRange, Duplicate}
use Rattle.conf_shape.specs.declared.kinds.Kind.{Kind}
use Rattle.conf_shape.specs.declared.kinds.Kind.TheVariants.{One}
use Rattle.conf_shape.specs.declared.kinds.Kind.TheVariants as kinds_of
use Rattle.conf_shape.specs.declared.kinds.Scalar.{Scalar}
use Rattle.conf_shape.specs.declared.kinds.Scalar.TheVariants.{Flag, Number}
use Rattle.conf_shape.specs.declared.kinds.TheConstants.{MOST_VID, MOST_PORT_NO}
use Rattle.conf_shape.specs.declared.kinds.MapKind.{MapKind}
use Rattle.conf_shape.specs.declared.kinds.MapKind.TheVariants as kinds
use Rattle.conf_shape.specs.Keys.{KeyRow, Keys, keys_of}
use Rattle.conf_shape.specs.Scalars.{within, if_within, is_name, flag_fault, number_fault, text_fault}
use Rattle.conf_shape.specs.Sections.{key_text, is_key, canonical, row_at, spells, given, number_of, row_kind, text_kind, has_text, named_kind, named_once, as_map, number_or_name, under_key}
use Rattle.conf_shape.specs.Faults.{Faults, Entry, here, under, value_faults, missing_in, map_faults, may_be_null, tree_step, pair_step, faults_of, entry_of, first, fault_of, first_fault}
use Rattle.conf_shape.specs.Reads.{value_at, flag_in, number_in, text_in, entries_in, flag_of, text_of, entries_of}
use Rattle.conf_shape.specs.Reads as reads
use Rattle.conf_shape.specs.Written.{IsRight, Takes, IsTextAlone}
use Rattle.conf_shape.proofs.FaultLaws.{entry_pair}

-- ---- lists with no fault

pub split : (fs gs : List Found) → fs ++ gs ≡ [] → (fs ≡ []) × (gs ≡ [])
split [] gs e = (refl, e)
split (f ∷ fs) gs e = absurd cc

pub under_none : (step : List ℕ) (fs : List Found) → under step fs ≡ [] → fs ≡ []
under_none step [] e = refl
under_none step (f ∷ fs) e = absurd cc

pub here_none : (cause : Option ConfCause) → here cause ≡ [] → cause ≡ None
here_none None e = refl
here_none (Some cause) e = absurd cc

-- ---- keys

-- behind other keys a key has the kind that it has alone, or is written twice
abbrev pub IsSame : Result Kind ConfCause → Kind → Type 0
IsSame found kind = (found ≡ Ok kind) ⊎ (found ≡ Err Duplicate)

row_same : (keys : Keys) (number : Option ℕ) (earlier : List Key) (r : Option KeyRow) (kind : Kind) → row_kind keys number [] r ≡ Ok kind → IsSame (row_kind keys number earlier r) kind
row_same keys number earlier None kind e = inl e
row_same keys number earlier (Some r) kind e = by (list_any (spells keys.spellings r.key) earlier)
  where
    by : (twice : Bool) → IsSame (if twice then Err Duplicate else Ok (given number r.kind)) kind
    by true = inr refl
    by false = inl e

text_same : (keys : Keys) (number : Option ℕ) (earlier : List Key) (text : List ℕ) (kind : Kind) → text_kind keys number [] text ≡ Ok kind → IsSame (text_kind keys number earlier text) kind
text_same keys number earlier text kind e = by (list_any (λ name. bytes_eq name text) keys.left_out) e
  where
    row : Option KeyRow
    row = row_at (canonical keys.spellings text) keys.rows

    by : (left_out : Bool) → (if left_out then Err LeftOut else row_kind keys number [] row) ≡ Ok kind → IsSame (if left_out then Err LeftOut else row_kind keys number earlier row) kind
    by true e = inl e
    by false e = row_same keys number earlier row kind e

named_same : (m : MapKind) (earlier : List Key) (name : List ℕ) (kind : Kind) → named_once m [] (key.Text name) ≡ Ok kind → IsSame (named_once m earlier (key.Text name)) kind
named_same m earlier name kind e = by (list_any (has_text name) earlier)
  where
    by : (twice : Bool) → IsSame (if twice then Err Duplicate else named_kind name m) kind
    by true = inr refl
    by false = inl e

pub same : (m : MapKind) (earlier : List Key) (name : List ℕ) (kind : Kind) → Takes m name kind → IsSame (under_key m earlier (key.Text name)) kind
same kinds.Datapaths earlier name kind e = named_same kinds.Datapaths earlier name kind e
same kinds.Acls earlier name kind e = named_same kinds.Acls earlier name kind e
same kinds.Routers earlier name kind e = named_same kinds.Routers earlier name kind e
same kinds.Interfaces earlier name kind e = inl e
same kinds.Vlans earlier name kind e = inl e
same m earlier name kind e = text_same (keys_of m) (number_of m) earlier name kind e

-- ---- values

right_as : (value : Faults) (found : Result Kind ConfCause) (kind : Kind) → IsSame found kind → value_faults value found ≡ [] → value kind ≡ []
right_as value found kind (inl e) h = subst (λ found. value_faults value found ≡ []) e h
right_as value found kind (inr e) h = let none : here (Some Duplicate) ≡ [] = subst (λ found. value_faults value found ≡ []) e h in absurd cc

key_is : (name : List ℕ) (k : Key) → is_key name k ≡ true → k ≡ key.Text name
key_is name (key.Text text) e = ap key.Text ((bytes_eq-Decides text name).0 e)
key_is name (key.Int n) e = absurd cc

-- the value under a key of a map with no fault has none
found_right : (m : MapKind) (earlier : List Key) (pairs : List Pair) (name : List ℕ) (kind : Kind) (t : Tree) → Takes m name kind → map_faults m earlier (map entry_of pairs) ≡ [] → value_at name pairs ≡ Some t → faults_of t kind ≡ []
found_right m earlier [] name kind t takes h v = absurd cc
found_right m earlier (p ∷ ps) name kind t takes h v =
    let entry : map_faults m earlier ((p.key, faults_of p.value) ∷ map entry_of ps) ≡ [] = subst (λ (e : Entry). map_faults m earlier (e ∷ map entry_of ps) ≡ []) (entry_pair p) h in
    let parts = split (under (key_text p.key) (value_faults (faults_of p.value) (under_key m earlier p.key))) (map_faults m (earlier ++ p.key ∷ []) (map entry_of ps)) entry in
    by (is_key name p.key) refl v (under_none (key_text p.key) (value_faults (faults_of p.value) (under_key m earlier p.key)) parts.0) (found_right m (earlier ++ p.key ∷ []) ps name kind t takes parts.1)
  where
    by : (is : Bool) → is_key name p.key ≡ is → (if is then Some p.value else value_at name ps) ≡ Some t → value_faults (faults_of p.value) (under_key m earlier p.key) ≡ [] → (value_at name ps ≡ Some t → faults_of t kind ≡ []) → faults_of t kind ≡ []
    by true k v here_right later =
        let there : value_faults (faults_of p.value) (under_key m earlier (key.Text name)) ≡ [] = subst (λ k. value_faults (faults_of p.value) (under_key m earlier k) ≡ []) (key_is name p.key k) here_right in
        let value : p.value ≡ t = cc in
        subst (λ t. faults_of t kind ≡ []) value (right_as (faults_of p.value) (under_key m earlier (key.Text name)) kind (same m earlier name kind takes) there)
    by false k v here_right later = later v

-- what a value is where a scalar stands and it has no fault
abbrev Fits : Scalar → Tree-F Tree Pair → Type 0
Fits s (open_tree.Bool flag) = flag_fault s ≡ None
Fits s (open_tree.Int n) = number_fault s n ≡ None
Fits s (open_tree.Text text) = text_fault s text ≡ None
Fits s open_tree.Null = ⊥
Fits s (open_tree.List items) = ⊥
Fits s (open_tree.Map pairs) = ⊥

module _ (s : Scalar) where
  layer : (x : Tree-F Tree Pair) → faults_of (roll-Tree x) (One s) ≡ [] → Fits s x
  layer open_tree.Null h = let no : here (Some WrongType) ≡ [] = sym (ap (λ (f : Faults). f (One s)) (fold-roll-Tree Faults Entry tree_step pair_step open_tree.Null)) ∙ h in absurd cc
  layer (open_tree.Bool flag) h = here_none (flag_fault s) (sym (ap (λ (f : Faults). f (One s)) (fold-roll-Tree Faults Entry tree_step pair_step (open_tree.Bool flag))) ∙ h)
  layer (open_tree.Int n) h = here_none (number_fault s n) (sym (ap (λ (f : Faults). f (One s)) (fold-roll-Tree Faults Entry tree_step pair_step (open_tree.Int n))) ∙ h)
  layer (open_tree.Text text) h = here_none (text_fault s text) (sym (ap (λ (f : Faults). f (One s)) (fold-roll-Tree Faults Entry tree_step pair_step (open_tree.Text text))) ∙ h)
  layer (open_tree.List items) h = let no : here (Some WrongType) ≡ [] = sym (ap (λ (f : Faults). f (One s)) (fold-roll-Tree Faults Entry tree_step pair_step (open_tree.List items))) ∙ h in absurd cc
  layer (open_tree.Map pairs) h = let no : here (Some WrongType) ≡ [] = sym (ap (λ (f : Faults). f (One s)) (fold-roll-Tree Faults Entry tree_step pair_step (open_tree.Map pairs))) ∙ h in absurd cc

  fits : (t : Tree) → faults_of t (One s) ≡ [] → Fits s (out-Tree t)
  fits t h = layer (out-Tree t) (subst (λ t. faults_of t (One s) ≡ []) (sym (roll-out-Tree t)) h)

flag_there : (x : Tree-F Tree Pair) → Fits Flag x → (flag : Bool) × (flag_in x ≡ Some flag)
flag_there (open_tree.Bool flag) f = (flag, refl)
flag_there (open_tree.Int n) f = absurd cc
flag_there (open_tree.Text text) f = absurd cc
flag_there open_tree.Null f = absurd f
flag_there (open_tree.List items) f = absurd f
flag_there (open_tree.Map pairs) f = absurd f

text_there : (s : Scalar) → IsTextAlone s → (x : Tree-F Tree Pair) → Fits s x → (text : List ℕ) × (text_in x ≡ Some text)
text_there s alone (open_tree.Text text) f = (text, refl)
text_there s alone (open_tree.Bool flag) f = let no : Some WrongType ≡ None = sym alone.no_flag ∙ f in absurd cc
text_there s alone (open_tree.Int n) f = let no : Some WrongType ≡ None = sym (alone.no_number n) ∙ f in absurd cc
text_there s alone open_tree.Null f = absurd f
text_there s alone (open_tree.List items) f = absurd f
text_there s alone (open_tree.Map pairs) f = absurd f

within_more : (low high : ℕ) (n : ℤ) → high < 2 ^ 32 → if_within (within low high n) ≡ None → (k : ℕ) × (within low high n ≡ Some k) × (within 0 (2 ^ 32 - 1) n ≡ Some k)
within_more low high (negsuc n) small e = absurd cc
within_more low high (pos n) small e = by (nat_le low n && nat_le n high) refl e
  where
    by : (is : Bool) → (nat_le low n && nat_le n high) ≡ is → if_within (if is then Some n else None) ≡ None → (k : ℕ) × ((if is then Some n else None) ≡ Some k) × (within 0 (2 ^ 32 - 1) (pos n) ≡ Some k)
    by true is e = (n, refl, search rules)
    by false is e = absurd cc

number_there : (low high : ℕ) → high < 2 ^ 32 → (x : Tree-F Tree Pair) → Fits (Number low high) x → (k : ℕ) × (number_in low high x ≡ Some k) × (number_in 0 (2 ^ 32 - 1) x ≡ Some k)
number_there low high small (open_tree.Int n) f = within_more low high n small f
number_there low high small (open_tree.Bool flag) f = absurd cc
number_there low high small (open_tree.Text text) f = absurd cc
number_there low high small open_tree.Null f = absurd f
number_there low high small (open_tree.List items) f = absurd f
number_there low high small (open_tree.Map pairs) f = absurd f

-- ---- maps and lists

if_null : (m : MapKind) (may : Bool) → (if may then missing_in m [] else here (Some WrongType)) ≡ [] → missing_in m [] ≡ []
if_null m true h = h
if_null m false h = absurd cc

module _ (m : MapKind) where
  map_layer : (x : Tree-F Tree Pair) → faults_of (roll-Tree x) (kinds_of.Map m) ≡ [] → IsRight m (entries_in x)
  map_layer open_tree.Null h = if_null m (may_be_null m) (sym (ap (λ (f : Faults). f (kinds_of.Map m)) (fold-roll-Tree Faults Entry tree_step pair_step open_tree.Null)) ∙ h)
  map_layer (open_tree.Map pairs) h = sym (ap (λ (f : Faults). f (kinds_of.Map m)) (fold-roll-Tree Faults Entry tree_step pair_step (open_tree.Map pairs))) ∙ h
  map_layer (open_tree.Bool flag) h = let no : here (Some WrongType) ≡ [] = sym (ap (λ (f : Faults). f (kinds_of.Map m)) (fold-roll-Tree Faults Entry tree_step pair_step (open_tree.Bool flag))) ∙ h in absurd cc
  map_layer (open_tree.Int n) h = let no : here (Some WrongType) ≡ [] = sym (ap (λ (f : Faults). f (kinds_of.Map m)) (fold-roll-Tree Faults Entry tree_step pair_step (open_tree.Int n))) ∙ h in absurd cc
  map_layer (open_tree.Text text) h = let no : here (Some WrongType) ≡ [] = sym (ap (λ (f : Faults). f (kinds_of.Map m)) (fold-roll-Tree Faults Entry tree_step pair_step (open_tree.Text text))) ∙ h in absurd cc
  map_layer (open_tree.List items) h = let no : here (Some WrongType) ≡ [] = sym (ap (λ (f : Faults). f (kinds_of.Map m)) (fold-roll-Tree Faults Entry tree_step pair_step (open_tree.List items))) ∙ h in absurd cc

  pub map_right : (t : Tree) → faults_of t (kinds_of.Map m) ≡ [] → IsRight m (entries_of t)
  map_right t h = map_layer (out-Tree t) (subst (λ t. faults_of t (kinds_of.Map m) ≡ []) (sym (roll-out-Tree t)) h)

pub document_right : (t : Tree) → first_fault t ≡ None → IsRight kinds.Top (entries_of t)
document_right t none = map_right kinds.Top t (by (faults_of t (kinds_of.Map kinds.Top)) none)
  where
    by : (fs : List Found) → option_map fault_of (first fs) ≡ None → fs ≡ []
    by [] e = refl
    by (f ∷ fs) e = absurd cc

pub below_right : (m inner : MapKind) (pairs : List Pair) (name : List ℕ) (t : Tree) → IsRight m pairs → value_at name pairs ≡ Some t → Takes m name (kinds_of.Map inner) → IsRight inner (entries_of t)
below_right m inner pairs name t right v takes = map_right inner t (found_right m [] pairs name (kinds_of.Map inner) t takes right v)

-- each entry of a map of the user's keys, by what a right value under such a key is
each_right : (m : MapKind) (P : Pair → Type 0) → ((earlier : List Key) (p : Pair) (kind : Kind) → under_key m earlier p.key ≡ Ok kind → faults_of p.value kind ≡ [] → P p) → (earlier : List Key) (pairs : List Pair) → map_faults m earlier (map entry_of pairs) ≡ [] → AllByRecursion P pairs
each_right m P each earlier [] h = tt
each_right m P each earlier (p ∷ ps) h =
    let entry : map_faults m earlier ((p.key, faults_of p.value) ∷ map entry_of ps) ≡ [] = subst (λ (e : Entry). map_faults m earlier (e ∷ map entry_of ps) ≡ []) (entry_pair p) h in
    let parts = split (under (key_text p.key) (value_faults (faults_of p.value) (under_key m earlier p.key))) (map_faults m (earlier ++ p.key ∷ []) (map entry_of ps)) entry in
    (by (under_key m earlier p.key) refl (under_none (key_text p.key) (value_faults (faults_of p.value) (under_key m earlier p.key)) parts.0), each_right m P each (earlier ++ p.key ∷ []) ps parts.1)
  where
    by : (found : Result Kind ConfCause) → under_key m earlier p.key ≡ found → value_faults (faults_of p.value) found ≡ [] → P p
    by (Ok kind) e h = each earlier p kind e h
    by (Err cause) e h = absurd cc

datapath_kind : (earlier : List Key) (k : Key) (kind : Kind) → under_key kinds.Datapaths earlier k ≡ Ok kind → kind ≡ kinds_of.Map kinds.Datapath
datapath_kind earlier k kind e = by (list_any (has_text (key_text k)) earlier) (is_name (key_text k)) e
  where
    by : (twice named : Bool) → (if twice then Err Duplicate else (if named then Ok (kinds_of.Map kinds.Datapath) else Err OutOfRange)) ≡ Ok kind → kind ≡ kinds_of.Map kinds.Datapath
    by true named e = absurd cc
    by false true e = cc
    by false false e = absurd cc

pub datapaths_right : (pairs : List Pair) → IsRight kinds.Datapaths pairs → AllByRecursion (λ p. IsRight kinds.Datapath (entries_of p.value)) pairs
datapaths_right pairs right = each_right kinds.Datapaths (λ p. IsRight kinds.Datapath (entries_of p.value)) (λ earlier p kind e h. map_right kinds.Datapath p.value (subst (λ kind. faults_of p.value kind ≡ []) (datapath_kind earlier p.key kind e) h)) [] pairs right

-- a map whose key is a number or a name
numbered_right : (inner : Option ℕ → MapKind) (t : Tree) (found : Result (Option ℕ) ConfCause) (kind : Kind) → as_map inner found ≡ Ok kind → faults_of t kind ≡ [] → (number : Option ℕ) × IsRight (inner number) (entries_of t)
numbered_right inner t (Err cause) kind e h = absurd cc
numbered_right inner t (Ok number) kind e h =
    let same : kinds_of.Map (inner number) ≡ kind = cc in
    (number, map_right (inner number) t (subst (λ kind. faults_of t kind ≡ []) (sym same) h))

pub interfaces_right : (pairs : List Pair) → IsRight kinds.Interfaces pairs → AllByRecursion (λ p. (number : Option ℕ) × IsRight (kinds.Interface number) (entries_of p.value)) pairs
interfaces_right pairs right = each_right kinds.Interfaces (λ p. (number : Option ℕ) × IsRight (kinds.Interface number) (entries_of p.value)) (λ earlier p kind e h. numbered_right kinds.Interface p.value (number_or_name 1 MOST_PORT_NO p.key) kind e h) [] pairs right

pub vlans_right : (pairs : List Pair) → IsRight kinds.Vlans pairs → AllByRecursion (λ p. (number : Option ℕ) × IsRight (kinds.Vlan number) (entries_of p.value)) pairs
vlans_right pairs right = each_right kinds.Vlans (λ p. (number : Option ℕ) × IsRight (kinds.Vlan number) (entries_of p.value)) (λ earlier p kind e h. numbered_right kinds.Vlan p.value (number_or_name 1 MOST_VID p.key) kind e h) [] pairs right

-- ---- what stands in the raw configuration

read_there : {A : Type 0} (f : Tree → Option A) (o : Option Tree) (t : Tree) (a other : A) → o ≡ Some t → f t ≡ Some a → unwrap_or (option_and_then f o) other ≡ a
read_there f o t a other v q = ap (λ o. unwrap_or (option_and_then f o) other) v ∙ ap (λ r. unwrap_or r other) q

pub unread : {A : Type 0} (f : Tree → Option A) (o : Option Tree) (other : A) → o ≡ None → unwrap_or (option_and_then f o) other ≡ other
unread f o other v = ap (λ o. unwrap_or (option_and_then f o) other) v

module _ (m : MapKind) (pairs : List Pair) (name : List ℕ) (t : Tree) (right : IsRight m pairs) (v : value_at name pairs ≡ Some t) where
  pub flag_stands : (other : Bool) → Takes m name (One Flag) → flag_of t ≡ Some (unwrap_or (option_and_then flag_of (value_at name pairs)) other)
  flag_stands other takes =
      let there = flag_there (out-Tree t) (fits Flag t (found_right m [] pairs name (One Flag) t takes right v)) in
      there.1 ∙ ap Some (sym (read_there flag_of (value_at name pairs) t there.0 other v there.1))

  pub text_stands : (s : Scalar) (other : List ℕ) → IsTextAlone s → Takes m name (One s) → text_of t ≡ Some (unwrap_or (option_and_then text_of (value_at name pairs)) other)
  text_stands s other alone takes =
      let there = text_there s alone (out-Tree t) (fits s t (found_right m [] pairs name (One s) t takes right v)) in
      there.1 ∙ ap Some (sym (read_there text_of (value_at name pairs) t there.0 other v there.1))

  pub number_stands : (low high other : ℕ) → high < 2 ^ 32 → Takes m name (One (Number low high)) → reads.number_of low high t ≡ Some (unwrap_or (option_and_then (reads.number_of 0 (2 ^ 32 - 1)) (value_at name pairs)) other)
  number_stands low high other small takes =
      let there = number_there low high small (out-Tree t) (fits (Number low high) t (found_right m [] pairs name (One (Number low high)) t takes right v)) in
      there.1 ∙ ap Some (sym (read_there (reads.number_of 0 (2 ^ 32 - 1)) (value_at name pairs) t there.0 other v there.2))
