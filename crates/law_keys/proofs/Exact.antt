-- The first fault by the keys is the one that is told.
use Rattle.std.specs.Prelude.{◌≡◌, ◌⊎◌, ℕ, ◌+◌, Bool, true, false, List, [], ◌∷◌, ◌++◌, map, Option, Some, None, Result, Ok, Err, if◌then◌else◌}
use Rattle.std.specs.Fmt.{decimal}
use Rattle.std.specs.Option.{option_map}
use Rattle.std.proofs.Common.{inl, inr, refl, sym, ap, ◌∙◌, subst}
use Rattle.std.proofs.lemmas.Option.{same_Some, none-some}
use Rattle.yaml_tree.specs.declared.tree.Key.{Key}
use Rattle.yaml_tree.specs.declared.tree.Pair.{Pair}
use Rattle.yaml_tree.specs.declared.tree.Tree.{Tree, out-Tree}
use Rattle.yaml_tree.specs.declared.tree.Tree.TheOpen.{Tree-F}
use Rattle.yaml_tree.specs.declared.tree.Tree.TheOpen as tree
use Rattle.conf_shape.specs.declared.faults.Found.{Found}
use Rattle.conf_shape.specs.declared.kinds.Kind.{Kind}
use Rattle.conf_shape.specs.declared.kinds.Kind.TheVariants as kind_of
use Rattle.conf_shape.specs.declared.kinds.MapKind.{MapKind}
use Rattle.conf_shape.specs.declared.kinds.MapKind.TheVariants as maps
use Rattle.conf_shape.specs.declared.kinds.Scalar.{Scalar}
use Rattle.conf_shape.specs.declared.kinds.Scalar.TheVariants.{Flag, Number, Name, Words, Label, Reference, Permission, NoEffect, StationMac, MaskedMac, Vip, Destination, Gateway, Prefix, Address, Identifier, Passive}
use Rattle.conf_shape.specs.declared.refused.ConfCause.{ConfCause}
use Rattle.conf_shape.specs.declared.refused.ConfCause.TheVariants.{LeftOut, WrongType, OutOfRange, BadText, Duplicate}
use Rattle.conf_shape.specs.declared.refused.ConfFault.{ConfFault}
use Rattle.conf_shape.specs.Faults.{Entry, here, item_faults, list_faults, value_faults, missing_row, missing_in, map_faults, in_map, may_be_null, null_faults, faults_of, entry_of, fault_of, first, first_fault}
use Rattle.conf_shape.specs.Scalars.{as_scalar, flag_fault, number_fault, text_fault, scalar_kind, item_kind, map_kind}
use Rattle.conf_shape.specs.Sections.{key_text, under_key}
use Rattle.conf_shape.proofs.FaultLaws.{entry_pair, first_none, first_some}
use Rattle.law_keys.specs.Causes.{HasForm, HasFormOf, IsOutside, IsUnsupported, HasToSpell, IsWrong, another_form, outside, unsupported, no_spelling, HasNames, unlisted, IsLeftOut, IsNew, IsWrongKey, unknown, not_supported, twice, out_of_range, IsFirstLacking, FirstFault, at_value, in_items, in_entries, in_nothing, ItemFault, this_item, later_item, EntryFault, this_key, this_value, later_entry, missing, IsFaultOf}
use Rattle.law_keys.specs.Grammar.{IsOneOf, IsFlag, IsNumber, IsText, FitsScalar, scalar_of, item_of, map_of, own_number, Under, AreSame}
use Rattle.law_keys.specs.Tables.{Line, lines}
use Rattle.law_keys.proofs.Fine.{number_form, text_form, scalar_form, no_three, no_cause, key_fine, taken_under, none_lacks, fine}
use Rattle.law_keys.proofs.Lists.{of_all}
use Rattle.law_keys.proofs.MapKeys.{plain, KeyTold, key_told, same_takes, same_or_left_out, names_or_left_out}
use Rattle.law_keys.proofs.Missing.{MissingTold, missing_told}
use Rattle.law_keys.proofs.Networks.{text_told}
use Rattle.law_keys.proofs.Scalars.{Holds, Told, flag_told, number_told}
use Rattle.law_keys.proofs.Told.{layer_faults, faults_are, scalar_plain, item_plain, map_plain, nothing_is, nothing_tests}
use Rattle.law_keys.proofs.Trees.{tree_of}

-- ---- one cause of a value

outside_form : (s : Scalar) (x : Tree-F Tree Pair) → IsOutside s x → HasForm s x
outside_form Flag x o = absurd o
outside_form (Number low high) x o = number_form _ x o
outside_form Name x o = text_form _ x o
outside_form Words x o = absurd o
outside_form Label x o = absurd o
outside_form (Reference low high) x o = inr (number_form _ x o)
outside_form Permission x o = inr (number_form _ x o)
outside_form NoEffect x o = absurd o
outside_form StationMac x o = text_form _ x o
outside_form MaskedMac x o = absurd o
outside_form Vip x o = text_form _ x o
outside_form Destination x o = text_form _ x o
outside_form Gateway x o = absurd o
outside_form (Prefix width) x o = text_form _ x o
outside_form (Address width) x o = absurd o
outside_form Identifier x o = text_form _ x o
outside_form Passive x o = absurd o

unsupported_form : (s : Scalar) (x : Tree-F Tree Pair) → IsUnsupported s x → HasForm s x
unsupported_form Passive x h = text_form _ x h
unsupported_form s x h = absurd h

spell_form : (s : Scalar) (x : Tree-F Tree Pair) → HasToSpell s x → HasForm s x
spell_form StationMac x h = h
spell_form MaskedMac x h = h
spell_form Vip x h = h
spell_form Destination x h = h
spell_form Gateway x h = h
spell_form (Prefix width) x h = h
spell_form (Address width) x h = h
spell_form Identifier x h = h
spell_form s x h = absurd h

outside_or_unsupported : (s : Scalar) (x : Tree-F Tree Pair) → IsOutside s x → IsUnsupported s x → ⊥
outside_or_unsupported Passive x o h = o
outside_or_unsupported s x o h = absurd h

one_cause : (s : Scalar) (x : Tree-F Tree Pair) (a b : ConfCause) → Holds s x a → Holds s x b → a ≡ b
one_cause s x WrongType WrongType h g = refl
one_cause s x WrongType OutOfRange h g = absurd (h (outside_form s x g))
one_cause s x WrongType LeftOut h g = absurd (h (unsupported_form s x g))
one_cause s x WrongType BadText h g = absurd (h (spell_form s x g.0))
one_cause s x WrongType _ h g = absurd g
one_cause s x OutOfRange WrongType h g = absurd (g (outside_form s x h))
one_cause s x OutOfRange OutOfRange h g = refl
one_cause s x OutOfRange LeftOut h g = absurd (outside_or_unsupported s x h g)
one_cause s x OutOfRange BadText h g = absurd (g.2 h)
one_cause s x OutOfRange _ h g = absurd g
one_cause s x LeftOut WrongType h g = absurd (g (unsupported_form s x h))
one_cause s x LeftOut OutOfRange h g = absurd (outside_or_unsupported s x g h)
one_cause s x LeftOut LeftOut h g = refl
one_cause s x LeftOut BadText h g = absurd (g.3 h)
one_cause s x LeftOut _ h g = absurd g
one_cause s x BadText WrongType h g = absurd (g (spell_form s x h.0))
one_cause s x BadText OutOfRange h g = absurd (h.2 g)
one_cause s x BadText LeftOut h g = absurd (h.3 g)
one_cause s x BadText BadText h g = refl
one_cause s x BadText _ h g = absurd g
one_cause s x _ b h g = absurd h

-- a value that has a cause isn't right
not_right : (s : Scalar) (x : Tree-F Tree Pair) (cause : ConfCause) → Holds s x cause → FitsScalar s x → ⊥
not_right s x cause h f = none-some cause (sym (no_cause s x (Some cause) f h))

-- ---- what is wrong with a value, as the walk finds it

abbrev found : List (List ℕ) → ConfCause → Found
found steps cause = record { steps = steps; cause = cause }

-- the form is another, or what the scalar says holds
abbrev WrongCase : Kind → Tree-F Tree Pair → ConfCause → Type 0
WrongCase kind x cause = ((HasFormOf kind x → ⊥) × (cause ≡ WrongType)) ⊎ ((s : Scalar) × (scalar_of kind ≡ Some s) × HasForm s x × Holds s x cause)

wrong_case : (kind : Kind) (x : Tree-F Tree Pair) (cause : ConfCause) → IsWrong kind x cause → WrongCase kind x cause
wrong_case _ _ _ (another_form kind x none) = inl (none, refl)
wrong_case _ _ _ (outside kind s x e o) = inr (s, e, outside_form s x o, o)
wrong_case _ _ _ (unsupported kind s x e h) = inr (s, e, unsupported_form s x h, h)
wrong_case _ _ _ (no_spelling kind s x e h f o c) = inr (s, e, spell_form s x h, (h, f, o, c))

-- of a flag, a number or a text
module _ (kind : Kind) (x : Tree-F Tree Pair) (cause : ConfCause) (form : (s : Scalar) → scalar_of kind ≡ Some s → HasForm s x → HasFormOf kind x) (wrong : WrongCase kind x cause) where
  holds_of : (s : Scalar) → scalar_of kind ≡ Some s → WrongCase kind x cause → Holds s x cause
  holds_of s e (inl w) = subst (Holds s x) (sym w.1) (λ h. w.0 (form s e h))
  holds_of s e (inr w) = subst (λ r. Holds r x cause) (same_Some w.0 s (sym w.1 ∙ e)) w.3

  cause_of : scalar_of kind ≡ None → WrongCase kind x cause → WrongType ≡ cause
  cause_of e (inl w) = sym w.1
  cause_of e (inr w) = absurd (none-some w.0 (sym e ∙ w.1))

  scalar_first : (fault : Scalar → Option ConfCause) → ((s : Scalar) → Told s x (fault s)) → (o : Option Scalar) → o ≡ scalar_of kind → first (here (as_scalar fault o)) ≡ Some (found [] cause)
  scalar_first fault told None e = ap (λ (c : ConfCause). Some (found [] c)) (cause_of (sym e) wrong)
  scalar_first fault told (Some s) e = by (fault s) (told s)
    where
      by : (o : Option ConfCause) → Told s x o → first (here o) ≡ Some (found [] cause)
      by None t = absurd (not_right s x cause (holds_of s (sym e) wrong) t)
      by (Some c) t = ap (λ (c : ConfCause). Some (found [] c)) (one_cause s x c cause t (holds_of s (sym e) wrong))

-- of a list, a map or nothing
no_form : {A : Type 0} (x : Tree-F Tree Pair) → (IsFlag x ⊎ (IsNumber x ⊎ IsText x) → A) → (kind : Kind) (cause : ConfCause) → ((HasFormOf kind x → ⊥) → cause ≡ WrongType → A) → WrongCase kind x cause → A
no_form x none kind cause other (inl w) = other w.0 w.1
no_form x none kind cause other (inr w) = none (scalar_form w.0 x w.2)

wrong_type : (cause : ConfCause) → cause ≡ WrongType → first (here (Some WrongType)) ≡ Some (found [] cause)
wrong_type cause is = ap (λ (c : ConfCause). Some (found [] c)) (sym is)

list_first : (kind : Kind) (ts : List Tree) (cause : ConfCause) → (HasFormOf kind (tree.List ts) → ⊥) → cause ≡ WrongType → (o : Option Kind) → option_map plain o ≡ item_of kind → first (list_faults o (map faults_of ts)) ≡ Some (found [] cause)
list_first kind ts cause none is None e = wrong_type cause is
list_first kind ts cause none is (Some j) e = absurd (none (plain j, sym e))

map_first : (kind : Kind) (ps : List Pair) (cause : ConfCause) → (HasFormOf kind (tree.Map ps) → ⊥) → cause ≡ WrongType → (o : Option MapKind) → o ≡ map_of kind → first (in_map o (map entry_of ps)) ≡ Some (found [] cause)
map_first kind ps cause none is None e = wrong_type cause is
map_first kind ps cause none is (Some m) e = absurd (none (m, sym e))

null_first : (kind : Kind) (cause : ConfCause) → (HasFormOf kind tree.Null → ⊥) → cause ≡ WrongType → (o : Option MapKind) → o ≡ map_of kind → first (null_faults o) ≡ Some (found [] cause)
null_first kind cause none is None e = wrong_type cause is
null_first kind cause none is (Some m) e = by (may_be_null m) refl
  where
    by : (b : Bool) → may_be_null m ≡ b → first (if b then missing_in m [] else here (Some WrongType)) ≡ Some (found [] cause)
    by true may = absurd (none (m, sym e, nothing_is m may))
    by false may = wrong_type cause is

layer_first : (x : Tree-F Tree Pair) (k : Kind) (cause : ConfCause) → WrongCase (plain k) x cause → first (layer_faults x k) ≡ Some (found [] cause)
layer_first tree.Null k cause w = no_form tree.Null no_three (plain k) cause (λ none is. null_first (plain k) cause none is (map_kind k) (map_plain k)) w
layer_first (tree.List ts) k cause w = no_form (tree.List ts) no_three (plain k) cause (λ none is. list_first (plain k) ts cause none is (item_kind k) (item_plain k)) w
layer_first (tree.Map ps) k cause w = no_form (tree.Map ps) no_three (plain k) cause (λ none is. map_first (plain k) ps cause none is (map_kind k) (map_plain k)) w
layer_first (tree.Bool flag) k cause w = scalar_first (plain k) (tree.Bool flag) cause (λ s e h. (s, e, h)) w flag_fault (λ s. flag_told s flag) (scalar_kind k) (scalar_plain k)
layer_first (tree.Int n) k cause w = scalar_first (plain k) (tree.Int n) cause (λ s e h. (s, e, h)) w (λ s. number_fault s n) (λ s. number_told s n) (scalar_kind k) (scalar_plain k)
layer_first (tree.Text text) k cause w = scalar_first (plain k) (tree.Text text) cause (λ s e h. (s, e, h)) w (λ s. text_fault s text) (λ s. text_told s text) (scalar_kind k) (scalar_plain k)

-- ---- one cause of a key

abbrev KeyCase : MapKind → List Key → Key → ConfCause → Type 0
KeyCase m earlier k cause =
    ((HasNames m → ⊥) × ((kind : Kind) → Under m k kind → ⊥) × (IsLeftOut m k → ⊥) × (cause ≡ unlisted m))
    ⊎ ((IsLeftOut m k × (cause ≡ LeftOut))
    ⊎ (((j : Key) × IsOneOf earlier j × AreSame m j k × (cause ≡ Duplicate))
    ⊎ (HasNames m × IsNew m earlier k × ((kind : Kind) → Under m k kind → ⊥) × (cause ≡ OutOfRange))))

key_case : (m : MapKind) (earlier : List Key) (k : Key) (cause : ConfCause) → IsWrongKey m earlier k cause → KeyCase m earlier k cause
key_case _ _ _ _ (unknown m earlier k names none in_use) = inl (names, none, in_use, refl)
key_case _ _ _ _ (not_supported m earlier k left) = inr (inl (left, refl))
key_case _ _ _ _ (twice m earlier j k i same) = inr (inr (inl (j, i, same, refl)))
key_case _ _ _ _ (out_of_range m earlier k names fresh none) = inr (inr (inr (names, fresh, none, refl)))

one_key_cause : (m : MapKind) (earlier : List Key) (k : Key) (a b : ConfCause) → KeyCase m earlier k a → KeyCase m earlier k b → a ≡ b
one_key_cause m earlier k a b (inl h) (inl g) = h.3 ∙ sym g.3
one_key_cause m earlier k a b (inl h) (inr (inl g)) = absurd (h.2 g.0)
one_key_cause m earlier k a b (inl h) (inr (inr (inl g))) = let u = same_takes m g.0 k h.0 g.2 in absurd (h.1 u.0 u.1)
one_key_cause m earlier k a b (inl h) (inr (inr (inr g))) = absurd (h.0 g.0)
one_key_cause m earlier k a b (inr (inl h)) (inl g) = absurd (g.2 h.0)
one_key_cause m earlier k a b (inr (inl h)) (inr (inl g)) = h.1 ∙ sym g.1
one_key_cause m earlier k a b (inr (inl h)) (inr (inr (inl g))) = absurd (same_or_left_out m g.0 k g.2 h.0)
one_key_cause m earlier k a b (inr (inl h)) (inr (inr (inr g))) = absurd (names_or_left_out m k g.0 h.0)
one_key_cause m earlier k a b (inr (inr (inl h))) (inl g) = let u = same_takes m h.0 k g.0 h.2 in absurd (g.1 u.0 u.1)
one_key_cause m earlier k a b (inr (inr (inl h))) (inr (inl g)) = absurd (same_or_left_out m h.0 k h.2 g.0)
one_key_cause m earlier k a b (inr (inr (inl h))) (inr (inr (inl g))) = h.3 ∙ sym g.3
one_key_cause m earlier k a b (inr (inr (inl h))) (inr (inr (inr g))) = absurd (of_all (λ j. AreSame m j k → ⊥) earlier g.1 h.0 h.1 h.2)
one_key_cause m earlier k a b (inr (inr (inr h))) (inl g) = absurd (g.0 h.0)
one_key_cause m earlier k a b (inr (inr (inr h))) (inr (inl g)) = absurd (names_or_left_out m k h.0 g.0)
one_key_cause m earlier k a b (inr (inr (inr h))) (inr (inr (inl g))) = absurd (of_all (λ j. AreSame m j k → ⊥) earlier h.1 g.0 g.1 g.2)
one_key_cause m earlier k a b (inr (inr (inr h))) (inr (inr (inr g))) = h.3 ∙ sym g.3

key_refused : (m : MapKind) (earlier : List Key) (k : Key) (cause : ConfCause) → IsWrongKey m earlier k cause → under_key m earlier k ≡ Err cause
key_refused m earlier k cause wrong = by (under_key m earlier k) (key_told m earlier k)
  where
    by : (r : Result Kind ConfCause) → KeyTold m earlier k r → r ≡ Err cause
    by (Ok kind) t = absurd (key_fine m earlier k (plain kind) cause t.0 t.1 wrong)
    by (Err c) t = ap (λ (c : ConfCause). Err c) (one_key_cause m earlier k c cause (key_case m earlier k c t) (key_case m earlier k cause wrong))

-- ---- the first key that is missing

one_lacking : (number : Option ℕ) (keys : List Key) (ls : List Line) (a b : List ℕ) → IsFirstLacking number keys ls a → IsFirstLacking number keys ls b → a ≡ b
one_lacking number keys [] a b h g = absurd h
one_lacking number keys (l ∷ ls) a b (inl h) (inl g) = sym h.1 ∙ g.1
one_lacking number keys (l ∷ ls) a b (inl h) (inr g) = absurd (g.0 h.0)
one_lacking number keys (l ∷ ls) a b (inr h) (inl g) = absurd (h.0 g.0)
one_lacking number keys (l ∷ ls) a b (inr h) (inr g) = one_lacking number keys ls a b h.1 g.1

missing_first : (m : MapKind) (keys : List Key) (name : List ℕ) → IsFirstLacking (own_number m) keys (lines m) name → first (missing_in m keys) ≡ Some (missing_row name)
missing_first m keys name lacking = by (missing_in m keys) (missing_told m keys)
  where
    by : (fs : List Found) → MissingTold (own_number m) keys (lines m) fs → first fs ≡ Some (missing_row name)
    by [] whole = absurd (none_lacks (own_number m) keys (lines m) name whole lacking)
    by (f ∷ fs) t = ap (λ (f : Found). Some f) t.1 ∙ ap (λ (n : List ℕ). Some (missing_row n)) (one_lacking (own_number m) keys (lines m) t.0 name t.2 lacking)

-- ---- the walk

list_at : (k one : Kind) (ts : List Tree) (found : Option Found) → item_of (plain k) ≡ Some one → ((j : Kind) → plain j ≡ one → first (item_faults j 0 (map faults_of ts)) ≡ found) → first (list_faults (item_kind k) (map faults_of ts)) ≡ found
list_at k one ts found e each = by (item_kind k) (item_plain k ∙ e)
  where
    by : (o : Option Kind) → option_map plain o ≡ Some one → first (list_faults o (map faults_of ts)) ≡ found
    by None h = absurd (none-some one h)
    by (Some j) h = each j (same_Some (plain j) one h)

mutual
  first_is : (kind : Kind) (t : Tree) (steps : List (List ℕ)) (cause : ConfCause) → FirstFault kind t steps cause → (k : Kind) → plain k ≡ kind → first (faults_of t k) ≡ Some (found steps cause)
  first_is _ _ _ _ (at_value kind t cause wrong) k is =
      subst (λ u. first (faults_of u k) ≡ Some (found [] cause)) (tree_of t)
      (ap first (faults_are (out-Tree t) k) ∙ layer_first (out-Tree t) k cause (subst (λ kind. WrongCase kind (out-Tree t) cause) (sym is) (wrong_case kind (out-Tree t) cause wrong)))
  first_is _ _ _ _ (in_items kind one ts steps cause e fault) k is =
      ap first (faults_are (tree.List ts) k) ∙ list_at k one ts (Some (found steps cause)) (ap item_of is ∙ e) (λ j h. items_first one 0 ts steps cause fault j h)
  first_is _ _ _ _ (in_entries kind m ps steps cause e fault) k is =
      ap first (faults_are (tree.Map ps) k) ∙ ap (λ o. first (in_map o (map entry_of ps))) (map_plain k ∙ ap map_of is ∙ e) ∙ entries_first m [] ps steps cause fault
  first_is _ _ _ _ (in_nothing kind m steps cause e may fault) k is =
      ap first (faults_are tree.Null k) ∙ ap (λ o. first (null_faults o)) (map_plain k ∙ ap map_of is ∙ e)
      ∙ ap (λ (b : Bool). first (if b then missing_in m [] else here (Some WrongType))) (nothing_tests m may) ∙ entries_first m [] [] steps cause fault

  items_first : (one : Kind) (n : ℕ) (ts : List Tree) (steps : List (List ℕ)) (cause : ConfCause) → ItemFault one n ts steps cause → (k : Kind) → plain k ≡ one → first (item_faults k n (map faults_of ts)) ≡ Some (found steps cause)
  items_first _ _ _ _ _ (this_item one n t ts steps cause fault) k is =
      first_some (decimal n) (faults_of t k) (item_faults k (n + 1) (map faults_of ts)) (found steps cause) (first_is one t steps cause fault k is)
  items_first _ _ _ _ _ (later_item one n t ts steps cause fits fault) k is =
      first_none (decimal n) (faults_of t k) (item_faults k (n + 1) (map faults_of ts)) (ap first (fine one t fits k is)) ∙ items_first one (n + 1) ts steps cause fault k is

  entries_first : (m : MapKind) (earlier : List Key) (ps : List Pair) (steps : List (List ℕ)) (cause : ConfCause) → EntryFault m earlier ps steps cause → first (map_faults m earlier (map entry_of ps)) ≡ Some (found steps cause)
  entries_first _ _ _ _ _ (this_key m earlier p ps cause wrong) =
      subst (λ (e : Entry). first (map_faults m earlier (e ∷ map entry_of ps)) ≡ Some (found (key_text p.key ∷ []) cause)) (sym (entry_pair p))
      (first_some (key_text p.key) (value_faults (faults_of p.value) (under_key m earlier p.key)) (map_faults m (earlier ++ p.key ∷ []) (map entry_of ps)) (found [] cause)
      (ap (λ r. first (value_faults (faults_of p.value) r)) (key_refused m earlier p.key cause wrong)))
  entries_first _ _ _ _ _ (this_value m earlier p ps kind steps cause u fresh fault) =
      let taken = taken_under m earlier p.key kind u fresh in
      subst (λ (e : Entry). first (map_faults m earlier (e ∷ map entry_of ps)) ≡ Some (found (key_text p.key ∷ steps) cause)) (sym (entry_pair p))
      (first_some (key_text p.key) (value_faults (faults_of p.value) (under_key m earlier p.key)) (map_faults m (earlier ++ p.key ∷ []) (map entry_of ps)) (found steps cause)
      (ap (λ r. first (value_faults (faults_of p.value) r)) taken.1 ∙ first_is kind p.value steps cause fault taken.0 taken.2))
  entries_first _ _ _ _ _ (later_entry m earlier p ps kind steps cause u fresh fits fault) =
      let taken = taken_under m earlier p.key kind u fresh in
      subst (λ (e : Entry). first (map_faults m earlier (e ∷ map entry_of ps)) ≡ Some (found steps cause)) (sym (entry_pair p))
      (first_none (key_text p.key) (value_faults (faults_of p.value) (under_key m earlier p.key)) (map_faults m (earlier ++ p.key ∷ []) (map entry_of ps))
      (ap (λ r. first (value_faults (faults_of p.value) r)) taken.1 ∙ ap first (fine kind p.value fits taken.0 taken.2))
      ∙ entries_first m (earlier ++ p.key ∷ []) ps steps cause fault)
  entries_first _ _ _ _ _ (missing m earlier name lacking) = missing_first m earlier name lacking

pub fault_told : (t : Tree) (fault : ConfFault) → IsFaultOf t fault → first_fault t ≡ Some fault
fault_told t fault is =
    ap (option_map fault_of) (first_is (kind_of.Map maps.Top) t is.0 fault.cause is.2 (kind_of.Map maps.Top) refl)
    ∙ ap (λ (path : List ℕ). Some (record { path = path; cause = fault.cause })) (sym is.1)
