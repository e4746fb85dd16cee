-- A tree that is right by its keys has no fault.
use Rattle.std.specs.Prelude.{◌≡◌, ◌⊎◌, ℕ, ◌+◌, ◌≤◌, ℤ, Bool, List, [], ◌∷◌, ◌++◌, map, Option, Some, None, Result, Ok, Err, if◌then◌else◌}
use Rattle.std.specs.Fmt.{decimal}
use Rattle.std.specs.List.{AllByRecursion}
use Rattle.std.specs.Option.{option_map}
use Rattle.std.proofs.Common.{inl, inr, refl, sym, ap, ap₂, ◌∙◌, subst, arith, append_assoc, append-nil}
use Rattle.std.proofs.lemmas.Option.{same_Some, none-some}
use Rattle.net_base.specs.Address as address
use Rattle.net_base.proofs.Addresses.{same_mac, same_ip4}
use Rattle.yaml_tree.specs.declared.tree.Key.{Key}
use Rattle.yaml_tree.specs.declared.tree.Key.TheVariants as key
use Rattle.yaml_tree.specs.declared.tree.Pair.{Pair}
use Rattle.yaml_tree.specs.declared.tree.Tree.{Tree, out-Tree}
use Rattle.yaml_tree.specs.declared.tree.Tree.TheOpen.{Tree-F}
use Rattle.yaml_tree.specs.declared.tree.Tree.TheOpen as tree
use Rattle.conf_types.specs.declared.address.Ip.{Ip}
use Rattle.conf_types.specs.Families.{width_of, address_of, len_of}
use Rattle.conf_types.specs.Lists.{EachBefore}
use Rattle.conf_shape.specs.declared.faults.Found.{Found}
use Rattle.conf_shape.specs.declared.kinds.Kind.{Kind}
use Rattle.conf_shape.specs.declared.kinds.Kind.TheVariants as kind_of
use Rattle.conf_shape.specs.declared.kinds.MapKind.{MapKind}
use Rattle.conf_shape.specs.declared.kinds.MapKind.TheVariants as maps
use Rattle.conf_shape.specs.declared.kinds.Scalar.{Scalar}
use Rattle.conf_shape.specs.declared.kinds.Scalar.TheVariants.{Flag, Number, Name, Words, Label, Reference, Permission, NoEffect, StationMac, MaskedMac, Vip, Destination, Gateway, Prefix, Address, Identifier, Passive}
use Rattle.conf_shape.specs.declared.refused.ConfCause.{ConfCause}
use Rattle.conf_shape.specs.declared.refused.ConfCause.TheVariants.{LeftOut, WrongType, OutOfRange, BadText}
use Rattle.conf_shape.specs.Faults.{Entry, here, under, item_faults, list_faults, value_faults, missing_in, map_faults, in_map, null_faults, faults_of, entry_of, fault_of, first, first_fault}
use Rattle.conf_shape.specs.Scalars.{as_scalar, flag_fault, number_fault, text_fault, scalar_kind, item_kind}
use Rattle.conf_shape.specs.Sections.{key_text, under_key}
use Rattle.conf_shape.proofs.FaultLaws.{entry_pair}
use Rattle.law_checks.specs.Values.{SpellsIp}
use Rattle.law_keys.specs.Causes.{HasForm, HasLengthOutside, most_vip_len, IsOutside, IsUnsupported, IsNew, IsWrongKey, unknown, not_supported, twice, out_of_range, IsFirstLacking}
use Rattle.law_keys.specs.Grammar.{IsOneOf, IsFlag, IsNumberAnd, IsTextAnd, IsNumber, IsText, IsStation, SpellsIdentifier, SpellsVip, SpellsNetwork, FitsScalar, scalar_of, item_of, map_of, own_number, Under, AreSame, IsNeeded, IsWhole, Fits, alone, items, entries, nothing, AllFit, no_items, item, EntriesFit, no_entries, entry, IsDocument}
use Rattle.law_keys.specs.Tables.{Line, lines}
use Rattle.law_keys.proofs.Lists.{of_all, all_by, of_joined}
use Rattle.law_keys.proofs.MapKeys.{plain, KeyTold, key_told, takes_one, taken_or_left_out}
use Rattle.law_keys.proofs.Missing.{MissingTold, missing_told}
use Rattle.law_keys.proofs.Networks.{text_told, long_family}
use Rattle.law_keys.proofs.Scalars.{Told, flag_told, number_told, mark_there}
use Rattle.law_keys.proofs.Spelled.{no_slash_ip, digits_are_one, parts_of, net_family, same_room}
use Rattle.law_keys.proofs.Told.{layer_faults, faults_are, scalar_plain, item_plain, map_plain, nothing_tests}
use Rattle.law_keys.proofs.Trees.{tree_of}

-- ---- what is right has no cause

pub number_form : (P : ℤ → Type 0) (x : Tree-F Tree Pair) → IsNumberAnd P x → IsNumber x
number_form P (tree.Int n) h = tt
number_form P x h = absurd h

pub text_form : (P : List ℕ → Type 0) (x : Tree-F Tree Pair) → IsTextAnd P x → IsText x
text_form P (tree.Text text) h = tt
text_form P x h = absurd h

either : {A B C D : Type 0} → (A → C) → (B → D) → A ⊎ B → C ⊎ D
either f g (inl a) = inl (f a)
either f g (inr b) = inr (g b)

pub has_form : (s : Scalar) (x : Tree-F Tree Pair) → FitsScalar s x → HasForm s x
has_form Flag x f = f
has_form (Number low high) x f = number_form _ x f
has_form Name x f = text_form _ x f
has_form Words x f = f
has_form Label x f = f
has_form (Reference low high) x f = either (λ t. t) (number_form _ x) f
has_form Permission x f = either (λ b. b) (number_form _ x) f
has_form NoEffect x f = f
has_form StationMac x f = text_form _ x f
has_form MaskedMac x f = text_form _ x f
has_form Vip x f = text_form _ x f
has_form Destination x f = text_form _ x f
has_form Gateway x f = text_form _ x f
has_form (Prefix width) x f = text_form _ x f
has_form (Address width) x f = text_form _ x f
has_form Identifier x f = text_form _ x f
has_form Passive x f = text_form _ x f

numbers_apart : (P Q : ℤ → Type 0) → ((n : ℤ) → P n → Q n → ⊥) → (x : Tree-F Tree Pair) → IsNumberAnd P x → IsNumberAnd Q x → ⊥
numbers_apart P Q apart (tree.Int n) p q = apart n p q
numbers_apart P Q apart x p q = absurd p

pub texts_apart : (P Q : List ℕ → Type 0) → ((text : List ℕ) → P text → Q text → ⊥) → (x : Tree-F Tree Pair) → IsTextAnd P x → IsTextAnd Q x → ⊥
texts_apart P Q apart (tree.Text text) p q = apart text p q
texts_apart P Q apart x p q = absurd p

text_or_number : (Q : ℤ → Type 0) (x : Tree-F Tree Pair) → IsText x → IsNumberAnd Q x → ⊥
text_or_number Q (tree.Text text) t q = q
text_or_number Q x t q = absurd t

flag_or_number : (Q : ℤ → Type 0) (x : Tree-F Tree Pair) → IsFlag x → IsNumberAnd Q x → ⊥
flag_or_number Q (tree.Bool flag) t q = q
flag_or_number Q x t q = absurd t

vip_apart : (text : List ℕ) → SpellsVip text → HasLengthOutside 1 most_vip_len text → ⊥
vip_apart text v o =
    let p = parts_of text v.net v.is in
    let family = net_family text v.net v.is ∙ sym (long_family 1 most_vip_len text o) in
    o.outside (len_of v.net) v.least (subst (λ (most : ℕ). len_of v.net ≤ most) (same_room (address_of v.net) o.ip family) v.most)
    (digits_are_one text o.before o.digits p.before (address.decimal (len_of v.net)) o.ip (address_of v.net) o.spelled o.is p.spelled p.is)

network_apart : (text : List ℕ) → SpellsNetwork text → HasLengthOutside 0 width_of text → ⊥
network_apart text n o =
    let p = parts_of text n.net n.is in
    let family = net_family text n.net n.is ∙ sym (long_family 0 width_of text o) in
    o.outside (len_of n.net) (omega arith) (subst (λ (most : ℕ). len_of n.net ≤ most) family p.short)
    (digits_are_one text o.before o.digits p.before (address.decimal (len_of n.net)) o.ip (address_of n.net) o.spelled o.is p.spelled p.is)

address_apart : (text : List ℕ) (a : Ip) → SpellsIp text a → HasLengthOutside 0 width_of text → ⊥
address_apart text a s o = no_slash_ip text a s (subst (λ (t : List ℕ). IsOneOf t 47) (sym o.is) (mark_there 47 o.before o.digits))

in_range : (s : Scalar) (x : Tree-F Tree Pair) → FitsScalar s x → IsOutside s x → ⊥
in_range Flag x f o = o
in_range (Number low high) x f o = numbers_apart _ _ (λ n p q. q p) x f o
in_range Name x f o = texts_apart _ _ (λ text p q. q p) x f o
in_range Words x f o = o
in_range Label x f o = o
in_range (Reference low high) x (inl f) o = text_or_number _ x f o
in_range (Reference low high) x (inr f) o = numbers_apart _ _ (λ n p q. q p) x f o
in_range Permission x (inl f) o = flag_or_number _ x f o
in_range Permission x (inr f) o = numbers_apart _ _ (λ n p q. q p) x f o
in_range NoEffect x f o = o
in_range StationMac x f o = texts_apart _ _ (λ text p q. q.2 (subst IsStation (same_mac text p.0 q.0 p.1 q.1) p.2)) x f o
in_range MaskedMac x f o = o
in_range Vip x f o = texts_apart _ _ vip_apart x f o
in_range Destination x f o = texts_apart _ _ network_apart x f o
in_range Gateway x f o = o
in_range Identifier x f o = texts_apart _ _ (λ text (p : SpellsIdentifier text) q. let zero : p.0 ≡ 0 = same_ip4 p.0 0 p.2 (omega arith) (sym p.3 ∙ q) in omega (arith, p.1, zero)) x f o
in_range Passive x f o = o
in_range (Prefix width) x f o = texts_apart _ _ (λ text p q. elim p as (λ _. ⊥) [ inl a ↦ address_apart text a.0 a.1 q.0 | inr n ↦ network_apart text n.0 q.0 ]) x f o
in_range (Address width) x f o = o

supported : (s : Scalar) (x : Tree-F Tree Pair) → FitsScalar s x → IsUnsupported s x → ⊥
supported Passive x f h = texts_apart _ _ (λ text p q. q p) x f h
supported s x f h = absurd h

pub no_cause : (s : Scalar) (x : Tree-F Tree Pair) (o : Option ConfCause) → FitsScalar s x → Told s x o → o ≡ None
no_cause s x None f t = refl
no_cause s x (Some WrongType) f t = absurd (t (has_form s x f))
no_cause s x (Some OutOfRange) f t = absurd (in_range s x f t)
no_cause s x (Some LeftOut) f t = absurd (supported s x f t)
no_cause s x (Some BadText) f t = absurd (t.1 f)
no_cause s x (Some _) f t = absurd t

abbrev IsScalarForm : Tree-F Tree Pair → Type 0
IsScalarForm x = IsFlag x ⊎ (IsNumber x ⊎ IsText x)

pub scalar_form : (s : Scalar) (x : Tree-F Tree Pair) → HasForm s x → IsScalarForm x
scalar_form Flag x h = inl h
scalar_form (Number low high) x h = inr (inl h)
scalar_form Label x (inl h) = inr (inr h)
scalar_form Label x (inr h) = inr (inl h)
scalar_form (Reference low high) x (inl h) = inr (inr h)
scalar_form (Reference low high) x (inr h) = inr (inl h)
scalar_form Permission x (inl h) = inl h
scalar_form Permission x (inr h) = inr (inl h)
scalar_form NoEffect x h = h
scalar_form s x h = inr (inr h)

pub no_three : {A : Type 0} → ⊥ ⊎ (⊥ ⊎ ⊥) → A
no_three (inl h) = absurd h
no_three (inr (inl h)) = absurd h
no_three (inr (inr h)) = absurd h

scalar_fine : (s : Scalar) (x : Tree-F Tree Pair) (k : Kind) → scalar_kind k ≡ Some s → FitsScalar s x → layer_faults x k ≡ []
scalar_fine s (tree.Bool flag) k e f = ap (λ o. here (as_scalar flag_fault o)) e ∙ ap here (no_cause s (tree.Bool flag) (flag_fault s) f (flag_told s flag))
scalar_fine s (tree.Int n) k e f = ap (λ o. here (as_scalar (λ s. number_fault s n) o)) e ∙ ap here (no_cause s (tree.Int n) (number_fault s n) f (number_told s n))
scalar_fine s (tree.Text text) k e f = ap (λ o. here (as_scalar (λ s. text_fault s text) o)) e ∙ ap here (no_cause s (tree.Text text) (text_fault s text) f (text_told s text))
scalar_fine s tree.Null k e f = no_three (scalar_form s tree.Null (has_form s tree.Null f))
scalar_fine s (tree.List ts) k e f = no_three (scalar_form s (tree.List ts) (has_form s (tree.List ts) f))
scalar_fine s (tree.Map ps) k e f = no_three (scalar_form s (tree.Map ps) (has_form s (tree.Map ps) f))

-- ---- keys

pub key_fine : (m : MapKind) (earlier : List Key) (k : Key) (kind : Kind) (cause : ConfCause) → Under m k kind → IsNew m earlier k → IsWrongKey m earlier k cause → ⊥
key_fine _ _ _ kind _ u new (unknown m earlier k names none in_use) = none kind u
key_fine _ _ _ kind _ u new (not_supported m earlier k left) = taken_or_left_out m k kind u left
key_fine _ _ _ kind _ u new (twice m earlier j k i same) = of_all (λ j. AreSame m j k → ⊥) earlier new j i same
key_fine _ _ _ kind _ u new (out_of_range m earlier k names fresh none) = none kind u

pub taken_under : (m : MapKind) (earlier : List Key) (k : Key) (kind : Kind) → Under m k kind → IsNew m earlier k → (found : Kind) × (under_key m earlier k ≡ Ok found) × (plain found ≡ kind)
taken_under m earlier k kind u new = by (under_key m earlier k) refl (key_told m earlier k)
  where
    by : (r : Result Kind ConfCause) → under_key m earlier k ≡ r → KeyTold m earlier k r → (found : Kind) × (under_key m earlier k ≡ Ok found) × (plain found ≡ kind)
    by (Ok found) e t = (found, e, takes_one m k (plain found) kind t.0 u)
    by (Err cause) e t = absurd (key_fine m earlier k kind cause u new t)

pub none_lacks : (number : Option ℕ) (keys : List Key) (ls : List Line) (name : List ℕ) → AllByRecursion (λ l. IsNeeded number keys l.need → IsOneOf keys (key.Text l.key)) ls → IsFirstLacking number keys ls name → ⊥
none_lacks number keys [] name all l = l
none_lacks number keys (x ∷ ls) name all (inl l) = (l.0).1 (all.0 (l.0).0)
none_lacks number keys (x ∷ ls) name all (inr l) = none_lacks number keys ls name all.1 l.1

none_missing : (m : MapKind) (keys : List Key) → IsWhole m keys → missing_in m keys ≡ []
none_missing m keys whole = by (missing_in m keys) (missing_told m keys)
  where
    by : (fs : List Found) → MissingTold (own_number m) keys (lines m) fs → fs ≡ []
    by [] t = refl
    by (f ∷ fs) t = absurd (none_lacks (own_number m) keys (lines m) t.0 whole t.2)

-- ---- trees

joined_none : (step : List ℕ) (fs gs : List Found) → fs ≡ [] → gs ≡ [] → under step fs ++ gs ≡ []
joined_none step fs gs e f = ap₂ (λ (a b : List Found). under step a ++ b) e f

one_behind : (m : MapKind) (earlier : List Key) (p q : Pair) → IsNew m earlier q.key → (AreSame m p.key q.key → ⊥) → IsNew m (earlier ++ p.key ∷ []) q.key
one_behind m earlier p q new apart = all_by (λ j. AreSame m j q.key → ⊥) (earlier ++ p.key ∷ []) (λ j i. by j (of_joined earlier (p.key ∷ []) j i))
  where
    by : (j : Key) → IsOneOf earlier j ⊎ IsOneOf (p.key ∷ []) j → AreSame m j q.key → ⊥
    by j (inl i) = of_all (λ j. AreSame m j q.key → ⊥) earlier new j i
    by j (inr (inl e)) = subst (λ j. AreSame m j q.key → ⊥) e apart
    by j (inr (inr i)) = absurd i

all_behind : (m : MapKind) (earlier : List Key) (p : Pair) (ps : List Pair) → AllByRecursion (λ q. IsNew m earlier q.key) ps → AllByRecursion (λ q. AreSame m p.key q.key → ⊥) ps → AllByRecursion (λ q. IsNew m (earlier ++ p.key ∷ []) q.key) ps
all_behind m earlier p [] new apart = tt
all_behind m earlier p (q ∷ ps) new apart = (one_behind m earlier p q new.0 apart.0, all_behind m earlier p ps new.1 apart.1)

all_first : (m : MapKind) (ps : List Pair) → AllByRecursion (λ q. IsNew m [] q.key) ps
all_first m [] = tt
all_first m (p ∷ ps) = (tt, all_first m ps)

list_fine : (k one : Kind) (ts : List Tree) → item_of (plain k) ≡ Some one → ((j : Kind) → plain j ≡ one → item_faults j 0 (map faults_of ts) ≡ []) → list_faults (item_kind k) (map faults_of ts) ≡ []
list_fine k one ts e each = by (item_kind k) (item_plain k ∙ e)
  where
    by : (o : Option Kind) → option_map plain o ≡ Some one → list_faults o (map faults_of ts) ≡ []
    by None h = absurd (none-some one h)
    by (Some j) h = each j (same_Some (plain j) one h)

mutual
  pub fine : (kind : Kind) (t : Tree) → Fits kind t → (k : Kind) → plain k ≡ kind → faults_of t k ≡ []
  fine _ _ (alone kind s t e fit) k is =
      subst (λ u. faults_of u k ≡ []) (tree_of t) (faults_are (out-Tree t) k ∙ scalar_fine s (out-Tree t) k (scalar_plain k ∙ ap scalar_of is ∙ e) fit)
  fine _ _ (items kind one ts e all) k is = faults_are (tree.List ts) k ∙ list_fine k one ts (ap item_of is ∙ e) (λ j h. items_fine one ts all j h 0)
  fine _ _ (entries kind m ps e all apart whole) k is =
      faults_are (tree.Map ps) k ∙ ap (λ o. in_map o (map entry_of ps)) (map_plain k ∙ ap map_of is ∙ e) ∙ entries_fine m ps all [] apart (all_first m ps) whole
  fine _ _ (nothing kind m e may whole) k is =
      faults_are tree.Null k ∙ ap null_faults (map_plain k ∙ ap map_of is ∙ e) ∙ ap (λ (b : Bool). if b then missing_in m [] else here (Some WrongType)) (nothing_tests m may) ∙ none_missing m [] whole

  items_fine : (one : Kind) (ts : List Tree) → AllFit one ts → (k : Kind) → plain k ≡ one → (n : ℕ) → item_faults k n (map faults_of ts) ≡ []
  items_fine _ _ (no_items one) k is n = refl
  items_fine _ _ (item one t ts fit all) k is n = joined_none (decimal n) (faults_of t k) (item_faults k (n + 1) (map faults_of ts)) (fine one t fit k is) (items_fine one ts all k is (n + 1))

  entries_fine : (m : MapKind) (ps : List Pair) → EntriesFit m ps → (earlier : List Key) → EachBefore (λ p q. AreSame m p.key q.key → ⊥) ps → AllByRecursion (λ q. IsNew m earlier q.key) ps
      → IsWhole m (earlier ++ map (λ p. p.key) ps) → map_faults m earlier (map entry_of ps) ≡ []
  entries_fine _ _ (no_entries m) earlier apart new whole = none_missing m earlier (subst (IsWhole m) (append-nil earlier) whole)
  entries_fine _ _ (entry m kind p ps u fit more) earlier apart new whole =
      let found = taken_under m earlier p.key kind u new.0 in
      let value = ap (value_faults (faults_of p.value)) found.1 ∙ fine kind p.value fit found.0 found.2 in
      let rest = entries_fine m ps more (earlier ++ p.key ∷ []) apart.1 (all_behind m earlier p ps new.1 apart.0) (subst (IsWhole m) (sym (append_assoc earlier (p.key ∷ []) (map (λ p. p.key) ps))) whole) in
      subst (λ (e : Entry). map_faults m earlier (e ∷ map entry_of ps) ≡ []) (sym (entry_pair p))
      (joined_none (key_text p.key) (value_faults (faults_of p.value) (under_key m earlier p.key)) (map_faults m (earlier ++ p.key ∷ []) (map entry_of ps)) value rest)

pub document_fine : (t : Tree) → IsDocument t → first_fault t ≡ None
document_fine t right = ap (λ fs. option_map fault_of (first fs)) (fine (kind_of.Map maps.Top) t right (kind_of.Map maps.Top) refl)
