-- The first fault of a document that is not right by its keys.
use Rattle.std.specs.Prelude.{◌≡◌, ℕ, ◌+◌, ◌≤◌, ◌⊎◌, List, [], ◌∷◌, ◌++◌, codes, Option, Some}
use Rattle.std.specs.Char.{is_ascii_digit}
use Rattle.std.specs.Fmt.{decimal}
use Rattle.std.specs.Int.{is_in_range}
use Rattle.std.specs.List.{AllByRecursion}
use Rattle.std.specs.Prelude.{IsTrue}
use Rattle.net_base.specs.Address.{SpellsMac, ip4_text}
use Rattle.net_base.specs.Address as address
use Rattle.yaml_tree.specs.declared.tree.Key.{Key}
use Rattle.yaml_tree.specs.declared.tree.Key.TheVariants as key
use Rattle.yaml_tree.specs.declared.tree.Pair.{Pair}
use Rattle.yaml_tree.specs.declared.tree.Tree.{Tree, out-Tree}
use Rattle.yaml_tree.specs.declared.tree.Tree.TheOpen.{Tree-F}
use Rattle.yaml_tree.specs.declared.tree.Tree.TheOpen as tree
use Rattle.yaml_tree.specs.declared.tree.Tree.TheVariants as trees
use Rattle.conf_types.specs.declared.address.Ip.{Ip}
use Rattle.conf_types.specs.Families.{family_of, width_of}
use Rattle.conf_shape.specs.declared.kinds.Kind.{Kind}
use Rattle.conf_shape.specs.declared.kinds.Kind.TheVariants.{Map}
use Rattle.conf_shape.specs.declared.kinds.MapKind.{MapKind}
use Rattle.conf_shape.specs.declared.kinds.MapKind.TheVariants.{Top, Datapaths, DatapathStack, LldpBeacon, Interfaces, Vlans}
use Rattle.conf_shape.specs.declared.kinds.Scalar.{Scalar}
use Rattle.conf_shape.specs.declared.kinds.Scalar.TheVariants.{Flag, Number, Name, Label, Reference, Permission, NoEffect, StationMac, MaskedMac, Vip, Destination, Gateway, Prefix, Address, Identifier, Passive}
use Rattle.conf_shape.specs.declared.refused.ConfCause.{ConfCause}
use Rattle.conf_shape.specs.declared.refused.ConfCause.TheVariants.{UnknownKey, LeftOut, Missing, WrongType, OutOfRange, BadText, Duplicate}
use Rattle.conf_shape.specs.declared.refused.ConfFault.{ConfFault}
use Rattle.conf_shape.specs.Faults.{path_of}
use Rattle.conf_shape.specs.Sections.{key_text}
use Rattle.law_checks.specs.Values.{SpellsIp}
use Rattle.law_keys.specs.Tables.{Line, lines, left_out}
use Rattle.law_keys.specs.Grammar.{family_bits, IsOneOf, IsFlag, IsNumberAnd, IsTextAnd, IsNumber, IsText, IsFromTo, IsName, IsStation, FitsScalar, scalar_of, item_of, map_of, MayBeNothing, own_number, Under, AreSame, IsNeeded, Fits}

-- ---- values

-- the value has the form of this scalar: a flag, a whole number or a text
abbrev pub HasForm : Scalar → Tree-F Tree Pair → Type 0
HasForm Flag x = IsFlag x
HasForm (Number low high) x = IsNumber x
HasForm Label x = IsText x ⊎ IsNumber x
HasForm (Reference low high) x = IsText x ⊎ IsNumber x
HasForm Permission x = IsFlag x ⊎ IsNumber x
HasForm NoEffect x = IsFlag x ⊎ (IsNumber x ⊎ IsText x)
HasForm _ x = IsText x

-- the value has a form that the kind allows
abbrev pub HasFormOf : Kind → Tree-F Tree Pair → Type 0
HasFormOf kind (tree.List ts) = (one : Kind) × (item_of kind ≡ Some one)
HasFormOf kind (tree.Map ps) = (m : MapKind) × (map_of kind ≡ Some m)
HasFormOf kind tree.Null = (m : MapKind) × (map_of kind ≡ Some m) × MayBeNothing m
HasFormOf kind x = (s : Scalar) × (scalar_of kind ≡ Some s) × HasForm s x

-- decimal digits without a leading zero, and not zero alone
abbrev pub AreDigits : List ℕ → Type 0
AreDigits [] = ⊥
AreDigits (d ∷ ds) = IsTrue (is_in_range 49 57 d) × AllByRecursion (λ d. IsTrue (is_ascii_digit d)) ds

-- an address, a slash and the digits of a number that no length from the least to the most of its family has
pub record HasLengthOutside (least : ℕ) (most : Ip → ℕ) (text : List ℕ) : Type 0 where
  pub ip : Ip
  pub before : List ℕ
  pub digits : List ℕ
  pub spelled : SpellsIp before ip
  pub is : text ≡ before ++ 47 ∷ digits
  pub number : AreDigits digits ⊎ (digits ≡ 48 ∷ [])
  pub outside : (len : ℕ) → least ≤ len → len ≤ most ip → digits ≡ address.decimal len → ⊥

-- the greatest length of a VIP
abbrev pub most_vip_len : Ip → ℕ
most_vip_len ip = (family_of ip).most_vip_len

-- of the family that a field is of
abbrev pub HasLengthOutsideOf : ℕ → List ℕ → Type 0
HasLengthOutsideOf width text = (o : HasLengthOutside 0 width_of text) × (width_of o.ip ≡ family_bits width)

-- the value has the form, and is outside the range
abbrev pub IsOutside : Scalar → Tree-F Tree Pair → Type 0
IsOutside (Number low high) x = IsNumberAnd (λ n. IsFromTo low high n → ⊥) x
IsOutside (Reference low high) x = IsNumberAnd (λ n. IsFromTo low high n → ⊥) x
IsOutside Permission x = IsNumberAnd (λ n. IsFromTo 0 1 n → ⊥) x
IsOutside Name x = IsTextAnd (λ text. IsName text → ⊥) x
IsOutside StationMac x = IsTextAnd (λ text. (mac : List ℕ) × SpellsMac text mac × (IsStation mac → ⊥)) x
IsOutside Vip x = IsTextAnd (HasLengthOutside 1 most_vip_len) x
IsOutside Destination x = IsTextAnd (HasLengthOutside 0 width_of) x
IsOutside (Prefix width) x = IsTextAnd (HasLengthOutsideOf width) x
IsOutside Identifier x = IsTextAnd (λ text. text ≡ ip4_text 0) x
IsOutside _ x = ⊥

-- a text that stands for what isn't supported: another word than `passive`
abbrev pub IsUnsupported : Scalar → Tree-F Tree Pair → Type 0
IsUnsupported Passive x = IsTextAnd (λ text. text ≡ codes "passive" → ⊥) x
IsUnsupported _ x = ⊥

-- a text that has to spell something
abbrev pub HasToSpell : Scalar → Tree-F Tree Pair → Type 0
HasToSpell StationMac x = IsText x
HasToSpell MaskedMac x = IsText x
HasToSpell Vip x = IsText x
HasToSpell Destination x = IsText x
HasToSpell Gateway x = IsText x
HasToSpell (Prefix width) x = IsText x
HasToSpell (Address width) x = IsText x
HasToSpell Identifier x = IsText x
HasToSpell _ x = ⊥

-- what is wrong with a value itself
pub data IsWrong : Kind → Tree-F Tree Pair → ConfCause → Type 0 where
  another_form : (kind : Kind) (x : Tree-F Tree Pair) → (HasFormOf kind x → ⊥) → IsWrong kind x WrongType
  outside : (kind : Kind) (s : Scalar) (x : Tree-F Tree Pair) → scalar_of kind ≡ Some s → IsOutside s x → IsWrong kind x OutOfRange
  unsupported : (kind : Kind) (s : Scalar) (x : Tree-F Tree Pair) → scalar_of kind ≡ Some s → IsUnsupported s x → IsWrong kind x LeftOut
  no_spelling : (kind : Kind) (s : Scalar) (x : Tree-F Tree Pair) → scalar_of kind ≡ Some s → HasToSpell s x
      → (FitsScalar s x → ⊥) → (IsOutside s x → ⊥) → (IsUnsupported s x → ⊥) → IsWrong kind x BadText

-- ---- keys

-- a map whose keys are numbers or names in a range
abbrev pub HasNames : MapKind → Type 0
HasNames Datapaths = Unit {0}
HasNames Interfaces = Unit {0}
HasNames Vlans = Unit {0}
HasNames _ = ⊥

-- what a key of a map gives that isn't known
abbrev pub unlisted : MapKind → ConfCause
unlisted DatapathStack = LeftOut
unlisted LldpBeacon = LeftOut
unlisted m = UnknownKey

abbrev pub IsLeftOut : MapKind → Key → Type 0
IsLeftOut m (key.Text text) = IsOneOf (left_out m) text
IsLeftOut m (key.Int n) = ⊥

-- no key before it is the same
abbrev pub IsNew : MapKind → List Key → Key → Type 0
IsNew m earlier k = AllByRecursion (λ j. AreSame m j k → ⊥) earlier

-- what is wrong with a key of a map, behind those that are written before it
pub data IsWrongKey : MapKind → List Key → Key → ConfCause → Type 0 where
  unknown : (m : MapKind) (earlier : List Key) (k : Key) → (HasNames m → ⊥) → ((kind : Kind) → Under m k kind → ⊥) → (IsLeftOut m k → ⊥) → IsWrongKey m earlier k (unlisted m)
  not_supported : (m : MapKind) (earlier : List Key) (k : Key) → IsLeftOut m k → IsWrongKey m earlier k LeftOut
  twice : (m : MapKind) (earlier : List Key) (j k : Key) → IsOneOf earlier j → AreSame m j k → IsWrongKey m earlier k Duplicate
  out_of_range : (m : MapKind) (earlier : List Key) (k : Key) → HasNames m → IsNew m earlier k → ((kind : Kind) → Under m k kind → ⊥) → IsWrongKey m earlier k OutOfRange

-- the key has to be there and isn't
abbrev pub Lacks : Option ℕ → List Key → Line → Type 0
Lacks number keys l = IsNeeded number keys l.need × (IsOneOf keys (key.Text l.key) → ⊥)

-- the first one of the lines
abbrev pub IsFirstLacking : Option ℕ → List Key → List Line → List ℕ → Type 0
IsFirstLacking number keys [] name = ⊥
IsFirstLacking number keys (l ∷ ls) name = (Lacks number keys l × (l.key ≡ name)) ⊎ ((Lacks number keys l → ⊥) × IsFirstLacking number keys ls name)

-- ---- the first fault, with the keys and the places in lists (from 0) that lead to it

mutual
  pub data FirstFault : Kind → Tree → List (List ℕ) → ConfCause → Type 0 where
    at_value : (kind : Kind) (t : Tree) (cause : ConfCause) → IsWrong kind (out-Tree t) cause → FirstFault kind t [] cause
    in_items : (kind one : Kind) (ts : List Tree) (steps : List (List ℕ)) (cause : ConfCause) → item_of kind ≡ Some one → ItemFault one 0 ts steps cause → FirstFault kind (trees.List ts) steps cause
    in_entries : (kind : Kind) (m : MapKind) (ps : List Pair) (steps : List (List ℕ)) (cause : ConfCause) → map_of kind ≡ Some m → EntryFault m [] ps steps cause → FirstFault kind (trees.Map ps) steps cause
    in_nothing : (kind : Kind) (m : MapKind) (steps : List (List ℕ)) (cause : ConfCause) → map_of kind ≡ Some m → MayBeNothing m → EntryFault m [] [] steps cause → FirstFault kind trees.Null steps cause

  -- of the first item that isn't right, where the first item of the list has this place
  pub data ItemFault : Kind → ℕ → List Tree → List (List ℕ) → ConfCause → Type 0 where
    this_item : (one : Kind) (n : ℕ) (t : Tree) (ts : List Tree) (steps : List (List ℕ)) (cause : ConfCause) → FirstFault one t steps cause → ItemFault one n (t ∷ ts) (decimal n ∷ steps) cause
    later_item : (one : Kind) (n : ℕ) (t : Tree) (ts : List Tree) (steps : List (List ℕ)) (cause : ConfCause) → Fits one t → ItemFault one (n + 1) ts steps cause → ItemFault one n (t ∷ ts) steps cause

  -- of the first entry that isn't right, behind these keys; where all are right, the first key that is missing
  pub data EntryFault : MapKind → List Key → List Pair → List (List ℕ) → ConfCause → Type 0 where
    this_key : (m : MapKind) (earlier : List Key) (p : Pair) (ps : List Pair) (cause : ConfCause) → IsWrongKey m earlier p.key cause → EntryFault m earlier (p ∷ ps) (key_text p.key ∷ []) cause
    this_value : (m : MapKind) (earlier : List Key) (p : Pair) (ps : List Pair) (kind : Kind) (steps : List (List ℕ)) (cause : ConfCause)
        → Under m p.key kind → IsNew m earlier p.key → FirstFault kind p.value steps cause → EntryFault m earlier (p ∷ ps) (key_text p.key ∷ steps) cause
    later_entry : (m : MapKind) (earlier : List Key) (p : Pair) (ps : List Pair) (kind : Kind) (steps : List (List ℕ)) (cause : ConfCause)
        → Under m p.key kind → IsNew m earlier p.key → Fits kind p.value → EntryFault m (earlier ++ p.key ∷ []) ps steps cause → EntryFault m earlier (p ∷ ps) steps cause
    missing : (m : MapKind) (earlier : List Key) (name : List ℕ) → IsFirstLacking (own_number m) earlier (lines m) name → EntryFault m earlier [] (name ∷ []) Missing

-- the fault of a document, its path the steps joined by points
abbrev pub IsFaultOf : Tree → ConfFault → Type 0
IsFaultOf t fault = (steps : List (List ℕ)) × (fault.path ≡ path_of steps) × FirstFault (Map Top) t steps fault.cause
