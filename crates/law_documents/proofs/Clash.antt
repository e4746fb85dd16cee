-- What a key of a map takes behind other keys: what it takes alone, where none of these is the same key.
use Rattle.std.proofs.Common.{◌≡◌, ℕ, Bool, true, false, List, [], ◌∷◌, Option, Some, None, Result, Ok, Err, refl, sym, ap, ap₂, ◌∙◌, true≢false}
use Rattle.std.specs.Prelude.{◌||◌, if◌then◌else◌}
use Rattle.std.specs.List.{list_any}
use Rattle.std.specs.Str.{bytes_eq}
use Rattle.std.proofs.lemmas.Slice.Eq.{bytes_eq-Decides}
use Rattle.yaml_tree.specs.declared.tree.Key.{Key}
use Rattle.yaml_tree.specs.declared.tree.Key.TheVariants as key
use Rattle.conf_shape.specs.declared.refused.ConfCause.{ConfCause}
use Rattle.conf_shape.specs.declared.refused.ConfCause.TheVariants.{LeftOut, Duplicate}
use Rattle.conf_shape.specs.declared.kinds.Kind.{Kind}
use Rattle.conf_shape.specs.declared.kinds.MapKind.{MapKind}
use Rattle.conf_shape.specs.declared.kinds.MapKind.TheVariants as maps
use Rattle.conf_shape.specs.Keys.{KeyRow, Keys, keys_of}
use Rattle.conf_shape.specs.Sections.{key_text, is_key, canonical, row_at, spells, given, number_of, row_kind, listed_kind, has_text, named_kind, named_once, under_key}

-- ---- texts

pub same_text : (a b : List ℕ) → bytes_eq a b ≡ true → a ≡ b
same_text a b = (bytes_eq-Decides a b).0

pub text_itself : (a : List ℕ) → bytes_eq a a ≡ true
text_itself a = (bytes_eq-Decides a a).1 refl

pub other_text : (a b : List ℕ) → bytes_eq a b ≡ false → bytes_eq b a ≡ false
other_text a b not = by (bytes_eq b a) refl
  where
    by : (is : Bool) → bytes_eq b a ≡ is → is ≡ false
    by false is = refl
    by true is = absurd (true≢false (sym ((bytes_eq-Decides a b).1 (sym (same_text b a is))) ∙ not))

pub key_is : (name : List ℕ) (k : Key) → is_key name k ≡ true → k ≡ key.Text name
key_is name (key.Text text) e = ap key.Text (same_text text name e)
key_is name (key.Int n) e = absurd cc

-- ---- keys that are the same

-- in a map with a table, in one spelling or another
abbrev pub is_spelled : Keys → Key → Key → Bool
is_spelled keys (key.Text a) (key.Text b) = bytes_eq (canonical keys.spellings a) (canonical keys.spellings b)
is_spelled keys _ _ = false

-- where names are keys, by their texts; an interface or a VLAN may be written under any key
abbrev pub clash : MapKind → Key → Key → Bool
clash maps.Datapaths j k = has_text (key_text k) j
clash maps.Acls j k = has_text (key_text k) j
clash maps.Routers j k = has_text (key_text k) j
clash maps.Interfaces j k = false
clash maps.Vlans j k = false
clash m j k = is_spelled (keys_of m) j k

pub spelled_itself : (keys : Keys) (name : List ℕ) → is_spelled keys (key.Text name) (key.Text name) ≡ true
spelled_itself keys name = text_itself (canonical keys.spellings name)

spelled_back : (keys : Keys) (j k : Key) → is_spelled keys j k ≡ false → is_spelled keys k j ≡ false
spelled_back keys (key.Text a) (key.Text b) not = other_text (canonical keys.spellings a) (canonical keys.spellings b) not
spelled_back keys (key.Text a) (key.Int n) not = refl
spelled_back keys (key.Int n) (key.Text b) not = refl
spelled_back keys (key.Int n) (key.Int l) not = refl

pub clash_back : (m : MapKind) (j k : Key) → clash m j k ≡ false → clash m k j ≡ false
clash_back maps.Datapaths j k not = other_text (key_text j) (key_text k) not
clash_back maps.Acls j k not = other_text (key_text j) (key_text k) not
clash_back maps.Routers j k not = other_text (key_text j) (key_text k) not
clash_back maps.Interfaces j k not = refl
clash_back maps.Vlans j k not = refl
clash_back m j k not = spelled_back (keys_of m) j k not

-- ---- what a key takes behind others

abbrev pub clashes : MapKind → List Key → Key → Bool
clashes m earlier k = list_any (λ j. clash m j k) earlier

any_alike : {A : Type 0} (f g : A → Bool) → ((x : A) → f x ≡ g x) → (xs : List A) → list_any f xs ≡ list_any g xs
any_alike f g same [] = refl
any_alike f g same (x ∷ xs) = ap₂ (λ (a b : Bool). a || b) (same x) (any_alike f g same xs)

row_key : (name : List ℕ) (rows : List KeyRow) (r : KeyRow) → row_at name rows ≡ Some r → r.key ≡ name
row_key name [] r at = absurd cc
row_key name (q ∷ rows) r at = by (bytes_eq q.key name) refl at (row_key name rows r)
  where
    by : (is : Bool) → bytes_eq q.key name ≡ is → (if is then Some q else row_at name rows) ≡ Some r → (row_at name rows ≡ Some r → r.key ≡ name) → r.key ≡ name
    by true is at more = let same : q ≡ r = cc in ap (λ (r : KeyRow). r.key) (sym same) ∙ same_text q.key name is
    by false is at more = more at

spelled_alike : (keys : Keys) (text : List ℕ) (r : KeyRow) → row_at (canonical keys.spellings text) keys.rows ≡ Some r → (earlier : List Key) → list_any (spells keys.spellings r.key) earlier ≡ list_any (λ j. is_spelled keys j (key.Text text)) earlier
spelled_alike keys text r at earlier =
    ap (λ name. list_any (spells keys.spellings name) earlier) (row_key (canonical keys.spellings text) keys.rows r at)
    ∙ any_alike (spells keys.spellings (canonical keys.spellings text)) (λ j. is_spelled keys j (key.Text text)) same earlier
  where
    same : (j : Key) → spells keys.spellings (canonical keys.spellings text) j ≡ is_spelled keys j (key.Text text)
    same (key.Text a) = refl
    same (key.Int n) = refl

-- alone it takes the same, and none of the others is the same key
abbrev TakesAlone : Result Kind ConfCause → Kind → Bool → Type 0
TakesAlone alone kind clashing = (alone ≡ Ok kind) × (clashing ≡ false)

row_alone : (keys : Keys) (number : Option ℕ) (earlier : List Key) (text : List ℕ) (kind : Kind) (o : Option KeyRow) → row_at (canonical keys.spellings text) keys.rows ≡ o
    → row_kind keys number earlier o ≡ Ok kind → TakesAlone (row_kind keys number [] o) kind (list_any (λ j. is_spelled keys j (key.Text text)) earlier)
row_alone keys number earlier text kind None at e = absurd cc
row_alone keys number earlier text kind (Some r) at e = let m = by (list_any (spells keys.spellings r.key) earlier) refl e in (m.0, sym (spelled_alike keys text r at earlier) ∙ m.1)
  where
    by : (twice : Bool) → list_any (spells keys.spellings r.key) earlier ≡ twice → (if twice then Err Duplicate else Ok (given number r.kind)) ≡ Ok kind → TakesAlone (Ok (given number r.kind)) kind (list_any (spells keys.spellings r.key) earlier)
    by true is e = absurd cc
    by false is e = (e, is)

listed_alone : (keys : Keys) (number : Option ℕ) (earlier : List Key) (k : Key) (kind : Kind) → listed_kind keys number earlier k ≡ Ok kind → TakesAlone (listed_kind keys number [] k) kind (list_any (λ j. is_spelled keys j k) earlier)
listed_alone keys number earlier (key.Int n) kind e = absurd cc
listed_alone keys number earlier (key.Text text) kind e = by (list_any (λ name. bytes_eq name text) keys.left_out) e
  where
    row : Option KeyRow
    row = row_at (canonical keys.spellings text) keys.rows

    by : (left_out : Bool) → (if left_out then Err LeftOut else row_kind keys number earlier row) ≡ Ok kind → TakesAlone (if left_out then Err LeftOut else row_kind keys number [] row) kind (list_any (λ j. is_spelled keys j (key.Text text)) earlier)
    by true e = absurd cc
    by false e = row_alone keys number earlier text kind row refl e

named_alone : (m : MapKind) (earlier : List Key) (k : Key) (kind : Kind) → named_once m earlier k ≡ Ok kind → TakesAlone (named_once m [] k) kind (list_any (has_text (key_text k)) earlier)
named_alone m earlier k kind e = by (list_any (has_text (key_text k)) earlier) e
  where
    by : (twice : Bool) → (if twice then Err Duplicate else named_kind (key_text k) m) ≡ Ok kind → TakesAlone (named_kind (key_text k) m) kind twice
    by true e = absurd cc
    by false e = (e, refl)

none_clash : (earlier : List Key) → list_any (λ j. false) earlier ≡ false
none_clash [] = refl
none_clash (j ∷ earlier) = none_clash earlier

pub takes_alone : (m : MapKind) (earlier : List Key) (k : Key) (kind : Kind) → under_key m earlier k ≡ Ok kind → TakesAlone (under_key m [] k) kind (clashes m earlier k)
takes_alone maps.Datapaths earlier k kind e = named_alone maps.Datapaths earlier k kind e
takes_alone maps.Acls earlier k kind e = named_alone maps.Acls earlier k kind e
takes_alone maps.Routers earlier k kind e = named_alone maps.Routers earlier k kind e
takes_alone maps.Interfaces earlier k kind e = (e, none_clash earlier)
takes_alone maps.Vlans earlier k kind e = (e, none_clash earlier)
takes_alone m earlier k kind e = listed_alone (keys_of m) (number_of m) earlier k kind e

-- ---- and the other way round

row_behind : (keys : Keys) (number : Option ℕ) (earlier : List Key) (text : List ℕ) (kind : Kind) (o : Option KeyRow) → row_at (canonical keys.spellings text) keys.rows ≡ o
    → row_kind keys number [] o ≡ Ok kind → list_any (λ j. is_spelled keys j (key.Text text)) earlier ≡ false → row_kind keys number earlier o ≡ Ok kind
row_behind keys number earlier text kind None at e new = absurd cc
row_behind keys number earlier text kind (Some r) at e new = ap (λ (twice : Bool). if twice then Err Duplicate else Ok (given number r.kind)) (spelled_alike keys text r at earlier ∙ new) ∙ e

listed_behind : (keys : Keys) (number : Option ℕ) (earlier : List Key) (k : Key) (kind : Kind) → listed_kind keys number [] k ≡ Ok kind → list_any (λ j. is_spelled keys j k) earlier ≡ false → listed_kind keys number earlier k ≡ Ok kind
listed_behind keys number earlier (key.Int n) kind e new = absurd cc
listed_behind keys number earlier (key.Text text) kind e new = by (list_any (λ name. bytes_eq name text) keys.left_out) e
  where
    row : Option KeyRow
    row = row_at (canonical keys.spellings text) keys.rows

    by : (left_out : Bool) → (if left_out then Err LeftOut else row_kind keys number [] row) ≡ Ok kind → (if left_out then Err LeftOut else row_kind keys number earlier row) ≡ Ok kind
    by true e = absurd cc
    by false e = row_behind keys number earlier text kind row refl e new

named_behind : (m : MapKind) (earlier : List Key) (k : Key) (kind : Kind) → named_once m [] k ≡ Ok kind → list_any (has_text (key_text k)) earlier ≡ false → named_once m earlier k ≡ Ok kind
named_behind m earlier k kind e new = ap (λ (twice : Bool). if twice then Err Duplicate else named_kind (key_text k) m) new ∙ e

pub takes_behind : (m : MapKind) (earlier : List Key) (k : Key) (kind : Kind) → under_key m [] k ≡ Ok kind → clashes m earlier k ≡ false → under_key m earlier k ≡ Ok kind
takes_behind maps.Datapaths earlier k kind e new = named_behind maps.Datapaths earlier k kind e new
takes_behind maps.Acls earlier k kind e new = named_behind maps.Acls earlier k kind e new
takes_behind maps.Routers earlier k kind e new = named_behind maps.Routers earlier k kind e new
takes_behind maps.Interfaces earlier k kind e new = e
takes_behind maps.Vlans earlier k kind e new = e
takes_behind m earlier k kind e new = listed_behind (keys_of m) (number_of m) earlier k kind e new
