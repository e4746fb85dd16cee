-- What stands under a key of a map, or what is wrong with the key.
use Rattle.std.specs.Prelude.{◌≡◌, ◌⊎◌, ℕ, Bool, true, false, List, [], ◌∷◌, map, Option, Some, None, Result, Ok, Err, if◌then◌else◌}
use Rattle.std.specs.List.{AllByRecursion, list_any}
use Rattle.std.specs.Str.{bytes_eq}
use Rattle.std.proofs.Common.{inl, inr, refl, sym, ap, ◌∙◌, subst, true≢false}
use Rattle.std.proofs.lemmas.Option.{same_Some, none-some}
use Rattle.std.proofs.lemmas.Slice.Eq.{bytes_eq-Decides}
use Rattle.yaml_tree.specs.declared.tree.Key.{Key}
use Rattle.yaml_tree.specs.declared.tree.Key.TheVariants as key
use Rattle.conf_shape.specs.declared.kinds.Kind.{Kind}
use Rattle.conf_shape.specs.declared.kinds.Kind.TheVariants as kind_of
use Rattle.conf_shape.specs.declared.kinds.MapKind.{MapKind}
use Rattle.conf_shape.specs.declared.kinds.MapKind.TheVariants as maps
use Rattle.conf_shape.specs.declared.kinds.Scalar.TheVariants.{Number}
use Rattle.conf_shape.specs.declared.kinds.TheConstants.{MOST_VID, MOST_PORT_NO}
use Rattle.conf_shape.specs.declared.refused.ConfCause.{ConfCause}
use Rattle.conf_shape.specs.declared.refused.ConfCause.TheVariants.{LeftOut, OutOfRange, Duplicate}
use Rattle.conf_shape.specs.Keys.{KeyRow, keys_of}
use Rattle.conf_shape.specs.Scalars.{within, is_name, asked_scalar}
use Rattle.conf_shape.specs.Sections.{key_text, canonical, row_at, spells, given, number_of, row_kind, text_kind, listed_kind, has_text, named_kind, named_once, if_number, number_or_name, as_map, under_key}
use Rattle.law_keys.specs.Tables.{Line, lines, spellings, left_out}
use Rattle.law_keys.specs.Causes.{HasNames, unlisted, IsLeftOut, IsNew, IsWrongKey, unknown, not_supported, twice, out_of_range}
use Rattle.law_keys.specs.Grammar.{IsOneOf, own_number, own_kind, IsKeyOf, HasLine, IsNumbered, Under, AreSame}
use Rattle.law_keys.proofs.Lists.{any_in, in_any, in_mapped, of_mapped, all_by, each_same}
use Rattle.law_keys.proofs.Scalars.{WithinTold, within_told, name_is, name_not}

-- ---- kinds, without the fields of rules and the numbers of keys

abbrev pub unasked : Kind → Kind
unasked (kind_of.Asked id) = kind_of.One (asked_scalar id)
unasked kind = kind

abbrev pub plain : Kind → Kind
plain (kind_of.Given low high) = kind_of.One (Number low high)
plain (kind_of.Asked id) = kind_of.One (asked_scalar id)
plain kind = kind

given_plain : (number : Option ℕ) (kind : Kind) → plain (given number kind) ≡ own_kind number (unasked kind)
given_plain None (kind_of.Given low high) = refl
given_plain None kind = refl
given_plain (Some n) (kind_of.Given low high) = refl
given_plain (Some n) kind = refl

-- ---- the tables are those of the shape

abbrev pub line_of : KeyRow → Line
line_of r = record { key = r.key; kind = unasked r.kind; need = r.need; default = r.default }

pub lines_are : (m : MapKind) → map line_of (keys_of m).rows ≡ lines m
lines_are maps.Top = refl
lines_are m = refl

spellings_are : (m : MapKind) → (keys_of m).spellings ≡ spellings m
spellings_are maps.Top = refl
spellings_are m = refl

left_out_are : (m : MapKind) → (keys_of m).left_out ≡ left_out m
left_out_are maps.Top = refl
left_out_are m = refl

unlisted_is : (m : MapKind) → (keys_of m).unlisted ≡ unlisted m
unlisted_is maps.Top = refl
unlisted_is m = refl

pub number_is : (m : MapKind) → number_of m ≡ own_number m
number_is maps.Top = refl
number_is m = refl

-- each key of a table, in any spelling, stands for its own row
rows_taken : (m : MapKind) → map (λ (r : KeyRow). text_kind (keys_of m) (number_of m) [] r.key) (keys_of m).rows ≡ map (λ (r : KeyRow). Ok (given (number_of m) r.kind)) (keys_of m).rows
rows_taken maps.Top = refl
rows_taken m = refl

spellings_taken : (m : MapKind) → map (λ (p : List ℕ × List ℕ). text_kind (keys_of m) (number_of m) [] p.0) (keys_of m).spellings ≡ map (λ (p : List ℕ × List ℕ). text_kind (keys_of m) (number_of m) [] p.1) (keys_of m).spellings
spellings_taken maps.Top = refl
spellings_taken m = refl

own_keys : (m : MapKind) → map (λ (r : KeyRow). canonical (keys_of m).spellings r.key) (keys_of m).rows ≡ map (λ (r : KeyRow). r.key) (keys_of m).rows
own_keys maps.Top = refl
own_keys m = refl

own_spellings : (m : MapKind) → map (λ (p : List ℕ × List ℕ). canonical (keys_of m).spellings p.0) (keys_of m).spellings ≡ map (λ (p : List ℕ × List ℕ). p.1) (keys_of m).spellings
own_spellings maps.Top = refl
own_spellings m = refl

-- ---- maps with a table

abbrev IsListed : MapKind → Type 0
IsListed maps.Datapaths = ⊥
IsListed maps.Acls = ⊥
IsListed maps.Routers = ⊥
IsListed maps.Interfaces = ⊥
IsListed maps.Vlans = ⊥
IsListed m = Unit {0}

abbrev IsSameLine : MapKind → Key → Key → Type 0
IsSameLine m j k = (l : Line) × IsOneOf (lines m) l × IsKeyOf m l j × IsKeyOf m l k

line_under : (m : MapKind) → IsListed m → (k : Key) (kind : Kind) → Under m k kind → HasLine m k kind
line_under maps.Datapaths listed k kind u = absurd listed
line_under maps.Acls listed k kind u = absurd listed
line_under maps.Routers listed k kind u = absurd listed
line_under maps.Interfaces listed k kind u = absurd listed
line_under maps.Vlans listed k kind u = absurd listed
line_under m listed k kind u = u

under_line : (m : MapKind) → IsListed m → (k : Key) (kind : Kind) → HasLine m k kind → Under m k kind
under_line maps.Datapaths listed k kind u = absurd listed
under_line maps.Acls listed k kind u = absurd listed
under_line maps.Routers listed k kind u = absurd listed
under_line maps.Interfaces listed k kind u = absurd listed
under_line maps.Vlans listed k kind u = absurd listed
under_line m listed k kind u = u

line_same : (m : MapKind) → IsListed m → (j k : Key) → AreSame m j k → IsSameLine m j k
line_same maps.Datapaths listed j k s = absurd listed
line_same maps.Acls listed j k s = absurd listed
line_same maps.Routers listed j k s = absurd listed
line_same maps.Interfaces listed j k s = absurd listed
line_same maps.Vlans listed j k s = absurd listed
line_same m listed j k s = s

same_line : (m : MapKind) → IsListed m → (j k : Key) → IsSameLine m j k → AreSame m j k
same_line maps.Datapaths listed j k s = absurd listed
same_line maps.Acls listed j k s = absurd listed
same_line maps.Routers listed j k s = absurd listed
same_line maps.Interfaces listed j k s = absurd listed
same_line maps.Vlans listed j k s = absurd listed
same_line m listed j k s = s

no_names : (m : MapKind) → IsListed m → HasNames m → ⊥
no_names maps.Datapaths listed h = listed
no_names maps.Interfaces listed h = listed
no_names maps.Vlans listed h = listed
no_names m listed h = h

-- ---- spellings

same_text : (a b : List ℕ) → bytes_eq a b ≡ true → a ≡ b
same_text a b = (bytes_eq-Decides a b).0

text_same : (a b : List ℕ) → a ≡ b → bytes_eq a b ≡ true
text_same a b = (bytes_eq-Decides a b).1

-- a text stands for itself, or is a spelling of what it stands for
spelled_as : (S : List (List ℕ × List ℕ)) (text : List ℕ) → (canonical S text ≡ text) ⊎ IsOneOf S (text, canonical S text)
spelled_as [] text = inl refl
spelled_as (p ∷ S) text = by (bytes_eq p.0 text) refl (spelled_as S text)
  where
    by : (b : Bool) → bytes_eq p.0 text ≡ b → (canonical S text ≡ text) ⊎ IsOneOf S (text, canonical S text)
        → ((if b then p.1 else canonical S text) ≡ text) ⊎ IsOneOf (p ∷ S) (text, if b then p.1 else canonical S text)
    by true is more = inr (inl (ap (λ (w : List ℕ). (w, p.1)) (same_text p.0 text is)))
    by false is (inl e) = inl e
    by false is (inr i) = inr (inr i)

row_in : (name : List ℕ) (rows : List KeyRow) (r : KeyRow) → row_at name rows ≡ Some r → IsOneOf rows r × (r.key ≡ name)
row_in name [] r e = absurd (none-some r e)
row_in name (q ∷ rows) r e = by (bytes_eq q.key name) refl e (row_in name rows r)
  where
    by : (b : Bool) → bytes_eq q.key name ≡ b → (if b then Some q else row_at name rows) ≡ Some r → (row_at name rows ≡ Some r → IsOneOf rows r × (r.key ≡ name)) → IsOneOf (q ∷ rows) r × (r.key ≡ name)
    by true is e more = let same = same_Some q r e in (inl same, ap (λ (r : KeyRow). r.key) (sym same) ∙ same_text q.key name is)
    by false is e more = let m = more e in (inr m.0, m.1)

-- ---- what a line says of its key

-- the row of a line
pub record RowOf (m : MapKind) (l : Line) : Type 0 where
  pub row : KeyRow
  pub listed : IsOneOf (keys_of m).rows row
  pub is : line_of row ≡ l

pub row_of : (m : MapKind) (l : Line) → IsOneOf (lines m) l → RowOf m l
row_of m l i = let r = of_mapped line_of (keys_of m).rows l (subst (λ ls. IsOneOf ls l) (sym (lines_are m)) i) in record { row = r.0; listed = r.1; is = r.2 }

canonical_is : (m : MapKind) (l : Line) (text : List ℕ) → IsOneOf (lines m) l → IsKeyOf m l (key.Text text) → canonical (keys_of m).spellings text ≡ l.key
canonical_is m l text i (inl e) =
    let r = row_of m l i in
    let name : l.key ≡ r.row.key = ap (λ (l : Line). l.key) (sym r.is) in
    ap (canonical (keys_of m).spellings) (e ∙ name) ∙ each_same (λ (r : KeyRow). canonical (keys_of m).spellings r.key) (λ (r : KeyRow). r.key) (keys_of m).rows (own_keys m) r.row r.listed ∙ sym name
canonical_is m l text i (inr s) =
    each_same (λ (p : List ℕ × List ℕ). canonical (keys_of m).spellings p.0) (λ (p : List ℕ × List ℕ). p.1) (keys_of m).spellings (own_spellings m) (text, l.key)
    (subst (λ S. IsOneOf S (text, l.key)) (sym (spellings_are m)) s)

-- alone it takes the kind of its row
takes_line : (m : MapKind) (l : Line) (text : List ℕ) → (i : IsOneOf (lines m) l) → IsKeyOf m l (key.Text text) → text_kind (keys_of m) (number_of m) [] text ≡ Ok (given (number_of m) (row_of m l i).row.kind)
takes_line m l text i k = by k
  where
    r : RowOf m l
    r = row_of m l i

    own : text_kind (keys_of m) (number_of m) [] l.key ≡ Ok (given (number_of m) r.row.kind)
    own = ap (λ (l : Line). text_kind (keys_of m) (number_of m) [] l.key) (sym r.is) ∙ each_same (λ (r : KeyRow). text_kind (keys_of m) (number_of m) [] r.key) (λ (r : KeyRow). Ok (given (number_of m) r.kind)) (keys_of m).rows (rows_taken m) r.row r.listed

    by : (text ≡ l.key) ⊎ IsOneOf (spellings m) (text, l.key) → text_kind (keys_of m) (number_of m) [] text ≡ Ok (given (number_of m) r.row.kind)
    by (inl e) = ap (text_kind (keys_of m) (number_of m) []) e ∙ own
    by (inr s) =
        each_same (λ (p : List ℕ × List ℕ). text_kind (keys_of m) (number_of m) [] p.0) (λ (p : List ℕ × List ℕ). text_kind (keys_of m) (number_of m) [] p.1) (keys_of m).spellings (spellings_taken m) (text, l.key)
        (subst (λ S. IsOneOf S (text, l.key)) (sym (spellings_are m)) s) ∙ own

kind_is : (m : MapKind) (l : Line) (i : IsOneOf (lines m) l) → plain (given (number_of m) (row_of m l i).row.kind) ≡ own_kind (own_number m) l.kind
kind_is m l i =
    let r = row_of m l i in
    given_plain (number_of m) r.row.kind ∙ ap (λ (number : Option ℕ). own_kind number (unasked r.row.kind)) (number_is m) ∙ ap (λ (l : Line). own_kind (own_number m) l.kind) r.is

-- ---- a key, behind others

abbrev pub KeyTold : MapKind → List Key → Key → Result Kind ConfCause → Type 0
KeyTold m earlier k (Ok kind) = Under m k (plain kind) × IsNew m earlier k
KeyTold m earlier k (Err cause) = IsWrongKey m earlier k cause

module _ (m : MapKind) (listed : IsListed m) (earlier : List Key) where
  row_told : (text : List ℕ) (r : KeyRow) → IsOneOf (keys_of m).rows r → r.key ≡ canonical (keys_of m).spellings text
      → KeyTold m earlier (key.Text text) (if list_any (spells (keys_of m).spellings r.key) earlier then Err Duplicate else Ok (given (number_of m) r.kind))
  row_told text r i name = by (list_any (spells (keys_of m).spellings r.key) earlier) refl
    where
      l : Line
      l = line_of r

      there : IsOneOf (lines m) l
      there = subst (λ ls. IsOneOf ls l) (lines_are m) (in_mapped line_of (keys_of m).rows r i)

      is_key_of : (a : List ℕ) → canonical (keys_of m).spellings a ≡ r.key → IsKeyOf m l (key.Text a)
      is_key_of a e = either (spelled_as (keys_of m).spellings a)
        where
          either : (canonical (keys_of m).spellings a ≡ a) ⊎ IsOneOf (keys_of m).spellings (a, canonical (keys_of m).spellings a) → IsKeyOf m l (key.Text a)
          either (inl same) = inl (sym same ∙ e)
          either (inr s) = inr (subst (λ S. IsOneOf S (a, r.key)) (spellings_are m) (subst (λ w. IsOneOf (keys_of m).spellings (a, w)) e s))

      spelled : IsKeyOf m l (key.Text text)
      spelled = is_key_of text (sym name)

      spells_it : (j : Key) → spells (keys_of m).spellings r.key j ≡ true → IsKeyOf m l j
      spells_it (key.Text a) is = is_key_of a (same_text (canonical (keys_of m).spellings a) r.key is)
      spells_it (key.Int n) is = absurd (true≢false (sym is))

      same_spells : (j : Key) → IsSameLine m j (key.Text text) → spells (keys_of m).spellings r.key j ≡ true
      same_spells (key.Text a) s = text_same (canonical (keys_of m).spellings a) r.key (canonical_is m s.0 a s.1 s.2 ∙ sym (canonical_is m s.0 text s.1 s.3) ∙ sym name)
      same_spells (key.Int n) s = absurd s.2

      by : (b : Bool) → list_any (spells (keys_of m).spellings r.key) earlier ≡ b → KeyTold m earlier (key.Text text) (if b then Err Duplicate else Ok (given (number_of m) r.kind))
      by true is =
          let j = any_in (spells (keys_of m).spellings r.key) earlier is in
          twice m earlier j.0 (key.Text text) j.1 (same_line m listed j.0 (key.Text text) (l, there, spells_it j.0 j.2, spelled))
      by false is = (
        under_line m listed (key.Text text) (plain (given (number_of m) r.kind)) (record { at = l; listed = there; spelled = spelled; is = given_plain (number_of m) r.kind ∙ ap (λ (number : Option ℕ). own_kind number (unasked r.kind)) (number_is m) }),
        all_by (λ j. AreSame m j (key.Text text) → ⊥) earlier (λ j i s. true≢false (sym (in_any (spells (keys_of m).spellings r.key) earlier j i (same_spells j (line_same m listed j (key.Text text) s))) ∙ is)),
      )

  no_row : (text : List ℕ) → list_any (λ name. bytes_eq name text) (keys_of m).left_out ≡ false → row_at (canonical (keys_of m).spellings text) (keys_of m).rows ≡ None → KeyTold m earlier (key.Text text) (Err (keys_of m).unlisted)
  no_row text in_use none = subst (IsWrongKey m earlier (key.Text text)) (sym (unlisted_is m)) (unknown m earlier (key.Text text) (no_names m listed) no_kind in_table)
    where
      alone : text_kind (keys_of m) (number_of m) [] text ≡ Err (keys_of m).unlisted
      alone = ap (λ (b : Bool). if b then Err LeftOut else row_kind (keys_of m) (number_of m) [] (row_at (canonical (keys_of m).spellings text) (keys_of m).rows)) in_use ∙ ap (row_kind (keys_of m) (number_of m) []) none

      no_kind : (kind : Kind) → Under m (key.Text text) kind → ⊥
      no_kind kind u =
          let h = line_under m listed (key.Text text) kind u in
          let taken = takes_line m h.at text h.listed h.spelled in
          absurd (cc (taken, alone))

      in_table : IsLeftOut m (key.Text text) → ⊥
      in_table i = true≢false (sym (in_any (λ name. bytes_eq name text) (keys_of m).left_out text (subst (λ names. IsOneOf names text) (sym (left_out_are m)) i) (text_same text text refl)) ∙ in_use)

  text_told : (text : List ℕ) → KeyTold m earlier (key.Text text) (text_kind (keys_of m) (number_of m) earlier text)
  text_told text = by (list_any (λ name. bytes_eq name text) (keys_of m).left_out) refl
    where
      at_row : list_any (λ name. bytes_eq name text) (keys_of m).left_out ≡ false → (o : Option KeyRow) → row_at (canonical (keys_of m).spellings text) (keys_of m).rows ≡ o → KeyTold m earlier (key.Text text) (row_kind (keys_of m) (number_of m) earlier o)
      at_row in_use None e = no_row text in_use e
      at_row in_use (Some r) e = let there = row_in (canonical (keys_of m).spellings text) (keys_of m).rows r e in row_told text r there.0 there.1

      by : (b : Bool) → list_any (λ name. bytes_eq name text) (keys_of m).left_out ≡ b → KeyTold m earlier (key.Text text) (if b then Err LeftOut else row_kind (keys_of m) (number_of m) earlier (row_at (canonical (keys_of m).spellings text) (keys_of m).rows))
      by true is =
          let name = any_in (λ name. bytes_eq name text) (keys_of m).left_out is in
          not_supported m earlier (key.Text text) (subst (λ names. IsOneOf names text) (left_out_are m) (subst (IsOneOf (keys_of m).left_out) (same_text name.0 text name.2) name.1))
      by false is = at_row is (row_at (canonical (keys_of m).spellings text) (keys_of m).rows) refl

  listed_told : (k : Key) → KeyTold m earlier k (listed_kind (keys_of m) (number_of m) earlier k)
  listed_told (key.Text text) = text_told text
  listed_told (key.Int n) = subst (IsWrongKey m earlier (key.Int n)) (sym (unlisted_is m)) (unknown m earlier (key.Int n) (no_names m listed) (λ kind u. (line_under m listed (key.Int n) kind u).spelled) (λ i. i))

-- ---- maps of the user's names

text_there : (earlier : List Key) (k : Key) → list_any (has_text (key_text k)) earlier ≡ true → (j : Key) × IsOneOf earlier j × (key_text j ≡ key_text k)
text_there earlier k is = let j = any_in (has_text (key_text k)) earlier is in (j.0, j.1, same_text (key_text j.0) (key_text k) j.2)

no_text : (earlier : List Key) (k : Key) → list_any (has_text (key_text k)) earlier ≡ false → AllByRecursion (λ j. key_text j ≡ key_text k → ⊥) earlier
no_text earlier k is = all_by (λ j. key_text j ≡ key_text k → ⊥) earlier (λ j i s. true≢false (sym (in_any (has_text (key_text k)) earlier j i (text_same (key_text j) (key_text k) s)) ∙ is))

datapaths_told : (earlier : List Key) (k : Key) → KeyTold maps.Datapaths earlier k (named_once maps.Datapaths earlier k)
datapaths_told earlier k = by (list_any (has_text (key_text k)) earlier) refl
  where
    named : list_any (has_text (key_text k)) earlier ≡ false → (b : Bool) → is_name (key_text k) ≡ b → KeyTold maps.Datapaths earlier k (if b then Ok (kind_of.Map maps.Datapath) else Err OutOfRange)
    named new true is = ((name_is (key_text k) is, refl), no_text earlier k new)
    named new false is = out_of_range maps.Datapaths earlier k tt (no_text earlier k new) (λ kind u. name_not (key_text k) is u.0)

    by : (b : Bool) → list_any (has_text (key_text k)) earlier ≡ b → KeyTold maps.Datapaths earlier k (if b then Err Duplicate else named_kind (key_text k) maps.Datapaths)
    by true is = let j = text_there earlier k is in twice maps.Datapaths earlier j.0 k j.1 j.2
    by false is = named is (is_name (key_text k)) refl

acls_told : (earlier : List Key) (k : Key) → KeyTold maps.Acls earlier k (named_once maps.Acls earlier k)
acls_told earlier k = by (list_any (has_text (key_text k)) earlier) refl
  where
    by : (b : Bool) → list_any (has_text (key_text k)) earlier ≡ b → KeyTold maps.Acls earlier k (if b then Err Duplicate else Ok (kind_of.Maps maps.RuleItem))
    by true is = let j = text_there earlier k is in twice maps.Acls earlier j.0 k j.1 j.2
    by false is = (refl, no_text earlier k is)

routers_told : (earlier : List Key) (k : Key) → KeyTold maps.Routers earlier k (named_once maps.Routers earlier k)
routers_told earlier k = by (list_any (has_text (key_text k)) earlier) refl
  where
    by : (b : Bool) → list_any (has_text (key_text k)) earlier ≡ b → KeyTold maps.Routers earlier k (if b then Err Duplicate else Ok (kind_of.Map maps.Router))
    by true is = let j = text_there earlier k is in twice maps.Routers earlier j.0 k j.1 j.2
    by false is = (refl, no_text earlier k is)

all_new : (earlier : List Key) → AllByRecursion (λ j. ⊥ → ⊥) earlier
all_new [] = tt
all_new (j ∷ earlier) = ((λ i. i), all_new earlier)

interfaces_told : (earlier : List Key) (k : Key) → KeyTold maps.Interfaces earlier k (as_map maps.Interface (number_or_name 1 MOST_PORT_NO k))
interfaces_told earlier (key.Int z) = by (within 1 MOST_PORT_NO z) (within_told 1 MOST_PORT_NO z)
  where
    by : (o : Option ℕ) → WithinTold 1 MOST_PORT_NO z o → KeyTold maps.Interfaces earlier (key.Int z) (as_map maps.Interface (if_number o))
    by (Some n) w = ((n, w.0, w.1, w.2, refl), all_new earlier)
    by None w = out_of_range maps.Interfaces earlier (key.Int z) tt (all_new earlier) (λ kind u. w (u.0, u.1, u.2, u.3))
interfaces_told earlier (key.Text text) = by (is_name text) refl
  where
    by : (b : Bool) → is_name text ≡ b → KeyTold maps.Interfaces earlier (key.Text text) (as_map maps.Interface (if b then Ok None else Err OutOfRange))
    by true is = ((name_is text is, refl), all_new earlier)
    by false is = out_of_range maps.Interfaces earlier (key.Text text) tt (all_new earlier) (λ kind u. name_not text is u.0)

vlans_told : (earlier : List Key) (k : Key) → KeyTold maps.Vlans earlier k (as_map maps.Vlan (number_or_name 1 MOST_VID k))
vlans_told earlier (key.Int z) = by (within 1 MOST_VID z) (within_told 1 MOST_VID z)
  where
    by : (o : Option ℕ) → WithinTold 1 MOST_VID z o → KeyTold maps.Vlans earlier (key.Int z) (as_map maps.Vlan (if_number o))
    by (Some n) w = ((n, w.0, w.1, w.2, refl), all_new earlier)
    by None w = out_of_range maps.Vlans earlier (key.Int z) tt (all_new earlier) (λ kind u. w (u.0, u.1, u.2, u.3))
vlans_told earlier (key.Text text) = by (is_name text) refl
  where
    by : (b : Bool) → is_name text ≡ b → KeyTold maps.Vlans earlier (key.Text text) (as_map maps.Vlan (if b then Ok None else Err OutOfRange))
    by true is = ((name_is text is, refl), all_new earlier)
    by false is = out_of_range maps.Vlans earlier (key.Text text) tt (all_new earlier) (λ kind u. name_not text is u.0)

pub key_told : (m : MapKind) (earlier : List Key) (k : Key) → KeyTold m earlier k (under_key m earlier k)
key_told maps.Datapaths earlier k = datapaths_told earlier k
key_told maps.Acls earlier k = acls_told earlier k
key_told maps.Routers earlier k = routers_told earlier k
key_told maps.Interfaces earlier k = interfaces_told earlier k
key_told maps.Vlans earlier k = vlans_told earlier k
key_told m earlier k = listed_told m tt earlier k

-- ---- a key takes one kind, and none where it is left out

line_takes_one : (m : MapKind) (k : Key) (a b : Kind) → HasLine m k a → HasLine m k b → a ≡ b
line_takes_one m (key.Int n) a b h g = absurd h.spelled
line_takes_one m (key.Text text) a b h g =
    let one = takes_line m h.at text h.listed h.spelled in
    let other = takes_line m g.at text g.listed g.spelled in
    let same : given (number_of m) (row_of m h.at h.listed).row.kind ≡ given (number_of m) (row_of m g.at g.listed).row.kind = cc (one, other) in
    h.is ∙ sym (kind_is m h.at h.listed) ∙ ap plain same ∙ kind_is m g.at g.listed ∙ sym g.is

numbered_takes_one : (low high : ℕ) (inner : Option ℕ → MapKind) (k : Key) (a b : Kind) → IsNumbered low high inner k a → IsNumbered low high inner k b → a ≡ b
numbered_takes_one low high inner (key.Int z) a b h g =
    let same : h.0 ≡ g.0 = let e = h.1 in let f = g.1 in cc in
    h.4 ∙ ap (λ n. kind_of.Map (inner (Some n))) same ∙ sym g.4
numbered_takes_one low high inner (key.Text text) a b h g = h.1 ∙ sym g.1

pub takes_one : (m : MapKind) (k : Key) (a b : Kind) → Under m k a → Under m k b → a ≡ b
takes_one maps.Datapaths k a b h g = h.1 ∙ sym g.1
takes_one maps.Acls k a b h g = h ∙ sym g
takes_one maps.Routers k a b h g = h ∙ sym g
takes_one maps.Interfaces k a b h g = numbered_takes_one 1 4294967040 maps.Interface k a b h g
takes_one maps.Vlans k a b h g = numbered_takes_one 1 4094 maps.Vlan k a b h g
takes_one m k a b h g = line_takes_one m k a b h g

line_or_left_out : (m : MapKind) (k : Key) (kind : Kind) → HasLine m k kind → IsLeftOut m k → ⊥
line_or_left_out m (key.Int n) kind h i = i
line_or_left_out m (key.Text text) kind h i =
    let taken = takes_line m h.at text h.listed h.spelled in
    let left : list_any (λ name. bytes_eq name text) (keys_of m).left_out ≡ true = in_any (λ name. bytes_eq name text) (keys_of m).left_out text (subst (λ names. IsOneOf names text) (sym (left_out_are m)) i) (text_same text text refl) in
    let refused : text_kind (keys_of m) (number_of m) [] text ≡ Err LeftOut = ap (λ (b : Bool). if b then Err LeftOut else row_kind (keys_of m) (number_of m) [] (row_at (canonical (keys_of m).spellings text) (keys_of m).rows)) left in
    absurd (cc (taken, refused))

pub taken_or_left_out : (m : MapKind) (k : Key) (kind : Kind) → Under m k kind → IsLeftOut m k → ⊥
taken_or_left_out maps.Datapaths (key.Text text) kind h i = i
taken_or_left_out maps.Datapaths (key.Int n) kind h i = i
taken_or_left_out maps.Acls (key.Text text) kind h i = i
taken_or_left_out maps.Acls (key.Int n) kind h i = i
taken_or_left_out maps.Routers (key.Text text) kind h i = i
taken_or_left_out maps.Routers (key.Int n) kind h i = i
taken_or_left_out maps.Interfaces (key.Text text) kind h i = i
taken_or_left_out maps.Interfaces (key.Int n) kind h i = i
taken_or_left_out maps.Vlans (key.Text text) kind h i = i
taken_or_left_out maps.Vlans (key.Int n) kind h i = i
taken_or_left_out m k kind h i = line_or_left_out m k kind h i

-- what is the same as another key takes a kind
pub same_takes : (m : MapKind) (j k : Key) → (HasNames m → ⊥) → AreSame m j k → (kind : Kind) × Under m k kind
same_takes maps.Datapaths j k names s = absurd (names tt)
same_takes maps.Acls j k names s = (kind_of.Maps maps.RuleItem, refl)
same_takes maps.Routers j k names s = (kind_of.Map maps.Router, refl)
same_takes maps.Interfaces j k names s = absurd s
same_takes maps.Vlans j k names s = absurd s
same_takes m j k names s = (own_kind (own_number m) (s.0).kind, record { at = s.0; listed = s.1; spelled = s.3; is = refl })

pub same_or_left_out : (m : MapKind) (j k : Key) → AreSame m j k → IsLeftOut m k → ⊥
same_or_left_out maps.Datapaths j (key.Text text) s i = i
same_or_left_out maps.Datapaths j (key.Int n) s i = i
same_or_left_out maps.Acls j (key.Text text) s i = i
same_or_left_out maps.Acls j (key.Int n) s i = i
same_or_left_out maps.Routers j (key.Text text) s i = i
same_or_left_out maps.Routers j (key.Int n) s i = i
same_or_left_out maps.Interfaces j k s i = s
same_or_left_out maps.Vlans j k s i = s
same_or_left_out m j k s i = line_or_left_out m k (own_kind (own_number m) (s.0).kind) (record { at = s.0; listed = s.1; spelled = s.3; is = refl }) i

pub names_or_left_out : (m : MapKind) (k : Key) → HasNames m → IsLeftOut m k → ⊥
names_or_left_out maps.Datapaths (key.Text text) names i = i
names_or_left_out maps.Datapaths (key.Int n) names i = i
names_or_left_out maps.Interfaces (key.Text text) names i = i
names_or_left_out maps.Interfaces (key.Int n) names i = i
names_or_left_out maps.Vlans (key.Text text) names i = i
names_or_left_out maps.Vlans (key.Int n) names i = i
names_or_left_out m k names i = names
