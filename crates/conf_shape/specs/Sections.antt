-- What stands under a key of a map, or what is wrong with the key.
use Rattle.std.specs.Prelude.{ℕ, Bool, true, false, not, ◌&&◌, if◌then◌else◌, List, [], ◌∷◌, map, codes, Option, Some, None, Result, Ok, Err}
use Rattle.std.specs.Fmt.{signed_decimal}
use Rattle.std.specs.List.{list_any}
use Rattle.std.specs.Str.{bytes_eq}
use Rattle.yaml_tree.specs.declared.tree.Key.{Key}
use Rattle.yaml_tree.specs.declared.tree.Key.TheVariants as key
use Rattle.yaml_tree.specs.declared.tree.Pair.{Pair}
use Rattle.conf_shape.specs.declared.refused.ConfCause.{ConfCause}
use Rattle.conf_shape.specs.declared.refused.ConfCause.TheVariants.{LeftOut, OutOfRange, Duplicate}
use Rattle.conf_shape.specs.declared.kinds.Kind.{Kind}
use Rattle.conf_shape.specs.declared.kinds.Kind.TheVariants.{One, Given, Map, Maps}
use Rattle.conf_shape.specs.declared.kinds.Scalar.TheVariants.{Number}
use Rattle.conf_shape.specs.declared.kinds.TheConstants.{MOST_VID, MOST_PORT_NO}
use Rattle.conf_shape.specs.declared.kinds.MapKind.{MapKind}
use Rattle.conf_shape.specs.declared.kinds.MapKind.TheVariants.{Datapaths, Datapath, Interfaces, Interface, Vlans, Vlan, Acls, RuleItem, Routers, Router}
use Rattle.conf_shape.specs.declared.kinds.Need.{Need}
use Rattle.conf_shape.specs.declared.kinds.Need.TheVariants.{Always, UnlessNumbered, UnlessBgp, Never}
use Rattle.conf_shape.specs.Keys.{KeyRow, Keys, keys_of}
use Rattle.conf_shape.specs.Scalars.{within, is_name}

abbrev pub map_keys : List Pair → List Key
map_keys pairs = map (λ pair. pair.key) pairs

-- the text of a key: a whole number stands for its digits
abbrev pub key_text : Key → List ℕ
key_text (key.Int n) = signed_decimal n
key_text (key.Text text) = text

-- whether the key is this text
abbrev pub is_key : List ℕ → Key → Bool
is_key name (key.Text text) = bytes_eq text name
is_key name (key.Int n) = false

-- ---- keys that the tables have

-- the key that a spelling is of
abbrev pub canonical : List (List ℕ × List ℕ) → List ℕ → List ℕ
canonical [] text = text
canonical (p ∷ ps) text = if bytes_eq p.0 text then p.1 else canonical ps text

abbrev pub row_at : List ℕ → List KeyRow → Option KeyRow
row_at name [] = None
row_at name (r ∷ rs) = if bytes_eq r.key name then Some r else row_at name rs

abbrev pub spells : List (List ℕ × List ℕ) → List ℕ → Key → Bool
spells spellings name (key.Text text) = bytes_eq (canonical spellings text) name
spells spellings name (key.Int n) = false

-- the number that the map's own key gives is the only one that it may give again
abbrev pub given : Option ℕ → Kind → Kind
given (Some n) (Given low high) = One (Number n n)
given _ kind = kind

-- the number that the map's own key gives
abbrev pub number_of : MapKind → Option ℕ
number_of (Interface number) = number
number_of (Vlan number) = number
number_of _ = None

abbrev pub row_kind : Keys → Option ℕ → List Key → Option KeyRow → Result Kind ConfCause
row_kind keys number earlier None = Err keys.unlisted
row_kind keys number earlier (Some r) = if list_any (spells keys.spellings r.key) earlier then Err Duplicate else Ok (given number r.kind)

abbrev pub text_kind : Keys → Option ℕ → List Key → List ℕ → Result Kind ConfCause
text_kind keys number earlier text =
    if list_any (λ name. bytes_eq name text) keys.left_out then Err LeftOut
    else row_kind keys number earlier (row_at (canonical keys.spellings text) keys.rows)

abbrev pub listed_kind : Keys → Option ℕ → List Key → Key → Result Kind ConfCause
listed_kind keys number earlier (key.Int n) = Err keys.unlisted
listed_kind keys number earlier (key.Text text) = text_kind keys number earlier text

-- ---- keys of the user's

abbrev pub has_text : List ℕ → Key → Bool
has_text text key = bytes_eq (key_text key) text

-- what stands under a name
abbrev pub named_kind : List ℕ → MapKind → Result Kind ConfCause
named_kind name Acls = Ok (Maps RuleItem)
named_kind name Routers = Ok (Map Router)
named_kind name _ = if is_name name then Ok (Map Datapath) else Err OutOfRange

-- a name is given once
abbrev pub named_once : MapKind → List Key → Key → Result Kind ConfCause
named_once m earlier key = if list_any (has_text (key_text key)) earlier then Err Duplicate else named_kind (key_text key) m

-- a whole number in a range, or a name
abbrev pub if_number : Option ℕ → Result (Option ℕ) ConfCause
if_number None = Err OutOfRange
if_number (Some n) = Ok (Some n)

abbrev pub number_or_name : ℕ → ℕ → Key → Result (Option ℕ) ConfCause
number_or_name low high (key.Int n) = if_number (within low high n)
number_or_name low high (key.Text text) = if is_name text then Ok None else Err OutOfRange

abbrev pub as_map : (Option ℕ → MapKind) → Result (Option ℕ) ConfCause → Result Kind ConfCause
as_map kind (Err cause) = Err cause
as_map kind (Ok number) = Ok (Map (kind number))

abbrev pub numbered : ℕ → ℕ → (Option ℕ → MapKind) → Key → Result Kind ConfCause
numbered low high kind key = as_map kind (number_or_name low high key)

-- what stands under a key, behind these keys of the map
abbrev pub under_key : MapKind → List Key → Key → Result Kind ConfCause
under_key Datapaths earlier key = named_once Datapaths earlier key
under_key Acls earlier key = named_once Acls earlier key
under_key Routers earlier key = named_once Routers earlier key
under_key Interfaces earlier key = numbered 1 MOST_PORT_NO Interface key
under_key Vlans earlier key = numbered 1 MOST_VID Vlan key
under_key m earlier key = listed_kind (keys_of m) (number_of m) earlier key

-- a key has to be there by its row, beside these keys
abbrev pub is_needed : Option ℕ → List Key → Need → Bool
is_needed number keys Always = true
is_needed None keys UnlessNumbered = true
is_needed (Some n) keys UnlessNumbered = false
is_needed number keys UnlessBgp = not (list_any (is_key (codes "bgp")) keys)
is_needed number keys Never = false

-- whether a key has to be there and isn't
abbrev pub lacks : Option ℕ → List Key → KeyRow → Bool
lacks number keys r = is_needed number keys r.need && not (list_any (is_key r.key) keys)
