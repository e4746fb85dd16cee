-- The faults of the tree of Gauge's file, in the order of the document. A place is the list of the keys and
-- the places in lists that lead there, the outermost first.
use Rattle.std.specs.Prelude.{◌≡◌, ℕ, ℤ, Bool, true, false, not, ◌&&◌, ◌||◌, ◌==◌, nat_lt, if◌then◌else◌, List, [], ◌∷◌, ◌++◌, length, Option, Some, None}
use Rattle.std.specs.List.{list_any, flat_map}
use Rattle.std.specs.Str.{bytes_eq}
use Rattle.yaml_tree.specs.declared.tree.Key.{Key}
use Rattle.yaml_tree.specs.declared.tree.Key.TheVariants as key
use Rattle.yaml_tree.specs.declared.tree.Pair.{Pair}
use Rattle.yaml_tree.specs.declared.tree.Tree.{Tree, out-Tree}
use Rattle.yaml_tree.specs.declared.tree.Tree.TheOpen.{Tree-F}
use Rattle.yaml_tree.specs.declared.tree.Tree.TheOpen as tree
use Rattle.conf_shape.specs.declared.refused.ConfCause.{ConfCause}
use Rattle.conf_shape.specs.declared.refused.ConfCause.TheVariants.{UnknownKey, LeftOut, Missing, WrongType, OutOfRange, BadText}
use Rattle.conf_shape.specs.declared.refused.ConfFault.{ConfFault}
use Rattle.conf_shape.specs.Scalars.{unless, within, if_within}
use Rattle.conf_shape.specs.Sections.{key_text, is_key, map_keys}
use Rattle.conf_rules.specs.Places.{fault, fault_if, fault_if_some, first, under, each_at}
use Rattle.gauge_conf.specs.declared.forms.Form.{Form}
use Rattle.gauge_conf.specs.declared.forms.Form.TheVariants.{Words, Texts, OneText, FileName, Word, Number, Only, Named}
use Rattle.gauge_conf.specs.declared.forms.Part.{Part}
use Rattle.gauge_conf.specs.declared.forms.Vocabulary.{Vocabulary}
use Rattle.gauge_conf.specs.Keys.{KeyRow, is_needed, row_at, top_keys, keys_of, words_of, left_out_of}

-- ---- a value that is no list and no map, by what it has to be

-- ASCII's control characters: below a space, and DEL
abbrev pub is_control : ℕ → Bool
is_control b = nat_lt b 32 || b == 127

abbrev pub is_listed : List ℕ → List (List ℕ) → Bool
is_listed text words = list_any (λ word. bytes_eq word text) words

abbrev pub word_cause : Vocabulary → List ℕ → Option ConfCause
word_cause v text =
    if is_listed text (words_of v) then None
    else if is_listed text (left_out_of v) then Some LeftOut
    else Some BadText

abbrev pub text_cause : Form → List ℕ → Option ConfCause
text_cause Words text = None
text_cause FileName text = unless (not (list_any is_control text)) BadText
text_cause (Word v) text = word_cause v text
text_cause _ text = Some WrongType

abbrev pub number_cause : Form → ℤ → Option ConfCause
number_cause (Number low high) n = if_within (within low high n)
number_cause _ n = Some WrongType

-- both hold, or neither
abbrev pub agree : Bool → Bool → Bool
agree true other = other
agree false other = not other

abbrev pub flag_cause : Form → Bool → Option ConfCause
flag_cause (Only wanted otherwise) flag = unless (agree wanted flag) otherwise
flag_cause _ flag = Some WrongType

-- ---- lists of texts

abbrev pub is_text_in : Tree-F Tree Pair → Bool
is_text_in (tree.Text text) = true
is_text_in _ = false

abbrev pub is_text : Tree → Bool
is_text t = is_text_in (out-Tree t)

abbrev pub item_faults : List (List ℕ) × Tree → List ConfFault
item_faults item = fault_if (not (is_text item.1)) WrongType item.0

abbrev pub texts_faults : List (List ℕ) → List Tree → List ConfFault
texts_faults site items = flat_map item_faults (each_at site items)

abbrev pub list_faults : Form → List (List ℕ) → List Tree → List ConfFault
list_faults Texts site items = texts_faults site items
list_faults OneText site items = if length items == 1 then texts_faults site items else fault OutOfRange site ∷ []
list_faults _ site items = fault WrongType site ∷ []

-- ---- a value that is no map

abbrev pub plain_in : Form → List (List ℕ) → Tree-F Tree Pair → List ConfFault
plain_in form site (tree.Bool flag) = fault_if_some (flag_cause form flag) site
plain_in form site (tree.Int n) = fault_if_some (number_cause form n) site
plain_in form site (tree.Text text) = fault_if_some (text_cause form text) site
plain_in form site (tree.List items) = list_faults form site items
plain_in form site _ = fault WrongType site ∷ []

abbrev pub plain_faults : Form → List (List ℕ) → Tree → List ConfFault
plain_faults form site t = plain_in form site (out-Tree t)

-- ---- maps

-- what is wrong with a value at a place, by what it has to be
abbrev pub Faults : Type 0
Faults = Form → List (List ℕ) → Tree → List ConfFault

abbrev pub row_of : List KeyRow → Key → Option KeyRow
row_of rows (key.Text name) = row_at name rows
row_of rows (key.Int n) = None

abbrev pub under_row : Faults → List (List ℕ) → Tree → Option KeyRow → List ConfFault
under_row value site t None = fault UnknownKey site ∷ []
under_row value site t (Some r) = value r.form site t

abbrev pub entry_faults : Faults → List KeyRow → List (List ℕ) → Pair → List ConfFault
entry_faults value rows site p = under_row value (under site (key_text p.key)) p.value (row_of rows p.key)

-- a key that has to be there and isn't
abbrev pub lacks : List Pair → KeyRow → Bool
lacks pairs r = is_needed pairs r.need && not (list_any (is_key r.key) (map_keys pairs))

abbrev pub missing : List KeyRow → List (List ℕ) → List Pair → List ConfFault
missing rows site pairs = flat_map (λ r. fault_if (lacks pairs r) Missing (under site r.key)) rows

-- the entries in their order, and then what is missing
abbrev pub map_faults : Faults → List KeyRow → List (List ℕ) → List Pair → List ConfFault
map_faults value rows site pairs = flat_map (entry_faults value rows site) pairs ++ missing rows site pairs

abbrev pub part_in : Part → List (List ℕ) → Tree-F Tree Pair → List ConfFault
part_in part site (tree.Map pairs) = map_faults plain_faults (keys_of part) site pairs
part_in part site _ = fault WrongType site ∷ []

abbrev pub part_faults : Part → List (List ℕ) → Tree → List ConfFault
part_faults part site t = part_in part site (out-Tree t)

-- each name is a text
abbrev pub named_entry : Part → List (List ℕ) → Tree → Key → List ConfFault
named_entry part site t (key.Text name) = part_faults part (under site name) t
named_entry part site t (key.Int n) = fault UnknownKey (under site (key_text (key.Int n))) ∷ []

abbrev pub named_in : Part → List (List ℕ) → Tree-F Tree Pair → List ConfFault
named_in part site (tree.Map pairs) = flat_map (λ p. named_entry part site p.value p.key) pairs
named_in part site _ = fault WrongType site ∷ []

abbrev pub value_faults : Faults
value_faults (Named part) site t = named_in part site (out-Tree t)
value_faults form site t = plain_faults form site t

-- ---- the document: nothing at all is a map with no entry

abbrev pub document_in : Tree-F Tree Pair → List ConfFault
document_in tree.Null = map_faults value_faults top_keys [] []
document_in (tree.Map pairs) = map_faults value_faults top_keys [] pairs
document_in _ = fault WrongType [] ∷ []

unfoldable pub faults_of : Tree → List ConfFault
faults_of t = document_in (out-Tree t)

unfoldable pub first_fault : Tree → Option ConfFault
first_fault t = first (faults_of t)
