-- The canonical form in which trees are printed.
use Rattle.std.specs.Prelude.{ℕ, ◌/◌, ◌%◌, Bool, true, false, not, ◌&&◌, ◌||◌, List, [], ◌∷◌, ◌++◌, Option, Some, None, ◌==◌, if◌then◌else◌, codes}
use Rattle.std.specs.Char.{is_ascii_alphabetic, is_ascii_alphanumeric, is_ascii_control, digit_char}
use Rattle.std.specs.Fmt.{signed_decimal}
use Rattle.std.specs.List.{list_all}
use Rattle.std.specs.Str.{bytes_eq}
use Rattle.yaml_tree.specs.declared.tree.Key.{Key}
use Rattle.yaml_tree.specs.declared.tree.Key.TheVariants as keys
use Rattle.yaml_tree.specs.declared.tree.Tree.{Tree}
use Rattle.yaml_tree.specs.declared.tree.Pair.{Pair}
use Rattle.yaml_tree.specs.declared.tree.Tree.TheOpen.{Tree-F, Pair-F}
use Rattle.yaml_tree.specs.declared.tree.Tree.TheOpen as tree
use Rattle.yaml_tree.specs.declared.tree.Tree.TheFolds.{fold-Tree, fold-Pair}

-- a character between double quotes
abbrev pub escaped : ℕ → List ℕ
escaped b =
    if b == 92 then codes "\\\\"
    else if b == 34 then codes "\\\""
    else if b == 10 then codes "\\n"
    else if b == 9 then codes "\\t"
    else if b == 13 then codes "\\r"
    else if is_ascii_control b then codes "\\u00" ++ digit_char (b / 16) ∷ digit_char (b % 16) ∷ []
    else b ∷ []

abbrev pub all_escaped : List ℕ → List ℕ
all_escaped [] = []
all_escaped (b ∷ bs) = escaped b ++ all_escaped bs

-- letters, digits, `_`, `-`, `.` and `/`
abbrev pub is_plain_byte : ℕ → Bool
is_plain_byte b = is_ascii_alphanumeric b || (b == 95 || (b == 45 || (b == 46 || b == 47)))

abbrev pub begins_with_letter : List ℕ → Bool
begins_with_letter [] = false
begins_with_letter (b ∷ bs) = is_ascii_alphabetic b

-- the words for Null and Bool
abbrev pub is_bool_word : List ℕ → Bool
is_bool_word text = bytes_eq text (codes "true") || (bytes_eq text (codes "True") || (bytes_eq text (codes "TRUE") || (bytes_eq text (codes "false") || (bytes_eq text (codes "False") || bytes_eq text (codes "FALSE")))))

abbrev pub is_word_of_its_own : List ℕ → Bool
is_word_of_its_own text = bytes_eq text (codes "null") || is_bool_word text

abbrev pub stays_plain : List ℕ → Bool
stays_plain text = begins_with_letter text && (list_all is_plain_byte text && not (is_word_of_its_own text))

unfoldable pub text_scalar : List ℕ → List ℕ
text_scalar text = if stays_plain text then text else 34 ∷ (all_escaped text ++ 34 ∷ [])

abbrev pub key_scalar : Key → List ℕ
key_scalar (keys.Int n) = signed_decimal n
key_scalar (keys.Text text) = text_scalar text

-- what is printed of a tree: a scalar on the line of its key, or lines below at an indent
pub record Piece : Type 0 where
  pub inline : Option (List ℕ)
  pub lines : List ℕ → List ℕ

abbrev pub on_line : List ℕ → Piece
on_line scalar = record { inline = Some scalar; lines = λ indent. [] }

abbrev pub scalar_or_lines : Option (List ℕ) → List ℕ → List ℕ
scalar_or_lines (Some scalar) lines = 32 ∷ (scalar ++ 10 ∷ [])
scalar_or_lines None lines = 10 ∷ lines

-- what stands behind a colon or a hyphen of a block at this indent
abbrev pub behind_mark : Piece → List ℕ → List ℕ
behind_mark piece indent = scalar_or_lines piece.inline (piece.lines (indent ++ codes "  "))

abbrev pub item_lines : List ℕ → List Piece → List ℕ
item_lines indent [] = []
item_lines indent (piece ∷ pieces) = (indent ++ 45 ∷ behind_mark piece indent) ++ item_lines indent pieces

abbrev pub pair_lines : List ℕ → List (List ℕ × Piece) → List ℕ
pair_lines indent [] = []
pair_lines indent (pair ∷ pairs) = (indent ++ (pair.0 ++ 58 ∷ behind_mark pair.1 indent)) ++ pair_lines indent pairs

abbrev pub list_piece : List Piece → Piece
list_piece [] = on_line (codes "[]")
list_piece (piece ∷ pieces) = record { inline = None; lines = λ indent. item_lines indent (piece ∷ pieces) }

abbrev pub map_piece : List (List ℕ × Piece) → Piece
map_piece [] = on_line (codes "{}")
map_piece (pair ∷ pairs) = record { inline = None; lines = λ indent. pair_lines indent (pair ∷ pairs) }

abbrev pub tree_step : Tree-F Piece (List ℕ × Piece) → Piece
tree_step tree.Null = on_line (codes "null")
tree_step (tree.Bool true) = on_line (codes "true")
tree_step (tree.Bool false) = on_line (codes "false")
tree_step (tree.Int n) = on_line (signed_decimal n)
tree_step (tree.Text text) = on_line (text_scalar text)
tree_step (tree.List items) = list_piece items
tree_step (tree.Map pairs) = map_piece pairs

abbrev pub pair_step : Pair-F Piece (List ℕ × Piece) → List ℕ × Piece
pair_step pair = (key_scalar pair.key, pair.value)

abbrev pub piece_of : Tree → Piece
piece_of = fold-Tree Piece (List ℕ × Piece) tree_step pair_step

abbrev pub pair_piece : Pair → List ℕ × Piece
pair_piece = fold-Pair Piece (List ℕ × Piece) tree_step pair_step

-- a document: a scalar on a line, or the lines of the outermost block
abbrev pub document : Piece → Option (List ℕ) → List ℕ
document piece (Some scalar) = scalar ++ 10 ∷ []
document piece None = piece.lines []

abbrev pub printed : Tree → List ℕ
printed tree = document (piece_of tree) (piece_of tree).inline
