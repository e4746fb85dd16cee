-- What is said of a tree, by what it is made of.
use Rattle.std.proofs.Common.{◌≡◌, ℕ, ℤ, true, false, Bool, ◌&&◌, not, List, [], ◌∷◌, ◌++◌, Some, None, refl, sym, ap, ◌∙◌, inl, inr, ◌⊎◌, subst}
use Rattle.std.specs.Prelude.{map, codes}
use Rattle.std.specs.Fmt.{signed_decimal}
use Rattle.std.specs.Str.{is_utf8}
use Rattle.std.proofs.lemmas.Bool.{and_parts, not-true}
use Rattle.yaml_tree.specs.declared.tree.Tree.{Tree, out-Tree, roll-Tree, roll-out-Tree}
use Rattle.yaml_tree.specs.declared.tree.Tree.TheVariants as trees
use Rattle.yaml_tree.specs.declared.tree.Key.{Key}
use Rattle.yaml_tree.specs.declared.tree.Pair.{Pair}
use Rattle.yaml_tree.specs.declared.tree.Tree.TheOpen.{Tree-F}
use Rattle.yaml_tree.specs.declared.tree.Tree.TheOpen as open_tree
use Rattle.yaml_tree.specs.declared.tree.Tree.TheFolds.{fold-roll-Tree, fold_out-Pair}
use Rattle.yaml_subset.specs.Entries.{has_key}
use Rattle.yaml_subset.specs.Printed.{Piece, on_line, text_scalar, tree_step, pair_step, piece_of}
use Rattle.yaml_subset.specs.ReadBack.{is_i128, is_key, is_among, entries_sound, all_sound, sound_step, sound_pair, is_sound, entry_sound}
use Rattle.yaml_subset.proofs.Pieces.{piece_list, piece_map, list_inline, map_inline}
use Rattle.yaml_subset.proofs.PrintedScalars.{null_is, true_is, false_is, int_is, text_is}
use Rattle.yaml_subset.proofs.PrintedStates.{IsInline}
use Rattle.yaml_subset.proofs.PrintedEntries.{inline_scalar, inline_list, inline_map}

pub sound_list : (items : List Tree) → is_sound (trees.List items) ≡ all_sound (map is_sound items)
sound_list items = ap is_sound (sym (trees.rolls-List items)) ∙ fold-roll-Tree Bool (Key × Bool) sound_step sound_pair (open_tree.List items)

pub sound_map : (pairs : List Pair) → is_sound (trees.Map pairs) ≡ entries_sound [] (map entry_sound pairs)
sound_map pairs = ap is_sound (sym (trees.rolls-Map pairs)) ∙ fold-roll-Tree Bool (Key × Bool) sound_step sound_pair (open_tree.Map pairs)

pub sound_entry : (pair : Pair) → entry_sound pair ≡ (pair.key, is_sound pair.value)
sound_entry pair = fold_out-Pair Bool (Key × Bool) sound_step sound_pair pair

pub sound_int : (n : ℤ) → is_sound (trees.Int n) ≡ is_i128 n
sound_int n = ap is_sound (sym (trees.rolls-Int n)) ∙ fold-roll-Tree Bool (Key × Bool) sound_step sound_pair (open_tree.Int n)

pub sound_text : (text : List ℕ) → is_sound (trees.Text text) ≡ is_utf8 text
sound_text text = ap is_sound (sym (trees.rolls-Text text)) ∙ fold-roll-Tree Bool (Key × Bool) sound_step sound_pair (open_tree.Text text)

piece_null : piece_of trees.Null ≡ on_line (codes "null")
piece_null = ap piece_of (sym trees.rolls-Null) ∙ fold-roll-Tree Piece (List ℕ × Piece) tree_step pair_step open_tree.Null

piece_bool : (b : Bool) → piece_of (trees.Bool b) ≡ tree_step (open_tree.Bool b)
piece_bool b = ap piece_of (sym (trees.rolls-Bool b)) ∙ fold-roll-Tree Piece (List ℕ × Piece) tree_step pair_step (open_tree.Bool b)

piece_int : (n : ℤ) → piece_of (trees.Int n) ≡ on_line (signed_decimal n)
piece_int n = ap piece_of (sym (trees.rolls-Int n)) ∙ fold-roll-Tree Piece (List ℕ × Piece) tree_step pair_step (open_tree.Int n)

piece_text : (text : List ℕ) → piece_of (trees.Text text) ≡ on_line (text_scalar text)
piece_text text = ap piece_of (sym (trees.rolls-Text text)) ∙ fold-roll-Tree Piece (List ℕ × Piece) tree_step pair_step (open_tree.Text text)

-- the tree is printed on one line
pub record Inline (t : Tree) : Type 0 where
  pub text : List ℕ
  pub is : (piece_of t).inline ≡ Some text
  pub inline : IsInline text t

pub is_inline : (t : Tree) (text : List ℕ) → piece_of t ≡ on_line text → IsInline text t → Inline t
is_inline t text e i = record { text = text; is = ap (λ (p : Piece). p.inline) e; inline = i }

-- a fact of each kind of tree
pub record Kinds (P : Tree → Type 0) : Type 0 where
  pub null : P trees.Null
  pub bool : (b : Bool) → P (trees.Bool b)
  pub int : (n : ℤ) → P (trees.Int n)
  pub text : (text : List ℕ) → P (trees.Text text)
  pub list : (items : List Tree) → P (trees.List items)
  pub map : (pairs : List Pair) → P (trees.Map pairs)

at_layer : (P : Tree → Type 0) → Kinds P → (x : Tree-F Tree Pair) → P (roll-Tree x)
at_layer P k open_tree.Null = subst P (sym trees.rolls-Null) k.null
at_layer P k (open_tree.Bool b) = subst P (sym (trees.rolls-Bool b)) (k.bool b)
at_layer P k (open_tree.Int n) = subst P (sym (trees.rolls-Int n)) (k.int n)
at_layer P k (open_tree.Text text) = subst P (sym (trees.rolls-Text text)) (k.text text)
at_layer P k (open_tree.List items) = subst P (sym (trees.rolls-List items)) (k.list items)
at_layer P k (open_tree.Map pairs) = subst P (sym (trees.rolls-Map pairs)) (k.map pairs)

pub at_kind : (P : Tree → Type 0) → Kinds P → (t : Tree) → P t
at_kind P k t = subst P (roll-out-Tree t) (at_layer P k (out-Tree t))

no_block : (t : Tree) (text : List ℕ) → piece_of t ≡ on_line text → ¬ ((piece_of t).inline ≡ None)
no_block t text e n = let q : Some text ≡ None = sym (ap (λ (p : Piece). p.inline) e) ∙ n in absurd cc

bool_no_block : (b : Bool) → ¬ ((piece_of (trees.Bool b)).inline ≡ None)
bool_no_block true = no_block (trees.Bool true) (codes "true") (piece_bool true)
bool_no_block false = no_block (trees.Bool false) (codes "false") (piece_bool false)

-- a block is a list or a map that is not empty
pub at_block : (P : Tree → Type 0) → ((t : Tree) (ts : List Tree) → P (trees.List (t ∷ ts))) → ((p : Pair) (ps : List Pair) → P (trees.Map (p ∷ ps))) → (t : Tree) → (piece_of t).inline ≡ None → P t
at_block P list map = at_kind (λ t. (piece_of t).inline ≡ None → P t) (record {
  null = λ e. absurd (no_block trees.Null (codes "null") piece_null e);
  bool = λ b e. absurd (bool_no_block b e);
  int = λ n e. absurd (no_block (trees.Int n) (signed_decimal n) (piece_int n) e);
  text = λ text e. absurd (no_block (trees.Text text) (text_scalar text) (piece_text text) e);
  list = in_list;
  map = in_map;
})
  where
    in_list : (items : List Tree) → (piece_of (trees.List items)).inline ≡ None → P (trees.List items)
    in_list [] e = absurd (no_block (trees.List []) (codes "[]") (piece_list []) e)
    in_list (t ∷ ts) e = list t ts

    in_map : (pairs : List Pair) → (piece_of (trees.Map pairs)).inline ≡ None → P (trees.Map pairs)
    in_map [] e = absurd (no_block (trees.Map []) (codes "{}") (piece_map []) e)
    in_map (p ∷ ps) e = map p ps

abbrev pub Shape : Tree → Type 0
Shape t = Inline t ⊎ ((piece_of t).inline ≡ None)

bool_shape : (b : Bool) → Shape (trees.Bool b)
bool_shape true = inl (is_inline (trees.Bool true) (codes "true") (piece_bool true) (inline_scalar (codes "true") (trees.Bool true) true_is))
bool_shape false = inl (is_inline (trees.Bool false) (codes "false") (piece_bool false) (inline_scalar (codes "false") (trees.Bool false) false_is))

list_shape : (items : List Tree) → Shape (trees.List items)
list_shape [] = inl (is_inline (trees.List []) (codes "[]") (piece_list []) inline_list)
list_shape (x ∷ xs) = inr (list_inline (x ∷ xs) (λ e. absurd cc))

map_shape : (pairs : List Pair) → Shape (trees.Map pairs)
map_shape [] = inl (is_inline (trees.Map []) (codes "{}") (piece_map []) inline_map)
map_shape (x ∷ xs) = inr (map_inline (x ∷ xs) (λ e. absurd cc))

-- a tree is printed on one line or as a block
pub shape : (t : Tree) → is_sound t ≡ true → Shape t
shape = at_kind (λ t. is_sound t ≡ true → Shape t) (record {
  null = λ h. inl (is_inline trees.Null (codes "null") piece_null (inline_scalar (codes "null") trees.Null null_is));
  bool = λ b h. bool_shape b;
  int = λ n h. inl (is_inline (trees.Int n) (signed_decimal n) (piece_int n) (inline_scalar (signed_decimal n) (trees.Int n) (int_is n (sym (sound_int n) ∙ h))));
  text = λ text h. inl (is_inline (trees.Text text) (text_scalar text) (piece_text text) (inline_scalar (text_scalar text) (trees.Text text) (text_is text (sym (sound_text text) ∙ h))));
  list = λ items h. list_shape items;
  map = λ pairs h. map_shape pairs;
})

-- the next entry of a map, and those behind it
pub record SoundEntries (before : List Key) (p : Pair) (ps : List Pair) : Type 0 where
  pub key : is_key p.key ≡ true
  pub value : is_sound p.value ≡ true
  pub apart : is_among before p.key ≡ false
  pub more : entries_sound (before ++ p.key ∷ []) (map entry_sound ps) ≡ true

sound_parts : (before : List Key) (p : Pair) (ps : List Pair) (e : Key × Bool) → e ≡ (p.key, is_sound p.value) → entries_sound before (e ∷ map entry_sound ps) ≡ true → SoundEntries before p ps
sound_parts before p ps e q h =
    let h' = rw q at h in
    let a = and_parts (is_key p.key) (is_sound p.value && (not (is_among before p.key) && entries_sound (before ++ p.key ∷ []) (map entry_sound ps))) h' in
    let b = and_parts (is_sound p.value) (not (is_among before p.key) && entries_sound (before ++ p.key ∷ []) (map entry_sound ps)) a.1 in
    let c = and_parts (not (is_among before p.key)) (entries_sound (before ++ p.key ∷ []) (map entry_sound ps)) b.1 in
    record { key = a.0; value = b.0; apart = not-true (is_among before p.key) c.0; more = c.1 }

pub sound_entries : (before : List Key) (p : Pair) (ps : List Pair) → entries_sound before (map entry_sound (p ∷ ps)) ≡ true → SoundEntries before p ps
sound_entries before p ps h = sound_parts before p ps (entry_sound p) (sound_entry p) h

abbrev pub key_at : Pair → Key
key_at p = p.key

pub has_key_among : (pairs : List Pair) (k : Key) → has_key pairs k ≡ is_among (map key_at pairs) k
unfolding has_key
has_key_among [] k = refl
has_key_among (p ∷ ps) k = rw (has_key_among ps k) refl

pub keys_push : (pairs : List Pair) (p : Pair) → map key_at (pairs ++ p ∷ []) ≡ map key_at pairs ++ p.key ∷ []
keys_push [] p = refl
keys_push (q ∷ qs) p = ap (λ ks. q.key ∷ ks) (keys_push qs p)
