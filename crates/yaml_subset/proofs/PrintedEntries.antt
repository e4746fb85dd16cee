-- What one printed line gives: an item of a list, or an entry of a map, with its value or without one.
use Rattle.std.proofs.Common.{◌≡◌, ℕ, zero, suc, ◌+◌, ◌-◌, ◌<◌, ◌≤◌, Bool, true, false, ◌&&◌, not, List, [], ◌∷◌, ◌++◌, length, Some, None, Result, Ok, refl, sym, ◌∙◌, ap, arith, subst, append-nil}
use Rattle.std.specs.Prelude.{codes}
use Rattle.std.proofs.lemmas.Bool.{lt-leb}
use Rattle.yaml_subset.specs.declared.blocks.Place.{Place}
use Rattle.yaml_subset.specs.declared.blocks.Place.TheVariants.{Item}
use Rattle.yaml_subset.specs.declared.blocks.State.{State}
use Rattle.yaml_subset.specs.declared.blocks.State.TheVariants.{Blocks}
use Rattle.yaml_subset.specs.declared.fault.YamlCause.{YamlCause}
use Rattle.yaml_subset.specs.declared.stack.Frame.{Frame}
use Rattle.yaml_tree.specs.declared.tree.Tree.{Tree}
use Rattle.yaml_tree.specs.declared.tree.Tree.TheVariants as tree
use Rattle.yaml_tree.specs.declared.tree.Key.{Key}
use Rattle.yaml_tree.specs.declared.tree.Pair.{Pair}
use Rattle.yaml_subset.specs.Characters.{at_gap, marks, next_part, line_end}
use Rattle.yaml_subset.specs.Scalars.{scan, value_at, scalar_from}
use Rattle.yaml_subset.specs.Entries.{has_key}
use Rattle.yaml_subset.specs.Flow.{entry_key, opens, flow_value, list_step, list_from, map_step, map_from, opened}
use Rattle.yaml_subset.specs.Blocks.{map_frame, levels_in, line_value, block_value, behind_colon, value_alone, scalar_alone, first_key, key_or_value, behind_dash, content, is_marker}
use Rattle.yaml_subset.specs.Levels.{levels}
use Rattle.yaml_subset.proofs.TreeLevels.{levels_list, levels_map}
use Rattle.yaml_subset.proofs.BlockLaws.{content_value}
use Rattle.yaml_subset.proofs.PrintedPlain.{told_apart}
use Rattle.yaml_subset.proofs.PrintedLines.{utf8_from}
use Rattle.yaml_subset.proofs.PrintedScalars.{can_start, IsScalar, IsKey, key_read}
use Rattle.yaml_subset.proofs.PrintedStates.{can_begin, IsInline, starts_begins}

no_bracket : (c : ℕ) (cs : List ℕ) → can_start c ≡ true → opens (c ∷ cs) ≡ false
no_bracket c cs h = rw (told_apart can_start c 91 h refl, told_apart can_start c 123 h refl) refl

no_opening : (text : List ℕ) (v : Tree) (s : IsScalar text v) (after : List ℕ) → opens (text ++ after) ≡ false
no_opening text v s after = rw s.is (no_bracket s.head (s.tail ++ after) s.start)

ended : (v : Tree) → line_value (v, []) ≡ Ok v
unfolding line_end next_part
ended v = refl

no_tab : (b : Bool) → (not b && (false && false)) ≡ false
no_tab true = refl
no_tab false = refl

alone_is : (text : List ℕ) (v : Tree) (s : IsScalar text v) → scalar_alone s.scanned [] ≡ Ok v
unfolding scalar_alone value_at
alone_is text v s = rw (no_tab s.scanned.plain, s.value) (ended v)

scan_all : (text : List ℕ) (v : Tree) (s : IsScalar text v) → scan false text ≡ Ok (s.scanned, [])
scan_all text v s = subst (λ (l : List ℕ). scan false l ≡ Ok (s.scanned, [])) (append-nil text) (s.scans [] refl)

opens_not : (text : List ℕ) (v : Tree) (s : IsScalar text v) → opens text ≡ false
opens_not text v s = subst (λ (l : List ℕ). opens l ≡ false) (append-nil text) (no_opening text v s [])

scalar_at : (text : List ℕ) (v : Tree) (s : IsScalar text v) (place : Place) (frames : List Frame) (column : ℕ) → key_or_value place frames column text ≡ value_alone place frames column v
unfolding key_or_value
scalar_at text v s place frames column = rw (opens_not text v s, scan_all text v s, alone_is text v s) refl

scalar_behind : (text : List ℕ) (v : Tree) (s : IsScalar text v) (n : ℕ) → block_value n text ≡ Ok v
unfolding block_value scalar_from value_at
scalar_behind text v s n = rw (opens_not text v s, scan_all text v s, s.value) (ended v)

pub inline_scalar : (text : List ℕ) (v : Tree) → IsScalar text v → IsInline text v
inline_scalar text v s = record {
  head = s.head;
  tail = s.tail;
  is = s.is;
  begins_line = starts_begins s.head s.start;
  no_dash = subst (λ (l : List ℕ). marks 45 l ≡ false) (append-nil text) (s.no_dash []);
  no_marker = subst (λ (l : List ℕ). is_marker 45 l ≡ false) (append-nil text) (s.no_marker []);
  alone = λ place frames column l. scalar_at text v s place frames column;
  behind = λ n l. scalar_behind text v s n;
  rows = s.rows;
  utf8 = s.utf8;
}

empty_list : (n : ℕ) → 1 ≤ n → flow_value n (codes "[]") ≡ Ok (tree.List [], [])
unfolding flow_value list_from list_step opened next_part
empty_list zero l = absurd (omega arith)
empty_list (suc n) l = refl

empty_map : (n : ℕ) → 1 ≤ n → flow_value n (codes "{}") ≡ Ok (tree.Map [], [])
unfolding flow_value map_from map_step opened next_part
empty_map zero l = absurd (omega arith)
empty_map (suc n) l = refl

one_level_list : (n : ℕ) → levels (tree.List []) ≤ n → 1 ≤ n
one_level_list n l = omega (arith, levels_list [])

one_level_map : (n : ℕ) → levels (tree.Map []) ≤ n → 1 ≤ n
one_level_map n l = omega (arith, levels_map [])

pub inline_list : IsInline (codes "[]") (tree.List [])
unfolding key_or_value block_value
inline_list = record {
  head = 91;
  tail = codes "]";
  is = refl;
  begins_line = refl;
  no_dash = refl;
  no_marker = refl;
  alone = λ place frames column l. rw (empty_list (levels_in frames) (one_level_list (levels_in frames) l), ended (tree.List [])) refl;
  behind = λ n l. rw (empty_list n (one_level_list n l)) (ended (tree.List []));
  rows = refl;
  utf8 = utf8_from (codes "[]") refl;
}

pub inline_map : IsInline (codes "{}") (tree.Map [])
unfolding key_or_value block_value
inline_map = record {
  head = 123;
  tail = codes "}";
  is = refl;
  begins_line = refl;
  no_dash = refl;
  no_marker = refl;
  alone = λ place frames column l. rw (empty_map (levels_in frames) (one_level_map (levels_in frames) l), ended (tree.Map [])) refl;
  behind = λ n l. rw (empty_map n (one_level_map n l)) (ended (tree.Map []));
  rows = refl;
  utf8 = utf8_from (codes "{}") refl;
}

-- behind a hyphen or a colon, the value's text is the next part of the line
part_is : (text : List ℕ) (v : Tree) (i : IsInline text v) → next_part false (32 ∷ text) ≡ Ok (i.head ∷ i.tail)
unfolding next_part
part_is text v i = rw (i.is, told_apart can_begin i.head 32 i.begins_line refl, told_apart can_begin i.head 35 i.begins_line refl) refl

pub dash_none : (more : List Frame → ℕ → List ℕ → Result State YamlCause) (frames : List Frame) (k : ℕ) → behind_dash more frames k (45 ∷ []) ≡ Ok (Blocks frames None)
unfolding next_part
dash_none more frames k = refl

pub dash_some : (n : ℕ) (frames : List Frame) (k : ℕ) (text : List ℕ) (v : Tree) → IsInline text v → levels v ≤ levels_in frames
    → behind_dash (content n Item) frames k (45 ∷ 32 ∷ text) ≡ Ok (Blocks frames (Some v))
dash_some n frames k text v i l =
    let column : ℕ = k + (length (45 ∷ 32 ∷ text) - length (i.head ∷ i.tail)) in
    let same : i.head ∷ i.tail ≡ text = sym i.is in
    rw (part_is text v i) (ap (λ (t : List ℕ). content n Item frames column t) same ∙ content_value n Item frames column text i.no_dash ∙ i.alone Item frames column l)

pub colon_none : (frames : List Frame) → behind_colon frames [] ≡ Ok (Blocks frames None)
unfolding behind_colon next_part
colon_none frames = refl

pub colon_some : (frames : List Frame) (text : List ℕ) (v : Tree) → IsInline text v → levels v ≤ levels_in frames → behind_colon frames (32 ∷ text) ≡ Ok (Blocks frames (Some v))
unfolding behind_colon
colon_some frames text v i l =
    let same : i.head ∷ i.tail ≡ text = sym i.is in
    rw (part_is text v i, same, i.behind (levels_in frames) l) refl

-- the first key of a map
pub first_key_read : (place : Place) (frames : List Frame) (k : ℕ) (text : List ℕ) (key : Key) (rest : List ℕ) → IsKey text key → length frames < 32 → at_gap rest ≡ true
    → key_or_value place frames k (text ++ 58 ∷ rest) ≡ behind_colon (map_frame k [] key ∷ frames) rest
unfolding key_or_value first_key
first_key_read place frames k text key rest i l g =
    rw (no_opening text i.value i.scalar (58 ∷ rest), i.scalar.scans (58 ∷ rest) g, g, lt-leb 32 (length frames) l, key_read text key i) refl

-- any later one
pub next_key_read : (pairs : List Pair) (text : List ℕ) (key : Key) (rest : List ℕ) → IsKey text key → has_key pairs key ≡ false → at_gap rest ≡ true
    → entry_key false pairs (text ++ 58 ∷ rest) ≡ Ok (key, rest)
unfolding entry_key
next_key_read pairs text key rest i h g = rw (i.scalar.scans (58 ∷ rest) g, g, key_read text key i, h) refl
