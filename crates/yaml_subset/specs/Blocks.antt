-- Block maps and block lists, line by line: what is open, innermost first, and what a line adds.
use Rattle.std.specs.Prelude.{ℕ, zero, suc, Bool, true, false, ◌||◌, ◌&&◌, not, nat_lt, nat_le, ◌==◌, ◌+◌, ◌-◌, if◌then◌else◌, List, [], ◌∷◌, ◌++◌, length, drop, Option, Some, None, unwrap_or, Result, Ok, Err}
use Rattle.yaml_subset.specs.declared.fault.YamlForm.TheVariants.{Directive, Documents}
use Rattle.yaml_subset.specs.declared.fault.YamlCause.{YamlCause}
use Rattle.yaml_subset.specs.declared.fault.YamlCause.TheVariants.{TooDeep, Tab, LeftOut, Indent, Syntax}
use Rattle.yaml_subset.specs.declared.scalars.Scanned.{Scanned}
use Rattle.yaml_subset.specs.declared.stack.Open.{Open}
use Rattle.yaml_subset.specs.declared.stack.Open.TheVariants as open_
use Rattle.yaml_subset.specs.declared.stack.Frame.{Frame}
use Rattle.yaml_subset.specs.declared.blocks.Place.{Place}
use Rattle.yaml_subset.specs.declared.blocks.Place.TheVariants.{Document, Deeper, Item}
use Rattle.yaml_subset.specs.declared.blocks.State.{State}
use Rattle.yaml_subset.specs.declared.blocks.State.TheVariants.{Start, Headed, Alone, Blocks}
use Rattle.yaml_tree.specs.declared.tree.Tree.{Tree}
use Rattle.yaml_tree.specs.declared.tree.Tree.TheVariants as tree
use Rattle.yaml_tree.specs.declared.tree.Key.{Key}
use Rattle.yaml_tree.specs.declared.tree.Pair.{Pair}
use Rattle.yaml_subset.specs.Characters.{is_empty, begins, at_gap, marks, next_part, stray, line_end, left_out, form_or}
use Rattle.yaml_subset.specs.Scalars.{scan, left_scalar, value_at, scalar_from, key_of}
use Rattle.yaml_subset.specs.Flow.{entry_key, with_entry, opens, flow_value, colon_and_tab}
use Rattle.yaml_subset.specs.Gives.{◌>>=◌}

abbrev pub list_frame : ℕ → List Tree → Frame
list_frame indent items = record { indent = indent; open_block = open_.List items }

abbrev pub map_frame : ℕ → List Pair → Key → Frame
map_frame indent pairs k = record { indent = indent; open_block = open_.Map pairs k }

-- a block with its last value
abbrev pub closed_open : Open → Tree → Tree
closed_open (open_.List items) v = tree.List (items ++ v ∷ [])
closed_open (open_.Map pairs k) v = tree.Map (with_entry pairs k v)

abbrev pub closed : Frame → Tree → Tree
closed f v = closed_open f.open_block v

abbrev pub is_list : Open → Bool
is_list (open_.List items) = true
is_list (open_.Map pairs k) = false

-- the innermost block has this indent
abbrev pub top_is : ℕ → List Frame → Bool
top_is indent [] = false
top_is indent (f ∷ fs) = f.indent == indent

-- a line at this indent ends the block: it stands less deep, or it is no item of a list at its key's indent
abbrev pub ends_block : ℕ → Bool → Frame → List Frame → Bool
ends_block indent item f fs = nat_lt indent f.indent || f.indent == indent && is_list f.open_block && not item && top_is indent fs

-- the blocks that go on at a line of this indent, and the last value of the innermost
unfoldable pub settle : ℕ → Bool → List Frame → Tree → List Frame × Tree
settle indent item [] v = ([], v)
settle indent item (f ∷ fs) v = if ends_block indent item f fs then settle indent item fs (closed f v) else (f ∷ fs, v)

-- the whole tree, with the innermost block's last value
unfoldable pub close_all : List Frame → Tree → Tree
close_all [] v = v
close_all (f ∷ fs) v = close_all fs (closed f v)

-- how many lists and maps may still be nested
abbrev pub levels_in : List Frame → ℕ
levels_in frames = 32 - length frames

abbrev pub line_value : Tree × List ℕ → Result Tree YamlCause
line_value read = line_end read.1 >>= λ _. Ok read.0

-- the value behind a key, on the key's line
unfoldable pub block_value : ℕ → List ℕ → Result Tree YamlCause
block_value levels rest = (if opens rest then flow_value levels rest else scalar_from false rest) >>= line_value

-- what follows the colon of a key
unfoldable pub behind_colon : List Frame → List ℕ → Result State YamlCause
behind_colon frames rest = do
  part ← next_part false rest
  if is_empty part then Ok (Blocks frames None)
      else (block_value (levels_in frames) part >>= λ v. Ok (Blocks frames (Some v)))

-- a value that is no key's and no block
abbrev pub value_alone : Place → List Frame → ℕ → Tree → Result State YamlCause
value_alone Document frames column v = Ok (Alone column v)
value_alone Deeper frames column v = Err Syntax
value_alone Item frames column v = Ok (Blocks frames (Some v))

-- a scalar behind which no colon follows
unfoldable pub scalar_alone : Scanned → List ℕ → Result Tree YamlCause
scalar_alone s after = if colon_and_tab s after then Err Tab
    else (value_at s after >>= λ v. line_value (v, after))

-- the first key of a map at this column
unfoldable pub first_key : List Frame → ℕ → Scanned → List ℕ → Result State YamlCause
first_key frames column s after = if nat_le 32 (length frames) then Err TooDeep
    else (key_of s >>= λ k. behind_colon (map_frame column [] k ∷ frames) (drop 1 after))

-- a map's first key, or a value
unfoldable pub key_or_value : Place → List Frame → ℕ → List ℕ → Result State YamlCause
key_or_value place frames column rest = if opens rest
    then (do
      read ← flow_value (levels_in frames) rest
      v ← line_value read
      value_alone place frames column v)
    else (do
      s ← scan false rest
      if marks 58 s.1 then first_key frames column s.0 s.1
          else (scalar_alone s.0 s.1 >>= λ v. value_alone place frames column v))

-- what follows the dash of an item, which goes on at its own column
abbrev pub behind_dash : (List Frame → ℕ → List ℕ → Result State YamlCause) → List Frame → ℕ → List ℕ → Result State YamlCause
behind_dash content frames column rest = next_part false (drop 1 rest) >>= λ part.
    if is_empty part then Ok (Blocks frames None) else content frames (column + (length rest - length part)) part

-- what begins at this column, where so many lists and maps may still be nested
unfoldable pub content : ℕ → Place → List Frame → ℕ → List ℕ → Result State YamlCause
content zero place frames column rest = if marks 45 rest then Err TooDeep else key_or_value place frames column rest
content (suc n) place frames column rest = if marks 45 rest
    then behind_dash (content n Item) (list_frame column [] ∷ frames) column rest
    else key_or_value place frames column rest

-- The cause at a line's first character, where nothing may begin: a tab, and what is left out where a value
-- or a key may begin, come first.
unfoldable pub misplaced : YamlCause → List ℕ → YamlCause
misplaced cause rest = if begins 9 rest then Tab else form_or (form_or cause (left_scalar (scan false rest))) (left_out rest)

-- what is wrong with a line of a list that is no item
abbrev pub no_item : List ℕ → YamlCause
no_item rest = if begins 45 rest then form_or (stray (drop 1 rest)) (left_scalar (scan false rest)) else misplaced Syntax rest

-- the next entry of an open block, behind its last value
abbrev pub next_entry : Open → List Frame → ℕ → Tree → List ℕ → Result State YamlCause
next_entry (open_.List items) frames indent v rest = if marks 45 rest
    then behind_dash (content (levels_in (list_frame indent (items ++ v ∷ []) ∷ frames)) Item) (list_frame indent (items ++ v ∷ []) ∷ frames) indent rest
    else Err (no_item rest)
next_entry (open_.Map pairs k) frames indent v rest = entry_key false (with_entry pairs k v) rest
    >>= λ entry. behind_colon (map_frame indent (with_entry pairs k v) entry.0 ∷ frames) entry.1

-- a line that begins no deeper block
unfoldable pub go_on : List Frame × Tree → ℕ → List ℕ → Result State YamlCause
go_on ([], v) indent rest = Err (misplaced Indent rest)
go_on (f ∷ fs, v) indent rest = if f.indent == indent then next_entry f.open_block fs indent v rest else Err (misplaced Indent rest)

-- A line begins a block under an entry that has no value yet: it stands deeper, or it is an item at the
-- indent of the entry's key.
abbrev pub takes_block : List Frame → ℕ → Bool → Bool
takes_block [] indent item = false
takes_block (f ∷ fs) indent item = nat_lt f.indent indent || f.indent == indent && not (is_list f.open_block) && item

abbrev pub begins_block : List Frame → Option Tree → ℕ → Bool → Bool
begins_block frames (Some v) indent item = false
begins_block frames None indent item = takes_block frames indent item

unfoldable pub in_blocks : List Frame → Option Tree → ℕ → List ℕ → Result State YamlCause
in_blocks frames slot indent rest = if begins_block frames slot indent (marks 45 rest)
    then content (levels_in frames) Deeper frames indent rest
    else go_on (settle indent (marks 45 rest) frames (unwrap_or slot tree.Null)) indent rest

-- three of these at the start of a line, and then a space or the line's end
abbrev pub is_marker : ℕ → List ℕ → Bool
is_marker c line = begins c line && begins c (drop 1 line) && begins c (drop 2 line) && at_gap (drop 3 line)

-- the first line that counts, where `---` may stand alone
unfoldable pub at_start : List ℕ → ℕ → List ℕ → Result State YamlCause
at_start line indent rest = if is_marker 45 line
    then (next_part false (drop 3 line) >>= λ part. if is_empty part then Ok Headed else content 32 Document [] indent rest)
    else content 32 Document [] indent rest

abbrev pub is_start : State → Bool
is_start Start = true
is_start _ = false

-- a line by what came before it
abbrev pub by_state : State → List ℕ → ℕ → List ℕ → Result State YamlCause
by_state Start line indent rest = at_start line indent rest
by_state Headed line indent rest = content 32 Document [] indent rest
by_state (Alone at v) line indent rest = Err (misplaced (if at == indent then Syntax else Indent) rest)
by_state (Blocks frames slot) line indent rest = in_blocks frames slot indent rest

-- a line that counts, with its indent and what follows that
unfoldable pub counted_line : State → List ℕ → ℕ → List ℕ → Result State YamlCause
counted_line state line indent rest = if begins 37 line then Err (LeftOut Directive)
    else if is_marker 46 line || is_marker 45 line && not (is_start state) then Err (LeftOut Documents)
    else by_state state line indent rest

-- one line more
unfoldable pub step : State → List ℕ → Result State YamlCause
step state line = do
  rest ← next_part true line
  if is_empty rest then Ok state else counted_line state line (length line - length rest) rest

-- the tree of the lines so far
abbrev pub finish : State → Tree
finish Start = tree.Null
finish Headed = tree.Null
finish (Alone at v) = v
finish (Blocks frames slot) = close_all frames (unwrap_or slot tree.Null)
