-- Flow lists and flow maps, which stand on one line.
use Rattle.std.specs.Prelude.{ℕ, zero, suc, Bool, true, false, ◌||◌, ◌&&◌, ◌==◌, if◌then◌else◌, List, [], ◌∷◌, ◌++◌, length, drop, Result, Ok, Err, not}
use Rattle.std.specs.List.{list_all}
use Rattle.yaml_subset.specs.declared.fault.YamlForm.TheVariants.{LongFlow}
use Rattle.yaml_subset.specs.declared.fault.YamlForm.TheVariants as form
use Rattle.yaml_subset.specs.declared.fault.YamlCause.{YamlCause}
use Rattle.yaml_subset.specs.declared.fault.YamlCause.TheVariants.{TooDeep, Tab, LeftOut, DuplicateKey, Syntax}
use Rattle.yaml_subset.specs.declared.scalars.Scanned.{Scanned}
use Rattle.yaml_tree.specs.declared.tree.Tree.{Tree}
use Rattle.yaml_tree.specs.declared.tree.Tree.TheVariants as tree
use Rattle.yaml_tree.specs.declared.tree.Key.{Key}
use Rattle.yaml_tree.specs.declared.tree.Pair.{Pair}
use Rattle.yaml_subset.specs.Characters.{is_empty, begins, skip, is_kept, marks, next_part, stray}
use Rattle.yaml_subset.specs.Scalars.{is_wide, scan, scalar_from, key_of}
use Rattle.yaml_subset.specs.Entries.{has_key}
use Rattle.yaml_subset.specs.Gives.{◌>>=◌}

abbrev pub at_opening : ℕ → List ℕ → Result (Bool × List ℕ) YamlCause
at_opening closing [] = Err (LeftOut LongFlow)
at_opening closing (c ∷ cs) = if c == closing then Ok (true, cs) else Ok (false, c ∷ cs)

-- behind an opening bracket or a comma: whether the closing bracket comes, and what follows
unfoldable pub opened : ℕ → List ℕ → Result (Bool × List ℕ) YamlCause
opened closing rest = next_part false rest >>= λ next. at_opening closing next

abbrev pub behind_item : ℕ → List ℕ → Result (Bool × List ℕ) YamlCause
behind_item closing [] = Err (LeftOut LongFlow)
behind_item closing (c ∷ cs) = if c == closing then Ok (true, cs) else if c == 44 then Ok (false, cs) else Err (stray (c ∷ cs))

-- behind an item: whether the closing bracket comes, or a comma, and what follows
unfoldable pub parted : ℕ → List ℕ → Result (Bool × List ℕ) YamlCause
parted closing rest = next_part false rest >>= λ next. behind_item closing next

-- behind a key the line ends, without a colon
abbrev pub line_ends : Scanned → List ℕ → Bool
line_ends s after = is_empty after || s.plain && (begins 35 (skip after) && list_all is_kept (skip after))

-- a colon and a tab stand behind a quoted scalar
abbrev pub colon_and_tab : Scanned → List ℕ → Bool
colon_and_tab s after = not s.plain && (begins 58 after && begins 9 (drop 1 after))

-- what is wrong where a colon has to stand
abbrev pub colon_fault : Bool → Scanned → List ℕ → YamlCause
colon_fault flow s after = if flow && line_ends s after then LeftOut LongFlow
    else if not s.plain && begins 9 after || colon_and_tab s after then Tab
    else Syntax

-- what is wrong with a scalar that has to be a key, where no colon follows
abbrev pub key_fault : Bool → Scanned → List ℕ → YamlCause
key_fault flow s after = if is_wide s then LeftOut form.Wide else colon_fault flow s after

-- a key behind these entries, and what follows its colon
unfoldable pub entry_key : Bool → List Pair → List ℕ → Result (Key × List ℕ) YamlCause
entry_key flow pairs rest = do
  s ← scan flow rest
  if marks 58 s.1 then (key_of s.0 >>= λ k. if has_key pairs k then Err DuplicateKey else Ok (k, drop 1 s.1))
      else Err (key_fault flow s.0 s.1)

-- the value of an entry, which may be nothing
unfoldable pub entry_value : (List ℕ → Result (Tree × List ℕ) YamlCause) → List ℕ → Result (Tree × List ℕ) YamlCause
entry_value value rest = do
  next ← next_part false rest
  if is_empty next then Err (LeftOut LongFlow)
      else if begins 44 next || begins 125 next then Ok (tree.Null, next)
      else value next

abbrev pub with_entry : List Pair → Key → Tree → List Pair
with_entry pairs k v = pairs ++ (record { key = k; value = v }) ∷ []

-- one step behind these items of a flow list: whether it is closed, its items then, and what follows
unfoldable pub list_step : (List ℕ → Result (Tree × List ℕ) YamlCause) → List Tree → List ℕ → Result (Bool × List Tree × List ℕ) YamlCause
list_step value items rest = do
  opening ← opened 93 rest
  if opening.0 then Ok (true, items, opening.1) else (do
    item ← value opening.1
    part ← parted 93 item.1
    Ok (part.0, items ++ item.0 ∷ [], part.1))

-- the items of a flow list behind these ones, in at most so many steps
unfoldable pub list_from : (List ℕ → Result (Tree × List ℕ) YamlCause) → ℕ → List Tree → List ℕ → Result (Tree × List ℕ) YamlCause
list_from value zero items rest = Err (LeftOut LongFlow)
list_from value (suc n) items rest = do
  step ← list_step value items rest
  if step.0 then Ok (tree.List step.1, step.2) else list_from value n step.1 step.2

-- one step behind these entries of a flow map
unfoldable pub map_step : (List ℕ → Result (Tree × List ℕ) YamlCause) → List Pair → List ℕ → Result (Bool × List Pair × List ℕ) YamlCause
map_step value pairs rest = do
  opening ← opened 125 rest
  if opening.0 then Ok (true, pairs, opening.1) else (do
    k ← entry_key true pairs opening.1
    v ← entry_value value k.1
    part ← parted 125 v.1
    Ok (part.0, with_entry pairs k.0 v.0, part.1))

-- the entries of a flow map behind these ones, in at most so many steps
unfoldable pub map_from : (List ℕ → Result (Tree × List ℕ) YamlCause) → ℕ → List Pair → List ℕ → Result (Tree × List ℕ) YamlCause
map_from value zero pairs rest = Err (LeftOut LongFlow)
map_from value (suc n) pairs rest = do
  step ← map_step value pairs rest
  if step.0 then Ok (tree.Map step.1, step.2) else map_from value n step.1 step.2

abbrev pub opens : List ℕ → Bool
opens rest = begins 91 rest || begins 123 rest

-- A value on one line, a flow list or map or what a scalar is; it nests at most so many lists and maps.
unfoldable pub flow_value : ℕ → List ℕ → Result (Tree × List ℕ) YamlCause
flow_value zero rest = if opens rest then Err TooDeep else scalar_from true rest
flow_value (suc n) rest = if opens rest
    then (if begins 91 rest then list_from (flow_value n) (length (drop 1 rest)) [] (drop 1 rest)
    else map_from (flow_value n) (length (drop 1 rest)) [] (drop 1 rest))
    else scalar_from true rest
