-- What one printed line makes of the blocks that are open.
use Rattle.std.proofs.Common.{◌≡◌, ℕ, suc, ◌+◌, ◌-◌, ◌<◌, ◌≤◌, ◌==◌, nat_lt, Bool, true, false, ◌&&◌, not, List, [], ◌∷◌, ◌++◌, length, Some, None, Ok, refl, ◌∙◌, ap, arith, length-append, lt-ltb, le-ltb, eq-eqb}
use Rattle.std.specs.List.{list_all}
use Rattle.std.specs.Str.{IsUtf8}
use Rattle.std.specs.Str.Lines.{lines}
use Rattle.std.proofs.lemmas.Bool.{and_parts}
use Rattle.std.proofs.lemmas.Bool.Decides.{nat_tests}
use Rattle.yaml_subset.specs.declared.blocks.Place.{Place}
use Rattle.yaml_subset.specs.declared.blocks.Place.TheVariants.{Document, Deeper, Item}
use Rattle.yaml_subset.specs.declared.blocks.State.{State}
use Rattle.yaml_subset.specs.declared.blocks.State.TheVariants.{Start, Blocks}
use Rattle.yaml_subset.specs.declared.stack.Frame.{Frame}
use Rattle.yaml_tree.specs.declared.tree.Tree.{Tree}
use Rattle.yaml_tree.specs.declared.tree.Key.{Key}
use Rattle.yaml_tree.specs.declared.tree.Pair.{Pair}
use Rattle.yaml_subset.specs.Characters.{begins, skip, marks, next_part}
use Rattle.yaml_subset.specs.Flow.{entry_key, with_entry}
use Rattle.yaml_subset.specs.Blocks.{list_frame, map_frame, closed, settle, close_all, levels_in, block_value, behind_colon, value_alone, key_or_value, behind_dash, content, go_on, in_blocks, is_marker, at_start, by_state, counted_line, step, finish}
use Rattle.yaml_subset.specs.Gives.{◌>>=◌}
use Rattle.yaml_subset.specs.Reading.{lines_from}
use Rattle.yaml_subset.specs.Levels.{levels}
use Rattle.yaml_subset.proofs.PrintedPlain.{told_apart}
use Rattle.yaml_subset.proofs.PrintedLines.{is_row_byte, lines_row}
use Rattle.yaml_subset.proofs.PrintedScalars.{can_start}

-- from this state the text leads to this tree
pub record Leads (s : State) (text : List ℕ) (t : Tree) : Type 0 where
  pub leads : (n : ℕ) → lines_from n s (lines text) ≡ Ok t

pub row_leads : (s next : State) (row back : List ℕ) (t : Tree) → list_all is_row_byte row ≡ true → step s row ≡ Ok next → Leads next back t → Leads s (row ++ 10 ∷ back) t
unfolding lines_from
row_leads s next row back t h e l = record { leads = λ n. ap (λ ls. lines_from n s ls) (lines_row row back h) ∙ rw e (l.leads (n + 1)) }

pub end_leads : (s : State) → Leads s [] (finish s)
unfolding lines_from
end_leads s = record { leads = λ n. refl }

-- spaces alone
abbrev pub is_space : ℕ → Bool
is_space c = c == 32

abbrev pub all_spaces : List ℕ → Bool
all_spaces bs = list_all is_space bs

skip_spaces : (bs rest : List ℕ) → all_spaces bs ≡ true → skip (bs ++ rest) ≡ skip rest
skip_spaces [] rest h = refl
skip_spaces (b ∷ bs) rest h = let parts = and_parts (is_space b) (all_spaces bs) h in rw parts.0 (skip_spaces bs rest parts.1)

-- what a printed line may begin with behind its indent
abbrev pub can_begin : ℕ → Bool
can_begin c = not (c == 32) && (not (c == 35) && (not (c == 37) && not (c == 46)))

line_begins : (k : ℕ) (bs : List ℕ) (c : ℕ) (cs : List ℕ) → all_spaces bs ≡ true → (32 == k) ≡ false → (c == k) ≡ false → begins k (bs ++ c ∷ cs) ≡ false
line_begins k [] c cs h e f = f
line_begins k (b ∷ bs) c cs h e f =
    let parts = and_parts (is_space b) (all_spaces bs) h in
    told_apart is_space b k parts.0 (space_no k e)
  where
    space_no : (k : ℕ) → (32 == k) ≡ false → (k == 32) ≡ false
    space_no k e = grind (arith, nat_tests)

pub no_marker_line : (bs : List ℕ) (c : ℕ) (cs : List ℕ) → all_spaces bs ≡ true → is_marker 45 (c ∷ cs) ≡ false → is_marker 45 (bs ++ c ∷ cs) ≡ false
no_marker_line [] c cs h e = e
no_marker_line (b ∷ bs) c cs h e =
    let parts = and_parts (is_space b) (all_spaces bs) h in
    rw (told_apart is_space b 45 parts.0 refl) refl

indent_is : (bs rest : List ℕ) → length (bs ++ rest) - length rest ≡ length bs
indent_is bs rest = omega (arith, length-append bs rest)

pub line_step : (s : State) (bs : List ℕ) (c : ℕ) (cs : List ℕ) → all_spaces bs ≡ true → can_begin c ≡ true → is_marker 45 (c ∷ cs) ≡ false
    → step s (bs ++ c ∷ cs) ≡ by_state s (bs ++ c ∷ cs) (length bs) (c ∷ cs)
unfolding step next_part counted_line
line_step s bs c cs h b m =
    let e32 = told_apart can_begin c 32 b refl in
    let k : skip (bs ++ c ∷ cs) ≡ c ∷ cs = skip_spaces bs (c ∷ cs) h ∙ rw e32 refl in
    rw (
      k,
      told_apart can_begin c 35 b refl,
      indent_is bs (c ∷ cs),
      line_begins 37 bs c cs h refl (told_apart can_begin c 37 b refl),
      line_begins 46 bs c cs h refl (told_apart can_begin c 46 b refl),
      no_marker_line bs c cs h m,
    ) refl

-- a line at indent k begins a block's content there
pub record BeginsAt (s : State) (frames : List Frame) (k : ℕ) : Type 0 where
  pub place : Place
  pub begins : (line rest : List ℕ) → is_marker 45 line ≡ false → by_state s line k rest ≡ content (levels_in frames) place frames k rest

pub start_step : (line rest : List ℕ) → is_marker 45 line ≡ false → by_state Start line 0 rest ≡ content 32 Document [] 0 rest
unfolding at_start
start_step line rest h = rw h refl

pub start_begins : BeginsAt Start [] 0
start_begins = record { place = Document; begins = start_step }

pub entry_begins : (f : Frame) (fs : List Frame) (k : ℕ) → f.indent < k → BeginsAt (Blocks (f ∷ fs) None) (f ∷ fs) k
unfolding in_blocks
entry_begins f fs k l = record { place = Deeper; begins = λ line rest h. rw (lt-ltb f.indent k l) refl }

-- The blocks gs with the value w are as good as the blocks fs with v, at any line that stands less deep
-- than k and at the end.
pub record Pends (k : ℕ) (gs : List Frame) (w : Tree) (fs : List Frame) (v : Tree) : Type 0 where
  pub whole : close_all gs w ≡ close_all fs v
  pub settles : (j : ℕ) (item : Bool) → j < k → settle j item gs w ≡ settle j item fs v

pub pends_same : (k : ℕ) (fs : List Frame) (v : Tree) → Pends k fs v fs v
pends_same k fs v = record { whole = refl; settles = λ j item l. refl }

pub pends_less : (k m : ℕ) (gs : List Frame) (w : Tree) (fs : List Frame) (v : Tree) → m ≤ k → Pends k gs w fs v → Pends m gs w fs v
pends_less k m gs w fs v h p = record { whole = p.whole; settles = λ j item l. p.settles j item (omega arith) }

-- a line less deep ends the block
pub pends_closed : (k : ℕ) (gs : List Frame) (w : Tree) (f : Frame) (fs : List Frame) (v : Tree) → f.indent ≡ k → Pends (suc k) gs w (f ∷ fs) v → Pends k gs w fs (closed f v)
unfolding settle close_all
pends_closed k gs w f fs v e p = record {
  whole = p.whole;
  settles = λ j item l. p.settles j item (omega arith) ∙ rw (lt-ltb j f.indent (omega arith)) refl;
}

same_not_less : (k : ℕ) → nat_lt k k ≡ false
same_not_less k = le-ltb k k (omega arith)

-- the next item of a list
pub item_goes_on : (gs : List Frame) (w : Tree) (k : ℕ) (items : List Tree) (fs : List Frame) (v : Tree) (line rest : List ℕ) → Pends (suc k) gs w (list_frame k items ∷ fs) v → marks 45 rest ≡ true
    → by_state (Blocks gs (Some w)) line k rest ≡ behind_dash (content (levels_in (list_frame k (items ++ v ∷ []) ∷ fs)) Item) (list_frame k (items ++ v ∷ []) ∷ fs) k rest
unfolding in_blocks settle go_on
item_goes_on gs w k items fs v line rest p m =
    rw (m, p.settles k true (omega arith), same_not_less k, eq-eqb k k refl, eq-eqb k k refl, m) refl

-- the next entry of a map
pub pair_goes_on : (gs : List Frame) (w : Tree) (k : ℕ) (pairs : List Pair) (key : Key) (fs : List Frame) (v : Tree) (line rest : List ℕ) → Pends (suc k) gs w (map_frame k pairs key ∷ fs) v
    → by_state (Blocks gs (Some w)) line k rest ≡ (entry_key false (with_entry pairs key v) rest >>= λ entry. behind_colon (map_frame k (with_entry pairs key v) entry.0 ∷ fs) entry.1)
unfolding in_blocks settle go_on
pair_goes_on gs w k pairs key fs v line rest p =
    rw (p.settles k (marks 45 rest) (omega arith), same_not_less k, eq-eqb k k refl, eq-eqb k k refl) refl

-- the text is printed on the line of its key or hyphen, or alone, and read as this value
pub record IsInline (text : List ℕ) (v : Tree) : Type 0 where
  pub head : ℕ
  pub tail : List ℕ
  pub is : text ≡ head ∷ tail
  pub begins_line : can_begin head ≡ true
  pub no_dash : marks 45 text ≡ false
  pub no_marker : is_marker 45 text ≡ false
  pub alone : (place : Place) (frames : List Frame) (column : ℕ) → levels v ≤ levels_in frames → key_or_value place frames column text ≡ value_alone place frames column v
  pub behind : (n : ℕ) → levels v ≤ n → block_value n text ≡ Ok v
  pub rows : list_all is_row_byte text ≡ true
  pub utf8 : IsUtf8 text

pub starts_begins : (c : ℕ) → can_start c ≡ true → can_begin c ≡ true
starts_begins c h = grind (arith, nat_tests)
