-- What is read is of the grammar: whole texts.
use Rattle.std.proofs.Common.{◌≡◌, ◌⊎◌, inl, inr, ℕ, zero, suc, ◌+◌, ◌-◌, ◌≤◌, nat_lt, nat_le, ◌==◌, Bool, true, false, cond, not, ◌||◌, ◌&&◌, List, [], ◌∷◌, ◌++◌, length, drop, Option, Some, None, Result, Ok, Err, refl, sym, ◌∙◌, ap, subst, arith}
use Rattle.std.proofs.lemmas.Bool.Decides.{nat_tests}
use Rattle.std.specs.Str.{is_utf8}
use Rattle.std.specs.Str.Lines.{lines}
use Rattle.yaml_subset.specs.declared.fault.YamlForm.TheVariants.{Directive, Documents}
use Rattle.yaml_subset.specs.declared.fault.YamlCause.{YamlCause}
use Rattle.yaml_subset.specs.declared.fault.YamlCause.TheVariants.{TooLong, NotUtf8, LeftOut, Indent, TooDeep}
use Rattle.yaml_subset.specs.declared.fault.YamlFault.{YamlFault}
use Rattle.yaml_subset.specs.declared.scalars.Scanned.{Scanned}
use Rattle.yaml_subset.specs.declared.stack.Open.{Open}
use Rattle.yaml_subset.specs.declared.stack.Open.TheVariants as open_
use Rattle.yaml_subset.specs.declared.stack.Frame.{Frame}
use Rattle.yaml_subset.specs.declared.blocks.Place.{Place}
use Rattle.yaml_subset.specs.declared.blocks.Place.TheVariants.{Document, Deeper, Item}
use Rattle.yaml_subset.specs.declared.blocks.State.{State}
use Rattle.yaml_subset.specs.declared.blocks.State.TheVariants.{Start, Headed, Alone, Blocks}
use Rattle.yaml_tree.specs.declared.tree.Tree.{Tree}
use Rattle.yaml_tree.specs.declared.tree.Tree.TheVariants as tree
use Rattle.yaml_tree.specs.declared.tree.Key.{Key}
use Rattle.yaml_subset.specs.Characters.{next_part, is_empty, begins, marks}
use Rattle.yaml_subset.specs.Scalars.{scan, key_of}
use Rattle.yaml_subset.specs.Flow.{opens, flow_value}
use Rattle.yaml_subset.specs.Blocks.{misplaced, map_frame, levels_in, line_value, scalar_alone, content, block_value, settle, go_on, next_entry, behind_colon, value_alone, first_key, key_or_value, in_blocks, is_marker, is_start, at_start, by_state, counted_line, step, finish}
use Rattle.yaml_subset.specs.Gives.{◌>>=◌}
use Rattle.yaml_subset.specs.Reading.{fault_at, line_not_utf8, at_line, lines_from, read_of}
use Rattle.yaml_subset.specs.Grammar.{Line, IsBlock, IsDocument, document_nothing, document_value, document_block, IsPassed, Counts, AreLater, IsHead, IsNoHead, ReadsLines, Reads}
use Rattle.yaml_subset.proofs.FlowGrammar.{line_value_found}
use Rattle.yaml_subset.proofs.LineValues.{bind_ok, IsValue}
use Rattle.yaml_subset.proofs.Steps.{later_step, steps, then_steps, Stands, list_form, Ends}
use Rattle.yaml_subset.proofs.GrammarTexts.{Finishes, close_none, by_later}
use Rattle.yaml_subset.proofs.GrammarSplits.{Stops, BlockSplit}
use Rattle.yaml_subset.proofs.GrammarBlocks.{block_split}

-- a line that is read leaves the start
abbrev NotStart : Result State YamlCause → Type 0
NotStart (Ok s) = is_start s ≡ false
NotStart (Err c) = Unit {0}

bind_leaves : {A : Type 0} (r : Result A YamlCause) (f : A → Result State YamlCause) → ((x : A) → NotStart (f x)) → NotStart (r >>= f)
bind_leaves (Ok x) f h = h x
bind_leaves (Err c) f h = tt

cond_leaves : (b : Bool) (x y : Result State YamlCause) → NotStart x → NotStart y → NotStart (cond b x y)
cond_leaves true x y h g = h
cond_leaves false x y h g = g

colon_leaves : (frames : List Frame) (rest : List ℕ) → NotStart (behind_colon frames rest)
unfolding behind_colon
colon_leaves frames rest = bind_leaves (next_part false rest) _ (λ part. cond_leaves (is_empty part) (Ok (Blocks frames None)) _ refl (bind_leaves _ (λ v. Ok (Blocks frames (Some v))) (λ v. refl)))

alone_leaves : (place : Place) (frames : List Frame) (column : ℕ) (v : Tree) → NotStart (value_alone place frames column v)
alone_leaves Document frames column v = refl
alone_leaves Deeper frames column v = tt
alone_leaves Item frames column v = refl

value_leaves : (place : Place) (frames : List Frame) (column : ℕ) (rest : List ℕ) → NotStart (key_or_value place frames column rest)
unfolding key_or_value first_key
value_leaves place frames column rest =
    cond_leaves (opens rest) _ _
    (bind_leaves (flow_value (levels_in frames) rest) _ (λ (read : Tree × List ℕ). bind_leaves (line_value read) _ (λ v. alone_leaves place frames column v)))
    (bind_leaves (scan false rest) _ (λ (s : Scanned × List ℕ). cond_leaves (marks 58 s.1) _ _
    (cond_leaves (nat_le 32 (length frames)) (Err TooDeep) _ tt (bind_leaves (key_of s.0) _ (λ (k : Key). colon_leaves (map_frame column [] k ∷ frames) (drop 1 s.1))))
    (bind_leaves (scalar_alone s.0 s.1) _ (λ v. alone_leaves place frames column v))))

content_leaves : (n : ℕ) (place : Place) (frames : List Frame) (column : ℕ) (rest : List ℕ) → NotStart (content n place frames column rest)
unfolding content
content_leaves zero place frames column rest = cond_leaves (marks 45 rest) _ _ tt (value_leaves place frames column rest)
content_leaves (suc n) place frames column rest =
    cond_leaves (marks 45 rest) _ _
    (bind_leaves (next_part false (drop 1 rest)) _ (λ part. cond_leaves (is_empty part) _ _ refl (content_leaves n Item _ _ part)))
    (value_leaves place frames column rest)

next_leaves : (o : Open) (frames : List Frame) (indent : ℕ) (v : Tree) (rest : List ℕ) → NotStart (next_entry o frames indent v rest)
next_leaves (open_.List items) frames indent v rest =
    cond_leaves (marks 45 rest) _ _ (bind_leaves (next_part false (drop 1 rest)) _ (λ part. cond_leaves (is_empty part) _ _ refl (content_leaves _ Item _ _ part))) tt
next_leaves (open_.Map pairs k) frames indent v rest = bind_leaves _ _ (λ entry. colon_leaves _ entry.1)

go_on_leaves : (settled : List Frame × Tree) (indent : ℕ) (rest : List ℕ) → NotStart (go_on settled indent rest)
unfolding go_on
go_on_leaves ([], v) indent rest = tt
go_on_leaves (f ∷ fs, v) indent rest = cond_leaves (f.indent == indent) (next_entry f.open_block fs indent v rest) (Err (misplaced Indent rest)) (next_leaves f.open_block fs indent v rest) tt

later_leaves : (state : State) (l : Line) → NotStart (later_step state l)
unfolding in_blocks
later_leaves Start l = content_leaves 32 Document [] l.0 l.1
later_leaves Headed l = content_leaves 32 Document [] l.0 l.1
later_leaves (Alone at v) l = tt
later_leaves (Blocks frames slot) l = cond_leaves _ _ _ (content_leaves _ Deeper frames l.0 l.1) (go_on_leaves _ l.0 l.1)

leaves_to : (r : Result State YamlCause) (next : State) → NotStart r → r ≡ Ok next → is_start next ≡ false
leaves_to (Ok s) next h e = let q : s ≡ next = cc in ap is_start (sym q) ∙ h
leaves_to (Err c) next h e = absurd cc

-- a document whose first line has been read
settle_none : (indent : ℕ) (item : Bool) (v : Tree) → settle indent item [] v ≡ ([], v)
unfolding settle
settle_none indent item v = refl

append_none : (ls : List Line) → ls ++ [] ≡ ls
append_none [] = refl
append_none (l ∷ ls) = ap (λ xs. l ∷ xs) (append_none ls)

abbrev ok : State → Result State YamlCause
ok s = Ok s

same_end : (s end : State) → ok s ≡ ok end → s ≡ end
same_end s end h = cc

alone_none : (at : ℕ) (v : Tree) (ls : List Line) (end : State) → steps (Alone at v) ls ≡ Ok end → (ls ≡ []) × (Alone at v ≡ end)
alone_none at v [] end h = (refl, cc)
alone_none at v (l ∷ ls) end h = absurd cc

more_none : (at : ℕ) (list : Bool) (t : Tree) (frames : List Frame) (slot : Option Tree) (more : List Line) (end : State) → Stands (Ends at list []) [] t frames slot
    → Stops (Ends at list []) more → steps (Blocks frames slot) more ≡ Ok end → (more ≡ []) × (Blocks frames slot ≡ end)
unfolding in_blocks go_on
more_none at list t frames slot [] end s stop h = (refl, cc)
more_none at list t frames slot (l ∷ ls) end s stop h =
    let e = s.settles l.0 (marks 45 l.1) stop ∙ settle_none l.0 (marks 45 l.1) t in
    let refused : in_blocks frames slot l.0 l.1 ≡ Err (misplaced Indent l.1) = rw (s.begins l.0 (marks 45 l.1) stop, e) refl in
    let bad : Err (misplaced Indent l.1) ≡ Ok end = ap (λ q. then_steps q ls) (sym refused) ∙ h in
    absurd cc

document_split : (line : Line) (ls : List Line) (end : State) → then_steps (content 32 Document [] line.0 line.1) ls ≡ Ok end → IsDocument 32 (line ∷ ls) (finish end)
document_split line ls end r = of_split (block_split 32 Document [] line.0 line.1 ls end refl r)
  where
    of_value : (v : Tree) → block_value 32 line.1 ≡ Ok v → (ls ≡ []) × (Alone line.0 v ≡ end) → IsDocument 32 (line ∷ ls) (finish end)
    of_value v is w = subst (λ e. IsDocument 32 (line ∷ ls) (finish e)) w.1 (document_value line (ap (λ xs. line ∷ xs) w.0) (line_value_found 32 line.1 v is))

    of_block : (b : BlockSplit 32 line.0 line.1 ls [] end) → (b.more ≡ []) × (Blocks b.frames b.slot ≡ end) → IsDocument 32 (line ∷ ls) (finish end)
    of_block b w =
        let all : ls ≡ b.below = b.split ∙ ap (λ xs. b.below ++ xs) w.0 ∙ append_none b.below in
        let tree : b.tree ≡ finish end = sym (b.stands.closes ∙ close_none b.tree) ∙ ap finish w.1 in
        document_block b.form line.0 (subst (λ t. IsBlock 32 b.form line.0 (line ∷ ls) t) tree (subst (λ xs. IsBlock 32 b.form line.0 (line ∷ xs) b.tree) (sym all) b.block))

    of_split : IsValue 32 Document [] line.0 line.1 (λ next. steps next ls) end ⊎ BlockSplit 32 line.0 line.1 ls [] end → IsDocument 32 (line ∷ ls) (finish end)
    of_split (inl v) = of_value v.value v.is (alone_none line.0 v.value ls end v.runs)
    of_split (inr b) = of_block b (more_none line.0 (list_form b.form) b.tree b.frames b.slot b.more end b.stands b.stops b.runs)

empty_part : (part : List ℕ) → is_empty part ≡ true → part ≡ []
empty_part [] h = refl
empty_part (x ∷ xs) h = absurd cc

-- a line that counts, with what is left to do with it
record Counted (state : State) (line : List ℕ) (next : State) : Type 0 where
  pub at : Line
  pub counts : Counts line at
  pub no_head : is_marker 45 line && not (is_start state) ≡ false
  pub is : by_state state line at.0 at.1 ≡ Ok next

-- a line that is read is passed over, or counts
step_parts : (state : State) (line : List ℕ) (next : State) → step state line ≡ Ok next → (IsPassed line × (state ≡ next)) ⊎ Counted state line next
unfolding step counted_line
step_parts state line next h = by_empty (is_empty part.0) refl part.2
  where
    counted : List ℕ → Result State YamlCause
    counted rest = counted_line state line (length line - length rest) rest

    part : (rest : List ℕ) × (next_part true line ≡ Ok rest) × (cond (is_empty rest) (Ok state) (counted rest) ≡ Ok next)
    part = bind_ok (next_part true line) (λ rest. cond (is_empty rest) (Ok state) (counted rest)) next h

    by_tests : is_empty part.0 ≡ false → (d m n : Bool) → begins 37 line ≡ d → is_marker 46 line ≡ m → is_marker 45 line && not (is_start state) ≡ n
        → cond d (Err (LeftOut Directive)) (cond (m || n) (Err (LeftOut Documents)) (by_state state line (length line - length part.0) part.0)) ≡ Ok next → Counted state line next
    by_tests e true m n f g k q = absurd cc
    by_tests e false true n f g k q = absurd cc
    by_tests e false false true f g k q = absurd cc
    by_tests e false false false f g k q = record {
      at = (length line - length part.0, part.0);
      counts = record { rest = part.1; some = e; indent = refl; no_directive = f; no_end = g };
      no_head = k;
      is = q;
    }

    by_empty : (b : Bool) → is_empty part.0 ≡ b → cond (is_empty part.0) (Ok state) (counted part.0) ≡ Ok next → (IsPassed line × (state ≡ next)) ⊎ Counted state line next
    by_empty true e q =
        let q' : Ok state ≡ Ok next = rw e at q in
        inl (part.1 ∙ ap Ok (empty_part part.0 e), same_end state next q')
    by_empty false e q =
        let q' : counted part.0 ≡ Ok next = rw e at q in
        inr (by_tests e (begins 37 line) (is_marker 46 line) (is_marker 45 line && not (is_start state)) refl refl refl q')

-- what reading further lines begins with
line_parts : (k : ℕ) (r : Result State YamlCause) (more : List (List ℕ)) (t : Tree) → at_line k r (λ next. lines_from k next more) ≡ Ok t → (next : State) × (r ≡ Ok next) × (lines_from k next more ≡ Ok t)
line_parts k (Ok next) more t h = (next, refl, h)
line_parts k (Err c) more t h = absurd cc

first_parts : (k : ℕ) (state : State) (line : List ℕ) (more : List (List ℕ)) (t : Tree) → lines_from k state (line ∷ more) ≡ Ok t → (next : State) × (step state line ≡ Ok next) × (lines_from (k + 1) next more ≡ Ok t)
unfolding lines_from
first_parts k state line more t h = line_parts (k + 1) (step state line) more t h

-- lines that are read behind the first one that counts
record LaterSplit (more : List (List ℕ)) (state : State) (t : Tree) : Type 0 where
  pub later : List Line
  pub are : AreLater more later
  pub finishes : Finishes state later t

no_head_later : (b : Bool) (state : State) → is_start state ≡ false → b && not (is_start state) ≡ false → b ≡ false
no_head_later false state s h = refl
no_head_later true state s h = let q : not (is_start state) ≡ true = ap not s in absurd cc

later_split : (more : List (List ℕ)) (k : ℕ) (state : State) (t : Tree) → is_start state ≡ false → lines_from k state more ≡ Ok t → LaterSplit more state t
unfolding lines_from
later_split [] k state t s h = let e : finish state ≡ t = cc in record { later = []; are = refl; finishes = (state, refl, e) }
later_split (line ∷ more) k state t s h = by_parts (step_parts state line f.0 f.1) (λ next s g. later_split more (k + 1) next t s g)
  where
    f : (next : State) × (step state line ≡ Ok next) × (lines_from (k + 1) next more ≡ Ok t)
    f = first_parts k state line more t h

    by_parts : (IsPassed line × (state ≡ f.0)) ⊎ Counted state line f.0 → ((next : State) → is_start next ≡ false → lines_from (k + 1) next more ≡ Ok t → LaterSplit more next t) → LaterSplit (line ∷ more) state t
    by_parts (inl p) rec =
        let w = rec state s (ap (λ n. lines_from (k + 1) n more) p.1 ∙ f.2) in
        record { later = w.later; are = inl (p.0, w.are); finishes = w.finishes }
    by_parts (inr c) rec =
        let m = no_head_later (is_marker 45 line) state s c.no_head in
        let e : later_step state c.at ≡ Ok f.0 = sym (by_later state line c.at m) ∙ c.is in
        let w = rec f.0 (leaves_to (later_step state c.at) f.0 (later_leaves state c.at) e) f.2 in
        record {
          later = c.at ∷ w.later;
          are = inr (c.at, w.later, c.counts, m, refl, w.are);
          finishes = (w.finishes.0, ap (λ q. then_steps q w.later) e ∙ w.finishes.1, w.finishes.2);
        }

headed_document : (ls : List Line) (t : Tree) → Finishes Headed ls t → IsDocument 32 ls t
headed_document [] t f = document_nothing refl (sym (ap finish (same_end Headed f.0 f.1) ∙ f.2))
headed_document (l ∷ ls) t f = subst (IsDocument 32 (l ∷ ls)) f.2 (document_split l ls f.0 f.1)

started : (line : List ℕ) (l : Line) (next : State) → by_state Start line l.0 l.1 ≡ Ok next
    → cond (is_marker 45 line) (next_part false (drop 3 line) >>= λ part. cond (is_empty part) (Ok Headed) (content 32 Document [] l.0 l.1)) (content 32 Document [] l.0 l.1) ≡ Ok next
unfolding at_start
started line l next h = h

pub lines_split : (ls : List (List ℕ)) (k : ℕ) (t : Tree) → lines_from k Start ls ≡ Ok t → ReadsLines 32 ls t
unfolding lines_from
lines_split [] k t h = let e : tree.Null ≡ t = cc in sym e
lines_split (line ∷ more) k t h = by_parts (step_parts Start line f.0 f.1) (λ g. lines_split more (k + 1) t g)
  where
    f : (next : State) × (step Start line ≡ Ok next) × (lines_from (k + 1) next more ≡ Ok t)
    f = first_parts k Start line more t h

    with_document : (c : Counted Start line f.0) → IsNoHead line → content 32 Document [] c.at.0 c.at.1 ≡ Ok f.0 → ReadsLines 32 (line ∷ more) t
    with_document c no_mark e =
        let w = later_split more (k + 1) f.0 t (leaves_to (content 32 Document [] c.at.0 c.at.1) f.0 (content_leaves 32 Document [] c.at.0 c.at.1) e) f.2 in
        let d = document_split c.at w.later w.finishes.0 (ap (λ q. then_steps q w.later) e ∙ w.finishes.1) in
        inr (c.at, w.later, c.counts, w.are, inr (no_mark, subst (IsDocument 32 (c.at ∷ w.later)) w.finishes.2 d))

    with_head : (c : Counted Start line f.0) → IsHead line → Headed ≡ f.0 → ReadsLines 32 (line ∷ more) t
    with_head c head e =
        let w = later_split more (k + 1) Headed t refl (ap (λ s. lines_from (k + 1) s more) e ∙ f.2) in
        inr (c.at, w.later, c.counts, w.are, inl (head, headed_document w.later t w.finishes))

    by_part : (c : Counted Start line f.0) → is_marker 45 line ≡ true → (part : List ℕ) → next_part false (drop 3 line) ≡ Ok part → (b : Bool) → is_empty part ≡ b
        → cond b (Ok Headed) (content 32 Document [] c.at.0 c.at.1) ≡ Ok f.0 → ReadsLines 32 (line ∷ more) t
    by_part c m part p true e q = with_head c (record { dashes = m; alone = p ∙ ap Ok (empty_part part e) }) (same_end Headed f.0 q)
    by_part c m part p false e q = with_document c (inr (part, p, e)) q

    by_mark : (c : Counted Start line f.0) → (b : Bool) → is_marker 45 line ≡ b
        → cond b (next_part false (drop 3 line) >>= λ part. cond (is_empty part) (Ok Headed) (content 32 Document [] c.at.0 c.at.1)) (content 32 Document [] c.at.0 c.at.1) ≡ Ok f.0 → ReadsLines 32 (line ∷ more) t
    by_mark c true m q =
        let b = bind_ok (next_part false (drop 3 line)) (λ part. cond (is_empty part) (Ok Headed) (content 32 Document [] c.at.0 c.at.1)) f.0 q in
        by_part c m b.0 b.1 (is_empty b.0) refl b.2
    by_mark c false m q = with_document c (inl m) q

    by_parts : (IsPassed line × (Start ≡ f.0)) ⊎ Counted Start line f.0 → (lines_from (k + 1) Start more ≡ Ok t → ReadsLines 32 more t) → ReadsLines 32 (line ∷ more) t
    by_parts (inl p) rec = inl (p.0, rec (ap (λ n. lines_from (k + 1) n more) p.1 ∙ f.2))
    by_parts (inr c) rec = by_mark c (is_marker 45 line) refl (started line c.at f.0 c.is)

pub not_over : (n : ℕ) → nat_lt 1048576 n ≡ false → n ≤ 1048576
not_over n h = grind (arith, nat_tests)

read_parts : (long utf8 : Bool) (read : Result Tree YamlFault) (f g : YamlFault) (t : Tree) → cond long (Err f) (cond utf8 read (Err g)) ≡ Ok t → (long ≡ false) × (utf8 ≡ true) × (read ≡ Ok t)
read_parts true utf8 read f g t h = absurd cc
read_parts false false read f g t h = absurd cc
read_parts false true read f g t h = (refl, refl, h)

pub text_split : (text : List ℕ) (t : Tree) → read_of text ≡ Ok t → Reads text t
unfolding read_of
text_split text t h =
    let r = read_parts (nat_lt 1048576 (length text)) (is_utf8 text) (lines_from 0 Start (lines text)) (fault_at 0 TooLong) (fault_at (line_not_utf8 text) NotUtf8) t h in
    record { short = not_over (length text) r.0; utf8 = r.1; reads = lines_split (lines text) 0 t r.2 }
