-- Reading tells the first fault of a line.
use Rattle.std.proofs.Common.{◌≡◌, ◌⊎◌, inl, inr, ℕ, zero, suc, ◌+◌, ◌-◌, ◌<◌, ◌≤◌, ◌==◌, nat_le, Bool, true, false, cond, ◌||◌, ◌&&◌, List, [], ◌∷◌, ◌++◌, length, drop, Option, Some, None, Result, Ok, Err, refl, sym, ◌∙◌, ap, subst, arith}
use Rattle.std.specs.Prelude.{unwrap_or}
use Rattle.std.proofs.lemmas.Bool.Decides.{nat_tests}
use Rattle.yaml_subset.specs.declared.fault.YamlForm.{YamlForm}
use Rattle.yaml_subset.specs.declared.fault.YamlForm.TheVariants.{Anchor, Alias, Tag, BlockScalar, ComplexKey, MergeKey, LongFlow, LongQuote, Wide, Directive, Documents}
use Rattle.yaml_subset.specs.declared.fault.YamlCause.{YamlCause}
use Rattle.yaml_subset.specs.declared.fault.YamlCause.TheVariants.{TooDeep, Tab, LeftOut, Indent, Syntax}
use Rattle.yaml_subset.specs.declared.scalars.Scanned.{Scanned}
use Rattle.yaml_subset.specs.declared.stack.Open.{Open}
use Rattle.yaml_subset.specs.declared.stack.Open.TheVariants as open_
use Rattle.yaml_subset.specs.declared.stack.Frame.{Frame}
use Rattle.yaml_subset.specs.declared.blocks.Place.{Place}
use Rattle.yaml_subset.specs.declared.blocks.Place.TheVariants.{Document, Deeper, Item}
use Rattle.yaml_subset.specs.declared.blocks.State.{State}
use Rattle.yaml_subset.specs.declared.blocks.State.TheVariants.{Start, Headed, Alone, Blocks}
use Rattle.yaml_tree.specs.declared.tree.Tree.{Tree}
use Rattle.yaml_tree.specs.declared.tree.Tree.TheVariants as tree
use Rattle.yaml_tree.specs.declared.tree.Key.{Key}
use Rattle.yaml_tree.specs.declared.tree.Pair.{Pair}
use Rattle.yaml_subset.specs.Characters.{is_empty, begins, at_gap, marks, next_part, stray, line_end, left_out, form_or}
use Rattle.yaml_subset.specs.Scalars.{is_wide, is_merge, left_scalar, scan, key_of, value_at}
use Rattle.yaml_subset.specs.Entries.{key_eq, has_key}
use Rattle.yaml_subset.specs.Flow.{entry_key, with_entry, opens, flow_value, colon_and_tab}
use Rattle.yaml_subset.specs.Blocks.{list_frame, map_frame, closed, top_is, ends_block, settle, levels_in, line_value, block_value, behind_colon, value_alone, scalar_alone, first_key, key_or_value, behind_dash, content, misplaced, no_item, next_entry, go_on, begins_block, in_blocks, is_marker, at_start, by_state, counted_line, step}
use Rattle.yaml_subset.specs.Gives.{◌>>=◌}
use Rattle.yaml_subset.specs.FirstFault.{form_number, cause_number, Tells}
use Rattle.yaml_subset.specs.LineValue.{IsLineValue}
use Rattle.yaml_subset.specs.Grammar.{IsNoHead}
use Rattle.yaml_subset.specs.ScalarFaults.{NextFault, LineEndFault, ScanFault}
use Rattle.yaml_subset.specs.FlowFaults.{no_key, key_again, KeyFault, in_key, wide_alone, behind_key, at_key, IsNewKey, LineValueFault}
use Rattle.yaml_subset.specs.LineFaults.{InSome, AloneFault, alone_tab, alone_value, alone_end, FirstKeyFault, map_too_deep, first_no_key, behind_first_key, HeadFault, head_flow, head_scalar, head_key, head_alone, head_below, DashFault, ContentFault, MisplacedFault, misplaced_tab, misplaced_form, misplaced_scalar, misplaced_line, ItemLineFault, no_dash, dash_scalar, dash_and_tab, dash_alone, in_item, EntryLineFault, OpenLineFault, StayOpen, BlocksFault, in_deeper, in_open, in_none, FirstLineFault, head_comment, no_head, StateFault, ends_document, CountedFault, directive, documents, in_line, LineFault}
use Rattle.yaml_subset.proofs.ScalarFaults.{next_tells, line_end_tells, scan_tells}
use Rattle.yaml_subset.proofs.FirstFaults.{tells_map, tells_if}
use Rattle.yaml_subset.proofs.FaultsBehind.{tells_as, tells_then, tells_shift, tells_result, tells_one, Later, first_same, bind_assoc}
use Rattle.yaml_subset.proofs.FlowFaults.{tells_part, tells_value, clash, key_tells, key_reads}
use Rattle.yaml_subset.proofs.BracketFaults.{value_tells}
use Rattle.yaml_subset.proofs.KeyCauses.{late_key}
use Rattle.yaml_subset.proofs.FlowGrammar.{line_value_read, line_value_found, flow_opens}
use Rattle.yaml_subset.proofs.LineValues.{no_mark_at_end, marks_begins, alone_read, alone_parts, key_found}

-- ---- what begins at a column

abbrev Wrongs : Type 1
Wrongs = List ℕ → ℕ → YamlCause → Type 0

some_tells : {Y : Type 0} (rest : List ℕ) (In : Wrongs) (nothing : Y) (f : List ℕ → Result Y YamlCause) → ((part : List ℕ) → Tells (In part) (f part))
    → Tells (InSome rest In) (next_part false rest >>= λ part. cond (is_empty part) (Ok nothing) (f part))
some_tells {Y = Y} rest In nothing f told =
    tells_part false rest Some_ (λ part. cond (is_empty part) (Ok nothing) (f part)) (λ part e. tells_if (Some_ part) (is_empty part) (Ok nothing) (f part)
    (λ s at c w. clash (is_empty part) s w.0) (λ s. tells_as (In part) (Some_ part) (f part) (λ at c g. (s, g)) (λ at c w. w.1) (told part)))
  where
    Some_ : List ℕ → ℕ → YamlCause → Type 0
    Some_ part at c = (is_empty part ≡ false) × In part at c

colon_part_tells : (frames : List Frame) (rest : List ℕ) → Tells (InSome rest (LineValueFault (levels_in frames))) (behind_colon frames rest)
unfolding behind_colon
colon_part_tells frames rest =
    some_tells rest (LineValueFault (levels_in frames)) (Blocks frames None) (λ part. block_value (levels_in frames) part >>= λ v. Ok (Blocks frames (Some v)))
    (λ part. tells_map (LineValueFault (levels_in frames) part) (block_value (levels_in frames) part) (λ v. Blocks frames (Some v)) (value_tells (levels_in frames) part))

not_document : Document ≡ Deeper → ⊥
not_document e = cc

not_item : Item ≡ Deeper → ⊥
not_item e = cc

-- a value on a line of its own
abbrev Below : Place → Result Tree YamlCause → List ℕ → ℕ → YamlCause → Type 0
Below place r rest at c = (v : Tree) × (r ≡ Ok v) × (place ≡ Deeper) × (at ≡ length rest) × (c ≡ Syntax)

below_tells : (place : Place) (frames : List Frame) (column : ℕ) (rest : List ℕ) (Wrong : ℕ → YamlCause → Type 0) (r : Result Tree YamlCause) → Tells Wrong r
    → Tells (λ at c. Wrong at c ⊎ Below place r rest at c) (r >>= λ v. value_alone place frames column v)
below_tells place frames column rest Wrong r t =
    tells_as (λ at c. Wrong at c ⊎ Later r shift Then at c) (λ at c. Wrong at c ⊎ Below place r rest at c) (r >>= λ v. value_alone place frames column v)
    (λ at c w. elim w [ inl f ↦ inl f | inr l ↦ inr (l.0, l.1, l.4.0, omega (arith, l.3, l.4.1), l.4.2) ])
    (λ at c w. elim w [ inl f ↦ inl f | inr b ↦ inr (b.0, b.1, 0, omega (arith, b.3), (b.2, refl, b.4)) ])
    (tells_then Wrong r shift Then (λ v. value_alone place frames column v) t (λ v e. by_place place v))
  where
    shift : Tree → ℕ
    shift v = length rest

    Then : Tree → ℕ → YamlCause → Type 0
    Then v at c = (place ≡ Deeper) × (at ≡ 0) × (c ≡ Syntax)

    by_place : (p : Place) (v : Tree) → Tells (λ at c. (p ≡ Deeper) × (at ≡ 0) × (c ≡ Syntax)) (value_alone p frames column v)
    by_place Document v = λ at c w. not_document w.0
    by_place Item v = λ at c w. not_item w.0
    by_place Deeper v = (0, record { there = (refl, refl, refl); least = λ at c w. first_same 0 at Syntax c w.1 w.2 })

-- a scalar before no colon
alone_tells : (rest : List ℕ) (s : Scanned) (after : List ℕ) → Tells (AloneFault rest s after) (scalar_alone s after)
unfolding scalar_alone
alone_tells rest s after = by_test (colon_and_tab s after) refl
  where
    Here : ℕ → YamlCause → Type 0
    Here at c = (at ≡ 0) × (value_at s after ≡ Err c)

    shift : Tree → ℕ
    shift v = length rest - length after

    Then : Tree → ℕ → YamlCause → Type 0
    Then v = LineEndFault after

    value : Result Tree YamlCause
    value = value_at s after >>= λ v. line_value (v, after)

    tab : Result Tree YamlCause
    tab = Err Tab

    by_test : (b : Bool) → colon_and_tab s after ≡ b → Tells {X = Tree} (AloneFault rest s after) (cond b tab value)
    by_test true e =
        tells_as (λ at c. (at ≡ (length rest - length after) + 1) × (c ≡ Tab)) (AloneFault rest s after) tab (λ at c w. alone_tab e w.0 w.1)
        (λ at c w. elim w [
          | alone_tab q p d ↦ (p, d)
          | alone_value q p d ↦ absurd (clash (colon_and_tab s after) e q)
          | alone_end q v h i p f ↦ absurd (clash (colon_and_tab s after) e q)
        ])
        (tells_one Tree ((length rest - length after) + 1) Tab)
    by_test false e =
        tells_as (λ at c. Here at c ⊎ Later (value_at s after) shift Then at c) (AloneFault rest s after) value
        (λ at c w. elim w [ inl h ↦ alone_value e h.0 h.1 | inr l ↦ alone_end e l.0 l.1 l.2 l.3 l.4 ])
        (λ at c w. elim w [
          | alone_tab q p d ↦ absurd (clash (colon_and_tab s after) q e)
          | alone_value q p d ↦ inl (p, d)
          | alone_end q v h i p f ↦ inr (v, h, i, p, f)
        ])
        (tells_then Here (value_at s after) shift Then (λ v. line_value (v, after)) (tells_result (value_at s after)) (λ v h. tells_map (LineEndFault after) (line_end after) (λ u. v) (line_end_tells after)))

full : (l : ℕ) → nat_le 32 l ≡ true → 32 - l ≡ 0
full l h = grind (arith, nat_tests)

room : (l : ℕ) → nat_le 32 l ≡ false → 0 < 32 - l
room l h = grind (arith, nat_tests)

none_left : (n : ℕ) → n ≡ 0 → 0 < n → ⊥
none_left n e l = omega (arith, e, l)

-- the first key of a map
first_key_tells : (frames : List Frame) (column : ℕ) (rest : List ℕ) (s : Scanned) (after : List ℕ) → Tells (FirstKeyFault (levels_in frames) rest s after) (first_key frames column s after)
unfolding first_key
first_key_tells frames column rest s after =
    tells_if (FirstKeyFault (levels_in frames) rest s after) (nat_le 32 (length frames)) (Err TooDeep) key (λ b. too_deep (full (length frames) b)) (λ b. with_room (room (length frames) b))
  where
    Here : ℕ → YamlCause → Type 0
    Here at c = (at ≡ 0) × (key_of s ≡ Err c)

    shift : Key → ℕ
    shift k = length rest - length (drop 1 after)

    Then : Key → ℕ → YamlCause → Type 0
    Then k = InSome (drop 1 after) (LineValueFault (levels_in frames - 1))

    key : Result State YamlCause
    key = key_of s >>= λ k. behind_colon (map_frame column [] k ∷ frames) (drop 1 after)

    too_deep : levels_in frames ≡ 0 → Tells {X = State} (FirstKeyFault (levels_in frames) rest s after) (Err TooDeep)
    too_deep z = (
      0,
      record {
        there = map_too_deep z refl refl;
        least = λ at c w. elim w [
          | map_too_deep e p d ↦ first_same 0 at TooDeep c p d
          | first_no_key p k ↦ inr (sym p, late_key s c k)
          | behind_first_key l k h i p f ↦ absurd (none_left (levels_in frames) z l)
        ];
      },
    )

    fewer : (k : Key) → levels_in (map_frame column [] k ∷ frames) ≡ levels_in frames - 1
    fewer k = omega arith

    behind : (k : Key) → Tells (Then k) (behind_colon (map_frame column [] k ∷ frames) (drop 1 after))
    behind k =
        subst (λ n. Tells (InSome (drop 1 after) (LineValueFault n)) (behind_colon (map_frame column [] k ∷ frames) (drop 1 after))) (fewer k)
        (colon_part_tells (map_frame column [] k ∷ frames) (drop 1 after))

    with_room : 0 < levels_in frames → Tells (FirstKeyFault (levels_in frames) rest s after) key
    with_room l =
        tells_as (λ at c. Here at c ⊎ Later (key_of s) shift Then at c) (FirstKeyFault (levels_in frames) rest s after) key
        (λ at c w. elim w [ inl h ↦ first_no_key h.0 h.1 | inr q ↦ behind_first_key l q.0 q.1 q.2 q.3 q.4 ])
        (λ at c w. elim w [
          | map_too_deep e p d ↦ absurd (none_left (levels_in frames) e l)
          | first_no_key p k ↦ inl (p, k)
          | behind_first_key m k h i p f ↦ inr (k, h, i, p, f)
        ])
        (tells_then Here (key_of s) shift Then (λ k. behind_colon (map_frame column [] k ∷ frames) (drop 1 after)) (tells_result (key_of s)) (λ k e. behind k))

flow_line : (n : ℕ) (rest : List ℕ) → opens rest ≡ true → block_value n rest ≡ (flow_value n rest >>= line_value)
unfolding block_value
flow_line n rest o = rw o refl

-- a value on one line, or the first key of a map
head_tells : (place : Place) (frames : List Frame) (column : ℕ) (rest : List ℕ) → Tells (HeadFault (levels_in frames) place rest) (key_or_value place frames column rest)
unfolding key_or_value
head_tells place frames column rest = tells_if Stands (opens rest) flow scalar (λ o. of_flow o) (λ o. of_scalar o)
  where
    n : ℕ
    n = levels_in frames

    Stands : ℕ → YamlCause → Type 0
    Stands = HeadFault (levels_in frames) place rest

    alone : Tree → Result State YamlCause
    alone v = value_alone place frames column v

    flow : Result State YamlCause
    flow = flow_value (levels_in frames) rest >>= λ read. line_value read >>= λ v. value_alone place frames column v

    next : Scanned × List ℕ → Result State YamlCause
    next s = cond (marks 58 s.1) (first_key frames column s.0 s.1) (scalar_alone s.0 s.1 >>= λ v. value_alone place frames column v)

    scalar : Result State YamlCause
    scalar = scan false rest >>= next

    of_flow : opens rest ≡ true → Tells Stands flow
    of_flow o =
        let e : (block_value n rest >>= alone) ≡ flow = ap (λ r. r >>= alone) (flow_line n rest o) ∙ bind_assoc (flow_value n rest) line_value alone in
        subst (Tells Stands) e
        (tells_as (λ at c. LineValueFault n rest at c ⊎ Below place (block_value n rest) rest at c) Stands (block_value n rest >>= alone)
        (λ at c w. elim w [ inl f ↦ head_flow o f | inr b ↦ head_below b.2 b.0 (line_value_found n rest b.0 b.1) b.3 b.4 ])
        (λ at c w. elim w [
          | head_flow q f ↦ inl f
          | head_scalar q f ↦ absurd (clash (opens rest) o q)
          | head_key q s after h m f ↦ absurd (clash (opens rest) o q)
          | head_alone q s after h m f ↦ absurd (clash (opens rest) o q)
          | head_below q v is p d ↦ inr (v, line_value_read n rest v is, q, p, d)
        ])
        (below_tells place frames column rest (LineValueFault n rest) (block_value n rest) (value_tells n rest)))

    none : Scanned × List ℕ → ℕ
    none s = 0

    Lone : Scanned × List ℕ → ℕ → YamlCause → Type 0
    Lone s at c = AloneFault rest s.0 s.1 at c ⊎ Below place (scalar_alone s.0 s.1) rest at c

    Then : Scanned × List ℕ → ℕ → YamlCause → Type 0
    Then s at c = ((marks 58 s.1 ≡ true) × FirstKeyFault (levels_in frames) rest s.0 s.1 at c) ⊎ ((marks 58 s.1 ≡ false) × Lone s at c)

    then_tells : (s : Scanned × List ℕ) → Tells (Then s) (next s)
    then_tells s =
        tells_if (Then s) (marks 58 s.1) (first_key frames column s.0 s.1) (scalar_alone s.0 s.1 >>= alone)
        (λ m. tells_as (FirstKeyFault (levels_in frames) rest s.0 s.1) (Then s) (first_key frames column s.0 s.1) (λ at c f. inl (m, f))
        (λ at c w. elim w [ inl f ↦ f.1 | inr f ↦ absurd (clash (marks 58 s.1) m f.0) ]) (first_key_tells frames column rest s.0 s.1))
        (λ m. tells_as (Lone s) (Then s) (scalar_alone s.0 s.1 >>= alone) (λ at c f. inr (m, f))
        (λ at c w. elim w [ inl f ↦ absurd (clash (marks 58 s.1) f.0 m) | inr f ↦ f.1 ])
        (below_tells place frames column rest (AloneFault rest s.0 s.1) (scalar_alone s.0 s.1) (alone_tells rest s.0 s.1)))

    to : opens rest ≡ false → (at : ℕ) (c : YamlCause) (s : Scanned × List ℕ) → scan false rest ≡ Ok s → Then s at c → HeadFault (levels_in frames) place rest at c
    to o at c s e (inl w) = head_key o s.0 s.1 e w.0 w.1
    to o at c s e (inr w) = elim w.1 [
      | inl f ↦ head_alone o s.0 s.1 e w.0 f
      | inr b ↦ let a = alone_parts s.0 s.1 b.0 b.1 in head_below b.2 b.0 (s.1, inl (s.0, e, a.0), a.1) b.3 b.4
    ]

    below : opens rest ≡ false → (at : ℕ) (c : YamlCause) (v : Tree) → IsLineValue (levels_in frames) rest v → place ≡ Deeper → at ≡ length rest → c ≡ Syntax → Later (scan false rest) none Then at c
    below o at c v (after, inl s, end) q p d =
        let b = no_mark_at_end after end in
        ((s.0, after), s.1, at, omega arith, inr (marks_begins 58 after b, inr (v, alone_read s.0 after v s.2 end b, q, p, d)))
    below o at c v (after, inr f, end) q p d = absurd (clash (opens rest) (flow_opens (levels_in frames) rest v after f) o)

    of_scalar : opens rest ≡ false → Tells Stands scalar
    of_scalar o =
        tells_as (λ at c. ScanFault false rest at c ⊎ Later (scan false rest) none Then at c) Stands scalar
        (λ at c w. elim w [ inl f ↦ head_scalar o f | inr l ↦ to o at c l.0 l.1 (subst (λ i. Then l.0 i c) (omega (arith, l.3)) l.4) ])
        (λ at c w. elim w [
          | head_flow q f ↦ absurd (clash (opens rest) q o)
          | head_scalar q f ↦ inl f
          | head_key q s after h m f ↦ inr ((s, after), h, at, omega arith, inl (m, f))
          | head_alone q s after h m f ↦ inr ((s, after), h, at, omega arith, inr (m, inl f))
          | head_below q v is p d ↦ inr (below o at c v is q p d)
        ])
        (tells_then (ScanFault false rest) (scan false rest) none Then next (scan_tells false rest) (λ s e. then_tells s))

-- what follows the dash of an item
dash_tells : (Content : Wrongs) (read : List Frame → ℕ → List ℕ → Result State YamlCause) (frames : List Frame) (column : ℕ) (rest : List ℕ)
    → ((at : ℕ) (part : List ℕ) → Tells (Content part) (read frames at part)) → Tells (DashFault Content rest) (behind_dash read frames column rest)
dash_tells Content read frames column rest told =
    tells_shift 1 (InSome (drop 1 rest) Content) (behind_dash read frames column rest)
    (some_tells (drop 1 rest) Content (Blocks frames None) (λ part. read frames (column + (length rest - length part)) part) (λ part. told (column + (length rest - length part)) part))

content_tells : (n : ℕ) (place : Place) (frames : List Frame) (column : ℕ) (rest : List ℕ) → levels_in frames ≡ n → Tells (ContentFault n place rest) (content n place frames column rest)
unfolding content
content_tells zero place frames column rest l =
    tells_if (ContentFault zero place rest) (marks 45 rest) (Err TooDeep) (key_or_value place frames column rest)
    (λ m. (
      0,
      record {
        there = inl (m, refl, refl);
        least = λ at c w. elim w [ inl f ↦ first_same 0 at TooDeep c f.1 f.2 | inr f ↦ absurd (clash (marks 45 rest) m f.0) ];
      },
    ))
    (λ m. tells_as (HeadFault zero place rest) (ContentFault zero place rest) (key_or_value place frames column rest) (λ at c f. inr (m, f))
    (λ at c w. elim w [ inl f ↦ absurd (clash (marks 45 rest) f.0 m) | inr f ↦ f.1 ])
    (subst (λ k. Tells (HeadFault k place rest) (key_or_value place frames column rest)) l (head_tells place frames column rest)))
content_tells (suc n) place frames column rest l =
    tells_if (ContentFault (suc n) place rest) (marks 45 rest) (behind_dash (content n Item) (list_frame column [] ∷ frames) column rest) (key_or_value place frames column rest)
    (λ m. tells_as (DashFault (ContentFault n Item) rest) (ContentFault (suc n) place rest) (behind_dash (content n Item) (list_frame column [] ∷ frames) column rest) (λ at c f. inl (m, f))
    (λ at c w. elim w [ inl f ↦ f.1 | inr f ↦ absurd (clash (marks 45 rest) m f.0) ])
    (dash_tells (ContentFault n Item) (content n Item) (list_frame column [] ∷ frames) column rest (λ at part. content_tells n Item (list_frame column [] ∷ frames) at part (omega (arith, l)))))
    (λ m. tells_as (HeadFault (suc n) place rest) (ContentFault (suc n) place rest) (key_or_value place frames column rest) (λ at c f. inr (m, f))
    (λ at c w. elim w [ inl f ↦ absurd (clash (marks 45 rest) f.0 m) | inr f ↦ f.1 ])
    (subst (λ k. Tells (HeadFault k place rest) (key_or_value place frames column rest)) l (head_tells place frames column rest)))

-- ---- lines of open blocks

form_small : (f : YamlForm) → form_number f ≤ 11
form_small Anchor = omega arith
form_small Alias = omega arith
form_small Tag = omega arith
form_small BlockScalar = omega arith
form_small Directive = omega arith
form_small ComplexKey = omega arith
form_small MergeKey = omega arith
form_small Documents = omega arith
form_small LongFlow = omega arith
form_small LongQuote = omega arith
form_small Wide = omega arith

abbrev some : YamlForm → Option YamlForm
some f = Some f

same_form : (o : Option YamlForm) (f g : YamlForm) → o ≡ some f → o ≡ some g → g ≡ f
same_form o f g p q = cc

no_form : (o : Option YamlForm) (f : YamlForm) → o ≡ None → o ≡ some f → ⊥
no_form o f p q = cc

-- what is left out by its first character comes before what is left out as a scalar
mark_small : (rest : List ℕ) (f : YamlForm) → left_out rest ≡ some f → form_number f ≤ 6
mark_small [] f e = absurd cc
mark_small (x ∷ xs) f e = by_tests (x == 38) (x == 42) (x == 33) (x == 124 || x == 62) (x == 63 && at_gap xs) e
  where
    number : (g : YamlForm) → some g ≡ some f → form_number g ≤ 6 → form_number f ≤ 6
    number g h l = let s : g ≡ f = cc in subst (λ k. form_number k ≤ 6) s l

    by_tests : (a b c d e : Bool) → cond a (some Anchor) (cond b (some Alias) (cond c (some Tag) (cond d (some BlockScalar) (cond e (some ComplexKey) None)))) ≡ some f → form_number f ≤ 6
    by_tests true b c d e h = number Anchor h (omega arith)
    by_tests false true c d e h = number Alias h (omega arith)
    by_tests false false true d e h = number Tag h (omega arith)
    by_tests false false false true e h = number BlockScalar h (omega arith)
    by_tests false false false false true h = number ComplexKey h (omega arith)
    by_tests false false false false false h = absurd cc

scalar_large : (r : Result (Scanned × List ℕ) YamlCause) (f : YamlForm) → left_scalar r ≡ some f → 7 ≤ form_number f
scalar_large (Err c) f e = absurd cc
scalar_large (Ok s) f e = by_tests (is_wide s.0) (is_merge s.0 && marks 58 s.1) e
  where
    number : (g : YamlForm) → some g ≡ some f → 7 ≤ form_number g → 7 ≤ form_number f
    number g h l = let s : g ≡ f = cc in subst (λ k. 7 ≤ form_number k) s l

    by_tests : (a b : Bool) → cond a (some Wide) (cond b (some MergeKey) None) ≡ some f → 7 ≤ form_number f
    by_tests true b h = number Wide h (omega arith)
    by_tests false true h = number MergeKey h (omega arith)
    by_tests false false h = absurd cc

misplaced_tells : (X : Type 0) (otherwise : YamlCause) (rest : List ℕ) → 16 ≤ cause_number otherwise → Tells {X = X} (MisplacedFault otherwise rest) (Err (misplaced otherwise rest))
unfolding misplaced
misplaced_tells X otherwise rest late = by_tab (begins 9 rest) refl
  where
    by_scalar : (o : Option YamlForm) → begins 9 rest ≡ false → left_out rest ≡ None → left_scalar (scan false rest) ≡ o → Tells {X = X} (MisplacedFault otherwise rest) (Err (form_or otherwise o))
    by_scalar None b n e = (
      0,
      record {
        there = misplaced_line refl refl;
        least = λ at c w. elim w [
          | misplaced_tab t p d ↦ absurd (clash (begins 9 rest) t b)
          | misplaced_form f l p d ↦ absurd (no_form (left_out rest) f n l)
          | misplaced_scalar f l p d ↦ absurd (no_form (left_scalar (scan false rest)) f e l)
          | misplaced_line p d ↦ first_same 0 at otherwise c p d
        ];
      },
    )
    by_scalar (Some g) b n e = (
      0,
      record {
        there = misplaced_scalar g e refl refl;
        least = λ at c w. elim w [
          | misplaced_tab t p d ↦ absurd (clash (begins 9 rest) t b)
          | misplaced_form f l p d ↦ absurd (no_form (left_out rest) f n l)
          | misplaced_scalar f l p d ↦ first_same 0 at (LeftOut g) c p (d ∙ ap LeftOut (same_form (left_scalar (scan false rest)) g f e l))
          | misplaced_line p d ↦ inr (sym p, let n : cause_number c ≡ cause_number otherwise = ap cause_number d in omega (arith, n, late, form_small g))
        ];
      },
    )

    by_form : (o : Option YamlForm) → begins 9 rest ≡ false → left_out rest ≡ o → Tells {X = X} (MisplacedFault otherwise rest) (Err (form_or (form_or otherwise (left_scalar (scan false rest))) o))
    by_form None b e = by_scalar (left_scalar (scan false rest)) b e refl
    by_form (Some g) b e = (
      0,
      record {
        there = misplaced_form g e refl refl;
        least = λ at c w. elim w [
          | misplaced_tab t p d ↦ absurd (clash (begins 9 rest) t b)
          | misplaced_form f l p d ↦ first_same 0 at (LeftOut g) c p (d ∙ ap LeftOut (same_form (left_out rest) g f e l))
          | misplaced_scalar f l p d ↦ inr (sym p, let n : cause_number c ≡ 4 + form_number f = ap cause_number d in omega (arith, n, mark_small rest g e, scalar_large (scan false rest) f l))
          | misplaced_line p d ↦ inr (sym p, let n : cause_number c ≡ cause_number otherwise = ap cause_number d in omega (arith, n, late, form_small g))
        ];
      },
    )

    by_tab : (b : Bool) → begins 9 rest ≡ b → Tells {X = X} (MisplacedFault otherwise rest) (Err (cond b Tab (form_or (form_or otherwise (left_scalar (scan false rest))) (left_out rest))))
    by_tab true b = (
      0,
      record {
        there = misplaced_tab b refl refl;
        least = λ at c w. elim w [
          | misplaced_tab t p d ↦ first_same 0 at Tab c p d
          | misplaced_form f l p d ↦ inr (sym p, let n : cause_number c ≡ 4 + form_number f = ap cause_number d in omega (arith, n))
          | misplaced_scalar f l p d ↦ inr (sym p, let n : cause_number c ≡ 4 + form_number f = ap cause_number d in omega (arith, n))
          | misplaced_line p d ↦ inr (sym p, let n : cause_number c ≡ cause_number otherwise = ap cause_number d in omega (arith, n, late))
        ];
      },
    )
    by_tab false b = by_form (left_out rest) b refl

-- a line of a list that is no item
no_item_tells : (X : Type 0) (levels : ℕ) (rest : List ℕ) → marks 45 rest ≡ false → Tells {X = X} (ItemLineFault levels rest) (Err (no_item rest))
no_item_tells X levels rest m = by_dash (begins 45 rest) refl
  where
    by_tab : (t : Bool) → begins 45 rest ≡ true → left_scalar (scan false rest) ≡ None → begins 9 (drop 1 rest) ≡ t → Tells {X = X} (ItemLineFault levels rest) (Err (cond t Tab Syntax))
    by_tab true b e t = (
      1,
      record {
        there = dash_and_tab b m t refl refl;
        least = λ at c w. elim w [
          | no_dash f g ↦ absurd (clash (begins 45 rest) b f)
          | dash_scalar f g l h p d ↦ absurd (no_form (left_scalar (scan false rest)) l e h)
          | dash_and_tab f g h p d ↦ first_same 1 at Tab c p d
          | dash_alone f g p d ↦ inr (sym p, let n : cause_number c ≡ 18 = ap cause_number d in omega (arith, n))
          | in_item f g ↦ absurd (clash (marks 45 rest) f m)
        ];
      },
    )
    by_tab false b e t = (
      1,
      record {
        there = dash_alone b m refl refl;
        least = λ at c w. elim w [
          | no_dash f g ↦ absurd (clash (begins 45 rest) b f)
          | dash_scalar f g l h p d ↦ absurd (no_form (left_scalar (scan false rest)) l e h)
          | dash_and_tab f g h p d ↦ absurd (clash (begins 9 (drop 1 rest)) h t)
          | dash_alone f g p d ↦ first_same 1 at Syntax c p d
          | in_item f g ↦ absurd (clash (marks 45 rest) f m)
        ];
      },
    )

    by_scalar : (o : Option YamlForm) → begins 45 rest ≡ true → left_scalar (scan false rest) ≡ o → Tells {X = X} (ItemLineFault levels rest) (Err (form_or (stray (drop 1 rest)) o))
    by_scalar (Some k) b e = (
      0,
      record {
        there = dash_scalar b m k e refl refl;
        least = λ at c w. elim w [
          | no_dash f g ↦ absurd (clash (begins 45 rest) b f)
          | dash_scalar f g l h p d ↦ first_same 0 at (LeftOut k) c p (d ∙ ap LeftOut (same_form (left_scalar (scan false rest)) k l e h))
          | dash_and_tab f g h p d ↦ inl (omega (arith, p))
          | dash_alone f g p d ↦ inl (omega (arith, p))
          | in_item f g ↦ absurd (clash (marks 45 rest) f m)
        ];
      },
    )
    by_scalar None b e = by_tab (begins 9 (drop 1 rest)) b e refl

    misplaced_result : Result X YamlCause
    misplaced_result = Err (misplaced Syntax rest)

    by_dash : (b : Bool) → begins 45 rest ≡ b → Tells {X = X} (ItemLineFault levels rest) (Err (cond b (form_or (stray (drop 1 rest)) (left_scalar (scan false rest))) (misplaced Syntax rest)))
    by_dash true b = by_scalar (left_scalar (scan false rest)) b refl
    by_dash false b =
        tells_as (MisplacedFault Syntax rest) (ItemLineFault levels rest) misplaced_result (λ at c f. no_dash b f)
        (λ at c w. elim w [
          | no_dash f g ↦ g
          | dash_scalar f g l h p d ↦ absurd (clash (begins 45 rest) f b)
          | dash_and_tab f g h p d ↦ absurd (clash (begins 45 rest) f b)
          | dash_alone f g p d ↦ absurd (clash (begins 45 rest) f b)
          | in_item f g ↦ absurd (clash (marks 45 rest) f m)
        ])
        (misplaced_tells X Syntax rest (omega arith))

-- which value the last entry has is all one for a key behind it
same_keys : (pairs : List Pair) (k : Key) (v w : Tree) (key : Key) → has_key (with_entry pairs k v) key ≡ has_key (with_entry pairs k w) key
unfolding has_key
same_keys [] k v w key = refl
same_keys (p ∷ ps) k v w key = ap (λ b. key_eq p.key key || b) (same_keys ps k v w key)

other_value : (levels : ℕ) (pairs : List Pair) (k : Key) (v w : Tree) (rest : List ℕ) (at : ℕ) (c : YamlCause) → EntryLineFault levels (with_entry pairs k v) rest at c → EntryLineFault levels (with_entry pairs k w) rest at c
other_value levels pairs k v w rest at c (inl (in_key f)) = inl (in_key f)
other_value levels pairs k v w rest at c (inl (wide_alone s after e m g p d)) = inl (wide_alone s after e m g p d)
other_value levels pairs k v w rest at c (inl (behind_key b)) = inl (behind_key b)
other_value levels pairs k v w rest at c (inl (at_key s after e m p (no_key q))) = inl (at_key s after e m p (no_key q))
other_value levels pairs k v w rest at c (inl (at_key s after e m p (key_again key q h d))) = inl (at_key s after e m p (key_again key q (sym (same_keys pairs k v w key) ∙ h) d))
other_value levels pairs k v w rest at c (inr b) = let i = b.is in inr (record {
  value = b.value;
  after = b.after;
  is = record { scanned = i.scanned; colon_at = i.colon_at; scalar = i.scalar; colon = i.colon; key = i.key; first = sym (same_keys pairs k v w b.value) ∙ i.first; behind = i.behind };
  inside = b.inside;
  place = b.place;
  fault = b.fault;
})

-- the next line of an open block
open_tells : (o : Open) (f : Frame) (around : List Frame) (indent : ℕ) (v : Tree) (rest : List ℕ) → Tells (OpenLineFault o (levels_in (f ∷ around)) rest) (next_entry o around indent v rest)
open_tells (open_.List items) f around indent v rest =
    tells_if (ItemLineFault levels rest) (marks 45 rest) item (Err (no_item rest))
    (λ m. tells_as (DashFault (ContentFault levels Item) rest) (ItemLineFault levels rest) item (λ at c g. in_item m g)
    (λ at c w. elim w [
      | no_dash b g ↦ absurd (clash (marks 45 rest) m (marks_begins 45 rest b))
      | dash_scalar b g l h p d ↦ absurd (clash (marks 45 rest) m g)
      | dash_and_tab b g h p d ↦ absurd (clash (marks 45 rest) m g)
      | dash_alone b g p d ↦ absurd (clash (marks 45 rest) m g)
      | in_item b g ↦ g
    ])
    (dash_tells (ContentFault levels Item) (content levels Item) frames indent rest (λ at part. content_tells levels Item frames at part refl)))
    (λ m. no_item_tells State levels rest m)
  where
    frames : List Frame
    frames = list_frame indent (items ++ v ∷ []) ∷ around

    levels : ℕ
    levels = levels_in (list_frame indent (items ++ v ∷ []) ∷ around)

    item : Result State YamlCause
    item = behind_dash (content (levels_in (list_frame indent (items ++ v ∷ []) ∷ around)) Item) (list_frame indent (items ++ v ∷ []) ∷ around) indent rest
open_tells (open_.Map pairs k) f around indent v rest =
    tells_as (EntryLineFault (levels_in (f ∷ around)) (with_entry pairs k v) rest) (OpenLineFault (open_.Map pairs k) (levels_in (f ∷ around)) rest) (next_entry (open_.Map pairs k) around indent v rest)
    (λ at c g. (v, g)) (λ at c g. other_value (levels_in (f ∷ around)) pairs k g.0 v rest at c g.1)
    (tells_value (IsNewKey false before) (KeyFault false before rest) rest (entry_key false before rest) (λ q after. InSome after (LineValueFault (levels_in (f ∷ around))))
    (λ entry. behind_colon (map_frame indent before entry.0 ∷ around) entry.1) (key_reads false before rest) (key_found false before rest) (key_tells false before rest)
    (λ q after e. colon_part_tells (map_frame indent before q ∷ around) after))
  where
    before : List Pair
    before = with_entry pairs k v

stays : (indent : ℕ) (item : Bool) (frames : List Frame) (v : Tree) → StayOpen indent item frames (settle indent item frames v).0
unfolding settle
stays indent item [] v = refl
stays indent item (f ∷ fs) v = by_test (ends_block indent item f fs) refl (stays indent item fs (closed f v))
  where
    by_test : (b : Bool) → ends_block indent item f fs ≡ b → StayOpen indent item fs (settle indent item fs (closed f v)).0
        → StayOpen indent item (f ∷ fs) (cond b (settle indent item fs (closed f v)) (f ∷ fs, v)).0
    by_test true e rec = inl (e, rec)
    by_test false e rec = inr (e, refl)

one_stays : (indent : ℕ) (item : Bool) (frames l m : List Frame) → StayOpen indent item frames l → StayOpen indent item frames m → l ≡ m
one_stays indent item [] l m p q = p ∙ sym q
one_stays indent item (f ∷ fs) l m (inl p) (inl q) = one_stays indent item fs l m p.1 q.1
one_stays indent item (f ∷ fs) l m (inl p) (inr q) = absurd (clash (ends_block indent item f fs) p.0 q.0)
one_stays indent item (f ∷ fs) l m (inr p) (inl q) = absurd (clash (ends_block indent item f fs) q.0 p.0)
one_stays indent item (f ∷ fs) l m (inr p) (inr q) = p.1 ∙ sym q.1

-- what stands in a line, by the innermost block that it doesn't end
abbrev InInnermost : ℕ → List ℕ → List Frame → ℕ → YamlCause → Type 0
InInnermost indent rest [] at c = ⊥
InInnermost indent rest (f ∷ fs) at c = (f.indent == indent ≡ true) × OpenLineFault f.open_block (levels_in (f ∷ fs)) rest at c

-- a line where blocks are open
blocks_tells : (frames : List Frame) (slot : Option Tree) (indent : ℕ) (rest : List ℕ) → Tells (BlocksFault frames slot indent rest) (in_blocks frames slot indent rest)
unfolding in_blocks go_on
blocks_tells frames slot indent rest =
    tells_if Stands (begins_block frames slot indent (marks 45 rest)) deeper (go_on settled indent rest)
    (λ b. tells_as (ContentFault (levels_in frames) Deeper rest) Stands deeper (λ at c f. in_deeper b f)
    (λ at c w. elim w [
      | in_deeper q f ↦ f
      | in_open q f around s e g ↦ absurd (clash (begins_block frames slot indent (marks 45 rest)) b q)
      | in_none q left s t g ↦ absurd (clash (begins_block frames slot indent (marks 45 rest)) b q)
    ])
    (content_tells (levels_in frames) Deeper frames indent rest refl))
    (λ b. on_tells settled (stays indent (marks 45 rest) frames (unwrap_or slot tree.Null)) b)
  where
    Stands : ℕ → YamlCause → Type 0
    Stands = BlocksFault frames slot indent rest

    deeper : Result State YamlCause
    deeper = content (levels_in frames) Deeper frames indent rest

    settled : List Frame × Tree
    settled = settle indent (marks 45 rest) frames (unwrap_or slot tree.Null)

    nowhere : Result State YamlCause
    nowhere = Err (misplaced Indent rest)

    Stay : List Frame → Type 0
    Stay left = StayOpen indent (marks 45 rest) frames left

    InOpen : List Frame → ℕ → YamlCause → Type 0
    InOpen left = InInnermost indent rest left

    opened_as : (left : List Frame) (f : Frame) (around : List Frame) (at : ℕ) (c : YamlCause) → Stay left → Stay (f ∷ around) → f.indent == indent ≡ true
        → OpenLineFault f.open_block (levels_in (f ∷ around)) rest at c → InOpen left at c
    opened_as left f around at c s t e g = subst (λ fs. InOpen fs at c) (one_stays indent (marks 45 rest) frames (f ∷ around) left t s) (e, g)

    no_top : (left other : List Frame) → Stay left → Stay other → top_is indent other ≡ false → top_is indent left ≡ false
    no_top left other s t e = ap (top_is indent) (one_stays indent (marks 45 rest) frames left other s t) ∙ e

    nowhere_tells : (left : List Frame) → begins_block frames slot indent (marks 45 rest) ≡ false → Stay left → top_is indent left ≡ false → ((at : ℕ) (c : YamlCause) → InOpen left at c → ⊥) → Tells Stands nowhere
    nowhere_tells left b s t never =
        tells_as (MisplacedFault Indent rest) Stands nowhere (λ at c f. in_none b left s t f)
        (λ at c w. elim w [
          | in_deeper q f ↦ absurd (clash (begins_block frames slot indent (marks 45 rest)) q b)
          | in_open q f around u e g ↦ absurd (never at c (opened_as left f around at c s u e g))
          | in_none q other u v g ↦ g
        ])
        (misplaced_tells State Indent rest (omega arith))

    on_tells : (s : List Frame × Tree) → Stay s.0 → begins_block frames slot indent (marks 45 rest) ≡ false → Tells Stands (go_on s indent rest)
    on_tells ([], v) s b = nowhere_tells [] b s refl (λ at c w. w)
    on_tells (f ∷ fs, v) s b =
        tells_if Stands (f.indent == indent) (next_entry f.open_block fs indent v rest) nowhere
        (λ e. tells_as (OpenLineFault f.open_block (levels_in (f ∷ fs)) rest) Stands (next_entry f.open_block fs indent v rest) (λ at c g. in_open b f fs s e g)
        (λ at c w. elim w [
          | in_deeper q g ↦ absurd (clash (begins_block frames slot indent (marks 45 rest)) q b)
          | in_open q g around u h k ↦ (opened_as (f ∷ fs) g around at c s u h k).1
          | in_none q other u t g ↦ absurd (clash (f.indent == indent) e (no_top (f ∷ fs) other s u t))
        ])
        (open_tells f.open_block f fs indent v rest))
        (λ e. nowhere_tells (f ∷ fs) b s e (λ at c w. clash (f.indent == indent) w.0 e))

-- ---- lines

first_tells : (line : List ℕ) (indent : ℕ) (rest : List ℕ) → Tells (FirstLineFault line rest) (at_start line indent rest)
unfolding at_start
first_tells line indent rest = tells_if Stands (is_marker 45 line) head document (λ m. of_head m) (λ m. of_document m)
  where
    Stands : ℕ → YamlCause → Type 0
    Stands = FirstLineFault line rest

    document : Result State YamlCause
    document = content 32 Document [] indent rest

    told : Tells (ContentFault 32 Document rest) document
    told = content_tells 32 Document [] indent rest refl

    behind : List ℕ → Result State YamlCause
    behind part = cond (is_empty part) (Ok Headed) document

    head : Result State YamlCause
    head = next_part false (drop 3 line) >>= behind

    none : List ℕ → ℕ
    none part = 0

    Here : ℕ → YamlCause → Type 0
    Here at c = (i : ℕ) × (at ≡ 3 + i) × NextFault false (drop 3 line) i c

    Then : List ℕ → ℕ → YamlCause → Type 0
    Then part at c = (is_empty part ≡ false) × ContentFault 32 Document rest at c

    of_document : is_marker 45 line ≡ false → Tells Stands document
    of_document m =
        tells_as (ContentFault 32 Document rest) Stands document (λ at c f. no_head (inl m) f)
        (λ at c w. elim w [ head_comment h i p f ↦ absurd (clash (is_marker 45 line) h m) | no_head h f ↦ f ]) told

    back : is_marker 45 line ≡ true → (at : ℕ) (c : YamlCause) → IsNoHead line → ContentFault 32 Document rest at c → Later (next_part false (drop 3 line)) none Then at c
    back m at c (inl h) f = absurd (clash (is_marker 45 line) m h)
    back m at c (inr p) f = (p.0, p.1, at, omega arith, (p.2, f))

    of_head : is_marker 45 line ≡ true → Tells Stands head
    of_head m =
        tells_as (λ at c. Here at c ⊎ Later (next_part false (drop 3 line)) none Then at c) Stands head
        (λ at c w. elim w [ inl h ↦ head_comment m h.0 h.1 h.2 | inr l ↦ no_head (inr (l.0, l.1, l.4.0)) (subst (λ i. ContentFault 32 Document rest i c) (omega (arith, l.3)) l.4.1) ])
        (λ at c w. elim w [ head_comment h i p f ↦ inl (i, p, f) | no_head h f ↦ inr (back m at c h f) ])
        (tells_then Here (next_part false (drop 3 line)) none Then behind (tells_shift 3 (NextFault false (drop 3 line)) (next_part false (drop 3 line)) (next_tells false (drop 3 line)))
        (λ part e. tells_if (Then part) (is_empty part) (Ok Headed) document (λ s at c w. clash (is_empty part) s w.0)
        (λ s. tells_as (ContentFault 32 Document rest) (Then part) document (λ at c f. (s, f)) (λ at c w. w.1) told)))

late_cause : (b : Bool) → 16 ≤ cause_number (cond b Syntax Indent)
late_cause true = omega arith
late_cause false = omega arith

state_tells : (state : State) (line : List ℕ) (indent : ℕ) (rest : List ℕ) → Tells (StateFault state line indent rest) (by_state state line indent rest)
state_tells Start line indent rest = first_tells line indent rest
state_tells Headed line indent rest = content_tells 32 Document [] indent rest refl
state_tells (Alone column v) line indent rest = misplaced_tells State (cond (column == indent) Syntax Indent) rest (late_cause (column == indent))
state_tells (Blocks frames slot) line indent rest = blocks_tells frames slot indent rest

counted_tells : (state : State) (line : List ℕ) (indent : ℕ) (rest : List ℕ) → Tells (CountedFault state line indent rest) (counted_line state line indent rest)
unfolding counted_line
counted_tells state line indent rest =
    tells_if Stands (begins 37 line) (Err (LeftOut Directive)) (cond (ends_document state line) (Err (LeftOut Documents)) (by_state state line indent rest))
    (λ b. (
      0,
      record {
        there = directive b refl refl;
        least = λ at c w. elim w [
          | directive q p d ↦ first_same 0 at (LeftOut Directive) c p d
          | documents q e p d ↦ absurd (clash (begins 37 line) b q)
          | in_line q e f ↦ absurd (clash (begins 37 line) b q)
        ];
      },
    ))
    (λ b. tells_if Stands (ends_document state line) (Err (LeftOut Documents)) (by_state state line indent rest) (λ e. of_end b e) (λ e. of_line b e))
  where
    Stands : ℕ → YamlCause → Type 0
    Stands = CountedFault state line indent rest

    of_end : begins 37 line ≡ false → ends_document state line ≡ true → Tells {X = State} Stands (Err (LeftOut Documents))
    of_end b e = (
      0,
      record {
        there = documents b e refl refl;
        least = λ at c w. elim w [
          | directive q p d ↦ absurd (clash (begins 37 line) q b)
          | documents q g p d ↦ first_same 0 at (LeftOut Documents) c p d
          | in_line q g f ↦ absurd (clash (ends_document state line) e g)
        ];
      },
    )

    of_line : begins 37 line ≡ false → ends_document state line ≡ false → Tells Stands (by_state state line indent rest)
    of_line b e =
        tells_as (StateFault state line indent rest) Stands (by_state state line indent rest) (λ at c f. in_line b e f)
        (λ at c w. elim w [
          | directive q p d ↦ absurd (clash (begins 37 line) q b)
          | documents q g p d ↦ absurd (clash (ends_document state line) g e)
          | in_line q g f ↦ f
        ])
        (state_tells state line indent rest)

-- a line is read, or the first of its faults is told
pub line_tells : (state : State) (line : List ℕ) → Tells (LineFault state line) (step state line)
unfolding step
line_tells state line =
    tells_part true line Some_ next (λ rest e. tells_if (Some_ rest) (is_empty rest) (Ok state) (counted_line state line (length line - length rest) rest)
    (λ s at c w. clash (is_empty rest) s w.0)
    (λ s. tells_as (CountedFault state line (length line - length rest) rest) (Some_ rest) (counted_line state line (length line - length rest) rest) (λ at c f. (s, f)) (λ at c w. w.1)
    (counted_tells state line (length line - length rest) rest)))
  where
    Some_ : List ℕ → ℕ → YamlCause → Type 0
    Some_ rest at c = (is_empty rest ≡ false) × CountedFault state line (length line - length rest) rest at c

    next : List ℕ → Result State YamlCause
    next rest = cond (is_empty rest) (Ok state) (counted_line state line (length line - length rest) rest)
