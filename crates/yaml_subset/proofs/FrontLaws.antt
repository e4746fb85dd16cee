-- A text up to a line feed has the first lines of the text.
use Rattle.std.proofs.Common.{◌≡◌, ℕ, suc, ◌+◌, ◌<◌, ◌==◌, Bool, true, false, cond, List, [], ◌∷◌, ◌++◌, length, take, get_or, refl, sym, ◌∙◌, ap, arith, subst, length-append}
use Rattle.std.specs.List.{slice_split, onto_first}
use Rattle.std.specs.Str.{IsUtf8}
use Rattle.std.specs.Str.Lines.{lines, lines_of_parts, strip_carriage_return}
use Rattle.std.proofs.lemmas.Str.{IsUtf8-from_is_utf8, is_utf8-from_IsUtf8, IsUtf8-take, IsCharBoundary-after_ascii}
use Rattle.std.proofs.lemmas.List.Splits.{length-slice_split}
use Rattle.yaml_subset.specs.declared.blocks.State.TheVariants.{Start}
use Rattle.yaml_tree.specs.declared.tree.Tree.{Tree}
use Rattle.yaml_subset.specs.Reading.{lines_from}
use Rattle.yaml_subset.specs.Grammar.{Reads}
use Rattle.yaml_subset.proofs.ReadingLaws.{HasTree, accepted_front}
use Rattle.yaml_subset.proofs.GrammarTexts.{lines_run}
use Rattle.yaml_subset.proofs.GrammarLines.{lines_split}

abbrev parts_of : List ℕ → List (List ℕ)
parts_of text = slice_split (λ b. b == 10) text

onto_front : (x : ℕ) (parts others : List (List ℕ)) → 0 < length parts → onto_first x (parts ++ others) ≡ onto_first x parts ++ others
onto_front x [] others h = absurd (omega arith)
onto_front x (p ∷ ps) others h = refl

parts_front : (front back : List ℕ) → parts_of (front ++ 10 ∷ back) ≡ parts_of front ++ parts_of back
parts_front [] back = refl
parts_front (x ∷ xs) back = rw (parts_front xs back) (by_test (x == 10))
  where
    by_test : (b : Bool) → cond b ([] ∷ (parts_of xs ++ parts_of back)) (onto_first x (parts_of xs ++ parts_of back))
        ≡ cond b ([] ∷ parts_of xs) (onto_first x (parts_of xs)) ++ parts_of back
    by_test true = refl
    by_test false = onto_front x (parts_of xs) (parts_of back) (omega (arith, length-slice_split (λ b. b == 10) xs))

lines_parts : (parts others : List (List ℕ)) → 0 < length others → lines_of_parts (parts ++ others) ≡ lines_of_parts (parts ++ [] ∷ []) ++ lines_of_parts others
lines_parts parts [] h = absurd (omega arith)
lines_parts [] (y ∷ more) h = refl
lines_parts (x ∷ []) (y ∷ more) h = refl
lines_parts (x ∷ a ∷ as_) (y ∷ more) h = ap (λ ls. strip_carriage_return x ∷ ls) (lines_parts (a ∷ as_) (y ∷ more) h)

lines_front : (front back : List ℕ) → lines (front ++ 10 ∷ back) ≡ lines (front ++ 10 ∷ []) ++ lines back
lines_front front back =
    ap lines_of_parts (parts_front front back)
    ∙ lines_parts (parts_of front) (parts_of back) (omega (arith, length-slice_split (λ b. b == 10) back))
    ∙ ap (λ ps. lines_of_parts ps ++ lines back) (sym (parts_front front []))

take_front : (front back : List ℕ) → take (length front + 1) (front ++ 10 ∷ back) ≡ front ++ 10 ∷ []
take_front [] back = refl
take_front (x ∷ xs) back = let e : length (x ∷ xs) + 1 ≡ suc (length xs + 1) = omega arith in rw e (ap (λ ys. x ∷ ys) (take_front xs back))

at_front : (front back : List ℕ) → get_or (front ++ 10 ∷ back) (length front) 0 ≡ 10
at_front [] back = refl
at_front (x ∷ xs) back = at_front xs back

utf8_front : (front back : List ℕ) → IsUtf8 (front ++ 10 ∷ back) → IsUtf8 (front ++ 10 ∷ [])
utf8_front front back u =
    let within : length front < length (front ++ 10 ∷ back) = omega (arith, length-append front (10 ∷ back)) in
    let small : get_or (front ++ 10 ∷ back) (length front) 0 < 128 = omega (arith, at_front front back) in
    subst IsUtf8 (take_front front back) (IsUtf8-take (front ++ 10 ∷ back) (length front + 1) u (IsCharBoundary-after_ascii (front ++ 10 ∷ back) (length front) u within small))

-- a text with a tree has one up to each of its line feeds
pub front_accepted : (front back : List ℕ) (t : Tree) → Reads (front ++ 10 ∷ back) t → (u : Tree) × Reads (front ++ 10 ∷ []) u
front_accepted front back t r =
    let P : List (List ℕ) → Type 0 = λ ls. HasTree (lines_from 0 Start ls) in
    let read = accepted_front (lines (front ++ 10 ∷ [])) (lines back) 0 Start (subst P (lines_front front back) (t, lines_run (lines (front ++ 10 ∷ back)) t r.reads 0)) in (
      read.0,
      record {
        short = omega (arith, r.short, length-append front (10 ∷ back), length-append front (10 ∷ []));
        utf8 = is_utf8-from_IsUtf8 _ (utf8_front front back (IsUtf8-from_is_utf8 _ r.utf8));
        reads = lines_split (lines (front ++ 10 ∷ [])) 0 read.0 read.1;
      },
    )
