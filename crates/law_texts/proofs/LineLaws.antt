-- A text is cut into lines where line feeds end them.
use Rattle.std.proofs.Common.{◌≡◌, ℕ, zero, suc, ◌-◌, ◌<◌, ◌==◌, Bool, true, false, cond, not, ◌&&◌, List, [], ◌∷◌, ◌++◌, length, take, refl, sym, ◌∙◌, ap, subst, arith, length-append, slice_index}
use Rattle.std.specs.List.{slice_split}
use Rattle.std.specs.Str.Lines.{lines, lines_of_parts, strip_carriage_return}
use Rattle.std.proofs.lemmas.Bool.Decides.{nat_tests}
use Rattle.std.proofs.lemmas.List.Splits.{length-slice_split}
use Rattle.yaml_subset.specs.Characters.{is_empty}
use Rattle.yaml_subset.proofs.LineValues.{same}
use Rattle.law_texts.specs.Lines.{is_one_line, ends_in_return, HasLines, no_line, last_line, line_feed, return_and_line_feed}

abbrev parts_of : List ℕ → List (List ℕ)
parts_of text = slice_split (λ b. b == 10) text

-- ---- the first line

and_parts : (a b : Bool) → a && b ≡ true → (a ≡ true) × (b ≡ true)
and_parts true b h = (refl, h)
and_parts false b h = absurd cc

not_true : (b : Bool) → not b ≡ true → b ≡ false
not_true true h = absurd cc
not_true false h = refl

one_part : (line : List ℕ) → is_one_line line ≡ true → parts_of line ≡ line ∷ []
one_part [] h = refl
one_part (c ∷ cs) h =
    let a = and_parts (not (c == 10)) (is_one_line cs) h in
    let e = not_true (c == 10) a.0 in
    rw (e, one_part cs a.1) refl

first_part : (line more : List ℕ) → is_one_line line ≡ true → parts_of (line ++ 10 ∷ more) ≡ line ∷ parts_of more
first_part [] more h = refl
first_part (c ∷ cs) more h =
    let a = and_parts (not (c == 10)) (is_one_line cs) h in
    let e = not_true (c == 10) a.0 in
    rw (e, first_part cs more a.1) refl

some_parts : (more : List ℕ) → 0 < length (parts_of more)
some_parts more = omega (arith, length-slice_split (λ b. b == 10) more)

lines_more : (line : List ℕ) (parts : List (List ℕ)) → 0 < length parts → lines_of_parts (line ∷ parts) ≡ strip_carriage_return line ∷ lines_of_parts parts
lines_more line [] h = absurd (omega arith)
lines_more line (p ∷ ps) h = refl

lines_at_feed : (line more : List ℕ) → is_one_line line ≡ true → lines (line ++ 10 ∷ more) ≡ strip_carriage_return line ∷ lines more
lines_at_feed line more h = ap lines_of_parts (first_part line more h) ∙ lines_more line (parts_of more) (some_parts more)

lines_at_end : (line : List ℕ) → is_one_line line ≡ true → is_empty line ≡ false → lines line ≡ line ∷ []
lines_at_end line h some = ap lines_of_parts (one_part line h) ∙ by_length line some
  where
    by_length : (line : List ℕ) → is_empty line ≡ false → cond (length line == 0) [] (line ∷ []) ≡ line ∷ []
    by_length [] h = absurd cc
    by_length (c ∷ cs) h = let e : length (c ∷ cs) == 0 ≡ false = grind (arith, nat_tests) in rw e refl

-- ---- the carriage return

one_before : (c : ℕ) (line : List ℕ) → 0 < length line → length (c ∷ line) - 1 ≡ suc (length line - 1)
one_before c line h = omega arith

last_of : (line : List ℕ) → slice_index line (length line - 1) == 13 ≡ ends_in_return line
last_of [] = refl
last_of (c ∷ []) = refl
last_of (c ∷ d ∷ more) = ap (λ n. slice_index (c ∷ d ∷ more) n == 13) (one_before c (d ∷ more) (omega arith)) ∙ last_of (d ∷ more)

take_last : (line : List ℕ) → ends_in_return line ≡ true → take (length line - 1) line ++ 13 ∷ [] ≡ line
take_last [] h = absurd cc
take_last (c ∷ []) h = ap (λ (x : ℕ). x ∷ []) (sym (same c 13 h))
take_last (c ∷ d ∷ more) h = ap (λ n. take n (c ∷ d ∷ more) ++ 13 ∷ []) (one_before c (d ∷ more) (omega arith)) ∙ ap (λ xs. c ∷ xs) (take_last (d ∷ more) h)

take_front : (line : List ℕ) → take (length (line ++ 13 ∷ []) - 1) (line ++ 13 ∷ []) ≡ line
take_front line = ap (λ n. take n (line ++ 13 ∷ [])) (omega (arith, length-append line (13 ∷ []))) ∙ by_line line
  where
    by_line : (line : List ℕ) → take (length line) (line ++ 13 ∷ []) ≡ line
    by_line [] = refl
    by_line (c ∷ cs) = ap (λ xs. c ∷ xs) (by_line cs)

return_last : (line : List ℕ) → ends_in_return (line ++ 13 ∷ []) ≡ true
return_last [] = refl
return_last (c ∷ []) = refl
return_last (c ∷ d ∷ more) = return_last (d ∷ more)

kept : (line : List ℕ) → ends_in_return line ≡ false → strip_carriage_return line ≡ line
kept line h = let e : slice_index line (length line - 1) == 13 ≡ false = last_of line ∙ h in rw e refl

stripped : (line : List ℕ) → strip_carriage_return (line ++ 13 ∷ []) ≡ line
stripped line = let e : slice_index (line ++ 13 ∷ []) (length (line ++ 13 ∷ []) - 1) == 13 ≡ true = last_of (line ++ 13 ∷ []) ∙ return_last line in rw e (take_front line)

one_more : (line : List ℕ) → is_one_line line ≡ true → is_one_line (line ++ 13 ∷ []) ≡ true
one_more [] h = refl
one_more (c ∷ cs) h = let a = and_parts (not (c == 10)) (is_one_line cs) h in rw a.0 (one_more cs a.1)

one_less : (n : ℕ) (line : List ℕ) → is_one_line line ≡ true → is_one_line (take n line) ≡ true
one_less zero line h = refl
one_less (suc n) [] h = refl
one_less (suc n) (c ∷ cs) h = let a = and_parts (not (c == 10)) (is_one_line cs) h in rw a.0 (one_less n cs a.1)

-- ---- all lines

lines_are : (text : List ℕ) (found : List (List ℕ)) → HasLines text found → lines text ≡ found
lines_are text found no_line = refl
lines_are text found (last_line line one some) = lines_at_end line one some
lines_are text found (line_feed t line more ls e one ends has) = ap lines e ∙ lines_at_feed line more one ∙ ap (λ (x : List ℕ). x ∷ lines more) (kept line ends) ∙ ap (λ xs. line ∷ xs) (lines_are more ls has)
lines_are text found (return_and_line_feed t line more ls e one has) =
    ap lines e ∙ lines_at_feed (line ++ 13 ∷ []) more (one_more line one) ∙ ap (λ (x : List ℕ). x ∷ lines more) (stripped line) ∙ ap (λ xs. line ∷ xs) (lines_are more ls has)

pub lines_cut : (text : List ℕ) (found : List (List ℕ)) → HasLines text found → lines text ≡ found
lines_cut = lines_are

-- a text is one line, or has a first line feed
data Cut (text : List ℕ) : Type 0 where
  cut_none : is_one_line text ≡ true → Cut text
  cut_at : (line more : List ℕ) → text ≡ line ++ 10 ∷ more → is_one_line line ≡ true → length more < length text → Cut text

cut : (text : List ℕ) → Cut text
cut [] = cut_none refl
cut (c ∷ cs) = by_feed (c == 10) refl (cut cs)
  where
    later : c == 10 ≡ false → Cut cs → Cut (c ∷ cs)
    later e (cut_none h) = cut_none (rw e h)
    later e (cut_at line more whole one less) = cut_at (c ∷ line) more (ap (λ xs. c ∷ xs) whole) (rw e one) (omega (arith, less))

    by_feed : (b : Bool) → c == 10 ≡ b → Cut cs → Cut (c ∷ cs)
    by_feed true e w = cut_at [] cs (ap (λ (x : ℕ). x ∷ cs) (same c 10 e)) refl (omega arith)
    by_feed false e w = later e w

has_lines : (n : ℕ) (text : List ℕ) → length text < n → HasLines text (lines text)
has_lines zero text l = absurd (omega arith)
has_lines (suc n) text l = by_cut (cut text) (λ more less. has_lines n more (omega (arith, less)))
  where
    at_feed : (line more : List ℕ) → text ≡ line ++ 10 ∷ more → is_one_line line ≡ true → HasLines more (lines more) → (b : Bool) → ends_in_return line ≡ b → HasLines text (lines text)
    at_feed line more whole one has false e =
        subst (HasLines text) (ap (λ (x : List ℕ). x ∷ lines more) (sym (kept line e)) ∙ sym (lines_at_feed line more one) ∙ ap lines (sym whole))
        (line_feed text line more (lines more) whole one e has)
    at_feed line more whole one has true e =
        let front : List ℕ = take (length line - 1) line in
        let is : take (length line - 1) line ++ 13 ∷ [] ≡ line = take_last line e in
        let left : take (length line - 1) line ≡ strip_carriage_return line = sym (stripped (take (length line - 1) line)) ∙ ap strip_carriage_return is in
        subst (HasLines text) (ap (λ (x : List ℕ). x ∷ lines more) left ∙ sym (lines_at_feed line more one) ∙ ap lines (sym whole))
        (return_and_line_feed text (take (length line - 1) line) more (lines more) (whole ∙ ap (λ (x : List ℕ). x ++ 10 ∷ more) (sym is)) (one_less (length line - 1) line one) has)

    at_end : (b : Bool) → is_empty text ≡ b → is_one_line text ≡ true → HasLines text (lines text)
    at_end false e one = subst (HasLines text) (sym (lines_at_end text one e)) (last_line text one e)
    at_end true e one = subst (λ (x : List ℕ). HasLines x (lines x)) (sym (nothing text e)) no_line
      where
        nothing : (x : List ℕ) → is_empty x ≡ true → x ≡ []
        nothing [] e = refl
        nothing (c ∷ cs) e = absurd cc

    by_cut : Cut text → ((more : List ℕ) → length more < length text → HasLines more (lines more)) → HasLines text (lines text)
    by_cut (cut_none one) later = at_end (is_empty text) refl one
    by_cut (cut_at line more whole one less) later = at_feed line more whole one (later more less) (ends_in_return line) refl

pub lines_found : (text : List ℕ) (found : List (List ℕ)) → lines text ≡ found → HasLines text found
lines_found text found e = subst (HasLines text) e (has_lines (suc (length text)) text (omega arith))
