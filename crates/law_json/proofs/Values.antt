-- Where the text of a value ends, whatever stands behind it: a scanner knows it by brackets and strings alone.
use Rattle.std.proofs.Common.{◌≡◌, ◌≢◌, ◌||◌, ◌<◌, ◌^◌, ◌==◌, ◌/◌, ◌%◌, not, ℕ, zero, suc, Bool, true, false, List, [], ◌∷◌, ◌++◌, length, map, get_or, drop, subst, Some, refl, sym, ap, ◌∙◌, arith, append_assoc, decimal, flat_map, rules}
use Rattle.std.specs.Prelude.{if◌then◌else◌, nat_lt}
use Rattle.std.specs.Char.{digit_char, is_ascii_digit}
use Rattle.std.specs.List.{AllByRecursion, list_all, join_by}
use Rattle.std.proofs.lemmas.Bool.{cond_both, or_parts, and_parts}
use Rattle.std.proofs.lemmas.Fmt.{digits_decimal, decimal_nonempty}
use Rattle.std.proofs.lemmas.Grind.{common_steps}
use Rattle.std.proofs.lemmas.List.{append_cancel_left, append_cancel_right}
use Rattle.std.proofs.lemmas.Option.{same_Some}
use Rattle.std.proofs.lemmas.Str.Parse.{IsNumeralModel, numerals_by_value}
use Rattle.std.specs.Str.Parse.{digits_value}
use Rattle.json.specs.Print as printing
use Rattle.json.specs.Text.{content, plain}
use Rattle.json.proofs.Printed.Strings.{content-escape}
use Rattle.conf_json.specs.Json.{Member, null, flag, escape, escaped, quoted, list, braces}
use Rattle.conf_json.proofs.Printed.{quoted_is}

-- ---- the scanner

pub data Mode : Type 0 where
  between : Mode
  in_string : Mode
  behind_backslash : Mode

-- a byte that is no quotation mark, comma or bracket
abbrev pub is_inner : ℕ → Bool
is_inner c = not ((c == 34) || ((c == 44) || ((c == 91) || ((c == 93) || ((c == 123) || (c == 125))))))

-- what is left behind a value, by how many brackets are open
unfoldable pub left : Mode → ℕ → List ℕ → List ℕ
left mode depth [] = []
left in_string depth (c ∷ cs) = if c == 34 then left between depth cs else if c == 92 then left behind_backslash depth cs else left in_string depth cs
left behind_backslash depth (c ∷ cs) = left in_string depth cs
left between zero (c ∷ cs) =
    if is_inner c then left between 0 cs
    else if c == 34 then left in_string 0 cs
    else if (c == 91) || (c == 123) then left between 1 cs
    else c ∷ cs
left between (suc depth) (c ∷ cs) =
    if is_inner c then left between (suc depth) cs
    else if c == 34 then left in_string (suc depth) cs
    else if (c == 91) || (c == 123) then left between (suc (suc depth)) cs
    else if c == 44 then left between (suc depth) cs
    else left between depth cs

-- the scanner goes past the text
pub record IsPassed (text : List ℕ) : Type 0 where
  pub passed : (depth : ℕ) (rest : List ℕ) → left between depth (text ++ rest) ≡ left between depth rest

-- the same inside a string
abbrev IsPassedInside : List ℕ → Type 0
IsPassedInside text = (depth : ℕ) (rest : List ℕ) → left in_string depth (text ++ rest) ≡ left in_string depth rest

pub record IsValue (text : List ℕ) : Type 0 where
  pub some : text ≢ []
  pub is : IsPassed text

-- ---- texts without marks

inner_first : (depth c : ℕ) (cs : List ℕ) → is_inner c ≡ true → left between depth (c ∷ cs) ≡ left between depth cs
unfolding left
inner_first zero c cs is = rw is refl
inner_first (suc depth) c cs is = rw is refl

pub inner_passed : (text : List ℕ) → list_all is_inner text ≡ true → IsPassed text
inner_passed [] is = record { passed = λ depth rest. refl }
inner_passed (c ∷ cs) is =
    let parts = and_parts (is_inner c) (list_all is_inner cs) is in
    record { passed = λ depth rest. inner_first depth c (cs ++ rest) parts.0 ∙ (inner_passed cs parts.1).passed depth rest }

pub null_value : IsValue null
null_value = record { some = λ e. grind arith; is = inner_passed null refl }

pub flag_value : (b : Bool) → IsValue (flag b)
flag_value true = record { some = λ e. grind arith; is = inner_passed (flag true) refl }
flag_value false = record { some = λ e. grind arith; is = inner_passed (flag false) refl }

own : IsNumeralModel (λ ds. list_all is_ascii_digit ds ≡ true) (digits_value 10)
own = numerals_by_value (λ ds. list_all is_ascii_digit ds ≡ true) (search rules)

digit_inner : (c : ℕ) → is_ascii_digit c ≡ true → is_inner c ≡ true
digit_inner c is = grind (arith, common_steps, is)

digits_inner : (text : List ℕ) → list_all is_ascii_digit text ≡ true → list_all is_inner text ≡ true
digits_inner [] is = refl
digits_inner (c ∷ cs) is = let parts = and_parts (is_ascii_digit c) (list_all is_ascii_digit cs) is in rw (digit_inner c parts.0) (digits_inner cs parts.1)

pub all_digits_of : (n : ℕ) → n < 2 ^ 64 → list_all is_ascii_digit (decimal n) ≡ true
all_digits_of n small = digits_decimal own n small

pub number_value : (n : ℕ) → n < 2 ^ 64 → IsValue (decimal n)
number_value n small = record {
  some = λ none. let some = decimal_nonempty n small in omega (arith, some, ap length none);
  is = inner_passed (decimal n) (digits_inner (decimal n) (digits_decimal own n small));
}

-- ---- strings

behind_escape : (letter : ℕ) → IsPassedInside (escape letter)
unfolding left
behind_escape letter depth rest = refl

inside_first : (c : ℕ) → (c == 34) ≡ false → (c == 92) ≡ false → IsPassedInside (c ∷ [])
unfolding left
inside_first c no_quote no_backslash depth rest = rw (no_quote, no_backslash) refl

joined_inside : (a b : List ℕ) → IsPassedInside a → IsPassedInside b → IsPassedInside (a ++ b)
joined_inside a b first second depth rest = ap (left in_string depth) (append_assoc a b rest) ∙ first depth (b ++ rest) ∙ second depth rest

hex_other : (n mark : ℕ) → n < 16 → (mark ≡ 34) → (digit_char n == mark) ≡ false
hex_other n mark small is = grind (arith, common_steps, small, is)

hex_other_backslash : (n : ℕ) → n < 16 → (digit_char n == 92) ≡ false
hex_other_backslash n small = grind (arith, common_steps, small)

hex_inside : (n : ℕ) → n < 16 → IsPassedInside (digit_char n ∷ [])
hex_inside n small = inside_first (digit_char n) (hex_other n 34 small refl) (hex_other_backslash n small)

control_inside : (c : ℕ) → c < 32 → IsPassedInside (escape 117 ++ 48 ∷ 48 ∷ digit_char (c / 16) ∷ digit_char (c % 16) ∷ [])
control_inside c small =
    joined_inside (escape 117) (48 ∷ 48 ∷ digit_char (c / 16) ∷ digit_char (c % 16) ∷ []) (behind_escape 117)
    (joined_inside (48 ∷ []) (48 ∷ digit_char (c / 16) ∷ digit_char (c % 16) ∷ []) (inside_first 48 refl refl)
    (joined_inside (48 ∷ []) (digit_char (c / 16) ∷ digit_char (c % 16) ∷ []) (inside_first 48 refl refl)
    (joined_inside (digit_char (c / 16) ∷ []) (digit_char (c % 16) ∷ []) (hex_inside (c / 16) (omega (arith, small))) (hex_inside (c % 16) (omega arith)))))

escaped_inside : (c : ℕ) → IsPassedInside (escaped c)
unfolding escaped
escaped_inside c =
    cond_both ((c == 34) || (c == 92)) _ _ IsPassedInside (λ is. behind_escape c)
    (λ mark. cond_both (c == 8) _ _ IsPassedInside (λ is. behind_escape 98)
    (λ no. cond_both (c == 12) _ _ IsPassedInside (λ is. behind_escape 102)
    (λ no. cond_both (c == 10) _ _ IsPassedInside (λ is. behind_escape 110)
    (λ no. cond_both (c == 13) _ _ IsPassedInside (λ is. behind_escape 114)
    (λ no. cond_both (c == 9) _ _ IsPassedInside (λ is. behind_escape 116)
    (λ no. cond_both (nat_lt c 32) _ _ IsPassedInside (λ is. let small : c < 32 = grind (arith, is) in control_inside c small)
    (λ no. let none = or_parts (c == 34) (c == 92) mark in inside_first c none.0 none.1)))))))

all_inside : (text : List ℕ) → IsPassedInside (flat_map escaped text)
all_inside [] = λ depth rest. refl
all_inside (c ∷ cs) = joined_inside (escaped c) (flat_map escaped cs) (escaped_inside c) (all_inside cs)

opens : (depth : ℕ) (rest : List ℕ) → left between depth (34 ∷ rest) ≡ left in_string depth rest
unfolding left
opens zero rest = refl
opens (suc depth) rest = refl

closes : (depth : ℕ) (rest : List ℕ) → left in_string depth (34 ∷ rest) ≡ left between depth rest
unfolding left
closes depth rest = refl

pub quoted_value : (text : List ℕ) → IsValue (quoted text)
unfolding quoted
quoted_value text = record {
  some = λ e. grind arith;
  is = record {
    passed = λ depth rest.
        opens depth ((flat_map escaped text ++ 34 ∷ []) ++ rest) ∙ ap (left in_string depth) (append_assoc (flat_map escaped text) (34 ∷ []) rest)
        ∙ all_inside text depth (34 ∷ rest) ∙ closes depth rest;
  };
}

-- a string ends where it does, whatever stands behind it
pub quoted_cut : (a b r s : List ℕ) → quoted a ++ r ≡ quoted b ++ s → (a ≡ b) × (r ≡ s)
quoted_cut a b r s e = (same, append_cancel_left (quoted b) r s (ap (λ t. quoted t ++ r) (sym same) ∙ e))
  where
    text : (t r : List ℕ) → content plain (drop 1 (quoted t ++ r)) ≡ Some t
    text t r =
        ap (λ w. content plain (drop 1 (w ++ r))) (quoted_is t) ∙ ap (content plain) (append_assoc (printing.escape t) (34 ∷ []) r) ∙ content-escape t r

    same : a ≡ b
    same = same_Some a b (sym (text a r) ∙ ap (λ w. content plain (drop 1 w)) e ∙ text b s)

-- ---- arrays and objects

pub joined_passed : (a b : List ℕ) → IsPassed a → IsPassed b → IsPassed (a ++ b)
joined_passed a b first second = record { passed = λ depth rest. ap (left between depth) (append_assoc a b rest) ∙ first.passed depth (b ++ rest) ∙ second.passed depth rest }

-- what stands behind the first item
abbrev pub later : List (List ℕ) → List ℕ
later texts = flat_map (λ text. 44 ∷ text) texts

comma : (depth : ℕ) (rest : List ℕ) → left between (suc depth) (44 ∷ rest) ≡ left between (suc depth) rest
unfolding left
comma depth rest = refl

later_passed : (texts : List (List ℕ)) → AllByRecursion IsValue texts → (depth : ℕ) (rest : List ℕ) → left between (suc depth) (later texts ++ rest) ≡ left between (suc depth) rest
later_passed [] all depth rest = refl
later_passed (text ∷ texts) all depth rest =
    comma depth ((text ++ later texts) ++ rest) ∙ ap (left between (suc depth)) (append_assoc text (later texts) rest)
    ∙ all.0.is.passed (suc depth) (later texts ++ rest) ∙ later_passed texts all.1 depth rest

-- a bracket that opens, and the one that closes
pub record IsPair (open_byte close_byte : ℕ) : Type 0 where
  pub opened : (depth : ℕ) (rest : List ℕ) → left between depth (open_byte ∷ rest) ≡ left between (suc depth) rest
  pub closed : (depth : ℕ) (rest : List ℕ) → left between (suc depth) (close_byte ∷ rest) ≡ left between depth rest
  pub end : (rest : List ℕ) → left between 0 (close_byte ∷ rest) ≡ close_byte ∷ rest
  pub no_comma : close_byte ≢ 44

pub square : IsPair 91 93
unfolding left
square = record {
  opened = by;
  closed = λ depth rest. refl;
  end = λ rest. refl;
  no_comma = λ e. grind (arith, e);
}
  where
    by : (depth : ℕ) (rest : List ℕ) → left between depth (91 ∷ rest) ≡ left between (suc depth) rest
    by zero rest = refl
    by (suc depth) rest = refl

pub curly : IsPair 123 125
unfolding left
curly = record {
  opened = by;
  closed = λ depth rest. refl;
  end = λ rest. refl;
  no_comma = λ e. grind (arith, e);
}
  where
    by : (depth : ℕ) (rest : List ℕ) → left between depth (123 ∷ rest) ≡ left between (suc depth) rest
    by zero rest = refl
    by (suc depth) rest = refl

-- texts with commas between them
abbrev pub joined : List (List ℕ) → List ℕ
joined texts = join_by (λ text. text) (44 ∷ []) texts

all_passed : (texts : List (List ℕ)) → AllByRecursion IsValue texts → (depth : ℕ) (rest : List ℕ) → left between (suc depth) (joined texts ++ rest) ≡ left between (suc depth) rest
all_passed [] all depth rest = refl
all_passed (text ∷ texts) all depth rest =
    ap (left between (suc depth)) (append_assoc text (later texts) rest) ∙ all.0.is.passed (suc depth) (later texts ++ rest) ∙ later_passed texts all.1 depth rest

pub enclosed : (open_byte close_byte : ℕ) (texts : List (List ℕ)) → IsPair open_byte close_byte → AllByRecursion IsValue texts → IsValue (open_byte ∷ (joined texts ++ close_byte ∷ []))
enclosed open_byte close_byte texts pair all = record {
  some = λ e. grind arith;
  is = record {
    passed = λ depth rest.
        pair.opened depth ((joined texts ++ close_byte ∷ []) ++ rest) ∙ ap (left between (suc depth)) (append_assoc (joined texts) (close_byte ∷ []) rest)
        ∙ all_passed texts all depth (close_byte ∷ rest) ∙ pair.closed depth rest;
  };
}

pub list_value : (texts : List (List ℕ)) → AllByRecursion IsValue texts → IsValue (list texts)
unfolding list
list_value texts all = enclosed 91 93 texts square all

-- a member as it stands
abbrev pub piece : Member → List ℕ
piece m = quoted m.0 ++ 58 ∷ m.1

some_piece : (name rest : List ℕ) → quoted name ++ rest ≢ []
unfolding quoted
some_piece name rest e = grind arith

piece_value : (m : Member) → IsValue m.1 → IsValue (piece m)
piece_value m is = record {
  some = some_piece m.0 (58 ∷ m.1);
  is = joined_passed (quoted m.0) (58 ∷ m.1) (quoted_value m.0).is (joined_passed (58 ∷ []) m.1 (inner_passed (58 ∷ []) refl) is.is);
}

pieces : (ms : List Member) → flat_map (λ m. 44 ∷ (quoted m.0 ++ 58 ∷ m.1)) ms ≡ later (map piece ms)
pieces [] = refl
pieces (m ∷ ms) = ap (λ rest. 44 ∷ (piece m ++ rest)) (pieces ms)

braces_are : (ms : List Member) → braces ms ≡ 123 ∷ (joined (map piece ms) ++ 125 ∷ [])
unfolding braces
braces_are [] = refl
braces_are (m ∷ ms) = ap (λ rest. 123 ∷ ((piece m ++ rest) ++ 125 ∷ [])) (pieces ms)

pieces_values : (ms : List Member) → AllByRecursion (λ m. IsValue m.1) ms → AllByRecursion IsValue (map piece ms)
pieces_values [] all = tt
pieces_values (m ∷ ms) all = (piece_value m all.0, pieces_values ms all.1)

pub braces_value : (ms : List Member) → AllByRecursion (λ m. IsValue m.1) ms → IsValue (braces ms)
braces_value ms all = subst IsValue (sym (braces_are ms)) (enclosed 123 125 (map piece ms) curly (pieces_values ms all))

-- ---- the same text is the same parts

-- a value can end before it
abbrev Ends : List ℕ → Type 0
Ends rest = left between 0 rest ≡ rest

cut : (a b r s : List ℕ) → IsPassed a → IsPassed b → Ends r → Ends s → a ++ r ≡ b ++ s → (a ≡ b) × (r ≡ s)
cut a b r s first second at_r at_s e =
    let same : r ≡ s = sym at_r ∙ sym (first.passed 0 r) ∙ ap (left between 0) e ∙ second.passed 0 s ∙ at_s in
    (append_cancel_right a b s (ap (λ w. a ++ w) (sym same) ∙ e), same)

ends_later : (close_byte : ℕ) (texts : List (List ℕ)) → ((rest : List ℕ) → Ends (close_byte ∷ rest)) → Ends (later texts ++ close_byte ∷ [])
unfolding left
ends_later close_byte [] closed = closed []
ends_later close_byte (text ∷ texts) closed = refl

same_later : (open_byte close_byte : ℕ) → IsPair open_byte close_byte → (ts us : List (List ℕ)) → AllByRecursion IsValue ts → AllByRecursion IsValue us
    → later ts ++ close_byte ∷ [] ≡ later us ++ close_byte ∷ [] → ts ≡ us
same_later open_byte close_byte pair [] [] in_t in_u e = refl
same_later open_byte close_byte pair [] (u ∷ us) in_t in_u e = absurd (pair.no_comma (ap (λ w. get_or w 0 0) e))
same_later open_byte close_byte pair (t ∷ ts) [] in_t in_u e = absurd (pair.no_comma (sym (ap (λ w. get_or w 0 0) e)))
same_later open_byte close_byte pair (t ∷ ts) (u ∷ us) in_t in_u e =
    let behind : t ++ (later ts ++ close_byte ∷ []) ≡ u ++ (later us ++ close_byte ∷ []) =
    sym (append_assoc t (later ts) (close_byte ∷ [])) ∙ ap (drop 1) e ∙ append_assoc u (later us) (close_byte ∷ []) in
    let both = cut t u _ _ in_t.0.is in_u.0.is (ends_later close_byte ts pair.end) (ends_later close_byte us pair.end) behind in
    ap (λ w. w ∷ ts) both.0 ∙ ap (λ ws. u ∷ ws) (same_later open_byte close_byte pair ts us in_t.1 in_u.1 both.1)

no_passed : IsPassed []
no_passed = record { passed = λ depth rest. refl }

same_joined : (open_byte close_byte : ℕ) → IsPair open_byte close_byte → (ts us : List (List ℕ)) → AllByRecursion IsValue ts → AllByRecursion IsValue us
    → joined ts ++ close_byte ∷ [] ≡ joined us ++ close_byte ∷ [] → ts ≡ us
same_joined open_byte close_byte pair [] [] in_t in_u e = refl
same_joined open_byte close_byte pair [] (u ∷ us) in_t in_u e =
    absurd (in_u.0.some (sym (cut [] u (close_byte ∷ []) (later us ++ close_byte ∷ []) no_passed in_u.0.is (pair.end []) (ends_later close_byte us pair.end) (e ∙ append_assoc u (later us) (close_byte ∷ []))).0))
same_joined open_byte close_byte pair (t ∷ ts) [] in_t in_u e =
    absurd (in_t.0.some (sym (cut [] t (close_byte ∷ []) (later ts ++ close_byte ∷ []) no_passed in_t.0.is (pair.end []) (ends_later close_byte ts pair.end) (sym e ∙ append_assoc t (later ts) (close_byte ∷ []))).0))
same_joined open_byte close_byte pair (t ∷ ts) (u ∷ us) in_t in_u e =
    let behind : t ++ (later ts ++ close_byte ∷ []) ≡ u ++ (later us ++ close_byte ∷ []) =
    sym (append_assoc t (later ts) (close_byte ∷ [])) ∙ e ∙ append_assoc u (later us) (close_byte ∷ []) in
    let both = cut t u _ _ in_t.0.is in_u.0.is (ends_later close_byte ts pair.end) (ends_later close_byte us pair.end) behind in
    ap (λ w. w ∷ ts) both.0 ∙ ap (λ ws. u ∷ ws) (same_later open_byte close_byte pair ts us in_t.1 in_u.1 both.1)

pub same_list : (ts us : List (List ℕ)) → AllByRecursion IsValue ts → AllByRecursion IsValue us → list ts ≡ list us → ts ≡ us
unfolding list
same_list ts us in_t in_u e = same_joined 91 93 square ts us in_t in_u (ap (drop 1) e)

same_piece : (m n : Member) → piece m ≡ piece n → m ≡ n
same_piece m n e = let parts = quoted_cut m.0 n.0 (58 ∷ m.1) (58 ∷ n.1) e in ap (λ (name : List ℕ). (name, m.1)) parts.0 ∙ ap (λ (text : List ℕ). (n.0, text)) (ap (drop 1) parts.1)

same_pieces : (ms ns : List Member) → map piece ms ≡ map piece ns → ms ≡ ns
same_pieces [] [] e = refl
same_pieces [] (n ∷ ns) e = absurd (let none : 0 ≡ suc (length (map piece ns)) = ap length e in omega (arith, none))
same_pieces (m ∷ ms) [] e = absurd (let none : suc (length (map piece ms)) ≡ 0 = ap length e in omega (arith, none))
same_pieces (m ∷ ms) (n ∷ ns) e =
    ap (λ (w : Member). w ∷ ms) (same_piece m n (ap (λ w. get_or w 0 []) e)) ∙ ap (λ ws. n ∷ ws) (same_pieces ms ns (ap (drop 1) e))

pub same_braces : (ms ns : List Member) → AllByRecursion (λ m. IsValue m.1) ms → AllByRecursion (λ m. IsValue m.1) ns → braces ms ≡ braces ns → ms ≡ ns
same_braces ms ns in_m in_n e =
    same_pieces ms ns (same_joined 123 125 curly (map piece ms) (map piece ns) (pieces_values ms in_m) (pieces_values ns in_n) (ap (drop 1) (sym (braces_are ms) ∙ e ∙ braces_are ns)))

pub same_quoted : (a b : List ℕ) → quoted a ≡ quoted b → a ≡ b
same_quoted a b e = (quoted_cut a b [] [] (ap (λ w. w ++ []) e)).0
