-- Words, one by one.
use Rattle.std.proofs.Common.{◌≡◌, ◌≢◌, ◌==◌, ◌++◌, ◌-◌, ◌<◌, ◌≤◌, ℕ, true, false, List, [], ◌∷◌, length, take, drop, get_or, Option, Some, None, refl, ap, arith, append_assoc}
use Rattle.std.specs.Prelude.{MatchOption}
use Rattle.std.specs.List.{list_any, position_or_len}
use Rattle.std.specs.Borrow.{Bor}
use Rattle.std.proofs.Math.Seq.{take-length}
use Rattle.std.proofs.lemmas.Grind.{common_steps}
use Rattle.command_line.specs.declared.parts.Parts.{Parts}
use Rattle.command_line.specs.declared.parts.CommandOption.{CommandOption}
use Rattle.command_line.specs.Parts.{is_plain, behind_dash, is_equals, name_and_value, option_in, with_plain, with_option, parted}
use Rattle.command_line.specs.Parting.{Lends, joined}

pub lent_behind : (text : List ℕ) (found : Option (Bor (List ℕ)))
    → MatchOption found ((rest : List ℕ) → text ≢ 45 ∷ rest) (λ x. text ≡ 45 ∷ x.now) → Lends found (behind_dash text)
lent_behind text (Some x) e = ap behind_dash e
lent_behind [] None h = refl
lent_behind (b ∷ bs) None h = let other : b ≢ 45 = λ e. h bs (ap (λ n. n ∷ bs) e) in grind (arith, common_steps, other)

-- ---- an option's name

no_equals : (text : List ℕ) → position_or_len is_equals text ≡ length text → list_any is_equals text ≡ false
no_equals [] e = refl
no_equals (b ∷ bs) e = grind (arith, common_steps, no_equals bs)

pub name_alone : (text : List ℕ) → position_or_len is_equals text ≡ length text → false ≡ (length text == 0) → name_and_value text ≡ Some (text, None)
name_alone text lacks some = rw (lacks, take-length text, no_equals text lacks, ← some) refl

pub behind_two : (word behind text : List ℕ) → behind_dash word ≡ Some behind → behind_dash behind ≡ Some text → option_in word ≡ name_and_value text
behind_two word behind text first second = rw (first, second) refl

-- ---- one step

pub parted_plain : (word : List ℕ) (words : List (List ℕ)) → is_plain word ≡ true → parted None (word ∷ words) ≡ with_plain word (parted None words)
unfolding parted
parted_plain word words plain = rw plain refl

pub parted_wrong : (word : List ℕ) (words : List (List ℕ)) → is_plain word ≡ false → option_in word ≡ None → parted None (word ∷ words) ≡ None
unfolding parted
parted_wrong word words other none = rw (other, none) refl

pub parted_joined : (word name value : List ℕ) (words : List (List ℕ)) → is_plain word ≡ false → option_in word ≡ Some (name, Some value)
    → parted None (word ∷ words) ≡ with_option name value (parted None words)
unfolding parted
parted_joined word name value words other found = rw (other, found) refl

pub parted_apart : (word name value : List ℕ) (words : List (List ℕ)) → is_plain word ≡ false → option_in word ≡ Some (name, None)
    → parted None (word ∷ value ∷ words) ≡ with_option name value (parted None words)
unfolding parted
parted_apart word name value words other found = rw (other, found) refl

pub parted_cut : (word name : List ℕ) → is_plain word ≡ false → option_in word ≡ Some (name, None) → parted None (word ∷ []) ≡ None
unfolding parted
parted_cut word name other found = rw (other, found) refl

-- ---- what was added

joined_plain : (old : Parts) (word : List ℕ) (more : Option Parts) → joined old (with_plain word more) ≡ joined (record old { plain = old.plain ++ word ∷ [] }) more
joined_plain old word None = refl
joined_plain old word (Some m) = rw append_assoc refl

joined_option : (old : Parts) (name value : List ℕ) (more : Option Parts)
    → joined old (with_option name value more) ≡ joined (record old { options = old.options ++ record { name = name; value = value } ∷ [] }) more
joined_option old name value None = refl
joined_option old name value (Some m) = rw append_assoc refl

pub adds_plain : (old : Parts) (plain : List (List ℕ)) (word : List ℕ) (words : List (List ℕ))
    → is_plain word ≡ true → plain ≡ old.plain ++ word ∷ []
    → joined old (parted None (word ∷ words)) ≡ joined (record old { plain = plain }) (parted None words)
adds_plain old plain word words is new = rw (parted_plain word words is, new) (joined_plain old word (parted None words))

pub adds_joined : (old : Parts) (options : List CommandOption) (word name value : List ℕ) (words : List (List ℕ))
    → is_plain word ≡ false → option_in word ≡ Some (name, Some value) → options ≡ old.options ++ record { name = name; value = value } ∷ []
    → joined old (parted None (word ∷ words)) ≡ joined (record old { options = options }) (parted None words)
adds_joined old options word name value words other found new =
    rw (parted_joined word name value words other found, new) (joined_option old name value (parted None words))

pub adds_apart : (old : Parts) (options : List CommandOption) (word name value : List ℕ) (words : List (List ℕ))
    → is_plain word ≡ false → option_in word ≡ Some (name, None) → options ≡ old.options ++ record { name = name; value = value } ∷ []
    → joined old (parted None (word ∷ value ∷ words)) ≡ joined (record old { options = options }) (parted None words)
adds_apart old options word name value words other found new =
    rw (parted_apart word name value words other found, new) (joined_option old name value (parted None words))

-- ---- the first of several words

pub front_of : (words : List (List ℕ)) (first : List ℕ) → 1 ≤ length words → first ≡ get_or words 0 first → words ≡ first ∷ take (length words - 1) (drop 1 words)
front_of [] first some is = absurd (omega arith)
front_of (word ∷ words) first some is = grind (arith, common_steps)

pub none_of : (words : List (List ℕ)) → length words < 1 → words ≡ []
none_of [] few = refl
none_of (word ∷ words) few = absurd (omega arith)
