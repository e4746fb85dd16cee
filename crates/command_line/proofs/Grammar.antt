-- Words have the parts that are written by them, and no others.
use Rattle.std.proofs.Common.{◌≡◌, ◌≢◌, ◌==◌, ◌++◌, ◌∙◌, ℕ, Bool, true, false, cond, List, [], ◌∷◌, length, append_assoc, inl, inr, Option, Some, None, refl, sym, ap, subst, arith}
use Rattle.std.specs.Prelude.{IsTrue, codes}
use Rattle.std.specs.List.{AllByRecursion, list_any, position_or_len, before_first, after_first}
use Rattle.std.proofs.lemmas.Option.{cond_some, none-some, same_Some}
use Rattle.std.proofs.lemmas.Bool.{true≢false}
use Rattle.std.proofs.lemmas.Grind.{common_steps}
use Rattle.net_base.specs.AddressReading.{◌>>=◌}
use Rattle.command_line.specs.declared.parts.CommandOption.{CommandOption}
use Rattle.command_line.specs.declared.parts.Parts.{Parts}
use Rattle.command_line.specs.Parts.{is_plain, behind_dash, is_equals, name_and_value, option_in, with_plain, with_option, parted, have_distinct_names, parts_of}
use Rattle.command_line.specs.Written.{IsPlainWord, IsName, Written, End, PlainWord, Apart, Joined}
use Rattle.command_line.proofs.Marks.{past_before, before_mark, after_mark, has_mark, by_mark, split_mark}
use Rattle.command_line.proofs.Words.{name_alone, parted_plain, parted_wrong, parted_joined, parted_apart, parted_cut}

-- ---- from what is written

plain_is : (word : List ℕ) → IsPlainWord word → is_plain word ≡ true
plain_is [] h = absurd h
plain_is (b ∷ bs) h = grind (arith, common_steps)

lacks_sign : (name : List ℕ) → AllByRecursion (λ c. c ≢ 61) name → position_or_len is_equals name ≡ length name
lacks_sign [] all = refl
lacks_sign (b ∷ bs) all = let rest = lacks_sign bs all.1 in let first = all.0 in grind (arith, common_steps, rest, first)

some_of : (b : ℕ) (bs : List ℕ) → false ≡ (length (b ∷ bs) == 0)
some_of b bs = grind (arith, common_steps)

apart_is : (name : List ℕ) → IsName name → option_in (codes "--" ++ name) ≡ Some (name, None)
apart_is [] is = absurd is
apart_is (b ∷ bs) is = name_alone (b ∷ bs) (lacks_sign (b ∷ bs) is) (some_of b bs)

name_and : (b : ℕ) (bs value : List ℕ) → AllByRecursion (λ c. c ≢ 61) (b ∷ bs) → name_and_value (b ∷ bs ++ 61 ∷ value) ≡ Some (b ∷ bs, Some value)
name_and b bs value is = rw (before_mark 61 (b ∷ bs) value is, after_mark 61 (b ∷ bs) value is, has_mark 61 (b ∷ bs) value, ← some_of b bs) refl

joined_is : (name value : List ℕ) → IsName name → option_in (codes "--" ++ name ++ codes "=" ++ value) ≡ Some (name, Some value)
joined_is [] value is = absurd is
joined_is (b ∷ bs) value is = ap name_and_value (append_assoc (b ∷ bs) (61 ∷ []) value) ∙ name_and b bs value is

again : {words plain : List (List ℕ)} {options : List CommandOption} → Written words plain options → parted None words ≡ Some (record { plain = plain; options = options })
unfolding parted
again End = refl
again (PlainWord word words plain options is rest) = parted_plain word words (plain_is word is) ∙ ap (with_plain word) (again rest)
again (Apart word name value words plain options is spelled rest) =
    parted_apart word name value words (ap is_plain spelled) (ap option_in spelled ∙ apart_is name is) ∙ ap (with_option name value) (again rest)
again (Joined word name value words plain options is spelled rest) =
    parted_joined word name value words (ap is_plain spelled) (ap option_in spelled ∙ joined_is name value is) ∙ ap (with_option name value) (again rest)

pub what_is_written : (words : List (List ℕ)) (parts : Parts) → Written words parts.plain parts.options → IsTrue (have_distinct_names parts.options) → parts_of words ≡ Some parts
unfolding parts_of
what_is_written words parts is differ = rw (again is, differ) refl

-- ---- from the parts

pub bound : {A B : Type 0} (o : Option A) (f : A → Option B) (y : B) → (o >>= f) ≡ Some y → (x : A) × (o ≡ Some x) × (f x ≡ Some y)
bound None f y e = absurd (grind arith)
bound (Some x) f y e = (x, refl, e)

behind_is : (word text : List ℕ) → behind_dash word ≡ Some text → word ≡ 45 ∷ text
behind_is [] text e = absurd (grind arith)
behind_is (b ∷ bs) text e = let parts = cond_some (b == 45) bs text e in grind (arith, common_steps, parts)

is_name : (text : List ℕ) → AllByRecursion (λ c. c ≢ 61) (before_first is_equals text)
is_name [] = tt
is_name (b ∷ bs) = elim (by_mark 61 b) [ inl h ↦ rw h.0 tt | inr h ↦ rw (past_before 61 b bs h.0) (h.1, is_name bs) ]

no_sign : (text : List ℕ) → list_any is_equals text ≡ false → before_first is_equals text ≡ text
no_sign [] e = refl
no_sign (b ∷ bs) e = elim (by_mark 61 b) [
  | inl h ↦ absurd (true≢false (rw h.0 at e))
  | inr h ↦ rw (past_before 61 b bs h.0) (ap (λ rest. b ∷ rest) (no_sign bs (rw h.0 at e)))
]

guarded : {A : Type 0} (b : Bool) (x y : A) → cond b None (Some x) ≡ Some y → (b ≡ false) × (x ≡ y)
guarded true x y e = absurd (none-some y e)
guarded false x y e = (refl, same_Some x y e)

without : (b : Bool) (x : List ℕ) → cond b (Some x) None ≡ None → b ≡ false
without true x e = absurd (none-some x (sym e))
without false x e = refl

name_of : (name : List ℕ) → (length name == 0) ≡ false → AllByRecursion (λ c. c ≢ 61) name → IsName name
name_of [] some all = absurd (true≢false some)
name_of (b ∷ bs) some all = all

alone : (text name : List ℕ) → name_and_value text ≡ Some (name, None) → IsName name × (text ≡ name)
alone text name e =
    let found = guarded _ _ _ e in
    let front : before_first is_equals text ≡ name = ap (λ (o : List ℕ × Option (List ℕ)). o.0) found.1 in
    let lacks : list_any is_equals text ≡ false = without _ (after_first is_equals text) (ap (λ (o : List ℕ × Option (List ℕ)). o.1) found.1) in
    (subst IsName front (name_of _ found.0 (is_name text)), sym (no_sign text lacks) ∙ front)

with_value : (text name value : List ℕ) → name_and_value text ≡ Some (name, Some value) → IsName name × (text ≡ name ++ 61 ∷ value)
with_value text name value e =
    let found = guarded _ _ _ e in
    let front : before_first is_equals text ≡ name = ap (λ (o : List ℕ × Option (List ℕ)). o.0) found.1 in
    let back = cond_some _ (after_first is_equals text) value (ap (λ (o : List ℕ × Option (List ℕ)). o.1) found.1) in
    (subst IsName front (name_of _ found.0 (is_name text)), split_mark 61 text back.0 ∙ ap (λ n. n ++ 61 ∷ after_first is_equals text) front ∙ ap (λ v. name ++ 61 ∷ v) back.1)

two_dashes : (word : List ℕ) (o : List ℕ × Option (List ℕ)) → option_in word ≡ Some o → (text : List ℕ) × (word ≡ 45 ∷ 45 ∷ text) × (name_and_value text ≡ Some o)
two_dashes word o e =
    let first = bound (behind_dash word) (λ behind. behind_dash behind >>= name_and_value) o e in
    let second = bound (behind_dash first.0) name_and_value o first.2 in
    (second.0, behind_is word first.0 first.1 ∙ ap (λ bs. 45 ∷ bs) (behind_is first.0 second.0 second.1), second.2)

plain_of : (word : List ℕ) → is_plain word ≡ true → IsPlainWord word
plain_of [] e = true≢false (sym e)
plain_of (b ∷ bs) e = λ dash. grind (arith, common_steps, dash, e)

-- what the words are parted into is written by them
abbrev Tells : List (List ℕ) → Type 0
Tells words = (parts : Parts) → parted None words ≡ Some parts → Written words parts.plain parts.options

at_plain : (word : List ℕ) (words : List (List ℕ)) → Tells words → is_plain word ≡ true → Tells (word ∷ words)
at_plain word words tells is parts e =
    let more = bound (parted None words) _ parts (sym (parted_plain word words is) ∙ e) in
    subst (λ (p : Parts). Written (word ∷ words) p.plain p.options) (same_Some _ _ more.2) (PlainWord word words _ _ (plain_of word is) (tells more.0 more.1))

at_joined : (word name value : List ℕ) (words : List (List ℕ)) → Tells words → is_plain word ≡ false → option_in word ≡ Some (name, Some value) → Tells (word ∷ words)
at_joined word name value words tells other found parts e =
    let more = bound (parted None words) _ parts (sym (parted_joined word name value words other found) ∙ e) in
    let dashes = two_dashes word (name, Some value) found in
    let is = with_value dashes.0 name value dashes.2 in
    let spelled : word ≡ codes "--" ++ name ++ codes "=" ++ value = dashes.1 ∙ ap (λ text. 45 ∷ 45 ∷ text) (is.1 ∙ sym (append_assoc name (61 ∷ []) value)) in
    subst (λ (p : Parts). Written (word ∷ words) p.plain p.options) (same_Some _ _ more.2) (Joined word name value words _ _ is.0 spelled (tells more.0 more.1))

at_apart : (word name value : List ℕ) (words : List (List ℕ)) → Tells words → is_plain word ≡ false → option_in word ≡ Some (name, None) → Tells (word ∷ value ∷ words)
at_apart word name value words tells other found parts e =
    let more = bound (parted None words) _ parts (sym (parted_apart word name value words other found) ∙ e) in
    let dashes = two_dashes word (name, None) found in
    let is = alone dashes.0 name dashes.2 in
    let spelled : word ≡ codes "--" ++ name = dashes.1 ∙ ap (λ text. 45 ∷ 45 ∷ text) is.1 in
    subst (λ (p : Parts). Written (word ∷ value ∷ words) p.plain p.options) (same_Some _ _ more.2) (Apart word name value words _ _ is.0 spelled (tells more.0 more.1))

abbrev TellsApart : List ℕ → List (List ℕ) → Type 0
TellsApart word words = is_plain word ≡ false → (name : List ℕ) → option_in word ≡ Some (name, None) → Tells (word ∷ words)

at_option : (word : List ℕ) (words : List (List ℕ)) → Tells words → TellsApart word words → is_plain word ≡ false
    → (o : Option (List ℕ × Option (List ℕ))) → option_in word ≡ o → Tells (word ∷ words)
at_option word words tells apart other None found = λ parts e. absurd (none-some parts (sym (parted_wrong word words other found) ∙ e))
at_option word words tells apart other (Some (name, None)) found = apart other name found
at_option word words tells apart other (Some (name, Some value)) found = at_joined word name value words tells other found

at_word : (word : List ℕ) (words : List (List ℕ)) → Tells words → TellsApart word words → (plain : Bool) → is_plain word ≡ plain → Tells (word ∷ words)
at_word word words tells apart true is = at_plain word words tells is
at_word word words tells apart false is = at_option word words tells apart is (option_in word) refl

tells : (words : List (List ℕ)) → Tells words
unfolding parted
tells [] = λ parts e. subst (λ (p : Parts). Written [] p.plain p.options) (same_Some _ _ e) End
tells (word ∷ []) = at_word word [] (tells []) (λ other name found parts e. absurd (none-some parts (sym (parted_cut word name other found) ∙ e))) (is_plain word) refl
tells (word ∷ value ∷ words) =
    at_word word (value ∷ words) (tells (value ∷ words)) (λ other name found. at_apart word name value words (tells words) other found) (is_plain word) refl

pub what_is_parted : (words : List (List ℕ)) (parts : Parts) → parts_of words ≡ Some parts → Written words parts.plain parts.options × IsTrue (have_distinct_names parts.options)
unfolding parts_of
what_is_parted words parts e =
    let all = bound (parted None words) _ parts e in
    let differ = cond_some (have_distinct_names all.0.options) all.0 parts all.2 in
    (tells words parts (all.1 ∙ ap (λ p. Some p) differ.1), ap (λ p. have_distinct_names p.options) (sym differ.1) ∙ differ.0)
