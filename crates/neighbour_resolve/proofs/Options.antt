-- Options in a row: one, and those behind it.
use Rattle.std.proofs.Common.{◌≡◌, ℕ, zero, suc, ◌+◌, ◌-◌, ◌*◌, ◌<◌, ◌≤◌, ◌==◌, ◌&&◌, Bool, true, false, not, cond, Option, Some, None, List, [], ◌∷◌, length, drop, slice_index, nat_le, refl, sym, ap, ◌∙◌, arith, length-drop}
use Rattle.std.specs.Option.{option_map}
use Rattle.std.proofs.lemmas.Bool.{le-leb}
use Rattle.std.proofs.lemmas.Bool.Decides.{nat_tests}
use Rattle.std.proofs.lemmas.List.{drop-drop}
use Rattle.neighbour_resolve.specs.Discovery.{first_len, may_stand, options_tell}

pub is_none : {A : Type 0} (o : Option A) → ((x : A) → o ≡ Some x → ⊥) → o ≡ None
is_none None not_some = refl
is_none (Some x) not_some = absurd (not_some x refl)

module _ (asked : ℕ) (mac : List ℕ) where
  abbrev pub tell : List ℕ → Option Bool
  tell options = options_tell asked mac options 0

  -- ---- what is left of one before

  passed_over : (bytes : List ℕ) (left : ℕ) → left ≤ length bytes → options_tell asked mac bytes left ≡ tell (drop left bytes)
  passed_over bytes zero within = refl
  passed_over [] (suc left) within = absurd (omega (arith, within))
  passed_over (b ∷ more) (suc left) within = passed_over more left (omega (arith, within))

  cut_off : (bytes : List ℕ) (left : ℕ) → length bytes < left → options_tell asked mac bytes left ≡ None
  cut_off bytes zero short = absurd (omega (arith, short))
  cut_off [] (suc left) short = refl
  cut_off (b ∷ more) (suc left) short = cut_off more left (omega (arith, short))

  -- ---- the first

  abbrev and_first : List ℕ → Option Bool → Option Bool
  and_first options o = option_map (λ rest. may_stand asked mac (slice_index options 0) (drop 2 options) && rest) o

  -- how long it is, by whether its length is 0 and whether it fits
  units_there : (kind units : ℕ) (more : List ℕ) (none fits : Bool) → (units == 0) ≡ none → nat_le (8 * units) (suc (suc (length more))) ≡ fits
      → first_len (kind ∷ units ∷ more) ≡ cond (not none && fits) (Some (8 * units)) None
  units_there kind units more none fits none_is fits_is =
      let two : nat_le 2 (suc (suc (length more))) ≡ true = le-leb 2 (suc (suc (length more))) (omega arith) in
      ap (λ b. cond (b && not (units == 0) && nat_le (8 * units) (suc (suc (length more)))) (Some (8 * units)) None) two
      ∙ ap (λ b. cond (not b && nat_le (8 * units) (suc (suc (length more)))) (Some (8 * units)) None) none_is
      ∙ ap (λ b. cond (not none && b) (Some (8 * units)) None) fits_is

  behind_first : (kind units : ℕ) (more : List ℕ) → (units == 0) ≡ false → tell (kind ∷ units ∷ more) ≡ and_first (kind ∷ units ∷ more) (options_tell asked mac more (8 * units - 2))
  behind_first kind units more some = ap (λ b. cond b None (and_first (kind ∷ units ∷ more) (options_tell asked mac more (8 * units - 2)))) some

  -- what is told where the first one has a length
  pub first_there : (options : List ℕ) (len : ℕ) → first_len options ≡ Some len → (tell options ≡ and_first options (tell (drop len options))) × (8 ≤ len) × (len ≤ length options)
  first_there [] len is = absurd (cc)
  first_there (kind ∷ []) len is = absurd (cc)
  first_there (kind ∷ units ∷ more) len is = by (units == 0) refl (nat_le (8 * units) (suc (suc (length more)))) refl
    where
      by : (none : Bool) → (units == 0) ≡ none → (fits : Bool) → nat_le (8 * units) (suc (suc (length more))) ≡ fits
          → (tell (kind ∷ units ∷ more) ≡ and_first (kind ∷ units ∷ more) (tell (drop len (kind ∷ units ∷ more)))) × (8 ≤ len) × (len ≤ length (kind ∷ units ∷ more))
      by true none_is fits fits_is = let e : None ≡ Some len = sym (units_there kind units more true fits none_is fits_is) ∙ is in absurd (cc)
      by false none_is false fits_is = let e : None ≡ Some len = sym (units_there kind units more false false none_is fits_is) ∙ is in absurd (cc)
      by false none_is true fits_is =
          let e : Some (8 * units) ≡ Some len = sym (units_there kind units more false true none_is fits_is) ∙ is in
          let whole : 8 * units ≡ len = cc in
          let some : 1 ≤ units = grind (arith, nat_tests, none_is) in
          let within : 8 * units ≤ suc (suc (length more)) = grind (arith, nat_tests, fits_is) in
          let back : suc (suc (8 * units - 2)) ≡ len = omega (arith, some, whole) in
          let behind : drop (8 * units - 2) more ≡ drop len (kind ∷ units ∷ more) = ap (λ (n : ℕ). drop n (kind ∷ units ∷ more)) back in
          let left : options_tell asked mac more (8 * units - 2) ≡ tell (drop len (kind ∷ units ∷ more)) = passed_over more (8 * units - 2) (omega (arith, within, some)) ∙ ap tell behind in
          (behind_first kind units more none_is ∙ ap (and_first (kind ∷ units ∷ more)) left, omega (arith, some, whole), omega (arith, within, whole))

  -- and where it has none
  pub first_not : (options : List ℕ) → 0 < length options → first_len options ≡ None → tell options ≡ None
  first_not [] there is = absurd (omega (arith, there))
  first_not (kind ∷ []) there is = refl
  first_not (kind ∷ units ∷ more) there is = by (units == 0) refl (nat_le (8 * units) (suc (suc (length more)))) refl
    where
      by : (none : Bool) → (units == 0) ≡ none → (fits : Bool) → nat_le (8 * units) (suc (suc (length more))) ≡ fits → tell (kind ∷ units ∷ more) ≡ None
      by true none_is fits fits_is = ap (λ b. cond b None (and_first (kind ∷ units ∷ more) (options_tell asked mac more (8 * units - 2)))) none_is
      by false none_is true fits_is = let e : Some (8 * units) ≡ None = sym (units_there kind units more false true none_is fits_is) ∙ is in absurd (cc)
      by false none_is false fits_is =
          let some : 1 ≤ units = grind (arith, nat_tests, none_is) in
          let past : suc (suc (length more)) < 8 * units = grind (arith, nat_tests, fits_is) in
          behind_first kind units more none_is ∙ ap (and_first (kind ∷ units ∷ more)) (cut_off more (8 * units - 2) (omega (arith, past, some)))

  -- ---- those before a place, and those behind it

  abbrev pub and_before : (own : Bool) → Option Bool → Option Bool
  and_before own o = option_map (λ rest. own && rest) o

  pub all_before : (o : Option Bool) → and_before true o ≡ o
  all_before (Some b) = refl
  all_before None = refl

  joined : (own first : Bool) (o : Option Bool) → and_before own (option_map (λ rest. first && rest) o) ≡ and_before (own && first) o
  joined true first (Some b) = refl
  joined false first (Some b) = refl
  joined own first None = refl

  pub one_more : (options : List ℕ) (at len : ℕ) (own : Bool) (whole : Option Bool) → first_len (drop at options) ≡ Some len → and_before own (tell (drop at options)) ≡ whole
      → and_before (own && may_stand asked mac (slice_index (drop at options) 0) (drop 2 (drop at options))) (tell (drop (at + len) options)) ≡ whole
  one_more options at len own whole is so_far =
      let rest = drop at options in
      let first = first_there rest len is in
      let behind : drop len rest ≡ drop (at + len) options = drop-drop len at options in
      sym (joined own (may_stand asked mac (slice_index rest 0) (drop 2 rest)) (tell (drop (at + len) options)))
      ∙ ap (λ l. and_before own (and_first rest (tell l))) (sym behind) ∙ ap (and_before own) (sym first.0) ∙ so_far

  pub all_told : (options : List ℕ) (at : ℕ) (own : Bool) (whole : Option Bool) → length options ≤ at → and_before own (tell (drop at options)) ≡ whole → Some own ≡ whole
  all_told options at own whole past so_far =
      let none : drop at options ≡ [] = nothing_left (drop at options) (omega (arith, past, length-drop at options)) in
      sym (also_true own) ∙ ap (λ l. and_before own (tell l)) (sym none) ∙ so_far
    where
      nothing_left : (l : List ℕ) → length l ≡ 0 → l ≡ []
      nothing_left [] is = refl
      nothing_left (x ∷ xs) is = absurd (omega (arith, is))

      also_true : (b : Bool) → Some (b && true) ≡ Some b
      also_true true = refl
      also_true false = refl

  pub not_told : (options : List ℕ) (at : ℕ) (own : Bool) (whole : Option Bool) → at < length options → first_len (drop at options) ≡ None → and_before own (tell (drop at options)) ≡ whole → None ≡ whole
  not_told options at own whole inside is so_far =
      sym (ap (and_before own) (first_not (drop at options) (omega (arith, inside, length-drop at options)) is)) ∙ so_far
