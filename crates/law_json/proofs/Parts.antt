-- The texts of lists, numbers, flags and addresses: each is a value, and tells what it is of.
use Rattle.std.proofs.Common.{◌≡◌, ◌≢◌, ◌<◌, ◌^◌, ℕ, suc, Bool, true, false, cond, nat_lt, List, [], ◌∷◌, ◌++◌, length, get_or, drop, fold, map, Option, Some, None, refl, sym, ap, ◌∙◌, subst, arith, decimal, IsPermutation}
use Rattle.std.specs.Char.{is_ascii_digit}
use Rattle.std.specs.List.{AllByRecursion, list_all, prefix_len}
use Rattle.std.specs.Option.{option_map_or}
use Rattle.std.proofs.lemmas.Bool.{true≢false}
use Rattle.std.proofs.lemmas.Fmt.{decimal_injective}
use Rattle.std.proofs.lemmas.List.{append-nil}
use Rattle.std.proofs.lemmas.List.Sorted.{IsPermutation-refl, IsPermutation-sym, IsPermutation-trans, IsPermutation-insert, IsPermutation-middle, IsPermutation-append_left}
use Rattle.conf_json.specs.Json.{null, flag, quoted, list}
use Rattle.conf_json.specs.Text.{with_number, numbers_text, names_text, number_or_null}
use Rattle.conf_json.proofs.Ascending.{put_at_place}
use Rattle.law_json.proofs.Values.{IsValue, null_value, number_value, quoted_value, list_value, same_list, same_quoted, all_digits_of}

-- ---- lists

pub map_values : {A : Type 0} (f : A → List ℕ) (P : A → Type 0) → ((x : A) → P x → IsValue (f x)) → (xs : List A) → AllByRecursion P xs → AllByRecursion IsValue (map f xs)
map_values f P each [] all = tt
map_values f P each (x ∷ xs) all = (each x all.0, map_values f P each xs all.1)

pub same_map : {A : Type 0} (f : A → List ℕ) (P : A → Type 0) → ((x y : A) → P x → P y → f x ≡ f y → x ≡ y)
    → (xs ys : List A) → AllByRecursion P xs → AllByRecursion P ys → map f xs ≡ map f ys → xs ≡ ys
same_map f P each [] [] in_x in_y e = refl
same_map f P each [] (y ∷ ys) in_x in_y e = absurd (let none : 0 ≡ suc (length (map f ys)) = ap length e in omega (arith, none))
same_map f P each (x ∷ xs) [] in_x in_y e = absurd (let none : suc (length (map f xs)) ≡ 0 = ap length e in omega (arith, none))
same_map f P each (x ∷ xs) (y ∷ ys) in_x in_y e =
    ap (λ w. w ∷ xs) (each x y in_x.0 in_y.0 (ap (λ w. get_or w 0 []) e)) ∙ ap (λ ws. y ∷ ws) (same_map f P each xs ys in_x.1 in_y.1 (ap (drop 1) e))

pub items_value : {A : Type 0} (f : A → List ℕ) (P : A → Type 0) → ((x : A) → P x → IsValue (f x)) → (xs : List A) → AllByRecursion P xs → IsValue (list (map f xs))
items_value f P each xs all = list_value (map f xs) (map_values f P each xs all)

pub same_items : {A : Type 0} (f : A → List ℕ) (P : A → Type 0) → ((x : A) → P x → IsValue (f x)) → ((x y : A) → P x → P y → f x ≡ f y → x ≡ y)
    → (xs ys : List A) → AllByRecursion P xs → AllByRecursion P ys → list (map f xs) ≡ list (map f ys) → xs ≡ ys
same_items f P value each xs ys in_x in_y e =
    same_map f P each xs ys in_x in_y (same_list (map f xs) (map f ys) (map_values f P value xs in_x) (map_values f P value ys in_y) e)

-- ---- names

all_texts : (names : List (List ℕ)) → AllByRecursion (λ name. Unit {0}) names
all_texts [] = tt
all_texts (name ∷ names) = (tt, all_texts names)

pub names_value : (names : List (List ℕ)) → IsValue (names_text names)
names_value names = items_value quoted (λ name. Unit {0}) (λ name known. quoted_value name) names (all_texts names)

pub same_names : (a b : List (List ℕ)) → names_text a ≡ names_text b → a ≡ b
same_names a b e = same_items quoted (λ name. Unit {0}) (λ name known. quoted_value name) (λ m n p q e. same_quoted m n e) a b (all_texts a) (all_texts b) e

-- ---- flags

pub same_flag : (a b : Bool) → flag a ≡ flag b → a ≡ b
same_flag true true e = refl
same_flag true false e = absurd (let first : 116 ≡ 102 = ap (λ w. get_or w 0 0) e in omega (arith, first))
same_flag false true e = absurd (let first : 102 ≡ 116 = ap (λ w. get_or w 0 0) e in omega (arith, first))
same_flag false false e = refl

-- ---- numbers

-- as any number in the configuration
abbrev pub IsSmall : ℕ → Type 0
IsSmall n = n < 2 ^ 64

pub same_number : (m n : ℕ) → IsSmall m → IsSmall n → decimal m ≡ decimal n → m ≡ n
same_number m n p q e = decimal_injective m n p q e

with_small : (ns : List ℕ) (n : ℕ) → IsSmall n → AllByRecursion IsSmall ns → AllByRecursion IsSmall (with_number ns n)
unfolding with_number
with_small [] n is all = (is, tt)
with_small (m ∷ ms) n is all =
    elim (nat_lt m n) as (λ b. AllByRecursion IsSmall (cond b (m ∷ with_number ms n) (n ∷ m ∷ ms))) [ true ↦ (all.0, with_small ms n is all.1) | false ↦ (is, all) ]

fold_small : (ns so_far : List ℕ) → AllByRecursion IsSmall so_far → AllByRecursion IsSmall ns → AllByRecursion IsSmall (fold with_number so_far ns)
fold_small [] so_far old all = old
fold_small (n ∷ ns) so_far old all = fold_small ns (with_number so_far n) (with_small so_far n all.0 old) all.1

with_moved : (ns : List ℕ) (n : ℕ) → IsPermutation (n ∷ ns) (with_number ns n)
with_moved ns n = subst (IsPermutation (n ∷ ns)) (put_at_place n ns) (IsPermutation-insert ns (prefix_len (λ m. nat_lt m n) ns) n)

fold_moved : (ns so_far : List ℕ) → IsPermutation (so_far ++ ns) (fold with_number so_far ns)
fold_moved [] so_far = subst (λ (ms : List ℕ). IsPermutation ms so_far) (sym (append-nil so_far)) (IsPermutation-refl so_far)
fold_moved (n ∷ ns) so_far =
    IsPermutation-trans (so_far ++ n ∷ ns) (n ∷ (so_far ++ ns)) (fold with_number so_far (n ∷ ns)) (IsPermutation-middle so_far n ns)
    (IsPermutation-trans (n ∷ (so_far ++ ns)) (with_number so_far n ++ ns) (fold with_number so_far (n ∷ ns))
    (IsPermutation-append_left ns (n ∷ so_far) (with_number so_far n) (with_moved so_far n)) (fold_moved ns (with_number so_far n)))

pub numbers_value : (ns : List ℕ) → AllByRecursion IsSmall ns → IsValue (numbers_text ns)
numbers_value ns all = items_value decimal IsSmall number_value (fold with_number [] ns) (fold_small ns [] tt all)

-- the same numbers, in some order
pub same_numbers : (a b : List ℕ) → AllByRecursion IsSmall a → AllByRecursion IsSmall b → numbers_text a ≡ numbers_text b → IsPermutation a b
same_numbers a b in_a in_b e =
    let same : fold with_number [] a ≡ fold with_number [] b =
    same_items decimal IsSmall number_value same_number (fold with_number [] a) (fold with_number [] b) (fold_small a [] tt in_a) (fold_small b [] tt in_b) e in
    IsPermutation-trans a (fold with_number [] b) b (subst (IsPermutation a) same (fold_moved a [])) (IsPermutation-sym b (fold with_number [] b) (fold_moved b []))

-- ---- a value that need not be there

pub or_null_value : {A : Type 0} (f : A → List ℕ) (o : Option A) → ((x : A) → o ≡ Some x → IsValue (f x)) → IsValue (option_map_or f o null)
or_null_value f None each = null_value
or_null_value f (Some x) each = each x refl

pub same_or_null : {A : Type 0} (f g : A → List ℕ) (o p : Option A) → ((x : A) → o ≡ Some x → f x ≢ null) → ((x : A) → p ≡ Some x → g x ≢ null)
    → ((x y : A) → o ≡ Some x → p ≡ Some y → f x ≡ g y → x ≡ y) → option_map_or f o null ≡ option_map_or g p null → o ≡ p
same_or_null f g None None first second each e = refl
same_or_null f g None (Some y) first second each e = absurd (second y refl (sym e))
same_or_null f g (Some x) None first second each e = absurd (first x refl e)
same_or_null f g (Some x) (Some y) first second each e = ap (λ w. Some w) (each x y refl refl e)

number_no_null : (n : ℕ) → IsSmall n → decimal n ≢ null
number_no_null n small e =
    let none : false ≡ true = ap (list_all is_ascii_digit) (sym e) ∙ all_digits_of n small in true≢false (sym none)

pub optional_value : (o : Option ℕ) → ((n : ℕ) → o ≡ Some n → IsSmall n) → IsValue (number_or_null o)
optional_value o small = or_null_value decimal o (λ n e. number_value n (small n e))

pub same_optional : (o p : Option ℕ) → ((n : ℕ) → o ≡ Some n → IsSmall n) → ((n : ℕ) → p ≡ Some n → IsSmall n) → number_or_null o ≡ number_or_null p → o ≡ p
same_optional o p first second e =
    same_or_null decimal decimal o p (λ n s. number_no_null n (first n s)) (λ n s. number_no_null n (second n s)) (λ m n s t e. same_number m n (first m s) (second n t) e) e
