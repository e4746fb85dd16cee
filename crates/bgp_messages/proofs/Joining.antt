-- Parts that are read one behind the other are those that are spelled so.
use Rattle.std.proofs.Common.{◌≡◌, ℕ, true, false, eqb, IfNone, ◌≤◌, ◌<◌, List, [], ◌∷◌, ◌++◌, length, take, drop, Option, Some, None, refl, sym, ap, ◌∙◌, subst, arith, append_assoc, length-append}
use Rattle.std.proofs.lemmas.List.{append-nil, take-append-drop}
use Rattle.std.proofs.lemmas.Bool.{eqb-true}
use Rattle.bgp_messages.specs.Grammar.{Joined, Parsed, Begins, BeginsNone}

-- bytes begin with one part at most
abbrev pub Alone : {A : Type 0} → (A → List ℕ → Type 0) → Type 0
Alone {A = A} spells = (x y : A) (f g a b : List ℕ) → spells x f → spells y g → f ++ a ≡ g ++ b → (x ≡ y) × (a ≡ b)

-- a part has a byte
abbrev pub HasBytes : {A : Type 0} → (A → List ℕ → Type 0) → Type 0
HasBytes {A = A} spells = (x : A) (f : List ℕ) → spells x f → 1 ≤ length f

-- parts were read from the front, and these bytes are left
pub record Left {A : Type 0} (spells : A → List ℕ → Type 0) (bytes : List ℕ) (made : List A) (rest : List ℕ) : Type 0 where
  pub goes_on : (more : List A) → Joined spells more rest → Joined spells (made ++ more) bytes
  pub alone : (all : List A) → Joined spells all bytes → (more : List A) × (all ≡ made ++ more) × Joined spells more rest

pub starts : {A : Type 0} (spells : A → List ℕ → Type 0) (bytes : List ℕ) → Left spells bytes [] bytes
starts spells bytes = record { goes_on = λ more j. j; alone = λ all j. (all, refl, j) }

pub behind_one : {A : Type 0} (spells : A → List ℕ → Type 0) → Alone spells → (made : List A) (rest : List ℕ) (x : A) (n : ℕ) → Begins (spells x) n rest
    → (all more : List A) → all ≡ made ++ more → Joined spells more rest → (others : List A) × (all ≡ (made ++ x ∷ []) ++ others) × Joined spells others (drop n rest)
behind_one spells one made rest x n b all [] e j = absurd (omega (arith, b.some, b.within, ap length j))
behind_one spells one made rest x n b all (y ∷ ys) e j =
    let same = one x y (take n rest) j.first (drop n rest) j.rest b.spelled j.in_front (take-append-drop n rest ∙ j.whole) in
    (ys, e ∙ ap (λ z. made ++ z ∷ ys) (sym same.0) ∙ sym (append_assoc made (x ∷ []) ys), subst (Joined spells ys) (sym same.1) j.behind)

pub goes : {A : Type 0} (spells : A → List ℕ → Type 0) → Alone spells → (bytes : List ℕ) (made : List A) (rest : List ℕ) (x : A) (n : ℕ) → Begins (spells x) n rest
    → Left spells bytes made rest → Left spells bytes (made ++ x ∷ []) (drop n rest)
goes spells one bytes made rest x n b left = record {
  goes_on = λ more j.
      subst (λ l. Joined spells l bytes) (sym (append_assoc made (x ∷ []) more))
      (left.goes_on (x ∷ more) (record { first = take n rest; rest = drop n rest; whole = sym (take-append-drop n rest); in_front = b.spelled; behind = j }));
  alone = λ all j. (let old = left.alone all j in behind_one spells one made rest x n b all old.0 old.1 old.2);
}

pub done : {A : Type 0} (spells : A → List ℕ → Type 0) (bytes : List ℕ) (made : List A) (rest : List ℕ) → length rest ≡ 0 → Left spells bytes made rest → Joined spells made bytes
done spells bytes made [] e left = subst (λ l. Joined spells l bytes) (append-nil made) (left.goes_on [] refl)
done spells bytes made (b ∷ rest) e left = absurd (omega arith)

pub stops : {A : Type 0} (spells : A → List ℕ → Type 0) (rest : List ℕ) → 0 < length rest → BeginsNone spells rest → (more : List A) → Joined spells more rest → ⊥
stops spells rest some none [] j = omega (arith, some, ap length j)
stops spells rest some none (y ∷ ys) j = none y j.first j.rest j.in_front j.whole

pub stuck : {A : Type 0} (spells : A → List ℕ → Type 0) (bytes : List ℕ) (made : List A) (rest : List ℕ) → 0 < length rest → BeginsNone spells rest
    → Left spells bytes made rest → (all : List A) → Joined spells all bytes → ⊥
stuck spells bytes made rest some none left all j = let old = left.alone all j in stops spells rest some none old.0 old.2

-- ---- one list

pub joined_once : {A : Type 0} (spells : A → List ℕ → Type 0) → Alone spells → HasBytes spells → (xs ys : List A) (bytes : List ℕ)
    → Joined spells xs bytes → Joined spells ys bytes → xs ≡ ys
joined_once spells one some [] [] bytes j k = refl
joined_once spells one some [] (y ∷ ys) bytes j k = absurd (omega (arith, ap length j, ap length k.whole, length-append k.first k.rest, some y k.first k.in_front))
joined_once spells one some (x ∷ xs) [] bytes j k = absurd (omega (arith, ap length k, ap length j.whole, length-append j.first j.rest, some x j.first j.in_front))
joined_once spells one some (x ∷ xs) (y ∷ ys) bytes j k =
    let same = one x y j.first k.first j.rest k.rest j.in_front k.in_front (sym j.whole ∙ k.whole) in
    let more = joined_once spells one some xs ys j.rest j.behind (subst (Joined spells ys) (sym same.1) k.behind) in
    ap (λ z. z ∷ xs) same.0 ∙ ap (λ zs. y ∷ zs) more

-- what bytes spell, or that they spell nothing, is one answer
pub parsed_once : {A : Type 0} (spells : A → List ℕ → Type 0) (bytes : List ℕ) → ((x y : A) → spells x bytes → spells y bytes → x ≡ y)
    → (a b : Option A) → Parsed spells bytes a → Parsed spells bytes b → a ≡ b
parsed_once spells bytes one None None p q = refl
parsed_once spells bytes one None (Some y) p q = absurd (p y q)
parsed_once spells bytes one (Some x) None p q = absurd (q x p)
parsed_once spells bytes one (Some x) (Some y) p q = ap Some (one x y p q)

-- ---- as loops go

pub some_left : (rest : List ℕ) → false ≡ eqb (length rest) 0 → 0 < length rest
some_left [] e = absurd (cc)
some_left (b ∷ rest) e = omega arith

pub none_left : (rest : List ℕ) → true ≡ eqb (length rest) 0 → length rest ≡ 0
none_left rest e = eqb-true (length rest) 0 (sym e)

pub none_of : {X : Type 0} (r : Option X) (P : Type 0) → ((x : X) → r ≡ Some x → ⊥) → IfNone r P → P
none_of None P n h = h
none_of (Some x) P n h = absurd (n x refl)
