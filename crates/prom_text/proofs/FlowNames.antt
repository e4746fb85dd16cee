-- A flow entry's name tells its table, its priority and its match.
use Rattle.std.proofs.Common.{◌≡◌, ℕ, ◌^◌, ◌<◌, Bool, true, false, eqb, ◌&&◌, ◌||◌, List, [], ◌∷◌, ◌++◌, codes, Ok, Result, refl, sym, ap, ◌∙◌, subst, arith, eq-eqb, get_or, append_assoc}
use Rattle.std.specs.Char.{digit_value}
use Rattle.std.specs.Fmt.{decimal}
use Rattle.std.specs.List.{AllByRecursion, list_any}
use Rattle.std.specs.Str.{bytes_eq}
use Rattle.std.specs.Str.Parse.{AllDigits}
use Rattle.std.proofs.lemmas.Bool.{eqb-true}
use Rattle.std.proofs.lemmas.Fmt.{decimal_injective, decimal_is_IsNumeral}
use Rattle.std.proofs.lemmas.Slice.Eq.{bytes_eq-Decides}
use Rattle.hex.specs.Hex.{encode_lower, decode_of}
use Rattle.hex.specs.declared.error.FromHexError.{FromHexError}
use Rattle.hex.proofs.HexLemmas.{decode_of-encode_lower}
use Rattle.flow_stats.specs.declared.flow.Flow.{Flow}
use Rattle.prom_text.specs.Apart.{FitsName}
use Rattle.prom_text.specs.Blocks.{flow_name}
use Rattle.prom_text.specs.Counted.{is_same_flow}

tails : (a b : ℕ) (xs ys : List ℕ) → a ∷ xs ≡ b ∷ ys → (a ≡ b) × (xs ≡ ys)
tails a b xs ys e = (ap (λ l. get_or l 0 0) e, ap behind e)
  where
    behind : List ℕ → List ℕ
    behind [] = []
    behind (x ∷ l) = l

-- what stands before the first colon
colon_splits : (xs ys a b : List ℕ) → AllDigits 10 xs → AllDigits 10 ys → xs ++ 58 ∷ a ≡ ys ++ 58 ∷ b → (xs ≡ ys) × (a ≡ b)
colon_splits [] [] a b p q e = (refl, (tails 58 58 a b e).1)
colon_splits [] (y ∷ ys) a b p q e =
    let is : 58 ≡ y = (tails 58 y a (ys ++ 58 ∷ b) e).0 in
    absurd (no_digit (subst (λ c. digit_value c < 10) (sym is) q.0))
  where
    no_digit : digit_value 58 < 10 → ⊥
    no_digit h = omega (arith, h)
colon_splits (x ∷ xs) [] a b p q e =
    let is : x ≡ 58 = (tails x 58 (xs ++ 58 ∷ a) b e).0 in
    absurd (no_digit (subst (λ c. digit_value c < 10) is p.0))
  where
    no_digit : digit_value 58 < 10 → ⊥
    no_digit h = omega (arith, h)
colon_splits (x ∷ xs) (y ∷ ys) a b p q e =
    let one = tails x y (xs ++ 58 ∷ a) (ys ++ 58 ∷ b) e in
    let more = colon_splits xs ys a b p.1 q.1 one.1 in
    let first = one.0 in
    let rest = more.0 in
    ((λ i. first i ∷ rest i), more.1)

number_splits : (m n : ℕ) (a b : List ℕ) → m < 2 ^ 64 → n < 2 ^ 64 → decimal m ++ 58 ∷ a ≡ decimal n ++ 58 ∷ b → (m ≡ n) × (a ≡ b)
number_splits m n a b small few e =
    let split = colon_splits (decimal m) (decimal n) a b (decimal_is_IsNumeral m small).0.1 (decimal_is_IsNumeral n few).0.1 e in
    (decimal_injective m n small few split.0, split.1)

pub hex_injective : (a b : List ℕ) → ((i : ℕ) → get_or a i 0 < 2 ^ 8) → ((i : ℕ) → get_or b i 0 < 2 ^ 8) → encode_lower a ≡ encode_lower b → a ≡ b
hex_injective a b small few e = same a b (sym (decode_of-encode_lower a small) ∙ ap decode_of e ∙ decode_of-encode_lower b few)
  where
    same : (a b : List ℕ) → ◌≡◌ {A = Result (List ℕ) FromHexError} (Ok a) (Ok b) → a ≡ b
    same a b e = cc

pub record SameFlow (f g : Flow) : Type 0 where
  pub table : f.table ≡ g.table
  pub priority : f.priority ≡ g.priority
  pub key : f.key ≡ g.key

spread : (a b k : List ℕ) → a ++ codes ":" ++ b ++ codes ":" ++ k ≡ a ++ 58 ∷ (b ++ 58 ∷ k)
spread a b k = append_assoc (a ++ codes ":" ++ b) (codes ":") k ∙ append_assoc (a ++ codes ":") b (58 ∷ k) ∙ append_assoc a (codes ":") (b ++ 58 ∷ k)

name_tells : (f g : Flow) → FitsName f → FitsName g → flow_name f ≡ flow_name g → SameFlow f g
unfolding flow_name
name_tells f g p q e =
    let table = number_splits f.table g.table (decimal f.priority ++ 58 ∷ encode_lower f.key) (decimal g.priority ++ 58 ∷ encode_lower g.key) (omega (arith, p.table)) (omega (arith, q.table))
    (sym (spread (decimal f.table) (decimal f.priority) (encode_lower f.key)) ∙ e ∙ spread (decimal g.table) (decimal g.priority) (encode_lower g.key)) in
    let priority = number_splits f.priority g.priority (encode_lower f.key) (encode_lower g.key) (omega (arith, p.priority)) (omega (arith, q.priority)) table.1 in
    record { table = table.0; priority = priority.0; key = hex_injective f.key g.key p.key q.key priority.1 }

pub is_same : (f g : Flow) → SameFlow f g → is_same_flow f g ≡ true
is_same f g s =
    let a : eqb f.table g.table ≡ true = eq-eqb _ _ s.table in
    let b : eqb f.priority g.priority ≡ true = eq-eqb _ _ s.priority in
    let c : bytes_eq f.key g.key ≡ true = (bytes_eq-Decides f.key g.key).1 s.key in
    rw (a, b, c) refl

pub same_flow : (f g : Flow) → f.table ≡ g.table → f.priority ≡ g.priority → f.key ≡ g.key → is_same_flow f g ≡ true
same_flow f g a b c = is_same f g (record { table = a; priority = b; key = c })

both : (a b : Bool) → a && b ≡ true → (a ≡ true) × (b ≡ true)
both true true e = (refl, refl)
both true false e = absurd (cc)
both false b e = absurd (cc)

same_name : (f g : Flow) → is_same_flow f g ≡ true → flow_name f ≡ flow_name g
unfolding flow_name
same_name f g e =
    let one = both _ _ e in
    let two = both _ _ one.1 in
    let table : f.table ≡ g.table = eqb-true _ _ one.0 in
    let priority : f.priority ≡ g.priority = eqb-true _ _ two.0 in
    let key : f.key ≡ g.key = (bytes_eq-Decides f.key g.key).0 two.1 in
    ap (λ t. decimal t ++ codes ":" ++ decimal f.priority ++ codes ":" ++ encode_lower f.key) table
    ∙ ap (λ p. decimal g.table ++ codes ":" ++ decimal p ++ codes ":" ++ encode_lower f.key) priority
    ∙ ap (λ k. decimal g.table ++ codes ":" ++ decimal g.priority ++ codes ":" ++ encode_lower k) key

same_bool : (a b : Bool) → (a ≡ true → b ≡ true) → (b ≡ true → a ≡ true) → a ≡ b
same_bool true b f g = sym (f refl)
same_bool false true f g = g refl
same_bool false false f g = refl

names_agree : (f g : Flow) → FitsName f → FitsName g → bytes_eq (flow_name f) (flow_name g) ≡ is_same_flow f g
names_agree f g p q =
    same_bool (bytes_eq (flow_name f) (flow_name g)) (is_same_flow f g)
    (λ e. is_same f g (name_tells f g p q ((bytes_eq-Decides (flow_name f) (flow_name g)).0 e)))
    (λ e. (bytes_eq-Decides (flow_name f) (flow_name g)).1 (same_name f g e))

-- by its name a flow entry is found among others
pub found_by_name : (before : List Flow) (x : Flow) → AllByRecursion FitsName before → FitsName x
    → list_any (λ f. bytes_eq (flow_name f) (flow_name x)) before ≡ list_any (λ f. is_same_flow f x) before
found_by_name [] x are is = refl
found_by_name (f ∷ more) x are is =
    ap (λ b. b || list_any (λ g. bytes_eq (flow_name g) (flow_name x)) more) (names_agree f x are.0 is)
    ∙ ap (λ b. is_same_flow f x || b) (found_by_name more x are.1 is)
