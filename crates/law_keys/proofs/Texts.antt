-- Texts that spell addresses: which characters they don't have, and where they are cut.
use Rattle.std.specs.Prelude.{◌≡◌, ℕ, ◌+◌, ◌/◌, ◌%◌, ◌^◌, ◌<◌, ◌≤◌, ◌⊎◌, Bool, true, false, List, [], ◌∷◌, ◌++◌, Option, Some, None, ◌==◌, nat_lt, if◌then◌else◌, IsTrue}
use Rattle.std.specs.Char.{is_ascii_hexdigit}
use Rattle.std.proofs.Common.{inl, inr, refl, sym, ap, ◌∙◌, subst, arith, ltb-true}
use Rattle.std.proofs.lemmas.Bool.Decides.{nat_tests}
use Rattle.std.proofs.lemmas.Option.{same_Some, none-some}
use Rattle.net_base.specs.Address.{SpellsBehind, SpellsMac, decimal, ip4_text}
use Rattle.net_base.specs.AddressReading.{◌>>=◌, cut_at}
use Rattle.net_base.proofs.Cut.{cut_at_mark, cut_past, equal_at}
use Rattle.law_keys.specs.Grammar.{IsOneOf}
use Rattle.law_keys.proofs.Lists.{of_joined}

-- ---- cutting at a mark

abbrev Before : ℕ → Option (List ℕ × List ℕ) → Option (List ℕ × List ℕ)
Before b read = read >>= λ cut. Some (b ∷ cut.0, cut.1)

pub cut_again : (mark : ℕ) (front rest : List ℕ) → (IsOneOf front mark → ⊥) → cut_at mark (front ++ mark ∷ rest) ≡ Some (front, rest)
cut_again mark [] rest none = cut_at_mark mark mark rest refl
cut_again mark (b ∷ bs) rest none = cut_past mark b (bs ++ mark ∷ rest) (λ e. none (inl e)) ∙ ap (Before b) (cut_again mark bs rest (λ i. none (inr i)))

pub cut_there : (mark : ℕ) (text : List ℕ) (parts : List ℕ × List ℕ) → cut_at mark text ≡ Some parts → text ≡ parts.0 ++ mark ∷ parts.1
cut_there mark [] parts e = absurd cc
cut_there mark (b ∷ bs) parts e = by (b == mark) refl (cut_at mark bs) e (cut_there mark bs)
  where
    by : (is : Bool) → (b == mark) ≡ is → (o : Option (List ℕ × List ℕ)) → (if is then Some ([], bs) else (o >>= λ cut. Some (b ∷ cut.0, cut.1))) ≡ Some parts
        → ((cut : List ℕ × List ℕ) → o ≡ Some cut → bs ≡ cut.0 ++ mark ∷ cut.1) → b ∷ bs ≡ parts.0 ++ mark ∷ parts.1
    by true is o e more = let same : ([], bs) ≡ parts = same_Some ([], bs) parts e in subst (λ (p : List ℕ × List ℕ). b ∷ bs ≡ p.0 ++ mark ∷ p.1) same (ap (λ m. m ∷ bs) (equal_at b mark is))
    by false is None e more = absurd (none-some parts e)
    by false is (Some cut) e more = let same : (b ∷ cut.0, cut.1) ≡ parts = same_Some (b ∷ cut.0, cut.1) parts e in subst (λ (p : List ℕ × List ℕ). b ∷ bs ≡ p.0 ++ mark ∷ p.1) same (ap (λ w. b ∷ w) (more cut refl))

pub cut_is : (mark : ℕ) (text front rest : List ℕ) → (IsOneOf front mark → ⊥) → text ≡ front ++ mark ∷ rest → cut_at mark text ≡ Some (front, rest)
cut_is mark text front rest free is = ap (cut_at mark) is ∙ cut_again mark front rest free

pub no_cut : (mark : ℕ) (text front rest : List ℕ) → cut_at mark text ≡ None → (IsOneOf front mark → ⊥) → text ≡ front ++ mark ∷ rest → ⊥
no_cut mark text front rest none free is = none-some (front, rest) (sym none ∙ cut_is mark text front rest free is)

pub same_cut : (mark : ℕ) (text front rest : List ℕ) (parts : List ℕ × List ℕ) → cut_at mark text ≡ Some parts → (IsOneOf front mark → ⊥) → text ≡ front ++ mark ∷ rest → parts ≡ (front, rest)
same_cut mark text front rest parts e free is = same_Some parts (front, rest) (sym e ∙ cut_is mark text front rest free is)

-- ---- Ethernet addresses have no slash

no_slash_digit : (c : ℕ) → IsTrue (is_ascii_hexdigit c) → c ≡ 47 → ⊥
no_slash_digit c h e = grind (arith, nat_tests)

no_slash_behind : (text bytes : List ℕ) → SpellsBehind text bytes → IsOneOf text 47 → ⊥
no_slash_behind text [] s i = subst (λ t. IsOneOf t 47) s i
no_slash_behind text (byte ∷ bytes) s i = by (subst (λ t. IsOneOf t 47) s.3 i) (λ j. no_slash_behind s.2 bytes s.5 j)
  where
    by : IsOneOf (58 ∷ s.0 ∷ s.1 ∷ s.2) 47 → (IsOneOf s.2 47 → ⊥) → ⊥
    by (inl e) more = absurd (omega (arith, e))
    by (inr (inl e)) more = no_slash_digit s.0 s.4.first e
    by (inr (inr (inl e))) more = no_slash_digit s.1 s.4.second e
    by (inr (inr (inr j))) more = more j

pub no_slash_mac : (text mac : List ℕ) → SpellsMac text mac → IsOneOf text 47 → ⊥
no_slash_mac text [] s i = s
no_slash_mac text (byte ∷ bytes) s i = by (subst (λ t. IsOneOf t 47) s.3 i)
  where
    by : IsOneOf (s.0 ∷ s.1 ∷ s.2) 47 → ⊥
    by (inl e) = no_slash_digit s.0 s.4.first e
    by (inr (inl e)) = no_slash_digit s.1 s.4.second e
    by (inr (inr j)) = no_slash_behind s.2 bytes s.5 j

-- ---- digits

-- neither a slash nor a colon is a digit
abbrev IsNoDigit : ℕ → Type 0
IsNoDigit c = (c ≡ 47) ⊎ (c ≡ 58)

no_digit : (d c : ℕ) → 48 ≤ d → d < 58 → IsNoDigit c → d ≡ c → ⊥
no_digit d c low high (inl e) is = absurd (omega (arith, e, is))
no_digit d c low high (inr e) is = absurd (omega (arith, e, is))

pub digits_alone : (n c : ℕ) → n < 1000 → IsNoDigit c → IsOneOf (decimal n) c → ⊥
digits_alone n c small mark i = by (nat_lt n 10) refl (nat_lt n 100) refl i
  where
    by : (a : Bool) → nat_lt n 10 ≡ a → (b : Bool) → nat_lt n 100 ≡ b
        → IsOneOf (if a then (48 + n) ∷ [] else if b then (48 + n / 10) ∷ (48 + n % 10) ∷ [] else (48 + n / 100) ∷ (48 + n / 10 % 10) ∷ (48 + n % 10) ∷ []) c → ⊥
    by true e b f (inr h) = absurd h
    by true e b f (inl h) = let l = ltb-true n 10 e in no_digit (48 + n) c (omega arith) (omega (arith, l)) mark h
    by false e true f (inl h) = let l = ltb-true n 100 f in no_digit (48 + n / 10) c (omega arith) (omega (arith, l)) mark h
    by false e true f (inr (inr h)) = absurd h
    by false e true f (inr (inl h)) = no_digit (48 + n % 10) c (omega arith) (omega arith) mark h
    by false e false f (inl h) = no_digit (48 + n / 100) c (omega arith) (omega (arith, small)) mark h
    by false e false f (inr (inl h)) = no_digit (48 + n / 10 % 10) c (omega arith) (omega arith) mark h
    by false e false f (inr (inr (inr h))) = absurd h
    by false e false f (inr (inr (inl h))) = no_digit (48 + n % 10) c (omega arith) (omega arith) mark h

behind_point : (xs ys : List ℕ) (c : ℕ) → IsNoDigit c → (IsOneOf xs c → ⊥) → (IsOneOf ys c → ⊥) → IsOneOf (xs ++ 46 ∷ ys) c → ⊥
behind_point xs ys c mark front rest i = by (of_joined xs (46 ∷ ys) c i)
  where
    point : IsNoDigit c → 46 ≡ c → ⊥
    point (inl e) is = absurd (omega (arith, e, is))
    point (inr e) is = absurd (omega (arith, e, is))

    by : IsOneOf xs c ⊎ IsOneOf (46 ∷ ys) c → ⊥
    by (inl j) = front j
    by (inr (inl e)) = point mark e
    by (inr (inr j)) = rest j

address_alone : (ip c : ℕ) → ip < 2 ^ 32 → IsNoDigit c → IsOneOf (ip4_text ip) c → ⊥
address_alone ip c below mark i =
    behind_point (decimal (ip / 2 ^ 24)) (decimal (ip / 2 ^ 16 % 256) ++ 46 ∷ (decimal (ip / 2 ^ 8 % 256) ++ 46 ∷ decimal (ip % 256))) c mark
    (digits_alone (ip / 2 ^ 24) c (omega (arith, below)) mark)
    (behind_point (decimal (ip / 2 ^ 16 % 256)) (decimal (ip / 2 ^ 8 % 256) ++ 46 ∷ decimal (ip % 256)) c mark
    (digits_alone (ip / 2 ^ 16 % 256) c (omega arith) mark)
    (behind_point (decimal (ip / 2 ^ 8 % 256)) (decimal (ip % 256)) c mark (digits_alone (ip / 2 ^ 8 % 256) c (omega arith) mark) (digits_alone (ip % 256) c (omega arith) mark)))
    i

pub no_slash_address : (ip : ℕ) → ip < 2 ^ 32 → IsOneOf (ip4_text ip) 47 → ⊥
no_slash_address ip below i = address_alone ip 47 below (inl refl) i

pub no_colon_address : (ip : ℕ) → ip < 2 ^ 32 → IsOneOf (ip4_text ip) 58 → ⊥
no_colon_address ip below i = address_alone ip 58 below (inr refl) i
