-- Addresses: what is read is spelled so, and what is spelled so is read.
use Rattle.std.proofs.Common.{◌≡◌, ℕ, zero, suc, ◌+◌, ◌-◌, ◌*◌, ◌/◌, ◌%◌, ◌^◌, ◌<◌, ◌≤◌, true, false, Bool, cond, List, [], ◌∷◌, ◌++◌, length, get_or, take, Option, Some, None, refl, sym, ap, subst, ◌∙◌, ◌⊎◌, inl, inr, append_assoc, arith}
use Rattle.std.specs.Prelude.{◌==◌, ◌&&◌, ◌||◌, nat_lt, nat_le, IsTrue, IfSome, IfNone}
use Rattle.std.specs.Int.{is_in_range}
use Rattle.std.specs.Str.{IsUtf8}
use Rattle.std.proofs.lemmas.Str.{IsUtf8-from_ascii, IsUtf8-append, IsUtf8-nil}
use Rattle.net_base.specs.declared.address.Mac.{Mac}
use Rattle.std.specs.List.{AllByRecursion}
use Rattle.std.specs.Char.{digit_value, digit_char, is_ascii_digit, is_ascii_hexdigit}
use Rattle.std.proofs.lemmas.List.{take_more}
use Rattle.std.proofs.lemmas.Bool.Decides.{nat_tests}
use Rattle.net_base.specs.Address.{decimal, ip4_text, net4_text, IsPair, SpellsBehind, SpellsMac, pair_text, behind_text, mac_text}
use Rattle.net_base.specs.AddressReading.{◌>>=◌, IsMac, hex_of, digit_of, first_digit_of, pair_at, next_at, spelled_mac, number_of, number_up_to, cut_at, ip4_of, net4_of}
use Rattle.net_base.proofs.Cut.{cut_at_mark, cut_past, equal_at}

pub bind_ok : {A B : Type 0} (r : Option A) (f : A → Option B) (y : B) → (r >>= f) ≡ Some y → (x : A) × (r ≡ Some x) × (f x ≡ Some y)
bind_ok None f y h = absurd (cc)
bind_ok (Some x) f y h = (x, refl, h)

pub chosen : {A : Type 0} (b : Bool) (x y z : A) → cond b x y ≡ z → ((b ≡ true) × (x ≡ z)) ⊎ ((b ≡ false) × (y ≡ z))
chosen true x y z h = inl (refl, h)
chosen false x y z h = inr (refl, h)

pub both : (a b : Bool) → a && b ≡ true → (a ≡ true) × (b ≡ true)
both true b h = (refl, h)
both false b h = absurd (cc)

pub no_more : (m n : ℕ) → n ≤ m → nat_lt m n ≡ false
no_more m n h = grind (arith, nat_tests)

pub at_below : (m n : ℕ) → m < n → nat_lt m n ≡ true
at_below m n h = grind (arith, nat_tests)

pub at_most : (m n : ℕ) → m ≤ n → nat_le m n ≡ true
at_most m n h = grind (arith, nat_tests)

pub is_most : (m n : ℕ) → nat_le m n ≡ true → m ≤ n
is_most m n h = grind (arith, nat_tests)

pub in_range : (lo hi c : ℕ) → lo ≤ c → c ≤ hi → is_in_range lo hi c ≡ true
in_range lo hi c h k = rw (at_most lo c h, at_most c hi k) refl

pub range_in : (lo hi c : ℕ) → is_in_range lo hi c ≡ true → (lo ≤ c) × (c ≤ hi)
range_in lo hi c h = let k = both (nat_le lo c) (nat_le c hi) h in (is_most lo c k.0, is_most c hi k.1)

-- decimal numbers
one_digit : (n : ℕ) → n < 10 → decimal n ≡ (48 + n) ∷ []
one_digit n h = rw (at_below n 10 h) refl

two_digits : (n t o : ℕ) → n ≡ 10 * t + o → 1 ≤ t → t < 10 → o < 10 → decimal n ≡ (48 + t) ∷ (48 + o) ∷ []
two_digits n t o e a b c =
    let q : n / 10 ≡ t = omega arith in
    let r : n % 10 ≡ o = omega arith in
    rw (no_more n 10 (omega arith), at_below n 100 (omega arith), q, r) refl

three_digits : (n h t o : ℕ) → n ≡ 100 * h + 10 * t + o → 1 ≤ h → h < 10 → t < 10 → o < 10 → decimal n ≡ (48 + h) ∷ (48 + t) ∷ (48 + o) ∷ []
three_digits n h t o e a b c d =
    let q : n / 100 ≡ h = omega arith in
    let m : n / 10 % 10 ≡ t = omega arith in
    let r : n % 10 ≡ o = omega arith in
    rw (no_more n 10 (omega arith), no_more n 100 (omega arith), q, m, r) refl

digit_ok : (b n : ℕ) → digit_of b ≡ Some n → (b ≡ 48 + n) × (n < 10)
digit_ok b n h = elim (chosen (is_ascii_digit b) (Some (b - 48)) None (Some n) h) [
  | inl p ↦ let r = range_in 48 57 b p.0 in let e : b - 48 ≡ n = cc (p.1) in (omega arith, omega arith)
  | inr p ↦ absurd (cc (p.1))
]

first_ok : (b n : ℕ) → first_digit_of b ≡ Some n → (b ≡ 48 + n) × (1 ≤ n) × (n < 10)
first_ok b n h = elim (chosen (is_in_range 49 57 b) (Some (b - 48)) None (Some n) h) [
  | inl p ↦ let r = range_in 49 57 b p.0 in let e : b - 48 ≡ n = cc (p.1) in (omega arith, omega arith, omega arith)
  | inr p ↦ absurd (cc (p.1))
]

digit_again : (n : ℕ) → n < 10 → digit_of (48 + n) ≡ Some n
digit_again n h = let e : 48 + n - 48 ≡ n = omega arith in rw (in_range 48 57 (48 + n) (omega arith) (omega arith), e) refl

first_again : (n : ℕ) → 1 ≤ n → n < 10 → first_digit_of (48 + n) ≡ Some n
first_again n k h = let e : 48 + n - 48 ≡ n = omega arith in rw (in_range 49 57 (48 + n) (omega arith) (omega arith), e) refl

two_bytes : (a b x y : ℕ) → a ≡ x → b ≡ y → a ∷ b ∷ [] ≡ x ∷ y ∷ []
two_bytes a b x y e f = cc

three_bytes : (a b c x y z : ℕ) → a ≡ x → b ≡ y → c ≡ z → a ∷ b ∷ c ∷ [] ≡ x ∷ y ∷ z ∷ []
three_bytes a b c x y z e f g = cc

number_ok : (bs : List ℕ) (n : ℕ) → number_of bs ≡ Some n → bs ≡ decimal n
unfolding number_of
number_ok [] n h = absurd (cc)
number_ok (a ∷ []) n h = let d = digit_ok a n h in ap (λ x. x ∷ []) d.0 ∙ sym (one_digit n d.1)
number_ok (a ∷ b ∷ []) n h =
    let s = bind_ok (first_digit_of a) (λ tens. digit_of b >>= λ ones. Some (10 * tens + ones)) n h in
    let t = bind_ok (digit_of b) (λ ones. Some (10 * s.0 + ones)) n s.2 in
    let d = first_ok a s.0 s.1 in
    let o = digit_ok b t.0 t.1 in
    let e : 10 * s.0 + t.0 ≡ n = cc (t.2) in
    two_bytes a b (48 + s.0) (48 + t.0) d.0 o.0 ∙ sym (two_digits n s.0 t.0 (sym e) d.1 d.2 o.1)
number_ok (a ∷ b ∷ c ∷ []) n h =
    let r = bind_ok (first_digit_of a) (λ hundreds. digit_of b >>= λ tens. digit_of c >>= λ ones. Some (100 * hundreds + 10 * tens + ones)) n h in
    let s = bind_ok (digit_of b) (λ tens. digit_of c >>= λ ones. Some (100 * r.0 + 10 * tens + ones)) n r.2 in
    let t = bind_ok (digit_of c) (λ ones. Some (100 * r.0 + 10 * s.0 + ones)) n s.2 in
    let f = first_ok a r.0 r.1 in
    let d = digit_ok b s.0 s.1 in
    let o = digit_ok c t.0 t.1 in
    let e : 100 * r.0 + 10 * s.0 + t.0 ≡ n = cc (t.2) in
    three_bytes a b c (48 + r.0) (48 + s.0) (48 + t.0) f.0 d.0 o.0 ∙ sym (three_digits n r.0 s.0 t.0 (sym e) f.1 f.2 d.1 o.1)
number_ok (a ∷ b ∷ c ∷ d ∷ bs) n h = absurd (cc)

one_again : (n : ℕ) → n < 10 → number_of ((48 + n) ∷ []) ≡ Some n
unfolding number_of
one_again n h = digit_again n h

two_again : (n t o : ℕ) → n ≡ 10 * t + o → 1 ≤ t → t < 10 → o < 10 → number_of ((48 + t) ∷ (48 + o) ∷ []) ≡ Some n
unfolding number_of
two_again n t o e a b c = rw (first_again t a b, digit_again o c) (ap (λ (x : ℕ). Some x) (sym e))

three_again : (n h t o : ℕ) → n ≡ 100 * h + 10 * t + o → 1 ≤ h → h < 10 → t < 10 → o < 10 → number_of ((48 + h) ∷ (48 + t) ∷ (48 + o) ∷ []) ≡ Some n
unfolding number_of
three_again n h t o e a b c d = rw (first_again h a b, digit_again t c, digit_again o d) (ap (λ (x : ℕ). Some x) (sym e))

pub less_or_not : (m n : ℕ) → (m < n) ⊎ (n ≤ m)
less_or_not m n = elim (nat_lt m n) as (λ v. nat_lt m n ≡ v → (m < n) ⊎ (n ≤ m)) [ true ↦ λ e. inl (grind (arith, nat_tests)) | false ↦ λ e. inr (grind (arith, nat_tests)) ] refl

number_again : (n : ℕ) → n < 256 → number_of (decimal n) ≡ Some n
number_again n h = elim (less_or_not n 10) [
  | inl p ↦ rw (one_digit n p) (one_again n p)
  | inr p ↦ elim (less_or_not n 100) [
    | inl q ↦
        let e : n ≡ 10 * (n / 10) + n % 10 = omega arith in
        rw (two_digits n (n / 10) (n % 10) e (omega arith) (omega arith) (omega arith)) (two_again n (n / 10) (n % 10) e (omega arith) (omega arith) (omega arith))
    | inr q ↦
        let e : n ≡ 100 * (n / 100) + 10 * (n / 10 % 10) + n % 10 = omega arith in
        rw (three_digits n (n / 100) (n / 10 % 10) (n % 10) e (omega arith) (omega arith) (omega arith) (omega arith))
        (three_again n (n / 100) (n / 10 % 10) (n % 10) e (omega arith) (omega arith) (omega arith) (omega arith))
  ]
]

pub up_to_ok : (most : ℕ) (bs : List ℕ) (n : ℕ) → number_up_to most bs ≡ Some n → (bs ≡ decimal n) × (n ≤ most)
unfolding number_up_to
up_to_ok most bs n h =
    let r = bind_ok (number_of bs) (λ m. cond (nat_le m most) (Some m) None) n h in
    elim (chosen (nat_le r.0 most) (Some r.0) None (Some n) r.2) [
      | inl p ↦ let e : r.0 ≡ n = cc (p.1) in (number_ok bs n (r.1 ∙ ap (λ (x : ℕ). Some x) e), subst (λ m. m ≤ most) e (is_most r.0 most p.0))
      | inr p ↦ absurd (cc (p.1))
    ]

pub up_to_again : (most n : ℕ) → n ≤ most → most < 256 → number_up_to most (decimal n) ≡ Some n
unfolding number_up_to
up_to_again most n h k = rw (number_again n (omega arith), at_most n most h) refl

-- pieces before a mark
abbrev pub Free : ℕ → List ℕ → Type 0
Free mark bs = AllByRecursion (λ b. ¬ (b ≡ mark)) bs

pub free_append : (mark : ℕ) (xs ys : List ℕ) → Free mark xs → Free mark ys → Free mark (xs ++ ys)
free_append mark [] ys h k = k
free_append mark (x ∷ xs) ys h k = (h.0, free_append mark xs ys h.1 k)

pub decimal_free : (mark n : ℕ) → mark < 48 → Free mark (decimal n)
decimal_free mark n h = elim (less_or_not n 10) [
  | inl p ↦ subst (Free mark) (sym (one_digit n p)) (λ e. absurd (omega arith), tt)
  | inr p ↦ elim (less_or_not n 100) [
    | inl q ↦ rw (no_more n 10 p, at_below n 100 q) ((λ e. absurd (omega arith)), ((λ e. absurd (omega arith)), tt))
    | inr q ↦ rw (no_more n 10 p, no_more n 100 q) ((λ e. absurd (omega arith)), ((λ e. absurd (omega arith)), ((λ e. absurd (omega arith)), tt)))
  ]
]

pub cut_again : (mark : ℕ) (front rest : List ℕ) → Free mark front → cut_at mark (front ++ mark ∷ rest) ≡ Some (front, rest)
cut_again mark [] rest h = cut_at_mark mark mark rest refl
cut_again mark (b ∷ bs) rest h = cut_past mark b (bs ++ mark ∷ rest) h.0 ∙ ap (λ r. r >>= (λ cut. Some (b ∷ cut.0, cut.1))) (cut_again mark bs rest h.1)

pub cut_ok : (mark : ℕ) (bs : List ℕ) (x : List ℕ × List ℕ) → cut_at mark bs ≡ Some x → bs ≡ x.0 ++ mark ∷ x.1
cut_ok mark [] x h = absurd (cc)
cut_ok mark (b ∷ bs) x h = elim (chosen (b == mark) (Some ([], bs)) (cut_at mark bs >>= λ cut. Some (b ∷ cut.0, cut.1)) (Some x) h) [
  | inl p ↦ let e : ([], bs) ≡ x = cc (p.1) in subst (λ (y : List ℕ × List ℕ). b ∷ bs ≡ y.0 ++ mark ∷ y.1) e (ap (λ k. k ∷ bs) (equal_at b mark p.0))
  | inr p ↦
      let r = bind_ok (cut_at mark bs) (λ cut. Some (b ∷ cut.0, cut.1)) x p.1 in
      let e : (b ∷ r.0.0, r.0.1) ≡ x = cc (r.2) in
      subst (λ (y : List ℕ × List ℕ). b ∷ bs ≡ y.0 ++ mark ∷ y.1) e (ap (λ w. b ∷ w) (cut_ok mark bs r.0 r.1))
]

-- IPv4 addresses
joined4 : (a b c d : ℕ) → List ℕ
joined4 a b c d = decimal a ++ 46 ∷ (decimal b ++ 46 ∷ (decimal c ++ 46 ∷ decimal d))

whole : (n a b c d : ℕ) → n ≡ 2 ^ 24 * a + 2 ^ 16 * b + 2 ^ 8 * c + d → a ≤ 255 → b ≤ 255 → c ≤ 255 → d ≤ 255 → ip4_text n ≡ joined4 a b c d
unfolding joined4
whole n a b c d e ha hb hc hd =
    let p : n / 2 ^ 24 ≡ a = omega arith in
    let q : n / 2 ^ 16 % 256 ≡ b = omega arith in
    let r : n / 2 ^ 8 % 256 ≡ c = omega arith in
    let s : n % 256 ≡ d = omega arith in
    rw (p, q, r, s) refl

ip4_read : (a b c d : ℕ) → a ≤ 255 → b ≤ 255 → c ≤ 255 → d ≤ 255 → ip4_of (joined4 a b c d) ≡ Some (2 ^ 24 * a + 2 ^ 16 * b + 2 ^ 8 * c + d)
unfolding joined4 ip4_of
ip4_read a b c d ha hb hc hd =
    rw (
      cut_again 46 (decimal a) (decimal b ++ 46 ∷ (decimal c ++ 46 ∷ decimal d)) (decimal_free 46 a (omega arith)),
      cut_again 46 (decimal b) (decimal c ++ 46 ∷ decimal d) (decimal_free 46 b (omega arith)),
      cut_again 46 (decimal c) (decimal d) (decimal_free 46 c (omega arith)),
      up_to_again 255 a ha (omega arith),
      up_to_again 255 b hb (omega arith),
      up_to_again 255 c hc (omega arith),
      up_to_again 255 d hd (omega arith),
    ) refl

pub ip4_again : (n : ℕ) → n < 2 ^ 32 → ip4_of (ip4_text n) ≡ Some n
ip4_again n h =
    let e : n ≡ 2 ^ 24 * (n / 2 ^ 24) + 2 ^ 16 * (n / 2 ^ 16 % 256) + 2 ^ 8 * (n / 2 ^ 8 % 256) + n % 256 = omega arith in
    let a : n / 2 ^ 24 ≤ 255 = omega arith in
    let b : n / 2 ^ 16 % 256 ≤ 255 = omega arith in
    let c : n / 2 ^ 8 % 256 ≤ 255 = omega arith in
    let d : n % 256 ≤ 255 = omega arith in
    ap ip4_of (whole n (n / 2 ^ 24) (n / 2 ^ 16 % 256) (n / 2 ^ 8 % 256) (n % 256) e a b c d) ∙ ip4_read (n / 2 ^ 24) (n / 2 ^ 16 % 256) (n / 2 ^ 8 % 256) (n % 256) a b c d ∙ ap (λ (x : ℕ). Some x) (sym e)

below_all : (n a b c d : ℕ) → n ≡ 2 ^ 24 * a + 2 ^ 16 * b + 2 ^ 8 * c + d → a ≤ 255 → b ≤ 255 → c ≤ 255 → d ≤ 255 → n < 2 ^ 32
below_all n a b c d e ha hb hc hd = omega arith

put_together : (text f r g s i d : List ℕ) (a b c e : ℕ) → text ≡ f ++ 46 ∷ r → r ≡ g ++ 46 ∷ s → s ≡ i ++ 46 ∷ d → f ≡ decimal a → g ≡ decimal b → i ≡ decimal c → d ≡ decimal e → text ≡ joined4 a b c e
unfolding joined4
put_together text f r g s i d a b c e h1 h2 h3 h4 h5 h6 h7 = rw (h1, h2, h3, h4, h5, h6, h7) refl

ip4_is : (text : List ℕ) (n : ℕ) (f r g s i d : List ℕ) (a b c e : ℕ) → 2 ^ 24 * a + 2 ^ 16 * b + 2 ^ 8 * c + e ≡ n → text ≡ f ++ 46 ∷ r → r ≡ g ++ 46 ∷ s → s ≡ i ++ 46 ∷ d
    → (f ≡ decimal a) × (a ≤ 255) → (g ≡ decimal b) × (b ≤ 255) → (i ≡ decimal c) × (c ≤ 255) → (d ≡ decimal e) × (e ≤ 255) → (text ≡ ip4_text n) × (n < 2 ^ 32)
ip4_is text n f r g s i d a b c e h1 h2 h3 h4 k1 k2 k3 k4 =
    (put_together text f r g s i d a b c e h2 h3 h4 k1.0 k2.0 k3.0 k4.0 ∙ sym (whole n a b c e (sym h1) k1.1 k2.1 k3.1 k4.1), below_all n a b c e (sym h1) k1.1 k2.1 k3.1 k4.1)

pub ip4_ok : (text : List ℕ) (n : ℕ) → ip4_of text ≡ Some n → (text ≡ ip4_text n) × (n < 2 ^ 32)
unfolding ip4_of
ip4_ok text n h =
    let finish : ℕ → ℕ → ℕ → ℕ → Option ℕ = λ a b c d. Some (2 ^ 24 * a + 2 ^ 16 * b + 2 ^ 8 * c + d) in
    let numbers : List ℕ → List ℕ → List ℕ → List ℕ → Option ℕ = λ f g i d. number_up_to 255 f >>= λ a. number_up_to 255 g >>= λ b. number_up_to 255 i >>= λ c. number_up_to 255 d >>= finish a b c in
    let x = bind_ok (cut_at 46 text) (λ first. cut_at 46 first.1 >>= λ second. cut_at 46 second.1 >>= λ third. numbers first.0 second.0 third.0 third.1) n h in
    let y = bind_ok (cut_at 46 x.0.1) (λ second. cut_at 46 second.1 >>= λ third. numbers x.0.0 second.0 third.0 third.1) n x.2 in
    let z = bind_ok (cut_at 46 y.0.1) (λ third. numbers x.0.0 y.0.0 third.0 third.1) n y.2 in
    let a = bind_ok (number_up_to 255 x.0.0) (λ a. number_up_to 255 y.0.0 >>= λ b. number_up_to 255 z.0.0 >>= λ c. number_up_to 255 z.0.1 >>= finish a b c) n z.2 in
    let b = bind_ok (number_up_to 255 y.0.0) (λ b. number_up_to 255 z.0.0 >>= λ c. number_up_to 255 z.0.1 >>= finish a.0 b c) n a.2 in
    let c = bind_ok (number_up_to 255 z.0.0) (λ c. number_up_to 255 z.0.1 >>= finish a.0 b.0 c) n b.2 in
    let d = bind_ok (number_up_to 255 z.0.1) (finish a.0 b.0 c.0) n c.2 in
    let e : 2 ^ 24 * a.0 + 2 ^ 16 * b.0 + 2 ^ 8 * c.0 + d.0 ≡ n = cc (d.2) in
    let ka = up_to_ok 255 x.0.0 a.0 a.1 in
    let kb = up_to_ok 255 y.0.0 b.0 b.1 in
    let kc = up_to_ok 255 z.0.0 c.0 c.1 in
    let kd = up_to_ok 255 z.0.1 d.0 d.1 in
    ip4_is text n x.0.0 x.0.1 y.0.0 y.0.1 z.0.0 z.0.1 a.0 b.0 c.0 d.0 e (cut_ok 46 text x.0 x.1) (cut_ok 46 x.0.1 y.0 y.1) (cut_ok 46 y.0.1 z.0 z.1) ka kb kc kd

slash_below : 47 < 48
slash_below = omega arith

apart_by : (m n : ℕ) → m < n → m ≡ n → ⊥
apart_by m n h e = omega arith

dot_apart : ◌≡◌ {A = ℕ} 46 47 → ⊥
dot_apart = apart_by 46 47 (omega arith)

free_dot : (n : ℕ) (rest : List ℕ) → Free 47 rest → Free 47 (decimal n ++ 46 ∷ rest)
free_dot n rest h = free_append 47 (decimal n) (46 ∷ rest) (decimal_free 47 n slash_below) (dot_apart, h)

free4 : (a b c d : ℕ) → Free 47 (decimal a ++ 46 ∷ (decimal b ++ 46 ∷ (decimal c ++ 46 ∷ decimal d)))
free4 a b c d = free_dot a _ (free_dot b _ (free_dot c _ (decimal_free 47 d slash_below)))

ip4_free : (n : ℕ) → Free 47 (ip4_text n)
ip4_free n = free4 (n / 2 ^ 24) (n / 2 ^ 16 % 256) (n / 2 ^ 8 % 256) (n % 256)

pub net4_again : (n len : ℕ) → n < 2 ^ 32 → len ≤ 32 → net4_of (net4_text n len) ≡ Some (n, len)
unfolding net4_of
net4_again n len h k = rw (cut_again 47 (ip4_text n) (decimal len) (ip4_free n), ip4_again n h, up_to_again 32 len k (omega arith)) refl

net4_is : (text f r : List ℕ) (n len : ℕ) → text ≡ f ++ 47 ∷ r → f ≡ ip4_text n → r ≡ decimal len → text ≡ net4_text n len
net4_is text f r n len h i k = rw (h, i, k) refl

pub net4_ok : (text : List ℕ) (x : ℕ × ℕ) → net4_of text ≡ Some x → (text ≡ net4_text x.0 x.1) × (x.0 < 2 ^ 32) × (x.1 ≤ 32)
unfolding net4_of
net4_ok text x h =
    let p = bind_ok (cut_at 47 text) (λ parts. ip4_of parts.0 >>= λ ip. number_up_to 32 parts.1 >>= λ len. Some (ip, len)) x h in
    let i = bind_ok (ip4_of p.0.0) (λ ip. number_up_to 32 p.0.1 >>= λ len. Some (ip, len)) x p.2 in
    let l = bind_ok (number_up_to 32 p.0.1) (λ len. Some (i.0, len)) x i.2 in
    let e : (i.0, l.0) ≡ x = cc (l.2) in
    let ki = ip4_ok p.0.0 i.0 i.1 in
    let kl = up_to_ok 32 p.0.1 l.0 l.1 in
    subst (λ (y : ℕ × ℕ). (text ≡ net4_text y.0 y.1) × (y.0 < 2 ^ 32) × (y.1 ≤ 32)) e (net4_is text p.0.0 p.0.1 i.0 l.0 (cut_ok 47 text p.0 p.1) ki.0 kl.0, ki.1, kl.1)

-- Ethernet addresses
pub hex_ok : (b n : ℕ) → hex_of b ≡ Some n → IsTrue (is_ascii_hexdigit b) × (digit_value b ≡ n)
hex_ok b n h = elim (chosen (is_ascii_hexdigit b) (Some (digit_value b)) None (Some n) h) [
  | inl p ↦ (p.0, cc (p.1))
  | inr p ↦ absurd (cc (p.1))
]

pub hex_again : (b : ℕ) → IsTrue (is_ascii_hexdigit b) → hex_of b ≡ Some (digit_value b)
hex_again b h = rw h refl

pair_ok : (bs : List ℕ) (x : ℕ × List ℕ) → pair_at bs ≡ Some x → (a b : ℕ) × (bs ≡ a ∷ b ∷ x.1) × IsPair a b x.0
unfolding pair_at
pair_ok [] x h = absurd (cc)
pair_ok (a ∷ []) x h = absurd (cc)
pair_ok (a ∷ b ∷ rest) x h =
    let p = bind_ok (hex_of a) (λ high. hex_of b >>= λ low. Some (16 * high + low, rest)) x h in
    let q = bind_ok (hex_of b) (λ low. Some (16 * p.0 + low, rest)) x p.2 in
    let e : (16 * p.0 + q.0, rest) ≡ x = cc (q.2) in
    let kp = hex_ok a p.0 p.1 in
    let kq = hex_ok b q.0 q.1 in
    let v : 16 * p.0 + q.0 ≡ 16 * digit_value a + digit_value b = cc (kp.1, kq.1) in
    subst (λ (y : ℕ × List ℕ). (c d : ℕ) × (a ∷ b ∷ rest ≡ c ∷ d ∷ y.1) × IsPair c d y.0) e (a, b, refl, record { first = kp.0; second = kq.0; value = v })

pair_again : (a b byte : ℕ) (rest : List ℕ) → IsPair a b byte → pair_at (a ∷ b ∷ rest) ≡ Some (byte, rest)
unfolding pair_at
pair_again a b byte rest h = rw (hex_again a h.first, hex_again b h.second) (ap (λ (n : ℕ). Some (n, rest)) (sym h.value))

next_ok : (bs : List ℕ) (x : ℕ × List ℕ) → next_at bs ≡ Some x → (a b : ℕ) × (bs ≡ 58 ∷ a ∷ b ∷ x.1) × IsPair a b x.0
unfolding next_at
next_ok [] x h = absurd (cc)
next_ok (c ∷ bs) x h = elim (chosen (c == 58) (pair_at bs) None (Some x) h) [
  | inl p ↦ let r = pair_ok bs x p.1 in (r.0, r.1, ap (λ k. k ∷ bs) (equal_at c 58 p.0) ∙ ap (λ w. 58 ∷ w) r.2, r.3)
  | inr p ↦ absurd (cc (p.1))
]

next_again : (a b byte : ℕ) (rest : List ℕ) → IsPair a b byte → next_at (58 ∷ a ∷ b ∷ rest) ≡ Some (byte, rest)
unfolding next_at
next_again a b byte rest h = pair_again a b byte rest h

empty_is : (bs : List ℕ) → (length bs == 0) ≡ true → bs ≡ []
empty_is [] h = refl
empty_is (b ∷ bs) h = let e : length (b ∷ bs) ≡ 0 = equal_at (length (b ∷ bs)) 0 h in absurd (omega arith)

-- five pairs behind colons
behind5 : (r s t u v w : List ℕ) (b c d e f : ℕ) → next_at r ≡ Some (b, s) → next_at s ≡ Some (c, t) → next_at t ≡ Some (d, u) → next_at u ≡ Some (e, v) → next_at v ≡ Some (f, w) → w ≡ [] → SpellsBehind r (b ∷ c ∷ d ∷ e ∷ f ∷ [])
behind5 r s t u v w b c d e f h1 h2 h3 h4 h5 h6 =
    let k1 = next_ok r (b, s) h1 in
    let k2 = next_ok s (c, t) h2 in
    let k3 = next_ok t (d, u) h3 in
    let k4 = next_ok u (e, v) h4 in
    let k5 = next_ok v (f, w) h5 in
    (k1.0, k1.1, s, k1.2, k1.3, (k2.0, k2.1, t, k2.2, k2.3, (k3.0, k3.1, u, k3.2, k3.3, (k4.0, k4.1, v, k4.2, k4.3, (k5.0, k5.1, w, k5.2, k5.3, h6)))))

six_ok : (text mac : List ℕ) (a b c d e f : ℕ × List ℕ) → pair_at text ≡ Some a → next_at a.1 ≡ Some b → next_at b.1 ≡ Some c → next_at c.1 ≡ Some d → next_at d.1 ≡ Some e → next_at e.1 ≡ Some f
    → cond (length f.1 == 0) (Some (a.0 ∷ b.0 ∷ c.0 ∷ d.0 ∷ e.0 ∷ f.0 ∷ [])) None ≡ Some mac → SpellsMac text mac
six_ok text mac a b c d e f h1 h2 h3 h4 h5 h6 h =
    elim (chosen (length f.1 == 0) (Some (a.0 ∷ b.0 ∷ c.0 ∷ d.0 ∷ e.0 ∷ f.0 ∷ [])) None (Some mac) h) [
      | inl p ↦
          let made : a.0 ∷ b.0 ∷ c.0 ∷ d.0 ∷ e.0 ∷ f.0 ∷ [] ≡ mac = cc (p.1) in
          let k = pair_ok text a h1 in
          subst (SpellsMac text) made (k.0, k.1, a.1, k.2, k.3, behind5 a.1 b.1 c.1 d.1 e.1 f.1 b.0 c.0 d.0 e.0 f.0 h2 h3 h4 h5 h6 (empty_is f.1 p.0), refl)
      | inr p ↦ absurd (cc (p.1))
    ]

pub mac_ok : (text mac : List ℕ) → spelled_mac text ≡ Some mac → SpellsMac text mac
unfolding spelled_mac
mac_ok text mac h =
    let end : List ℕ → List ℕ → Option (List ℕ) = λ bytes rest. cond (length rest == 0) (Some bytes) None in
    let from6 : ℕ → ℕ → ℕ → ℕ → ℕ → ℕ × List ℕ → Option (List ℕ) = λ a b c d e f. end (a ∷ b ∷ c ∷ d ∷ e ∷ f.0 ∷ []) f.1 in
    let from5 : ℕ → ℕ → ℕ → ℕ → ℕ × List ℕ → Option (List ℕ) = λ a b c d e. next_at e.1 >>= from6 a b c d e.0 in
    let from4 : ℕ → ℕ → ℕ → ℕ × List ℕ → Option (List ℕ) = λ a b c d. next_at d.1 >>= from5 a b c d.0 in
    let from3 : ℕ → ℕ → ℕ × List ℕ → Option (List ℕ) = λ a b c. next_at c.1 >>= from4 a b c.0 in
    let from2 : ℕ → ℕ × List ℕ → Option (List ℕ) = λ a b. next_at b.1 >>= from3 a b.0 in
    let from1 : ℕ × List ℕ → Option (List ℕ) = λ a. next_at a.1 >>= from2 a.0 in
    let a = bind_ok (pair_at text) from1 mac h in
    let b = bind_ok (next_at a.0.1) (from2 a.0.0) mac a.2 in
    let c = bind_ok (next_at b.0.1) (from3 a.0.0 b.0.0) mac b.2 in
    let d = bind_ok (next_at c.0.1) (from4 a.0.0 b.0.0 c.0.0) mac c.2 in
    let e = bind_ok (next_at d.0.1) (from5 a.0.0 b.0.0 c.0.0 d.0.0) mac d.2 in
    let f = bind_ok (next_at e.0.1) (from6 a.0.0 b.0.0 c.0.0 d.0.0 e.0.0) mac e.2 in
    six_ok text mac a.0 b.0 c.0 d.0 e.0 f.0 a.1 b.1 c.1 d.1 e.1 f.1 f.2

behind_again : (r : List ℕ) (b : ℕ) (bytes : List ℕ) → SpellsBehind r (b ∷ bytes) → (s : List ℕ) × (next_at r ≡ Some (b, s)) × SpellsBehind s bytes
behind_again r b bytes h = (h.2, ap next_at h.3 ∙ next_again h.0 h.1 b h.2 h.4, h.5)

six_read : (text r s t u v : List ℕ) (a b c d e f : ℕ) → pair_at text ≡ Some (a, r) → next_at r ≡ Some (b, s) → next_at s ≡ Some (c, t) → next_at t ≡ Some (d, u) → next_at u ≡ Some (e, v) → next_at v ≡ Some (f, []) → spelled_mac text ≡ Some (a ∷ b ∷ c ∷ d ∷ e ∷ f ∷ [])
unfolding spelled_mac
six_read text r s t u v a b c d e f h1 h2 h3 h4 h5 h6 = rw (h1, h2, h3, h4, h5, h6) refl

short : {A : Type 0} (n : ℕ) → n ≡ 5 → n < 5 → A
short n e h = absurd (omega arith)

pub mac_again : (text mac : List ℕ) → SpellsMac text mac → spelled_mac text ≡ Some mac
mac_again text [] h = absurd h
mac_again text (a ∷ []) h = short 0 h.6 (omega arith)
mac_again text (a ∷ b ∷ []) h = short 1 h.6 (omega arith)
mac_again text (a ∷ b ∷ c ∷ []) h = short 2 h.6 (omega arith)
mac_again text (a ∷ b ∷ c ∷ d ∷ []) h = short 3 h.6 (omega arith)
mac_again text (a ∷ b ∷ c ∷ d ∷ e ∷ []) h = short 4 h.6 (omega arith)
mac_again text (a ∷ b ∷ c ∷ d ∷ e ∷ f ∷ []) h =
    let k1 = behind_again h.2 b (c ∷ d ∷ e ∷ f ∷ []) h.5 in
    let k2 = behind_again k1.0 c (d ∷ e ∷ f ∷ []) k1.2 in
    let k3 = behind_again k2.0 d (e ∷ f ∷ []) k2.2 in
    let k4 = behind_again k3.0 e (f ∷ []) k3.2 in
    let k5 = behind_again k4.0 f [] k4.2 in
    let last : next_at k4.0 ≡ Some (f, []) = k5.1 ∙ ap (λ (w : List ℕ). Some (f, w)) k5.2 in
    six_read text h.2 k1.0 k2.0 k3.0 k4.0 a b c d e f (ap pair_at h.3 ∙ pair_again h.0 h.1 a h.2 h.4) k1.1 k2.1 k3.1 k4.1 last
mac_again text (a ∷ b ∷ c ∷ d ∷ e ∷ f ∷ g ∷ mac) h = let k : length (b ∷ c ∷ d ∷ e ∷ f ∷ g ∷ mac) ≡ 5 = h.6 in absurd (omega arith)

or_true : (b : Bool) → b || true ≡ true
or_true true = refl
or_true false = refl

pub char_hex : (d : ℕ) → d < 16 → IsTrue (is_ascii_hexdigit (digit_char d)) × (digit_value (digit_char d) ≡ d)
char_hex d h = elim (less_or_not d 10) [
  | inl p ↦
      let e : digit_char d ≡ 48 + d = rw (at_below d 10 p) refl in
      let v : 48 + d - 48 ≡ d = omega arith in
      rw e (rw (in_range 48 57 (48 + d) (omega arith) (omega arith)) refl, rw (no_more (48 + d) 48 (omega arith), at_below (48 + d) 58 (omega arith)) v)
  | inr p ↦
      let e : digit_char d ≡ 87 + d = rw (no_more d 10 p) refl in
      let v : 87 + d - 87 ≡ d = omega arith in
      rw e (
        rw (in_range 97 102 (87 + d) (omega arith) (omega arith)) (or_true _),
        rw (no_more (87 + d) 48 (omega arith), no_more (87 + d) 58 (omega arith), no_more (87 + d) 65 (omega arith), no_more (87 + d) 91 (omega arith), no_more (87 + d) 97 (omega arith), at_below (87 + d) 123 (omega arith)) v,
      )
]

pair_spelled : (x : ℕ) → x < 256 → IsPair (digit_char (x / 16)) (digit_char (x % 16)) x
pair_spelled x h =
    let p = char_hex (x / 16) (omega arith) in
    let q = char_hex (x % 16) (omega arith) in
    let e : x ≡ 16 * (x / 16) + x % 16 = omega arith in
    record { first = p.0; second = q.0; value = rw (p.1, q.1) e }

behind_spelled : (bytes : List ℕ) → AllByRecursion (λ x. x < 256) bytes → SpellsBehind (behind_text bytes) bytes
behind_spelled [] h = refl
behind_spelled (x ∷ xs) h = (digit_char (x / 16), digit_char (x % 16), behind_text xs, refl, pair_spelled x h.0, behind_spelled xs h.1)

pub mac_spelled : (mac : List ℕ) → length mac ≡ 6 → AllByRecursion (λ x. x < 256) mac → SpellsMac (mac_text mac) mac
mac_spelled [] h k = absurd (omega arith)
mac_spelled (x ∷ xs) h k =
    let five : length xs ≡ 5 = omega arith in
    (digit_char (x / 16), digit_char (x % 16), behind_text xs, refl, pair_spelled x k.0, behind_spelled xs k.1, five)

pub ip4_none : (text : List ℕ) → ip4_of text ≡ None → (ip : ℕ) → ip < 2 ^ 32 → text ≡ ip4_text ip → ⊥
ip4_none text h ip k e = let r : ip4_of text ≡ Some ip = ap ip4_of e ∙ ip4_again ip k in cc (h, r)

pub net4_none : (text : List ℕ) → net4_of text ≡ None → (ip len : ℕ) → ip < 2 ^ 32 → len ≤ 32 → text ≡ net4_text ip len → ⊥
net4_none text h ip len k l e = let r : net4_of text ≡ Some (ip, len) = ap net4_of e ∙ net4_again ip len k l in cc (h, r)

pub mac_found : (text : List ℕ) (found : Option Mac) → IsMac found (spelled_mac text) → IfSome found (λ mac. SpellsMac text mac.0)
mac_found text None h = tt
mac_found text (Some mac) h = mac_ok text mac.0 h

pub mac_none : (text : List ℕ) (found : Option Mac) → IsMac found (spelled_mac text) → IfNone found ((bytes : List ℕ) → SpellsMac text bytes → ⊥)
mac_none text None h = λ bytes s. cc (h, mac_again text bytes s)
mac_none text (Some mac) h = tt

-- what is printed is text
at_each : (b : ℕ) → b < 128 → (i : ℕ) → get_or (b ∷ []) i 0 < 128
at_each b h zero = h
at_each b h (suc i) = omega arith

pub one_utf8 : (b : ℕ) → b < 128 → IsUtf8 (b ∷ [])
one_utf8 b h = IsUtf8-from_ascii (b ∷ []) (at_each b h)

pub ascii_utf8 : (bs : List ℕ) → AllByRecursion (λ b. b < 128) bs → IsUtf8 bs
ascii_utf8 [] h = IsUtf8-nil
ascii_utf8 (b ∷ bs) h = IsUtf8-append (b ∷ []) bs (one_utf8 b h.0) (ascii_utf8 bs h.1)

pub decimal_utf8 : (n : ℕ) → n < 256 → IsUtf8 (decimal n)
decimal_utf8 n h = elim (less_or_not n 10) [
  | inl p ↦ rw (one_digit n p) (ascii_utf8 ((48 + n) ∷ []) (omega arith, tt))
  | inr p ↦ elim (less_or_not n 100) [
    | inl q ↦
        let e : n ≡ 10 * (n / 10) + n % 10 = omega arith in
        rw (two_digits n (n / 10) (n % 10) e (omega arith) (omega arith) (omega arith)) (ascii_utf8 ((48 + n / 10) ∷ (48 + n % 10) ∷ []) (omega arith, (omega arith, tt)))
    | inr q ↦
        let e : n ≡ 100 * (n / 100) + 10 * (n / 10 % 10) + n % 10 = omega arith in
        rw (three_digits n (n / 100) (n / 10 % 10) (n % 10) e (omega arith) (omega arith) (omega arith) (omega arith))
        (ascii_utf8 ((48 + n / 100) ∷ (48 + n / 10 % 10) ∷ (48 + n % 10) ∷ []) (omega arith, (omega arith, (omega arith, tt))))
  ]
]

utf8_mark : (n mark : ℕ) (rest : List ℕ) → n < 256 → mark < 128 → IsUtf8 rest → IsUtf8 (decimal n ++ mark ∷ rest)
utf8_mark n mark rest h k u = IsUtf8-append (decimal n) (mark ∷ rest) (decimal_utf8 n h) (IsUtf8-append (mark ∷ []) rest (one_utf8 mark k) u)

dot_ascii : 46 < 128
dot_ascii = omega arith

slash_ascii : 47 < 128
slash_ascii = omega arith

pub ip4_utf8 : (n : ℕ) → n < 2 ^ 32 → IsUtf8 (ip4_text n)
ip4_utf8 n h =
    let a : n / 2 ^ 24 < 256 = omega arith in
    let b : n / 2 ^ 16 % 256 < 256 = omega arith in
    let c : n / 2 ^ 8 % 256 < 256 = omega arith in
    let d : n % 256 < 256 = omega arith in
    utf8_mark (n / 2 ^ 24) 46 _ a dot_ascii (utf8_mark (n / 2 ^ 16 % 256) 46 _ b dot_ascii (utf8_mark (n / 2 ^ 8 % 256) 46 _ c dot_ascii (decimal_utf8 (n % 256) d)))

pub net4_utf8 : (n len : ℕ) → n < 2 ^ 32 → len < 256 → IsUtf8 (net4_text n len)
net4_utf8 n len h k = IsUtf8-append (ip4_text n) (47 ∷ decimal len) (ip4_utf8 n h) (IsUtf8-append (47 ∷ []) (decimal len) (one_utf8 47 slash_ascii) (decimal_utf8 len k))

pub char_ascii : (d : ℕ) → d < 16 → digit_char d < 128
char_ascii d h = elim (less_or_not d 10) [
  | inl p ↦ let e : digit_char d ≡ 48 + d = rw (at_below d 10 p) refl in omega (arith, e)
  | inr p ↦ let e : digit_char d ≡ 87 + d = rw (no_more d 10 p) refl in omega (arith, e)
]

pub pair_utf8 : (x : ℕ) → x < 256 → IsUtf8 (pair_text x)
pair_utf8 x h = ascii_utf8 (pair_text x) (char_ascii (x / 16) (omega arith), (char_ascii (x % 16) (omega arith), tt))

-- a colon and a pair behind what is written
pub utf8_more : (x y z p : List ℕ) → y ≡ x ++ 58 ∷ [] → z ≡ y ++ p → IsUtf8 x → IsUtf8 p → IsUtf8 z
utf8_more x y z p e f h k = rw (f, e) (IsUtf8-append (x ++ 58 ∷ []) p (IsUtf8-append x (58 ∷ []) h (one_utf8 58 (omega arith))) k)

-- one more pair
pub behind_more : (xs : List ℕ) (x : ℕ) → behind_text (xs ++ x ∷ []) ≡ behind_text xs ++ 58 ∷ pair_text x
behind_more [] x = refl
behind_more (y ∷ ys) x = ap (λ w. 58 ∷ (pair_text y ++ w)) (behind_more ys x) ∙ ap (λ w. 58 ∷ w) (sym (append_assoc (pair_text y) (behind_text ys) (58 ∷ pair_text x)))

pub pairs_more : (xs first x y z : List ℕ) (i : ℕ) → i < length xs → y ≡ x ++ 58 ∷ [] → z ≡ y ++ pair_text (get_or xs i 0) → x ≡ first ++ behind_text (take i xs) → z ≡ first ++ behind_text (take (i + 1) xs)
pairs_more xs first x y z i h e f g =
    rw (f, e, g, take_more xs i 0 h, behind_more (take i xs) (get_or xs i 0)) (simp append_assoc)

pub same_mac : (text a b : List ℕ) → SpellsMac text a → SpellsMac text b → a ≡ b
same_mac text a b h k = let e = sym (mac_again text a h) ∙ mac_again text b k in cc (e)

pub same_ip4 : (a b : ℕ) → a < 2 ^ 32 → b < 2 ^ 32 → ip4_text a ≡ ip4_text b → a ≡ b
same_ip4 a b h k e = let r = sym (ip4_again a h) ∙ ap ip4_of e ∙ ip4_again b k in cc (r)

pub same_net4 : (a m b n : ℕ) → a < 2 ^ 32 → m ≤ 32 → b < 2 ^ 32 → n ≤ 32 → net4_text a m ≡ net4_text b n → (a ≡ b) × (m ≡ n)
same_net4 a m b n h i k l e =
    let r : Some (a, m) ≡ Some (b, n) = sym (net4_again a m h i) ∙ ap net4_of e ∙ net4_again b n k l in
    let q : (a, m) ≡ (b, n) = cc (r) in
    (ap (λ (x : ℕ × ℕ). x.0) q, ap (λ (x : ℕ × ℕ). x.1) q)
