-- IPv6 addresses: what is read is spelled so, and what is spelled so is read.
use Rattle.std.proofs.Common.{◌≡◌, ℕ, zero, suc, ◌+◌, ◌-◌, ◌*◌, ◌^◌, ◌≤◌, true, false, cond, ◌&&◌, List, [], ◌∷◌, ◌++◌, length, drop, Option, Some, None, refl, sym, ap, subst, ◌∙◌, inl, inr, append_assoc, length-append, arith, lit≤}
use Rattle.std.specs.Prelude.{◌==◌, nat_le, IsTrue, replicate}
use Rattle.std.specs.Option.{option_map}
use Rattle.std.specs.List.{AllByRecursion}
use Rattle.std.specs.Char.{digit_value, is_ascii_hexdigit}
use Rattle.std.proofs.lemmas.Bool.{eq-eqb}
use Rattle.std.proofs.lemmas.List.{length-replicate, append-nil}
use Rattle.std.proofs.lemmas.Nat.{pow-add}
use Rattle.std.proofs.Math.Nat.{add-mul, mul_assoc}
use Rattle.net_base.specs.Address.{decimal}
use Rattle.net_base.specs.Address6.{whole, hex_value, IsGroup, SpellsGroups, SpellsEight, SpellsShort, SpellsIp6, SpellsNet6}
use Rattle.net_base.specs.AddressReading.{◌>>=◌, hex_of, cut_at, number_up_to}
use Rattle.net_base.specs.Address6Reading.{hex_pair, group_of, group_and, groups_in, side_of, is_gap, gap_at, summed, sum_in, side_sum, spread, ip6_cut, ip6_of, net6_of}
use Rattle.net_base.proofs.Addresses.{bind_ok, chosen, both, at_most, is_most, hex_ok, hex_again, up_to_ok, up_to_again, Free, free_append, cut_again, cut_ok}
use Rattle.net_base.proofs.Cut.{put_before, cut_past, equal_at, apart}
use Rattle.net_base.proofs.Gap.{gap_past}

-- ---- digits

pub record IsDigit (digit n : ℕ) : Type 0 where
  pub hex : IsTrue (is_ascii_hexdigit digit)
  pub value : digit_value digit ≡ n

digit_ok : (b n : ℕ) → hex_of b ≡ Some n → IsDigit b n
digit_ok b n h = let d = hex_ok b n h in record { hex = d.0; value = d.1 }

digit_again : (b n : ℕ) → IsDigit b n → hex_of b ≡ Some n
digit_again b n d = hex_again b d.hex ∙ ap (λ (m : ℕ). Some m) d.value

-- ---- a group of one to four of them

sum1 : (a w n : ℕ) → a ≡ w → w ≡ n → n ≡ a * 1 + 0
sum1 a w n p e = omega arith

sum2 : (a b w x n : ℕ) → a ≡ w → b ≡ x → 16 * w + x ≡ n → n ≡ a * 16 + (b * 1 + 0)
sum2 a b w x n p q e = omega arith

sum3 : (a b c w x y n : ℕ) → a ≡ w → b ≡ x → c ≡ y → 256 * w + (16 * x + y) ≡ n → n ≡ a * 256 + (b * 16 + (c * 1 + 0))
sum3 a b c w x y n p q r e = omega arith

sum4 : (a b c d w x y z n : ℕ) → a ≡ w → b ≡ x → c ≡ y → d ≡ z → 256 * (16 * w + x) + (16 * y + z) ≡ n → n ≡ a * 4096 + (b * 256 + (c * 16 + (d * 1 + 0)))
sum4 a b c d w x y z n p q r s e = omega arith

few : (k n : ℕ) → k ≡ n → 1 ≤ n → n ≤ 4 → (1 ≤ k) × (k ≤ 4)
few k n e p q = (omega arith, omega arith)

made : (text : List ℕ) (n count : ℕ) → length text ≡ count → 1 ≤ count → count ≤ 4 → AllByRecursion (λ digit. IsTrue (is_ascii_hexdigit digit)) text → n ≡ hex_value text → IsGroup text n
made text n count len p q each value = let k = few (length text) count len p q in record { least = k.0; most = k.1; each = each; value = value }

pub group1 : (a w n : ℕ) → IsDigit a w → w ≡ n → IsGroup (a ∷ []) n
group1 a w n p e = made (a ∷ []) n 1 refl (lit≤ tt) (lit≤ tt) (p.hex, tt) (sum1 (digit_value a) w n p.value e)

pub group2 : (a b w x n : ℕ) → IsDigit a w → IsDigit b x → 16 * w + x ≡ n → IsGroup (a ∷ b ∷ []) n
group2 a b w x n p q e = made (a ∷ b ∷ []) n 2 refl (lit≤ tt) (lit≤ tt) (p.hex, (q.hex, tt)) (sum2 (digit_value a) (digit_value b) w x n p.value q.value e)

pub group3 : (a b c w x y n : ℕ) → IsDigit a w → IsDigit b x → IsDigit c y → 256 * w + (16 * x + y) ≡ n → IsGroup (a ∷ b ∷ c ∷ []) n
group3 a b c w x y n p q r e =
    made (a ∷ b ∷ c ∷ []) n 3 refl (lit≤ tt) (lit≤ tt) (p.hex, (q.hex, (r.hex, tt))) (sum3 (digit_value a) (digit_value b) (digit_value c) w x y n p.value q.value r.value e)

pub group4 : (a b c d w x y z n : ℕ) → IsDigit a w → IsDigit b x → IsDigit c y → IsDigit d z → 256 * (16 * w + x) + (16 * y + z) ≡ n → IsGroup (a ∷ b ∷ c ∷ d ∷ []) n
group4 a b c d w x y z n p q r s e =
    made (a ∷ b ∷ c ∷ d ∷ []) n 4 refl (lit≤ tt) (lit≤ tt) (p.hex, (q.hex, (r.hex, (s.hex, tt)))) (
    sum4 (digit_value a) (digit_value b) (digit_value c) (digit_value d) w x y z n p.value q.value r.value s.value e
    )

record IsPairOf (a b n : ℕ) : Type 0 where
  high : ℕ
  low : ℕ
  first : IsDigit a high
  second : IsDigit b low
  value : 16 * high + low ≡ n

pair_ok : (a b n : ℕ) → hex_pair a b ≡ Some n → IsPairOf a b n
unfolding hex_pair
pair_ok a b n h =
    let p = bind_ok (hex_of a) (λ high. hex_of b >>= λ low. Some (16 * high + low)) n h in
    let q = bind_ok (hex_of b) (λ low. Some (16 * p.0 + low)) n p.2 in
    record { high = p.0; low = q.0; first = digit_ok a p.0 p.1; second = digit_ok b q.0 q.1; value = cc (q.2) }

pair_again : (a b w x : ℕ) → IsDigit a w → IsDigit b x → hex_pair a b ≡ Some (16 * w + x)
unfolding hex_pair
pair_again a b w x p q = rw (digit_again a w p, digit_again b x q) refl

joined3 : (high low w x y n : ℕ) → 256 * high + low ≡ n → high ≡ w → 16 * x + y ≡ low → 256 * w + (16 * x + y) ≡ n
joined3 high low w x y n e p q = omega arith

joined4 : (high low w x y z n : ℕ) → 256 * high + low ≡ n → 16 * w + x ≡ high → 16 * y + z ≡ low → 256 * (16 * w + x) + (16 * y + z) ≡ n
joined4 high low w x y z n e p q = omega arith

group_ok : (text : List ℕ) (n : ℕ) → group_of text ≡ Some n → IsGroup text n
unfolding group_of
group_ok [] n h = absurd (cc)
group_ok (a ∷ []) n h = group1 a n n (digit_ok a n h) refl
group_ok (a ∷ b ∷ []) n h = let p = pair_ok a b n h in group2 a b p.high p.low n p.first p.second p.value
group_ok (a ∷ b ∷ c ∷ []) n h =
    let p = bind_ok (hex_of a) (λ high. hex_pair b c >>= λ low. Some (256 * high + low)) n h in
    let q = bind_ok (hex_pair b c) (λ low. Some (256 * p.0 + low)) n p.2 in
    let e : 256 * p.0 + q.0 ≡ n = cc (q.2) in
    let r = pair_ok b c q.0 q.1 in
    group3 a b c p.0 r.high r.low n (digit_ok a p.0 p.1) r.first r.second (joined3 p.0 q.0 p.0 r.high r.low n e refl r.value)
group_ok (a ∷ b ∷ c ∷ d ∷ []) n h =
    let p = bind_ok (hex_pair a b) (λ high. hex_pair c d >>= λ low. Some (256 * high + low)) n h in
    let q = bind_ok (hex_pair c d) (λ low. Some (256 * p.0 + low)) n p.2 in
    let e : 256 * p.0 + q.0 ≡ n = cc (q.2) in
    let r = pair_ok a b p.0 p.1 in
    let s = pair_ok c d q.0 q.1 in
    group4 a b c d r.high r.low s.high s.low n r.first r.second s.first s.second (joined4 p.0 q.0 r.high r.low s.high s.low n e r.value s.value)
group_ok (a ∷ b ∷ c ∷ d ∷ e ∷ text) n h = absurd (cc)

some_number : (a b : ℕ) → a ≡ b → ◌≡◌ {A = Option ℕ} (Some a) (Some b)
some_number a b e = ap (λ (n : ℕ). Some n) e

back1 : (a n : ℕ) → n ≡ a * 1 + 0 → a ≡ n
back1 a n e = omega arith

back2 : (a b n : ℕ) → n ≡ a * 16 + (b * 1 + 0) → 16 * a + b ≡ n
back2 a b n e = omega arith

back3 : (a b c n : ℕ) → n ≡ a * 256 + (b * 16 + (c * 1 + 0)) → 256 * a + (16 * b + c) ≡ n
back3 a b c n e = omega arith

back4 : (a b c d n : ℕ) → n ≡ a * 4096 + (b * 256 + (c * 16 + (d * 1 + 0))) → 256 * (16 * a + b) + (16 * c + d) ≡ n
back4 a b c d n e = omega arith

own : (d : ℕ) → IsTrue (is_ascii_hexdigit d) → IsDigit d (digit_value d)
own d h = record { hex = h; value = refl }

no_text : (k : ℕ) → k ≡ 0 → 1 ≤ k → ⊥
no_text k e h = omega arith

too_long : (a b c d e : ℕ) (text : List ℕ) → length (a ∷ b ∷ c ∷ d ∷ e ∷ text) ≤ 4 → ⊥
too_long a b c d e text h = omega arith

group_again : (text : List ℕ) (n : ℕ) → IsGroup text n → group_of text ≡ Some n
unfolding group_of
group_again [] n g = absurd (no_text 0 refl g.least)
group_again (a ∷ []) n g = hex_again a g.each.0 ∙ some_number (digit_value a) n (back1 (digit_value a) n g.value)
group_again (a ∷ b ∷ []) n g =
    pair_again a b (digit_value a) (digit_value b) (own a g.each.0) (own b g.each.1.0) ∙ some_number (16 * digit_value a + digit_value b) n (back2 (digit_value a) (digit_value b) n g.value)
group_again (a ∷ b ∷ c ∷ []) n g =
    ap (λ r. r >>= (λ high. hex_pair b c >>= (λ low. Some (256 * high + low)))) (hex_again a g.each.0)
    ∙ ap (λ r. r >>= (λ low. Some (256 * digit_value a + low))) (pair_again b c (digit_value b) (digit_value c) (own b g.each.1.0) (own c g.each.1.1.0))
    ∙ some_number (256 * digit_value a + (16 * digit_value b + digit_value c)) n (back3 (digit_value a) (digit_value b) (digit_value c) n g.value)
group_again (a ∷ b ∷ c ∷ d ∷ []) n g =
    ap (λ r. r >>= (λ high. hex_pair c d >>= (λ low. Some (256 * high + low)))) (pair_again a b (digit_value a) (digit_value b) (own a g.each.0) (own b g.each.1.0))
    ∙ ap (λ r. r >>= (λ low. Some (256 * (16 * digit_value a + digit_value b) + low))) (pair_again c d (digit_value c) (digit_value d) (own c g.each.1.1.0) (own d g.each.1.1.1.0))
    ∙ some_number (256 * (16 * digit_value a + digit_value b) + (16 * digit_value c + digit_value d)) n (back4 (digit_value a) (digit_value b) (digit_value c) (digit_value d) n g.value)
group_again (a ∷ b ∷ c ∷ d ∷ e ∷ text) n g = absurd (too_long a b c d e text g.most)

-- ---- groups as one number

distributed : (x a b w v : ℕ) → x * (a * b) + (w * b + v) ≡ (x * a + w) * b + v
distributed x a b w v = let sum : (x * a + w) * b ≡ x * a * b + w * b = add-mul (x * a) w b in let product : x * a * b ≡ x * (a * b) = mul_assoc x a b in omega (arith, sum, product)

pub whole-append : (xs ys : List ℕ) → whole (xs ++ ys) ≡ whole xs * 2 ^ (16 * length ys) + whole ys
whole-append [] ys = omega arith
whole-append (x ∷ xs) ys =
    let more = whole-append xs ys in
    let len : 16 * length (xs ++ ys) ≡ 16 * length xs + 16 * length ys = omega (arith, length-append xs ys) in
    let size : 2 ^ (16 * length (xs ++ ys)) ≡ 2 ^ (16 * length xs) * 2 ^ (16 * length ys) = ap (λ n. 2 ^ n) len ∙ pow-add 2 (16 * length xs) (16 * length ys) in
    (λ i. x * size i + more i) ∙ distributed x (2 ^ (16 * length xs)) (2 ^ (16 * length ys)) (whole xs) (whole ys)

whole_zeros : (n : ℕ) → whole (replicate n 0) ≡ 0
whole_zeros zero = refl
whole_zeros (suc n) = omega (arith, whole_zeros n)

-- those of both sides of a gap are the whole
gap_value : (front back : List ℕ) → length front + length back ≤ 7
    → whole (front ++ replicate (8 - (length front + length back)) 0 ++ back) ≡ whole front * 2 ^ (16 * (8 - length front)) + whole back
gap_value front back few =
    let k = 8 - (length front + length back) in
    let zeros : List ℕ = replicate k 0 in
    let len : length zeros ≡ k = length-replicate k 0 in
    let first : whole (front ++ zeros) ≡ whole front * 2 ^ (16 * k) = whole-append front zeros ∙ (λ i. whole front * 2 ^ (16 * len i) + whole_zeros k i) ∙ omega arith in
    let places : 16 * k + 16 * length back ≡ 16 * (8 - length front) = omega (arith, few) in
    let size : 2 ^ (16 * k) * 2 ^ (16 * length back) ≡ 2 ^ (16 * (8 - length front)) = sym (pow-add 2 (16 * k) (16 * length back)) ∙ ap (λ n. 2 ^ n) places in
    whole-append (front ++ zeros) back ∙ ap (λ n. n * 2 ^ (16 * length back) + whole back) first
    ∙ ap (λ n. n + whole back) (mul_assoc (whole front) (2 ^ (16 * k)) (2 ^ (16 * length back)) ∙ ap (λ n. whole front * n) size)

-- ---- groups joined by colons

not_hex : (mark d : ℕ) → is_ascii_hexdigit mark ≡ false → IsTrue (is_ascii_hexdigit d) → d ≡ mark → ⊥
not_hex mark d none h e = let both_ways : is_ascii_hexdigit mark ≡ true = subst (λ n. is_ascii_hexdigit n ≡ true) e h in cc (none, both_ways)

hex_free : (mark : ℕ) (digits : List ℕ) → is_ascii_hexdigit mark ≡ false → AllByRecursion (λ digit. IsTrue (is_ascii_hexdigit digit)) digits → Free mark digits
hex_free mark [] none h = tt
hex_free mark (d ∷ ds) none h = (not_hex mark d none h.0, hex_free mark ds none h.1)

no_mark : (mark : ℕ) (bs : List ℕ) → Free mark bs → cut_at mark bs ≡ None
no_mark mark [] h = refl
no_mark mark (b ∷ bs) h = cut_past mark b bs h.0 ∙ ap (λ r. r >>= (λ cut. Some (b ∷ cut.0, cut.1))) (no_mark mark bs h.1)

pub record AreRead (limit : ℕ) (text groups : List ℕ) : Type 0 where
  pub spelled : SpellsGroups text groups
  pub most : length groups ≤ limit
  pub least : 1 ≤ length groups

spelled_more : (text first rest : List ℕ) (group : ℕ) (groups : List ℕ) → text ≡ first ++ 58 ∷ rest → IsGroup first group → 1 ≤ length groups → SpellsGroups rest groups → SpellsGroups text (group ∷ groups)
spelled_more text first rest group [] e i some s = absurd (omega (arith, some))
spelled_more text first rest group (next ∷ groups) e i some s = (first, rest, e, i, s)

pub groups_ok : (most : ℕ) (text groups : List ℕ) → groups_in most text ≡ Some groups → AreRead most text groups
unfolding groups_in
groups_ok zero text groups h = absurd (cc)
groups_ok (suc most) text groups h = by (groups_ok most) (cut_at 58 text) refl h
  where
    by : ((t gs : List ℕ) → groups_in most t ≡ Some gs → AreRead most t gs) → (read : Option (List ℕ × List ℕ)) → cut_at 58 text ≡ read → group_and (groups_in most) text read ≡ Some groups → AreRead (suc most) text groups
    by more None is h =
        let p = bind_ok (group_of text) (λ group. Some (group ∷ [])) groups h in
        let e : p.0 ∷ [] ≡ groups = cc (p.2) in
        subst (AreRead (suc most) text) e (record { spelled = group_ok text p.0 p.1; most = omega arith; least = omega arith })
    by more (Some cut) is h =
        let p = bind_ok (group_of cut.0) (λ group. groups_in most cut.1 >>= λ gs. Some (group ∷ gs)) groups h in
        let q = bind_ok (groups_in most cut.1) (λ gs. Some (p.0 ∷ gs)) groups p.2 in
        let e : p.0 ∷ q.0 ≡ groups = cc (q.2) in
        let rest = more cut.1 q.0 q.1 in
        subst (AreRead (suc most) text) e (record {
          spelled = spelled_more text cut.0 cut.1 p.0 q.0 (cut_ok 58 text cut is) (group_ok cut.0 p.0 p.1) rest.least rest.spelled;
          most = omega (arith, rest.most);
          least = omega arith;
        })

groups_again : (most : ℕ) (text groups : List ℕ) → SpellsGroups text groups → 1 ≤ length groups → length groups ≤ most → groups_in most text ≡ Some groups
unfolding groups_in
groups_again zero text groups s some few = absurd (omega (arith, some, few))
groups_again (suc most) text [] s some few = absurd (omega (arith, some))
groups_again (suc most) text (group ∷ []) s some few =
    ap (group_and (groups_in most) text) (no_mark 58 text (hex_free 58 text refl s.each)) ∙ ap (λ r. r >>= (λ g. Some (g ∷ []))) (group_again text group s)
groups_again (suc most) text (group ∷ next ∷ groups) s some few =
    let cut : cut_at 58 text ≡ Some (s.0, s.1) = ap (cut_at 58) s.2 ∙ cut_again 58 s.0 s.1 (hex_free 58 s.0 refl s.3.each) in
    ap (group_and (groups_in most) text) cut ∙ ap (λ r. r >>= (λ g. groups_in most s.1 >>= (λ gs. Some (g ∷ gs)))) (group_again s.0 group s.3)
    ∙ ap (λ r. r >>= (λ gs. Some (group ∷ gs))) (groups_again most s.1 (next ∷ groups) s.4 (omega arith) (omega (arith, few)))

-- ---- a side of the gap

pub record IsSide (text groups : List ℕ) : Type 0 where
  pub spelled : SpellsGroups text groups
  pub most : length groups ≤ 8

pub side_ok : (text groups : List ℕ) → side_of text ≡ Some groups → IsSide text groups
unfolding side_of
side_ok [] groups h = let e : [] ≡ groups = cc (h) in subst (IsSide []) e (record { spelled = refl; most = omega arith })
side_ok (b ∷ text) groups h = let r = groups_ok 8 (b ∷ text) groups h in record { spelled = r.spelled; most = r.most }

some_bytes : (text : List ℕ) (group : ℕ) (groups : List ℕ) → SpellsGroups text (group ∷ groups) → 1 ≤ length text
some_bytes text group [] s = s.least
some_bytes text group (next ∷ groups) s = let len = length-append s.0 (58 ∷ s.1) in omega (arith, ap length s.2, len)

side_again : (text groups : List ℕ) → SpellsGroups text groups → length groups ≤ 8 → side_of text ≡ Some groups
unfolding side_of
side_again [] [] s few = refl
side_again [] (group ∷ groups) s few = absurd (omega (arith, some_bytes [] group groups s))
side_again (b ∷ text) [] s few = absurd (cc (s))
side_again (b ∷ text) (group ∷ groups) s few = groups_again 8 (b ∷ text) (group ∷ groups) s (omega arith) few

-- ---- the gap

gap_is : (b : ℕ) (bs : List ℕ) → is_gap b bs ≡ true → b ∷ bs ≡ 58 ∷ 58 ∷ drop 1 bs
gap_is b [] h = absurd (cc (h))
gap_is b (next ∷ bs) h = let k = both (b == 58) (next == 58) h in λ i. equal_at b 58 k.0 i ∷ equal_at next 58 k.1 i ∷ bs

gap_ok : (bs : List ℕ) (x : List ℕ × List ℕ) → gap_at bs ≡ Some x → bs ≡ x.0 ++ 58 ∷ 58 ∷ x.1
gap_ok [] x h = absurd (cc)
gap_ok (b ∷ bs) x h = elim (chosen (is_gap b bs) (Some ([], drop 1 bs)) (gap_at bs >>= λ cut. Some (b ∷ cut.0, cut.1)) (Some x) h) [
  | inl p ↦ let e : ([], drop 1 bs) ≡ x = cc (p.1) in subst (λ (y : List ℕ × List ℕ). b ∷ bs ≡ y.0 ++ 58 ∷ 58 ∷ y.1) e (gap_is b bs p.0)
  | inr p ↦
      let r = bind_ok (gap_at bs) (λ cut. Some (b ∷ cut.0, cut.1)) x p.1 in
      let e : (b ∷ r.0.0, r.0.1) ≡ x = cc (r.2) in
      subst (λ (y : List ℕ × List ℕ). b ∷ bs ≡ y.0 ++ 58 ∷ 58 ∷ y.1) e (ap (λ w. b ∷ w) (gap_ok bs r.0 r.1))
]

not_gap : (b : ℕ) (bs : List ℕ) → ¬ (b ≡ 58) → is_gap b bs ≡ false
not_gap b [] h = refl
not_gap b (next ∷ bs) h = ap (λ t. t && (next == 58)) (apart b 58 h)

put_nothing : (read : Option (List ℕ × List ℕ)) → read ≡ put_before [] read
put_nothing None = refl
put_nothing (Some cut) = refl

put_one : (d : ℕ) (ds : List ℕ) (read : Option (List ℕ × List ℕ)) → (put_before ds read >>= λ cut. Some (d ∷ cut.0, cut.1)) ≡ put_before (d ∷ ds) read
put_one d ds None = refl
put_one d ds (Some cut) = refl

put_two : (first rest : List ℕ) (read : Option (List ℕ × List ℕ)) → put_before first (put_before rest read >>= λ cut. Some (58 ∷ cut.0, cut.1)) ≡ put_before (first ++ 58 ∷ rest) read
put_two first rest None = refl
put_two first rest (Some cut) = ap (λ (w : List ℕ). Some (w, cut.1)) (sym (append_assoc first (58 ∷ rest) cut.0))

skip : (ds tail : List ℕ) → Free 58 ds → gap_at (ds ++ tail) ≡ put_before ds (gap_at tail)
skip [] tail h = put_nothing (gap_at tail)
skip (d ∷ ds) tail h =
    gap_past d (ds ++ tail) (not_gap d (ds ++ tail) h.0) ∙ ap (λ r. r >>= (λ cut. Some (d ∷ cut.0, cut.1))) (skip ds tail h.1) ∙ put_one d ds (gap_at tail)

begins_group : (first : List ℕ) (group : ℕ) → IsGroup first group → (more : List ℕ) → is_gap 58 (first ++ more) ≡ false
begins_group [] group g more = absurd (omega (arith, g.least))
begins_group (d ∷ ds) group g more = apart d 58 (not_hex 58 d refl g.each.0)

begins : (text tail : List ℕ) (group : ℕ) (groups : List ℕ) → SpellsGroups text (group ∷ groups) → is_gap 58 (text ++ tail) ≡ false
begins text tail group [] s = begins_group text group s tail
begins text tail group (next ∷ groups) s =
    ap (λ w. is_gap 58 (w ++ tail)) s.2 ∙ ap (is_gap 58) (append_assoc s.0 (58 ∷ s.1) tail) ∙ begins_group s.0 group s.3 (58 ∷ (s.1 ++ tail))

-- no two colons stand in a row in groups
walk : (text groups tail : List ℕ) → SpellsGroups text groups → gap_at (text ++ tail) ≡ put_before text (gap_at tail)
walk text [] tail s = subst (λ w. gap_at (w ++ tail) ≡ put_before w (gap_at tail)) (sym s) (put_nothing (gap_at tail))
walk text (group ∷ []) tail s = skip text tail (hex_free 58 text refl s.each)
walk text (group ∷ next ∷ groups) tail s =
    subst (λ w. gap_at (w ++ tail) ≡ put_before w (gap_at tail)) (sym s.2) (
    ap gap_at (append_assoc s.0 (58 ∷ s.1) tail)
    ∙ skip s.0 (58 ∷ (s.1 ++ tail)) (hex_free 58 s.0 refl s.3.each)
    ∙ ap (put_before s.0) (gap_past 58 (s.1 ++ tail) (begins s.1 tail next groups s.4) ∙ ap (λ r. r >>= (λ cut. Some (58 ∷ cut.0, cut.1))) (walk s.1 (next ∷ groups) tail s.4))
    ∙ put_two s.0 s.1 (gap_at tail)
    )

no_gap : (text groups : List ℕ) → SpellsGroups text groups → gap_at text ≡ None
no_gap text groups s = ap gap_at (sym (append-nil text)) ∙ walk text groups [] s

gap_again : (before behind groups : List ℕ) → SpellsGroups before groups → gap_at (before ++ 58 ∷ 58 ∷ behind) ≡ Some (before, behind)
gap_again before behind groups s = walk before groups (58 ∷ 58 ∷ behind) s ∙ ap (λ (w : List ℕ). Some (w, behind)) (append-nil before)

-- ---- the whole address

map_ok : {A B : Type 0} (f : A → B) (read : Option A) (y : B) → option_map f read ≡ Some y → (x : A) × (read ≡ Some x) × (f x ≡ y)
map_ok f None y h = absurd (cc)
map_ok f (Some x) y h = (x, refl, cc)

record IsSum (text : List ℕ) (sum : ℕ × ℕ) : Type 0 where
  groups : List ℕ
  spelled : SpellsGroups text groups
  same : sum ≡ summed groups

sum_ok : (most : ℕ) (text : List ℕ) (sum : ℕ × ℕ) → sum_in most text ≡ Some sum → IsSum text sum
unfolding sum_in
sum_ok most text sum h =
    let p = map_ok summed (groups_in most text) sum h in
    let r = groups_ok most text p.0 p.1 in
    record { groups = p.0; spelled = r.spelled; same = sym p.2 }

side_sum_ok : (text : List ℕ) (sum : ℕ × ℕ) → side_sum text ≡ Some sum → IsSum text sum
unfolding side_sum
side_sum_ok text sum h =
    let p = map_ok summed (side_of text) sum h in
    let r = side_ok text p.0 p.1 in
    record { groups = p.0; spelled = r.spelled; same = sym p.2 }

sum_again : (most : ℕ) (text groups : List ℕ) → SpellsGroups text groups → 1 ≤ length groups → length groups ≤ most → sum_in most text ≡ Some (summed groups)
unfolding sum_in
sum_again most text groups s some few = ap (option_map summed) (groups_again most text groups s some few)

side_sum_again : (text groups : List ℕ) → SpellsGroups text groups → length groups ≤ 8 → side_sum text ≡ Some (summed groups)
unfolding side_sum
side_sum_again text groups s few = ap (option_map summed) (side_again text groups s few)

-- eight groups are an address
eight_ok : (text : List ℕ) (ip : ℕ) (sum : ℕ × ℕ) → IsSum text sum → cond (sum.1 == 8) (Some sum.0) None ≡ Some ip → SpellsEight text ip
eight_ok text ip sum r h =
    let read : cond (length r.groups == 8) (Some (whole r.groups)) None ≡ Some ip = subst (λ (y : ℕ × ℕ). cond (y.1 == 8) (Some y.0) None ≡ Some ip) r.same h in
    elim (chosen (length r.groups == 8) (Some (whole r.groups)) None (Some ip) read) [
      | inl q ↦ let e : whole r.groups ≡ ip = cc (q.1) in record { groups = r.groups; spelled = r.spelled; count = equal_at (length r.groups) 8 q.0; value = sym e }
      | inr q ↦ absurd (cc (q.1))
    ]

-- and so are those of both sides of a gap
short_ok : (text : List ℕ) (ip : ℕ) (cut : List ℕ × List ℕ) (front back : ℕ × ℕ) → text ≡ cut.0 ++ 58 ∷ 58 ∷ cut.1 → IsSum cut.0 front → IsSum cut.1 back → spread front back ≡ Some ip → SpellsShort text ip
short_ok text ip cut front back row f b h =
    let g = f.groups in
    let k = b.groups in
    let read : spread (summed g) (summed k) ≡ Some ip = (λ i. spread (sym f.same i) (sym b.same i)) ∙ h in
    elim (chosen (nat_le (length g + length k) 7) (Some (whole g * 2 ^ (16 * (8 - length g)) + whole k)) None (Some ip) read) [
      | inl r ↦
          let few = is_most (length g + length k) 7 r.0 in
          let e : whole g * 2 ^ (16 * (8 - length g)) + whole k ≡ ip = cc (r.1) in
          record { front = g; back = k; before = cut.0; behind = cut.1; row = row; spelled_front = f.spelled; spelled_back = b.spelled; count = few; value = sym (gap_value g k few ∙ e) }
      | inr r ↦ absurd (cc (r.1))
    ]

pub ip6_ok : (text : List ℕ) (ip : ℕ) → ip6_of text ≡ Some ip → SpellsIp6 text ip
unfolding ip6_of
ip6_ok text ip h = by (gap_at text) refl h
  where
    by : (read : Option (List ℕ × List ℕ)) → gap_at text ≡ read → ip6_cut text read ≡ Some ip → SpellsIp6 text ip
    by None is h =
        let p = bind_ok (sum_in 8 text) (λ groups. cond (groups.1 == 8) (Some groups.0) None) ip h in
        inl (eight_ok text ip p.0 (sum_ok 8 text p.0 p.1) p.2)
    by (Some cut) is h =
        let p = bind_ok (side_sum cut.0) (λ front. side_sum cut.1 >>= λ back. spread front back) ip h in
        let q = bind_ok (side_sum cut.1) (λ back. spread p.0 back) ip p.2 in
        inr (short_ok text ip cut p.0 q.0 (gap_ok text cut is) (side_sum_ok cut.0 p.0 p.1) (side_sum_ok cut.1 q.0 q.1) q.2)

pub ip6_again : (text : List ℕ) (ip : ℕ) → SpellsIp6 text ip → ip6_of text ≡ Some ip
unfolding ip6_of
ip6_again text ip (inl s) =
    let read : sum_in 8 text ≡ Some (summed s.groups) = sum_again 8 text s.groups s.spelled (omega (arith, s.count)) (omega (arith, s.count)) in
    let eight : (length s.groups == 8) ≡ true = eq-eqb (length s.groups) 8 s.count in
    ap (ip6_cut text) (no_gap text s.groups s.spelled) ∙ ap (λ r. r >>= (λ groups. cond (groups.1 == 8) (Some groups.0) None)) read
    ∙ ap (λ b. cond b (Some (whole s.groups)) None) eight ∙ some_number (whole s.groups) ip (sym s.value)
ip6_again text ip (inr s) =
    let cut : gap_at text ≡ Some (s.before, s.behind) = ap gap_at s.row ∙ gap_again s.before s.behind s.front s.spelled_front in
    let front : side_sum s.before ≡ Some (summed s.front) = side_sum_again s.before s.front s.spelled_front (omega (arith, s.count)) in
    let back : side_sum s.behind ≡ Some (summed s.back) = side_sum_again s.behind s.back s.spelled_back (omega (arith, s.count)) in
    let few : nat_le (length s.front + length s.back) 7 ≡ true = at_most (length s.front + length s.back) 7 s.count in
    let number = whole s.front * 2 ^ (16 * (8 - length s.front)) + whole s.back in
    ap (ip6_cut text) cut ∙ ap (λ r. r >>= (λ f. side_sum s.behind >>= (λ b. spread f b))) front
    ∙ ap (λ r. r >>= (λ b. spread (summed s.front) b)) back
    ∙ ap (λ b. cond b (Some number) None) few
    ∙ some_number number ip (sym (gap_value s.front s.back s.count) ∙ sym s.value)

pub ip6_none : (text : List ℕ) → ip6_of text ≡ None → (ip : ℕ) → SpellsIp6 text ip → ⊥
ip6_none text h ip s = cc (h, ip6_again text ip s)

pub same_ip6 : (text : List ℕ) (a b : ℕ) → SpellsIp6 text a → SpellsIp6 text b → a ≡ b
same_ip6 text a b h k = let e = sym (ip6_again text a h) ∙ ip6_again text b k in cc (e)

-- ---- networks

colon_apart : ◌≡◌ {A = ℕ} 58 47 → ⊥
colon_apart e = omega (arith, e)

spelled_free : (text groups : List ℕ) → SpellsGroups text groups → Free 47 text
spelled_free text [] s = subst (Free 47) (sym s) tt
spelled_free text (group ∷ []) s = hex_free 47 text refl s.each
spelled_free text (group ∷ next ∷ groups) s =
    subst (Free 47) (sym s.2) (free_append 47 s.0 (58 ∷ s.1) (hex_free 47 s.0 refl s.3.each) (colon_apart, spelled_free s.1 (next ∷ groups) s.4))

ip6_free : (text : List ℕ) (ip : ℕ) → SpellsIp6 text ip → Free 47 text
ip6_free text ip (inl s) = spelled_free text s.groups s.spelled
ip6_free text ip (inr s) =
    subst (Free 47) (sym s.row) (free_append 47 s.before (58 ∷ 58 ∷ s.behind) (spelled_free s.before s.front s.spelled_front) (colon_apart, (colon_apart, spelled_free s.behind s.back s.spelled_back)))

pub net6_ok : (text : List ℕ) (x : ℕ × ℕ) → net6_of text ≡ Some x → SpellsNet6 text x.0 x.1
unfolding net6_of
net6_ok text x h =
    let p = bind_ok (cut_at 47 text) (λ parts. ip6_of parts.0 >>= λ ip. number_up_to 128 parts.1 >>= λ len. Some (ip, len)) x h in
    let i = bind_ok (ip6_of p.0.0) (λ ip. number_up_to 128 p.0.1 >>= λ len. Some (ip, len)) x p.2 in
    let l = bind_ok (number_up_to 128 p.0.1) (λ len. Some (i.0, len)) x i.2 in
    let e : (i.0, l.0) ≡ x = cc (l.2) in
    let kl = up_to_ok 128 p.0.1 l.0 l.1 in
    subst (λ (y : ℕ × ℕ). SpellsNet6 text y.0 y.1) e (record { address = p.0.0; row = cut_ok 47 text p.0 p.1 ∙ ap (λ w. p.0.0 ++ 47 ∷ w) kl.0; spelled = ip6_ok p.0.0 i.0 i.1; most = kl.1 })

pub net6_again : (text : List ℕ) (ip len : ℕ) → SpellsNet6 text ip len → net6_of text ≡ Some (ip, len)
unfolding net6_of
net6_again text ip len s =
    let cut : cut_at 47 text ≡ Some (s.address, decimal len) = ap (cut_at 47) s.row ∙ cut_again 47 s.address (decimal len) (ip6_free s.address ip s.spelled) in
    ap (λ r. r >>= (λ parts. ip6_of parts.0 >>= (λ a. number_up_to 128 parts.1 >>= (λ l. Some (a, l))))) cut
    ∙ ap (λ r. r >>= (λ a. number_up_to 128 (decimal len) >>= (λ l. Some (a, l)))) (ip6_again s.address ip s.spelled)
    ∙ ap (λ r. r >>= (λ l. Some (ip, l))) (up_to_again 128 len s.most (omega arith))

pub net6_none : (text : List ℕ) → net6_of text ≡ None → (ip len : ℕ) → SpellsNet6 text ip len → ⊥
net6_none text h ip len s = cc (h, net6_again text ip len s)

pub same_net6 : (text : List ℕ) (a m b n : ℕ) → SpellsNet6 text a m → SpellsNet6 text b n → (a ≡ b) × (m ≡ n)
same_net6 text a m b n h k =
    let r : Some (a, m) ≡ Some (b, n) = sym (net6_again text a m h) ∙ net6_again text b n k in
    let q : (a, m) ≡ (b, n) = cc (r) in
    (ap (λ (x : ℕ × ℕ). x.0) q, ap (λ (x : ℕ × ℕ). x.1) q)
