-- A text in double quotes is read exactly where it is spelled by its characters and escapes.
use Rattle.std.proofs.Common.{◌≡◌, ◌≢◌, ◌⊎◌, inl, inr, ℕ, ◌+◌, ◌-◌, ◌*◌, ◌%◌, ◌≤◌, ◌<◌, ◌==◌, Bool, true, false, cond, ◌||◌, ◌&&◌, List, [], ◌∷◌, ◌++◌, append_assoc, append-nil, Option, Some, None, Result, Ok, Err, refl, sym, ◌∙◌, ap, subst, arith, ne_eqb, lt-ltb}
use Rattle.std.specs.Prelude.{nat_lt, nat_le}
use Rattle.std.specs.List.{list_all}
use Rattle.std.proofs.lemmas.Bool.{cases_eq, cases_lt}
use Rattle.std.proofs.lemmas.Bool.Decides.{nat_tests}
use Rattle.yaml_subset.specs.declared.fault.YamlForm.TheVariants.{LongQuote}
use Rattle.yaml_subset.specs.declared.fault.YamlCause.{YamlCause}
use Rattle.yaml_subset.specs.declared.fault.YamlCause.TheVariants.{LeftOut, Syntax}
use Rattle.yaml_subset.specs.declared.quoted.Escape.{Escape}
use Rattle.yaml_subset.specs.declared.quoted.Escape.TheVariants.{Outside, Begun, Low, Hex}
use Rattle.yaml_subset.specs.Gives.{◌>>=◌}
use Rattle.yaml_subset.specs.Characters.{is_kept}
use Rattle.yaml_subset.specs.Quoted.{hex_digit, utf8_bytes, after_backslash, first_of_two, next_of_hex, double_step, is_outside, double_from}
use Rattle.yaml_subset.specs.DoubleQuoted.{ShortEscape, backslash, quote, line_feed, tab, carriage_return, IsNoSurrogate, IsEscape, short, low, unicode, IsPiece, character, escape, IsSpelled, spelled_none, spelled_more, IsDoubleQuoted}
use Rattle.yaml_subset.proofs.LineValues.{same}
use Rattle.yaml_subset.proofs.FirstFaults.{and_parts, or_cases}
use Rattle.yaml_subset.proofs.QuoteLaws.{read_ok, same_read}

-- ---- hexadecimal digits

pub hex_small : (c d : ℕ) → hex_digit c ≡ Some d → d < 16
hex_small c d h = by_tests (nat_le 48 c && nat_le c 57) (nat_le 97 c && nat_le c 102) (nat_le 65 c && nat_le c 70) refl refl refl h
  where
    value : (n : ℕ) → n < 16 → Some n ≡ Some d → d < 16
    value n l e = let s : n ≡ d = cc in subst (λ x. x < 16) s l

    none : None ≡ Some d → d < 16
    none e = absurd cc

    by_tests : (a b t : Bool) → nat_le 48 c && nat_le c 57 ≡ a → nat_le 97 c && nat_le c 102 ≡ b → nat_le 65 c && nat_le c 70 ≡ t
        → cond a (Some (c - 48)) (cond b (Some (c - 87)) (cond t (Some (c - 55)) None)) ≡ Some d → d < 16
    by_tests true b t p q r e = value (c - 48) (grind (arith, nat_tests)) e
    by_tests false true t p q r e = value (c - 87) (grind (arith, nat_tests)) e
    by_tests false false true p q r e = value (c - 55) (grind (arith, nat_tests)) e
    by_tests false false false p q r e = none e

some_digit : (c d : ℕ) → hex_digit c ≡ Some d → (48 ≤ c) × (c ≤ 102)
some_digit c d h = by_tests (nat_le 48 c && nat_le c 57) (nat_le 97 c && nat_le c 102) (nat_le 65 c && nat_le c 70) refl refl refl h
  where
    none : None ≡ Some d → (48 ≤ c) × (c ≤ 102)
    none e = absurd cc

    by_tests : (a b t : Bool) → nat_le 48 c && nat_le c 57 ≡ a → nat_le 97 c && nat_le c 102 ≡ b → nat_le 65 c && nat_le c 70 ≡ t
        → cond a (Some (c - 48)) (cond b (Some (c - 87)) (cond t (Some (c - 55)) None)) ≡ Some d → (48 ≤ c) × (c ≤ 102)
    by_tests true b t p q r e = (grind (arith, nat_tests), grind (arith, nat_tests))
    by_tests false true t p q r e = (grind (arith, nat_tests), grind (arith, nat_tests))
    by_tests false false true p q r e = (grind (arith, nat_tests), grind (arith, nat_tests))
    by_tests false false false p q r e = none e

in_range : (c : ℕ) → 48 ≤ c → c ≤ 102 → is_kept c ≡ true
in_range c l h = grind (arith, nat_tests)

hex_kept : (c d : ℕ) → hex_digit c ≡ Some d → is_kept c ≡ true
hex_kept c d h = let w = some_digit c d h in in_range c w.0 w.1

-- ---- how far an escape is read

-- the bytes of an escape that has begun, and what is kept of them while it is read
pub data Reached : Escape → List ℕ → Type 0 where
  begun : Reached Begun (92 ∷ [])
  low_begun : Reached Low (92 ∷ 120 ∷ [])
  low_one : (a m : ℕ) → hex_digit a ≡ Some m → m < 8 → Reached (Hex 1 m) (92 ∷ 120 ∷ a ∷ [])
  unicode_begun : Reached (Hex 4 0) (92 ∷ 117 ∷ [])
  unicode_one : (a m : ℕ) → hex_digit a ≡ Some m → Reached (Hex 3 m) (92 ∷ 117 ∷ a ∷ [])
  unicode_two : (a b m n : ℕ) → hex_digit a ≡ Some m → hex_digit b ≡ Some n → (m ≡ 13 → n < 8) → Reached (Hex 2 (m * 16 + n)) (92 ∷ 117 ∷ a ∷ b ∷ [])
  unicode_three : (a b c m n o : ℕ) → hex_digit a ≡ Some m → hex_digit b ≡ Some n → hex_digit c ≡ Some o → (m ≡ 13 → n < 8) → Reached (Hex 1 ((m * 16 + n) * 16 + o)) (92 ∷ 117 ∷ a ∷ b ∷ c ∷ [])

-- where a byte is read behind such bytes: a whole escape, a longer front of one, or none
abbrev pub Goes : List ℕ → Escape × List ℕ → Type 0
Goes bytes next = ((next.0 ≡ Outside) × IsEscape bytes next.1) ⊎ (Reached next.0 bytes × (next.1 ≡ []))

abbrev pub Stepped : List ℕ → Result (Escape × List ℕ) YamlCause → Type 0
Stepped bytes (Ok next) = Goes bytes next
Stepped bytes (Err cause) = cause ≡ Syntax

stepped_if : (bytes : List ℕ) (b : Bool) (r s : Result (Escape × List ℕ) YamlCause) → (b ≡ true → Stepped bytes r) → (b ≡ false → Stepped bytes s) → Stepped bytes (cond b r s)
stepped_if bytes b r s holds fails = by_test b refl
  where
    by_test : (t : Bool) → b ≡ t → Stepped bytes (cond t r s)
    by_test true e = holds e
    by_test false e = fails e

short_goes : (letter byte c : ℕ) → ShortEscape letter byte → c == letter ≡ true → Goes (92 ∷ c ∷ []) (Outside, byte ∷ [])
short_goes letter byte c s e = inl (refl, short letter byte s (ap (λ (x : ℕ). 92 ∷ x ∷ []) (same c letter e)) refl)

from_begun : (c : ℕ) → Stepped (92 ∷ c ∷ []) (after_backslash c)
from_begun c =
    let none : Result (Escape × List ℕ) YamlCause = Err Syntax in
    let sixth : Result (Escape × List ℕ) YamlCause = cond (c == 117) (Ok (Hex 4 0, [])) none in
    let fifth : Result (Escape × List ℕ) YamlCause = cond (c == 120) (Ok (Low, [])) sixth in
    let fourth : Result (Escape × List ℕ) YamlCause = cond (c == 114) (Ok (Outside, 13 ∷ [])) fifth in
    let third : Result (Escape × List ℕ) YamlCause = cond (c == 116) (Ok (Outside, 9 ∷ [])) fourth in
    let second : Result (Escape × List ℕ) YamlCause = cond (c == 110) (Ok (Outside, 10 ∷ [])) third in
    let read : List ℕ = 92 ∷ c ∷ [] in
    stepped_if read (c == 92 || c == 34) (Ok (Outside, c ∷ [])) second
    (λ h. elim (or_cases (c == 92) (c == 34) h) [
      | inl e ↦ inl (refl, short 92 92 backslash (ap (λ (x : ℕ). 92 ∷ x ∷ []) (same c 92 e)) (ap (λ (x : ℕ). x ∷ []) (same c 92 e)))
      | inr e ↦ inl (refl, short 34 34 quote (ap (λ (x : ℕ). 92 ∷ x ∷ []) (same c 34 e)) (ap (λ (x : ℕ). x ∷ []) (same c 34 e)))
    ])
    (λ h. stepped_if read (c == 110) (Ok (Outside, 10 ∷ [])) third (short_goes 110 10 c line_feed)
    (λ h. stepped_if read (c == 116) (Ok (Outside, 9 ∷ [])) fourth (short_goes 116 9 c tab)
    (λ h. stepped_if read (c == 114) (Ok (Outside, 13 ∷ [])) fifth (short_goes 114 13 c carriage_return)
    (λ h. stepped_if read (c == 120) (Ok (Low, [])) sixth (λ e. inr (subst (λ (x : ℕ). Reached Low (92 ∷ x ∷ [])) (sym (same c 120 e)) low_begun, refl))
    (λ h. stepped_if read (c == 117) (Ok (Hex 4 0, [])) none (λ e. inr (subst (λ (x : ℕ). Reached (Hex 4 0) (92 ∷ x ∷ [])) (sym (same c 117 e)) unicode_begun, refl))
    (λ h. refl))))))

from_low : (c : ℕ) → Stepped (92 ∷ 120 ∷ c ∷ []) (first_of_two (hex_digit c))
from_low c = by_digit (hex_digit c) refl
  where
    by_digit : (d : Option ℕ) → hex_digit c ≡ d → Stepped (92 ∷ 120 ∷ c ∷ []) (first_of_two d)
    by_digit None e = refl
    by_digit (Some d) e =
        stepped_if (92 ∷ 120 ∷ c ∷ []) (nat_lt d 8) (Ok (Hex 1 d, [])) (Err Syntax)
        (λ l. inr (low_one c d e (grind (arith, nat_tests)), refl)) (λ l. refl)

low_last : (a m c n : ℕ) → hex_digit a ≡ Some m → m < 8 → hex_digit c ≡ Some n → Goes (92 ∷ 120 ∷ a ∷ c ∷ []) (Outside, utf8_bytes ((m * 16 + n) % 65536))
low_last a m c n h l k =
    let s = hex_small c n k in
    let v : (m * 16 + n) % 65536 ≡ m * 16 + n = omega arith in
    inl (refl, low a c m n h k l refl (ap utf8_bytes v))

from_low_one : (a m c : ℕ) → hex_digit a ≡ Some m → m < 8 → Stepped (92 ∷ 120 ∷ a ∷ c ∷ []) (next_of_hex 1 m (hex_digit c))
from_low_one a m c h l = by_digit (hex_digit c) refl
  where
    by_digit : (d : Option ℕ) → hex_digit c ≡ d → Stepped (92 ∷ 120 ∷ a ∷ c ∷ []) (next_of_hex 1 m d)
    by_digit None e = refl
    by_digit (Some d) e = low_last a m c d h l e

reached_value : (left v w : ℕ) (front : List ℕ) → v ≡ w → Reached (Hex left w) front → Reached (Hex left v) front
reached_value left v w front e r = subst (λ x. Reached (Hex left x) front) (sym e) r

from_unicode : (c : ℕ) → Stepped (92 ∷ 117 ∷ c ∷ []) (next_of_hex 4 0 (hex_digit c))
from_unicode c = by_digit (hex_digit c) refl
  where
    by_digit : (d : Option ℕ) → hex_digit c ≡ d → Stepped (92 ∷ 117 ∷ c ∷ []) (next_of_hex 4 0 d)
    by_digit None e = refl
    by_digit (Some d) e = let s = hex_small c d e in inr (reached_value 3 ((0 * 16 + d) % 65536) d (92 ∷ 117 ∷ c ∷ []) (omega arith) (unicode_one c d e), refl)

from_unicode_one : (a m c : ℕ) → hex_digit a ≡ Some m → Stepped (92 ∷ 117 ∷ a ∷ c ∷ []) (next_of_hex 3 m (hex_digit c))
from_unicode_one a m c h = by_digit (hex_digit c) refl
  where
    by_digit : (d : Option ℕ) → hex_digit c ≡ d → Stepped (92 ∷ 117 ∷ a ∷ c ∷ []) (next_of_hex 3 m d)
    by_digit None e = refl
    by_digit (Some d) e =
        let s = hex_small c d e in
        let r = hex_small a m h in
        stepped_if (92 ∷ 117 ∷ a ∷ c ∷ []) (m == 13 && nat_le 8 d) (Err Syntax) (Ok (Hex 2 ((m * 16 + d) % 65536), []))
        (λ t. refl)
        (λ t. inr (reached_value 2 ((m * 16 + d) % 65536) (m * 16 + d) (92 ∷ 117 ∷ a ∷ c ∷ []) (omega arith) (unicode_two a c m d h e (λ q. grind (arith, nat_tests))), refl))

from_unicode_two : (a b m n c : ℕ) → hex_digit a ≡ Some m → hex_digit b ≡ Some n → (m ≡ 13 → n < 8) → Stepped (92 ∷ 117 ∷ a ∷ b ∷ c ∷ []) (next_of_hex 2 (m * 16 + n) (hex_digit c))
from_unicode_two a b m n c h k q = by_digit (hex_digit c) refl
  where
    by_digit : (d : Option ℕ) → hex_digit c ≡ d → Stepped (92 ∷ 117 ∷ a ∷ b ∷ c ∷ []) (next_of_hex 2 (m * 16 + n) d)
    by_digit None e = refl
    by_digit (Some d) e =
        let s = hex_small c d e in
        let r = hex_small a m h in
        let t = hex_small b n k in
        inr (reached_value 1 (((m * 16 + n) * 16 + d) % 65536) ((m * 16 + n) * 16 + d) (92 ∷ 117 ∷ a ∷ b ∷ c ∷ []) (omega arith) (unicode_three a b c m n d h k e q), refl)

pub no_surrogate : (m n o p : ℕ) → m < 16 → n < 16 → o < 16 → p < 16 → (m ≡ 13 → n < 8) → IsNoSurrogate (((m * 16 + n) * 16 + o) * 16 + p)
no_surrogate m n o p a b c d q = elim (cases_lt m 13) [
  | inl lt ↦ inl (omega (arith, lt))
  | inr ge ↦ elim (cases_eq m 13) [ inl e ↦ (let l = q e in inl (omega (arith, l, e))) | inr ne ↦ inr (omega (arith, ge, ne)) ]
]

from_unicode_three : (a b c m n o x : ℕ) → hex_digit a ≡ Some m → hex_digit b ≡ Some n → hex_digit c ≡ Some o → (m ≡ 13 → n < 8)
    → Stepped (92 ∷ 117 ∷ a ∷ b ∷ c ∷ x ∷ []) (next_of_hex 1 ((m * 16 + n) * 16 + o) (hex_digit x))
from_unicode_three a b c m n o x h k j q = by_digit (hex_digit x) refl
  where
    by_digit : (d : Option ℕ) → hex_digit x ≡ d → Stepped (92 ∷ 117 ∷ a ∷ b ∷ c ∷ x ∷ []) (next_of_hex 1 ((m * 16 + n) * 16 + o) d)
    by_digit None e = refl
    by_digit (Some d) e =
        let s = hex_small x d e in
        let r = hex_small a m h in
        let t = hex_small b n k in
        let u = hex_small c o j in
        let v : (((m * 16 + n) * 16 + o) * 16 + d) % 65536 ≡ ((m * 16 + n) * 16 + o) * 16 + d = omega arith in
        inl (refl, unicode a b c x m n o d h k j e (no_surrogate m n o d r t u s q) refl (ap utf8_bytes v))

pub step_goes : (state : Escape) (front : List ℕ) (c : ℕ) → Reached state front → Stepped (front ++ c ∷ []) (double_step state c)
unfolding double_step
step_goes state front c begun = from_begun c
step_goes state front c low_begun = from_low c
step_goes state front c (low_one a m h l) = from_low_one a m c h l
step_goes state front c unicode_begun = from_unicode c
step_goes state front c (unicode_one a m h) = from_unicode_one a m c h
step_goes state front c (unicode_two a b m n h k q) = from_unicode_two a b m n c h k q
step_goes state front c (unicode_three a b d m n o h k j q) = from_unicode_three a b d m n o c h k j q

and_false : (b : Bool) → b && false ≡ false
and_false true = refl
and_false false = refl

-- one byte within an escape
pub inside_step : (state : Escape) (c : ℕ) (out rest : List ℕ) → is_outside state ≡ false → double_from state out (c ∷ rest) ≡ (double_step state c >>= λ s. double_from s.0 (out ++ s.1) rest)
unfolding double_from
inside_step state c out rest h = let e : c == 34 && is_outside state ≡ false = ap (λ b. c == 34 && b) h ∙ and_false (c == 34) in rw e refl

pub reached_inside : (state : Escape) (front : List ℕ) → Reached state front → is_outside state ≡ false
reached_inside state front begun = refl
reached_inside state front low_begun = refl
reached_inside state front (low_one a m h l) = refl
reached_inside state front unicode_begun = refl
reached_inside state front (unicode_one a m h) = refl
reached_inside state front (unicode_two a b m n h k q) = refl
reached_inside state front (unicode_three a b c m n o h k j q) = refl

-- ---- what is read up to a state, whatever follows

abbrev Reads : Escape → List ℕ → Type 0
Reads state front = (out rest : List ℕ) → double_from Outside out (front ++ rest) ≡ double_from state out rest

abbrev next_ok : Escape → List ℕ → Result (Escape × List ℕ) YamlCause
next_ok state bytes = Ok (state, bytes)

abbrev step_err : YamlCause → Result (Escape × List ℕ) YamlCause
step_err cause = Err cause

step_read : (state next : Escape) (c : ℕ) (bytes out rest : List ℕ) → is_outside state ≡ false → double_step state c ≡ next_ok next bytes → double_from state out (c ∷ rest) ≡ double_from next (out ++ bytes) rest
step_read state next c bytes out rest h e =
    inside_step state c out rest h ∙ ap (λ (r : Result (Escape × List ℕ) YamlCause). r >>= (λ (s : Escape × List ℕ). double_from s.0 (out ++ s.1) rest)) e

longer : (state next : Escape) (front : List ℕ) (c : ℕ) → Reads state front → is_outside state ≡ false → double_step state c ≡ next_ok next [] → Reads next (front ++ c ∷ [])
longer state next front c reads h e out rest =
    ap (double_from Outside out) (append_assoc front (c ∷ []) rest)
    ∙ reads out (c ∷ rest)
    ∙ step_read state next c [] out rest h e
    ∙ ap (λ o. double_from next o rest) (append-nil out)

begun_reads : Reads Begun (92 ∷ [])
unfolding double_from double_step
begun_reads out rest = ap (λ o. double_from Begun o rest) (append-nil out)

step_low : double_step Begun 120 ≡ next_ok Low []
unfolding double_step
step_low = refl

step_unicode : double_step Begun 117 ≡ next_ok (Hex 4 0) []
unfolding double_step
step_unicode = refl

step_low_one : (a m : ℕ) → hex_digit a ≡ Some m → m < 8 → double_step Low a ≡ next_ok (Hex 1 m) []
unfolding double_step
step_low_one a m h l = let t : nat_lt m 8 ≡ true = lt-ltb m 8 l in ap first_of_two h ∙ ap (λ b. cond b (next_ok (Hex 1 m) []) (Err Syntax)) t

step_digit : (left v c d : ℕ) → hex_digit c ≡ Some d → double_step (Hex left v) c ≡ next_of_hex left v (Some d)
unfolding double_step
step_digit left v c d h = ap (next_of_hex left v) h

step_unicode_one : (a m : ℕ) → hex_digit a ≡ Some m → double_step (Hex 4 0) a ≡ next_ok (Hex 3 m) []
step_unicode_one a m h = let s = hex_small a m h in let v : (0 * 16 + m) % 65536 ≡ m = omega arith in step_digit 4 0 a m h ∙ ap (λ x. next_ok (Hex 3 x) []) v

step_unicode_two : (m b n : ℕ) → hex_digit b ≡ Some n → m < 16 → (m ≡ 13 → n < 8) → double_step (Hex 3 m) b ≡ next_ok (Hex 2 (m * 16 + n)) []
step_unicode_two m b n h l q =
    let s = hex_small b n h in
    let v : (m * 16 + n) % 65536 ≡ m * 16 + n = omega arith in
    let t : m == 13 && nat_le 8 n ≡ false = grind (arith, nat_tests) in
    step_digit 3 m b n h ∙ ap (λ k. cond k (Err Syntax) (next_ok (Hex 2 ((m * 16 + n) % 65536)) [])) t ∙ ap (λ x. next_ok (Hex 2 x) []) v

step_unicode_three : (v c o : ℕ) → hex_digit c ≡ Some o → v < 256 → double_step (Hex 2 v) c ≡ next_ok (Hex 1 (v * 16 + o)) []
step_unicode_three v c o h l =
    let s = hex_small c o h in
    let w : (v * 16 + o) % 65536 ≡ v * 16 + o = omega arith in
    step_digit 2 v c o h ∙ ap (λ x. next_ok (Hex 1 x) []) w

step_last : (v c d : ℕ) → hex_digit c ≡ Some d → v < 4096 → double_step (Hex 1 v) c ≡ next_ok Outside (utf8_bytes (v * 16 + d))
step_last v c d h l =
    let s = hex_small c d h in
    let w : (v * 16 + d) % 65536 ≡ v * 16 + d = omega arith in
    step_digit 1 v c d h ∙ ap (λ x. next_ok Outside (utf8_bytes x)) w

low_reads : Reads Low (92 ∷ 120 ∷ [])
low_reads = longer Begun Low (92 ∷ []) 120 begun_reads refl step_low

low_one_reads : (a m : ℕ) → hex_digit a ≡ Some m → m < 8 → Reads (Hex 1 m) (92 ∷ 120 ∷ a ∷ [])
low_one_reads a m h l = longer Low (Hex 1 m) (92 ∷ 120 ∷ []) a low_reads refl (step_low_one a m h l)

unicode_reads : Reads (Hex 4 0) (92 ∷ 117 ∷ [])
unicode_reads = longer Begun (Hex 4 0) (92 ∷ []) 117 begun_reads refl step_unicode

unicode_one_reads : (a m : ℕ) → hex_digit a ≡ Some m → Reads (Hex 3 m) (92 ∷ 117 ∷ a ∷ [])
unicode_one_reads a m h = longer (Hex 4 0) (Hex 3 m) (92 ∷ 117 ∷ []) a unicode_reads refl (step_unicode_one a m h)

unicode_two_reads : (a b m n : ℕ) → hex_digit a ≡ Some m → hex_digit b ≡ Some n → (m ≡ 13 → n < 8) → Reads (Hex 2 (m * 16 + n)) (92 ∷ 117 ∷ a ∷ b ∷ [])
unicode_two_reads a b m n h k q = longer (Hex 3 m) (Hex 2 (m * 16 + n)) (92 ∷ 117 ∷ a ∷ []) b (unicode_one_reads a m h) refl (step_unicode_two m b n k (hex_small a m h) q)

unicode_three_reads : (a b c m n o : ℕ) → hex_digit a ≡ Some m → hex_digit b ≡ Some n → hex_digit c ≡ Some o → (m ≡ 13 → n < 8) → Reads (Hex 1 ((m * 16 + n) * 16 + o)) (92 ∷ 117 ∷ a ∷ b ∷ c ∷ [])
unicode_three_reads a b c m n o h k j q =
    let s = hex_small a m h in
    let t = hex_small b n k in
    longer (Hex 2 (m * 16 + n)) (Hex 1 ((m * 16 + n) * 16 + o)) (92 ∷ 117 ∷ a ∷ b ∷ []) c (unicode_two_reads a b m n h k q) refl (step_unicode_three (m * 16 + n) c o j (omega arith))

pub reached_reads : (state : Escape) (front : List ℕ) → Reached state front → (out rest : List ℕ) → double_from Outside out (front ++ rest) ≡ double_from state out rest
reached_reads state front begun = begun_reads
reached_reads state front low_begun = low_reads
reached_reads state front (low_one a m h l) = low_one_reads a m h l
reached_reads state front unicode_begun = unicode_reads
reached_reads state front (unicode_one a m h) = unicode_one_reads a m h
reached_reads state front (unicode_two a b m n h k q) = unicode_two_reads a b m n h k q
reached_reads state front (unicode_three a b c m n o h k j q) = unicode_three_reads a b c m n o h k j q

-- ---- whole escapes

abbrev ReadsWhole : List ℕ → List ℕ → Type 0
ReadsWhole spelling bytes = (out rest : List ℕ) → double_from Outside out (spelling ++ rest) ≡ double_from Outside (out ++ bytes) rest

short_reads : (letter byte : ℕ) → ShortEscape letter byte → ReadsWhole (92 ∷ letter ∷ []) (byte ∷ [])
unfolding double_from double_step
short_reads letter byte backslash out rest = ap (λ o. double_from Outside (o ++ 92 ∷ []) rest) (append-nil out)
short_reads letter byte quote out rest = ap (λ o. double_from Outside (o ++ 34 ∷ []) rest) (append-nil out)
short_reads letter byte line_feed out rest = ap (λ o. double_from Outside (o ++ 10 ∷ []) rest) (append-nil out)
short_reads letter byte tab out rest = ap (λ o. double_from Outside (o ++ 9 ∷ []) rest) (append-nil out)
short_reads letter byte carriage_return out rest = ap (λ o. double_from Outside (o ++ 13 ∷ []) rest) (append-nil out)

last_reads : (v c d : ℕ) (front : List ℕ) → Reads (Hex 1 v) front → hex_digit c ≡ Some d → v < 4096 → ReadsWhole (front ++ c ∷ []) (utf8_bytes (v * 16 + d))
last_reads v c d front reads h l out rest =
    ap (double_from Outside out) (append_assoc front (c ∷ []) rest)
    ∙ reads out (c ∷ rest)
    ∙ step_read (Hex 1 v) Outside c (utf8_bytes (v * 16 + d)) out rest refl (step_last v c d h l)

surrogate_free : (m n o p : ℕ) → m < 16 → n < 16 → o < 16 → p < 16 → IsNoSurrogate (((m * 16 + n) * 16 + o) * 16 + p) → m ≡ 13 → n < 8
surrogate_free m n o p a b c d s e = elim s [ inl lt ↦ omega (arith, lt, e) | inr gt ↦ omega (arith, gt, e) ]

spelled_as : (spelling spelling' bytes bytes' : List ℕ) → spelling ≡ spelling' → bytes ≡ bytes' → ReadsWhole spelling' bytes' → ReadsWhole spelling bytes
spelled_as spelling spelling' bytes bytes' e f reads = subst (λ xs. ReadsWhole xs bytes) (sym e) (subst (λ xs. ReadsWhole spelling' xs) (sym f) reads)

pub escape_reads : (spelling bytes : List ℕ) → IsEscape spelling bytes → (out rest : List ℕ) → double_from Outside out (spelling ++ rest) ≡ double_from Outside (out ++ bytes) rest
escape_reads spelling bytes (short letter byte s e f) = spelled_as spelling (92 ∷ letter ∷ []) bytes (byte ∷ []) e f (short_reads letter byte s)
escape_reads spelling bytes (low a b m n h k l e f) =
    spelled_as spelling (92 ∷ 120 ∷ a ∷ b ∷ []) bytes (utf8_bytes (m * 16 + n)) e f (last_reads m b n (92 ∷ 120 ∷ a ∷ []) (low_one_reads a m h l) k (omega arith))
escape_reads spelling bytes (unicode a b c d m n o p h k j i s e f) =
    let hm = hex_small a m h in
    let hn = hex_small b n k in
    let ho = hex_small c o j in
    let hp = hex_small d p i in
    spelled_as spelling (92 ∷ 117 ∷ a ∷ b ∷ c ∷ d ∷ []) bytes (utf8_bytes (((m * 16 + n) * 16 + o) * 16 + p)) e f
    (last_reads ((m * 16 + n) * 16 + o) d p (92 ∷ 117 ∷ a ∷ b ∷ c ∷ []) (unicode_three_reads a b c m n o h k j (surrogate_free m n o p hm hn ho hp s)) i (omega arith))

pub escape_kept : (spelling bytes : List ℕ) → IsEscape spelling bytes → list_all is_kept spelling ≡ true
escape_kept spelling bytes (short letter byte s e f) = ap (list_all is_kept) e ∙ by_letter letter byte s
  where
    by_letter : (letter byte : ℕ) → ShortEscape letter byte → list_all is_kept (92 ∷ letter ∷ []) ≡ true
    by_letter letter byte backslash = refl
    by_letter letter byte quote = refl
    by_letter letter byte line_feed = refl
    by_letter letter byte tab = refl
    by_letter letter byte carriage_return = refl
escape_kept spelling bytes (low a b m n h k l e f) =
    let p = hex_kept a m h in
    let q = hex_kept b n k in
    ap (list_all is_kept) e ∙ rw (p, q) refl
escape_kept spelling bytes (unicode a b c d m n o p h k j i s e f) =
    let ka = hex_kept a m h in
    let kb = hex_kept b n k in
    let kc = hex_kept c o j in
    let kd = hex_kept d p i in
    ap (list_all is_kept) e ∙ rw (ka, kb, kc, kd) refl

-- ---- a text

pub all_parts : (xs ys : List ℕ) → list_all is_kept (xs ++ ys) ≡ true → (list_all is_kept xs ≡ true) × (list_all is_kept ys ≡ true)
all_parts [] ys h = (refl, h)
all_parts (x ∷ xs) ys h =
    let w = and_parts (is_kept x) (list_all is_kept (xs ++ ys)) h in
    let v = all_parts xs ys w.1 in
    (ap (λ b. b && list_all is_kept xs) w.0 ∙ v.0, v.1)

pub all_joined : (xs ys : List ℕ) → list_all is_kept xs ≡ true → list_all is_kept ys ≡ true → list_all is_kept (xs ++ ys) ≡ true
all_joined [] ys h k = k
all_joined (x ∷ xs) ys h k =
    let w = and_parts (is_kept x) (list_all is_kept xs) h in
    ap (λ b. b && list_all is_kept (xs ++ ys)) w.0 ∙ all_joined xs ys w.1 k

character_reads : (c : ℕ) → c ≢ 34 → c ≢ 92 → is_kept c ≡ true → ReadsWhole (c ∷ []) (c ∷ [])
unfolding double_from double_step
character_reads c n m k out rest =
    let e : c == 34 ≡ false = ne_eqb c 34 n in
    let f : c == 92 ≡ false = ne_eqb c 92 m in
    rw (e, f, k) refl

piece_reads : (piece bytes : List ℕ) → IsPiece piece bytes → list_all is_kept piece ≡ true → ReadsWhole piece bytes
piece_reads piece bytes (character c n m e f) k =
    let w : is_kept c && true ≡ true = ap (list_all is_kept) (sym e) ∙ k in
    let v = and_parts (is_kept c) true w in
    spelled_as piece (c ∷ []) bytes (c ∷ []) e f (character_reads c n m v.0)
piece_reads piece bytes (escape s) k = escape_reads piece bytes s

pub spelled_reads : (spelling text : List ℕ) → IsSpelled spelling text → list_all is_kept spelling ≡ true → ReadsWhole spelling text
spelled_reads spelling text spelled_none k out rest = ap (λ o. double_from Outside o rest) (sym (append-nil out))
spelled_reads spelling text (spelled_more piece bytes more others p s) k out rest =
    let w = all_parts piece more k in
    ap (double_from Outside out) (append_assoc piece more rest)
    ∙ piece_reads piece bytes p w.0 out (more ++ rest)
    ∙ spelled_reads more others s w.1 (out ++ bytes) rest
    ∙ ap (λ o. double_from Outside o rest) (append_assoc out bytes others)

pub closing_read : (out after : List ℕ) → double_from Outside out (34 ∷ after) ≡ Ok (out, after)
unfolding double_from
closing_read out after = refl

pub double_read : (rest text after : List ℕ) → IsDoubleQuoted rest text after → double_from Outside [] rest ≡ Ok (text, after)
double_read rest text after w = ap (double_from Outside []) w.whole ∙ spelled_reads w.spelling text w.spelled w.kept [] (34 ∷ after) ∙ closing_read text after

-- ---- along the bytes

-- where the bytes of this front leave the reading
pub data At : Escape → List ℕ → Type 0 where
  outside : At Outside []
  within : (state : Escape) (front : List ℕ) → Reached state front → At state front

-- What holds of the bytes and of what they are read as, behind `out`: it holds at each end, and before a
-- character or an escape where it holds behind it.
module _ (P : List ℕ → Result (List ℕ × List ℕ) YamlCause → List ℕ → Type 0)
    (cut : (state : Escape) (front out : List ℕ) → At state front → P front (Err (LeftOut LongQuote)) out)
    (closed : (out after : List ℕ) → P (34 ∷ after) (Ok (out, after)) out)
    (refused : (state : Escape) (front : List ℕ) (c : ℕ) (rest out : List ℕ) → Reached state front → double_step state c ≡ Err Syntax → P (front ++ c ∷ rest) (Err Syntax) out)
    (unkept : (c : ℕ) (rest out : List ℕ) → is_kept c ≡ false → P (c ∷ rest) (Err Syntax) out)
    (more : (piece bytes rest out : List ℕ) (r : Result (List ℕ × List ℕ) YamlCause) → IsPiece piece bytes → list_all is_kept piece ≡ true → P rest r (out ++ bytes) → P (piece ++ rest) r out) where
  abbrev Behind : List ℕ → Type 0
  Behind rest = (state : Escape) (front out : List ℕ) → At state front → P (front ++ rest) (double_from state out rest) out

  abbrev onward : List ℕ → List ℕ → Escape × List ℕ → Result (List ℕ × List ℕ) YamlCause
  onward out rest next = double_from next.0 (out ++ next.1) rest

  outside_along : (c : ℕ) (rest out : List ℕ) → Behind rest → P (c ∷ rest) (double_from Outside out (c ∷ rest)) out
  unfolding double_from double_step
  outside_along c rest out behind = by_tests (c == 34) (c == 92) (is_kept c) refl refl refl
    where
      different : (d : ℕ) → c == d ≡ false → c ≢ d
      different d e h = grind (arith, nat_tests)

      by_tests : (q b k : Bool) → c == 34 ≡ q → c == 92 ≡ b → is_kept c ≡ k
          → P (c ∷ rest) (cond (q && true) (Ok (out, rest)) (cond b (Ok (Begun, [])) (cond k (Ok (Outside, c ∷ [])) (Err Syntax)) >>= onward out rest)) out
      by_tests true b k e f g = subst (λ (x : ℕ). P (x ∷ rest) (Ok (out, rest)) out) (sym (same c 34 e)) (closed out rest)
      by_tests false true k e f g =
          subst (λ (x : ℕ). P (x ∷ rest) (double_from Begun (out ++ []) rest) out) (sym (same c 92 f))
          (subst (λ o. P (92 ∷ rest) (double_from Begun (out ++ []) rest) o) (append-nil out) (behind Begun (92 ∷ []) (out ++ []) (within Begun (92 ∷ []) begun)))
      by_tests false false true e f g =
          more (c ∷ []) (c ∷ []) rest out (double_from Outside (out ++ c ∷ []) rest) (character c (different 34 e) (different 92 f) refl refl) (rw g refl) (behind Outside [] (out ++ c ∷ []) outside)
      by_tests false false false e f g = unkept c rest out g

  within_along : (state : Escape) (front : List ℕ) (c : ℕ) (rest out : List ℕ) → Reached state front → Behind rest → P (front ++ c ∷ rest) (double_from state out (c ∷ rest)) out
  within_along state front c rest out at behind =
      subst (λ r. P (front ++ c ∷ rest) r out) (sym (inside_step state c out rest (reached_inside state front at)))
      (by_result (double_step state c) refl (step_goes state front c at))
    where
      whole : (front ++ c ∷ []) ++ rest ≡ front ++ c ∷ rest
      whole = append_assoc front (c ∷ []) rest

      by_next : (next : Escape × List ℕ) → Goes (front ++ c ∷ []) next → P (front ++ c ∷ rest) (onward out rest next) out
      by_next next (inl w) =
          subst (λ xs. P xs (onward out rest next) out) whole
          (more (front ++ c ∷ []) next.1 rest out (onward out rest next) (escape w.1) (escape_kept (front ++ c ∷ []) next.1 w.1)
          (subst (λ s. P rest (double_from s (out ++ next.1) rest) (out ++ next.1)) (sym w.0) (behind Outside [] (out ++ next.1) outside)))
      by_next next (inr w) =
          subst (λ xs. P xs (onward out rest next) out) whole
          (subst (λ o. P ((front ++ c ∷ []) ++ rest) (onward out rest next) o) (ap (λ bs. out ++ bs) w.1 ∙ append-nil out)
          (behind next.0 (front ++ c ∷ []) (out ++ next.1) (within next.0 (front ++ c ∷ []) w.0)))

      by_result : (r : Result (Escape × List ℕ) YamlCause) → double_step state c ≡ r → Stepped (front ++ c ∷ []) r → P (front ++ c ∷ rest) (r >>= onward out rest) out
      by_result (Ok next) e s = by_next next s
      by_result (Err cause) e s =
          subst (λ d. P (front ++ c ∷ rest) (Err d) out) (sym s) (refused state front c rest out at (e ∙ ap step_err s))

  pub along : (rest : List ℕ) (state : Escape) (front out : List ℕ) → At state front → P (front ++ rest) (double_from state out rest) out
  unfolding double_from
  along [] state front out at = subst (λ xs. P xs (Err (LeftOut LongQuote)) out) (sym (append-nil front)) (cut state front out at)
  along (c ∷ cs) state front out outside = outside_along c cs out (λ s f o a. along cs s f o a)
  along (c ∷ cs) state front out (within s f at) = within_along s f c cs out at (λ s f o a. along cs s f o a)

-- ---- a text that is read

-- the text behind `out` is spelled there
abbrev Found : List ℕ → Result (List ℕ × List ℕ) YamlCause → List ℕ → Type 0
Found whole r out = (text after : List ℕ) → r ≡ Ok (text, after) → (t : List ℕ) × (text ≡ out ++ t) × IsDoubleQuoted whole t after

closed_found : (out after : List ℕ) → Found (34 ∷ after) (Ok (out, after)) out
closed_found out after text after' e =
    let w = same_read out text after after' e in
    ([], sym w.0 ∙ sym (append-nil out), record { spelling = []; spelled = spelled_none; kept = refl; whole = ap (λ xs. 34 ∷ xs) w.1 })

more_found : (piece bytes rest out : List ℕ) (r : Result (List ℕ × List ℕ) YamlCause) → IsPiece piece bytes → list_all is_kept piece ≡ true → Found rest r (out ++ bytes) → Found (piece ++ rest) r out
more_found piece bytes rest out r p k found text after e = of_found (found text after e)
  where
    of_found : (t : List ℕ) × (text ≡ (out ++ bytes) ++ t) × IsDoubleQuoted rest t after → (t : List ℕ) × (text ≡ out ++ t) × IsDoubleQuoted (piece ++ rest) t after
    of_found (t, is, w) = (
      bytes ++ t,
      is ∙ append_assoc out bytes t,
      record {
        spelling = piece ++ w.spelling;
        spelled = spelled_more piece bytes w.spelling t p w.spelled;
        kept = all_joined piece w.spelling k w.kept;
        whole = ap (λ xs. piece ++ xs) w.whole ∙ sym (append_assoc piece w.spelling (34 ∷ after));
      },
    )

none_found : (whole out : List ℕ) (cause : YamlCause) → Found whole (Err cause) out
none_found whole out cause text after e = absurd (let h : Err cause ≡ read_ok text after = e in cc)

pub double_found : (rest text after : List ℕ) → double_from Outside [] rest ≡ Ok (text, after) → IsDoubleQuoted rest text after
double_found rest text after e =
    of_found (along Found (λ state front out at. none_found front out (LeftOut LongQuote)) closed_found (λ state front c cs out at h. none_found (front ++ c ∷ cs) out Syntax)
    (λ c cs out k. none_found (c ∷ cs) out Syntax) more_found rest Outside [] [] outside text after e)
  where
    of_found : (t : List ℕ) × (text ≡ t) × IsDoubleQuoted rest t after → IsDoubleQuoted rest text after
    of_found (t, is, w) = subst (λ xs. IsDoubleQuoted rest xs after) (sym is) w
