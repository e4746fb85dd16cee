-- Segments of an AS_PATH at the front of bytes.
use Rattle.std.proofs.Common.{◌≡◌, true, false, ℕ, zero, suc, ◌+◌, ◌*◌, ◌≤◌, ◌<◌, List, [], ◌∷◌, ◌++◌, length, take, drop, refl, sym, ap, ap₂, ◌∙◌, arith, length-append, length-drop, add-one}
use Rattle.std.specs.List.{flat_map}
use Rattle.std.proofs.lemmas.List.{length-take-le, take-append-drop, drop-append-le, append-nil}
use Rattle.std.proofs.lemmas.List.Concat.{flat_map-append}
use Rattle.bgp_messages.specs.Numbers.{number_in}
use Rattle.bgp_messages.specs.Grammar.{Begins, BeginsNone}
use Rattle.bgp_messages.specs.Paths.{is_known, numbers_in, Segment, SpellsSegment, SpellsPath, segment_in}
use Rattle.bgp_messages.proofs.Numbers.{number_of_front, number_of_take, number_behind, same_number, same_front}
use Rattle.bgp_messages.proofs.Joining.{Alone, HasBytes, Left, joined_once, goes, done, stuck}

-- ---- numbers of two bytes

pub numbers_length : (n : ℕ) (bytes : List ℕ) → length (numbers_in n bytes) ≡ n
numbers_length zero bytes = refl
numbers_length (suc n) bytes = omega (arith, numbers_length n (drop 2 bytes))

numbers_front : (n : ℕ) (xs ys : List ℕ) → 2 * n ≤ length xs → numbers_in n (xs ++ ys) ≡ numbers_in n xs
numbers_front zero xs ys h = refl
numbers_front (suc n) xs ys h =
    ap₂ (λ (x : ℕ) (l : List ℕ). x ∷ l) (number_of_front 0 2 xs ys (omega arith))
    (ap (numbers_in n) (drop-append-le 2 xs ys (omega arith)) ∙ numbers_front n (drop 2 xs) ys (omega (arith, length-drop 2 xs)))

pub numbers_more : (i : ℕ) (bytes : List ℕ) → numbers_in (i + 1) bytes ≡ numbers_in i bytes ++ number_in (2 * i) 2 bytes ∷ []
numbers_more zero bytes = refl
numbers_more (suc i) bytes =
    let place : 2 + 2 * i ≡ 2 * suc i = omega arith in
    ap (λ n. numbers_in n bytes) (add-one (suc i)) ∙ ap (λ l. number_in 0 2 bytes ∷ l)
    (ap (λ n. numbers_in n (drop 2 bytes)) (sym (add-one i)) ∙ numbers_more i (drop 2 bytes)
    ∙ ap (λ x. numbers_in i (drop 2 bytes) ++ x ∷ []) (number_behind (2 * i) 2 2 bytes ∙ ap (λ n. number_in n 2 bytes) place))

-- ---- one segment

pub segment_bytes : HasBytes SpellsSegment
segment_bytes x f s = omega (arith, s.size)

pub segment_alone : Alone SpellsSegment
segment_alone x y f g a b s t e =
    let count : length x.numbers ≡ length y.numbers = sym s.count ∙ same_number 1 1 f g a b (omega (arith, s.size)) (omega (arith, t.size)) e ∙ t.count in
    let same = same_front f g a b (s.size ∙ ap (λ n. 2 + 2 * n) count ∙ sym t.size) e in
    let kind : x.kind ≡ y.kind = sym s.kind ∙ ap (number_in 0 1) same.0 ∙ t.kind in
    let numbers : x.numbers ≡ y.numbers = s.numbers ∙ ap (λ n. numbers_in n (drop 2 f)) count ∙ ap (λ l. numbers_in (length y.numbers) (drop 2 l)) same.0 ∙ sym t.numbers in
    ((λ i. record { kind = kind i; numbers = numbers i }), same.1)

pub path_once : (value : List ℕ) (a b : List ℕ) → SpellsPath a value → SpellsPath b value → a ≡ b
path_once value a b p q =
    p.all ∙ ap (flat_map (λ (s : Segment). s.numbers)) (joined_once SpellsSegment segment_alone segment_bytes p.segments q.segments value p.joined q.joined) ∙ sym q.all

-- ---- reading one

pub segment_begins : (n : ℕ) (bytes : List ℕ) → is_known (number_in 0 1 bytes) ≡ true → number_in 1 1 bytes ≡ n → 1 ≤ n → 2 + 2 * n ≤ length bytes
    → Begins (SpellsSegment (segment_in n bytes)) (2 + 2 * n) bytes
segment_begins n bytes known count some within =
    let m = 2 + 2 * n in
    let front : length (take m bytes) ≡ m = length-take-le m bytes within in
    let behind : drop 2 bytes ≡ drop 2 (take m bytes) ++ drop m bytes = ap (drop 2) (sym (take-append-drop m bytes)) ∙ drop-append-le 2 (take m bytes) (drop m bytes) (omega (arith, front)) in
    let size = numbers_length n (drop 2 bytes) in
    let numbers : numbers_in n (drop 2 bytes) ≡ numbers_in n (drop 2 (take m bytes)) =
    ap (numbers_in n) behind ∙ numbers_front n (drop 2 (take m bytes)) (drop m bytes) (omega (arith, front, length-drop 2 (take m bytes))) in
    record {
      some = omega arith;
      within = within;
      spelled = record {
        kind = number_of_take 0 1 m bytes (omega arith) within;
        known = known;
        count = number_of_take 1 1 m bytes (omega arith) within ∙ count ∙ sym size;
        some = omega (arith, size);
        size = front ∙ ap (λ k. 2 + 2 * k) (sym size);
        numbers = numbers ∙ ap (λ k. numbers_in k (drop 2 (take m bytes))) (sym size);
      };
    }

at_front : (at : ℕ) (bytes : List ℕ) (s : Segment) (f rest : List ℕ) → at < 2 → SpellsSegment s f → bytes ≡ f ++ rest → number_in at 1 bytes ≡ number_in at 1 f
at_front at bytes s f rest h p e = ap (number_in at 1) e ∙ number_of_front at 1 f rest (omega (arith, p.size))

pub segment_headless : (bytes : List ℕ) → length bytes < 2 → BeginsNone SpellsSegment bytes
segment_headless bytes h s f rest p e = omega (arith, h, p.size, ap length e, length-append f rest)

pub segment_unknown : (bytes : List ℕ) → is_known (number_in 0 1 bytes) ≡ false → BeginsNone SpellsSegment bytes
segment_unknown bytes unknown s f rest p e =
    let kind : number_in 0 1 bytes ≡ s.kind = at_front 0 bytes s f rest (omega arith) p e ∙ p.kind in
    let both : false ≡ true = sym unknown ∙ ap is_known kind ∙ p.known in
    cc

pub segment_empty : (bytes : List ℕ) → number_in 1 1 bytes ≡ 0 → BeginsNone SpellsSegment bytes
segment_empty bytes h s f rest p e = omega (arith, h, p.some, at_front 1 bytes s f rest (omega arith) p e, p.count)

pub segment_cut : (bytes : List ℕ) → length bytes < 2 + 2 * number_in 1 1 bytes → BeginsNone SpellsSegment bytes
segment_cut bytes h s f rest p e = omega (arith, h, p.size, at_front 1 bytes s f rest (omega arith) p e, p.count, ap length e, length-append f rest)

-- ---- reading a path

-- the numbers of what was read so far
pub record Reads (value : List ℕ) (numbers : List ℕ) (rest : List ℕ) : Type 0 where
  pub segments : List Segment
  pub left : Left SpellsSegment value segments rest
  pub all : numbers ≡ flat_map (λ s. s.numbers) segments

pub reads_more : (value numbers more rest : List ℕ) (n : ℕ) → Begins (SpellsSegment (segment_in n rest)) (2 + 2 * n) rest → more ≡ numbers ++ numbers_in n (drop 2 rest)
    → Reads value numbers rest → Reads value more (drop (2 + 2 * n) rest)
reads_more value numbers more rest n b is reads =
    let s = segment_in n rest in record {
      segments = reads.segments ++ s ∷ [];
      left = goes SpellsSegment segment_alone value reads.segments rest s (2 + 2 * n) b reads.left;
      all = is ∙ ap (λ l. l ++ numbers_in n (drop 2 rest)) reads.all ∙ ap (λ l. flat_map (λ (s : Segment). s.numbers) reads.segments ++ l) (sym (append-nil (numbers_in n (drop 2 rest))))
          ∙ sym (flat_map-append (λ (s : Segment). s.numbers) reads.segments (s ∷ []));
    }

pub reads_all : (value numbers rest : List ℕ) → length rest ≡ 0 → Reads value numbers rest → SpellsPath numbers value
reads_all value numbers rest e reads = record { segments = reads.segments; joined = done SpellsSegment value reads.segments rest e reads.left; all = reads.all }

pub reads_none : (value numbers rest : List ℕ) → 0 < length rest → BeginsNone SpellsSegment rest → Reads value numbers rest → (others : List ℕ) → SpellsPath others value → ⊥
reads_none value numbers rest some none reads others p = stuck SpellsSegment value reads.segments rest some none reads.left p.segments p.joined
