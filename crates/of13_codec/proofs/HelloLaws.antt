-- The body of a HELLO is read exactly where it is spelled.
use Rattle.std.proofs.Common.{◌≡◌, ℕ, ◌+◌, ◌-◌, ◌≤◌, true, false, ◌&&◌, ◌||◌, eqb, ltb, List, [], ◌∷◌, ◌++◌, length, take, drop, replicate, Option, Some, None, Ok, refl, sym, ap, ◌∙◌, arith, inl, inr}
use Rattle.std.proofs.lemmas.Bool.{le-ltb, eq-eqb, ne_eqb, or_from, and_left, and_right, cases_eq}
use Rattle.std.proofs.lemmas.List.{length-drop, length-take-le, length-append, take-append-drop, take-append-le, take_all, drop-append-le, length-replicate}
use Rattle.of_wire.specs.declared.fault.PartFault.{PartFault}
use Rattle.of_wire.specs.Numbers.{number_in}
use Rattle.of_wire.specs.Parts.{up_to_8}
use Rattle.of_wire.specs.Reading.{many, padding_at}
use Rattle.of_wire.specs.Grammar.{Zeros}
use Rattle.of_wire.proofs.Grammars.{AreBytes, number_again, front_again, number_of_front, number_of_take, number_at_drop}
use Rattle.of_wire.proofs.Padding.{padding_complete}
use Rattle.of_wire.proofs.MatchLaws.{padded_front}
use Rattle.of_wire.proofs.Joining.{Part, IsRead, joined_read}
use Rattle.of13_codec.specs.declared.message.Message.TheVariants.{Hello}
use Rattle.of13_codec.specs.Decoding.{short, first_bitmap, element_at, hello_step, hello_at}
use Rattle.of13_codec.specs.Faults.{EachElement}
use Rattle.of13_codec.specs.Spelling.{Raw, Element, SpellsElement, SpellsHello, bitmap_of}

-- ---- the bitmap so far

kept : (o : Option ℕ) (e : Element) → Option ℕ
kept (Some b) e = Some b
kept None e = bitmap_of (e ∷ [])

bitmap_push : (before : List Element) (e : Element) → bitmap_of (before ++ e ∷ []) ≡ kept (bitmap_of before) e
unfolding kept
bitmap_push [] e = refl
bitmap_push (g ∷ before) e = elim (cases_eq g.kind 1) [
  | inl is_one ↦ let t : eqb g.kind 1 ≡ true = eq-eqb _ _ is_one in rw t refl
  | inr not_one ↦ let t : eqb g.kind 1 ≡ false = ne_eqb _ _ not_one in rw t (bitmap_push before e)
]

first_is_kept : (o : Option ℕ) (e : Element) (bytes : List ℕ) → (e.kind ≡ 1 → number_in 4 4 bytes ≡ number_in 0 4 e.content) → first_bitmap o e.kind bytes ≡ kept o e
unfolding kept
first_is_kept (Some b) e bytes h = refl
first_is_kept None e bytes h = elim (cases_eq e.kind 1) [
  | inl is_one ↦ let t : eqb e.kind 1 ≡ true = eq-eqb _ _ is_one in let n = h is_one in rw (t, n) refl
  | inr not_one ↦ let t : eqb e.kind 1 ≡ false = ne_eqb _ _ not_one in rw t refl
]

first_is : (before : List Element) (e : Element) (bytes : List ℕ) → (e.kind ≡ 1 → number_in 4 4 bytes ≡ number_in 0 4 e.content) → first_bitmap (bitmap_of before) e.kind bytes ≡ bitmap_of (before ++ e ∷ [])
first_is before e bytes h = first_is_kept (bitmap_of before) e bytes h ∙ sym (bitmap_push before e)

inside : (len : ℕ) (bytes : List ℕ) → 8 ≤ len → len ≤ length bytes → number_in 4 4 bytes ≡ number_in 0 4 (take (len - 4) (drop 4 bytes))
inside len bytes h k = number_at_drop 4 4 bytes ∙ sym (number_of_take 0 4 (len - 4) (drop 4 bytes) (omega arith) (omega (arith, length-drop 4 bytes)))

pub element_part : (before : List Element) (bytes : List ℕ) → AreBytes bytes → 4 ≤ number_in 2 2 bytes → (number_in 0 2 bytes ≡ 1 → 8 ≤ number_in 2 2 bytes) → up_to_8 (number_in 2 2 bytes) ≤ length bytes
    → take (up_to_8 (number_in 2 2 bytes) - number_in 2 2 bytes) (drop (number_in 2 2 bytes) bytes) ≡ replicate (up_to_8 (number_in 2 2 bytes) - number_in 2 2 bytes) 0
    → Part EachElement bitmap_of before bytes (first_bitmap (bitmap_of before) (number_in 0 2 bytes) bytes, up_to_8 (number_in 2 2 bytes))
element_part before bytes h least eight room zeros =
    let len = number_in 2 2 bytes in
    let more : len ≤ up_to_8 len = omega arith in
    let lx : length (take (up_to_8 len) bytes) ≡ up_to_8 len = length-take-le (up_to_8 len) bytes room in
    let content = take (len - 4) (drop 4 bytes) in
    let size : length content ≡ len - 4 = length-take-le (len - 4) (drop 4 bytes) (omega (arith, length-drop 4 bytes)) in
    let element : Element = record { kind = number_in 0 2 bytes; content = content } in
    record {
      part = element;
      parts = record {
        first = take (up_to_8 len) bytes;
        rest = drop (up_to_8 len) bytes;
        whole = sym (take-append-drop (up_to_8 len) bytes);
        in_front = record { len = len; parts = padded_front element.kind len (Raw (len - 4) content) bytes h refl refl least room zeros (size, refl); head = least; bitmap = eight };
        behind = omega arith;
      };
      size = lx;
      seen = first_is before element bytes (λ one. inside len bytes (eight one) (omega arith));
    }

pub step_complete : (past : PartFault) (before : List Element) (el : Element) (at : ℕ) (first rest : List ℕ) → SpellsElement el first → IsRead bitmap_of (hello_step past) before el at first rest
unfolding hello_step element_at
step_complete past before el at first rest p =
    let bytes = first ++ rest in
    let len = p.len in
    let up = up_to_8 len in
    let a = number_again 0 2 el.kind _ first p.parts in
    let b = number_again 2 2 len _ first a.behind in
    let c = b.behind in
    let d = front_again (Raw (len - 4) el.content) (Zeros (up - len)) 4 (len - 4) first c c.in_front.0 in
    let head = p.head in
    let more : len ≤ up = omega arith in
    let split : 4 + (len - 4) ≡ len = omega arith in
    let size : length first ≡ up = omega (arith, a.size, b.size, d.1, ap length d.2, length-replicate {A = ℕ} (up - len) 0) in
    let whole : length bytes ≡ length first + length rest = length-append first rest in
    let kind : number_in 0 2 bytes ≡ el.kind = number_of_front 0 2 first rest (omega arith) ∙ a.value in
    let is_len : number_in 2 2 bytes ≡ len = number_of_front 2 2 first rest (omega arith) ∙ b.value in
    let long : ltb (length bytes) 4 ≡ false = le-ltb _ _ (omega arith) in
    let small : ltb len 4 ≡ false = le-ltb _ _ head in
    let bitmap : (eqb el.kind 1 && ltb len 8) ≡ false = elim (cases_eq el.kind 1) [
      | inl is_one ↦ and_right _ _ (le-ltb _ _ (p.bitmap is_one))
      | inr not_one ↦ and_left _ _ (ne_eqb _ _ not_one)
    ] in
    let right : (ltb len 4 || (eqb el.kind 1 && ltb len 8)) ≡ false = or_from _ _ small bitmap in
    let tail : take (up - len) (drop len bytes) ≡ replicate (up - len) 0 =
    ap (take (up - len)) (drop-append-le len first rest (omega arith)) ∙ take-append-le (up - len) (drop len first) rest (omega (arith, length-drop len first))
    ∙ take_all (up - len) (drop len first) (omega (arith, length-drop len first)) ∙ ap (λ k. drop k first) (sym split) ∙ d.2 in
    let pad : padding_at past at len up bytes ≡ Ok up = padding_complete past at len up bytes more (omega arith) tail in
    let content : take (len - 4) (drop 4 bytes) ≡ el.content =
    ap (take (len - 4)) (drop-append-le 4 first rest (omega arith)) ∙ take-append-le (len - 4) (drop 4 first) rest (omega (arith, length-drop 4 first)) ∙ d.0.1 in
    let seen : first_bitmap (bitmap_of before) el.kind bytes ≡ bitmap_of (before ++ el ∷ []) =
    first_is before el bytes (λ one. inside len bytes (p.bitmap one) (omega arith) ∙ ap (number_in 0 4) content) in
    let out : up ≡ length first = sym size in
    record { read = rw (long, kind, is_len, right, pad, seen, out) refl; some = omega arith }

pub hello_complete : (version : ℕ) (bitmap : Option ℕ) (body : List ℕ) → SpellsHello bitmap body → hello_at version body ≡ Ok (Hello version bitmap)
unfolding hello_at
hello_complete version bitmap body p =
    let read : many (hello_step (short body)) (length body) None 8 body ≡ Ok bitmap =
    joined_read EachElement bitmap_of (hello_step (short body)) (step_complete (short body)) p.elements (length body) [] 8 body (omega arith) p.parts ∙ ap Ok (sym p.first) in
    rw read refl
