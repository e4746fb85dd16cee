-- A match is read exactly where it is spelled.
use Rattle.std.proofs.Common.{◌≡◌, ℕ, ◌+◌, ◌-◌, ◌≤◌, Bool, true, false, eqb, ltb, List, [], ◌++◌, length, take, drop, replicate, Ok, refl, sym, ap, ◌∙◌, subst, arith}
use Rattle.std.proofs.lemmas.Bool.{le-ltb, eq-eqb}
use Rattle.std.proofs.lemmas.List.{length-drop, length-take-le, length-append, drop-take, take-take, drop-append-le, take-append-le, take_all, length-replicate}
use Rattle.net_base.specs.declared.field.Field.{Field}
use Rattle.of_wire.specs.declared.fault.PartFault.{PartFault}
use Rattle.of_wire.specs.declared.fault.PartCause.TheVariants.{Short, BadLength}
use Rattle.of_wire.specs.Numbers.{number_in}
use Rattle.of_wire.specs.Parts.{up_to_8}
use Rattle.of_wire.specs.Answers.{fault_at}
use Rattle.of_wire.specs.Reading.{many, past_end, padding_at, field_step, fields_at, sized_match_at, match_at}
use Rattle.of_wire.specs.Grammar.{◌▷◌, Number, Zeros, Joined}
use Rattle.of_wire.specs.Faults.{fields_of}
use Rattle.of_wire.specs.Spelling.{SpellsItem, SpellsAnyMatch}
use Rattle.of_wire.proofs.Grammars.{AreBytes, bytes_take, number_then, front_then, number_again, front_again, number_of_take, number_of_front}
use Rattle.of_wire.proofs.FieldOrder.{view}
use Rattle.of_wire.proofs.FieldLaws.{step_complete}
use Rattle.of_wire.proofs.Joining.{Parts, joined_read}
use Rattle.of_wire.proofs.Padding.{padding_complete}
use Rattle.of_wire.proofs.ActionLaws.{Front}

abbrev past_at : ℕ → ℕ → List ℕ → PartFault
past_at len at bytes = past_end len (length bytes) (fault_at (at + 2) BadLength) (fault_at (at + length bytes) Short)

abbrev region : ℕ → List ℕ → List ℕ
region len bytes = take (len - 4) (drop 4 bytes)

pub inner : (a n w : ℕ) (xs : List ℕ) → a + n ≤ w → take n (drop a (take w xs)) ≡ take n (drop a xs)
inner a n w xs h =
    let e : a + (w - a) ≡ w = omega arith in
    ap (take n) (ap (λ k. drop a (take k xs)) (sym e) ∙ drop-take a (w - a) xs) ∙ take-take n (w - a) (drop a xs) (omega arith)

pub outer : (a w : ℕ) (xs : List ℕ) → a ≤ w → drop a (take w xs) ≡ take (w - a) (drop a xs)
outer a w xs h =
    let e : a + (w - a) ≡ w = omega arith in
    ap (λ k. drop a (take k xs)) (sym e) ∙ drop-take a (w - a) xs

-- a number, a length, the bytes that it counts, and zeros up to a multiple of 8
pub padded_front : (kind len : ℕ) (Inside : List ℕ → Type 0) (bytes : List ℕ) → AreBytes bytes → number_in 0 2 bytes ≡ kind → number_in 2 2 bytes ≡ len → 4 ≤ len → up_to_8 len ≤ length bytes
    → take (up_to_8 len - len) (drop len bytes) ≡ replicate (up_to_8 len - len) 0 → Inside (take (len - 4) (drop 4 bytes)) → (Number 2 kind ▷ Number 2 len ▷ Inside ▷ Zeros (up_to_8 len - len)) (take (up_to_8 len) bytes)
padded_front kind len Inside bytes h kind_is len_is least room zeros inside =
    let up = up_to_8 len in
    let more : len ≤ up = omega arith in
    let xs = take up bytes in
    let hx = bytes_take up bytes h in
    let lx : length xs ≡ up = length-take-le up bytes room in
    let body : take (len - 4) (drop 4 xs) ≡ take (len - 4) (drop 4 bytes) = inner 4 (len - 4) up bytes (omega arith) in
    let whole_len : 4 + (len - 4) ≡ len = omega arith in
    let tail : drop (4 + (len - 4)) xs ≡ replicate (up - len) 0 = ap (λ k. drop k xs) whole_len ∙ outer len up bytes more ∙ zeros in
    number_then 0 2 kind (Number 2 len ▷ Inside ▷ Zeros (up - len)) xs hx (omega arith) (number_of_take 0 2 up bytes (omega arith) room ∙ kind_is) (
    number_then 2 2 len (Inside ▷ Zeros (up - len)) xs hx (omega arith) (number_of_take 2 2 up bytes (omega arith) room ∙ len_is) (
    front_then Inside (Zeros (up - len)) 4 (len - 4) xs (subst Inside (sym body) inside) tail))

pub match_front : (strict : Bool) (fields : List Field) (bytes : List ℕ) → AreBytes bytes → number_in 0 2 bytes ≡ 1 → 4 ≤ number_in 2 2 bytes → Parts (SpellsItem strict) view [] (fields_of bytes) fields
    → up_to_8 (number_in 2 2 bytes) ≤ length bytes
    → take (up_to_8 (number_in 2 2 bytes) - number_in 2 2 bytes) (drop (number_in 2 2 bytes) bytes) ≡ replicate (up_to_8 (number_in 2 2 bytes) - number_in 2 2 bytes) 0
    → Front (SpellsAnyMatch strict fields) (up_to_8 (number_in 2 2 bytes)) bytes
match_front strict fields bytes h kind least parts room zeros =
    let len = number_in 2 2 bytes in
    let more : len ≤ up_to_8 len = omega arith in
    let size : 4 + length (fields_of bytes) ≡ len = omega (arith, length-take-le (len - 4) (drop 4 bytes) (omega (arith, length-drop 4 bytes))) in
    record {
      room = room;
      some = omega arith;
      spelled = record {
        items = parts.all;
        len = len;
        parts = padded_front 1 len (λ body. (4 + length body ≡ len) × Joined (SpellsItem strict) [] parts.all body) bytes h kind refl least room zeros (size, parts.joined);
        sorted = parts.seen;
      };
    }

pub match_complete : (strict : Bool) (at : ℕ) (fields : List Field) (first rest : List ℕ) → SpellsAnyMatch strict fields first → match_at strict at (first ++ rest) ≡ Ok (fields, length first)
unfolding match_at sized_match_at fields_at
match_complete strict at fields first rest p =
    let bytes = first ++ rest in
    let len = p.len in
    let up = up_to_8 len in
    let a = number_again 0 2 1 _ first p.parts in
    let b = number_again 2 2 len _ first a.behind in
    let c = b.behind in
    let inside = c.in_front in
    let d = front_again (λ body. (4 + length body ≡ len) × Joined (SpellsItem strict) [] p.items body) (Zeros (up - len)) 4 (len - 4) first c (omega (arith, inside.0)) in
    let more : len ≤ up = omega arith in
    let least : 4 ≤ len = omega (arith, inside.0) in
    let split : 4 + (len - 4) ≡ len = omega arith in
    let size : length first ≡ up = omega (arith, a.size, b.size, d.1, ap length d.2, length-replicate {A = ℕ} (up - len) 0) in
    let whole : length bytes ≡ length first + length rest = length-append first rest in
    let kind : number_in 0 2 bytes ≡ 1 = number_of_front 0 2 first rest (omega arith) ∙ a.value in
    let is_len : number_in 2 2 bytes ≡ len = number_of_front 2 2 first rest (omega arith) ∙ b.value in
    let long : ltb (length bytes) 4 ≡ false = le-ltb _ _ (omega arith) in
    let right : eqb (number_in 0 2 bytes) 1 ≡ true = eq-eqb _ _ kind in
    let enough : ltb len 4 ≡ false = le-ltb _ _ least in
    let same : region len bytes ≡ take (len - 4) (drop 4 first) = ap (take (len - 4)) (drop-append-le 4 first rest (omega arith)) ∙ take-append-le (len - 4) (drop 4 first) rest (omega (arith, length-drop 4 first)) in
    let joined : Joined (SpellsItem strict) [] p.items (region len bytes) = subst (λ xs. Joined (SpellsItem strict) [] p.items xs) (sym same) d.0.1 in
    let step = field_step strict (past_at len at bytes) in
    let read : many step (length (region len bytes)) [] (at + 4) (region len bytes) ≡ Ok fields =
    joined_read (SpellsItem strict) view step (step_complete strict (past_at len at bytes)) p.items (length (region len bytes)) [] (at + 4) (region len bytes) (omega arith) joined ∙ ap Ok (sym p.sorted) in
    let tail : take (up - len) (drop len bytes) ≡ replicate (up - len) 0 =
    ap (take (up - len)) (drop-append-le len first rest (omega arith)) ∙ take-append-le (up - len) (drop len first) rest (omega (arith, length-drop len first))
    ∙ take_all (up - len) (drop len first) (omega (arith, length-drop len first)) ∙ ap (λ k. drop k first) (sym split) ∙ d.2 in
    let pad : padding_at (fault_at (at + length bytes) Short) at len up bytes ≡ Ok up = padding_complete (fault_at (at + length bytes) Short) at len up bytes more (omega arith) tail in
    let out : up ≡ length first = sym size in
    rw (long, right, is_len, enough, read, pad, out) refl
