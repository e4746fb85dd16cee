-- Fields of a match are read exactly where they are spelled.
use Rattle.std.proofs.Common.{◌≡◌, ℕ, ◌+◌, ◌*◌, ◌/◌, ◌%◌, ◌==◌, ◌≤◌, Bool, true, false, not, ◌&&◌, eqb, ltb, List, ◌++◌, length, take, drop, Option, Some, None, Ok, refl, sym, ap, ◌∙◌, subst, arith, inl, inr}
use Rattle.std.proofs.lemmas.Bool.{eqb-true, eqb-false, le-ltb, eq-eqb, ne_eqb, cases_Bool}
use Rattle.std.proofs.lemmas.List.{length-drop, length-take-le, length-append, take-append-drop}
use Rattle.net_base.specs.declared.field.Field.{Field}
use Rattle.net_base.specs.declared.field.FieldId.{FieldId}
use Rattle.net_base.specs.FieldId.{number_of, byte_len_of, all_ones}
use Rattle.net_base.specs.WellFormed.{has_prerequisite}
use Rattle.net_base.proofs.Rows.{one_byte}
use Rattle.of_wire.specs.declared.fault.PartFault.{PartFault}
use Rattle.of_wire.specs.Grammar.{◌▷◌, Number}
use Rattle.of_wire.specs.Numbers.{number_in}
use Rattle.of_wire.specs.Reading.{field_named, has_mask, payload_len, wanted_len, field_value, known_field, known_step, unknown_step, field_step}
use Rattle.of_wire.specs.Spelling.{stands, placed, SpellsPlain, SpellsMasked, SpellsField, SpellsUnknown, SpellsItem, MayStand, known}
use Rattle.of_wire.proofs.Grammars.{AreBytes, bytes_take, has_number, number_then, number_again, number_ends, number_of_take, number_of_front}
use Rattle.of_wire.proofs.FieldNames.{named, named_again, unnamed, unnamed_again}
use Rattle.of_wire.proofs.FieldOrder.{view, view_some, view_none, stands_in_order, prerequisites_in_order}
use Rattle.of_wire.proofs.Joining.{Part, IsRead}

-- ---- a field that is read is spelled

plain_parts : (id : FieldId) (v : ℕ) (xs : List ℕ) → AreBytes xs → length xs ≡ 4 + byte_len_of id → number_in 0 2 xs ≡ 0x8000 → number_in 2 1 xs ≡ 2 * number_of id
    → number_in 3 1 xs ≡ byte_len_of id → number_in 4 (byte_len_of id) xs ≡ v → SpellsPlain (record { id = id; value = v; mask = all_ones id }) xs
plain_parts id v xs h len c k l e = record {
  parts =
      number_then 0 2 0x8000 _ xs h (omega arith) c (
      number_then 2 1 (2 * number_of id) _ xs h (omega arith) k (
      number_then 3 1 (byte_len_of id) _ xs h (omega arith) l (
      has_number 4 (byte_len_of id) v xs h (sym len) e)));
  whole_mask = refl;
}

masked_parts : (id : FieldId) (v m : ℕ) (xs : List ℕ) → AreBytes xs → length xs ≡ 4 + 2 * byte_len_of id → number_in 0 2 xs ≡ 0x8000 → number_in 2 1 xs ≡ 2 * number_of id + 1
    → number_in 3 1 xs ≡ 2 * byte_len_of id → number_in 4 (byte_len_of id) xs ≡ v → number_in (4 + byte_len_of id) (byte_len_of id) xs ≡ m
    → SpellsMasked (record { id = id; value = v; mask = m }) xs
masked_parts id v m xs h len c k l e g =
    number_then 0 2 0x8000 _ xs h (omega arith) c (
    number_then 2 1 (2 * number_of id + 1) _ xs h (omega arith) k (
    number_then 3 1 (2 * byte_len_of id) _ xs h (omega arith) l (
    number_then 4 (byte_len_of id) v _ xs h (omega arith) e (
    has_number (4 + byte_len_of id) (byte_len_of id) m xs h (omega arith) g))))

pub plain_sound : (id : FieldId) (bytes : List ℕ) → AreBytes bytes → field_named bytes ≡ Some id → has_mask bytes ≡ false → payload_len bytes ≡ byte_len_of id → 4 + byte_len_of id ≤ length bytes
    → SpellsPlain (field_value id bytes) (take (4 + byte_len_of id) bytes)
unfolding field_value
plain_sound id bytes h name flag len room =
    let n = named bytes id name in
    let xs = take (4 + byte_len_of id) bytes in
    let w = 4 + byte_len_of id in
    let one = one_byte id in
    let odd : number_in 2 1 bytes % 2 ≡ 1 → ⊥ = eqb-false _ _ flag in
    rw flag (plain_parts id (number_in 4 (byte_len_of id) bytes) xs (bytes_take w bytes h) (length-take-le w bytes room)
    (number_of_take 0 2 w bytes (omega arith) room ∙ n.0)
    (number_of_take 2 1 w bytes (omega arith) room ∙ omega (arith, n.1))
    (number_of_take 3 1 w bytes (omega arith) room ∙ len)
    (number_of_take 4 (byte_len_of id) w bytes (omega arith) room))

pub masked_sound : (id : FieldId) (bytes : List ℕ) → AreBytes bytes → field_named bytes ≡ Some id → has_mask bytes ≡ true → payload_len bytes ≡ 2 * byte_len_of id → 4 + 2 * byte_len_of id ≤ length bytes
    → SpellsMasked (field_value id bytes) (take (4 + 2 * byte_len_of id) bytes)
unfolding field_value
masked_sound id bytes h name flag len room =
    let n = named bytes id name in
    let xs = take (4 + 2 * byte_len_of id) bytes in
    let w = 4 + 2 * byte_len_of id in
    let one = one_byte id in
    let odd : number_in 2 1 bytes % 2 ≡ 1 = eqb-true _ _ flag in
    rw flag (masked_parts id (number_in 4 (byte_len_of id) bytes) (number_in (4 + byte_len_of id) (byte_len_of id) bytes) xs (bytes_take w bytes h) (length-take-le w bytes room)
    (number_of_take 0 2 w bytes (omega arith) room ∙ n.0)
    (number_of_take 2 1 w bytes (omega arith) room ∙ omega (arith, n.1))
    (number_of_take 3 1 w bytes (omega arith) room ∙ len)
    (number_of_take 4 (byte_len_of id) w bytes (omega arith) room)
    (number_of_take (4 + byte_len_of id) (byte_len_of id) w bytes (omega arith) room))

field_sound : (id : FieldId) (bytes : List ℕ) → AreBytes bytes → field_named bytes ≡ Some id → payload_len bytes ≡ wanted_len id (has_mask bytes) → 4 + payload_len bytes ≤ length bytes
    → SpellsField (field_value id bytes) (take (4 + payload_len bytes) bytes)
field_sound id bytes h name len room = elim (cases_Bool (has_mask bytes)) [
  | inl t ↦
      let l : payload_len bytes ≡ 2 * byte_len_of id = len ∙ rw t refl in
      inr (subst (λ n. SpellsMasked (field_value id bytes) (take (4 + n) bytes)) (sym l) (masked_sound id bytes h name t l (omega arith)))
  | inr t ↦
      let l : payload_len bytes ≡ byte_len_of id = len ∙ rw t refl in
      inl (subst (λ n. SpellsPlain (field_value id bytes) (take (4 + n) bytes)) (sym l) (plain_sound id bytes h name t l (omega arith)))
]

-- ---- a field that is spelled is read again

pub record FieldAgain (f : Field) (masked : Bool) (bytes : List ℕ) (size : ℕ) : Type 0 where
  pub name : field_named bytes ≡ Some f.id
  pub flag : has_mask bytes ≡ masked
  pub len : payload_len bytes ≡ wanted_len f.id masked
  pub room : 4 + wanted_len f.id masked ≤ length bytes
  pub size_is : size ≡ 4 + wanted_len f.id masked
  pub value : field_value f.id bytes ≡ f

-- its class, its number with the mask flag, and its length
record HeadAgain (id : FieldId) (masked : Bool) (back : List ℕ → Type 0) (first bytes : List ℕ) : Type 0 where
  pub name : field_named bytes ≡ Some id
  pub flag : has_mask bytes ≡ masked
  pub len : payload_len bytes ≡ wanted_len id masked
  pub size : length first ≡ 4 + length (drop 4 first)
  pub behind : back (drop 4 first)

head_again : (id : FieldId) (masked : Bool) (head : ℕ) (back : List ℕ → Type 0) (first rest : List ℕ) → head / 2 ≡ number_of id → (head % 2 == 1) ≡ masked
    → (Number 2 0x8000 ▷ Number 1 head ▷ Number 1 (wanted_len id masked) ▷ back) first → HeadAgain id masked back first (first ++ rest)
head_again id masked head back first rest half odd p =
    let a = number_again 0 2 0x8000 (Number 1 head ▷ Number 1 (wanted_len id masked) ▷ back) first p in
    let b = number_again 2 1 head (Number 1 (wanted_len id masked) ▷ back) first a.behind in
    let c = number_again 3 1 (wanted_len id masked) back first b.behind in
    let size : length first ≡ 4 + length (drop 4 first) = omega (arith, a.size, b.size, c.size) in
    let is : number_in 2 1 (first ++ rest) ≡ head = number_of_front 2 1 first rest (omega arith) ∙ b.value in
    record {
      name = named_again (first ++ rest) id (number_of_front 0 2 first rest (omega arith) ∙ a.value) (ap (λ n. n / 2) is ∙ half);
      flag = ap (λ n. n % 2 == 1) is ∙ odd;
      len = number_of_front 3 1 first rest (omega arith) ∙ c.value;
      size = size;
      behind = c.behind;
    }

with_value : (f : Field) (masked : Bool) (back : List ℕ → Type 0) (first rest : List ℕ) → HeadAgain f.id masked back first (first ++ rest) → length (drop 4 first) ≡ wanted_len f.id masked
    → field_value f.id (first ++ rest) ≡ f → FieldAgain f masked (first ++ rest) (length first)
with_value f masked back first rest h long value =
    let size : length first ≡ 4 + wanted_len f.id masked = h.size ∙ ap (λ n. 4 + n) long in
    record { name = h.name; flag = h.flag; len = h.len; room = omega (arith, size, length-append first rest); size_is = size; value = value }

pub plain_again : (f : Field) (first rest : List ℕ) → SpellsPlain f first → FieldAgain f false (first ++ rest) (length first)
unfolding field_value
plain_again f first rest p =
    let n = byte_len_of f.id in
    let h = head_again f.id false (2 * number_of f.id) (Number n f.value) first rest (omega arith) (ne_eqb _ _ (λ e. omega (arith, e))) p.parts in
    let d = number_ends 4 n f.value first h.behind in
    let v : number_in 4 n (first ++ rest) ≡ f.value = number_of_front 4 n first rest (omega (arith, h.size, d.1)) ∙ d.0 in
    let flag = h.flag in
    let m = p.whole_mask in
    with_value f false (Number n f.value) first rest h d.1 (rw (flag, v, sym m) refl)

pub masked_again : (f : Field) (first rest : List ℕ) → SpellsMasked f first → FieldAgain f true (first ++ rest) (length first)
unfolding field_value
masked_again f first rest p =
    let n = byte_len_of f.id in
    let h = head_again f.id true (2 * number_of f.id + 1) (Number n f.value ▷ Number n f.mask) first rest (omega arith) (eq-eqb _ _ (omega arith)) p in
    let d = number_again 4 n f.value (Number n f.mask) first h.behind in
    let e = number_ends (4 + n) n f.mask first d.behind in
    let long : length (drop 4 first) ≡ 2 * n = omega (arith, d.size, e.1) in
    let v : number_in 4 n (first ++ rest) ≡ f.value = number_of_front 4 n first rest (omega (arith, h.size)) ∙ d.value in
    let m : number_in (4 + n) n (first ++ rest) ≡ f.mask = number_of_front (4 + n) n first rest (omega (arith, h.size)) ∙ e.0 in
    let flag = h.flag in
    with_value f true (Number n f.value ▷ Number n f.mask) first rest h long (rw (flag, v, m) refl)

-- ---- a known field among others

pub known_part : (strict : Bool) (id : FieldId) (before : List (Option Field)) (bytes : List ℕ) → AreBytes bytes → field_named bytes ≡ Some id → MayStand strict (known before) (field_value id bytes)
    → payload_len bytes ≡ wanted_len id (has_mask bytes) → 4 + payload_len bytes ≤ length bytes → Part (SpellsItem strict) view before bytes (placed (field_value id bytes) (view before), 4 + payload_len bytes)
known_part strict id before bytes h name may len room =
    let f = field_value id bytes in
    let n = 4 + payload_len bytes in
    record {
      part = Some f;
      parts = record { first = take n bytes; rest = drop n bytes; whole = sym (take-append-drop n bytes); in_front = (field_sound id bytes h name len room, may); behind = omega arith };
      size = length-take-le n bytes room;
      seen = sym (view_some before f);
    }

pub unknown_part : (strict : Bool) (before : List (Option Field)) (bytes : List ℕ) → AreBytes bytes → field_named bytes ≡ None → strict ≡ false → 4 + payload_len bytes ≤ length bytes
    → Part (SpellsItem strict) view before bytes (view before, 4 + payload_len bytes)
unknown_part strict before bytes h name lax room =
    let n = 4 + payload_len bytes in
    let xs = take n bytes in
    let hx = bytes_take n bytes h in
    let size : length xs ≡ n = length-take-le n bytes room in
    let spelled : SpellsUnknown xs = record {
      class = number_in 0 2 bytes;
      head = number_in 2 1 bytes;
      len = payload_len bytes;
      parts =
          number_then 0 2 (number_in 0 2 bytes) _ xs hx (omega arith) (number_of_take 0 2 n bytes (omega arith) room) (
          number_then 2 1 (number_in 2 1 bytes) _ xs hx (omega arith) (number_of_take 2 1 n bytes (omega arith) room) (
          number_then 3 1 (payload_len bytes) _ xs hx (omega arith) (number_of_take 3 1 n bytes (omega arith) room) (
          omega (arith, length-drop 4 xs))));
      unknown = λ id c k. unnamed bytes id name c k;
    } in
    record {
      part = None;
      parts = record { first = xs; rest = drop n bytes; whole = sym (take-append-drop n bytes); in_front = (spelled, lax); behind = omega arith };
      size = size;
      seen = sym (view_none before);
    }

known_complete : (strict masked : Bool) (past : PartFault) (before : List (Option Field)) (f : Field) (at : ℕ) (first rest : List ℕ)
    → FieldAgain f masked (first ++ rest) (length first) → MayStand strict (known before) f
    → field_step strict past (view before) at (first ++ rest) ≡ Ok (placed f (view before), length first)
unfolding field_step known_step known_field
known_complete strict masked past before f at first rest g may =
    let bytes = first ++ rest in
    let fs = view before in
    let long : ltb (length bytes) 4 ≡ false = le-ltb _ _ (omega (arith, g.room)) in
    let name = g.name in let value = g.value in let flag = g.flag in
    let once : stands f.id fs ≡ false = stands_in_order f.id (known before) ∙ may.once in
    let met : (strict && not (has_prerequisite f.id fs)) ≡ false = met_or_lax strict (has_prerequisite f.id fs) (λ t. prerequisites_in_order f.id (known before) ∙ may.prerequisites t) in
    let len : payload_len bytes ≡ wanted_len f.id (has_mask bytes) = g.len ∙ ap (wanted_len f.id) (sym flag) in
    let same : eqb (payload_len bytes) (wanted_len f.id (has_mask bytes)) ≡ true = eq-eqb _ _ len in
    let there : ltb (length bytes) (4 + payload_len bytes) ≡ false = le-ltb _ _ (omega (arith, g.room, g.len)) in
    let size : 4 + payload_len bytes ≡ length first = omega (arith, g.size_is, g.len) in
    rw (long, name, once, met, same, there, value, size) refl
  where
    met_or_lax : (strict has : Bool) → (strict ≡ true → has ≡ true) → (strict && not has) ≡ false
    met_or_lax true has h = rw (h refl) refl
    met_or_lax false has h = refl

unknown_complete : (past : PartFault) (before : List (Option Field)) (at : ℕ) (first rest : List ℕ) → SpellsUnknown first
    → (field_step false past (view before) at (first ++ rest) ≡ Ok (view before, length first)) × (1 ≤ length first)
unfolding field_step unknown_step
unknown_complete past before at first rest p =
    let bytes = first ++ rest in
    let a = number_again 0 2 p.class _ first p.parts in
    let b = number_again 2 1 p.head _ first a.behind in
    let c = number_again 3 1 p.len _ first b.behind in
    let size : length first ≡ 4 + p.len = omega (arith, a.size, b.size, c.size, c.behind) in
    let whole : length bytes ≡ length first + length rest = length-append first rest in
    let class : number_in 0 2 bytes ≡ p.class = number_of_front 0 2 first rest (omega arith) ∙ a.value in
    let head : number_in 2 1 bytes ≡ p.head = number_of_front 2 1 first rest (omega arith) ∙ b.value in
    let len : payload_len bytes ≡ p.len = number_of_front 3 1 first rest (omega arith) ∙ c.value in
    let name : field_named bytes ≡ None = unnamed_again bytes (λ id e k. p.unknown id (sym class ∙ e) (ap (λ n. n / 2) (sym head) ∙ k)) in
    let long : ltb (length bytes) 4 ≡ false = le-ltb _ _ (omega arith) in
    let there : ltb (length bytes) (4 + payload_len bytes) ≡ false = le-ltb _ _ (omega (arith, len)) in
    let all : 4 + payload_len bytes ≡ length first = omega (arith, len) in
    (rw (long, name, there, all) refl, omega arith)

pub step_complete : (strict : Bool) (past : PartFault) (before : List (Option Field)) (item : Option Field) (at : ℕ) (first rest : List ℕ)
    → SpellsItem strict before item first → IsRead view (field_step strict past) before item at first rest
step_complete strict past before (Some f) at first rest p = elim p.0 [
  | inl q ↦ let g = plain_again f first rest q in record {
    read = known_complete strict false past before f at first rest g p.1 ∙ ap (λ v. Ok (v, length first)) (sym (view_some before f));
    some = omega (arith, g.size_is);
  }
  | inr q ↦ let g = masked_again f first rest q in record {
    read = known_complete strict true past before f at first rest g p.1 ∙ ap (λ v. Ok (v, length first)) (sym (view_some before f));
    some = omega (arith, g.size_is);
  }
]
step_complete strict past before None at first rest p =
    let u = unknown_complete past before at first rest p.0 in
    record {
      read = ap (λ s. field_step s past (view before) at (first ++ rest)) p.1 ∙ u.0 ∙ ap (λ v. Ok (v, length first)) (sym (view_none before));
      some = u.1;
    }
