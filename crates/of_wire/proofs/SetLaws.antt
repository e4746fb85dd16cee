-- Actions are read exactly where they are spelled: the one that sets a field, and all of them.
use Rattle.std.proofs.Common.{◌≡◌, ℕ, ◌+◌, ◌-◌, ◌≤◌, true, false, not, ◌||◌, eqb, ltb, List, [], ◌∷◌, ◌++◌, length, take, drop, replicate, Some, Ok, refl, sym, ap, ◌∙◌, subst, arith, append_assoc}
use Rattle.std.proofs.lemmas.Bool.{le-ltb, eq-eqb, or_from, not_from_true}
use Rattle.std.proofs.lemmas.List.{length-drop, length-take-le, length-append, drop-append-le, take-append-le, take_all, length-replicate}
use Rattle.net_base.specs.declared.field.Field.{Field}
use Rattle.net_base.specs.declared.field.FieldId.{FieldId}
use Rattle.net_base.specs.FieldId.{byte_len_of}
use Rattle.of_match.specs.declared.action.Action.{Action}
use Rattle.of_match.specs.declared.action.Action.TheVariants.{Output, PushVlan, PopVlan, DecTtl, Set}
use Rattle.of_wire.specs.declared.fault.PartFault.{PartFault}
use Rattle.of_wire.specs.Numbers.{number_in}
use Rattle.of_wire.specs.Parts.{up_to_8}
use Rattle.of_wire.specs.Reading.{padding_at, field_named, has_mask, payload_len, field_value, set_named, set_at, action_of, action_at, action_step, actions_at}
use Rattle.of_wire.specs.Grammar.{Zeros}
use Rattle.of_wire.specs.Faults.{EachAction}
use Rattle.of_wire.specs.Spelling.{SpellsPlain, SpellsSet, SpellsAction, SpellsActions}
use Rattle.of_wire.proofs.Grammars.{AreBytes, bytes_take, bytes_drop, number_then, front_then, number_again, front_again, number_of_take, number_of_front}
use Rattle.of_wire.proofs.Chosen.{bind_from}
use Rattle.of_wire.proofs.FieldLaws.{FieldAgain, plain_sound, plain_again}
use Rattle.of_wire.proofs.MatchLaws.{inner, outer}
use Rattle.of_wire.proofs.Padding.{padding_complete}
use Rattle.of_wire.proofs.ActionLaws.{Front, output_complete, push_complete, pop_complete, ttl_complete}
use Rattle.of_wire.proofs.Joining.{IsRead, joined_read}

pub set_front : (id : FieldId) (bytes : List ℕ) → AreBytes bytes → number_in 0 2 bytes ≡ 25 → field_named (drop 4 bytes) ≡ Some id → has_mask (drop 4 bytes) ≡ false → payload_len (drop 4 bytes) ≡ byte_len_of id
    → number_in 2 2 bytes ≡ up_to_8 (8 + byte_len_of id) → number_in 2 2 bytes ≤ length bytes
    → take (number_in 2 2 bytes - (8 + byte_len_of id)) (drop (8 + byte_len_of id) bytes) ≡ replicate (number_in 2 2 bytes - (8 + byte_len_of id)) 0
    → Front (SpellsAction (Set (field_value id (drop 4 bytes)))) (number_in 2 2 bytes) bytes
unfolding field_value
set_front id bytes h kind name flag size whole room zeros =
    let len = number_in 2 2 bytes in
    let field = drop 4 bytes in
    let n = byte_len_of id in
    let f = field_value id field in
    let more : 8 + n ≤ len = omega arith in
    let xs = take len bytes in
    let hx = bytes_take len bytes h in
    let lx : length xs ≡ len = length-take-le len bytes room in
    let plain_field : SpellsPlain f (take (4 + n) field) = plain_sound id field (bytes_drop 4 bytes h) name flag size (omega (arith, length-drop 4 bytes)) in
    let tail : drop (4 + (4 + n)) xs ≡ replicate (up_to_8 (8 + n) - (8 + n)) 0 =
    (let k : 4 + (4 + n) ≡ 8 + n = omega arith in
    ap (λ k. drop k xs) k ∙ outer (8 + n) len bytes more ∙ zeros ∙ ap (λ k. replicate (k - (8 + n)) 0) whole) in
    record {
      room = room;
      some = omega arith;
      spelled =
          number_then 0 2 25 _ xs hx (omega arith) (number_of_take 0 2 len bytes (omega arith) room ∙ kind) (
          number_then 2 2 (up_to_8 (8 + n)) _ xs hx (omega arith) (number_of_take 2 2 len bytes (omega arith) room ∙ whole) (
          front_then (SpellsPlain f) (Zeros (up_to_8 (8 + n) - (8 + n))) 4 (4 + n) xs (subst (λ b. SpellsPlain f b) (sym (inner 4 (4 + n) len bytes (omega arith))) plain_field) tail));
    }

set_complete : (past : PartFault) (f : Field) (at : ℕ) (first rest : List ℕ) → SpellsSet f first
    → (action_at past at (first ++ rest) ≡ Ok (Set f, length first)) × (1 ≤ length first)
unfolding action_at action_of set_at set_named
set_complete past f at first rest p =
    let bytes = first ++ rest in
    let n = byte_len_of f.id in
    let len = up_to_8 (8 + n) in
    let a = number_again 0 2 25 _ first p in
    let b = number_again 2 2 len _ first a.behind in
    let c = b.behind in
    let whole : length bytes ≡ length first + length rest = length-append first rest in
    let near : 4 ≤ length first = omega (arith, a.size, b.size) in
    let field : drop 4 bytes ≡ c.first ++ (c.rest ++ rest) = drop-append-le 4 first rest near ∙ ap (λ l. l ++ rest) c.whole ∙ append_assoc c.first c.rest rest in
    let g : FieldAgain f false (drop 4 bytes) (length c.first) = subst (λ l. FieldAgain f false l (length c.first)) (sym field) (plain_again f c.first (c.rest ++ rest) c.in_front) in
    let d = front_again (SpellsPlain f) (Zeros (len - (8 + n))) 4 (4 + n) first c g.size_is in
    let more : 8 + n ≤ len = omega arith in
    let size : length first ≡ len = omega (arith, a.size, b.size, d.1, ap length d.2, length-replicate {A = ℕ} (len - (8 + n)) 0) in
    let kind : number_in 0 2 bytes ≡ 25 = number_of_front 0 2 first rest (omega arith) ∙ a.value in
    let is_len : number_in 2 2 bytes ≡ len = number_of_front 2 2 first rest (omega arith) ∙ b.value in
    let long : ltb (length bytes) 4 ≡ false = le-ltb _ _ (omega arith) in
    let large : ltb len 8 ≡ false = le-ltb _ _ (omega arith) in
    let there : ltb (length bytes) 8 ≡ false = le-ltb _ _ (omega arith) in
    let payload : payload_len (drop 4 bytes) ≡ n = g.len in
    let right : eqb len (up_to_8 (8 + payload_len (drop 4 bytes))) ≡ true = eq-eqb _ _ (ap (λ k. up_to_8 (8 + k)) (sym payload)) in
    let name = g.name in
    let value = g.value in
    let plain : (has_mask (drop 4 bytes) || not (eqb (payload_len (drop 4 bytes)) n)) ≡ false = or_from _ _ g.flag (not_from_true _ (eq-eqb _ _ payload)) in
    let back : 4 + (4 + n) ≡ 8 + n = omega arith in
    let tail : take (len - (8 + n)) (drop (8 + n) bytes) ≡ replicate (len - (8 + n)) 0 =
    ap (take (len - (8 + n))) (drop-append-le (8 + n) first rest (omega arith)) ∙ take-append-le (len - (8 + n)) (drop (8 + n) first) rest (omega (arith, length-drop (8 + n) first))
    ∙ take_all (len - (8 + n)) (drop (8 + n) first) (omega (arith, length-drop (8 + n) first)) ∙ ap (λ k. drop k first) (sym back) ∙ d.2 in
    let pad : padding_at past at (8 + n) len bytes ≡ Ok len = padding_complete past at (8 + n) len bytes more (omega arith) tail in
    let out : len ≡ length first = sym size in
    (rw (long, kind, is_len, large, there, right, name, plain, pad, value, out) refl, omega arith)

pub action_complete : (past : PartFault) (a : Action) (at : ℕ) (first rest : List ℕ) → SpellsAction a first
    → (action_at past at (first ++ rest) ≡ Ok (a, length first)) × (1 ≤ length first)
action_complete past (Output port max_len) at first rest p = output_complete past port max_len at first rest p
action_complete past (PushVlan eth_type) at first rest p = push_complete past eth_type at first rest p
action_complete past PopVlan at first rest p = pop_complete past at first rest p
action_complete past DecTtl at first rest p = ttl_complete past at first rest p
action_complete past (Set f) at first rest p = set_complete past f at first rest p

-- ---- actions up to the end

pub step_complete : (past : PartFault) (before : List Action) (a : Action) (at : ℕ) (first rest : List ℕ) → SpellsAction a first → IsRead (λ l. l) (action_step past) before a at first rest
unfolding action_step
step_complete past before a at first rest p =
    let c = action_complete past a at first rest p in
    let next = λ (x : Action × ℕ). Ok (before ++ x.0 ∷ [], x.1) in
    record { read = bind_from (action_at past at (first ++ rest)) next (a, length first) (before ++ a ∷ [], length first) c.0 refl; some = c.1 }

pub actions_complete : (past : PartFault) (at : ℕ) (actions : List Action) (bytes : List ℕ) → SpellsActions actions bytes → actions_at past at bytes ≡ Ok actions
unfolding actions_at
actions_complete past at actions bytes p =
    joined_read EachAction (λ l. l) (action_step past) (step_complete past) actions (length bytes) [] at bytes (omega arith) p
