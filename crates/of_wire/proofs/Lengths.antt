-- How many bytes the parts take.
use Rattle.std.proofs.Common.{◌≡◌, ◌≢◌, ℕ, ◌+◌, ◌-◌, ◌*◌, ◌%◌, true, false, eqb, eq-eqb, List, ◌++◌, length, replicate, refl, sym, ◌∙◌, arith, append_assoc}
use Rattle.std.specs.List.{flat_map}
use Rattle.byteorder.specs.Numbers.{length-bytes_high_first}
use Rattle.std.proofs.lemmas.Bool.{ne_eqb}
use Rattle.std.proofs.lemmas.List.{length-append, length-replicate}
use Rattle.net_base.specs.declared.field.Field.{Field}
use Rattle.of_wire.specs.Parts.{number, field_bytes, match_bytes, set_bytes, up_to_8, bare_action, action_bytes}
use Rattle.of_match.specs.declared.action.Action.TheVariants.{Output, PushVlan}
use Rattle.net_base.specs.FieldId.{number_of, byte_len_of, all_ones}

pub number_length : (n v : ℕ) → length (number n v) ≡ n
unfolding number
number_length n v = length-bytes_high_first n v

pub match_padding : (out : List ℕ) (fields : List Field) →
    ((((out ++ number 2 1) ++ number 2 (4 + length (flat_map field_bytes fields))) ++ flat_map field_bytes fields) ++ replicate ((8 - (4 + length (flat_map field_bytes fields)) % 8) % 8) 0) ≡ out ++ match_bytes fields
match_padding out fields =
    let body = flat_map field_bytes fields in
    let len : length ((number 2 1 ++ number 2 (4 + length body)) ++ body) ≡ 4 + length body =
    omega (arith, length-append (number 2 1 ++ number 2 (4 + length body)) body, length-append (number 2 1) (number 2 (4 + length body)), number_length 2 1, number_length 2 (4 + length body)) in
    rw len (simp append_assoc)

pub set_length : (f : Field) → length (set_bytes f) ≡ up_to_8 (4 + length (field_bytes f))
set_length f =
    let body = field_bytes f in
    let head = number 2 25 ++ number 2 (up_to_8 (4 + length body)) in
    let len : length (head ++ body) ≡ 4 + length body =
    omega (arith, length-append head body, length-append (number 2 25) (number 2 (up_to_8 (4 + length body))), number_length 2 25, number_length 2 (up_to_8 (4 + length body))) in
    length-append (head ++ body) (replicate ((8 - length (head ++ body) % 8) % 8) 0) ∙ rw (len, length-replicate) refl

pub set_padding : (out : List ℕ) (f : Field) →
    ((((out ++ number 2 25) ++ number 2 (up_to_8 (4 + length (field_bytes f)))) ++ field_bytes f) ++ replicate ((8 - (4 + length (field_bytes f)) % 8) % 8) 0) ≡ out ++ set_bytes f
set_padding out f =
    let body = field_bytes f in
    let head = number 2 25 ++ number 2 (up_to_8 (4 + length body)) in
    let len : length (head ++ body) ≡ 4 + length body =
    omega (arith, length-append head body, length-append (number 2 25) (number 2 (up_to_8 (4 + length body))), number_length 2 25, number_length 2 (up_to_8 (4 + length body))) in
    rw len (simp append_assoc)

-- a field without and with a mask
pub field_plain : (f : Field) → f.mask ≡ all_ones f.id → 4 + byte_len_of f.id ≡ length (field_bytes f)
field_plain f e =
    let len = byte_len_of f.id in
    let a = number 2 0x8000 in let b = number 1 (2 * number_of f.id) in let l = number 1 len in let v = number len f.value in
    let t : eqb f.mask (all_ones f.id) ≡ true = eq-eqb f.mask (all_ones f.id) e in
    rw t (omega (arith, length-append ((a ++ b) ++ l) v, length-append (a ++ b) l, length-append a b, number_length 2 0x8000, number_length 1 (2 * number_of f.id), number_length 1 len, number_length len f.value))

pub field_masked : (f : Field) → f.mask ≢ all_ones f.id → 4 + 2 * byte_len_of f.id ≡ length (field_bytes f)
field_masked f e =
    let len = byte_len_of f.id in
    let a = number 2 0x8000 in let b = number 1 (2 * number_of f.id + 1) in let l = number 1 (2 * len) in let v = number len f.value in let m = number len f.mask in
    let t : eqb f.mask (all_ones f.id) ≡ false = ne_eqb f.mask (all_ones f.id) e in
    rw t (omega (arith, length-append (((a ++ b) ++ l) ++ v) m, length-append ((a ++ b) ++ l) v, length-append (a ++ b) l, length-append a b, number_length 2 0x8000, number_length 1 (2 * number_of f.id + 1), number_length 1 (2 * len), number_length len f.value, number_length len f.mask))

-- a number of the action's length and what follows it
four : (p q : ℕ) (w x y z : ℕ) → length (((number w x ++ number y z) ++ number p q) ++ replicate 2 0) ≡ ((w + y) + p) + 2
four p q w x y z = omega (arith, length-append ((number w x ++ number y z) ++ number p q) (replicate 2 0), length-append (number w x ++ number y z) (number p q), length-append (number w x) (number y z), number_length w x, number_length y z, number_length p q)

pub output_length : (port max_len : ℕ) → 16 ≡ length (action_bytes (Output port max_len))
output_length port max_len =
    let a = number 2 0 in let b = number 2 16 in let c = number 4 port in let d = number 2 max_len in
    omega (arith, length-append (((a ++ b) ++ c) ++ d) (replicate 6 0), length-append ((a ++ b) ++ c) d, length-append (a ++ b) c, length-append a b, number_length 2 0, number_length 2 16, number_length 4 port, number_length 2 max_len)

pub push_length : (eth_type : ℕ) → 8 ≡ length (action_bytes (PushVlan eth_type))
push_length eth_type = sym (four 2 eth_type 2 17 2 8)

pub bare_length : (kind : ℕ) → 8 ≡ length (bare_action kind)
bare_length kind =
    omega (arith, length-append (number 2 kind ++ number 2 8) (replicate 4 0), length-append (number 2 kind) (number 2 8), number_length 2 kind, number_length 2 8)
