-- When a packet agrees with a field: questions on its header fields.
use Rattle.std.specs.Prelude.{◌≡◌, ℕ, ◌-◌, ◌*◌, ◌^◌, ◌<◌, ◌==◌, ◌&&◌, Bool, true, false, bit_and, Some, List, [], ◌∷◌}
use Rattle.std.proofs.Common.{refl, sym, ap, ◌∙◌, arith}
use Rattle.std.proofs.lemmas.Nat.{and_mask}
use Rattle.std.proofs.Math.Nat.{mod-eq_of_lt}
use Rattle.net_base.specs.declared.address.Mac.{Mac}
use Rattle.net_base.specs.declared.field.Field.{Field}
use Rattle.net_base.specs.declared.field.FieldId.{FieldId}
use Rattle.net_base.specs.declared.field.FieldId.TheVariants.{EthDst, EthSrc}
use Rattle.net_base.specs.Address.{mac_value, is_group, group_bit}
use Rattle.net_base.specs.FieldId.{byte_len_of}
use Rattle.net_base.specs.Field.{exact, bits}
use Rattle.of_match.specs.declared.packet.Packet.{Packet}
use Rattle.of_match.specs.Hit.{agrees, hits, value_of}

-- two numbers of k bits agree in all of them exactly where they are equal
pub in_all_bits : (k v w : ℕ) → v < 2 ^ k → w < 2 ^ k → (bit_and v (2 ^ k - 1) == bit_and w (2 ^ k - 1)) ≡ (v == w)
in_all_bits k v w less_v less_w = ap (λ n. n == bit_and w (2 ^ k - 1)) (and_mask v k ∙ mod-eq_of_lt less_v) ∙ ap (λ n. v == n) (and_mask w k ∙ mod-eq_of_lt less_w)

-- a value that fits the field agrees exactly where it is the field's
pub agrees_exact : (id : FieldId) (v w : ℕ) → w < 2 ^ (8 * byte_len_of id) → v < 2 ^ (8 * byte_len_of id) → agrees (exact id v) (Some w) ≡ (w == v)
agrees_exact id v w less_w less_v = in_all_bits (8 * byte_len_of id) w v less_w less_v

-- a match of two parts
pub hits_first : (f : Field) (fields : List Field) (port : ℕ) (p : Packet) → hits (f ∷ fields) port p ≡ agrees f (value_of f.id port p) && hits fields port p
hits_first f fields port p = refl

-- any group address (IEEE 802, 8.2)
pub agrees_group_dst : (port : ℕ) (p : Packet) → agrees (bits EthDst group_bit) (value_of EthDst port p) ≡ is_group p.dst
agrees_group_dst port p = refl

pub agrees_group_src : (port : ℕ) (p : Packet) → agrees (bits EthSrc group_bit) (value_of EthSrc port p) ≡ is_group p.src
agrees_group_src port p = refl
