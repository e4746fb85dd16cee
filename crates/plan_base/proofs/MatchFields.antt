-- The words of matches are fields that a switch accepts, and so is a match of such fields.
use Rattle.std.proofs.Common.{◌≡◌, ℕ, ◌-◌, ◌*◌, ◌/◌, ◌^◌, ◌<◌, ◌≤◌, ◌⊎◌, true, List, refl, ap, ◌∙◌, inl, inr, arith, lit<}
use Rattle.std.specs.Prelude.{bit_and, IsTrue}
use Rattle.std.specs.List.{AllByRecursion}
use Rattle.std.proofs.Math.Nat.{mod-eq_of_lt, pow-le-pow_right}
use Rattle.std.proofs.lemmas.Nat.{and_mask}
use Rattle.std.proofs.lemmas.Nat.Bits.{and_high_mask}
use Rattle.net_base.specs.declared.address.Mac.{Mac}
use Rattle.net_base.specs.declared.field.Field.{Field}
use Rattle.net_base.specs.declared.field.FieldId.{FieldId}
use Rattle.net_base.specs.declared.field.FieldId.TheVariants.{InPort, EthDst, EthSrc, EthType, VlanVid, IpProto, Icmpv4Type, ArpTpa, Icmpv6Type, Ipv6NdTarget}
use Rattle.net_base.specs.Address.{IsSixBytes}
use Rattle.net_base.specs.Field.{exact}
use Rattle.net_base.specs.FieldId.{bits_of, byte_len_of, may_be_masked, all_ones}
use Rattle.net_base.specs.Numbers.{IsVid, IsPortNo}
use Rattle.net_base.specs.WellFormed.{Fits, AreAscending, IsWellFormed, has_prerequisite}
use Rattle.net_base.proofs.Macs.{mac_below}
use Rattle.net_base.proofs.Rows.{in_bounds}
use Rattle.plan_base.specs.Fields.{in_port, eth_dst, eth_src, group_dst, group_src, eth_type, vid_field, untagged, ip_proto, icmpv4_type, arp_tpa, icmpv6_type, nd_target}
use Rattle.plan_base.specs.MatchFields.{IsMatchField}
use Rattle.plan_base.proofs.Each.{all_from}

-- ---- bits and bytes

bits_below : (id : FieldId) → 2 ^ bits_of id ≤ 2 ^ (8 * byte_len_of id)
bits_below id = pow-le-pow_right {n = 2} (lit< tt) (in_bounds id).bits

pub fits : (f : Field) → IsMatchField f → Fits f
fits f h = record { value = omega (arith, h.bits, bits_below f.id); mask = of_mask h.mask }
  where
    of_mask : (f.mask ≡ all_ones f.id) ⊎ ((may_be_masked f.id ≡ true) × (f.mask < 2 ^ bits_of f.id)) → f.mask ≤ all_ones f.id
    of_mask (inl whole) = omega arith
    of_mask (inr (may, less)) = omega (arith, bits_below f.id)

-- ---- fields without a mask

-- a mask of all ones leaves a value as it is
pub whole_field : (f : Field) → f.value < 2 ^ bits_of f.id → f.mask ≡ all_ones f.id → IsMatchField f
whole_field f h whole = record {
  bits = h;
  within = ap (bit_and f.value) whole ∙ and_mask f.value (8 * byte_len_of f.id) ∙ mod-eq_of_lt (omega (arith, h, bits_below f.id));
  mask = inl whole;
}

pub is_exact : (id : FieldId) (v : ℕ) → v < 2 ^ bits_of id → IsMatchField (exact id v)
is_exact id v h = whole_field (exact id v) h refl

pub is_in_port : (n : ℕ) → IsPortNo n → IsMatchField (in_port n)
is_in_port n h = is_exact InPort n (omega (arith, h.most))

pub is_eth_dst : (mac : Mac) → IsSixBytes mac.0 → IsMatchField (eth_dst mac)
is_eth_dst mac h = is_exact EthDst _ (mac_below mac h)

pub is_eth_src : (mac : Mac) → IsSixBytes mac.0 → IsMatchField (eth_src mac)
is_eth_src mac h = is_exact EthSrc _ (mac_below mac h)

pub is_eth_type : (n : ℕ) → n < 2 ^ 16 → IsMatchField (eth_type n)
is_eth_type n h = is_exact EthType n h

pub is_vid_field : (vid : ℕ) → IsVid vid → IsMatchField (vid_field vid)
is_vid_field vid h = is_exact VlanVid _ (omega (arith, h.most))

pub is_untagged : IsMatchField untagged
is_untagged = is_exact VlanVid 0 (lit< tt)

pub is_ip_proto : (n : ℕ) → n < 2 ^ 8 → IsMatchField (ip_proto n)
is_ip_proto n h = is_exact IpProto n h

pub is_icmpv4_type : (n : ℕ) → n < 2 ^ 8 → IsMatchField (icmpv4_type n)
is_icmpv4_type n h = is_exact Icmpv4Type n h

pub is_arp_tpa : (ip : ℕ) → ip < 2 ^ 32 → IsMatchField (arp_tpa ip)
is_arp_tpa ip h = is_exact ArpTpa ip h

pub is_icmpv6_type : (n : ℕ) → n < 2 ^ 8 → IsMatchField (icmpv6_type n)
is_icmpv6_type n h = is_exact Icmpv6Type n h

pub is_nd_target : (ip : ℕ) → ip < 2 ^ 128 → IsMatchField (nd_target ip)
is_nd_target ip h = is_exact Ipv6NdTarget ip h

-- ---- fields with a mask

pub is_group_dst : IsMatchField group_dst
is_group_dst = record { bits = lit< tt; within = refl; mask = inr (refl, lit< tt) }

pub is_group_src : IsMatchField group_src
is_group_src = record { bits = lit< tt; within = refl; mask = inr (refl, lit< tt) }

-- a prefix's mask leaves an address without host bits as it is
pub without_host_bits : (bits value k : ℕ) → k ≤ bits → value < 2 ^ bits → value / 2 ^ k * 2 ^ k ≡ value → bit_and value (2 ^ bits - 2 ^ k) ≡ value
without_host_bits bits value k within fits none = and_high_mask bits k within value fits ∙ none

-- ---- a match of such fields

pub record AreFields (fields : List Field) : Type 0 where
  pub formed : IsWellFormed fields
  pub each : AllByRecursion IsMatchField fields

pub are_fields : (fields : List Field) → AreAscending fields → AllByRecursion IsMatchField fields → AllByRecursion (λ f. IsTrue (has_prerequisite f.id fields)) fields → AreFields fields
are_fields fields ascending each prerequisites = record {
  formed = record { ascending = ascending; fitting = all_from {P = IsMatchField} {Q = Fits} (λ f is. fits f is) fields each; prerequisites = prerequisites };
  each = each;
}

-- ---- all of them

pub ruleset field_laws = (is_in_port, is_eth_dst, is_eth_src, is_group_dst, is_group_src, is_vid_field, is_untagged, is_arp_tpa, is_nd_target, fits)
