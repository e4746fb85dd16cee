-- A VLAN of which nothing but its number is written, field by field.
use Rattle.std.proofs.Common.{◌≡◌, ℕ, ◌&&◌, nat_le, true, false, cond, Some, None, unwrap_or, [], ◌∷◌, refl, ap, ◌∙◌, arith}
use Rattle.std.specs.Fmt.{decimal}
use Rattle.std.proofs.lemmas.Bool.Decides.{nat_tests}
use Rattle.net_base.specs.Numbers.{IsVid}
use Rattle.net_base.specs.AddressReading.{pair_at, next_at, spelled_mac}
use Rattle.conf_shape.specs.Reads.{default_of}
use Rattle.conf_resolve.specs.InOrder.{made_vlan}

pub made_vid : (vid : ℕ) → IsVid vid → (made_vlan vid).vid ≡ vid
made_vid vid range =
    let low : nat_le 1 vid ≡ true = grind (arith, nat_tests, range) in
    let high : nat_le vid 4094 ≡ true = grind (arith, nat_tests, range) in
    ap (λ b. unwrap_or (cond (b && nat_le vid 4094) (Some vid) None) 1) low ∙ ap (λ b. unwrap_or (cond b (Some vid) None) 1) high

pub made_names : (vid : ℕ) → (made_vlan vid).names ≡ record { key = decimal vid; has_name = false; name = decimal vid; description = decimal vid }
unfolding default_of pair_at next_at spelled_mac
made_names vid = refl

pub made_rest : (vid : ℕ) → made_vlan vid ≡ record {
  names = (made_vlan vid).names;
  has_vid = false;
  vid = (made_vlan vid).vid;
  acls = record { one = None; list = None };
  mac = record { 0 = 14 ∷ 0 ∷ 0 ∷ 0 ∷ 0 ∷ 1 ∷ [] };
  vips = [];
  routes = [];
  max_hosts = 255;
  unicast_flood = true;
}
unfolding default_of pair_at next_at spelled_mac
made_rest vid = refl
