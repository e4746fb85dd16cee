-- A VLAN that stands by itself under its number is in range.
use Rattle.std.specs.Prelude.{◌≡◌, ℕ, ◌≤◌, Bool, Some, None, nat_le, if◌then◌else◌, unwrap_or}
use Rattle.std.specs.Fmt.{decimal}
use Rattle.std.proofs.Common.{refl, sym, ap, subst, arith, rules}
use Rattle.std.proofs.lemmas.Bool.{le-leb, and_from}
use Rattle.std.proofs.lemmas.Fmt.{length-decimal-le, decimal_nonempty}
use Rattle.net_base.specs.AddressReading.{spelled_mac, pair_at, next_at}
use Rattle.net_base.specs.Numbers.{IsVid}
use Rattle.conf_types.specs.Lists.{IsLabel}
use Rattle.conf_types.specs.Valid.{IsStation}
use Rattle.conf_shape.specs.Reads.{default_of}
use Rattle.conf_resolve.specs.InOrder.{made_vlan}
use Rattle.conf_resolve.specs.InRange.{AreNames, VlanIsInRange}

digits_label : (vid : ℕ) → IsVid vid → IsLabel (decimal vid)
digits_label vid is = record {
  least = omega (arith, decimal_nonempty vid (omega (arith, is.most)));
  most = omega (arith, length-decimal-le 4 vid (omega arith) (omega (arith, is.most)) (omega (arith, is.most)));
}

pub made_number : (vid : ℕ) → IsVid vid → (made_vlan vid).vid ≡ vid
made_number vid is = ap (λ (b : Bool). unwrap_or (if b then Some vid else None) 1) (and_from (nat_le 1 vid) (nat_le vid 4094) (le-leb 1 vid is.least) (le-leb vid 4094 is.most))

made_names : (vid : ℕ) → IsVid vid → AreNames (made_vlan vid).names
unfolding default_of
made_names vid is = record { name = digits_label vid is; description = digits_label vid is }

made_mac : (vid : ℕ) → IsStation (made_vlan vid).mac.0
unfolding default_of spelled_mac pair_at next_at
made_mac vid = record { six = refl; each = search rules; individual = refl; not_zero = refl }

made_hosts : (vid : ℕ) → 1 ≤ (made_vlan vid).max_hosts
unfolding default_of
made_hosts vid = omega arith

made_most_hosts : (vid : ℕ) → (made_vlan vid).max_hosts ≤ 16384
unfolding default_of
made_most_hosts vid = omega arith

pub made_in_range : (vid : ℕ) → IsVid vid → VlanIsInRange (made_vlan vid)
made_in_range vid is = record {
  number = subst IsVid (sym (made_number vid is)) is;
  names = made_names vid is;
  mac = made_mac vid;
  vips = tt;
  routes = tt;
  hosts = made_hosts vid;
  most_hosts = made_most_hosts vid;
}
