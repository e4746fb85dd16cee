-- Ethernet addresses as numbers.
use Rattle.std.proofs.Common.{ℕ, ◌^◌, ◌<◌, List, [], ◌∷◌, arith}
use Rattle.net_base.specs.declared.address.Mac.{Mac}
use Rattle.net_base.specs.Address.{IsSixBytes, mac_value}

below : (bytes : List ℕ) → IsSixBytes bytes → mac_value (record { 0 = bytes }) < 2 ^ 48
below [] six = absurd (omega (arith, six.count))
below (a ∷ []) six = absurd (omega (arith, six.count))
below (a ∷ b ∷ []) six = absurd (omega (arith, six.count))
below (a ∷ b ∷ c ∷ []) six = absurd (omega (arith, six.count))
below (a ∷ b ∷ c ∷ d ∷ []) six = absurd (omega (arith, six.count))
below (a ∷ b ∷ c ∷ d ∷ e ∷ []) six = absurd (omega (arith, six.count))
below (a ∷ b ∷ c ∷ d ∷ e ∷ f ∷ more) six = omega (arith, six.each)

pub mac_below : (mac : Mac) → IsSixBytes mac.0 → mac_value mac < 2 ^ 48
mac_below mac six = below mac.0 six
