-- How long messages of ICMPv6 are.
use Rattle.std.proofs.Common.{◌≡◌, ℕ, ◌+◌, List, [], ◌∷◌, ◌++◌, length, arith}
use Rattle.net_base.specs.declared.address.Mac.{Mac}
use Rattle.net_base.specs.declared.address6.Ip6.{Ip6}
use Rattle.pkt_view.specs.Numbers.{number}
use Rattle.pkt_view.specs.Replies.{ip6_bytes, unsummed}

pub unsummed_len : (kind : ℕ) (rest : List ℕ) → length (unsummed kind rest) ≡ 4 + length rest
unfolding number
unsummed_len kind rest = omega arith

pub said_len : (a b c d : ℕ) (target : Ip6) (option : ℕ) (mac : Mac) → length mac.0 ≡ 6 → length ((a ∷ b ∷ c ∷ d ∷ []) ++ ip6_bytes target ++ (option ∷ 1 ∷ []) ++ mac.0) ≡ 28
unfolding number
said_len a b c d target option mac six = omega (arith, six)
