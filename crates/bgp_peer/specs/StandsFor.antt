-- What a speaker keeps between two turns.
use Rattle.std.specs.Prelude.{◌≡◌, true, false}
use Rattle.bgp_peer.specs.declared.bgp.Bgp.{Bgp}
use Rattle.bgp_peer.specs.declared.known.Known.{Known}
use Rattle.bgp_peer.specs.Turns.{anew}

-- what is known, but for what was said in the last turn
pub record StandsFor (b : Bgp) (k : Known) : Type 0 where
  pub unspent : b.is_spent ≡ false
  pub known : b.known ≡ anew k

abbrev pub IsSpent : Bgp → Type 0
IsSpent b = b.is_spent ≡ true
