-- Prefixes (RFC 4271, 4.3): a length in bits, and the fewest bytes that hold so many.
use Rattle.std.specs.Prelude.{◌≡◌, ℕ, ◌+◌, ◌/◌, List, length, drop}
use Rattle.net_base.specs.declared.net4.Net4.{Net4}
use Rattle.bgp_messages.specs.Numbers.{number_in}
use Rattle.bgp_messages.specs.Grammar.{Joined}

abbrev pub octets : ℕ → ℕ
octets bits = (bits + 7) / 8

-- a length is at most 32 bits, as of each network; the bytes that don't stand there are zeros, and bits
-- behind the length may be anything
pub record SpellsPrefix (net : Net4) (bytes : List ℕ) : Type 0 where
  pub len : number_in 0 1 bytes ≡ net.len
  pub size : length bytes ≡ 1 + octets net.len
  pub address : net.ip.0 ≡ number_in 0 4 (drop 1 bytes)

abbrev pub SpellsPrefixes : List Net4 → List ℕ → Type 0
SpellsPrefixes nets bytes = Joined SpellsPrefix nets bytes
