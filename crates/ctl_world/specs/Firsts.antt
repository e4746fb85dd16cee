-- From which number on the connections of a datapath stand, as it is kept to find them.
use Rattle.std.specs.Prelude.{◌≡◌, ℕ, ◌==◌, ◌≤◌, nat_le, nat_lt, Bool, true, false, List, Option, Some, None}
use Rattle.std.specs.List.{AllByRecursion, prefix_len}
use Rattle.std.specs.Option.{option_map_or}
use Rattle.net_base.specs.declared.numbers.DpId.{DpId}
use Rattle.conf_types.specs.Lists.{EachBefore}
use Rattle.indexmap.specs.IndexMap.{IndexMap, get}
use Rattle.ctl_world.specs.declared.conns.Conn.{Conn}
use Rattle.ctl_world.specs.Connections.{is_of}

abbrev pub is_dp : DpId → DpId → Bool
is_dp a b = a.0 == b.0

-- the number that is kept for a datapath; the least of all where memory lacked for them
abbrev pub first_number : {S : Type 0} → Option (IndexMap DpId ℕ S) → DpId → Option ℕ
first_number None dp = Some 0
first_number (Some numbers) dp = get is_dp numbers dp

-- a number is kept for the datapath, and is no greater than this one
abbrev pub begins : {S : Type 0} → Option (IndexMap DpId ℕ S) → DpId → ℕ → Bool
begins firsts dp number = option_map_or (λ n. nat_le n number) (first_number firsts dp) false

-- the connection stands from the number of its datapath on, if it has one
abbrev pub is_begun : {S : Type 0} → Option (IndexMap DpId ℕ S) → Conn → Bool
is_begun firsts c = option_map_or (λ dp. begins firsts dp c.number) c.dp true

-- none has a greater number than one behind it
abbrev pub AreInOrder : List Conn → Type 0
AreInOrder = EachBefore (λ (c : Conn) (d : Conn). c.number ≤ d.number)

-- how many stand before the first one that has no smaller number
abbrev pub lower_bound : ℕ → List Conn → ℕ
lower_bound number conns = prefix_len (λ c. nat_lt c.number number) conns

-- the datapath's connections have no smaller numbers
abbrev pub AreFrom : DpId → ℕ → List Conn → Type 0
AreFrom dp number = AllByRecursion (λ (c : Conn). is_of dp c ≡ true → number ≤ c.number)

-- they stand by number, and each from the number of its datapath on
pub record AreKept {S : Type 0} (conns : List Conn) (firsts : Option (IndexMap DpId ℕ S)) : Type 0 where
  pub order : AreInOrder conns
  pub begun : AllByRecursion (λ c. is_begun firsts c ≡ true) conns
