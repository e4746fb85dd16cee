-- A table of neighbours as contracts see it, and what becomes of it where one is wanted or heard.
use Rattle.std.specs.Prelude.{ℕ, ◌==◌, ◌&&◌, ◌≤◌, not, Bool, Some, None, List, [], ◌∷◌, ◌++◌, length, map, filter, is_some, nat_le, if◌then◌else◌}
use Rattle.std.specs.List.{list_any}
use Rattle.net_base.specs.declared.address.Mac.{Mac}
use Rattle.net_base.specs.declared.numbers.DpId.{DpId}
use Rattle.net_base.specs.declared.numbers.Moment.{Moment}
use Rattle.conf_types.specs.declared.address.Ip.{Ip}
use Rattle.conf_types.specs.declared.state.NeighRec.{NeighRec}
use Rattle.conf_types.specs.Count.{sum_up_to_greatest}
use Rattle.conf_types.specs.Families.{is_same_ip}
use Rattle.conf_types.specs.Lists.{EachBefore}
use Rattle.conf_types.specs.State.{IsSameNeighbour}
use Rattle.neighbour_resolve.specs.declared.neighbour.Want.{Want}
use Rattle.neighbour_resolve.specs.declared.neighbour.Want.TheVariants.{Added, Known, Full}

pub record Table : Type 0 where
  -- how many neighbours it holds at most
  pub limit : ℕ
  -- in the order of adding
  pub neighbours : List NeighRec

-- no table has more than its limit, or two neighbours of one key
pub record IsTable (table : Table) : Type 0 where
  pub within : length table.neighbours ≤ table.limit
  pub keys : EachBefore (λ a b. IsSameNeighbour a b → ⊥) table.neighbours

-- two have one key: the number of the group, the VLAN and the address
abbrev pub is_same : NeighRec → NeighRec → Bool
is_same a b = a.group.0 == b.group.0 && a.vid == b.vid && is_same_ip a.ip b.ip

abbrev pub is_known : List NeighRec → NeighRec → Bool
is_known neighbours told = list_any (is_same told) neighbours

-- ---- what is told of a neighbour

-- that a packet wants it: it isn't resolved, was not asked yet, and is to be asked now
abbrev pub unresolved : DpId → ℕ → Ip → Moment → NeighRec
unresolved group vid ip now = record {
  group = group;
  vid = vid;
  ip = ip;
  mac = None;
  tries = 0;
  due = now;
}

-- that it was heard: it is resolved, and is to be asked again when so many milliseconds have passed
abbrev pub resolved : DpId → ℕ → Ip → Mac → (timeout : ℕ) → Moment → NeighRec
resolved group vid ip mac timeout now = record {
  group = group;
  vid = vid;
  ip = ip;
  mac = Some mac;
  tries = 0;
  due = record { 0 = sum_up_to_greatest now.0 timeout };
}

-- a neighbour that is resolved stays as it is where it is wanted, and none does where it is heard
abbrev pub stays : (wanted : Bool) → NeighRec → Bool
stays wanted n = wanted && is_some n.mac

-- ---- the outcome, and the table behind it

abbrev pub outcome : Table → NeighRec → Want
outcome table told =
    if is_known table.neighbours told then Known
    else if nat_le table.limit (length table.neighbours) then Full
    else Added

-- what is told stands in the place of the neighbour with its key, unless that one stays
abbrev pub gives_way : (stays : NeighRec → Bool) → NeighRec → NeighRec → Bool
gives_way stays told n = is_same told n && not (stays n)

abbrev pub replaced : (stays : NeighRec → Bool) → NeighRec → List NeighRec → List NeighRec
replaced stays told neighbours = map (λ n. if gives_way stays told n then told else n) neighbours

-- one that is new stands last, where there is room
abbrev pub neighbours_after : (stays : NeighRec → Bool) → NeighRec → List NeighRec → Want → List NeighRec
neighbours_after stays told neighbours Known = replaced stays told neighbours
neighbours_after stays told neighbours Full = neighbours
neighbours_after stays told neighbours Added = neighbours ++ told ∷ []

abbrev pub after_told : (stays : NeighRec → Bool) → NeighRec → Table → Table
after_told stays told table = record table { neighbours = neighbours_after stays told table.neighbours (outcome table told) }

-- ---- what is let go

-- without the neighbours of a group
abbrev pub off_group : DpId → List NeighRec → List NeighRec
off_group group neighbours = filter (λ n. not (n.group.0 == group.0)) neighbours
