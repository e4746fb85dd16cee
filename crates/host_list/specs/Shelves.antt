-- The datapaths on which hosts stand.
use Rattle.std.specs.Prelude.{◌==◌, ◌&&◌, ◌-◌, ◌^◌, ◌++◌, Bool, ℕ, List, [], ◌∷◌, map, nat_lt, nat_le, if◌then◌else◌}
use Rattle.std.specs.List.{list_any}
use Rattle.net_base.specs.declared.numbers.DpId.{DpId}
use Rattle.net_base.specs.declared.numbers.Moment.{Moment}
use Rattle.conf_types.specs.declared.state.HostRec.{HostRec}
use Rattle.host_list.specs.declared.shelves.Shelf.{Shelf}

-- the shelf is the datapath's, and its moment later than this one
abbrev pub is_above : DpId → Moment → Shelf → Bool
is_above dp heard shelf = shelf.dp.0 == dp.0 && nat_lt heard.0 shelf.least.0

-- the shelf's moment is no later than this one, if it is the datapath's
abbrev pub lowered : DpId → Moment → Shelf → Shelf
lowered dp heard shelf = if is_above dp heard shelf then record shelf { least = heard } else shelf

abbrev pub noted : DpId → Moment → List Shelf → List Shelf
noted dp heard shelves =
    if list_any (λ s. s.dp.0 == dp.0) shelves then map (lowered dp heard) shelves else shelves ++ record { dp = dp; least = heard } ∷ []

-- a shelf is the host's
abbrev pub is_on : HostRec → Shelf → Bool
is_on host shelf = shelf.dp.0 == host.dp.0 && nat_le shelf.least.0 host.learned.0

abbrev pub is_shelved : List Shelf → HostRec → Bool
is_shelved shelves host = list_any (is_on host) shelves

-- the host is one of the datapath, heard before a moment
abbrev pub is_less : DpId → Moment → HostRec → Bool
is_less dp least host = host.dp.0 == dp.0 && nat_lt host.learned.0 least.0

abbrev pub last_moment : Moment
last_moment = record { 0 = 2 ^ 64 - 1 }

-- the least of a moment and those of the datapath's hosts
abbrev pub least_on : DpId → Moment → List (ℕ × HostRec) → Moment
least_on dp least [] = least
least_on dp least (e ∷ entries) = least_on dp (if is_less dp least e.1 then e.1.learned else least) entries
