-- When a neighbour is asked, and when it is given up.
use Rattle.std.specs.Prelude.{ℕ, ◌+◌, ◌-◌, ◌^◌, ◌==◌, ◌&&◌, not, Bool, false, Option, Some, None, List, [], ◌∷◌, is_some, nat_lt, nat_le, slice_index_or, if◌then◌else◌}
use Rattle.std.specs.List.{list_any, find}
use Rattle.std.specs.Option.{option_map, option_map_or}
use Rattle.net_base.specs.declared.numbers.Moment.{Moment}
use Rattle.conf_types.specs.declared.state.NeighRec.{NeighRec}
use Rattle.conf_types.specs.Configuration.{Configuration}
use Rattle.conf_types.specs.Count.{sum_up_to_greatest}
use Rattle.conf_types.specs.Families.{is_same_ip}
use Rattle.conf_types.specs.Routing.{routes_of}
use Rattle.neighbour_resolve.specs.declared.neighbour.Due.{Due}
use Rattle.neighbour_resolve.specs.declared.neighbour.Due.TheVariants.{Ask, Gone}

-- the greatest moment never comes
abbrev pub never : ℕ
never = 2 ^ 64 - 1

-- the neighbour's moment has come
abbrev pub is_due : (moment : ℕ) → NeighRec → Bool
is_due moment n = nat_le n.due.0 moment && not (n.due.0 == never)

-- the first one whose moment has come
abbrev pub first_due : (moment : ℕ) → List NeighRec → Option NeighRec
first_due moment neighbours = find (is_due moment) neighbours

-- how long an answer is waited for after each try, in milliseconds: the table, then 64 seconds
abbrev pub last_wait : ℕ
last_wait = 64000

abbrev pub waits : List ℕ
waits = 1000 ∷ 2000 ∷ 4000 ∷ 8000 ∷ 16000 ∷ 32000 ∷ []

abbrev pub wait_after : (tries : ℕ) → ℕ
wait_after tries = slice_index_or waits tries last_wait

-- after so many tries a neighbour is given up, unless it is a gateway
abbrev pub most_tries : ℕ
most_tries = 10

-- a route of its own VLAN leads over it
abbrev pub is_gateway : Configuration → NeighRec → Bool
is_gateway conf n = list_any (λ route. is_same_ip route.gw n.ip) (routes_of conf n.vid)

abbrev pub later : ℕ → ℕ → Moment
later moment wait = record { 0 = sum_up_to_greatest moment wait }

-- one that is asked has a try more, and is due when the wait is over
abbrev pub asked : (moment : ℕ) → NeighRec → NeighRec
asked moment n = record n { tries = n.tries + 1; due = later moment (wait_after n.tries) }

-- a gateway that gave no answer to the last try isn't resolved any more, and is asked on
abbrev pub asked_on : (moment : ℕ) → NeighRec → NeighRec
asked_on moment n = record n { mac = None; due = later moment last_wait }

-- what becomes of a neighbour that is due; nothing of one that is given up
abbrev pub next : Configuration → (moment : ℕ) → NeighRec → Option NeighRec
next conf moment n =
    if nat_lt n.tries most_tries then Some (asked moment n)
    else if is_gateway conf n then Some (asked_on moment n)
    else None

-- it is known, and was asked as often as it may be: what becomes of it is known no more
abbrev pub is_spent : NeighRec → Bool
is_spent n = is_some n.mac && not (nat_lt n.tries most_tries)

-- the first one that is due is
abbrev pub is_lost : (moment : ℕ) → List NeighRec → Bool
is_lost moment neighbours = option_map_or is_spent (first_due moment neighbours) false

abbrev pub said_of : Configuration → (moment : ℕ) → NeighRec → Due
said_of conf moment n = if is_some (next conf moment n) then Ask n.group n.vid n.ip else Gone n.group n.vid n.ip

-- what is said of the first one that is due, and the list behind it
abbrev pub due_said : Configuration → (moment : ℕ) → List NeighRec → Option Due
due_said conf moment neighbours = option_map (said_of conf moment) (first_due moment neighbours)

abbrev pub after_due : Configuration → (moment : ℕ) → List NeighRec → List NeighRec
after_due conf moment [] = []
after_due conf moment (n ∷ more) =
    if is_due moment n then option_map_or (λ m. m ∷ more) (next conf moment n) more
    else n ∷ after_due conf moment more
