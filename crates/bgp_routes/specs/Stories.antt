-- The routes of a session, as a fold over what was heard.
use Rattle.std.specs.Prelude.{ℕ, nat_lt, if◌then◌else◌, List, [], length, fold}
use Rattle.bgp_messages.specs.declared.message.Update.{Update}
use Rattle.bgp_routes.specs.declared.routes.BgpRoute.{BgpRoute}
use Rattle.bgp_routes.specs.Updates.{after}

-- an UPDATE was heard, or the session ended
pub data Change : Type 0 where
  updated : Update → Change
  ended : Change

-- an UPDATE that would leave more than 1,024 routes changes nothing by itself
abbrev pub leads : (our_as : ℕ) → List BgpRoute → Change → List BgpRoute
leads our_as routes (updated update) = if nat_lt 1024 (length (after our_as routes update)) then routes else after our_as routes update
leads our_as routes ended = []

abbrev pub routes_of : (our_as : ℕ) → List Change → List BgpRoute
routes_of our_as story = fold (leads our_as) [] story
