-- Routes stay few, and in the order of their networks.
use Rattle.std.proofs.Common.{◌≡◌, ℕ, suc, ◌≤◌, Bool, true, false, not, cond, List, [], ◌∷◌, ◌++◌, length, fold, None, refl, arith}
use Rattle.std.specs.Prelude.{nat_lt, insert}
use Rattle.std.specs.List.{AllByRecursion}
use Rattle.std.proofs.lemmas.Bool.Decides.{nat_tests}
use Rattle.std.proofs.lemmas.List.Sums.{fold-append}
use Rattle.net_base.specs.declared.net4.Net4.{Net4}
use Rattle.net_base.specs.declared.address.Ip4.{Ip4}
use Rattle.bgp_messages.specs.declared.message.Update.{Update}
use Rattle.bgp_routes.specs.declared.routes.BgpRoute.{BgpRoute}
use Rattle.bgp_routes.specs.Networks.{cleared, is_before, is_same}
use Rattle.bgp_routes.specs.Sets.{via, without, place, put, AreAscending}
use Rattle.bgp_routes.specs.Updates.{is_looped, gone, withdrawn_from, come, announced_in, after}
use Rattle.bgp_routes.specs.Stories.{Change, updated, ended, leads, routes_of}
use Rattle.bgp_routes.proofs.Ways.{first_other, none_there}

-- ---- few

led_few : (routes next : List BgpRoute) → length routes ≤ 1024 → length (cond (nat_lt 1024 (length next)) routes next) ≤ 1024
led_few routes next h = by (nat_lt 1024 (length next)) refl
  where
    by : (b : Bool) → nat_lt 1024 (length next) ≡ b → length (cond b routes next) ≤ 1024
    by true e = h
    by false e = grind (arith, nat_tests, e)

few_from : (our_as : ℕ) (routes : List BgpRoute) (story : List Change) → length routes ≤ 1024 → length (fold (leads our_as) routes story) ≤ 1024
few_from our_as routes [] h = h
few_from our_as routes (updated u ∷ story) h = few_from our_as (leads our_as routes (updated u)) story (led_few routes (after our_as routes u) h)
few_from our_as routes (ended ∷ story) h = few_from our_as [] story (omega arith)

pub are_few : (our_as : ℕ) (story : List Change) → length (routes_of our_as story) ≤ 1024
are_few our_as story = few_from our_as [] story (omega arith)

pub end_empties : (our_as : ℕ) (story : List Change) → routes_of our_as (story ++ ended ∷ []) ≡ []
end_empties our_as story = fold-append (leads our_as) [] story (ended ∷ [])

-- ---- in order

before_through : (a b c : Net4) → is_before a b ≡ true → is_before b c ≡ true → is_before a c ≡ true
before_through a b c p q = grind (arith, nat_tests, p, q)

pub behind_else : (a b : Net4) → is_before a b ≡ false → is_same a b ≡ false → is_before b a ≡ true
behind_else a b p q = grind (arith, nat_tests, p, q)

abbrev pub AllBehind : Net4 → List BgpRoute → Type 0
AllBehind net routes = AllByRecursion (λ other. is_before net other.dst ≡ true) routes

left_behind : (net gone : Net4) (routes : List BgpRoute) → AllBehind net routes → AllBehind net (without gone routes)
left_behind net gone [] h = tt
left_behind net gone (r ∷ routes) h = by (is_same r.dst gone) (left_behind net gone routes h.1)
  where
    by : (b : Bool) → AllBehind net (without gone routes) → AllBehind net (cond (not b) (r ∷ without gone routes) (without gone routes))
    by true k = k
    by false k = (h.0, k)

without_ascends : (gone : Net4) (routes : List BgpRoute) → AreAscending routes → AreAscending (without gone routes)
without_ascends gone [] h = tt
without_ascends gone (r ∷ routes) h = by (is_same r.dst gone) (without_ascends gone routes h.1)
  where
    by : (b : Bool) → AreAscending (without gone routes) → AreAscending (cond (not b) (r ∷ without gone routes) (without gone routes))
    by true k = k
    by false k = (left_behind r.dst gone routes h.0, k)

come_behind : (net : Net4) (route : BgpRoute) (routes : List BgpRoute) → is_before net route.dst ≡ true → AllBehind net routes → AllBehind net (insert routes (place route.dst routes) route)
come_behind net route [] p h = (p, tt)
come_behind net route (r ∷ routes) p h = by (is_before r.dst route.dst) (come_behind net route routes p h.1)
  where
    by : (b : Bool) → AllBehind net (insert routes (place route.dst routes) route) → AllBehind net (insert (r ∷ routes) (cond b (suc (place route.dst routes)) 0) route)
    by true k = (h.0, k)
    by false k = (p, h)

pub through_all : (a b : Net4) (routes : List BgpRoute) → is_before a b ≡ true → AllBehind b routes → AllBehind a routes
through_all a b [] p h = tt
through_all a b (r ∷ routes) p h = (before_through a b r.dst p h.0, through_all a b routes p h.1)

insert_ascends : (route : BgpRoute) (routes : List BgpRoute) → via route.dst routes ≡ None → AreAscending routes → AreAscending (insert routes (place route.dst routes) route)
insert_ascends route [] e h = (tt, tt)
insert_ascends route (r ∷ routes) e h =
    let p = first_other route.dst r routes e in
    by (is_before r.dst route.dst) refl p.0 (insert_ascends route routes p.1 h.1)
  where
    by : (b : Bool) → is_before r.dst route.dst ≡ b → is_same r.dst route.dst ≡ false → AreAscending (insert routes (place route.dst routes) route)
        → AreAscending (insert (r ∷ routes) (cond b (suc (place route.dst routes)) 0) route)
    by true q apart k = (come_behind r.dst route routes q h.0, k)
    by false q apart k = let behind = behind_else r.dst route.dst q apart in ((behind, through_all route.dst r.dst routes behind h.0), h)

put_ascends : (route : BgpRoute) (routes : List BgpRoute) → AreAscending routes → AreAscending (put route routes)
put_ascends route routes h = insert_ascends route (without route.dst routes) (none_there route.dst routes) (without_ascends route.dst routes h)

gone_ascends : (routes : List BgpRoute) (nets : List Net4) → AreAscending routes → AreAscending (withdrawn_from routes nets)
gone_ascends routes [] h = h
gone_ascends routes (net ∷ nets) h = gone_ascends (gone routes net) nets (without_ascends (cleared net) routes h)

come_ascends : (gw : Ip4) (routes : List BgpRoute) (nets : List Net4) → AreAscending routes → AreAscending (announced_in gw routes nets)
come_ascends gw routes [] h = h
come_ascends gw routes (net ∷ nets) h = come_ascends gw (come gw routes net) nets (put_ascends (record { dst = cleared net; gw = gw }) routes h)

after_ascends : (our_as : ℕ) (routes : List BgpRoute) (u : Update) → AreAscending routes → AreAscending (after our_as routes u)
after_ascends our_as routes u h =
    let left = withdrawn_from routes u.withdrawn in
    by (is_looped our_as u) (gone_ascends routes u.withdrawn h)
  where
    by : (b : Bool) → AreAscending (withdrawn_from routes u.withdrawn)
        → AreAscending (cond b (withdrawn_from (withdrawn_from routes u.withdrawn) u.announced) (announced_in u.next_hop (withdrawn_from routes u.withdrawn) u.announced))
    by true k = gone_ascends (withdrawn_from routes u.withdrawn) u.announced k
    by false k = come_ascends u.next_hop (withdrawn_from routes u.withdrawn) u.announced k

ascend_from : (our_as : ℕ) (routes : List BgpRoute) (story : List Change) → AreAscending routes → AreAscending (fold (leads our_as) routes story)
ascend_from our_as routes [] h = h
ascend_from our_as routes (updated u ∷ story) h =
    ascend_from our_as (leads our_as routes (updated u)) story (by (nat_lt 1024 (length (after our_as routes u))) (after_ascends our_as routes u h))
  where
    by : (b : Bool) → AreAscending (after our_as routes u) → AreAscending (cond b routes (after our_as routes u))
    by true k = h
    by false k = k
ascend_from our_as routes (ended ∷ story) h = ascend_from our_as [] story tt

pub are_ascending : (our_as : ℕ) (story : List Change) → AreAscending (routes_of our_as story)
are_ascending our_as story = ascend_from our_as [] story tt
