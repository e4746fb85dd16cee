-- The routes that were met so far, and what they say of a route.
use Rattle.std.proofs.Common.{◌≡◌, ℕ, ◌+◌, ◌<◌, ◌==◌, ◌&&◌, ◌||◌, Bool, true, false, List, [], take, length, get_or, eq-eqb, refl, sym, ap, ◌∙◌}
use Rattle.std.specs.HashSet.{HashSet, Updates}
use Rattle.std.specs.List.{list_any}
use Rattle.conf_types.specs.declared.vlan.Route.{Route}
use Rattle.conf_types.specs.declared.vlan.Vlan.{Vlan}
use Rattle.conf_types.specs.Configuration.{Configuration}
use Rattle.conf_types.specs.Families.{ip_value, is_same_family, address_of, len_of}
use Rattle.conf_types.specs.Lists.{is_among}
use Rattle.conf_limits.specs.declared.met_routes.Destination.{Destination}
use Rattle.conf_limits.specs.MetRoutes.{is_same_destination, destination_of, has_route, has_same_route, has_same_route_so_far, HasRoutes}
use Rattle.conf_rules.specs.Routing.{are_routed, is_same_route}
use Rattle.conf_rules.proofs.Earlier.{any_more}
use Rattle.conf_limits.proofs.Exchanged.{any-same, exchanged_or}
use Rattle.conf_rules.proofs.SeenNames.{cond_or}

regrouped : (a b c : Bool) → (a && (b && c)) ≡ ((a && b) && c)
regrouped true b c = refl
regrouped false b c = refl

module _ {S : Type 0} (met more : HashSet Destination S) where
  -- a route more
  pub route_more : (k : Destination) (vid : ℕ) (route : Route) → k ≡ destination_of vid route → Updates is_same_destination met more k true
      → (n : ℕ) (r : Route) → has_route more n r ≡ (has_route met n r || (vid == n && is_same_route route r))
  route_more k vid route e u n r =
      u.0 (destination_of n r)
      ∙ cond_or (is_same_destination k (destination_of n r)) (has_route met n r)
      ∙ ap (λ (d : Destination). has_route met n r || is_same_destination d (destination_of n r)) e
      ∙ ap (λ b. has_route met n r || (vid == n && b))
      (regrouped (is_same_family (address_of route.dst) (address_of r.dst)) (ip_value (address_of route.dst) == ip_value (address_of r.dst)) (len_of route.dst == len_of r.dst))

  -- of the VLAN that stands behind those VLANs
  pub routes_more : (vlans : List Vlan) (vid : ℕ) (xs ys : List Route) (i : ℕ) (route : Route) → ys ≡ xs → i < length ys → route ≡ get_or ys i route
      → HasRoutes met (has_same_route_so_far vlans vid (take i xs)) → ((n : ℕ) (r : Route) → has_route more n r ≡ (has_route met n r || (vid == n && is_same_route route r)))
      → HasRoutes more (has_same_route_so_far vlans vid (take (i + 1) xs))
  routes_more vlans vid xs ys i route e lt is has grown = λ n r.
      grown n r
      ∙ ap (λ b. b || (vid == n && is_same_route route r)) (has n r)
      ∙ widened (has_same_route vlans n r) (vid == n) (list_any (λ other. is_same_route other r) (take i xs)) (is_same_route route r)
      ∙ ap (λ b. has_same_route vlans n r || (vid == n && b)) (sym (any_more (λ other. is_same_route other r) xs ys i route e lt is))
    where
      widened : (a b c d : Bool) → ((a || (b && c)) || (b && d)) ≡ (a || (b && (c || d)))
      widened true b c d = refl
      widened false true c d = refl
      widened false false c d = refl

module _ {S : Type 0} (met : HashSet Destination S) where
  -- of the next VLAN, none so far
  pub no_routes : (vlans : List Vlan) (vid : ℕ) → HasRoutes met (has_same_route vlans) → HasRoutes met (has_same_route_so_far vlans vid [])
  no_routes vlans vid has = λ n r. has n r ∙ none (has_same_route vlans n r) (vid == n)
    where
      none : (a b : Bool) → a ≡ (a || (b && false))
      none true b = refl
      none false true = refl
      none false false = refl

  -- all of them
  pub vlan_more : (xs ys : List Vlan) (i : ℕ) (v : Vlan) → ys ≡ xs → i < length ys → v ≡ get_or ys i v
      → HasRoutes met (has_same_route_so_far (take i ys) v.vid v.routes) → HasRoutes met (has_same_route (take (i + 1) xs))
  vlan_more xs ys i v e lt is has = λ n r.
      has n r
      ∙ ap (λ (vs : List Vlan). has_same_route_so_far (take i vs) v.vid v.routes n r) e
      ∙ sym (any_more (λ w. w.vid == n && list_any (λ other. is_same_route other r) w.routes) xs ys i v e lt is)

  -- a route to the same network, of a VLAN that packets are routed to
  pub met_before : (conf : Configuration) (vids : List ℕ) (vlans : List Vlan) (vid : ℕ) (routes : List Route) (route : Route)
      → HasRoutes met (has_same_route_so_far vlans vid routes) → ((n : ℕ) → is_among vids n ≡ are_routed conf n vid)
      → list_any (λ n. has_route met n route) vids
      ≡ (list_any (λ w. are_routed conf w.vid vid && list_any (λ other. is_same_route other route) w.routes) vlans || list_any (λ other. is_same_route other route) routes)
  met_before conf vids vlans vid routes route has routed =
      any-same (λ n. has_route met n route) (λ n. has_same_route_so_far vlans vid routes n route) (λ n. has n route) vids
      ∙ exchanged_or (λ w. w.vid) (λ w. list_any (λ other. is_same_route other route) w.routes) (λ n. are_routed conf n vid) vids vlans vid (list_any (λ other. is_same_route other route) routes) routed
      (ap (λ b. b || list_any (λ r. is_among r.vlans vid && is_among r.vlans vid) conf.routers) (eq-eqb vid vid refl))
