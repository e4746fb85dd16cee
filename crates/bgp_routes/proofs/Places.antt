-- Where a network has its place.
use Rattle.std.proofs.Common.{◌≡◌, ℕ, suc, ◌+◌, ◌≤◌, ◌<◌, Bool, true, false, cond, List, [], ◌∷◌, length, drop, get_or, sym, ap, ◌∙◌, arith, drop-cons, add-one}
use Rattle.std.proofs.lemmas.List.{drop_all}
use Rattle.net_base.specs.declared.net4.Net4.{Net4}
use Rattle.bgp_routes.specs.declared.routes.BgpRoute.{BgpRoute}
use Rattle.bgp_routes.specs.Networks.{is_before}
use Rattle.bgp_routes.specs.Sets.{place}

place_most : (net : Net4) (routes : List BgpRoute) → place net routes ≤ length routes
place_most net [] = omega arith
place_most net (r ∷ routes) = by (is_before r.dst net) (place_most net routes)
  where
    by : (b : Bool) → place net routes ≤ length routes → cond b (suc (place net routes)) 0 ≤ suc (length routes)
    by true h = omega arith
    by false h = omega arith

-- ---- as a loop goes

module _ (net : Net4) (routes : List BgpRoute) (i : ℕ) (r : BgpRoute) (below : i < length routes) (is : r ≡ get_or routes i r) where
  cut : drop i routes ≡ r ∷ drop (i + 1) routes
  cut = drop-cons routes i r below ∙ ap (λ x. x ∷ drop (suc i) routes) (sym is) ∙ ap (λ n. r ∷ drop n routes) (sym (add-one i))

  here : (b : Bool) → is_before r.dst net ≡ b → place net (drop i routes) ≡ cond b (suc (place net (drop (i + 1) routes))) 0
  here b e = ap (place net) cut ∙ ap (λ c. cond c (suc (place net (drop (i + 1) routes))) 0) e

  pub place_found : i + place net (drop i routes) ≡ place net routes → is_before r.dst net ≡ false → i ≡ place net routes
  place_found so e = omega (arith, so, here false e)

  pub place_goes_on : i + place net (drop i routes) ≡ place net routes → is_before r.dst net ≡ true → i + 1 + place net (drop (i + 1) routes) ≡ place net routes
  place_goes_on so e = omega (arith, so, here true e)

pub place_ends : (net : Net4) (routes : List BgpRoute) (i : ℕ) → length routes ≡ i → i + place net (drop i routes) ≡ place net routes → length routes ≡ place net routes
place_ends net routes i past so = omega (arith, so, past, ap (place net) (drop_all i routes (omega (arith, past))))

pub place_within : (net : Net4) (routes : List BgpRoute) (n : ℕ) → n ≡ place net routes → n ≤ length routes
place_within net routes n e = omega (arith, e, place_most net routes)
