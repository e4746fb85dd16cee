-- What setting and taking out do to the way to a network.
use Rattle.std.proofs.Common.{◌≡◌, suc, Bool, true, false, not, cond, ◌&&◌, eqb, List, [], ◌∷◌, Option, Some, None, refl, sym, ap, ◌∙◌}
use Rattle.std.specs.Prelude.{insert}
use Rattle.std.proofs.lemmas.Bool.{eqb-true, eq-eqb}
use Rattle.net_base.specs.declared.address.Ip4.{Ip4}
use Rattle.net_base.specs.declared.net4.Net4.{Net4}
use Rattle.bgp_routes.specs.declared.routes.BgpRoute.{BgpRoute}
use Rattle.bgp_routes.specs.Networks.{is_before, is_same}
use Rattle.bgp_routes.specs.Sets.{via, without, place, put}

-- ---- one network

and_parts : (a b : Bool) → (a && b) ≡ true → (a ≡ true) × (b ≡ true)
and_parts true true e = (refl, refl)
and_parts true false e = absurd (cc)
and_parts false b e = absurd (cc)

pub same_parts : (a b : Net4) → is_same a b ≡ true → (a.ip.0 ≡ b.ip.0) × (a.len ≡ b.len)
same_parts a b e = let p = and_parts (eqb a.ip.0 b.ip.0) (eqb a.len b.len) e in (eqb-true _ _ p.0, eqb-true _ _ p.1)

pub same_itself : (a : Net4) → is_same a a ≡ true
same_itself a = ap (λ b. b && eqb a.len a.len) (eq-eqb a.ip.0 a.ip.0 refl) ∙ eq-eqb a.len a.len refl

-- of two networks that are the same each is the same as a third one, or none is
pub same_left : (a b net : Net4) → is_same a b ≡ true → is_same a net ≡ is_same b net
same_left a b net e =
    let p = same_parts a b e in
    ap (λ x. eqb x net.ip.0 && eqb a.len net.len) p.0 ∙ ap (λ x. eqb b.ip.0 net.ip.0 && eqb x net.len) p.1

pub same_right : (net a b : Net4) → is_same a b ≡ true → is_same net a ≡ is_same net b
same_right net a b e =
    let p = same_parts a b e in
    ap (λ x. eqb net.ip.0 x && eqb net.len a.len) p.0 ∙ ap (λ x. eqb net.ip.0 b.ip.0 && eqb net.len x) p.1

pub three : (x a b : Net4) → is_same x a ≡ false → is_same a b ≡ true → is_same x b ≡ true → ⊥
three x a b p q r = let e : false ≡ true = sym p ∙ same_right x a b q ∙ r in cc

-- ---- taking out

module _ (gone net : Net4) (r : BgpRoute) (routes : List BgpRoute) (rest : via net (without gone routes) ≡ cond (is_same gone net) None (via net routes)) where
  out_same : is_same r.dst gone ≡ true → cond (is_same gone net) None (via net routes) ≡ cond (is_same gone net) None (cond (is_same r.dst net) (Some r.gw) (via net routes))
  out_same e = by (is_same gone net) (is_same r.dst net) (same_left r.dst gone net e)
    where
      by : (c d : Bool) → d ≡ c → cond c None (via net routes) ≡ cond c None (cond d (Some r.gw) (via net routes))
      by true d q = refl
      by false true q = absurd (cc)
      by false false q = refl

  out_other : is_same r.dst gone ≡ false → cond (is_same r.dst net) (Some r.gw) (via net (without gone routes)) ≡ cond (is_same gone net) None (cond (is_same r.dst net) (Some r.gw) (via net routes))
  out_other e = by (is_same gone net) (is_same r.dst net) refl refl rest
    where
      by : (c d : Bool) → is_same gone net ≡ c → is_same r.dst net ≡ d → via net (without gone routes) ≡ cond c None (via net routes)
          → cond d (Some r.gw) (via net (without gone routes)) ≡ cond c None (cond d (Some r.gw) (via net routes))
      by true true p q h = absurd (three r.dst gone net e p q)
      by true false p q h = h
      by false true p q h = refl
      by false false p q h = h

  out_step : (b : Bool) → is_same r.dst gone ≡ b
      → via net (cond (not b) (r ∷ without gone routes) (without gone routes)) ≡ cond (is_same gone net) None (cond (is_same r.dst net) (Some r.gw) (via net routes))
  out_step true e = rest ∙ out_same e
  out_step false e = out_other e

none_left : (c : Bool) → ◌≡◌ {A = Option Ip4} None (cond c None None)
none_left true = refl
none_left false = refl

pub taken_out : (gone : Net4) (routes : List BgpRoute) (net : Net4) → via net (without gone routes) ≡ cond (is_same gone net) None (via net routes)
taken_out gone [] net = none_left (is_same gone net)
taken_out gone (r ∷ routes) net = out_step gone net r routes (taken_out gone routes net) (is_same r.dst gone) refl

pub none_there : (gone : Net4) (routes : List BgpRoute) → via gone (without gone routes) ≡ None
none_there gone routes = taken_out gone routes gone ∙ ap (λ c. cond c None (via gone routes)) (same_itself gone)

-- ---- setting

-- no route in the list leads to the network
pub first_other : (net : Net4) (r : BgpRoute) (routes : List BgpRoute) → via net (r ∷ routes) ≡ None → (is_same r.dst net ≡ false) × (via net routes ≡ None)
first_other net r routes = by (is_same r.dst net) refl
  where
    by : (b : Bool) → is_same r.dst net ≡ b → cond b (Some r.gw) (via net routes) ≡ None → (is_same r.dst net ≡ false) × (via net routes ≡ None)
    by true e h = absurd (cc)
    by false e h = (e, h)

module _ (route : BgpRoute) (net : Net4) (r : BgpRoute) (routes : List BgpRoute) (apart : is_same r.dst route.dst ≡ false) (made : List BgpRoute)
    (rest : via net made ≡ cond (is_same route.dst net) (Some route.gw) (via net routes)) where
  in_behind : cond (is_same r.dst net) (Some r.gw) (via net made) ≡ cond (is_same route.dst net) (Some route.gw) (cond (is_same r.dst net) (Some r.gw) (via net routes))
  in_behind = by (is_same route.dst net) (is_same r.dst net) refl refl rest
    where
      by : (c d : Bool) → is_same route.dst net ≡ c → is_same r.dst net ≡ d → via net made ≡ cond c (Some route.gw) (via net routes)
          → cond d (Some r.gw) (via net made) ≡ cond c (Some route.gw) (cond d (Some r.gw) (via net routes))
      by true true p q h = absurd (three r.dst route.dst net apart p q)
      by true false p q h = h
      by false true p q h = refl
      by false false p q h = h

set_in : (route : BgpRoute) (net : Net4) (routes : List BgpRoute) → via route.dst routes ≡ None
    → via net (insert routes (place route.dst routes) route) ≡ cond (is_same route.dst net) (Some route.gw) (via net routes)
set_in route net [] h = refl
set_in route net (r ∷ routes) h =
    let p = first_other route.dst r routes h in
    by (is_before r.dst route.dst) (in_behind route net r routes p.0 (insert routes (place route.dst routes) route) (set_in route net routes p.1))
  where
    by : (b : Bool) → cond (is_same r.dst net) (Some r.gw) (via net (insert routes (place route.dst routes) route)) ≡ cond (is_same route.dst net) (Some route.gw) (via net (r ∷ routes))
        → via net (insert (r ∷ routes) (cond b (suc (place route.dst routes)) 0) route) ≡ cond (is_same route.dst net) (Some route.gw) (via net (r ∷ routes))
    by true q = q
    by false q = refl

pub set_way : (route : BgpRoute) (routes : List BgpRoute) (net : Net4) → via net (put route routes) ≡ cond (is_same route.dst net) (Some route.gw) (via net routes)
set_way route routes net =
    set_in route net (without route.dst routes) (none_there route.dst routes) ∙ ap (cond (is_same route.dst net) (Some route.gw)) (taken_out route.dst routes net) ∙ by (is_same route.dst net)
  where
    by : (c : Bool) → cond c (Some route.gw) (cond c None (via net routes)) ≡ cond c (Some route.gw) (via net routes)
    by true = refl
    by false = refl
