-- What an UPDATE makes of the way to each network.
use Rattle.std.proofs.Common.{◌≡◌, ℕ, Bool, true, false, cond, ◌||◌, List, [], ◌∷◌, Option, Some, None, refl, ap, ◌∙◌}
use Rattle.net_base.specs.declared.address.Ip4.{Ip4}
use Rattle.net_base.specs.declared.net4.Net4.{Net4}
use Rattle.bgp_messages.specs.declared.message.Update.{Update}
use Rattle.bgp_routes.specs.declared.routes.BgpRoute.{BgpRoute}
use Rattle.bgp_routes.specs.Networks.{cleared, is_same}
use Rattle.bgp_routes.specs.Sets.{via}
use Rattle.bgp_routes.specs.Updates.{is_looped, gone, withdrawn_from, come, announced_in, after, names}
use Rattle.bgp_routes.proofs.Ways.{taken_out, set_way}

-- of the networks behind the first one, and of the first one
either : (first behind : Bool) (way old now next : Option Ip4) → next ≡ cond behind way now → now ≡ cond first way old → next ≡ cond (first || behind) way old
either first true way old now next e f = e ∙ by first
  where
    by : (b : Bool) → way ≡ cond (b || true) way old
    by true = refl
    by false = refl
either true false way old now next e f = e ∙ f
either false false way old now next e f = e ∙ f

pub gone_ways : (routes : List BgpRoute) (nets : List Net4) (net : Net4) → via net (withdrawn_from routes nets) ≡ cond (names nets net) None (via net routes)
gone_ways routes [] net = refl
gone_ways routes (n ∷ nets) net =
    either (is_same (cleared n) net) (names nets net) None (via net routes) (via net (gone routes n)) (via net (withdrawn_from (gone routes n) nets))
    (gone_ways (gone routes n) nets net)
    (taken_out (cleared n) routes net)

pub come_ways : (gw : Ip4) (routes : List BgpRoute) (nets : List Net4) (net : Net4) → via net (announced_in gw routes nets) ≡ cond (names nets net) (Some gw) (via net routes)
come_ways gw routes [] net = refl
come_ways gw routes (n ∷ nets) net =
    either (is_same (cleared n) net) (names nets net) (Some gw) (via net routes) (via net (come gw routes n)) (via net (announced_in gw (come gw routes n) nets))
    (come_ways gw (come gw routes n) nets net)
    (set_way (record { dst = cleared n; gw = gw }) routes net)

module _ (our_as : ℕ) (routes : List BgpRoute) (u : Update) (net : Net4) where
  abbrev way : (looped announced withdrawn : Bool) → Option Ip4
  way looped announced withdrawn = cond announced (cond looped None (Some u.next_hop)) (cond withdrawn None (via net routes))

  after_ways : via net (after our_as routes u) ≡ way (is_looped our_as u) (names u.announced net) (names u.withdrawn net)
  after_ways = by (is_looped our_as u)
    where
      by : (b : Bool)
          → via net (cond b (withdrawn_from (withdrawn_from routes u.withdrawn) u.announced) (announced_in u.next_hop (withdrawn_from routes u.withdrawn) u.announced))
          ≡ way b (names u.announced net) (names u.withdrawn net)
      by true =
          gone_ways (withdrawn_from routes u.withdrawn) u.announced net
          ∙ ap (cond (names u.announced net) None) (gone_ways routes u.withdrawn net)
      by false =
          come_ways u.next_hop (withdrawn_from routes u.withdrawn) u.announced net
          ∙ ap (cond (names u.announced net) (Some u.next_hop)) (gone_ways routes u.withdrawn net)

  pub announced_way : names u.announced net ≡ true → via net (after our_as routes u) ≡ cond (is_looped our_as u) None (Some u.next_hop)
  announced_way e = after_ways ∙ ap (λ b. way (is_looped our_as u) b (names u.withdrawn net)) e

  pub withdrawn_way : names u.announced net ≡ false → names u.withdrawn net ≡ true → via net (after our_as routes u) ≡ None
  withdrawn_way e f =
      after_ways ∙ ap (λ b. way (is_looped our_as u) b (names u.withdrawn net)) e ∙ ap (way (is_looped our_as u) false) f

  pub other_way : names u.announced net ≡ false → names u.withdrawn net ≡ false → via net (after our_as routes u) ≡ via net routes
  other_way e f =
      after_ways ∙ ap (λ b. way (is_looped our_as u) b (names u.withdrawn net)) e ∙ ap (way (is_looped our_as u) false) f
