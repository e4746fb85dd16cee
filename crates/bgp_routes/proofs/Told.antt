-- Routes in order are told by their ways, and lead to networks.
use Rattle.std.proofs.Common.{◌≡◌, ℕ, suc, ◌/◌, ◌^◌, ◌-◌, Bool, true, false, not, cond, List, [], ◌∷◌, length, fold, Option, Some, None, refl, sym, ap, ◌∙◌, arith}
use Rattle.std.specs.Prelude.{nat_lt, insert}
use Rattle.std.proofs.Math.Nat.{mul-mod_left}
use Rattle.std.proofs.lemmas.Bool.Decides.{nat_tests}
use Rattle.net_base.specs.declared.address.Ip4.{Ip4}
use Rattle.net_base.specs.declared.net4.Net4.{Net4}
use Rattle.bgp_messages.specs.declared.message.Update.{Update}
use Rattle.bgp_messages.proofs.PrefixLaws.{net_same}
use Rattle.bgp_routes.specs.declared.routes.BgpRoute.{BgpRoute}
use Rattle.bgp_routes.specs.Networks.{cleared, IsNetwork, is_before, is_same}
use Rattle.bgp_routes.specs.Sets.{via, without, place, AreAscending, LeadToNetworks}
use Rattle.bgp_routes.specs.Updates.{is_looped, gone, withdrawn_from, come, announced_in, after}
use Rattle.bgp_routes.specs.Stories.{Change, updated, ended, leads, routes_of}
use Rattle.bgp_routes.proofs.Ways.{same_parts, same_itself}
use Rattle.bgp_routes.proofs.Ascending.{AllBehind, behind_else, through_all}

-- ---- told by their ways

apart : (a b : Net4) → is_before a b ≡ true → is_same b a ≡ false
apart a b e = grind (arith, nat_tests, e)

none_behind : (net : Net4) (routes : List BgpRoute) → AllBehind net routes → via net routes ≡ None
none_behind net [] h = refl
none_behind net (r ∷ routes) h = ap (λ b. cond b (Some r.gw) (via net routes)) (apart net r.dst h.0) ∙ none_behind net routes h.1

-- the first of a list is its own way
first_way : (r : BgpRoute) (routes : List BgpRoute) → via r.dst (r ∷ routes) ≡ Some r.gw
first_way r routes = ap (λ b. cond b (Some r.gw) (via r.dst routes)) (same_itself r.dst)

-- a network before the first has no way
none_before : (net : Net4) (r : BgpRoute) (routes : List BgpRoute) → is_before net r.dst ≡ true → AllBehind r.dst routes → via net (r ∷ routes) ≡ None
none_before net r routes e h = none_behind net (r ∷ routes) (e, through_all net r.dst routes e h)

some_is_some : (a b : Ip4) → ◌≡◌ {A = Option Ip4} (Some a) (Some b) → a ≡ b
some_is_some a b e = cc

module _ (r s : BgpRoute) (xs ys : List BgpRoute) (behind_a : AllBehind r.dst xs) (behind_b : AllBehind s.dst ys) (same : (net : Net4) → via net (r ∷ xs) ≡ via net (s ∷ ys)) where
  not_before : is_before r.dst s.dst ≡ true → ⊥
  not_before e = let q : Some r.gw ≡ None = sym (first_way r xs) ∙ same r.dst ∙ none_before r.dst s ys e behind_b in cc

  not_behind : is_before s.dst r.dst ≡ true → ⊥
  not_behind e = let q : Some s.gw ≡ None = sym (first_way s ys) ∙ sym (same s.dst) ∙ none_before s.dst r xs e behind_a in cc

  firsts_same : is_same r.dst s.dst ≡ true
  firsts_same = by (is_before r.dst s.dst) (is_same r.dst s.dst) refl refl
    where
      by : (c d : Bool) → is_before r.dst s.dst ≡ c → is_same r.dst s.dst ≡ d → is_same r.dst s.dst ≡ true
      by true d e f = absurd (not_before e)
      by false true e f = f
      by false false e f = absurd (not_behind (behind_else r.dst s.dst e f))

  dst : r.dst ≡ s.dst
  dst = let p = same_parts r.dst s.dst firsts_same in net_same r.dst s.dst p.0 p.1

  gw : r.gw ≡ s.gw
  gw = some_is_some r.gw s.gw (sym (first_way r xs) ∙ same r.dst ∙ ap (λ net. via net (s ∷ ys)) dst ∙ first_way s ys)

  firsts : r ≡ s
  firsts = ap (λ d. record { dst = d; gw = r.gw }) dst ∙ ap (λ g. record { dst = s.dst; gw = g }) gw

  behind : (net : Net4) → via net xs ≡ via net ys
  behind net = by (is_same r.dst net) (is_same s.dst net) refl (ap (λ d. is_same d net) (sym dst)) (same net)
    where
      here : is_same r.dst net ≡ true → via net xs ≡ via net ys
      here e =
          let p = same_parts r.dst net e in
          let q = net_same r.dst net p.0 p.1 in
          ap (λ n. via n xs) (sym q) ∙ none_behind r.dst xs behind_a ∙ sym (none_behind s.dst ys behind_b) ∙ ap (λ n. via n ys) (sym dst ∙ q)

      by : (c d : Bool) → is_same r.dst net ≡ c → d ≡ is_same r.dst net → cond c (Some r.gw) (via net xs) ≡ cond d (Some s.gw) (via net ys) → via net xs ≡ via net ys
      by true d e f h = here e
      by false true e f h = absurd (let q : true ≡ false = f ∙ e in cc)
      by false false e f h = h

pub by_ways : (a b : List BgpRoute) → AreAscending a → AreAscending b → ((net : Net4) → via net a ≡ via net b) → a ≡ b
by_ways [] [] h k e = refl
by_ways [] (s ∷ ys) h k e = absurd (let q : None ≡ Some s.gw = e s.dst ∙ first_way s ys in cc)
by_ways (r ∷ xs) [] h k e = absurd (let q : None ≡ Some r.gw = sym (e r.dst) ∙ first_way r xs in cc)
by_ways (r ∷ xs) (s ∷ ys) h k e =
    ap (λ x. x ∷ xs) (firsts r s xs ys h.0 k.0 e) ∙ ap (λ zs. s ∷ zs) (by_ways xs ys h.1 k.1 (behind r s xs ys h.0 k.0 e))

-- ---- networks

cleared_is : (net : Net4) → IsNetwork (cleared net)
cleared_is net = mul-mod_left (net.ip.0 / 2 ^ (32 - net.len)) (2 ^ (32 - net.len))

without_leads : (gone_ : Net4) (routes : List BgpRoute) → LeadToNetworks routes → LeadToNetworks (without gone_ routes)
without_leads gone_ [] h = tt
without_leads gone_ (r ∷ routes) h = by (is_same r.dst gone_) (without_leads gone_ routes h.1)
  where
    by : (b : Bool) → LeadToNetworks (without gone_ routes) → LeadToNetworks (cond (not b) (r ∷ without gone_ routes) (without gone_ routes))
    by true k = k
    by false k = (h.0, k)

insert_leads : (route : BgpRoute) (routes : List BgpRoute) → IsNetwork route.dst → LeadToNetworks routes → LeadToNetworks (insert routes (place route.dst routes) route)
insert_leads route [] e h = (e, tt)
insert_leads route (r ∷ routes) e h = by (is_before r.dst route.dst) (insert_leads route routes e h.1)
  where
    by : (b : Bool) → LeadToNetworks (insert routes (place route.dst routes) route) → LeadToNetworks (insert (r ∷ routes) (cond b (suc (place route.dst routes)) 0) route)
    by true k = (h.0, k)
    by false k = (e, h)

gone_leads : (routes : List BgpRoute) (nets : List Net4) → LeadToNetworks routes → LeadToNetworks (withdrawn_from routes nets)
gone_leads routes [] h = h
gone_leads routes (net ∷ nets) h = gone_leads (gone routes net) nets (without_leads (cleared net) routes h)

come_leads : (gw : Ip4) (routes : List BgpRoute) (nets : List Net4) → LeadToNetworks routes → LeadToNetworks (announced_in gw routes nets)
come_leads via_ routes [] h = h
come_leads via_ routes (net ∷ nets) h =
    come_leads via_ (come via_ routes net) nets
    (insert_leads (record { dst = cleared net; gw = via_ }) (without (cleared net) routes) (cleared_is net) (without_leads (cleared net) routes h))

after_leads : (our_as : ℕ) (routes : List BgpRoute) (u : Update) → LeadToNetworks routes → LeadToNetworks (after our_as routes u)
after_leads our_as routes u h = by (is_looped our_as u) (gone_leads routes u.withdrawn h)
  where
    by : (b : Bool) → LeadToNetworks (withdrawn_from routes u.withdrawn)
        → LeadToNetworks (cond b (withdrawn_from (withdrawn_from routes u.withdrawn) u.announced) (announced_in u.next_hop (withdrawn_from routes u.withdrawn) u.announced))
    by true k = gone_leads (withdrawn_from routes u.withdrawn) u.announced k
    by false k = come_leads u.next_hop (withdrawn_from routes u.withdrawn) u.announced k

lead_from : (our_as : ℕ) (routes : List BgpRoute) (story : List Change) → LeadToNetworks routes → LeadToNetworks (fold (leads our_as) routes story)
lead_from our_as routes [] h = h
lead_from our_as routes (updated u ∷ story) h =
    lead_from our_as (leads our_as routes (updated u)) story (by (nat_lt 1024 (length (after our_as routes u))) (after_leads our_as routes u h))
  where
    by : (b : Bool) → LeadToNetworks (after our_as routes u) → LeadToNetworks (cond b routes (after our_as routes u))
    by true k = h
    by false k = k
lead_from our_as routes (ended ∷ story) h = lead_from our_as [] story tt

pub lead_to_networks : (our_as : ℕ) (story : List Change) → LeadToNetworks (routes_of our_as story)
lead_to_networks our_as story = lead_from our_as [] story tt
