-- Until the first host turns stale or is to be forgotten, or a neighbour is due, what rests goes on resting.
use Rattle.std.proofs.Common.{◌≡◌, ℕ, ◌<◌, ◌≤◌, ◌==◌, ◌&&◌, ◌||◌, ◌++◌, Bool, true, false, cond, not, Option, Some, None, List, [], ◌∷◌, map, filter, find, nat_lt, nat_le, refl, inl, inr, sym, ap, subst, ◌∙◌, arith, if◌then◌else◌}
use Rattle.std.specs.Prelude.{min}
use Rattle.std.specs.List.{AllByRecursion, flat_map, fold}
use Rattle.std.specs.Option.{option_map, option_map_or}
use Rattle.std.proofs.lemmas.Bool.{le-ltb, lt-leb, lt-ltb, ltb-false}
use Rattle.net_base.specs.declared.numbers.DpId.{DpId}
use Rattle.net_base.specs.declared.numbers.Moment.{Moment}
use Rattle.of_match.specs.declared.entry.Command.TheVariants.{Add}
use Rattle.of_match.specs.declared.entry.Entry.{Entry}
use Rattle.of_match.specs.Settled.{after_all}
use Rattle.conf_types.specs.declared.datapath.Dp.{Dp}
use Rattle.conf_types.specs.declared.state.HostRec.{HostRec}
use Rattle.conf_types.specs.declared.state.NeighRec.{NeighRec}
use Rattle.conf_types.specs.Configuration.{Configuration, dp_with}
use Rattle.conf_types.specs.State.{State, forgotten_at, is_fresh, is_permanent, is_stale, is_to_forget, stale_at}
use Rattle.host_learn.specs.Table.{Table as Hosts}
use Rattle.packet_way.specs.Known.{stack_of}
use Rattle.plan_base.specs.declared.table.Table.TheVariants.{Source, Ipv4Route}
use Rattle.plan_base.specs.Actions.{to_controller}
use Rattle.plan_base.specs.Entries.{entry, leads_to}
use Rattle.plan_base.specs.Fields.{eth_src, in_port, vid_field}
use Rattle.plan_units.specs.Fixed.{fixed}
use Rattle.plan_units.specs.Units.{is_of_group, of_port, of_routes, of_vlan, plan}
use Rattle.vlan_compile.specs.Destinations.{destinations}
use Rattle.vlan_compile.specs.Sources.{elsewhere}
use Rattle.cold_start.specs.Cold.{cold}
use Rattle.neighbour_resolve.specs.Due.{is_due, never, said_of}
use Rattle.ctl_world.specs.Alike.{IsAlike}
use Rattle.ctl_world.specs.World.{World, now}
use Rattle.ctl_settle.specs.Rest.{AreBounded, IsAtRest, NoneIsOver, RestsUntil, at_moment, host_until, hosts_until, neighbours_until, rests_until}
use Rattle.ctl_settle.specs.Settling.{wanted}

-- ---- the least of a list

module _ {A : Type 0} (f : A → ℕ) where
  least_first : (first : ℕ) (xs : List A) → fold (λ least x. min least (f x)) first xs ≤ first
  least_first first [] = omega arith
  least_first first (x ∷ xs) = omega (arith, least_first (min first (f x)) xs)

  least_each : (m first : ℕ) (xs : List A) → m < fold (λ least x. min least (f x)) first xs → AllByRecursion (λ x. m < f x) xs
  least_each m first [] less = tt
  least_each m first (x ∷ xs) less = (omega (arith, less, least_first (min first (f x)) xs), least_each m (min first (f x)) xs less)

  -- a bound of each is one of the least
  bounded_least : (bound first : ℕ) (xs : List A) → bound ≤ first → AllByRecursion (λ x. bound ≤ f x) xs → bound ≤ fold (λ least x. min least (f x)) first xs
  bounded_least bound first [] less all = less
  bounded_least bound first (x ∷ xs) less all = bounded_least bound (min first (f x)) xs (omega (arith, less, all.0)) all.1

  least_bounded : (bound first : ℕ) (xs : List A) → bound ≤ fold (λ least x. min least (f x)) first xs → AllByRecursion (λ x. bound ≤ f x) xs
  least_bounded bound first [] less = tt
  least_bounded bound first (x ∷ xs) less = (omega (arith, less, least_first (min first (f x)) xs), least_bounded bound (min first (f x)) xs less)

-- ---- hosts

-- before its end, and before a later one where that is past, a host stays as fresh as it is, and isn't to be forgotten
fresh_by : (moment m end over : ℕ) → moment ≤ m → end ≤ over → (stays fresh : Bool) → nat_lt moment end ≡ fresh
    → m < (if stays then never else if (stays || fresh) then end else over)
    → (not (stays || nat_lt m end) ≡ not (stays || nat_lt moment end)) × (not (not stays && nat_le over m) ≡ true)
fresh_by moment m end over from order true fresh is before = (refl, refl)
fresh_by moment m end over from order false true is before =
    (ap not (lt-ltb m end before ∙ sym is), ap not (lt-leb over m (omega (arith, before, order))))
fresh_by moment m end over from order false false is before =
    (ap not (le-ltb m end (omega (arith, ltb-false moment end is, from)) ∙ sym is), ap not (lt-leb over m before))

module _ (conf : Configuration) (moment m : ℕ) (from : moment ≤ m) where
  as_fresh : (h : HostRec) → m < host_until conf moment h → (is_stale conf m h ≡ is_stale conf moment h) × (not (is_to_forget conf m h) ≡ true)
  as_fresh h =
      let end : ℕ = stale_at conf h.dp h.learned.0 in
      let over : ℕ = forgotten_at conf h.dp h.learned.0 in
      fresh_by moment m end over from (omega arith) (is_permanent conf h) (nat_lt moment end) refl

  -- ---- the entries look at the moment by nothing else

  module _ (state : State) (d : Dp) where
    abbrev by_stale : HostRec → Bool → List Entry
    by_stale h stale =
        ((if h.dp.0 == d.id.0 then entry Source 30 (in_port h.port ∷ eth_src h.mac ∷ vid_field h.vid ∷ []) (leads_to (if stale then to_controller ∷ [] else []) (Some Ipv4Route)) ∷ [] else [])
        ++ (if is_permanent conf h then elsewhere h ∷ [] else [])) ++ destinations d h (stack_of conf state.ups)

    abbrev hosts_at : ℕ → List HostRec → List Entry
    hosts_at n hosts = flat_map (λ h. by_stale h (is_stale conf n h)) (filter (is_of_group conf d) hosts)

    hosts_same : (hosts : List HostRec) → AllByRecursion (λ h. m < host_until conf moment h) hosts → hosts_at m hosts ≡ hosts_at moment hosts
    hosts_same [] before = refl
    hosts_same (h ∷ hosts) before =
        elim (is_of_group conf d h) as (λ b. flat_map (λ h. by_stale h (is_stale conf m h)) (cond b (h ∷ filter (is_of_group conf d) hosts) (filter (is_of_group conf d) hosts))
        ≡ flat_map (λ h. by_stale h (is_stale conf moment h)) (cond b (h ∷ filter (is_of_group conf d) hosts) (filter (is_of_group conf d) hosts))) [
          | true ↦ λ i. by_stale h ((as_fresh h before.0).0 i) ++ hosts_same hosts before.1 i
          | false ↦ hosts_same hosts before.1
        ]

    abbrev at : ℕ → State
    at n = record state { moment = n }

    plan_same : AllByRecursion (λ h. m < host_until conf moment h) state.hosts → plan conf (at m) d ≡ plan conf (at moment) d
    plan_same before =
        ap (λ hosts. fixed conf d ++ (flat_map (of_port conf state d) d.ports ++ (flat_map (of_vlan conf state d) conf.vlans ++ (hosts ++ flat_map (of_routes conf state d) conf.vlans)))) (hosts_same state.hosts before)

    cold_same : AllByRecursion (λ h. m < host_until conf moment h) state.hosts → cold conf (at m) d ≡ cold conf (at moment) d
    unfolding cold
    cold_same before = ap (λ entries. after_all [] (map Add entries)) (plan_same before)

  none_over : (hosts : List HostRec) → AllByRecursion (λ h. m < host_until conf moment h) hosts → filter (λ h. not (is_to_forget conf m h)) hosts ≡ hosts
  none_over [] before = refl
  none_over (h ∷ hosts) before =
      let rest = filter (λ g. not (is_to_forget conf m g)) hosts in
      ap (λ b. cond b (h ∷ rest) rest) (as_fresh h before.0).1 ∙ ap (λ hs. h ∷ hs) (none_over hosts before.1)

not_same : (a b : Bool) → not a ≡ not b → a ≡ b
not_same true true same = refl
not_same true false same = sym same
not_same false true same = sym same
not_same false false same = refl

fresh_each : (conf : Configuration) (moment m : ℕ) → moment ≤ m → (hosts : List HostRec) → AllByRecursion (λ h. m < host_until conf moment h) hosts
    → AllByRecursion (λ h. is_fresh conf m h ≡ is_fresh conf moment h) hosts
fresh_each conf moment m from [] before = tt
fresh_each conf moment m from (h ∷ hosts) before =
    (not_same (is_fresh conf m h) (is_fresh conf moment h) (as_fresh conf moment m from h before.0).0, fresh_each conf moment m from hosts before.1)

-- before a settling is due no host turns stale
pub fresh_before : (w : World) (m : ℕ) → w.moment.0 ≤ m → m < rests_until w → AllByRecursion (λ h. is_fresh w.conf m h ≡ is_fresh w.conf w.moment.0 h) w.hosts.hosts
fresh_before w m from before = fresh_each w.conf w.moment.0 m from w.hosts.hosts (least_each (host_until w.conf w.moment.0) m never w.hosts.hosts (omega (arith, before)))

-- ---- neighbours

none_due : (m : ℕ) (neighbours : List NeighRec) → AllByRecursion (λ (n : NeighRec). m < n.due.0) neighbours → ◌≡◌ {A = Option NeighRec} (find (is_due m) neighbours) None
none_due m [] before = refl
none_due m (n ∷ neighbours) before =
    ap (λ b. cond (b && not (n.due.0 == never)) (Some n) (find (is_due m) neighbours)) (lt-leb n.due.0 m before.0) ∙ none_due m neighbours before.1

-- ---- the whole

module _ (w : World) (rests : IsAtRest w) (m : ℕ) (from : w.moment.0 ≤ m) (before : m < rests_until w) where
  hosts_before : AllByRecursion (λ h. m < host_until w.conf w.moment.0 h) w.hosts.hosts
  hosts_before = least_each (host_until w.conf w.moment.0) m never w.hosts.hosts (omega (arith, before))

  neighbours_before : AllByRecursion (λ (n : NeighRec). m < n.due.0) w.neighbours.neighbours
  neighbours_before = least_each (λ (n : NeighRec). n.due.0) m never w.neighbours.neighbours (omega (arith, before))

  wanted_same : (dp : DpId) → wanted (at_moment m w) dp ≡ wanted w dp
  wanted_same dp =
      elim (dp_with w.conf.dps dp) as (λ o. option_map_or (cold w.conf (now (at_moment m w))) o [] ≡ option_map_or (cold w.conf (now w)) o []) [
        | Some d ↦ cold_same w.conf w.moment.0 m from (now w) d hosts_before
        | None ↦ refl
      ]

  rests_on : IsAtRest (at_moment m w)
  rests_on = record {
    asks = ap (option_map (said_of w.conf m)) (none_due m w.neighbours.neighbours neighbours_before);
    batches = λ dp runs c some. elim (rests.batches dp runs c some) [ inl waits ↦ inl waits | inr has ↦ inr (has ∙ sym (wanted_same dp)) ];
  }

  over_none : NoneIsOver (at_moment m w)
  over_none = none_over w.conf w.moment.0 m from w.hosts.hosts hosts_before

pub rests_so_long : (w : World) → IsAtRest w → RestsUntil (rests_until w) w
rests_so_long w rests = λ m from before. (rests_on w rests m from before, over_none w rests m from before)

-- ---- and the first moment stays the first one

-- before its end, and before a later one where that is past, a host is as fresh as it was, so that the same moment is next
end_stays : (moment m end over : ℕ) → moment ≤ m → (stays fresh : Bool) → nat_lt moment end ≡ fresh
    → m < (if stays then never else if (stays || fresh) then end else over)
    → (if stays then never else if (stays || nat_lt m end) then end else over) ≡ (if stays then never else if (stays || nat_lt moment end) then end else over)
end_stays moment m end over from true fresh is before = refl
end_stays moment m end over from false true is before = ap (λ b. if b then end else over) (lt-ltb m end before ∙ sym is)
end_stays moment m end over from false false is before =
    ap (λ b. if b then end else over) (le-ltb m end (omega (arith, ltb-false moment end is, from)) ∙ sym is)

module _ (conf : Configuration) (moment m : ℕ) (from : moment ≤ m) where
  hosts_end : (first : ℕ) (hosts : List HostRec) → AllByRecursion (λ h. m < host_until conf moment h) hosts
      → fold (λ least h. min least (host_until conf m h)) first hosts ≡ fold (λ least h. min least (host_until conf moment h)) first hosts
  hosts_end first [] before = refl
  hosts_end first (h ∷ hosts) before =
      let end : ℕ = stale_at conf h.dp h.learned.0 in
      let over : ℕ = forgotten_at conf h.dp h.learned.0 in
      let same : host_until conf m h ≡ host_until conf moment h =
      end_stays moment m end over from (is_permanent conf h) (nat_lt moment end) refl before.0 in
      ap (λ n. fold (λ least g. min least (host_until conf m g)) (min first n) hosts) same ∙ hosts_end (min first (host_until conf moment h)) hosts before.1

pub until_stays : (w : World) (m : ℕ) → w.moment.0 ≤ m → m < rests_until w → rests_until (at_moment m w) ≡ rests_until w
until_stays w m from before =
    let hosts = least_each (host_until w.conf w.moment.0) m never w.hosts.hosts (omega (arith, before)) in
    ap (λ n. min n (neighbours_until w.neighbours.neighbours)) (hosts_end w.conf w.moment.0 m from never w.hosts.hosts hosts)

-- what looks the same to a settling has the same one
pub end_alike : (v w : World) → IsAlike v w → rests_until v ≡ rests_until w
end_alike v w alike = λ i. min (hosts_until (alike.conf i) (alike.moment i).0 (alike.hosts i).hosts) (neighbours_until (alike.neighbours i).neighbours)

-- ---- bounds

-- what bounds the hosts and the neighbours
pub bounds_rest : (w : World) (bound : ℕ) → bound ≤ never → AreBounded bound w → bound ≤ neighbours_until w.neighbours.neighbours → bound ≤ rests_until w
bounds_rest w bound most hosts neighbours =
    let least = bounded_least (host_until w.conf w.moment.0) bound never w.hosts.hosts most hosts in omega (arith, least, neighbours)

pub are_bounded : (w : World) (until : ℕ) → until ≤ rests_until w → AreBounded until w
are_bounded w until less = least_bounded (host_until w.conf w.moment.0) until never w.hosts.hosts (omega (arith, less))

fewer_in : (conf : Configuration) (moment bound less : ℕ) → less ≤ bound → (hosts : List HostRec) → AllByRecursion (λ h. bound ≤ host_until conf moment h) hosts → AllByRecursion (λ h. less ≤ host_until conf moment h) hosts
fewer_in conf moment bound less le [] all = tt
fewer_in conf moment bound less le (h ∷ hosts) all = (omega (arith, le, all.0), fewer_in conf moment bound less le hosts all.1)

-- what comes before a bound is one
pub less_bounded : (w : World) (bound less : ℕ) → less ≤ bound → AreBounded bound w → AreBounded less w
less_bounded w bound less le all = fewer_in w.conf w.moment.0 bound less le w.hosts.hosts all

pub same_bounded : (v w : World) (bound : ℕ) → v.conf ≡ w.conf → v.moment ≡ w.moment → v.hosts ≡ w.hosts → AreBounded bound w → AreBounded bound v
same_bounded v w bound conf moment hosts all =
    subst (λ (c : Configuration). AllByRecursion (λ h. bound ≤ host_until c v.moment.0 h) v.hosts.hosts) (sym conf)
    (subst (λ (m : Moment). AllByRecursion (λ h. bound ≤ host_until w.conf m.0 h) v.hosts.hosts) (sym moment)
    (subst (λ (hs : Hosts). AllByRecursion (λ h. bound ≤ host_until w.conf w.moment.0 h) hs.hosts) (sym hosts) all))

pub shorter_rest : (w : World) (until first : ℕ) → until ≤ first → RestsUntil first w → RestsUntil until w
shorter_rest w until first le rests = λ m from before. rests m from (omega (arith, before, le))
