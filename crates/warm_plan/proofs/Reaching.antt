-- What is worked out for each change reaches what the change does.
use Rattle.std.proofs.Common.{◌≡◌, ℕ, Bool, true, false, ◌==◌, ◌&&◌, ◌||◌, List, [], ◌∷◌, map, Option, Some, None, if◌then◌else◌, refl, sym, ap, ◌∙◌, subst, true≢false, eqb-true, eq-eqb, IsPermutation}
use Rattle.std.specs.Prelude.{Contains, IsTrue, ◌↔◌}
use Rattle.std.specs.Option.{option_and_then, option_map_or}
use Rattle.std.proofs.lemmas.Bool.{and_parts}
use Rattle.std.proofs.lemmas.List.Sorted.{Contains-permutation, IsPermutation-sym}
use Rattle.net_base.specs.declared.address.Mac.{Mac}
use Rattle.net_base.specs.declared.numbers.DpId.{DpId}
use Rattle.of_match.specs.declared.entry.Entry.{Entry}
use Rattle.conf_types.specs.declared.datapath.Dp.{Dp}
use Rattle.conf_types.specs.declared.state.HostRec.{HostRec}
use Rattle.conf_types.specs.Changes.{host_by, AreNamed}
use Rattle.conf_types.specs.Configuration.{Configuration, port_at, vlan_with}
use Rattle.conf_types.specs.Groups.{group_of}
use Rattle.conf_types.specs.Lists.{is_among, is_same}
use Rattle.conf_types.specs.Membership.{is_stack}
use Rattle.conf_types.specs.Routing.{routing_set}
use Rattle.conf_types.specs.State.{State, is_host_at, is_host_in, is_vlan_full, is_table_full}
use Rattle.plan_units.specs.declared.unit.Unit.{Unit as PlanUnit}
use Rattle.plan_units.specs.declared.unit.Unit.TheVariants as unit
use Rattle.plan_units.specs.Facts.{found}
use Rattle.plan_units.specs.Laws.{IsSetting}
use Rattle.plan_units.specs.Units.{entries}
use Rattle.conf_types.specs.declared.change.Change.{Change}
use Rattle.conf_types.specs.declared.change.Change.TheVariants as change
use Rattle.law_units.specs.Reach.{IsInReach}
use Rattle.law_units.specs.Reached.{is_other, touches_port, reaches, is_reached}
use Rattle.warm_plan.specs.declared.effect.Effect.TheVariants.{Routes, Nothing}
use Rattle.warm_plan.specs.Effects.{host_effect, effect_of, if_linked, is_at, has_vlan, touches, effect_reaches, reached_by}
use Rattle.warm_plan.specs.Places.{port_on, port_in, is_full_in, places_of}
use Rattle.warm_plan.proofs.Remade.{Stays}

module _ (conf : Configuration) (d : Dp) where
  -- a link reaches VLANs and hosts
  linked_vlan : (b : Bool) (vid : ℕ) → effect_reaches conf d (if_linked b) (unit.Vlan vid) ≡ b
  linked_vlan true vid = refl
  linked_vlan false vid = refl

  linked_host : (b : Bool) (vid : ℕ) (mac : Mac) → effect_reaches conf d (if_linked b) (unit.Host vid mac) ≡ b
  linked_host true vid mac = refl
  linked_host false vid mac = refl

  linked_dp : (b : Bool) → effect_reaches conf d (if_linked b) unit.Dp ≡ false
  linked_dp true = refl
  linked_dp false = refl

  linked_port : (b : Bool) (number : ℕ) → effect_reaches conf d (if_linked b) (unit.Port number) ≡ false
  linked_port true number = refl
  linked_port false number = refl

  linked_routes : (b : Bool) (vid : ℕ) → effect_reaches conf d (if_linked b) (unit.Route vid) ≡ false
  linked_routes true vid = refl
  linked_routes false vid = refl

  routed : (b : Bool) (vid other : ℕ) → effect_reaches conf d (if b then Routes vid else Nothing) (unit.Route other) ≡ (b && is_among (routing_set conf other) vid)
  routed true vid other = refl
  routed false vid other = refl

  not_routed : (b : Bool) (vid : ℕ) (u : PlanUnit) → effect_reaches conf d (Routes vid) u ≡ false → effect_reaches conf d (if b then Routes vid else Nothing) u ≡ false
  not_routed true vid u is = is
  not_routed false vid u is = refl

  -- where a host stands on the datapath, it stands at that port
  stands : (o : Option HostRec) (number : ℕ) → is_at (option_and_then (port_on d) o) number ≡ option_map_or (is_host_at d.id number) o false
  stands None number = refl
  stands (Some h) number = by (h.dp.0 == d.id.0)
    where
      by : (b : Bool) → is_at (if b then Some h.port else None) number ≡ (b && h.port == number)
      by true = refl
      by false = refl

  abbrev near : DpId → Bool
  near dp = (group_of conf dp).0 == (group_of conf d.id).0

  abbrev near_end : DpId → ℕ → Bool
  near_end dp port = near dp && option_map_or is_stack (port_at conf dp port) false

  abbrev ours : DpId → Bool
  ours group = group.0 == (group_of conf d.id).0

  -- a host of another group stands nowhere on the datapath
  elsewhere : (hosts : List HostRec) (group : DpId) (vid : ℕ) (mac : Mac) (number : ℕ) → ours group ≡ false → option_map_or (is_host_at d.id number) (host_by conf hosts group vid mac) false ≡ false
  elsewhere hosts group vid mac number other = at (host_by conf hosts group vid mac) refl
    where
      apart : (h : HostRec) → is_host_in conf group vid h ≡ true → (b : Bool) → (h.dp.0 == d.id.0) ≡ b → (b && h.port == number) ≡ false
      apart h here true same =
          let dps : h.dp ≡ d.id = λ i. record { 0 = eqb-true h.dp.0 d.id.0 same i } in
          let groups = eqb-true (group_of conf h.dp).0 group.0 (and_parts ((group_of conf h.dp).0 == group.0) (h.vid == vid) here).0 in
          absurd (true≢false (sym (eq-eqb group.0 (group_of conf d.id).0 (sym groups ∙ ap (λ (dp : DpId). (group_of conf dp).0) dps)) ∙ other))
      apart h here false same = refl

      at : (o : Option HostRec) → host_by conf hosts group vid mac ≡ o → option_map_or (is_host_at d.id number) o false ≡ false
      at None is = refl
      at (Some h) is =
          let f = found (λ (g : HostRec). is_host_in conf group vid g && is_same g.mac.0 mac.0) hosts h is in
          apart h (and_parts (is_host_in conf group vid h) (is_same h.mac.0 mac.0) f.passes).0 (h.dp.0 == d.id.0) refl

  or_moved : (a b c : Bool) → ((a || b) || c) ≡ (a || (b || c))
  or_moved true b c = refl
  or_moved false b c = refl

  module _ (old new : State) where
    abbrev full : State → DpId → ℕ → Bool
    full now group vid = option_map_or (is_vlan_full conf now.hosts group) (vlan_with conf.vlans vid) false

    abbrev stands_at : State → DpId → ℕ → Mac → ℕ → Bool
    stands_at now group vid mac number = option_map_or (is_host_at d.id number) (host_by conf now.hosts group vid mac) false

    abbrev table : Bool
    table = is_other (is_table_full old.hosts) (is_table_full new.hosts)

    tells_port : (group : DpId) (vid : ℕ) (mac : Mac) (number : ℕ) → touches d (host_effect conf d (places_of conf d old.hosts) new.hosts group vid mac) number ≡ touches_port conf old new d group vid mac number
    tells_port group vid mac number = at (ours group) refl
      where
        at : (b : Bool) → ours group ≡ b
            → ((b && ((is_at (port_in conf d old.hosts vid mac) number || is_at (port_in conf d new.hosts vid mac) number) || (has_vlan d number vid && is_other (is_full_in conf d old.hosts vid) (is_full_in conf d new.hosts vid)))) || table)
            ≡ ((stands_at old group vid mac number || stands_at new group vid mac number) || ((b && (has_vlan d number vid && is_other (full old group vid) (full new group vid))) || table))
        at true is =
            let own : (group_of conf d.id) ≡ group = λ i. record { 0 = sym (eqb-true group.0 (group_of conf d.id).0 is) i } in
            or_moved (is_at (port_in conf d old.hosts vid mac) number || is_at (port_in conf d new.hosts vid mac) number) (has_vlan d number vid && is_other (is_full_in conf d old.hosts vid) (is_full_in conf d new.hosts vid)) table
            ∙ (λ i. (stands (host_by conf old.hosts (group_of conf d.id) vid mac) number i || stands (host_by conf new.hosts (group_of conf d.id) vid mac) number i) || ((has_vlan d number vid && is_other (full old (group_of conf d.id) vid) (full new (group_of conf d.id) vid)) || table))
            ∙ (λ i. (stands_at old (own i) vid mac number || stands_at new (own i) vid mac number) || ((has_vlan d number vid && is_other (full old (own i) vid) (full new (own i) vid)) || table))
        at false is = sym (λ i. (elsewhere old.hosts group vid mac number is i || elsewhere new.hosts group vid mac number is i) || table)

    effect_tells : (c : Change) (u : PlanUnit) → effect_reaches conf d (effect_of conf d (places_of conf d old.hosts) new.hosts c) u ≡ reaches conf old new d c u
    effect_tells (change.Host group vid mac) unit.Dp = refl
    effect_tells (change.Host group vid mac) (unit.Port number) = tells_port group vid mac number
    effect_tells (change.Host group vid mac) (unit.Vlan w) = refl
    effect_tells (change.Host group vid mac) (unit.Host w address) = refl
    effect_tells (change.Host group vid mac) (unit.Route w) = refl
    effect_tells (change.Port dp port) unit.Dp = linked_dp (near_end dp port)
    effect_tells (change.Port dp port) (unit.Port number) = linked_port (near_end dp port) number
    effect_tells (change.Port dp port) (unit.Vlan w) = linked_vlan (near_end dp port) w
    effect_tells (change.Port dp port) (unit.Host w address) = linked_host (near_end dp port) w address
    effect_tells (change.Port dp port) (unit.Route w) = linked_routes (near_end dp port) w
    effect_tells (change.Dp dp) unit.Dp = linked_dp (near dp)
    effect_tells (change.Dp dp) (unit.Port number) = linked_port (near dp) number
    effect_tells (change.Dp dp) (unit.Vlan w) = linked_vlan (near dp) w
    effect_tells (change.Dp dp) (unit.Host w address) = linked_host (near dp) w address
    effect_tells (change.Dp dp) (unit.Route w) = linked_routes (near dp) w
    effect_tells (change.Neighbour group vid ip) unit.Dp = not_routed (ours group) vid unit.Dp refl
    effect_tells (change.Neighbour group vid ip) (unit.Port number) = not_routed (ours group) vid (unit.Port number) refl
    effect_tells (change.Neighbour group vid ip) (unit.Vlan w) = not_routed (ours group) vid (unit.Vlan w) refl
    effect_tells (change.Neighbour group vid ip) (unit.Host w address) = not_routed (ours group) vid (unit.Host w address) refl
    effect_tells (change.Neighbour group vid ip) (unit.Route w) = routed (ours group) vid w

    pub effects_tell : (changes : List Change) (u : PlanUnit) → reached_by conf d (map (effect_of conf d (places_of conf d old.hosts) new.hosts) changes) u ≡ is_reached conf old new d changes u
    effects_tell [] u = refl
    effects_tell (c ∷ changes) u = λ i. effect_tells c u i || effects_tell changes u i

    -- so the units that are reached are the same
    pub same_reach : (changes : List Change) → ◌≡◌ {A = PlanUnit → Bool} (reached_by conf d (map (effect_of conf d (places_of conf d old.hosts) new.hosts) changes)) (is_reached conf old new d changes)
    same_reach changes = λ i u. effects_tell changes u i

-- ---- what isn't reached stays

module _ (units_law : (conf : Configuration) (old new : State) (d : Dp) (changes : List Change) → IsSetting conf old d → IsSetting conf new d → AreNamed conf old new changes
    → (u : PlanUnit) → (IsInReach conf old new d changes u → ⊥) → ((vid : ℕ) → u ≡ unit.Route vid → ⊥) → entries conf old d u ≡ entries conf new d u)
    (routes_law : (conf : Configuration) (old new : State) (d : Dp) (changes : List Change) → IsSetting conf old d → IsSetting conf new d → AreNamed conf old new changes
    → (vid : ℕ) → (IsInReach conf old new d changes (unit.Route vid) → ⊥) → IsPermutation (entries conf old d (unit.Route vid)) (entries conf new d (unit.Route vid)))
    (told_law : (conf : Configuration) (old new : State) (d : Dp) (changes : List Change) (u : PlanUnit) → IsTrue (is_reached conf old new d changes u) ↔ IsInReach conf old new d changes u)
    (conf : Configuration) (old new : State) (d : Dp) (changes : List Change) (so : IsSetting conf old d) (sn : IsSetting conf new d) (named : AreNamed conf old new changes) where
  out : (u : PlanUnit) → is_reached conf old new d changes u ≡ false → IsInReach conf old new d changes u → ⊥
  out u is reach = let yes : is_reached conf old new d changes u ≡ true = (told_law conf old new d changes u).1 reach in true≢false (sym yes ∙ is)

  equal : (u : PlanUnit) → entries conf old d u ≡ entries conf new d u → Stays conf old new d u
  equal u is = record {
    to = λ e c. subst (λ (es : List Entry). Contains es e) is c;
    back = λ e c. subst (λ (es : List Entry). Contains es e) (sym is) c;
  }

  abbrev is_routes : PlanUnit → Bool
  is_routes unit.Dp = false
  is_routes (unit.Port number) = false
  is_routes (unit.Vlan vid) = false
  is_routes (unit.Host vid mac) = false
  is_routes (unit.Route vid) = true

  other : (u : PlanUnit) → is_routes u ≡ false → is_reached conf old new d changes u ≡ false → Stays conf old new d u
  other u apart is = equal u (units_law conf old new d changes so sn named u (out u is) (λ vid same. route u vid same apart))
    where
      route : (u : PlanUnit) (vid : ℕ) → u ≡ unit.Route vid → is_routes u ≡ false → ⊥
      route u vid same apart = true≢false (sym (ap is_routes same) ∙ apart)

  pub stays : (u : PlanUnit) → is_reached conf old new d changes u ≡ false → Stays conf old new d u
  stays unit.Dp is = other unit.Dp refl is
  stays (unit.Port number) is = other (unit.Port number) refl is
  stays (unit.Vlan vid) is = other (unit.Vlan vid) refl is
  stays (unit.Host vid mac) is = other (unit.Host vid mac) refl is
  stays (unit.Route vid) is =
      let moved = routes_law conf old new d changes so sn named vid (out (unit.Route vid) is) in
      record {
        to = λ e c. Contains-permutation (entries conf old d (unit.Route vid)) (entries conf new d (unit.Route vid)) e moved c;
        back = λ e c. Contains-permutation (entries conf new d (unit.Route vid)) (entries conf old d (unit.Route vid)) e (IsPermutation-sym (entries conf old d (unit.Route vid)) (entries conf new d (unit.Route vid)) moved) c;
      }
