-- What is kept of hosts, looked at again where a change names it, is that of the hosts that are.
use Rattle.std.proofs.Common.{◌≡◌, ◌∙◌, ℕ, ◌==◌, ◌&&◌, inl, inr, Bool, true, false, List, [], ◌∷◌, Option, Some, None, is_some, if◌then◌else◌, refl, sym, ap, subst, arith, eqb-true}
use Rattle.std.specs.Prelude.{Contains, nat_le, count_by}
use Rattle.std.specs.Option.{option_map, option_map_or, option_and_then}
use Rattle.std.proofs.lemmas.Bool.{and_parts, cases_eq}
use Rattle.std.proofs.lemmas.Option.{same_Some, none-some}
use Rattle.net_base.specs.declared.address.Mac.{Mac}
use Rattle.net_base.specs.declared.numbers.DpId.{DpId}
use Rattle.conf_types.specs.declared.datapath.Dp.{Dp}
use Rattle.conf_types.specs.declared.state.HostRec.{HostRec}
use Rattle.conf_types.specs.declared.vlan.Vlan.{Vlan}
use Rattle.conf_types.specs.Changes.{host_by, Standing, standing, standing_of, AreNamed}
use Rattle.conf_types.specs.Configuration.{Configuration, vlan_with}
use Rattle.conf_types.specs.Groups.{group_of}
use Rattle.conf_types.specs.State.{State, is_host_in, is_vlan_full, is_table_full}
use Rattle.law_runs.specs.Members.{head_of, tail_of, in_flat}
use Rattle.plan_units.specs.declared.unit.Unit.{Unit as PlanUnit}
use Rattle.plan_units.specs.declared.unit.Unit.TheVariants as unit
use Rattle.plan_units.specs.Facts.{found}
use Rattle.plan_units.specs.Laws.{IsSetting}
use Rattle.cold_start.specs.Cold.{units_of}
use Rattle.conf_types.specs.declared.change.Change.{Change}
use Rattle.conf_types.specs.declared.change.Change.TheVariants as change
use Rattle.law_units.proofs.Hosts.{stable_bool, stable_standing, ReadsPlace, same_count}
use Rattle.warm_plan.specs.Places.{Places, no_places, port_on, port_in, is_full_in, port_at, is_full_at, places_of, renewed, all_renewed, moved_units, all_moved}
use Rattle.warm_plan.proofs.Commands.{of_cons}
use Rattle.warm_plan.proofs.Kept.{put_here, put_at}
use Rattle.warm_plan.proofs.Listed.{vlan_listed, held_unit}

-- ---- looked at again

module _ (conf : Configuration) (d : Dp) (hosts : List HostRec) where
  abbrev port : PlanUnit → Option ℕ
  port = port_at conf d hosts

  abbrev full : PlanUnit → Bool
  full = is_full_at conf d hosts

  abbrev again : PlanUnit → Places → Places
  again u p = renewed conf d hosts u p

  abbrev all_again : List PlanUnit → Places → Places
  all_again us p = all_renewed conf d hosts us p

  port_keeps : (v : PlanUnit) (p : Places) (u : PlanUnit) → p.port u ≡ port u → (again v p).port u ≡ port u
  port_keeps unit.Dp p u is = is
  port_keeps (unit.Port number) p u is = is
  port_keeps (unit.Vlan vid) p u is = is
  port_keeps (unit.Host vid mac) p u is = put_at p.port (unit.Host vid mac) (port_in conf d hosts vid mac) (λ o. o ≡ port u) u (λ same. ap port same) is
  port_keeps (unit.Route vid) p u is = is

  full_keeps : (v : PlanUnit) (p : Places) (u : PlanUnit) → p.is_full u ≡ full u → (again v p).is_full u ≡ full u
  full_keeps unit.Dp p u is = is
  full_keeps (unit.Port number) p u is = is
  full_keeps (unit.Vlan vid) p u is = put_at p.is_full (unit.Vlan vid) (is_full_in conf d hosts vid) (λ b. b ≡ full u) u (λ same. ap full same) is
  full_keeps (unit.Host vid mac) p u is = is
  full_keeps (unit.Route vid) p u is = is

  ports_keep : (us : List PlanUnit) (p : Places) (u : PlanUnit) → p.port u ≡ port u → (all_again us p).port u ≡ port u
  ports_keep [] p u is = is
  ports_keep (v ∷ us) p u is = ports_keep us (again v p) u (port_keeps v p u is)

  fulls_keep : (us : List PlanUnit) (p : Places) (u : PlanUnit) → p.is_full u ≡ full u → (all_again us p).is_full u ≡ full u
  fulls_keep [] p u is = is
  fulls_keep (v ∷ us) p u is = fulls_keep us (again v p) u (full_keeps v p u is)

  ports_get : (us : List PlanUnit) (p : Places) (vid : ℕ) (mac : Mac) → Contains us (unit.Host vid mac) → (all_again us p).port (unit.Host vid mac) ≡ port_in conf d hosts vid mac
  ports_get [] p vid mac (k, lt, is) = absurd (omega (arith, lt))
  ports_get (v ∷ us) p vid mac c = elim (of_cons v us (unit.Host vid mac) c) [
    | inl same ↦ ports_keep us (again v p) (unit.Host vid mac)
        (subst (λ (w : PlanUnit). (again w p).port (unit.Host vid mac) ≡ port_in conf d hosts vid mac) (sym same) (put_here p.port (unit.Host vid mac) (port_in conf d hosts vid mac)))
    | inr more ↦ ports_get us (again v p) vid mac more
  ]

  fulls_get : (us : List PlanUnit) (p : Places) (vid : ℕ) → Contains us (unit.Vlan vid) → (all_again us p).is_full (unit.Vlan vid) ≡ is_full_in conf d hosts vid
  fulls_get [] p vid (k, lt, is) = absurd (omega (arith, lt))
  fulls_get (v ∷ us) p vid c = elim (of_cons v us (unit.Vlan vid) c) [
    | inl same ↦ fulls_keep us (again v p) (unit.Vlan vid)
        (subst (λ (w : PlanUnit). (again w p).is_full (unit.Vlan vid) ≡ is_full_in conf d hosts vid) (sym same) (put_here p.is_full (unit.Vlan vid) (is_full_in conf d hosts vid)))
    | inr more ↦ fulls_get us (again v p) vid more
  ]

  -- ports and VLANs as they are, and the whole table too
  all_places : (p : Places) → ((u : PlanUnit) → p.port u ≡ port u) → ((u : PlanUnit) → p.is_full u ≡ full u) → record p { is_table_full = is_table_full hosts } ≡ places_of conf d hosts
  all_places p ports fulls = λ i. record { port = λ u. ports u i; is_full = λ u. fulls u i; is_table_full = is_table_full hosts }

-- ---- of all units

module _ (conf : Configuration) (now : State) (d : Dp) where
  abbrev made : Places
  made = all_renewed conf d now.hosts (units_of conf now d) no_places

  made_port : (u : PlanUnit) → made.port u ≡ port_at conf d now.hosts u
  made_port unit.Dp = ports_keep conf d now.hosts (units_of conf now d) no_places unit.Dp refl
  made_port (unit.Port number) = ports_keep conf d now.hosts (units_of conf now d) no_places (unit.Port number) refl
  made_port (unit.Vlan vid) = ports_keep conf d now.hosts (units_of conf now d) no_places (unit.Vlan vid) refl
  made_port (unit.Host vid mac) = by (host_by conf now.hosts (group_of conf d.id) vid mac) refl
    where
      by : (o : Option HostRec) → host_by conf now.hosts (group_of conf d.id) vid mac ≡ o → made.port (unit.Host vid mac) ≡ port_in conf d now.hosts vid mac
      by None is = ports_keep conf d now.hosts (units_of conf now d) no_places (unit.Host vid mac) (sym (ap (option_and_then (port_on d)) is))
      by (Some h) is = ports_get conf d now.hosts (units_of conf now d) no_places vid mac (held_unit conf now d vid mac (ap is_some is))
  made_port (unit.Route vid) = ports_keep conf d now.hosts (units_of conf now d) no_places (unit.Route vid) refl

  made_full : (u : PlanUnit) → made.is_full u ≡ is_full_at conf d now.hosts u
  made_full unit.Dp = fulls_keep conf d now.hosts (units_of conf now d) no_places unit.Dp refl
  made_full (unit.Port number) = fulls_keep conf d now.hosts (units_of conf now d) no_places (unit.Port number) refl
  made_full (unit.Vlan vid) = by (vlan_with conf.vlans vid) refl
    where
      by : (o : Option Vlan) → vlan_with conf.vlans vid ≡ o → made.is_full (unit.Vlan vid) ≡ is_full_in conf d now.hosts vid
      by None is = fulls_keep conf d now.hosts (units_of conf now d) no_places (unit.Vlan vid) (sym (ap (λ o. option_map_or (is_vlan_full conf now.hosts (group_of conf d.id)) o false) is))
      by (Some v) is =
          let f = found (λ (w : Vlan). w.vid == vid) conf.vlans v is in
          fulls_get conf d now.hosts (units_of conf now d) no_places vid (subst (λ n. Contains (units_of conf now d) (unit.Vlan n)) (eqb-true v.vid vid f.passes) (vlan_listed conf now d v f.within))
  made_full (unit.Host vid mac) = fulls_keep conf d now.hosts (units_of conf now d) no_places (unit.Host vid mac) refl
  made_full (unit.Route vid) = fulls_keep conf d now.hosts (units_of conf now d) no_places (unit.Route vid) refl

  pub made_places : record made { is_table_full = is_table_full now.hosts } ≡ places_of conf d now.hosts
  made_places = all_places conf d now.hosts made made_port made_full

-- ---- from one state to the next

stable_port : (a b : Option ℕ) → ((a ≡ b → ⊥) → ⊥) → a ≡ b
stable_port None None h = refl
stable_port None (Some n) h = absurd (h (λ e. none-some n e))
stable_port (Some m) None h = absurd (h (λ e. none-some m (sym e)))
stable_port (Some m) (Some n) h = elim (cases_eq m n) [ inl e ↦ ap Some e | inr other ↦ absurd (h (λ e. other (same_Some m n e))) ]

module _ (conf : Configuration) (old new : State) (d : Dp) (changes : List Change) (so : IsSetting conf old d) (sn : IsSetting conf new d) (named : AreNamed conf old new changes) where
  abbrev group : DpId
  group = group_of conf d.id

  abbrev moved : List PlanUnit
  moved = all_moved changes

  abbrev was : Places
  was = places_of conf d old.hosts

  abbrev followed : Places
  followed = all_renewed conf d new.hosts moved was

  host_moved : (g : DpId) (vid : ℕ) (mac : Mac) → Contains changes (change.Host g vid mac) → Contains moved (unit.Host vid mac)
  host_moved g vid mac c = in_flat moved_units changes (change.Host g vid mac) (unit.Host vid mac) c (head_of (unit.Host vid mac) (unit.Vlan vid ∷ []))

  vlan_moved : (g : DpId) (vid : ℕ) (mac : Mac) → Contains changes (change.Host g vid mac) → Contains moved (unit.Vlan vid)
  vlan_moved g vid mac c = in_flat moved_units changes (change.Host g vid mac) (unit.Vlan vid) c (tail_of (unit.Host vid mac) (unit.Vlan vid ∷ []) (unit.Vlan vid) (head_of (unit.Vlan vid) []))

  -- the port is that of the standing
  abbrev port_of : Option Standing → Option ℕ
  port_of s = option_and_then (λ (t : Standing). if t.dp.0 == d.id.0 then Some t.port else None) s

  by_standing : (now : State) (o : Option HostRec) → option_and_then (port_on d) o ≡ port_of (option_map (standing conf now) o)
  by_standing now None = refl
  by_standing now (Some h) = refl

  port_stays : (vid : ℕ) (mac : Mac) → standing_of conf old group vid mac ≡ standing_of conf new group vid mac → port_in conf d old.hosts vid mac ≡ port_in conf d new.hosts vid mac
  port_stays vid mac same = by_standing old (host_by conf old.hosts group vid mac) ∙ ap port_of same ∙ sym (by_standing new (host_by conf new.hosts group vid mac))

  next_port : (u : PlanUnit) → followed.port u ≡ port_at conf d new.hosts u
  next_port unit.Dp = ports_keep conf d new.hosts moved was unit.Dp refl
  next_port (unit.Port number) = ports_keep conf d new.hosts moved was (unit.Port number) refl
  next_port (unit.Vlan vid) = ports_keep conf d new.hosts moved was (unit.Vlan vid) refl
  next_port (unit.Host vid mac) =
      stable_port _ _ (λ differ. differ (ports_keep conf d new.hosts moved was (unit.Host vid mac) (port_stays vid mac
      (stable_standing _ _ (λ stands. differ (ports_get conf d new.hosts moved was vid mac (host_moved group vid mac (named.hosts group vid mac stands))))))))
  next_port (unit.Route vid) = ports_keep conf d new.hosts moved was (unit.Route vid) refl

  -- where no host of a VLAN is named, as many are there
  module _ (vid : ℕ) (none : (g : DpId) (mac : Mac) → Contains changes (change.Host g vid mac) → ⊥) where
    reads : ReadsPlace conf (is_host_in conf group vid) (λ h. 0)
    reads = record { test = λ a b same dps ports. (λ i. (same.groups i == group.0) && (same.vlans i == vid)); number = λ a b same dps ports. refl }

    still : (h : HostRec) → is_host_in conf group vid h ≡ true → standing_of conf old (group_of conf h.dp) h.vid h.mac ≡ standing_of conf new (group_of conf h.dp) h.vid h.mac
    still h here =
        let vids : h.vid ≡ vid = eqb-true h.vid vid (and_parts ((group_of conf h.dp).0 == group.0) (h.vid == vid) here).1 in
        stable_standing _ _ (λ stands. none (group_of conf h.dp) h.mac (subst (λ n. Contains changes (change.Host (group_of conf h.dp) n h.mac)) vids (named.hosts (group_of conf h.dp) h.vid h.mac stands)))

    count_stays : count_by (is_host_in conf group vid) old.hosts ≡ count_by (is_host_in conf group vid) new.hosts
    count_stays = same_count conf old new so.state.host_keys sn.state.host_keys (is_host_in conf group vid) (λ h. 0) reads (λ h c here. still h here) (λ h c here. still h here)

    full_stays : is_full_in conf d old.hosts vid ≡ is_full_in conf d new.hosts vid
    full_stays = by (vlan_with conf.vlans vid) refl
      where
        by : (o : Option Vlan) → vlan_with conf.vlans vid ≡ o → option_map_or (is_vlan_full conf old.hosts group) o false ≡ option_map_or (is_vlan_full conf new.hosts group) o false
        by None is = refl
        by (Some v) is =
            let vids : v.vid ≡ vid = eqb-true v.vid vid (found (λ (w : Vlan). w.vid == vid) conf.vlans v is).passes in
            subst (λ n. nat_le v.max_hosts (count_by (is_host_in conf group n) old.hosts) ≡ nat_le v.max_hosts (count_by (is_host_in conf group n) new.hosts)) (sym vids) (ap (nat_le v.max_hosts) count_stays)

  next_full : (u : PlanUnit) → followed.is_full u ≡ is_full_at conf d new.hosts u
  next_full unit.Dp = fulls_keep conf d new.hosts moved was unit.Dp refl
  next_full (unit.Port number) = fulls_keep conf d new.hosts moved was (unit.Port number) refl
  next_full (unit.Vlan vid) =
      stable_bool _ _ (λ differ. differ (fulls_keep conf d new.hosts moved was (unit.Vlan vid) (full_stays vid
      (λ g mac c. differ (fulls_get conf d new.hosts moved was vid (vlan_moved g vid mac c))))))
  next_full (unit.Host vid mac) = fulls_keep conf d new.hosts moved was (unit.Host vid mac) refl
  next_full (unit.Route vid) = fulls_keep conf d new.hosts moved was (unit.Route vid) refl

  pub next_places : record followed { is_table_full = is_table_full new.hosts } ≡ places_of conf d new.hosts
  next_places = all_places conf d new.hosts followed next_port next_full
