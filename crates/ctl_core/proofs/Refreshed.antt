-- Hosts of which one is heard again where it stands and is fresh: each stands where it stood, as fresh, and none ends
-- earlier; and what each datapath is to have is the same.
use Rattle.std.proofs.Common.{◌≡◌, ℕ, ◌≤◌, ◌==◌, ◌&&◌, ◌||◌, ◌++◌, ◌+◌, suc, Bool, true, false, cond, not, Some, None, List, [], ◌∷◌, length, map, filter, nat_le, nat_lt, refl, sym, ap, ◌∙◌, arith, if◌then◌else◌}
use Rattle.std.specs.List.{AllByRecursion, count_by, find, flat_map, fold, list_any}
use Rattle.std.specs.Option.{option_map, option_map_or}
use Rattle.std.proofs.lemmas.Bool.{lt-ltb, ltb-true}
use Rattle.net_base.specs.declared.numbers.DpId.{DpId}
use Rattle.of_match.specs.declared.entry.Command.TheVariants.{Add}
use Rattle.of_match.specs.declared.entry.Entry.{Entry}
use Rattle.of_match.specs.Settled.{after_all}
use Rattle.conf_types.specs.declared.datapath.Dp.{Dp}
use Rattle.conf_types.specs.declared.datapath.Port.{Port}
use Rattle.conf_types.specs.declared.state.HostRec.{HostRec}
use Rattle.conf_types.specs.declared.vlan.Vlan.{Vlan}
use Rattle.conf_types.specs.Configuration.{Configuration, dp_with}
use Rattle.conf_types.specs.Groups.{group_of}
use Rattle.conf_types.specs.Membership.{is_accepting}
use Rattle.conf_types.specs.State.{State, forgotten_at, is_fresh, is_host_at, is_host_in, is_permanent, is_stale, most_hosts, stale_at}
use Rattle.host_learn.specs.Learning.{is_in_place, refreshed}
use Rattle.packet_way.specs.Known.{stack_of}
use Rattle.plan_base.specs.declared.table.Table.TheVariants.{Source, Ipv4Route}
use Rattle.plan_base.specs.Actions.{to_controller}
use Rattle.plan_base.specs.Entries.{entry, leads_to}
use Rattle.plan_base.specs.Fields.{eth_src, in_port, vid_field}
use Rattle.acl_compile.specs.Slices.{port_acl}
use Rattle.vlan_compile.specs.Admissions.{admissions}
use Rattle.vlan_compile.specs.Destinations.{destinations}
use Rattle.vlan_compile.specs.Misses.{has_host, is_full, missed, misses}
use Rattle.vlan_compile.specs.Sources.{elsewhere}
use Rattle.vlan_compile.specs.Vlans.{vlans_of}
use Rattle.plan_units.specs.Fixed.{fixed}
use Rattle.plan_units.specs.Units.{is_of_group, of_host, of_routes, of_vlan, plan}
use Rattle.cold_start.specs.Cold.{cold, cold_at}
use Rattle.neighbour_resolve.specs.Due.{never}
use Rattle.ctl_settle.specs.Rest.{host_until}
use Rattle.ctl_core.specs.Behind.{stands_at}

-- ---- one host

fresh_by : (moment old new : ℕ) → old ≤ new → (stays : Bool) → (stays || nat_lt moment old) ≡ true → (stays || nat_lt moment new) ≡ true
fresh_by moment old new less true fresh = refl
fresh_by moment old new less false fresh = let past = ltb-true moment old fresh in lt-ltb moment new (omega (arith, less, past))

end_by : (moment old new over over_new : ℕ) → old ≤ new → (stays : Bool) → (stays || nat_lt moment old) ≡ true → (stays || nat_lt moment new) ≡ true
    → (if stays then never else if (stays || nat_lt moment old) then old else over) ≤ (if stays then never else if (stays || nat_lt moment new) then new else over_new)
end_by moment old new over over_new less true was is = omega arith
end_by moment old new over over_new less false was is =
    let first : (if nat_lt moment old then old else over) ≡ old = ap (λ b. if b then old else over) was in
    let second : (if nat_lt moment new then new else over_new) ≡ new = ap (λ b. if b then new else over_new) is in
    omega (arith, first, second, less)

module _ (conf : Configuration) (moment : ℕ) (heard : HostRec) where
  abbrev pub later : HostRec → HostRec
  later x = record x { learned = heard.learned }

  abbrev pub again : HostRec → HostRec
  again x = if is_in_place heard x then later x else x

  -- it is fresh, and was heard no later
  pub record WasFresh (x : HostRec) : Type 0 where
    pub fresh : is_fresh conf moment x ≡ true
    pub before : x.learned.0 ≤ heard.learned.0

  -- as the one is that stands where it is heard
  abbrev pub IsEarlier : HostRec → Type 0
  IsEarlier x = is_in_place heard x ≡ true → WasFresh x

  turns_later : (x : HostRec) → WasFresh x → stale_at conf x.dp x.learned.0 ≤ stale_at conf x.dp heard.learned.0
  turns_later x is = let less = is.before in omega (arith, less)

  still_fresh : (x : HostRec) → WasFresh x → is_fresh conf moment (later x) ≡ true
  still_fresh x is = fresh_by moment (stale_at conf x.dp x.learned.0) (stale_at conf x.dp heard.learned.0) (turns_later x is) (is_permanent conf x) is.fresh

  ends_later : (x : HostRec) → WasFresh x → host_until conf moment x ≤ host_until conf moment (later x)
  ends_later x is =
      end_by moment (stale_at conf x.dp x.learned.0) (stale_at conf x.dp heard.learned.0) (forgotten_at conf x.dp x.learned.0) (forgotten_at conf x.dp heard.learned.0)
      (turns_later x is) (is_permanent conf x) is.fresh (still_fresh x is)

  -- ---- all of them

  pub bounded_again : (until : ℕ) (hosts : List HostRec) → AllByRecursion IsEarlier hosts → AllByRecursion (λ x. until ≤ host_until conf moment x) hosts
      → AllByRecursion (λ x. until ≤ host_until conf moment x) (refreshed heard hosts)
  bounded_again until [] earlier all = tt
  bounded_again until (x ∷ xs) earlier all = (by (is_in_place heard x) refl, bounded_again until xs earlier.1 all.1)
    where
      by : (b : Bool) → is_in_place heard x ≡ b → until ≤ host_until conf moment (if b then later x else x)
      by true is = let first = all.0 in let second = ends_later x (earlier.0 is) in omega (arith, first, second)
      by false is = all.0

  -- a test that doesn't read when a host was heard
  same_test : (test : HostRec → Bool) → ((x : HostRec) → test (later x) ≡ test x) → (x : HostRec) → test (again x) ≡ test x
  same_test test unheard x = elim (is_in_place heard x) as (λ b. test (if b then later x else x) ≡ test x) [ true ↦ unheard x | false ↦ refl ]

  stands_again : (x : HostRec) → IsEarlier x → stands_at conf moment (again x) ≡ stands_at conf moment x
  stands_again x earlier = by (is_in_place heard x) refl
    where
      by : (b : Bool) → is_in_place heard x ≡ b → stands_at conf moment (if b then later x else x) ≡ stands_at conf moment x
      by true is =
          let known = earlier is in
          let same : is_fresh conf moment (later x) ≡ is_fresh conf moment x = still_fresh x known ∙ sym known.fresh in
          λ i. record { dp = x.dp; port = x.port; is_fresh = same i }
      by false is = refl

  pub found_again : (key : HostRec → Bool) → ((x : HostRec) → key (later x) ≡ key x) → (hosts : List HostRec) → AllByRecursion IsEarlier hosts
      → option_map (stands_at conf moment) (find key hosts) ≡ option_map (stands_at conf moment) (find key (refreshed heard hosts))
  found_again key unheard [] earlier = refl
  found_again key unheard (x ∷ xs) earlier =
      by (key x) (found_again key unheard xs earlier.1) ∙ ap (λ b. option_map (stands_at conf moment) (cond b (Some (again x)) (find key (refreshed heard xs)))) (sym (same_test key unheard x))
    where
      by : (b : Bool) → option_map (stands_at conf moment) (find key xs) ≡ option_map (stands_at conf moment) (find key (refreshed heard xs))
          → option_map (stands_at conf moment) (cond b (Some x) (find key xs)) ≡ option_map (stands_at conf moment) (cond b (Some (again x)) (find key (refreshed heard xs)))
      by true rest = ap Some (sym (stands_again x earlier.0))
      by false rest = rest

  any_again : (test : HostRec → Bool) → ((x : HostRec) → test (later x) ≡ test x) → (hosts : List HostRec) → list_any test (refreshed heard hosts) ≡ list_any test hosts
  any_again test unheard [] = refl
  any_again test unheard (x ∷ xs) = λ i. same_test test unheard x i || any_again test unheard xs i

  fold_again : (test : HostRec → Bool) → ((x : HostRec) → test (later x) ≡ test x) → (start : ℕ) (hosts : List HostRec)
      → fold (λ (n : ℕ) (x : HostRec). n + cond (test x) 1 0) start (refreshed heard hosts) ≡ fold (λ (n : ℕ) (x : HostRec). n + cond (test x) 1 0) start hosts
  fold_again test unheard start [] = refl
  fold_again test unheard start (x ∷ xs) =
      ap (λ b. fold (λ (n : ℕ) (x : HostRec). n + cond (test x) 1 0) (start + cond b 1 0) (refreshed heard xs)) (same_test test unheard x)
      ∙ fold_again test unheard (start + cond (test x) 1 0) xs

  count_again : (test : HostRec → Bool) → ((x : HostRec) → test (later x) ≡ test x) → (hosts : List HostRec) → count_by test (refreshed heard hosts) ≡ count_by test hosts
  count_again test unheard hosts = fold_again test unheard 0 hosts

  length_again : (hosts : List HostRec) → length (refreshed heard hosts) ≡ length hosts
  length_again [] = refl
  length_again (x ∷ xs) = ap (λ n. suc n) (length_again xs)

  -- ---- what a datapath is to have

  module _ (d : Dp) (hosts : List HostRec) where
    has_again : (i : Port) (v : Vlan) → has_host (refreshed heard hosts) d.id i.no v.vid ≡ has_host hosts d.id i.no v.vid
    has_again i v = any_again (λ (x : HostRec). is_host_at d.id i.no x && x.vid == v.vid) (λ x. refl) hosts

    full_again : (i : Port) (v : Vlan) → is_full conf (refreshed heard hosts) d i v ≡ is_full conf hosts d i v
    full_again i v =
        let at_port = count_again (is_host_at d.id i.no) (λ x. refl) hosts in
        let in_vlan = count_again (is_host_in conf (group_of conf d.id) v.vid) (λ x. refl) hosts in
        let all = length_again hosts in
        λ j. nat_le i.max_hosts (at_port j) || nat_le v.max_hosts (in_vlan j) || nat_le most_hosts (all j)

    missed_again : (i : Port) (v : Vlan) → missed conf (refreshed heard hosts) d i v ≡ missed conf hosts d i v
    missed_again i v =
        λ j. if i.permanent_learn && has_again i v j then leads_to [] None else if full_again i v j then leads_to [] (Some Ipv4Route) else leads_to (to_controller ∷ []) (Some Ipv4Route)

    misses_again : (i : Port) → misses conf d i (refreshed heard hosts) ≡ misses conf d i hosts
    misses_again i = λ j. if is_accepting i then map (λ (v : Vlan). entry Source 10 (in_port i.no ∷ vid_field v.vid ∷ []) (missed_again i v j)) (vlans_of conf i) else []

  module _ (s : State) (at : s.moment ≡ moment) (d : Dp) where
    abbrev by_stale : HostRec → Bool → List Entry
    by_stale x stale =
        ((if x.dp.0 == d.id.0 then entry Source 30 (in_port x.port ∷ eth_src x.mac ∷ vid_field x.vid ∷ []) (leads_to (if stale then to_controller ∷ [] else []) (Some Ipv4Route)) ∷ [] else [])
        ++ (if is_permanent conf x then elsewhere x ∷ [] else [])) ++ destinations d x (stack_of conf s.ups)

    host_again : (x : HostRec) → IsEarlier x → of_host conf s d (again x) ≡ of_host conf s d x
    host_again x earlier = by (is_in_place heard x) refl
      where
        by : (b : Bool) → is_in_place heard x ≡ b → of_host conf s d (if b then later x else x) ≡ of_host conf s d x
        by true is =
            let known = earlier is in
            let same : is_fresh conf moment (later x) ≡ is_fresh conf moment x = still_fresh x known ∙ sym known.fresh in
            let stale : is_stale conf s.moment (later x) ≡ is_stale conf s.moment x = ap (λ m. is_stale conf m (later x)) at ∙ ap not same ∙ ap (λ m. is_stale conf m x) (sym at) in
            ap (by_stale x) stale
        by false is = refl

    hosts_again : (hosts : List HostRec) → AllByRecursion IsEarlier hosts
        → flat_map (of_host conf s d) (filter (is_of_group conf d) (refreshed heard hosts)) ≡ flat_map (of_host conf s d) (filter (is_of_group conf d) hosts)
    hosts_again [] earlier = refl
    hosts_again (x ∷ xs) earlier =
        ap (λ b. flat_map (of_host conf s d) (cond b (again x ∷ filter (is_of_group conf d) (refreshed heard xs)) (filter (is_of_group conf d) (refreshed heard xs)))) (same_test (is_of_group conf d) (λ y. refl) x)
        ∙ by (is_of_group conf d x) (hosts_again xs earlier.1)
      where
        by : (b : Bool) → flat_map (of_host conf s d) (filter (is_of_group conf d) (refreshed heard xs)) ≡ flat_map (of_host conf s d) (filter (is_of_group conf d) xs)
            → flat_map (of_host conf s d) (cond b (again x ∷ filter (is_of_group conf d) (refreshed heard xs)) (filter (is_of_group conf d) (refreshed heard xs)))
            ≡ flat_map (of_host conf s d) (cond b (x ∷ filter (is_of_group conf d) xs) (filter (is_of_group conf d) xs))
        by true rest = λ i. host_again x earlier.0 i ++ rest i
        by false rest = rest

    abbrev anew : State
    anew = record s { hosts = refreshed heard s.hosts }

    module _ (earlier : AllByRecursion IsEarlier s.hosts) where
      plan_again : plan conf anew d ≡ plan conf s d
      plan_again =
          let ports = misses_again d s.hosts in
          let hosts = hosts_again s.hosts earlier in
          λ j. fixed conf d ++ (flat_map (λ (i : Port). port_acl conf d i ++ (admissions conf d i ++ ports i j)) d.ports
          ++ (flat_map (of_vlan conf s d) conf.vlans ++ (hosts j ++ flat_map (of_routes conf s d) conf.vlans)))

      cold_again : cold conf anew d ≡ cold conf s d
      unfolding cold
      cold_again = ap (λ entries. after_all [] (map Add entries)) plan_again

  pub cold_at_again : (s : State) → s.moment ≡ moment → AllByRecursion IsEarlier s.hosts → (dp : DpId) → cold_at conf (record s { hosts = refreshed heard s.hosts }) dp ≡ cold_at conf s dp
  cold_at_again s at earlier dp =
      elim (dp_with conf.dps dp) as (λ o. option_map_or (cold conf (record s { hosts = refreshed heard s.hosts })) o [] ≡ option_map_or (cold conf s) o []) [
        | Some d ↦ cold_again s at d earlier
        | None ↦ refl
      ]
