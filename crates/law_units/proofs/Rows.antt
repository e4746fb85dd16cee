-- Row by row: what a unit out of reach reads of the state is as it was.
use Rattle.std.proofs.Common.{◌≡◌, ℕ, zero, suc, Bool, true, false, cond, not, ◌==◌, ◌&&◌, ◌||◌, if◌then◌else◌, List, [], ◌∷◌, ◌++◌, map, filter, length, Option, Some, None, option_to_list, refl, sym, ap, ◌∙◌, subst, arith, eqb-true, eq-eqb}
use Rattle.std.specs.Prelude.{Contains, IsSomeAnd, nat_le, count_by}
use Rattle.std.specs.List.{find, filter_map, cons_option, list_any}
use Rattle.std.specs.Option.{option_map, option_map_or, option_and_then}
use Rattle.std.proofs.lemmas.Bool.{and_parts, and_from, or_left, or_right}
use Rattle.std.proofs.lemmas.Option.{same_Some, none-some}
use Rattle.net_base.specs.declared.address.Mac.{Mac}
use Rattle.net_base.specs.declared.numbers.DpId.{DpId}
use Rattle.net_base.specs.declared.stack.StackLink.{StackLink}
use Rattle.of_match.specs.declared.action.Action.{Action}
use Rattle.of_match.specs.declared.entry.Entry.{Entry}
use Rattle.stack_paths.specs.Chosen.{hop_of, is_tree_port}
use Rattle.stack_paths.specs.Stack.{Stack}
use Rattle.conf_types.specs.declared.datapath.Dp.{Dp}
use Rattle.conf_types.specs.declared.datapath.Port.{Port}
use Rattle.conf_types.specs.declared.state.HostRec.{HostRec}
use Rattle.conf_types.specs.declared.state.UpRec.{UpRec}
use Rattle.conf_types.specs.declared.vlan.Vlan.{Vlan}
use Rattle.conf_types.specs.Changes.{host_by, Standing, standing, standing_of, AreNamed}
use Rattle.conf_types.specs.Configuration.{Configuration, port_with, port_at, vlan_with}
use Rattle.conf_types.specs.Groups.{IsDp, IsGroup, group_of}
use Rattle.conf_types.specs.Links.{is_up, links, IsLinkUp}
use Rattle.conf_types.specs.Lists.{is_same, is_among}
use Rattle.conf_types.specs.Membership.{is_edge, is_stack, is_accepting, is_edge_member, is_native_in, is_tagged_in, has_edge_member}
use Rattle.conf_types.specs.State.{State, is_host_at, is_host_in, is_port_full, is_vlan_full, is_table_full, most_hosts, is_fresh, is_permanent}
use Rattle.packet_way.specs.Known.{stack_of}
use Rattle.plan_base.specs.declared.table.Table.TheVariants as table
use Rattle.plan_base.specs.Actions.{to_controller}
use Rattle.plan_base.specs.Entries.{leads_to, entry}
use Rattle.plan_base.specs.Fields.{in_port, vid_field, eth_src}
use Rattle.acl_compile.specs.Slices.{port_acl, vlan_acl}
use Rattle.vlan_compile.specs.declared.flood.Flood.{Flood}
use Rattle.vlan_compile.specs.declared.flood.Flood.TheVariants.{Group, Unicast}
use Rattle.vlan_compile.specs.declared.flood.Ingress.{Ingress}
use Rattle.vlan_compile.specs.declared.flood.Ingress.TheVariants.{Any, At}
use Rattle.vlan_compile.specs.Admissions.{admissions}
use Rattle.vlan_compile.specs.Destinations.{at_port, over_stack}
use Rattle.vlan_compile.specs.Floods.{is_in, is_for, is_flooded, may_get, flooded, by_each, popped, flood_priority, from_fields, to_fields, flood_entry, is_apart, has_flooded, floods_to, floods}
use Rattle.vlan_compile.specs.Misses.{has_host, miss}
use Rattle.vlan_compile.specs.Sources.{elsewhere}
use Rattle.vlan_compile.specs.Vlans.{tagged_vlans, vlans_of}
use Rattle.route_compile.specs.Vips.{vip_slice}
use Rattle.law_paths.specs.Part.{AreAlikeIn}
use Rattle.law_runs.specs.Members.{head_of, tail_of}
use Rattle.plan_units.specs.declared.unit.Unit.{Unit as PlanUnit}
use Rattle.plan_units.specs.declared.unit.Unit.TheVariants as unit
use Rattle.plan_units.specs.Facts.{found}
use Rattle.plan_units.specs.Laws.{IsSetting}
use Rattle.plan_units.specs.Units.{of_port, of_vlan, of_host, is_of_group, hosts_of, entries}
use Rattle.conf_types.specs.declared.change.Change.{Change}
use Rattle.conf_types.specs.declared.change.Change.TheVariants as change
use Rattle.law_units.specs.Reach.{has_vlan, is_full_in, TouchesPort, IsStackEnd, Reaches, IsInReach}
use Rattle.law_units.proofs.Around.{alike}
use Rattle.law_units.proofs.Hosts.{stable_bool, stable_standing, own, keyed, ReadsPlace, same_any, same_count, same_length}

-- ---- lists

same_mapped : {A B : Type 0} (f g : A → B) (xs : List A) → ((x : A) → Contains xs x → f x ≡ g x) → map f xs ≡ map g xs
same_mapped f g [] h = refl
same_mapped f g (x ∷ xs) h = ap (λ y. y ∷ map f xs) (h x (head_of x xs)) ∙ ap (λ l. g x ∷ l) (same_mapped f g xs (λ y c. h y (tail_of x xs y c)))

same_kept : {A : Type 0} (p q : A → Bool) → ((x : A) → p x ≡ q x) → (xs : List A) → filter p xs ≡ filter q xs
same_kept p q h [] = refl
same_kept p q h (x ∷ xs) = ap (λ b. cond b (x ∷ filter p xs) (filter p xs)) (h x) ∙ ap (λ l. cond (q x) (x ∷ l) l) (same_kept p q h xs)

same_tests : {A : Type 0} (p q : A → Bool) → ((x : A) → p x ≡ q x) → (xs : List A) → list_any p xs ≡ list_any q xs
same_tests p q h [] = refl
same_tests p q h (x ∷ xs) = ap (λ b. b || list_any p xs) (h x) ∙ ap (λ b. q x || b) (same_tests p q h xs)

all_pass : {A : Type 0} (xs : List A) → filter (λ x. true) xs ≡ xs
all_pass [] = refl
all_pass (x ∷ xs) = ap (λ l. x ∷ l) (all_pass xs)

-- what is found among those that are kept
find_kept : {A : Type 0} (p q : A → Bool) (xs : List A) → find q (filter p xs) ≡ find (λ x. p x && q x) xs
find_kept p q [] = refl
find_kept {A = A} p q (x ∷ xs) = by (p x) (find_kept p q xs)
  where
    by : (b : Bool) → find q (filter p xs) ≡ find (λ y. p y && q y) xs → find q (cond b (x ∷ filter p xs) (filter p xs)) ≡ cond (b && q x) (Some x) (find (λ y. p y && q y) xs)
    by true more = ap (λ o. cond (q x) (Some x) o) more
    by false more = more

same_find : {A : Type 0} (p q : A → Bool) → ((x : A) → p x ≡ q x) → (xs : List A) → find p xs ≡ find q xs
same_find p q h [] = refl
same_find p q h (x ∷ xs) = ap (λ b. cond b (Some x) (find p xs)) (h x) ∙ ap (λ o. cond (q x) (Some x) o) (same_find p q h xs)

and_moved : (a b c : Bool) → (a && (b && c)) ≡ ((a && b) && c)
and_moved true b c = refl
and_moved false b c = refl

-- ---- floods by the tree ports

module _ (d : Dp) (v : Vlan) (s t : Stack) (tree : (p : ℕ) → is_tree_port s d.id p ≡ is_tree_port t d.id p) where
  flooded_same : (flood : Flood) (from : Ingress) → flooded s d v flood from ≡ flooded t d v flood from
  flooded_same flood from =
      same_kept (λ q. is_flooded s d v flood q && may_get from q) (λ q. is_flooded t d v flood q && may_get from q)
      (λ q. ap (λ b. ((is_edge_member q v.vid && is_for flood q) || b) && may_get from q) (tree q.no)) d.ports

  abbrev actions_by : Flood → Ingress → List Port → List Action
  actions_by flood from ports =
      if is_in flood v then by_each d from (filter (λ q. not (is_native_in q v.vid)) ports) ++ popped (by_each d from (filter (λ q. is_native_in q v.vid) ports)) else []

  entry_same : (flood : Flood) (from : Ingress) → flood_entry s d v flood from ≡ flood_entry t d v flood from
  entry_same flood from =
      ap (λ ports. entry table.Flood (flood_priority flood from) (from_fields from ++ to_fields flood v.vid) (leads_to (actions_by flood from ports) None)) (flooded_same flood from)

  has_same : has_flooded s d v ≡ has_flooded t d v
  has_same = ap (λ b. has_edge_member d v.vid || b) (same_tests (λ q. is_tree_port s d.id q.no) (λ q. is_tree_port t d.id q.no) (λ q. tree q.no) d.ports)

  to_same : (flood : Flood) → floods_to s d v flood ≡ floods_to t d v flood
  to_same flood =
      let apart = filter (is_apart d v) d.ports in
      (λ i. (if has_same i then entry_same flood Any i ∷ [] else []) ++ map (λ q. flood_entry s d v flood (At q.no)) apart)
      ∙ ap (λ l. (if has_flooded t d v then flood_entry t d v flood Any ∷ [] else []) ++ l) (same_mapped (λ q. flood_entry s d v flood (At q.no)) (λ q. flood_entry t d v flood (At q.no)) apart (λ q c. entry_same flood (At q.no)))

  floods_same : floods d v s ≡ floods d v t
  floods_same = ap (λ l. l ++ floods_to s d v Group) (to_same Unicast) ∙ ap (λ l. floods_to t d v Unicast ++ l) (to_same Group)

-- ---- VLANs of a port

module _ (conf : Configuration) (i : Port) where
  record IsOne (w : Vlan) : Type 0 where
    named : (is_native_in i w.vid || is_tagged_in i w.vid) ≡ true
    is_vlan : vlan_with conf.vlans w.vid ≡ Some w

  vlan_is : (n : ℕ) (w : Vlan) → vlan_with conf.vlans n ≡ Some w → (w.vid ≡ n) × (vlan_with conf.vlans w.vid ≡ Some w)
  vlan_is n w is = let same : w.vid ≡ n = eqb-true w.vid n (found (λ (y : Vlan). y.vid == n) conf.vlans w is).passes in (same, ap (vlan_with conf.vlans) same ∙ is)

  tagged_one : (vids : List ℕ) (w : Vlan) → Contains (filter_map (vlan_with conf.vlans) vids) w → (is_among vids w.vid ≡ true) × (vlan_with conf.vlans w.vid ≡ Some w)
  tagged_one [] w (k, lt, is) = absurd (omega (arith, lt))
  tagged_one (n ∷ vids) w c = by (vlan_with conf.vlans n) refl (tagged_one vids w) c
    where
      later : (is_among vids w.vid ≡ true) × (vlan_with conf.vlans w.vid ≡ Some w) → (is_among (n ∷ vids) w.vid ≡ true) × (vlan_with conf.vlans w.vid ≡ Some w)
      later p = (or_right (n == w.vid) (is_among vids w.vid) p.0, p.1)

      by : (o : Option Vlan) → vlan_with conf.vlans n ≡ o → (Contains (filter_map (vlan_with conf.vlans) vids) w → (is_among vids w.vid ≡ true) × (vlan_with conf.vlans w.vid ≡ Some w))
          → Contains (cons_option o (filter_map (vlan_with conf.vlans) vids)) w → (is_among (n ∷ vids) w.vid ≡ true) × (vlan_with conf.vlans w.vid ≡ Some w)
      by None is more c = later (more c)
      by (Some x) is more (zero, lt, same) =
          let here = vlan_is n w (is ∙ ap Some same) in
          (or_left (n == w.vid) (is_among vids w.vid) (eq-eqb n w.vid (sym here.0)), here.1)
      by (Some x) is more (suc k, lt, same) = later (more (k, omega (arith, lt), same))

  listed : (w : Vlan) → Contains (vlans_of conf i) w → IsOne w
  listed w c = by i.native refl c
    where
      tagged : Contains (tagged_vlans conf i) w → IsOne w
      tagged c = let t = tagged_one i.tagged w c in record { named = or_right (is_native_in i w.vid) (is_tagged_in i w.vid) t.0; is_vlan = t.1 }

      found_at : (n : ℕ) (o : Option Vlan) → i.native ≡ Some n → vlan_with conf.vlans n ≡ o → Contains (option_to_list o ++ tagged_vlans conf i) w → IsOne w
      found_at n None native is c = tagged c
      found_at n (Some x) native is (zero, lt, same) =
          let here = vlan_is n w (is ∙ ap Some same) in
          record {
            named = or_left (is_native_in i w.vid) (is_tagged_in i w.vid) (ap (λ o. option_map_or (λ m. m == w.vid) o false) native ∙ eq-eqb n w.vid (sym here.0));
            is_vlan = here.1;
          }
      found_at n (Some x) native is (suc k, lt, same) = tagged (k, omega (arith, lt), same)

      by : (o : Option ℕ) → i.native ≡ o → Contains (option_to_list (option_and_then (vlan_with conf.vlans) o) ++ tagged_vlans conf i) w → IsOne w
      by None native c = tagged c
      by (Some n) native c = found_at n (vlan_with conf.vlans n) native refl c

-- ---- between two states

module _ (conf : Configuration) (old new : State) (d : Dp) (changes : List Change) (so : IsSetting conf old d) (sn : IsSetting conf new d) (named : AreNamed conf old new changes) where
  abbrev pub Out : PlanUnit → Type 0
  Out u = IsInReach conf old new d changes u → ⊥

  pub unnamed : (u : PlanUnit) → Out u → (c : Change) → Reaches conf old new d c u → Contains changes c → ⊥
  unnamed u out c reaches n = out (record { by = c; named = n; reaches = reaches })

  pub host_stays : (u : PlanUnit) → Out u → (group : DpId) (vid : ℕ) (mac : Mac) → Reaches conf old new d (change.Host group vid mac) u → standing_of conf old group vid mac ≡ standing_of conf new group vid mac
  host_stays u out group vid mac reaches = stable_standing _ _ (λ differ. unnamed u out (change.Host group vid mac) reaches (named.hosts group vid mac differ))

  -- ---- an interface

  module _ (number : ℕ) (out : Out (unit.Port number)) where
    -- hosts that stand there
    reads_place : ReadsPlace conf (is_host_at d.id number) (λ h. h.vid)
    reads_place = record { test = λ a b same dps ports. (λ i. ((dps i).0 == d.id.0) && (ports i == number)); number = λ a b same dps ports. same.vlans }

    stood : (h : HostRec) → Contains old.hosts h → is_host_at d.id number h ≡ true → standing_of conf old (group_of conf h.dp) h.vid h.mac ≡ standing_of conf new (group_of conf h.dp) h.vid h.mac
    stood h c here =
        host_stays (unit.Port number) out (group_of conf h.dp) h.vid h.mac
        (TouchesPort.stood (subst (λ o. IsSomeAnd o (λ g. is_host_at d.id number g ≡ true)) (sym (own conf old.hosts so.state.host_keys h c)) here))

    stands : (h : HostRec) → Contains new.hosts h → is_host_at d.id number h ≡ true → standing_of conf old (group_of conf h.dp) h.vid h.mac ≡ standing_of conf new (group_of conf h.dp) h.vid h.mac
    stands h c here =
        host_stays (unit.Port number) out (group_of conf h.dp) h.vid h.mac
        (TouchesPort.stands (subst (λ o. IsSomeAnd o (λ g. is_host_at d.id number g ≡ true)) (sym (own conf new.hosts sn.state.host_keys h c)) here))

    has_stays : (vid : ℕ) → has_host old.hosts d.id number vid ≡ has_host new.hosts d.id number vid
    has_stays vid = same_any conf old new so.state.host_keys sn.state.host_keys (is_host_at d.id number) (λ h. h.vid) reads_place stood stands vid

    count_stays : count_by (is_host_at d.id number) old.hosts ≡ count_by (is_host_at d.id number) new.hosts
    count_stays = same_count conf old new so.state.host_keys sn.state.host_keys (is_host_at d.id number) (λ h. h.vid) reads_place stood stands

    -- hosts of a VLAN, where it is full in one state alone
    module _ (v : Vlan) (is_vlan : vlan_with conf.vlans v.vid ≡ Some v) (has : has_vlan conf old new d number v.vid ≡ true) where
      full_is : (now : State) (group : DpId) → is_full_in conf old new d now group v.vid ≡ is_vlan_full conf now.hosts group v
      full_is now group = ap (λ o. option_map_or (is_vlan_full conf now.hosts group) o false) is_vlan

      in_vlan : (is_vlan_full conf old.hosts (group_of conf d.id) v ≡ is_vlan_full conf new.hosts (group_of conf d.id) v → ⊥) → (h : HostRec) → is_host_in conf (group_of conf d.id) v.vid h ≡ true
          → standing_of conf old (group_of conf h.dp) h.vid h.mac ≡ standing_of conf new (group_of conf h.dp) h.vid h.mac
      in_vlan differ h here =
          let p = and_parts ((group_of conf h.dp).0 == (group_of conf d.id).0) (h.vid == v.vid) here in
          let groups : (group_of conf h.dp).0 ≡ (group_of conf d.id).0 = eqb-true (group_of conf h.dp).0 (group_of conf d.id).0 p.0 in
          let vids : h.vid ≡ v.vid = eqb-true h.vid v.vid p.1 in
          let there =
          host_stays (unit.Port number) out (group_of conf d.id) v.vid h.mac
          (TouchesPort.vlan refl has (λ same. differ (sym (full_is old (group_of conf d.id)) ∙ same ∙ full_is new (group_of conf d.id)))) in
          subst (λ n. standing_of conf old (group_of conf h.dp) n h.mac ≡ standing_of conf new (group_of conf h.dp) n h.mac) (sym vids)
          (subst (λ (g : DpId). standing_of conf old g v.vid h.mac ≡ standing_of conf new g v.vid h.mac) (λ i. record { 0 = sym groups i }) there)

      reads_vlan : ReadsPlace conf (is_host_in conf (group_of conf d.id) v.vid) (λ h. 0)
      reads_vlan = record { test = λ a b same dps ports. (λ i. (same.groups i == (group_of conf d.id).0) && (same.vlans i == v.vid)); number = λ a b same dps ports. refl }

      vlan_stays : is_vlan_full conf old.hosts (group_of conf d.id) v ≡ is_vlan_full conf new.hosts (group_of conf d.id) v
      vlan_stays =
          stable_bool _ _ (λ differ. differ (ap (λ n. nat_le v.max_hosts n)
          (same_count conf old new so.state.host_keys sn.state.host_keys (is_host_in conf (group_of conf d.id) v.vid) (λ h. 0) reads_vlan (λ h c here. in_vlan differ h here) (λ h c here. in_vlan differ h here))))

    -- all hosts, where the table is full in one state alone
    reads_all : ReadsPlace conf (λ h. true) (λ h. 0)
    reads_all = record { test = λ a b same dps ports. refl; number = λ a b same dps ports. refl }

    table_stays : is_table_full old.hosts ≡ is_table_full new.hosts
    table_stays =
        stable_bool _ _ (λ differ. differ (ap (λ n. nat_le most_hosts n)
        (sym (ap length (all_pass old.hosts))
        ∙ same_length conf old new so.state.host_keys sn.state.host_keys (λ h. true) (λ h. 0) reads_all (λ h c here. host_stays (unit.Port number) out (group_of conf h.dp) h.vid h.mac (TouchesPort.table differ)) (λ h c here. host_stays (unit.Port number) out (group_of conf h.dp) h.vid h.mac (TouchesPort.table differ))
        ∙ ap length (all_pass new.hosts))))

    -- ---- its entries

    abbrev missed_by : Port → Vlan → Bool → Bool → Bool → Bool → Entry
    missed_by i w has port vlan all =
        entry table.Source 10 (in_port i.no ∷ vid_field w.vid ∷ [])
        (if i.permanent_learn && has then leads_to [] None else if (port || vlan) || all then leads_to [] (Some table.Ipv4Route) else leads_to (to_controller ∷ []) (Some table.Ipv4Route))

    pub port_stays : entries conf old d (unit.Port number) ≡ entries conf new d (unit.Port number)
    port_stays = by (port_with d.ports number) refl
      where
        one : (i : Port) → port_with d.ports number ≡ Some i → i.no ≡ number → is_accepting i ≡ true → (w : Vlan) → Contains (vlans_of conf i) w → miss conf old.hosts d i w ≡ miss conf new.hosts d i w
        one i is same accepting w c =
            let member = listed conf i w c in
            let edge = (and_parts (is_edge i) (not i.output_only) accepting).0 in
            let has : has_vlan conf old new d number w.vid ≡ true = ap (λ o. option_map_or (λ p. is_edge_member p w.vid) o false) is ∙ and_from (is_edge i) _ edge member.named in
            let a : has_host old.hosts d.id i.no w.vid ≡ has_host new.hosts d.id i.no w.vid = subst (λ n. has_host old.hosts d.id n w.vid ≡ has_host new.hosts d.id n w.vid) (sym same) (has_stays w.vid) in
            let b : is_port_full old.hosts d.id i ≡ is_port_full new.hosts d.id i = subst (λ n. nat_le i.max_hosts (count_by (is_host_at d.id n) old.hosts) ≡ nat_le i.max_hosts (count_by (is_host_at d.id n) new.hosts)) (sym same) (ap (λ n. nat_le i.max_hosts n) count_stays) in
            let e = vlan_stays w member.is_vlan has in
            λ j. missed_by i w (a j) (b j) (e j) (table_stays j)

        all : (i : Port) → port_with d.ports number ≡ Some i → i.no ≡ number → (b : Bool) → is_accepting i ≡ b → (if b then map (miss conf old.hosts d i) (vlans_of conf i) else []) ≡ (if b then map (miss conf new.hosts d i) (vlans_of conf i) else [])
        all i is same true accepting = same_mapped (miss conf old.hosts d i) (miss conf new.hosts d i) (vlans_of conf i) (one i is same accepting)
        all i is same false closed = refl

        by : (o : Option Port) → port_with d.ports number ≡ o → option_map_or (of_port conf old d) o [] ≡ option_map_or (of_port conf new d) o []
        by None is = refl
        by (Some i) is =
            ap (λ l. port_acl conf d i ++ (admissions conf d i ++ l)) (all i is (eqb-true i.no number (found (λ (q : Port). q.no == number) d.ports i is).passes) (is_accepting i) refl)

  -- ---- over the stack

  module _ (group_law : (conf : Configuration) (dp : DpId) → IsDp conf dp → IsGroup conf dp (group_of conf dp))
      (up_law : (ups : List UpRec) (l : StackLink) → Contains (links conf ups) l → IsLinkUp conf ups l)
      (hop_law : (part : DpId → Bool) (s t : Stack) → AreAlikeIn part s t → (a b : DpId) → part a ≡ true → hop_of s a b ≡ hop_of t a b)
      (tree_law : (part : DpId → Bool) (s t : Stack) → AreAlikeIn part s t → (e : DpId) (p : ℕ) → part e ≡ true → is_tree_port s e p ≡ is_tree_port t e p)
      (u : PlanUnit) (out : Out u) (by_links : (dp : DpId) (port : ℕ) → IsStackEnd conf old new d dp port → Reaches conf old new d (change.Port dp port) u) where
    quiet : (e : DpId) (number : ℕ) → ((group_of conf e).0 == (group_of conf d.id).0) ≡ true → IsSomeAnd (port_at conf e number) (λ p. is_stack p ≡ true) → is_up old.ups e number ≡ is_up new.ups e number
    quiet e number here stack =
        stable_bool _ _ (λ differ. unnamed u out (change.Port e number) (by_links e number (record { ours = eqb-true (group_of conf e).0 (group_of conf d.id).0 here; stack = stack })) (named.ports e number differ))

    same_part : AreAlikeIn (λ e. (group_of conf e).0 == (group_of conf d.id).0) (stack_of conf old.ups) (stack_of conf new.ups)
    same_part = alike conf so.valid (group_law conf) d.id old.ups new.ups quiet (up_law old.ups) (up_law new.ups)

    own_part : ((group_of conf d.id).0 == (group_of conf d.id).0) ≡ true
    own_part = eq-eqb (group_of conf d.id).0 (group_of conf d.id).0 refl

    hop_stays : (e : DpId) → hop_of (stack_of conf old.ups) d.id e ≡ hop_of (stack_of conf new.ups) d.id e
    hop_stays e = hop_law (λ e. (group_of conf e).0 == (group_of conf d.id).0) (stack_of conf old.ups) (stack_of conf new.ups) same_part d.id e own_part

    pub vlan_entries : (vid : ℕ) → entries conf old d (unit.Vlan vid) ≡ entries conf new d (unit.Vlan vid)
    vlan_entries vid = by (vlan_with conf.vlans vid)
      where
        by : (o : Option Vlan) → option_map_or (of_vlan conf old d) o [] ≡ option_map_or (of_vlan conf new d) o []
        by None = refl
        by (Some v) =
            ap (λ l. vlan_acl conf d v ++ (vip_slice d v ++ l))
            (floods_same d v (stack_of conf old.ups) (stack_of conf new.ups) (λ p. tree_law (λ e. (group_of conf e).0 == (group_of conf d.id).0) (stack_of conf old.ups) (stack_of conf new.ups) same_part d.id p own_part))

    -- a host with its key
    looked_up : (now : State) (vid : ℕ) (mac : Mac) → find (λ h. h.vid == vid && is_same h.mac.0 mac.0) (hosts_of conf now d) ≡ host_by conf now.hosts (group_of conf d.id) vid mac
    looked_up now vid mac =
        find_kept (is_of_group conf d) (λ h. h.vid == vid && is_same h.mac.0 mac.0) now.hosts
        ∙ same_find (λ h. is_of_group conf d h && (h.vid == vid && is_same h.mac.0 mac.0)) (λ h. is_host_in conf (group_of conf d.id) vid h && is_same h.mac.0 mac.0) (λ h. and_moved ((group_of conf h.dp).0 == (group_of conf d.id).0) (h.vid == vid) (is_same h.mac.0 mac.0)) now.hosts

    abbrev sources_by : HostRec → Bool → List Entry
    sources_by h fresh =
        (if h.dp.0 == d.id.0 then entry table.Source 30 (in_port h.port ∷ eth_src h.mac ∷ vid_field h.vid ∷ []) (leads_to (if not fresh then to_controller ∷ [] else []) (Some table.Ipv4Route)) ∷ [] else [])
        ++ (if is_permanent conf h then elsewhere h ∷ [] else [])

    abbrev destinations_by : HostRec → Option ℕ → List Entry
    destinations_by h hop = if h.dp.0 == d.id.0 then option_map_or (at_port d h) (port_with d.ports h.port) [] else option_to_list (option_map (over_stack h) hop)

    host_same : (g h : HostRec) → g.dp ≡ h.dp → g.port ≡ h.port → g.vid ≡ h.vid → g.mac.0 ≡ h.mac.0 → is_fresh conf old.moment g ≡ is_fresh conf new.moment h → of_host conf old d g ≡ of_host conf new d h
    host_same g h dps ports vids macs fresh =
        let turned : HostRec = record { dp = h.dp; port = h.port; vid = h.vid; mac = h.mac; learned = g.learned } in
        let is : g ≡ turned = λ i. record { dp = dps i; port = ports i; vid = vids i; mac = record { 0 = macs i }; learned = g.learned } in
        (λ i. sources_by (is i) (is_fresh conf old.moment g) ++ destinations_by (is i) (hop_of (stack_of conf old.ups) d.id (dps i)))
        ∙ (λ i. sources_by h (fresh i) ++ destinations_by h (hop_stays h.dp i))

    pub host_entries : (vid : ℕ) (mac : Mac) → standing_of conf old (group_of conf d.id) vid mac ≡ standing_of conf new (group_of conf d.id) vid mac → entries conf old d (unit.Host vid mac) ≡ entries conf new d (unit.Host vid mac)
    host_entries vid mac still =
        ap (λ o. option_map_or (of_host conf old d) o []) (looked_up old vid mac)
        ∙ by (host_by conf old.hosts (group_of conf d.id) vid mac) (host_by conf new.hosts (group_of conf d.id) vid mac) refl refl still
        ∙ sym (ap (λ o. option_map_or (of_host conf new d) o []) (looked_up new vid mac))
      where
        by : (a b : Option HostRec) → host_by conf old.hosts (group_of conf d.id) vid mac ≡ a → host_by conf new.hosts (group_of conf d.id) vid mac ≡ b → option_map (standing conf old) a ≡ option_map (standing conf new) b
            → option_map_or (of_host conf old d) a [] ≡ option_map_or (of_host conf new d) b []
        by None None ea eb same = refl
        by None (Some h) ea eb same = absurd (none-some _ same)
        by (Some g) None ea eb same = absurd (none-some _ (sym same))
        by (Some g) (Some h) ea eb same =
            let kg = keyed conf (group_of conf d.id) vid mac g (found (λ (x : HostRec). is_host_in conf (group_of conf d.id) vid x && is_same x.mac.0 mac.0) old.hosts g ea).passes in
            let kh = keyed conf (group_of conf d.id) vid mac h (found (λ (x : HostRec). is_host_in conf (group_of conf d.id) vid x && is_same x.mac.0 mac.0) new.hosts h eb).passes in
            let place : standing conf old g ≡ standing conf new h = same_Some (standing conf old g) (standing conf new h) same in
            host_same g h (ap (λ (x : Standing). x.dp) place) (ap (λ (x : Standing). x.port) place) (kg.vids ∙ sym kh.vids) (kg.macs ∙ sym kh.macs) (ap (λ (x : Standing). x.is_fresh) place)
