-- Table 3, case by case.
use Rattle.std.proofs.Common.{◌≡◌, ℕ, ◌^◌, ◌<◌, ◌≤◌, ◌==◌, ◌&&◌, ◌||◌, Bool, true, false, List, [], ◌∷◌, ◌++◌, map, Option, Some, None, refl, sym, ap, ◌∙◌, subst, true≢false, eqb-true, eq-eqb, arith, if◌then◌else◌}
use Rattle.std.specs.Prelude.{Contains}
use Rattle.std.specs.List.{AllByRecursion, list_any, flat_map}
use Rattle.std.proofs.lemmas.Bool.{and_parts}
use Rattle.net_base.specs.declared.numbers.DpId.{DpId}
use Rattle.net_base.specs.declared.field.Field.{Field}
use Rattle.net_base.specs.declared.field.FieldId.TheVariants.{EthSrc, VlanVid}
use Rattle.net_base.specs.Address.{is_group}
use Rattle.net_base.specs.Numbers.{IsVid}
use Rattle.of_match.specs.declared.entry.Entry.{Entry}
use Rattle.of_match.specs.declared.packet.Packet.{Packet}
use Rattle.of_match.specs.declared.packet.Sent.{Sent}
use Rattle.of_match.specs.declared.packet.Tag.{Tag}
use Rattle.of_match.specs.Act.{act_sends}
use Rattle.of_match.specs.Hit.{hits, agrees, value_of}
use Rattle.conf_types.specs.declared.datapath.Dp.{Dp}
use Rattle.conf_types.specs.declared.datapath.Port.{Port}
use Rattle.conf_types.specs.declared.state.HostRec.{HostRec}
use Rattle.conf_types.specs.declared.vlan.Vlan.{Vlan}
use Rattle.conf_types.specs.Configuration.{Configuration}
use Rattle.conf_types.specs.Groups.{group_of}
use Rattle.conf_types.specs.Lists.{is_same}
use Rattle.conf_types.specs.Membership.{is_accepting}
use Rattle.conf_types.specs.State.{State, is_host_at, is_host_in, is_stale, is_permanent, is_barred}
use Rattle.packet_way.specs.declared.source.Heard.{Heard}
use Rattle.packet_way.specs.declared.source.Heard.TheVariants as heard_case
use Rattle.packet_way.specs.Leaving.{to_controller}
use Rattle.packet_way.specs.Source.{heard, heard_from, heard_anew, heard_again, host_here}
use Rattle.packet_way.specs.Source as description
use Rattle.plan_base.specs.declared.table.Table.TheVariants as table
use Rattle.plan_base.specs.Fields.{in_port, eth_src, group_src, vid_field}
use Rattle.plan_base.specs.Entries.{leads_to, entry}
use Rattle.plan_base.specs.Actions as action
use Rattle.acl_compile.specs.Slices.{port_acl}
use Rattle.vlan_compile.specs.Admissions.{admissions}
use Rattle.vlan_compile.specs.Misses.{misses, miss, has_host, is_full}
use Rattle.vlan_compile.specs.Sources.{sources, at_its_port, elsewhere}
use Rattle.vlan_compile.specs.Vlans.{vlans_of}
use Rattle.law_runs.specs.Decided.{Does, IsDecided, decided}
use Rattle.law_runs.specs.Members.{in_front, behind, in_mapped, in_flat, in_filtered, in_then, head_of, all_joined, all_if, all_mapped, all_filtered, all_by, of_all}
use Rattle.law_runs.specs.Order.{same_self, same_equal}
use Rattle.law_runs.specs.Runs.{stopped, went}
use Rattle.plan_units.specs.Agrees.{by_port, from_address, in_vlan, names_vlan, hits_one, same_bytes, equal_bytes}
use Rattle.plan_units.specs.Facts.{found, none_found, some_passes, none_passes, one_port, port_number, vlan_in, one_vlan, vlan_number}
use Rattle.plan_units.specs.Fixed.{from_group, passes, fixed}
use Rattle.plan_units.specs.Laws.{IsSetting, IsOf, SourceLaw}
use Rattle.plan_units.specs.PortVlans.{vlans_in, vlan_of_member}
use Rattle.plan_units.specs.Steps.{followed}
use Rattle.plan_units.specs.Tables.{ByFamily, by_family, elsewhere_in, here_in, drops_in, port_acl_in, admissions_in, vlan_acl_in, vips_in, floods_in, destinations_in, routes_elsewhere}
use Rattle.plan_units.specs.Units.{plan, of_port, of_vlan, of_host, hosts_of, is_of_group}
use Rattle.law_tables.proofs.Hits.{two, three}
use Rattle.law_tables.proofs.Ingress.{Entered, entered, in_group, place, six_of, one_host}

-- an entry's part in the decision: if it hits, and none of this priority comes before it, it does so
abbrev Part : ℕ → Packet → ℕ → List Sent → Option (ℕ × Packet) → Entry → Type 0
Part port p priority sent on e = hits e.key.fields port p ≡ true → priority ≤ e.key.priority → Does 3 port p sent on e

module _ (conf : Configuration) (now : State) (d : Dp) (setting : IsSetting conf now d) where
  -- ---- entries of table 3 alone decide there

  by_sources : (port : ℕ) (p : Packet) (sent : List Sent) (on : Option (ℕ × Packet)) (by : Entry)
      → Part port p by.key.priority sent on from_group
      → ((h : HostRec) → Contains (hosts_of conf now d) h → AllByRecursion (Part port p by.key.priority sent on) (sources conf d h now.moment))
      → ((i : Port) → Contains d.ports i → AllByRecursion (Part port p by.key.priority sent on) (misses conf d i now.hosts))
      → Contains (plan conf now d) by → by.key.table ≡ 3 → hits by.key.fields port p ≡ true
      → IsDecided 3 port p (plan conf now d) sent on
  by_sources port p sent on by group hosts ports within in_3 hit = record {
    by = by;
    within = within;
    hit = rw (eq-eqb by.key.table 3 in_3) hit;
    all = followed 3 port p by.key.priority sent on (plan conf now d) (by_family conf now d 3 (Part port p by.key.priority sent on) families);
  }
    where
      families : ByFamily conf now d 3 (Part port p by.key.priority sent on)
      families = record {
        drops = elsewhere_in 3 1 _ _ (λ e. omega (arith, e)) (drops_in conf d);
        groups = ((λ e. group), ((λ e. absurd (omega (arith, e))), ((λ e. absurd (omega (arith, e))), ((λ e. absurd (omega (arith, e))), ((λ e. absurd (omega (arith, e))), tt)))));
        port_acls = λ i c. elsewhere_in 3 0 _ _ (λ e. omega (arith, e)) (port_acl_in conf d i);
        admissions = λ i c. elsewhere_in 3 1 _ _ (λ e. omega (arith, e)) (admissions_in conf d i);
        misses = λ i c. here_in 3 _ _ (ports i c);
        vlan_acls = λ v c. elsewhere_in 3 2 _ _ (λ e. omega (arith, e)) (vlan_acl_in conf d v);
        vips = λ v c. elsewhere_in 3 6 _ _ (λ e. omega (arith, e)) (vips_in d v);
        floods = λ v c. elsewhere_in 3 8 _ _ (λ e. omega (arith, e)) (floods_in d v _);
        sources = λ h c. here_in 3 _ _ (hosts h c);
        destinations = λ h c. elsewhere_in 3 7 _ _ (λ e. omega (arith, e)) (destinations_in d h _);
        routes = λ v c. routes_elsewhere conf now d v 3 _ (λ e. omega (arith, e)) (λ e. omega (arith, e));
      }

  -- the parts of the entries of a host, and of those of a port
  of_host_by : (port : ℕ) (p : Packet) (priority : ℕ) (sent : List Sent) (on : Option (ℕ × Packet)) (h : HostRec)
      → (h.dp.0 ≡ d.id.0 → Part port p priority sent on (at_its_port conf now.moment h)) → (is_permanent conf h ≡ true → Part port p priority sent on (elsewhere h))
      → AllByRecursion (Part port p priority sent on) (sources conf d h now.moment)
  of_host_by port p priority sent on h here away =
      all_joined (Part port p priority sent on) (if h.dp.0 == d.id.0 then at_its_port conf now.moment h ∷ [] else []) _
      (all_if (Part port p priority sent on) (h.dp.0 == d.id.0) (at_its_port conf now.moment h ∷ []) [] (λ is. (here (eqb-true h.dp.0 d.id.0 is), tt)) (λ is. tt))
      (all_if (Part port p priority sent on) (is_permanent conf h) (elsewhere h ∷ []) [] (λ is. (away is, tt)) (λ is. tt))

  of_port_by : (port : ℕ) (p : Packet) (priority : ℕ) (sent : List Sent) (on : Option (ℕ × Packet)) (i : Port)
      → ((v : Vlan) → Contains (vlans_of conf i) v → Part port p priority sent on (miss conf now.hosts d i v))
      → AllByRecursion (Part port p priority sent on) (misses conf d i now.hosts)
  of_port_by port p priority sent on i each =
      all_if (Part port p priority sent on) (is_accepting i) (map (miss conf now.hosts d i) (vlans_of conf i)) []
      (λ is. all_mapped (Part port p priority sent on) (miss conf now.hosts d i) (vlans_of conf i) (all_by (λ v. Part port p priority sent on (miss conf now.hosts d i v)) (vlans_of conf i) each)) (λ is. tt)

  -- a lesser priority decides nothing
  lesser : {P : Type 0} (a b : ℕ) → a < b → b ≤ a → P
  lesser a b less le = absurd (omega (arith, less, le))

  -- ---- which members the plan has

  host_in : (h : HostRec) (e : Entry) → Contains (hosts_of conf now d) h → Contains (sources conf d h now.moment) e → Contains (plan conf now d) e
  host_in h e c w =
      behind (fixed conf d) _ e
      (behind (flat_map (of_port conf now d) d.ports) _ e
      (behind (flat_map (of_vlan conf now d) conf.vlans) _ e
      (in_front (flat_map (of_host conf now d) (hosts_of conf now d)) _ e (in_flat (of_host conf now d) (hosts_of conf now d) h e c (in_front (sources conf d h now.moment) _ e w)))))

  port_in_plan : (i : Port) (e : Entry) → Contains d.ports i → Contains (misses conf d i now.hosts) e → Contains (plan conf now d) e
  port_in_plan i e c w =
      behind (fixed conf d) _ e
      (in_front (flat_map (of_port conf now d) d.ports) _ e (in_flat (of_port conf now d) d.ports i e c (behind (port_acl conf d i) (admissions conf d i ++ misses conf d i now.hosts) e (behind (admissions conf d i) (misses conf d i now.hosts) e w))))

  group_in : Contains (plan conf now d) from_group
  group_in = in_front (fixed conf d) _ from_group (behind _ (from_group ∷ passes) from_group (head_of from_group passes))

  module _ (port : ℕ) (p : Packet) (i : Port) (v : Vlan) (o : IsOf conf now d port p i v) where
    came : Entered d port i
    came = entered conf now d setting port i o.is_port

    v_in : Contains conf.vlans v
    v_in = vlan_in conf setting.valid d setting.is_dp v.vid v o.is_vlan

    abbrev tag : Tag
    tag = (o.is_in).0

    vlan_hit : (vid : ℕ) → IsVid vid → agrees (vid_field vid) (value_of VlanVid port p) ≡ (v.vid == vid)
    vlan_hit vid is = in_vlan port p o.shaped vid is ∙ names_vlan p tag vid (o.is_in).1 ∙ ap (λ n. n == vid) (o.is_in).2

    -- what the entry of a host at its port takes
    record AtHost (h : HostRec) : Type 0 where
      by : port ≡ h.port
      src : p.src.0 ≡ h.mac.0
      vid : v.vid ≡ h.vid

    host_fields : (h : HostRec) → Contains now.hosts h → hits (at_its_port conf now.moment h).key.fields port p ≡ (port == h.port) && (is_same p.src.0 h.mac.0 && ((v.vid == h.vid) && true))
    host_fields h c =
        let l = place conf now d setting h c in
        ap (λ b. b && (agrees (eth_src h.mac) (value_of EthSrc port p) && (agrees (vid_field h.vid) (value_of VlanVid port p) && true))) (by_port port p o.shaped came.fits h.port l.number)
        ∙ ap (λ b. (port == h.port) && (b && (agrees (vid_field h.vid) (value_of VlanVid port p) && true))) (from_address port p o.shaped h.mac (six_of conf now d setting h c))
        ∙ ap (λ b. (port == h.port) && (is_same p.src.0 h.mac.0 && (b && true))) (vlan_hit h.vid l.vid)

    at_host : (h : HostRec) → Contains now.hosts h → hits (at_its_port conf now.moment h).key.fields port p ≡ true → AtHost h
    at_host h c hit =
        let parts = three (port == h.port) (is_same p.src.0 h.mac.0) (v.vid == h.vid) (sym (host_fields h c) ∙ hit) in
        record { by = eqb-true port h.port parts.0; src = same_bytes p.src.0 h.mac.0 parts.1; vid = eqb-true v.vid h.vid parts.2 }

    elsewhere_fields : (h : HostRec) → Contains now.hosts h → hits (elsewhere h).key.fields port p ≡ is_same p.src.0 h.mac.0 && ((v.vid == h.vid) && true)
    elsewhere_fields h c =
        ap (λ b. b && (agrees (vid_field h.vid) (value_of VlanVid port p) && true)) (from_address port p o.shaped h.mac (six_of conf now d setting h c))
        ∙ ap (λ b. is_same p.src.0 h.mac.0 && (b && true)) (vlan_hit h.vid (place conf now d setting h c).vid)

    miss_fields : (j : Port) (w : Vlan) → Contains d.ports j → Contains conf.vlans w → hits (miss conf now.hosts d j w).key.fields port p ≡ (port == j.no) && ((v.vid == w.vid) && true)
    miss_fields j w cj cw =
        ap (λ b. b && (agrees (vid_field w.vid) (value_of VlanVid port p) && true)) (by_port port p o.shaped came.fits j.no (port_number conf setting.valid d setting.is_dp j cj))
        ∙ ap (λ b. (port == j.no) && (b && true)) (vlan_hit w.vid (vlan_number conf setting.valid d setting.is_dp w cw))

    -- ---- what entries do

    -- the packet goes on to table 4, with a copy for the controller or without
    goes : (priority : ℕ) (fields : List Field) → Does 3 port p [] (Some (4, p)) (entry table.Source priority fields (leads_to [] (Some table.Ipv4Route)))
    goes priority fields = (same_self [], refl)

    to_it : act_sends (action.to_controller ∷ []) port p ≡ to_controller p
    to_it = rw came.no_controller refl

    copies_too : (priority : ℕ) (fields : List Field) → Does 3 port p (to_controller p) (Some (4, p)) (entry table.Source priority fields (leads_to (action.to_controller ∷ []) (Some table.Ipv4Route)))
    copies_too priority fields = (same_equal (act_sends (action.to_controller ∷ []) port p) (to_controller p) to_it, refl)

    ended : (priority : ℕ) (fields : List Field) → Does 3 port p [] None (entry table.Source priority fields (leads_to [] None))
    ended priority fields = (same_self [], refl)

    -- ---- what decides

    abbrev Just : List Sent → Option (ℕ × Packet) → Type 0
    Just sent on = IsDecided 3 port p (plan conf now d) sent on

    abbrev Outcome : Heard → Type 0
    Outcome heard_case.GoesOn = Just [] (Some (4, p))
    Outcome heard_case.IsCopied = Just (to_controller p) (Some (4, p))
    Outcome heard_case.Ends = Just [] None

    by_group : is_group p.src ≡ true → Just [] (Some (4, p))
    by_group g =
        by_sources port p [] (Some (4, p)) from_group (λ hit le. goes 40 (group_src ∷ []))
        (λ h c. of_host_by port p 40 [] (Some (4, p)) h (λ here hit le. absurd (omega (arith, le))) (λ stays hit le. absurd (omega (arith, le))))
        (λ j c. of_port_by port p 40 [] (Some (4, p)) j (λ w cw hit le. absurd (omega (arith, le))))
        group_in refl (hits_one group_src port p ∙ g)

    -- behind group addresses
    module _ (single : is_group p.src ≡ false) where
      no_group : {P : Type 0} → hits from_group.key.fields port p ≡ true → P
      no_group hit = absurd (true≢false (sym hit ∙ hits_one group_src port p ∙ single))

      abbrev test : HostRec → Bool
      test h = is_host_at d.id i.no h && h.vid == v.vid && is_same h.mac.0 p.src.0

      same_dp : (a b : DpId) → a.0 ≡ b.0 → a ≡ b
      same_dp a b is = let made : ℕ → DpId = λ n. record { 0 = n } in ap made is

      -- a host of this datapath whose entry hits passes the test
      passes_here : (h : HostRec) → h.dp.0 ≡ d.id.0 → AtHost h → test h ≡ true
      passes_here h here at =
          rw (eq-eqb h.dp.0 d.id.0 here)
          (rw (eq-eqb h.port i.no (sym at.by ∙ sym came.is)) (rw (eq-eqb h.vid v.vid (sym at.vid)) (equal_bytes h.mac.0 p.src.0 (sym at.src))))

      record IsHere (h : HostRec) : Type 0 where
        within : Contains now.hosts h
        dp : h.dp.0 ≡ d.id.0
        by : h.port ≡ i.no
        vid : h.vid ≡ v.vid
        src : h.mac.0 ≡ p.src.0

      is_here : (h : HostRec) → host_here now.hosts d.id i.no v.vid p.src ≡ Some h → IsHere h
      is_here h is =
          let f = found test now.hosts h is in
          let x = and_parts (is_host_at d.id i.no h && h.vid == v.vid) (is_same h.mac.0 p.src.0) f.passes in
          let y = and_parts (is_host_at d.id i.no h) (h.vid == v.vid) x.0 in
          let z = and_parts (h.dp.0 == d.id.0) (h.port == i.no) y.0 in
          record { within = f.within; dp = eqb-true h.dp.0 d.id.0 z.0; by = eqb-true h.port i.no z.1; vid = eqb-true h.vid v.vid y.1; src = same_bytes h.mac.0 p.src.0 x.1 }

      group_is : (h : HostRec) → h.dp.0 ≡ d.id.0 → is_of_group conf d h ≡ true
      group_is h here = eq-eqb (group_of conf h.dp).0 (group_of conf d.id).0 (ap (λ (x : DpId). (group_of conf x).0) (same_dp h.dp d.id here))

      known : (h : HostRec) → IsHere h → (sent : List Sent) → Does 3 port p sent (Some (4, p)) (at_its_port conf now.moment h) → Just sent (Some (4, p))
      known h k sent does =
          let c = in_filtered (is_of_group conf d) now.hosts h k.within (group_is h k.dp) in
          by_sources port p sent (Some (4, p)) (at_its_port conf now.moment h) (λ hit le. no_group hit)
          (λ g cg. of_host_by port p 30 sent (Some (4, p)) g
          (λ here hit le. (
          let at = at_host g (in_group conf now d setting g cg) hit in
          let same = one_host conf now d setting h g k.within (in_group conf now d setting g cg) (ap (λ (x : DpId). (group_of conf x).0) (same_dp h.dp g.dp (k.dp ∙ sym here))) (k.vid ∙ at.vid) (k.src ∙ at.src) in
          subst (λ x. Does 3 port p sent (Some (4, p)) (at_its_port conf now.moment x)) same does))
          (λ stays hit le. absurd (omega (arith, le))))
          (λ j c. of_port_by port p 30 sent (Some (4, p)) j (λ w cw hit le. absurd (omega (arith, le))))
          (host_in h (at_its_port conf now.moment h) c (in_front _ (if is_permanent conf h then elsewhere h ∷ [] else []) (at_its_port conf now.moment h) (in_then (h.dp.0 == d.id.0) (at_its_port conf now.moment h ∷ []) [] (at_its_port conf now.moment h) (eq-eqb h.dp.0 d.id.0 k.dp) (head_of (at_its_port conf now.moment h) []))))
          refl
          (host_fields h k.within ∙ rw (eq-eqb port h.port (sym came.is ∙ sym k.by)) (rw (equal_bytes p.src.0 h.mac.0 (sym k.src)) (rw (eq-eqb v.vid h.vid (sym k.vid)) refl)))

      -- a host that is known here goes on, and its entry does the same whether or not it is stale
      again : (h : HostRec) → IsHere h → Outcome (heard_again conf now.moment h)
      again h k = by (is_stale conf now.moment h) refl
        where
          by : (b : Bool) → is_stale conf now.moment h ≡ b → Outcome (if b then heard_case.IsCopied else heard_case.GoesOn)
          by true is = known h k (to_controller p) (subst (λ b. Does 3 port p (to_controller p) (Some (4, p)) (entry table.Source 30 (in_port h.port ∷ eth_src h.mac ∷ vid_field h.vid ∷ []) (leads_to (if b then action.to_controller ∷ [] else []) (Some table.Ipv4Route)))) (sym is) (copies_too 30 (in_port h.port ∷ eth_src h.mac ∷ vid_field h.vid ∷ [])))
          by false is = known h k [] (subst (λ b. Does 3 port p [] (Some (4, p)) (entry table.Source 30 (in_port h.port ∷ eth_src h.mac ∷ vid_field h.vid ∷ []) (leads_to (if b then action.to_controller ∷ [] else []) (Some table.Ipv4Route)))) (sym is) (goes 30 (in_port h.port ∷ eth_src h.mac ∷ vid_field h.vid ∷ [])))

      -- ---- a source that isn't known here
      module _ (none : AllByRecursion (λ h. test h ≡ false) now.hosts) where
        not_here : {P : Type 0} (h : HostRec) → Contains (hosts_of conf now d) h → h.dp.0 ≡ d.id.0 → hits (at_its_port conf now.moment h).key.fields port p ≡ true → P
        not_here h c here hit =
            absurd (true≢false (sym (passes_here h here (at_host h (in_group conf now d setting h c) hit)) ∙ of_all (λ x. test x ≡ false) now.hosts none h (in_group conf now d setting h c)))

        abbrev stays : HostRec → Bool
        stays h = is_host_in conf (group_of conf d.id) v.vid h && is_same h.mac.0 p.src.0 && is_permanent conf h

        away : (h : HostRec) → Contains now.hosts h → stays h ≡ true → Just [] None
        away h within is =
            let x = and_parts (is_host_in conf (group_of conf d.id) v.vid h && is_same h.mac.0 p.src.0) (is_permanent conf h) is in
            let w = and_parts (is_host_in conf (group_of conf d.id) v.vid h) (is_same h.mac.0 p.src.0) x.0 in
            let y = and_parts ((group_of conf h.dp).0 == (group_of conf d.id).0) (h.vid == v.vid) w.0 in
            let c = in_filtered (is_of_group conf d) now.hosts h within y.0 in
            by_sources port p [] None (elsewhere h) (λ hit le. no_group hit)
            (λ g cg. of_host_by port p 20 [] None g (λ here hit le. not_here g cg here hit) (λ permanent hit le. ended 20 (eth_src g.mac ∷ vid_field g.vid ∷ [])))
            (λ j cj. of_port_by port p 20 [] None j (λ w cw hit le. absurd (omega (arith, le))))
            (host_in h (elsewhere h) c (behind (if h.dp.0 == d.id.0 then at_its_port conf now.moment h ∷ [] else []) _ (elsewhere h) (in_then (is_permanent conf h) (elsewhere h ∷ []) [] (elsewhere h) x.1 (head_of (elsewhere h) []))))
            refl
            (elsewhere_fields h within ∙ rw (equal_bytes p.src.0 h.mac.0 (sym (same_bytes h.mac.0 p.src.0 w.1))) (rw (eq-eqb v.vid h.vid (sym (eqb-true h.vid v.vid y.1))) refl))

        by_miss : AllByRecursion (λ h. stays h ≡ false) now.hosts → (sent : List Sent) (on : Option (ℕ × Packet)) → Does 3 port p sent on (miss conf now.hosts d i v) → Just sent on
        by_miss no_one sent on does =
            by_sources port p sent on (miss conf now.hosts d i v) (λ hit le. no_group hit)
            (λ g cg. of_host_by port p 10 sent on g (λ here hit le. not_here g cg here hit) (λ permanent hit le. not_away g cg permanent hit))
            (λ j cj. of_port_by port p 10 sent on j (λ w cw hit le. the_one j cj w (vlans_in conf setting.valid j w cw) hit))
            (port_in_plan i (miss conf now.hosts d i v) came.within (in_then (is_accepting i) (map (miss conf now.hosts d i) (vlans_of conf i)) [] (miss conf now.hosts d i v) o.accepting (in_mapped (miss conf now.hosts d i) (vlans_of conf i) v (vlan_of_member conf setting.valid i v o.member o.is_vlan))))
            refl
            (miss_fields i v came.within v_in ∙ rw (eq-eqb port i.no (sym came.is)) (rw (eq-eqb v.vid v.vid refl) refl))
          where
            not_away : {P : Type 0} (g : HostRec) → Contains (hosts_of conf now d) g → is_permanent conf g ≡ true → hits (elsewhere g).key.fields port p ≡ true → P
            not_away g cg permanent hit =
                let parts = two (is_same p.src.0 g.mac.0) (v.vid == g.vid) (sym (elsewhere_fields g (in_group conf now d setting g cg)) ∙ hit) in
                let of_group : is_of_group conf d g ≡ true = of_all (λ x. is_of_group conf d x ≡ true) (hosts_of conf now d) (all_filtered (λ x. is_of_group conf d x ≡ true) (is_of_group conf d) now.hosts (all_by (λ x. is_of_group conf d x ≡ true → is_of_group conf d x ≡ true) now.hosts (λ x c is. is))) g cg in
                let here : stays g ≡ true = rw of_group (rw (eq-eqb g.vid v.vid (sym (eqb-true v.vid g.vid parts.1))) (rw (equal_bytes g.mac.0 p.src.0 (sym (same_bytes p.src.0 g.mac.0 parts.0))) permanent)) in
                absurd (true≢false (sym here ∙ of_all (λ x. stays x ≡ false) now.hosts no_one g (in_group conf now d setting g cg)))

            the_one : (j : Port) → Contains d.ports j → (w : Vlan) → Contains conf.vlans w → hits (miss conf now.hosts d j w).key.fields port p ≡ true → Does 3 port p sent on (miss conf now.hosts d j w)
            the_one j cj w cw hit =
                let parts = two (port == j.no) (v.vid == w.vid) (sym (miss_fields j w cj cw) ∙ hit) in
                let same_port : i ≡ j = one_port conf setting.valid d setting.is_dp i j came.within cj (came.is ∙ eqb-true port j.no parts.0) in
                let same_vlan : v ≡ w = one_vlan conf setting.valid d setting.is_dp v w v_in cw (eqb-true v.vid w.vid parts.1) in
                subst (λ x. Does 3 port p sent on (miss conf now.hosts d j x)) same_vlan (subst (λ x. Does 3 port p sent on (miss conf now.hosts d x v)) same_port does)

        -- which of these is so
        none_own : list_any test now.hosts ≡ false
        none_own = none_any now.hosts none
          where
            none_any : (hs : List HostRec) → AllByRecursion (λ h. test h ≡ false) hs → list_any test hs ≡ false
            none_any [] all = refl
            none_any (h ∷ hs) all = rw all.0 (none_any hs all.1)

        anew : Outcome (heard_anew conf now.hosts d i v p.src)
        anew = by (list_any stays now.hosts) refl
          where
            misses_so : AllByRecursion (λ h. stays h ≡ false) now.hosts → (keeps full : Bool) → (i.permanent_learn && has_host now.hosts d.id i.no v.vid) ≡ keeps → is_full conf now.hosts d i v ≡ full → Outcome (if keeps then heard_case.Ends else if full then heard_case.GoesOn else heard_case.IsCopied)
            misses_so no_one true full is_kept is = by_miss no_one [] None (subst (λ b. Does 3 port p [] None (entry table.Source 10 (in_port i.no ∷ vid_field v.vid ∷ []) (if b then leads_to [] None else if is_full conf now.hosts d i v then leads_to [] (Some table.Ipv4Route) else leads_to (action.to_controller ∷ []) (Some table.Ipv4Route)))) (sym is_kept) (ended 10 (in_port i.no ∷ vid_field v.vid ∷ [])))
            misses_so no_one false true is_kept is =
                by_miss no_one [] (Some (4, p)) (subst (λ b. Does 3 port p [] (Some (4, p)) (entry table.Source 10 (in_port i.no ∷ vid_field v.vid ∷ []) (if b then leads_to [] None else if is_full conf now.hosts d i v then leads_to [] (Some table.Ipv4Route) else leads_to (action.to_controller ∷ []) (Some table.Ipv4Route)))) (sym is_kept)
                (subst (λ b. Does 3 port p [] (Some (4, p)) (entry table.Source 10 (in_port i.no ∷ vid_field v.vid ∷ []) (if b then leads_to [] (Some table.Ipv4Route) else leads_to (action.to_controller ∷ []) (Some table.Ipv4Route)))) (sym is) (goes 10 (in_port i.no ∷ vid_field v.vid ∷ []))))
            misses_so no_one false false is_kept is =
                by_miss no_one (to_controller p) (Some (4, p)) (subst (λ b. Does 3 port p (to_controller p) (Some (4, p)) (entry table.Source 10 (in_port i.no ∷ vid_field v.vid ∷ []) (if b then leads_to [] None else if is_full conf now.hosts d i v then leads_to [] (Some table.Ipv4Route) else leads_to (action.to_controller ∷ []) (Some table.Ipv4Route)))) (sym is_kept)
                (subst (λ b. Does 3 port p (to_controller p) (Some (4, p)) (entry table.Source 10 (in_port i.no ∷ vid_field v.vid ∷ []) (if b then leads_to [] (Some table.Ipv4Route) else leads_to (action.to_controller ∷ []) (Some table.Ipv4Route)))) (sym is) (copies_too 10 (in_port i.no ∷ vid_field v.vid ∷ []))))

            by : (b : Bool) → list_any stays now.hosts ≡ b → Outcome (heard_anew conf now.hosts d i v p.src)
            by true is =
                let f = some_passes stays now.hosts is in
                let barred : is_barred conf now.hosts d.id i v.vid p.src.0 ≡ true = rw none_own (rw is refl) in
                subst (λ b. Outcome (if b then heard_case.Ends else if description.is_full conf now.hosts d i v then heard_case.GoesOn else heard_case.IsCopied)) (sym barred) (away f.0 (f.1).within (f.1).passes)
            by false is =
                let barred : is_barred conf now.hosts d.id i v.vid p.src.0 ≡ (i.permanent_learn && has_host now.hosts d.id i.no v.vid) = rw none_own (rw is refl) in
                subst (λ b. Outcome (if b then heard_case.Ends else if description.is_full conf now.hosts d i v then heard_case.GoesOn else heard_case.IsCopied)) (sym barred)
                (misses_so (none_passes stays now.hosts is) (i.permanent_learn && has_host now.hosts d.id i.no v.vid) (is_full conf now.hosts d i v) refl refl)

      from : (x : Option HostRec) → host_here now.hosts d.id i.no v.vid p.src ≡ x → Outcome (heard_from x conf now d i v p.src)
      from (Some h) is = again h (is_here h is)
      from None is = anew (none_found test now.hosts is)

    outcome : Outcome (heard conf now d i v p.src)
    unfolding heard
    outcome = by (is_group p.src) refl
      where
        by : (b : Bool) → is_group p.src ≡ b → Outcome (if b then heard_case.GoesOn else heard_from (host_here now.hosts d.id i.no v.vid p.src) conf now d i v p.src)
        by true is = by_group is
        by false is = from is (host_here now.hosts d.id i.no v.vid p.src) refl

  pub law : SourceLaw conf now d
  law = record {
    goes_on = λ port p i v o is rest x. went (plan conf now d) port 3 p [] 4 p rest (decided 3 port p (plan conf now d) [] (Some (4, p)) (subst (Outcome port p i v o) is (outcome port p i v o))) x;
    copied = λ port p i v o is rest x. went (plan conf now d) port 3 p (to_controller p) 4 p rest (decided 3 port p (plan conf now d) (to_controller p) (Some (4, p)) (subst (Outcome port p i v o) is (outcome port p i v o))) x;
    ends = λ port p i v o is. stopped (plan conf now d) port 3 p [] (decided 3 port p (plan conf now d) [] None (subst (Outcome port p i v o) is (outcome port p i v o)));
  }
