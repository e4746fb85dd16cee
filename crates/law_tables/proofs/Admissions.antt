-- Table 1, case by case.
use Rattle.std.proofs.Common.{◌≡◌, ℕ, ◌+◌, ◌^◌, ◌<◌, ◌≤◌, ◌==◌, ◌&&◌, ◌||◌, not, Bool, true, false, List, [], ◌∷◌, ◌++◌, length, map, Option, Some, None, refl, sym, ap, ◌∙◌, subst, true≢false, inl, inr, eqb-true, eq-eqb, arith, if◌then◌else◌, ne_eqb}
use Rattle.std.specs.Prelude.{Contains, option_and_then, option_to_list}
use Rattle.std.specs.List.{AllByRecursion, list_any, flat_map}
use Rattle.std.specs.Option.{option_map, option_map_or}
use Rattle.std.proofs.lemmas.Bool.{and_parts}
use Rattle.std.proofs.lemmas.List.{append-nil}
use Rattle.std.proofs.lemmas.Option.{same_Some, none-some}
use Rattle.net_base.specs.declared.field.FieldId.TheVariants.{InPort, EthType, VlanVid}
use Rattle.net_base.specs.declared.field.Field.{Field}
use Rattle.net_base.specs.Numbers.{IsVid}
use Rattle.of_match.specs.declared.action.Action.{Action}
use Rattle.of_match.specs.declared.entry.Entry.{Entry}
use Rattle.of_match.specs.declared.ether_type.TheConstants.{LLDP}
use Rattle.of_match.specs.declared.packet.Packet.{Packet}
use Rattle.of_match.specs.declared.packet.Sent.{Sent}
use Rattle.of_match.specs.declared.packet.Tag.{Tag}
use Rattle.of_match.specs.Act.{act_sends, act_left}
use Rattle.of_match.specs.Hit.{hits, agrees, value_of, vid_value, outermost}
use Rattle.of_match.specs.Pipeline.{takes, sends_by, next_table}
use Rattle.of_match.specs.Shaped.{IsShaped}
use Rattle.conf_types.specs.declared.datapath.Dp.{Dp}
use Rattle.conf_types.specs.declared.datapath.Port.{Port}
use Rattle.conf_types.specs.declared.vlan.Vlan.{Vlan}
use Rattle.conf_types.specs.Configuration.{Configuration, vlan_with}
use Rattle.conf_types.specs.Membership.{is_stack, is_edge, is_accepting, is_native_in, mirrors_of}
use Rattle.conf_types.specs.State.{State}
use Rattle.packet_way.specs.Admission.{is_tagged, tagged_with, with_tag as tag_put}
use Rattle.packet_way.specs.Description.{is_bare_lldp}
use Rattle.packet_way.specs.Drops.{is_dropped}
use Rattle.packet_way.specs.Leaving.{copies, to_controller}
use Rattle.packet_way.proofs.Taking.{not_bare}
use Rattle.plan_base.specs.declared.table.Table.TheVariants as table
use Rattle.plan_base.specs.Actions as action
use Rattle.plan_base.specs.Actions.{push_tag, set_vid}
use Rattle.plan_base.specs.Entries.{table_number, leads_to, entry}
use Rattle.plan_base.specs.Fields.{in_port, eth_type, vid_field, untagged}
use Rattle.plan_base.specs.Sending.{mirrored}
use Rattle.acl_compile.specs.Slices.{port_acl}
use Rattle.vlan_compile.specs.Admissions.{admissions, from_stacks, from_edges, lldp_heard, from_stack, without_tag, with_tag, next_in}
use Rattle.vlan_compile.specs.Misses.{misses}
use Rattle.vlan_compile.specs.Vlans.{native_vlan, tagged_vlans}
use Rattle.law_runs.specs.Decided.{Does, Follows, IsDecided, decided, none_takes}
use Rattle.law_runs.specs.Members.{in_front, behind, in_mapped, in_flat, in_then, head_of, all_joined, all_mapped, all_if, all_by, of_all}
use Rattle.law_runs.specs.Order.{same_self, same_equal}
use Rattle.law_runs.specs.Outputs.{sends_joined, left_joined}
use Rattle.law_runs.specs.Runs.{missed, stopped, went}
use Rattle.plan_units.specs.Agrees.{by_port, of_type, in_vlan, without_a_tag, names_vlan}
use Rattle.plan_units.specs.Copies.{outs_send, outs_leave, mirrors_go_out}
use Rattle.plan_units.specs.Facts.{found, none_found, some_passes, none_passes, one_port, port_number, vlan_in, one_vlan, vlan_number}
use Rattle.plan_units.specs.Fixed.{drops, from_group, passes, fixed}
use Rattle.plan_units.specs.Laws.{IsSetting, IsOf, IsPort, Sends, AdmissionLaw}
use Rattle.plan_units.specs.PortVlans.{some_of}
use Rattle.plan_units.specs.Steps.{followed, sends_led, goes_led, next_led}
use Rattle.plan_units.specs.Tables.{AtTable, by_family, elsewhere_in, here_in, port_acl_in, misses_in, vlan_acl_in, vips_in, floods_in, sources_in, destinations_in, routes_elsewhere}
use Rattle.plan_units.specs.Units.{plan, of_port}
use Rattle.law_tables.proofs.Dropped.{all_drops, drops_take}
use Rattle.law_tables.proofs.Ingress.{Entered, entered, stack_apart}
use Rattle.law_tables.proofs.Tags.{tag_left, untagged_with, tagged_is, all_named, admitted, admits_native, admits_tagged, Is, is_admitted}
use Rattle.law_tables.proofs.Tags.Is.{native, tagged}

module _ (conf : Configuration) (now : State) (d : Dp) (setting : IsSetting conf now d) where
  -- ---- entries of table 1 alone decide there

  at_1 : (Q : Entry → Type 0) → AllByRecursion Q (drops conf d) → ((j : Port) → Contains d.ports j → AllByRecursion Q (admissions conf d j)) → AtTable 1 Q (plan conf now d)
  at_1 Q dropped ports = by_family conf now d 1 Q (record {
    drops = here_in 1 Q _ dropped;
    groups = ((λ e. absurd (omega (arith, e))), ((λ e. absurd (omega (arith, e))), ((λ e. absurd (omega (arith, e))), ((λ e. absurd (omega (arith, e))), ((λ e. absurd (omega (arith, e))), tt)))));
    port_acls = λ i c. elsewhere_in 1 0 Q _ (λ e. omega (arith, e)) (port_acl_in conf d i);
    admissions = λ i c. here_in 1 Q _ (ports i c);
    misses = λ i c. elsewhere_in 1 3 Q _ (λ e. omega (arith, e)) (misses_in conf d i now.hosts);
    vlan_acls = λ v c. elsewhere_in 1 2 Q _ (λ e. omega (arith, e)) (vlan_acl_in conf d v);
    vips = λ v c. elsewhere_in 1 6 Q _ (λ e. omega (arith, e)) (vips_in d v);
    floods = λ v c. elsewhere_in 1 8 Q _ (λ e. omega (arith, e)) (floods_in d v _);
    sources = λ h c. elsewhere_in 1 3 Q _ (λ e. omega (arith, e)) (sources_in conf d h now.moment);
    destinations = λ h c. elsewhere_in 1 7 Q _ (λ e. omega (arith, e)) (destinations_in d h _);
    routes = λ v c. routes_elsewhere conf now d v 1 Q (λ e. omega (arith, e)) (λ e. omega (arith, e));
  })

  module _ (port : ℕ) (p : Packet) (shaped : IsShaped p) (i : Port) (is_port : IsPort d port i) where
    came : Entered d port i
    came = entered conf now d setting port i is_port

    abbrev taken : Entry → Bool
    taken e = hits e.key.fields port p

    abbrev Part : ℕ → List Sent → Option (ℕ × Packet) → Entry → Type 0
    Part priority sent on e = taken e ≡ true → priority ≤ e.key.priority → Does 1 port p sent on e

    -- ---- whose entries take the packet: those of the port that it came in by

    of_port_no : (j : Port) → Contains d.ports j → agrees (in_port j.no) (value_of InPort port p) ≡ (port == j.no)
    of_port_no j c = by_port port p shaped came.fits j.no (port_number conf setting.valid d setting.is_dp j c)

    none_by : (j : Port) → agrees (in_port j.no) (value_of InPort port p) ≡ false → AllByRecursion (λ e. taken e ≡ false) (admissions conf d j)
    none_by j apart =
        let P : Entry → Type 0 = λ e. taken e ≡ false in
        let not_here : (fields : List Field) → (agrees (in_port j.no) (value_of InPort port p) && hits fields port p) ≡ false = λ fields. ap (λ b. b && hits fields port p) apart in
        all_joined P (from_stacks conf j) (from_edges conf d j)
        (all_if P (is_stack j) (lldp_heard j ∷ map (from_stack j) conf.vlans) [] (λ is. (not_here (eth_type LLDP ∷ untagged ∷ []), all_mapped P (from_stack j) conf.vlans (all_by (λ w. P (from_stack j w)) conf.vlans (λ w c. not_here (vid_field w.vid ∷ []))))) (λ is. tt))
        (all_if P (is_accepting j) _ [] (λ is.
        all_joined P (option_to_list (option_map (without_tag d j) (native_vlan conf j))) (map (with_tag d j) (tagged_vlans conf j)) (one (native_vlan conf j) not_here) (all_mapped P (with_tag d j) (tagged_vlans conf j) (all_by (λ w. P (with_tag d j w)) (tagged_vlans conf j) (λ w c. not_here (vid_field w.vid ∷ [])))))
        (λ is. tt))
      where
        one : (o : Option Vlan) → ((fields : List Field) → (agrees (in_port j.no) (value_of InPort port p) && hits fields port p) ≡ false) → AllByRecursion (λ e. taken e ≡ false) (option_to_list (option_map (without_tag d j) o))
        one None not_here = tt
        one (Some w) not_here = (not_here (untagged ∷ []), tt)

    of_own : (Q : Entry → Type 0) → AllByRecursion (λ e. taken e ≡ true → Q e) (admissions conf d i) → (j : Port) → Contains d.ports j → AllByRecursion (λ e. taken e ≡ true → Q e) (admissions conf d j)
    of_own Q own j cj = by (port == j.no) refl
      where
        by : (b : Bool) → (port == j.no) ≡ b → AllByRecursion (λ e. taken e ≡ true → Q e) (admissions conf d j)
        by true e = subst (λ x. AllByRecursion (λ f. taken f ≡ true → Q f) (admissions conf d x)) (one_port conf setting.valid d setting.is_dp i j came.within cj (came.is ∙ eqb-true port j.no e)) own
        by false e =
            let none = none_by j (of_port_no j cj ∙ e) in
            all_by (λ f. taken f ≡ true → Q f) (admissions conf d j) (λ f c hit. absurd (true≢false (sym hit ∙ of_all (λ g. taken g ≡ false) (admissions conf d j) none f c)))

    -- ---- what its entries ask

    tag_hit : (w : Vlan) → IsVid w.vid → agrees (vid_field w.vid) (value_of VlanVid port p) ≡ (vid_value p.tags == 0x1000 + w.vid)
    tag_hit w is = in_vlan port p shaped w.vid is

    -- a packet with no tag isn't of a VLAN by its tag, and one with a tag isn't without
    no_tag : (w : Vlan) → p.tags ≡ [] → (vid_value p.tags == 0x1000 + w.vid) ≡ false
    no_tag w none = ap (λ ts. vid_value ts == 0x1000 + w.vid) none ∙ ne_eqb 0 (0x1000 + w.vid) (λ e. omega (arith, e))

    has_tag : (tag : Tag) (tags : List Tag) → p.tags ≡ tag ∷ tags → (vid_value p.tags == 0) ≡ false
    has_tag tag tags is = ap (λ ts. vid_value ts == 0) is ∙ ne_eqb (0x1000 + tag.vid) 0 (λ e. omega (arith, e))

    none_is : (vid_value p.tags == 0) ≡ true → p.tags ≡ []
    none_is hit = by p.tags refl
      where
        by : (ts : List Tag) → p.tags ≡ ts → p.tags ≡ []
        by [] e = e
        by (tag ∷ tags) e = absurd (true≢false (sym hit ∙ has_tag tag tags e))

    -- LLDP without a tag, and no other, agrees with what its entry asks
    and_true : (b : Bool) → (b && true) ≡ b
    and_true true = refl
    and_true false = refl

    bare_is : (ts : List Tag) → (vid_value ts == 0) ≡ not (is_tagged ts)
    bare_is [] = refl
    bare_is (tag ∷ tags) = ne_eqb (0x1000 + tag.vid) 0 (λ e. omega (arith, e))

    lldp_hit : (agrees (eth_type LLDP) (value_of EthType port p) && (agrees untagged (value_of VlanVid port p) && true)) ≡ is_bare_lldp p
    lldp_hit =
        let by_type = of_type port p shaped LLDP (omega arith) in
        let by_tags = and_true (agrees untagged (value_of VlanVid port p)) ∙ without_a_tag port p shaped ∙ bare_is p.tags in
        λ x. by_type x && by_tags x

    record HasTag (w : Vlan) : Type 0 where
      tag : Tag
      tags : List Tag
      is : p.tags ≡ tag ∷ tags
      same : tag.vid ≡ w.vid

    tag_is : (w : Vlan) → (vid_value p.tags == 0x1000 + w.vid) ≡ true → HasTag w
    tag_is w hit = by p.tags refl
      where
        by : (ts : List Tag) → p.tags ≡ ts → HasTag w
        by [] e = absurd (true≢false (sym hit ∙ no_tag w e))
        by (tag ∷ tags) e = record { tag = tag; tags = tags; is = e; same = eqb-true tag.vid w.vid (sym (names_vlan p tag w.vid (ap outermost e)) ∙ hit) }

    -- what holds of each entry that takes the packet from an edge port, and of each VLAN that it is admitted to
    of_edges : (Q : Entry → Type 0) → (is_accepting i ≡ true → (w : Vlan) → p.tags ≡ [] → admitted conf i p ≡ Some w → Q (without_tag d i w)) → (is_accepting i ≡ true → (w : Vlan) → HasTag w → admitted conf i p ≡ Some w → Q (with_tag d i w))
        → AllByRecursion (λ e. taken e ≡ true → Q e) (from_edges conf d i)
    of_edges Q plain by_tag =
        all_if P (is_accepting i) _ [] (λ is. all_joined P (option_to_list (option_map (without_tag d i) (native_vlan conf i))) (map (with_tag d i) (tagged_vlans conf i)) (one is (native_vlan conf i) refl) (all_mapped P (with_tag d i) (tagged_vlans conf i) (all_named conf.vlans (λ w. P (with_tag d i w)) i.tagged (each is)))) (λ is. tt)
      where
        P : Entry → Type 0
        P e = taken e ≡ true → Q e

        one : is_accepting i ≡ true → (o : Option Vlan) → native_vlan conf i ≡ o → AllByRecursion (λ e. taken e ≡ true → Q e) (option_to_list (option_map (without_tag d i) o))
        one accepting None is = tt
        one accepting (Some w) is = (
          (λ hit.
              let parts = and_parts (agrees (in_port i.no) (value_of InPort port p)) (agrees untagged (value_of VlanVid port p) && true) hit in
              let none = none_is (sym (without_a_tag port p shaped) ∙ (and_parts (agrees untagged (value_of VlanVid port p)) true parts.1).0) in
              plain accepting w none (admits_native conf i p w none is)),
          tt,
        )

        each : is_accepting i ≡ true → (n : ℕ) (w : Vlan) → Contains i.tagged n → vlan_with conf.vlans n ≡ Some w → taken (with_tag d i w) ≡ true → Q (with_tag d i w)
        each accepting n w c is hit =
            let w_in = (found (λ y. y.vid == n) conf.vlans w is).within in
            let parts = and_parts (agrees (in_port i.no) (value_of InPort port p)) (agrees (vid_field w.vid) (value_of VlanVid port p) && true) hit in
            let tag = tag_is w (sym (tag_hit w (vlan_number conf setting.valid d setting.is_dp w w_in)) ∙ (and_parts (agrees (vid_field w.vid) (value_of VlanVid port p)) true parts.1).0) in
            by_tag accepting w tag (admits_tagged conf i p w tag.tag tag.tags n tag.is c is tag.same)

    -- and of each that takes it from the stack
    of_stacks : (Q : Entry → Type 0) → (is_stack i ≡ true → is_bare_lldp p ≡ true → Q (lldp_heard i)) → (is_stack i ≡ true → (w : Vlan) → Contains conf.vlans w → HasTag w → Q (from_stack i w)) → AllByRecursion (λ e. taken e ≡ true → Q e) (from_stacks conf i)
    of_stacks Q bare by_tag =
        all_if P (is_stack i) (lldp_heard i ∷ map (from_stack i) conf.vlans) [] (λ is. (
          (λ hit. bare is (sym lldp_hit ∙ (and_parts (agrees (in_port i.no) (value_of InPort port p)) (agrees (eth_type LLDP) (value_of EthType port p) && (agrees untagged (value_of VlanVid port p) && true)) hit).1)),
          all_mapped P (from_stack i) conf.vlans (all_by (λ w. P (from_stack i w)) conf.vlans (λ w c hit.
              let parts = and_parts (agrees (in_port i.no) (value_of InPort port p)) (agrees (vid_field w.vid) (value_of VlanVid port p) && true) hit in
              by_tag is w c (tag_is w (sym (tag_hit w (vlan_number conf setting.valid d setting.is_dp w c)) ∙ (and_parts (agrees (vid_field w.vid) (value_of VlanVid port p)) true parts.1).0)))),
        )) (λ is. tt)
      where
        P : Entry → Type 0
        P e = taken e ≡ true → Q e

    own : (Q : Entry → Type 0) → AllByRecursion (λ e. taken e ≡ true → Q e) (from_stacks conf i) → AllByRecursion (λ e. taken e ≡ true → Q e) (from_edges conf d i) → (j : Port) → Contains d.ports j → AllByRecursion (λ e. taken e ≡ true → Q e) (admissions conf d j)
    own Q stacks edges = of_own Q (all_joined (λ e. taken e ≡ true → Q e) (from_stacks conf i) (from_edges conf d i) stacks edges)

    -- ---- where each entry that takes the packet ends it

    ends : AllByRecursion (λ e. taken e ≡ true → Does 1 port p [] None e) (drops conf d) → ((j : Port) → Contains d.ports j → AllByRecursion (λ e. taken e ≡ true → Does 1 port p [] None e) (admissions conf d j)) → Sends conf now d 1 port p []
    ends dropped ports = by (list_any (takes 1 port p) (plan conf now d)) refl
      where
        by : (b : Bool) → list_any (takes 1 port p) (plan conf now d) ≡ b → Sends conf now d 1 port p []
        by true is =
            let f = some_passes (takes 1 port p) (plan conf now d) is in
            let all = at_1 (λ e. taken e ≡ true → f.0.key.priority ≤ e.key.priority → Does 1 port p [] None e) (weaker f.0.key.priority (drops conf d) dropped) (λ j c. weaker f.0.key.priority (admissions conf d j) (ports j c)) in
            stopped (plan conf now d) port 1 p [] (decided 1 port p (plan conf now d) [] None (record { by = f.0; within = (f.1).within; hit = (f.1).passes; all = followed 1 port p f.0.key.priority [] None (plan conf now d) all }))
          where
            weaker : (priority : ℕ) (es : List Entry) → AllByRecursion (λ e. taken e ≡ true → Does 1 port p [] None e) es → AllByRecursion (Part priority [] None) es
            weaker priority [] all = tt
            weaker priority (e ∷ es) all = ((λ hit le. all.0 hit), weaker priority es all.1)
        by false is = missed (plan conf now d) port 1 p (none_takes 1 port p (plan conf now d) (none_passes (takes 1 port p) (plan conf now d) is))

    dropped_end : AllByRecursion (λ e. taken e ≡ true → Does 1 port p [] None e) (drops conf d)
    dropped_end = all_drops conf d (λ e. taken e ≡ true → Does 1 port p [] None e) (λ priority field least most hit. (same_self [], refl))

    -- ---- from the stack

    module _ (stack : is_stack i ≡ true) where
      in_stack : (v : Vlan) → vlan_with conf.vlans v.vid ≡ Some v → (tag : Tag) → outermost p.tags ≡ Some tag → tag.vid ≡ v.vid → IsDecided 1 port p (plan conf now d) [] (Some (7, p))
      in_stack v is_vlan tag outer same =
          let v_in = vlan_in conf setting.valid d setting.is_dp v.vid v is_vlan in
          record {
            by = from_stack i v;
            within = behind (fixed conf d) _ (from_stack i v) (in_front (flat_map (of_port conf now d) d.ports) _ (from_stack i v) (in_flat (of_port conf now d) d.ports i (from_stack i v) came.within
                (behind (port_acl conf d i) (admissions conf d i ++ misses conf d i now.hosts) (from_stack i v) (in_front (admissions conf d i) _ (from_stack i v) (in_front (from_stacks conf i) (from_edges conf d i) (from_stack i v) (in_then (is_stack i) (lldp_heard i ∷ map (from_stack i) conf.vlans) [] (from_stack i v) stack (behind (lldp_heard i ∷ []) (map (from_stack i) conf.vlans) (from_stack i v) (in_mapped (from_stack i) conf.vlans v v_in))))))));
            hit = rw (of_port_no i came.within ∙ eq-eqb port i.no (sym came.is)) (rw (tag_hit v (vlan_number conf setting.valid d setting.is_dp v v_in) ∙ names_vlan p tag v.vid outer ∙ eq-eqb tag.vid v.vid same) refl);
            all = followed 1 port p 40 [] (Some (7, p)) (plan conf now d) (at_1 (Part 40 [] (Some (7, p)))
                (all_drops conf d (Part 40 [] (Some (7, p))) (λ priority field least most hit le. absurd (omega (arith, most, le))))
                (own (λ e. 40 ≤ e.key.priority → Does 1 port p [] (Some (7, p)) e) (of_stacks (λ e. 40 ≤ e.key.priority → Does 1 port p [] (Some (7, p)) e) (λ s bare le. absurd (true≢false (sym bare ∙ not_bare p tag outer))) (λ s w c t le. (same_self [], refl)))
                (of_edges (λ e. 40 ≤ e.key.priority → Does 1 port p [] (Some (7, p)) e) (λ accepting w none a le. absurd (omega (arith, le))) (λ accepting w t a le. absurd (omega (arith, le))))));
          }

      -- LLDP without a tag is the controller's alone
      told : Does 1 port p (to_controller p) None (lldp_heard i)
      told = let to_it : act_sends (action.to_controller ∷ []) port p ≡ to_controller p = rw came.no_controller refl in (same_equal (act_sends (action.to_controller ∷ []) port p) (to_controller p) to_it, refl)

      abbrev Told : Entry → Type 0
      Told e = 40 ≤ e.key.priority → Does 1 port p (to_controller p) None e

      bare_stack : is_bare_lldp p ≡ true → Sends conf now d 1 port p (to_controller p)
      bare_stack bare =
          stopped (plan conf now d) port 1 p (to_controller p) (decided 1 port p (plan conf now d) (to_controller p) None (record {
            by = lldp_heard i;
            within = behind (fixed conf d) _ (lldp_heard i) (in_front (flat_map (of_port conf now d) d.ports) _ (lldp_heard i) (in_flat (of_port conf now d) d.ports i (lldp_heard i) came.within
                (behind (port_acl conf d i) (admissions conf d i ++ misses conf d i now.hosts) (lldp_heard i) (in_front (admissions conf d i) _ (lldp_heard i) (in_front (from_stacks conf i) (from_edges conf d i) (lldp_heard i) (in_then (is_stack i) (lldp_heard i ∷ map (from_stack i) conf.vlans) [] (lldp_heard i) stack (head_of (lldp_heard i) (map (from_stack i) conf.vlans))))))));
            hit = rw (of_port_no i came.within ∙ eq-eqb port i.no (sym came.is)) (lldp_hit ∙ bare);
            all = followed 1 port p 40 (to_controller p) None (plan conf now d) (at_1 (Part 40 (to_controller p) None)
                (all_drops conf d (Part 40 (to_controller p) None) (λ priority field least most hit le. absurd (omega (arith, most, le))))
                (own Told (of_stacks Told (λ s is le. told) (λ s w c t le. absurd (true≢false (sym bare ∙ not_bare p t.tag (ap outermost t.is)))))
                (of_edges Told (λ accepting w none a le. absurd (omega (arith, le))) (λ accepting w t a le. absurd (omega (arith, le))))));
          }))

      other_stack : is_bare_lldp p ≡ false → option_and_then (λ (tag : Tag). vlan_with conf.vlans tag.vid) (outermost p.tags) ≡ None → Sends conf now d 1 port p []
      other_stack other none =
          ends dropped_end (own (Does 1 port p [] None)
          (of_stacks (Does 1 port p [] None) (λ s bare. absurd (true≢false (sym bare ∙ other))) (λ s w c t. absurd (none-some w (sym none ∙ ap (λ ts. option_and_then (λ (tag : Tag). vlan_with conf.vlans tag.vid) (outermost ts)) t.is ∙ ap (vlan_with conf.vlans) t.same ∙ there w c))))
          (of_edges (Does 1 port p [] None) (λ accepting w n a. absurd (stack_apart i stack accepting)) (λ accepting w t a. absurd (stack_apart i stack accepting))))
        where
          there : (w : Vlan) → Contains conf.vlans w → vlan_with conf.vlans w.vid ≡ Some w
          there w c = by (vlan_with conf.vlans w.vid) refl
            where
              by : (o : Option Vlan) → vlan_with conf.vlans w.vid ≡ o → vlan_with conf.vlans w.vid ≡ Some w
              by None e = absurd (true≢false (sym (eq-eqb w.vid w.vid refl) ∙ of_all (λ (y : Vlan). (y.vid == w.vid) ≡ false) conf.vlans (none_found (λ y. y.vid == w.vid) conf.vlans e) w c))
              by (Some x) e =
                  let f = found (λ (y : Vlan). y.vid == w.vid) conf.vlans x e in
                  e ∙ ap Some (one_vlan conf setting.valid d setting.is_dp x w f.within c (eqb-true x.vid w.vid f.passes))

    -- ---- from an edge port

    module _ (accepting : is_accepting i ≡ true) where
      not_stack : (Q : Entry → Type 0) → AllByRecursion (λ e. taken e ≡ true → Q e) (from_stacks conf i)
      not_stack Q = of_stacks Q (λ stack bare. absurd (stack_apart i stack accepting)) (λ stack w c t. absurd (stack_apart i stack accepting))

      drops_it : is_dropped conf d p ≡ true → Sends conf now d 1 port p []
      drops_it is =
          let f = some_passes taken (drops conf d) (drops_take conf setting.valid d port p shaped ∙ is) in
          let stands = of_all (λ (e : Entry). (e.key.table ≡ 1) × (30 ≤ e.key.priority)) (drops conf d) (all_drops conf d (λ (e : Entry). (e.key.table ≡ 1) × (30 ≤ e.key.priority)) (λ priority field least most. (refl, least))) f.0 (f.1).within in
          let Lower : Entry → Type 0 = λ e. f.0.key.priority ≤ e.key.priority → Does 1 port p [] None e in
          stopped (plan conf now d) port 1 p [] (decided 1 port p (plan conf now d) [] None (record {
            by = f.0;
            within = in_front (fixed conf d) _ f.0 (in_front (drops conf d) (from_group ∷ passes) f.0 (f.1).within);
            hit = rw (eq-eqb f.0.key.table 1 stands.0) (f.1).passes;
            all = followed 1 port p f.0.key.priority [] None (plan conf now d) (at_1 (Part f.0.key.priority [] None)
                (all_drops conf d (Part f.0.key.priority [] None) (λ priority field least most hit le. (same_self [], refl)))
                (own Lower (not_stack Lower) (of_edges Lower (λ a w plain in_it le. absurd (let low = stands.1 in omega (arith, low, le))) (λ a w t in_it le. absurd (let low = stands.1 in omega (arith, low, le))))));
          }))

      no_drops : is_dropped conf d p ≡ false → AllByRecursion (λ e. taken e ≡ false) (drops conf d)
      no_drops is = none_passes taken (drops conf d) (drops_take conf setting.valid d port p shaped ∙ is)

      kept_out : admitted conf i p ≡ None → Sends conf now d 1 port p []
      kept_out none =
          ends dropped_end (own (Does 1 port p [] None) (not_stack (Does 1 port p [] None))
          (of_edges (Does 1 port p [] None) (λ a w plain in_it. absurd (none-some w (sym none ∙ in_it))) (λ a w t in_it. absurd (none-some w (sym none ∙ in_it)))))

      -- ---- what is admitted

      module _ (v : Vlan) (is : admitted conf i p ≡ Some v) where
        abbrev next : ℕ
        next = table_number (next_in v)

        next_is : (b : Bool) → next_table (leads_to [] (Some (if b then table.Source else table.VlanAcl))) 1 ≡ Some (table_number (if b then table.Source else table.VlanAcl))
        next_is true = refl
        next_is false = refl

        -- copies go to the mirrors, and the packet that the actions leave goes on
        goes : (fields : List Field) (more : List Action) (q : Packet) → act_left more p ≡ Some q → act_sends more port p ≡ []
            → Does 1 port p (copies (mirrors_of d i.no) p) (Some (next, q)) (entry table.Admission 20 fields (leads_to (mirrored d i.no ++ more) (Some (next_in v))))
        goes fields more q left sends_none =
            let there : act_left (mirrored d i.no ++ more) p ≡ Some q = left_joined (mirrored d i.no) more p ∙ ap (option_and_then (act_left more)) (outs_leave (mirrors_of d i.no) p) ∙ left in
            let sent : act_sends (mirrored d i.no ++ more) port p ≡ copies (mirrors_of d i.no) p =
            sends_joined (mirrored d i.no) more port p ∙ ap (λ o. act_sends (mirrored d i.no) port p ++ option_map_or (act_sends more port) o []) (outs_leave (mirrors_of d i.no) p)
            ∙ ap (λ l. act_sends (mirrored d i.no) port p ++ l) sends_none ∙ append-nil (act_sends (mirrored d i.no) port p)
            ∙ outs_send port p (mirrors_of d i.no) (mirrors_go_out conf setting.valid d setting.is_dp port i is_port (inr accepting) i.no) in
            let e = entry table.Admission 20 fields (leads_to (mirrored d i.no ++ more) (Some (next_in v))) in (
              same_equal (sends_by e port p) (copies (mirrors_of d i.no) p) (sends_led table.Admission 20 fields (mirrored d i.no ++ more) (Some (next_in v)) port p ∙ sent),
              goes_led table.Admission 20 fields (mirrored d i.no ++ more) (Some (next_in v)) 1 p
                  ∙ ap (option_and_then (λ (r : Packet). option_map (λ u. (u, r)) (next_table (leads_to (mirrored d i.no ++ more) (Some (next_in v))) 1))) there
                  ∙ ap (option_map (λ u. (u, q))) (next_led (mirrored d i.no ++ more) (next_in v) 1 ∙ next_is (length v.acls == 0)),
            )

        abbrev Just : Packet → Type 0
        Just q = IsDecided 1 port p (plan conf now d) (copies (mirrors_of d i.no) p) (Some (next, q))

        abbrev Led : Packet → Entry → Type 0
        Led q e = 20 ≤ e.key.priority → Does 1 port p (copies (mirrors_of d i.no) p) (Some (next, q)) e

        by_edge : is_dropped conf d p ≡ false → (q : Packet) (e : Entry) → e.key.table ≡ 1 → e.key.priority ≡ 20 → taken e ≡ true → Contains (from_edges conf d i) e → AllByRecursion (λ f. taken f ≡ true → Led q f) (from_edges conf d i) → Just q
        by_edge kept q e in_1 at_20 hit c all = record {
          by = e;
          within = behind (fixed conf d) _ e (in_front (flat_map (of_port conf now d) d.ports) _ e (in_flat (of_port conf now d) d.ports i e came.within
              (behind (port_acl conf d i) (admissions conf d i ++ misses conf d i now.hosts) e (in_front (admissions conf d i) _ e (behind (from_stacks conf i) (from_edges conf d i) e c)))));
          hit = rw (eq-eqb e.key.table 1 in_1) hit;
          all = subst (λ n. AllByRecursion (Follows 1 port p n (copies (mirrors_of d i.no) p) (Some (next, q))) (plan conf now d)) (sym at_20)
              (followed 1 port p 20 (copies (mirrors_of d i.no) p) (Some (next, q)) (plan conf now d) (at_1 (Part 20 (copies (mirrors_of d i.no) p) (Some (next, q)))
              (all_by (Part 20 (copies (mirrors_of d i.no) p) (Some (next, q))) (drops conf d) (λ f w h le. absurd (true≢false (sym h ∙ of_all (λ g. taken g ≡ false) (drops conf d) (no_drops kept) f w))))
              (own (Led q) (not_stack (Led q)) all)));
        }

        plain_in : p.tags ≡ [] → native_vlan conf i ≡ Some v → Contains (from_edges conf d i) (without_tag d i v)
        plain_in none native_is = in_then (is_accepting i) _ [] (without_tag d i v) accepting (subst (λ o. Contains (option_to_list (option_map (without_tag d i) o) ++ map (with_tag d i) (tagged_vlans conf i)) (without_tag d i v)) (sym native_is) (head_of (without_tag d i v) (map (with_tag d i) (tagged_vlans conf i))))

        own_hit : agrees (in_port i.no) (value_of InPort port p) ≡ true
        own_hit = of_port_no i came.within ∙ eq-eqb port i.no (sym came.is)

        goes_on_so : is_dropped conf d p ≡ false → Just (tagged_with v.vid p)
        goes_on_so kept = by (is_admitted conf i p v is)
          where
            by : Is conf i p v → Just (tagged_with v.vid p)
            by (native none native_is member is_vlan) =
                let v_in = vlan_in conf setting.valid d setting.is_dp v.vid v is_vlan in
                subst Just (sym (untagged_with p v.vid none))
                (by_edge kept (tag_put v.vid p) (without_tag d i v) refl refl (rw own_hit (rw (without_a_tag port p shaped ∙ ap (λ ts. vid_value ts == 0) none) refl)) (plain_in none native_is)
                (of_edges (Led (tag_put v.vid p))
                (λ a w plain in_it le. subst (λ x. Does 1 port p (copies (mirrors_of d i.no) p) (Some (next, tag_put v.vid p)) (without_tag d i x)) (same_Some v w (sym is ∙ in_it))
                (goes (in_port i.no ∷ untagged ∷ []) (push_tag ∷ set_vid v.vid ∷ []) (tag_put v.vid p) (tag_left p v.vid (vlan_number conf setting.valid d setting.is_dp v v_in) none) refl))
                (λ a w t in_it. absurd (true≢false (sym (ap (λ ts. vid_value ts == 0) none) ∙ has_tag t.tag t.tags t.is)))))
            by (tagged tag tags tag_is_first same member is_vlan) =
                let v_in = vlan_in conf setting.valid d setting.is_dp v.vid v is_vlan in
                let named = some_passes (λ (n : ℕ). n == v.vid) i.tagged member in
                let within = in_mapped (with_tag d i) (tagged_vlans conf i) v (some_of conf setting.valid i.tagged v is_vlan (subst (Contains i.tagged) (eqb-true named.0 v.vid (named.1).passes) (named.1).within)) in
                subst Just (sym (tagged_is p v.vid tag tags tag_is_first))
                (by_edge kept p (with_tag d i v) refl refl
                (rw own_hit (rw (tag_hit v (vlan_number conf setting.valid d setting.is_dp v v_in) ∙ names_vlan p tag v.vid (ap outermost tag_is_first) ∙ eq-eqb tag.vid v.vid same) refl))
                (in_then (is_accepting i) _ [] (with_tag d i v) accepting (behind (option_to_list (option_map (without_tag d i) (native_vlan conf i))) _ (with_tag d i v) within))
                (of_edges (Led p)
                (λ a w plain in_it. absurd (true≢false (sym (ap (λ ts. vid_value ts == 0) plain) ∙ has_tag tag tags tag_is_first)))
                (λ a w t in_it le. subst (λ x. Does 1 port p (copies (mirrors_of d i.no) p) (Some (next, p)) (with_tag d i x)) (same_Some v w (sym is ∙ in_it))
                (subst (λ actions. Does 1 port p (copies (mirrors_of d i.no) p) (Some (next, p)) (entry table.Admission 20 (in_port i.no ∷ vid_field v.vid ∷ []) (leads_to actions (Some (next_in v))))) (append-nil (mirrored d i.no))
                (goes (in_port i.no ∷ vid_field v.vid ∷ []) [] p refl refl)))))

        -- an admitted packet is one of the VLAN
        lands : IsOf conf now d port (tagged_with v.vid p) i v
        lands = by (is_admitted conf i p v is)
          where
            edge : is_edge i ≡ true
            edge = (and_parts (is_edge i) (not i.output_only) accepting).0

            or_right : (b : Bool) → (b || true) ≡ true
            or_right true = refl
            or_right false = refl

            by : Is conf i p v → IsOf conf now d port (tagged_with v.vid p) i v
            by (native none native_is member is_vlan) =
                let v_in = vlan_in conf setting.valid d setting.is_dp v.vid v is_vlan in
                let number = vlan_number conf setting.valid d setting.is_dp v v_in in
                let low : v.vid < 2 ^ 12 = let most = number.most in omega (arith, most) in
                subst (λ q. IsOf conf now d port q i v) (sym (untagged_with p v.vid none)) (record {
                  shaped = record { dst = shaped.dst; src = shaped.src; tags = (record { tpid = inl refl; pcp = omega arith; vid = low }, shaped.tags); eth_type = shaped.eth_type; upper = shaped.upper; numbers = shaped.numbers };
                  is_port = is_port;
                  accepting = accepting;
                  is_vlan = is_vlan;
                  member = rw edge (rw member refl);
                  is_in = (record { tpid = 0x8100; pcp = 0; dei = false; vid = v.vid }, refl, refl);
                })
            by (tagged tag tags tag_is_first same member is_vlan) =
                subst (λ q. IsOf conf now d port q i v) (sym (tagged_is p v.vid tag tags tag_is_first)) (record {
                  shaped = shaped;
                  is_port = is_port;
                  accepting = accepting;
                  is_vlan = is_vlan;
                  member = rw edge (ap (λ b. is_native_in i v.vid || b) member ∙ or_right (is_native_in i v.vid));
                  is_in = (tag, ap outermost tag_is_first, same);
                })

  pub law : AdmissionLaw conf now d
  law = record {
    stack = λ port p i v shaped is_port stack is_vlan is_in rest more. went (plan conf now d) port 1 p [] 7 p rest (decided 1 port p (plan conf now d) [] (Some (7, p)) (in_stack port p shaped i is_port stack v is_vlan is_in.0 is_in.1 is_in.2)) more;
    stack_lldp = λ port p i shaped is_port stack bare. bare_stack port p shaped i is_port stack bare;
    stack_other = λ port p i shaped is_port stack other none. other_stack port p shaped i is_port stack other none;
    dropped = λ port p i shaped is_port accepting is. drops_it port p shaped i is_port accepting is;
    kept_out = λ port p i shaped is_port accepting kept none. kept_out port p shaped i is_port accepting none;
    lands = λ port p i v shaped is_port accepting is. lands port p shaped i is_port accepting v is;
    admitted = λ port p i v shaped is_port accepting kept is rest more.
        went (plan conf now d) port 1 p (copies (mirrors_of d i.no) p) (table_number (next_in v)) (tagged_with v.vid p) rest
        (decided 1 port p (plan conf now d) (copies (mirrors_of d i.no) p) (Some (table_number (next_in v), tagged_with v.vid p)) (goes_on_so port p shaped i is_port accepting v is kept)) more;
  }
