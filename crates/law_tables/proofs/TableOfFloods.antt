-- Table 8, case by case.
use Rattle.std.proofs.Common.{◌≡◌, ◌⊎◌, ℕ, ◌^◌, ◌<◌, ◌≤◌, ◌==◌, ◌&&◌, ◌||◌, not, Bool, true, false, cond, List, [], ◌∷◌, ◌++◌, filter, Option, Some, None, refl, sym, ap, ◌∙◌, subst, inl, inr, true≢false, eqb-true, eq-eqb, arith, if◌then◌else◌}
use Rattle.std.specs.Prelude.{Contains, IfSome, IsTrue, IsSomeAnd, is_some, option_and_then}
use Rattle.std.specs.List.{AllByRecursion, flat_map, list_any}
use Rattle.std.specs.Option.{option_map, option_map_or}
use Rattle.std.proofs.lemmas.Bool.{and_parts, or_cases, or_parts, not-true}
use Rattle.std.proofs.lemmas.Option.{same_Some}
use Rattle.net_base.specs.declared.field.Field.{Field}
use Rattle.net_base.specs.declared.field.FieldId.TheVariants.{InPort, VlanVid}
use Rattle.net_base.specs.Address.{is_group}
use Rattle.of_match.specs.declared.action.Action.{Action}
use Rattle.of_match.specs.declared.entry.Entry.{Entry}
use Rattle.of_match.specs.declared.packet.Packet.{Packet}
use Rattle.of_match.specs.declared.packet.Sent.{Sent}
use Rattle.of_match.specs.declared.packet.Tag.{Tag}
use Rattle.of_match.specs.Act.{act_sends, act_left, left_by}
use Rattle.of_match.specs.Hit.{hits, agrees, value_of}
use Rattle.of_match.specs.Pipeline.{takes}
use Rattle.conf_types.specs.declared.datapath.Dp.{Dp}
use Rattle.conf_types.specs.declared.datapath.Port.{Port}
use Rattle.conf_types.specs.declared.datapath.StackEnd.{StackEnd}
use Rattle.conf_types.specs.declared.vlan.Vlan.{Vlan}
use Rattle.conf_types.specs.Lists.{is_among}
use Rattle.conf_types.specs.Configuration.{Configuration, port_with, port_at}
use Rattle.conf_types.specs.Membership.{is_stack, is_edge, is_accepting, is_edge_member, is_native_in, is_mirror_of, is_mirrored, mirrors_of, has_edge_member}
use Rattle.conf_types.specs.State.{State}
use Rattle.conf_types.specs.Valid.{IsMirror, IsStackPort}
use Rattle.packet_way.specs.Flood as description
use Rattle.packet_way.specs.Known.{stack_of}
use Rattle.packet_way.specs.Leaving.{copies, delivered, as_sent, without_tag}
use Rattle.stack_paths.specs.Chosen.{is_tree_port}
use Rattle.stack_paths.specs.Stack.{Stack}
use Rattle.plan_base.specs.declared.table.Table.TheVariants as table
use Rattle.plan_base.specs.Fields.{in_port, vid_field}
use Rattle.plan_base.specs.Entries.{leads_to, entry}
use Rattle.plan_base.specs.Actions.{out, to_ingress}
use Rattle.plan_base.specs.Sending.{copied, mirrored, outs}
use Rattle.vlan_compile.specs.declared.flood.Flood.{Flood}
use Rattle.vlan_compile.specs.declared.flood.Flood.TheVariants.{Group, Unicast}
use Rattle.vlan_compile.specs.declared.flood.Ingress.{Ingress}
use Rattle.vlan_compile.specs.declared.flood.Ingress.TheVariants.{Any, At}
use Rattle.vlan_compile.specs.Floods.{is_in, is_for, is_flooded, may_get, flooded, by_port, by_each, popped, flood_actions, flood_priority, from_fields, to_fields, flood_entry, is_apart, has_flooded, floods_to, floods}
use Rattle.law_runs.specs.Decided.{Does, IsDecided, decided, none_takes}
use Rattle.law_runs.specs.Members.{in_front, behind, in_flat, in_mapped, in_filtered, in_then, head_of, all_joined, all_if, all_mapped, all_filtered, all_by, of_all}
use Rattle.law_runs.specs.Order.{AreSame, same_self}
use Rattle.law_runs.specs.Outputs.{sends_joined, left_joined}
use Rattle.law_runs.specs.Runs.{stopped, missed}
use Rattle.law_tables.proofs.FloodLists.{flat_filtered, flat_same, flat_parted}
use Rattle.law_tables.proofs.Ingress.{Entered, entered, edge_apart, stack_apart, end_of}
use Rattle.plan_units.specs.Agrees as fields
use Rattle.plan_units.specs.Copies.{no_ingress, copied_sends, outs_leave}
use Rattle.plan_units.specs.Facts.{found, some_passes, none_passes, one_port, port_number, vlan_in, one_vlan, vlan_number}
use Rattle.plan_units.specs.Fixed.{fixed}
use Rattle.plan_units.specs.Laws.{IsSetting, Leaves, Sends, FloodLaw}
use Rattle.plan_units.specs.Steps.{followed, sends_led, goes_led, ends_led, in_its_table, hit_by}
use Rattle.plan_units.specs.Tables.{AtTable, by_family, elsewhere_in, here_in, drops_in, port_acl_in, admissions_in, misses_in, vlan_acl_in, vips_in, sources_in, destinations_in, routes_elsewhere}
use Rattle.plan_units.specs.Units.{plan, of_port, of_vlan}
use Rattle.acl_compile.specs.Slices.{vlan_acl}
use Rattle.route_compile.specs.Vips.{vip_slice}

-- ---- what an entry's actions send, whatever the ports

-- an action that sends leaves the packet
by_port_leaves : (from : Ingress) (number : ℕ) (p : Packet) → left_by (by_port from number) p ≡ Some p
by_port_leaves Any number p = refl
by_port_leaves (At ingress) number p = one (number == ingress)
  where
    one : (b : Bool) → left_by (if b then to_ingress else out number) p ≡ Some p
    one true = refl
    one false = refl

copied_leaves : (d : Dp) (from : Ingress) (q : Port) (p : Packet) → act_left (copied d q.no (by_port from q.no)) p ≡ Some p
copied_leaves d from q p = ap (λ o. option_and_then (act_left (mirrored d q.no)) o) (by_port_leaves from q.no p) ∙ outs_leave (mirrors_of d q.no) p

-- what is sent for one port, of a packet as it is then
abbrev each_sends : Dp → Ingress → ℕ → Packet → Port → List Sent
each_sends d from port p q = act_sends (copied d q.no (by_port from q.no)) port p

each_leaves : (d : Dp) (from : Ingress) (qs : List Port) (p : Packet) → act_left (by_each d from qs) p ≡ Some p
each_leaves d from [] p = refl
each_leaves d from (q ∷ qs) p = left_joined (copied d q.no (by_port from q.no)) (by_each d from qs) p ∙ ap (λ o. option_and_then (act_left (by_each d from qs)) o) (copied_leaves d from q p) ∙ each_leaves d from qs p

by_each_sends : (d : Dp) (from : Ingress) (port : ℕ) (p : Packet) (qs : List Port) → act_sends (by_each d from qs) port p ≡ flat_map (each_sends d from port p) qs
by_each_sends d from port p [] = refl
by_each_sends d from port p (q ∷ qs) =
    sends_joined (copied d q.no (by_port from q.no)) (by_each d from qs) port p ∙ ap (λ o. each_sends d from port p q ++ option_map_or (act_sends (by_each d from qs) port) o []) (copied_leaves d from q p)
    ∙ ap (λ l. each_sends d from port p q ++ l) (by_each_sends d from port p qs)

popped_sends : (actions : List Action) (port : ℕ) (p : Packet) → act_sends (popped actions) port p ≡ act_sends actions port (without_tag p)
popped_sends [] port p = refl
popped_sends (a ∷ more) port p = refl

-- first the ports where the VLAN has a tag, and then those where it has none
two_sides : (d : Dp) (from : Ingress) (vid port : ℕ) (p : Packet) (qs : List Port)
    → AreSame (act_sends (by_each d from (filter (λ q. not (is_native_in q vid)) qs) ++ popped (by_each d from (filter (λ q. is_native_in q vid) qs))) port p) (flat_map (λ q. each_sends d from port (as_sent q vid p) q) qs)
two_sides d from vid port p qs = subst (λ (l : List Sent). AreSame l (flat_map F qs)) (sym split) (flat_parted F (λ q. is_native_in q vid) qs)
  where
    F : Port → List Sent
    F q = each_sends d from port (as_sent q vid p) q

    tagged : List Port
    tagged = filter (λ q. not (is_native_in q vid)) qs

    native : List Port
    native = filter (λ q. is_native_in q vid) qs

    on_tagged : flat_map (each_sends d from port p) tagged ≡ flat_map F tagged
    on_tagged = flat_same (each_sends d from port p) F tagged (all_filtered (λ q. each_sends d from port p q ≡ F q) (λ q. not (is_native_in q vid)) qs (all_by (λ q. not (is_native_in q vid) ≡ true → each_sends d from port p q ≡ F q) qs (λ q c is. ap (λ (b : Bool). each_sends d from port (if b then without_tag p else p) q) (sym (not-true (is_native_in q vid) is)))))

    on_native : flat_map (each_sends d from port (without_tag p)) native ≡ flat_map F native
    on_native = flat_same (each_sends d from port (without_tag p)) F native (all_filtered (λ q. each_sends d from port (without_tag p) q ≡ F q) (λ q. is_native_in q vid) qs (all_by (λ q. is_native_in q vid ≡ true → each_sends d from port (without_tag p) q ≡ F q) qs (λ q c is. ap (λ (b : Bool). each_sends d from port (if b then without_tag p else p) q) (sym is))))

    split : act_sends (by_each d from tagged ++ popped (by_each d from native)) port p ≡ flat_map F tagged ++ flat_map F native
    split =
        sends_joined (by_each d from tagged) (popped (by_each d from native)) port p ∙ ap (λ o. act_sends (by_each d from tagged) port p ++ option_map_or (act_sends (popped (by_each d from native)) port) o []) (each_leaves d from tagged p)
        ∙ ap (λ l. l ++ act_sends (popped (by_each d from native)) port p) (by_each_sends d from port p tagged ∙ on_tagged)
        ∙ ap (λ l. flat_map F tagged ++ l) (popped_sends (by_each d from native) port p ∙ by_each_sends d from port (without_tag p) native ∙ on_native)

-- an entry's part in the decision: if it hits, and none of this priority comes before it, it does so
abbrev Part : ℕ → Packet → ℕ → List Sent → Option (ℕ × Packet) → Entry → Type 0
Part port p priority sent on e = hits e.key.fields port p ≡ true → priority ≤ e.key.priority → Does 8 port p sent on e

nowhere : (o : Option Packet) → ◌≡◌ {A = Option (ℕ × Packet)} (option_and_then (λ (q : Packet). option_map (λ (u : ℕ). (u, q)) None) o) None
nowhere None = refl
nowhere (Some q) = refl

stops_at : (port : ℕ) (p : Packet) (priority : ℕ) (fs : List Field) (actions : List Action) (outs : List Sent) → AreSame (act_sends actions port p) outs → Does 8 port p outs None (entry table.Flood priority fs (leads_to actions None))
stops_at port p priority fs actions outs is = (
  subst (λ (l : List Sent). AreSame l outs) (sym (sends_led table.Flood priority fs actions None port p)) is,
  goes_led table.Flood priority fs actions None 8 p ∙ ap (λ (o : Option ℕ). option_and_then (λ (q : Packet). option_map (λ (u : ℕ). (u, q)) o) (act_left actions p)) (ends_led actions 8) ∙ nowhere (act_left actions p),
)

-- ports of the tree are ends of stack links
module _ (conf : Configuration) (now : State) (d : Dp) (setting : IsSetting conf now d) (tree_ends : (number : ℕ) → is_tree_port (stack_of conf now.ups) d.id number ≡ true → IsSomeAnd (port_at conf d.id number) (λ q. is_stack q ≡ true)) where
  abbrev stack : Stack
  stack = stack_of conf now.ups

  -- ---- entries of table 8 alone decide there

  at_8 : (Q : Entry → Type 0) → ((w : Vlan) → Contains conf.vlans w → AllByRecursion Q (floods d w stack)) → AtTable 8 Q (plan conf now d)
  at_8 Q each = by_family conf now d 8 Q (record {
    drops = elsewhere_in 8 1 _ _ (λ e. omega (arith, e)) (drops_in conf d);
    groups = ((λ e. absurd (omega (arith, e))), ((λ e. absurd (omega (arith, e))), ((λ e. absurd (omega (arith, e))), ((λ e. absurd (omega (arith, e))), ((λ e. absurd (omega (arith, e))), tt)))));
    port_acls = λ i c. elsewhere_in 8 0 _ _ (λ e. omega (arith, e)) (port_acl_in conf d i);
    admissions = λ i c. elsewhere_in 8 1 _ _ (λ e. omega (arith, e)) (admissions_in conf d i);
    misses = λ i c. elsewhere_in 8 3 _ _ (λ e. omega (arith, e)) (misses_in conf d i _);
    vlan_acls = λ v c. elsewhere_in 8 2 _ _ (λ e. omega (arith, e)) (vlan_acl_in conf d v);
    vips = λ v c. elsewhere_in 8 6 _ _ (λ e. omega (arith, e)) (vips_in d v);
    floods = λ v c. here_in 8 _ _ (each v c);
    sources = λ h c. elsewhere_in 8 3 _ _ (λ e. omega (arith, e)) (sources_in conf d h _);
    destinations = λ h c. elsewhere_in 8 7 _ _ (λ e. omega (arith, e)) (destinations_in d h _);
    routes = λ v c. routes_elsewhere conf now d v 8 _ (λ e. omega (arith, e)) (λ e. omega (arith, e));
  })

  -- the entries of a VLAN: from any port, and from each that is apart
  of_vlan_by : (Q : Entry → Type 0) (w : Vlan)
      → ((flood : Flood) → has_flooded stack d w ≡ true → Q (flood_entry stack d w flood Any))
      → ((flood : Flood) (j : Port) → Contains d.ports j → is_apart d w j ≡ true → Q (flood_entry stack d w flood (At j.no)))
      → AllByRecursion Q (floods d w stack)
  of_vlan_by Q w any at = all_joined Q (floods_to stack d w Unicast) (floods_to stack d w Group) (of_kind Unicast) (of_kind Group)
    where
      of_kind : (flood : Flood) → AllByRecursion Q (floods_to stack d w flood)
      of_kind flood =
          all_joined Q (if has_flooded stack d w then flood_entry stack d w flood Any ∷ [] else []) _
          (all_if Q (has_flooded stack d w) (flood_entry stack d w flood Any ∷ []) [] (λ is. (any flood is, tt)) (λ is. tt))
          (all_mapped Q (λ i. flood_entry stack d w flood (At i.no)) (filter (is_apart d w) d.ports)
          (all_filtered (λ i. Q (flood_entry stack d w flood (At i.no))) (is_apart d w) d.ports (all_by (λ j. is_apart d w j ≡ true → Q (flood_entry stack d w flood (At j.no))) d.ports (λ j c is. at flood j c is))))

  vlan_in_plan : (w : Vlan) (e : Entry) → Contains conf.vlans w → Contains (floods d w stack) e → Contains (plan conf now d) e
  vlan_in_plan w e c x =
      behind (fixed conf d) _ e
      (behind (flat_map (of_port conf now d) d.ports) _ e
      (in_front (flat_map (of_vlan conf now d) conf.vlans) _ e (in_flat (of_vlan conf now d) conf.vlans w e c (behind (vlan_acl conf d w) (vip_slice d w ++ floods d w stack) e (behind (vip_slice d w) (floods d w stack) e x)))))

  kind_in : (w : Vlan) (flood : Flood) (e : Entry) → Contains (floods_to stack d w flood) e → Contains (floods d w stack) e
  kind_in w Unicast e c = in_front (floods_to stack d w Unicast) (floods_to stack d w Group) e c
  kind_in w Group e c = behind (floods_to stack d w Unicast) (floods_to stack d w Group) e c

  module _ (port : ℕ) (p : Packet) (i : Port) (v : Vlan) (l : Leaves conf now d port p i v) where
    came : Entered d port i
    came = entered conf now d setting port i l.is_port

    v_in : Contains conf.vlans v
    v_in = vlan_in conf setting.valid d setting.is_dp v.vid v l.is_vlan

    abbrev tag : Tag
    tag = (l.is_in).0

    vlan_hit : (w : Vlan) → Contains conf.vlans w → agrees (vid_field w.vid) (value_of VlanVid port p) ≡ (v.vid == w.vid)
    vlan_hit w c = fields.in_vlan port p l.shaped w.vid (vlan_number conf setting.valid d setting.is_dp w c) ∙ fields.names_vlan p tag w.vid (l.is_in).1 ∙ ap (λ n. n == w.vid) (l.is_in).2

    port_hit : (j : Port) → Contains d.ports j → agrees (in_port j.no) (value_of InPort port p) ≡ (port == j.no)
    port_hit j c = fields.by_port port p l.shaped came.fits j.no (port_number conf setting.valid d setting.is_dp j c)

    -- ---- which packets entries take

    abbrev Kind : Flood → Type 0
    Kind Group = is_group p.dst ≡ true
    Kind Unicast = Unit {0}

    to_hit : (flood : Flood) (w : Vlan) → Contains conf.vlans w → hits (to_fields flood w.vid) port p ≡ true → Kind flood × (v ≡ w)
    to_hit Group w c hit =
        let x = and_parts (is_group p.dst) (agrees (vid_field w.vid) (value_of VlanVid port p) && true) hit in
        let y = and_parts (agrees (vid_field w.vid) (value_of VlanVid port p)) true x.1 in
        (x.0, one_vlan conf setting.valid d setting.is_dp v w v_in c (eqb-true v.vid w.vid (sym (vlan_hit w c) ∙ y.0)))
    to_hit Unicast w c hit =
        let y = and_parts (agrees (vid_field w.vid) (value_of VlanVid port p)) true hit in
        (tt, one_vlan conf setting.valid d setting.is_dp v w v_in c (eqb-true v.vid w.vid (sym (vlan_hit w c) ∙ y.0)))

    from_hit : (flood : Flood) (w : Vlan) (j : Port) → Contains conf.vlans w → Contains d.ports j → hits (in_port j.no ∷ to_fields flood w.vid) port p ≡ true → Kind flood × (v ≡ w) × (i ≡ j)
    from_hit flood w j cw cj hit =
        let x = and_parts (agrees (in_port j.no) (value_of InPort port p)) (hits (to_fields flood w.vid) port p) hit in
        let y = to_hit flood w cw x.1 in
        (y.0, y.1, one_port conf setting.valid d setting.is_dp i j came.within cj (came.is ∙ eqb-true port j.no (sym (port_hit j cj) ∙ x.0)))

    hits_to : (flood : Flood) → Kind flood → hits (to_fields flood v.vid) port p ≡ true
    hits_to Group k = rw k (rw (vlan_hit v v_in) (rw (eq-eqb v.vid v.vid refl) refl))
    hits_to Unicast k = rw (vlan_hit v v_in) (rw (eq-eqb v.vid v.vid refl) refl)

    hits_from : (flood : Flood) → Kind flood → hits (in_port i.no ∷ to_fields flood v.vid) port p ≡ true
    hits_from flood k = rw (port_hit i came.within) (rw (eq-eqb port i.no (sym came.is)) (hits_to flood k))

    -- ---- what is sent for each port

    -- the kind of flood that the destination asks for
    record IsKind (flood : Flood) : Type 0 where
      kind : Kind flood
      inside : is_in flood v ≡ (is_group p.dst || v.unicast_flood)
      each : (q : Port) → is_for flood q ≡ (is_group p.dst || q.unicast_flood)

    abbrev F : Flood → Port → Bool
    F flood q = is_flooded stack d v flood q

    floods_as : (flood : Flood) → IsKind flood → (q : Port) → F flood q ≡ description.is_flooded stack d v p q
    floods_as flood k q = ap (λ b. (is_edge_member q v.vid && b) || is_tree_port stack d.id q.no) (k.each q)

    if_same : {A : Type 0} (c : Bool) (x y : List A) → (c ≡ true → x ≡ y) → (if c then x else []) ≡ (if c then y else [])
    if_same true x y is = is refl
    if_same false x y is = refl

    -- by any other port it leaves as it is described
    out_sends : (q : Port) → Contains d.ports q → (q.no == port) ≡ false → (r : Packet) → act_sends (copied d q.no (out q.no)) port r ≡ copies (q ∷ mirrors_of d q.no) r
    out_sends q c other r = copied_sends conf setting.valid d setting.is_dp port i l.is_port l.takes_in q (out q.no) r refl (rw (no_ingress q.no (port_number conf setting.valid d setting.is_dp q c)) (rw other refl))

    -- from the port that the packet came in by, where it is apart
    at_each : (flood : Flood) → IsKind flood → (q : Port) → Contains d.ports q
        → (if F flood q && may_get (At i.no) q then each_sends d (At i.no) port (as_sent q v.vid p) q else []) ≡ (if description.gets_flood stack d port v p q then delivered d v.vid p q else [])
    at_each flood k q c =
        ap (λ n. if F flood q && (not (q.no == n) || q.hairpin) then each_sends d (At n) port (as_sent q v.vid p) q else []) came.is
        ∙ if_same (F flood q && (not (q.no == port) || q.hairpin)) (each_sends d (At port) port (as_sent q v.vid p) q) (delivered d v.vid p q) (λ is. by (q.no == port) refl)
        ∙ ap (λ b. if b && (not (q.no == port) || q.hairpin) then delivered d v.vid p q else []) (floods_as flood k q)
      where
        by : (b : Bool) → (q.no == port) ≡ b → act_sends (copied d q.no (if b then to_ingress else out q.no)) port (as_sent q v.vid p) ≡ delivered d v.vid p q
        by true is = copied_sends conf setting.valid d setting.is_dp port i l.is_port l.takes_in q to_ingress (as_sent q v.vid p) refl (ap (λ (n : ℕ). record { port = n; packet = as_sent q v.vid p } ∷ []) (sym (eqb-true q.no port is)))
        by false is = out_sends q c is (as_sent q v.vid p)

    -- ---- a port that isn't apart gets nothing back, and has no mirrors

    abbrev Quiet : Type 0
    Quiet = (i.hairpin ≡ false) × (mirrors_of d i.no ≡ [])

    none_of : (n : ℕ) (ms : List Port) → AllByRecursion (λ m. is_mirror_of m n ≡ false) ms → filter (λ m. m.enabled && is_mirror_of m n) ms ≡ []
    none_of n [] all = refl
    none_of n (m ∷ ms) all = rw all.0 (by m.enabled (none_of n ms all.1))
      where
        by : (b : Bool) → filter (λ m. m.enabled && is_mirror_of m n) ms ≡ [] → cond (b && false) (m ∷ filter (λ m. m.enabled && is_mirror_of m n) ms) (filter (λ m. m.enabled && is_mirror_of m n) ms) ≡ []
        by true more = more
        by false more = more

    -- an end of a stack link
    stack_quiet : is_stack i ≡ true → Quiet
    stack_quiet is = (by i.stack refl ends, none_of i.no d.ports (all_by (λ m. is_mirror_of m i.no ≡ false) d.ports unmirrored))
      where
        some : is_some i.stack ≡ true
        some = (and_parts i.enabled (is_some i.stack) is).1

        ends : IfSome i.stack (IsStackPort conf d i)
        ends = of_all (λ (q : Port). IfSome q.stack (IsStackPort conf d q)) d.ports (of_all (λ (e : Dp). AllByRecursion (λ (q : Port). IfSome q.stack (IsStackPort conf e q)) e.ports) conf.dps setting.valid.stacks.each d (found (λ e. e.id.0 == d.id.0) conf.dps d setting.is_dp).within) i came.within

        by : (o : Option StackEnd) → i.stack ≡ o → IfSome o (IsStackPort conf d i) → i.hairpin ≡ false
        by None e h = absurd (true≢false (sym some ∙ ap (λ (x : Option StackEnd). is_some x) e))
        by (Some far) e h = h.no_hairpin

        own : port_with d.ports i.no ≡ Some i
        own = ap (port_with d.ports) came.is ∙ l.is_port

        unmirrored : (m : Port) → Contains d.ports m → is_mirror_of m i.no ≡ false
        unmirrored m c = one (is_mirror_of m i.no) refl
          where
            one : (b : Bool) → is_mirror_of m i.no ≡ b → is_mirror_of m i.no ≡ false
            one false e = e
            one true e =
                let some_one : m.mirror ≡ [] → ⊥ = λ none. true≢false (sym e ∙ ap (λ (xs : List ℕ). is_among xs i.no) none) in
                let is_m = of_all (λ (q : Port). (q.mirror ≡ [] → ⊥) → IsMirror d q) d.ports (of_all (λ (x : Dp). AllByRecursion (λ (q : Port). (q.mirror ≡ [] → ⊥) → IsMirror x q) x.ports) conf.dps setting.valid.mirrors.each d (found (λ x. x.id.0 == d.id.0) conf.dps d setting.is_dp).within) m c some_one in
                let f = some_passes (λ x. x == i.no) m.mirror e in
                let there = of_all (λ (n : ℕ). IsSomeAnd (port_with d.ports n) (λ q. IsTrue (is_edge q))) m.mirror is_m.mirrored f.0 (f.1).within in
                let edge : is_edge i ≡ true = subst (λ o. IsSomeAnd o (λ q. IsTrue (is_edge q))) (ap (port_with d.ports) (eqb-true f.0 i.no (f.1).passes) ∙ own) there in
                absurd (edge_apart i is edge)

    -- an edge port that gets floods of the VLAN, and isn't apart
    edge_quiet : is_accepting i ≡ true → is_apart d v i ≡ false → (flood : Flood) → F flood i ≡ true → Quiet
    edge_quiet accepting together flood is = elim (or_cases (is_edge_member i v.vid && is_for flood i) (is_tree_port stack d.id i.no) is) [
      | inl edge ↦
          let member = (and_parts (is_edge_member i v.vid) (is_for flood i) edge).0 in
          let none : (i.hairpin || is_mirrored d i.no) ≡ false = sym (rw accepting (rw member refl)) ∙ together in
          let parts = or_parts i.hairpin (is_mirrored d i.no) none in
          (parts.0, none_of i.no d.ports (none_passes (λ m. is_mirror_of m i.no) d.ports parts.1))
      | inr tree ↦
          let end = end_of conf now d setting i.no (tree_ends i.no tree) in
          let same = same_Some end.port i (sym end.is_port ∙ ap (port_with d.ports) came.is ∙ l.is_port) in
          absurd (stack_apart i (subst (λ (q : Port). is_stack q ≡ true) same end.is) accepting)
    ]

    quiet : is_apart d v i ≡ false → (flood : Flood) → F flood i ≡ true → Quiet
    quiet together flood is = elim l.takes_in [
      | inl stacked ↦ stack_quiet stacked
      | inr accepting ↦ edge_quiet accepting together flood is
    ]

    -- from any port, where the one that the packet came in by isn't apart
    any_each : is_apart d v i ≡ false → (flood : Flood) → IsKind flood → (q : Port) → Contains d.ports q
        → (if F flood q && may_get Any q then each_sends d Any port (as_sent q v.vid p) q else []) ≡ (if description.gets_flood stack d port v p q then delivered d v.vid p q else [])
    any_each together flood k q c =
        by (q.no == port) refl ∙ ap (λ b. if b && (not (q.no == port) || q.hairpin) then delivered d v.vid p q else []) (floods_as flood k q)
      where
        and_true : (b : Bool) → (b && true) ≡ b
        and_true true = refl
        and_true false = refl

        back : q ≡ i → (f : Bool) → F flood q ≡ f → (q.no == port) ≡ true → (if f && true then each_sends d Any port (as_sent q v.vid p) q else []) ≡ (if f && (not true || q.hairpin) then delivered d v.vid p q else [])
        back same false e own = refl
        back same true e own =
            let silent = quiet together flood (subst (λ x. F flood x ≡ true) same e) in
            let no_mirrors : mirrors_of d q.no ≡ [] = ap (λ (x : Port). mirrors_of d x.no) same ∙ silent.1 in
            let no_back : q.hairpin ≡ false = ap (λ (x : Port). x.hairpin) same ∙ silent.0 in
            ap (λ ms. act_sends (out q.no ∷ outs ms) port (as_sent q v.vid p)) no_mirrors ∙ rw (no_ingress q.no (port_number conf setting.valid d setting.is_dp q c)) (rw own (rw no_back refl))

        by : (b : Bool) → (q.no == port) ≡ b → (if F flood q && true then each_sends d Any port (as_sent q v.vid p) q else []) ≡ (if F flood q && (not (q.no == port) || q.hairpin) then delivered d v.vid p q else [])
        by true own =
            let same = one_port conf setting.valid d setting.is_dp q i c came.within (eqb-true q.no port own ∙ sym came.is) in
            back same (F flood q) refl own ∙ ap (λ b. if F flood q && (not b || q.hairpin) then delivered d v.vid p q else []) (sym own)
        by false other =
            if_same (F flood q && true) (each_sends d Any port (as_sent q v.vid p) q) (delivered d v.vid p q) (λ is. out_sends q c other (as_sent q v.vid p))
            ∙ ap (λ b. if F flood q && (not b || q.hairpin) then delivered d v.vid p q else []) (sym other)

    -- ---- all that is sent

    -- the ports of an entry, each with what is sent for it
    flood_sends : (flood : Flood) → IsKind flood → (from : Ingress)
        → ((q : Port) → Contains d.ports q → (if F flood q && may_get from q then each_sends d from port (as_sent q v.vid p) q else []) ≡ (if description.gets_flood stack d port v p q then delivered d v.vid p q else []))
        → AreSame (act_sends (flood_actions stack d v flood from) port p) (description.flooded stack d port v p)
    unfolding description.flooded
    flood_sends flood k from each = by (is_in flood v) refl
      where
        ports : List Port
        ports = flooded stack d v flood from

        E : Port → List Sent
        E q = each_sends d from port (as_sent q v.vid p) q

        described : List Sent
        described = flat_map (delivered d v.vid p) (filter (description.gets_flood stack d port v p) d.ports)

        one_by_one : flat_map E ports ≡ described
        one_by_one =
            flat_filtered E (λ q. F flood q && may_get from q) d.ports
            ∙ flat_same (λ q. if F flood q && may_get from q then E q else []) (λ q. if description.gets_flood stack d port v p q then delivered d v.vid p q else []) d.ports (all_by (λ q. (if F flood q && may_get from q then E q else []) ≡ (if description.gets_flood stack d port v p q then delivered d v.vid p q else [])) d.ports each)
            ∙ sym (flat_filtered (delivered d v.vid p) (description.gets_flood stack d port v p) d.ports)

        by : (b : Bool) → is_in flood v ≡ b
            → AreSame (act_sends (if b then by_each d from (filter (λ q. not (is_native_in q v.vid)) ports) ++ popped (by_each d from (filter (λ q. is_native_in q v.vid) ports)) else []) port p) (if is_group p.dst || v.unicast_flood then described else [])
        by true is =
            subst (λ b. AreSame (act_sends (by_each d from (filter (λ q. not (is_native_in q v.vid)) ports) ++ popped (by_each d from (filter (λ q. is_native_in q v.vid) ports))) port p) (if b then described else [])) (sym is ∙ k.inside)
            (subst (λ l. AreSame (act_sends (by_each d from (filter (λ q. not (is_native_in q v.vid)) ports) ++ popped (by_each d from (filter (λ q. is_native_in q v.vid) ports))) port p) l) one_by_one (two_sides d from v.vid port p ports))
        by false is = subst (λ b. AreSame [] (if b then described else [])) (sym is ∙ k.inside) (same_self [])

    does : (flood : Flood) → IsKind flood → (from : Ingress)
        → ((q : Port) → Contains d.ports q → (if F flood q && may_get from q then each_sends d from port (as_sent q v.vid p) q else []) ≡ (if description.gets_flood stack d port v p q then delivered d v.vid p q else []))
        → Does 8 port p (description.flooded stack d port v p) None (flood_entry stack d v flood from)
    does flood k from each = stops_at port p (flood_priority flood from) (from_fields from ++ to_fields flood v.vid) (flood_actions stack d v flood from) (description.flooded stack d port v p) (flood_sends flood k from each)

    -- ---- what decides

    abbrev described : List Sent
    described = description.flooded stack d port v p

    abbrev Just : Type 0
    Just = IsDecided 8 port p (plan conf now d) described None

    -- the two kinds, of which the destination asks for one
    abbrev Other : Flood → Flood
    Other Group = Unicast
    Other Unicast = Group

    -- an entry of the other kind never comes before
    record IsAsked (flood : Flood) : Type 0 where
      k : IsKind flood
      -- the entry of the other kind, if it hits, has a lesser priority
      other : (n : ℕ) → (flood_priority flood Any ≤ n) → (w : Vlan) → Kind (Other flood) → (from : Ingress) → n ≤ flood_priority (Other flood) from → ⊥

    decide : (flood : Flood) → IsAsked flood → (by : Entry) → flood_priority flood Any ≤ by.key.priority → Contains (plan conf now d) by → by.key.table ≡ 8 → hits by.key.fields port p ≡ true
        → (has_flooded stack d v ≡ true → by.key.priority ≤ flood_priority flood Any → Does 8 port p described None (flood_entry stack d v flood Any))
        → (is_apart d v i ≡ true → by.key.priority ≤ flood_priority flood (At i.no) → Does 8 port p described None (flood_entry stack d v flood (At i.no)))
        → Just
    decide flood a by least within in_8 hit any at = record {
      by = by;
      within = within;
      hit = rw (eq-eqb by.key.table 8 in_8) hit;
      all = followed 8 port p by.key.priority described None (plan conf now d) (at_8 (Part port p by.key.priority described None) (λ w c. of_vlan_by (Part port p by.key.priority described None) w (λ f has h le. of_any w c f has h le (same_kind f)) (λ f j cj apart h le. of_at w c f j cj apart h le (same_kind f))));
    }
      where
        same_kind : (f : Flood) → (f ≡ flood) ⊎ (f ≡ Other flood)
        same_kind f = both flood f
          where
            both : (x f : Flood) → (f ≡ x) ⊎ (f ≡ Other x)
            both Group Group = inl refl
            both Group Unicast = inr refl
            both Unicast Unicast = inl refl
            both Unicast Group = inr refl

        of_any : (w : Vlan) → Contains conf.vlans w → (f : Flood) → has_flooded stack d w ≡ true → hits (to_fields f w.vid) port p ≡ true → by.key.priority ≤ flood_priority f Any → (f ≡ flood) ⊎ (f ≡ Other flood) → Does 8 port p described None (flood_entry stack d w f Any)
        of_any w c f has h le (inl same) =
            let x = to_hit f w c h in
            subst (λ g. Does 8 port p described None (flood_entry stack d w g Any)) (sym same)
            (subst (λ u. Does 8 port p described None (flood_entry stack d u flood Any)) x.1 (any (subst (λ u. has_flooded stack d u ≡ true) (sym x.1) has) (subst (λ g. by.key.priority ≤ flood_priority g Any) same le)))
        of_any w c f has h le (inr another) =
            let x = to_hit f w c h in
            absurd (a.other by.key.priority least w (subst Kind another x.0) Any (subst (λ g. by.key.priority ≤ flood_priority g Any) another le))

        of_at : (w : Vlan) → Contains conf.vlans w → (f : Flood) → (j : Port) → Contains d.ports j → is_apart d w j ≡ true → hits (in_port j.no ∷ to_fields f w.vid) port p ≡ true → by.key.priority ≤ flood_priority f (At j.no) → (f ≡ flood) ⊎ (f ≡ Other flood) → Does 8 port p described None (flood_entry stack d w f (At j.no))
        of_at w c f j cj apart h le (inl same) =
            let x = from_hit f w j c cj h in
            subst (λ g. Does 8 port p described None (flood_entry stack d w g (At j.no))) (sym same)
            (subst (λ u. Does 8 port p described None (flood_entry stack d u flood (At j.no))) x.1
            (subst (λ (y : Port). Does 8 port p described None (flood_entry stack d v flood (At y.no))) x.2
            (at (subst (λ y. is_apart d v y ≡ true) (sym x.2) (subst (λ u. is_apart d u j ≡ true) (sym x.1) apart)) (subst (λ (y : Port). by.key.priority ≤ flood_priority flood (At y.no)) (sym x.2) (subst (λ g. by.key.priority ≤ flood_priority g (At j.no)) same le)))))
        of_at w c f j cj apart h le (inr another) =
            let x = from_hit f w j c cj h in
            absurd (a.other by.key.priority least w (subst Kind another x.0) (At j.no) (subst (λ g. by.key.priority ≤ flood_priority g (At j.no)) another le))

    -- where nothing is there for the packet, nothing is described
    nobody : is_apart d v i ≡ false → has_flooded stack d v ≡ false → description.flooded stack d port v p ≡ []
    unfolding description.flooded
    nobody together none = by (is_group p.dst || v.unicast_flood)
      where
        no_one : (q : Port) → Contains d.ports q → (if description.gets_flood stack d port v p q then delivered d v.vid p q else []) ≡ []
        no_one q c =
            let parts = or_parts (has_edge_member d v.vid) (list_any (λ q. is_tree_port stack d.id q.no) d.ports) none in
            let member : is_edge_member q v.vid ≡ false = of_all (λ (x : Port). is_edge_member x v.vid ≡ false) d.ports (none_passes (λ (x : Port). is_edge_member x v.vid) d.ports parts.0) q c in
            let tree : is_tree_port stack d.id q.no ≡ false = of_all (λ (x : Port). is_tree_port stack d.id x.no ≡ false) d.ports (none_passes (λ (x : Port). is_tree_port stack d.id x.no) d.ports parts.1) q c in
            rw member (rw tree refl)

        empty : (qs : List Port) → AllByRecursion (λ q. (if description.gets_flood stack d port v p q then delivered d v.vid p q else []) ≡ []) qs → flat_map (λ q. if description.gets_flood stack d port v p q then delivered d v.vid p q else []) qs ≡ []
        empty [] all = refl
        empty (q ∷ qs) all = ap (λ l. l ++ flat_map (λ q. if description.gets_flood stack d port v p q then delivered d v.vid p q else []) qs) all.0 ∙ empty qs all.1

        by : (b : Bool) → (if b then flat_map (delivered d v.vid p) (filter (description.gets_flood stack d port v p) d.ports) else []) ≡ []
        by true =
            flat_filtered (delivered d v.vid p) (description.gets_flood stack d port v p) d.ports
            ∙ empty d.ports (all_by (λ q. (if description.gets_flood stack d port v p q then delivered d v.vid p q else []) ≡ []) d.ports no_one)
        by false = refl

    none_there : is_apart d v i ≡ false → has_flooded stack d v ≡ false → AllByRecursion (λ e. takes 8 port p e ≡ false) (plan conf now d)
    none_there together none = convert (plan conf now d) (at_8 Q (λ w c. of_vlan_by Q w (λ f has h. any w c f has h) (λ f j cj apart h. at w c f j cj apart h)))
      where
        Q : Entry → Type 0
        Q e = hits e.key.fields port p ≡ true → ⊥

        any : (w : Vlan) → Contains conf.vlans w → (f : Flood) → has_flooded stack d w ≡ true → hits (to_fields f w.vid) port p ≡ true → ⊥
        any w c f has h = true≢false (sym (subst (λ u. has_flooded stack d u ≡ true) (sym (to_hit f w c h).1) has) ∙ none)

        at : (w : Vlan) → Contains conf.vlans w → (f : Flood) → (j : Port) → Contains d.ports j → is_apart d w j ≡ true → hits (in_port j.no ∷ to_fields f w.vid) port p ≡ true → ⊥
        at w c f j cj apart h =
            let x = from_hit f w j c cj h in
            true≢false (sym (subst (λ y. is_apart d v y ≡ true) (sym x.2) (subst (λ u. is_apart d u j ≡ true) (sym x.1) apart)) ∙ together)

        convert : (es : List Entry) → AtTable 8 Q es → AllByRecursion (λ e. takes 8 port p e ≡ false) es
        convert [] all = tt
        convert (e ∷ es) all = (by (takes 8 port p e) refl, convert es all.1)
          where
            by : (b : Bool) → takes 8 port p e ≡ b → takes 8 port p e ≡ false
            by true is = absurd (all.0 (in_its_table 8 port p e is) (hit_by 8 port p e is))
            by false is = is

    sends_of_kind : (flood : Flood) → IsAsked flood → Sends conf now d 8 port p described
    sends_of_kind flood a = by (is_apart d v i) (has_flooded stack d v) refl refl
      where
        within_at : is_apart d v i ≡ true → Contains (plan conf now d) (flood_entry stack d v flood (At i.no))
        within_at apart = vlan_in_plan v (flood_entry stack d v flood (At i.no)) v_in (kind_in v flood (flood_entry stack d v flood (At i.no)) (behind (if has_flooded stack d v then flood_entry stack d v flood Any ∷ [] else []) _ (flood_entry stack d v flood (At i.no)) (in_mapped (λ (x : Port). flood_entry stack d v flood (At x.no)) (filter (is_apart d v) d.ports) i (in_filtered (is_apart d v) d.ports i came.within apart))))

        within_any : has_flooded stack d v ≡ true → Contains (plan conf now d) (flood_entry stack d v flood Any)
        within_any has = vlan_in_plan v (flood_entry stack d v flood Any) v_in (kind_in v flood (flood_entry stack d v flood Any) (in_front (if has_flooded stack d v then flood_entry stack d v flood Any ∷ [] else []) _ (flood_entry stack d v flood Any) (in_then (has_flooded stack d v) (flood_entry stack d v flood Any ∷ []) [] (flood_entry stack d v flood Any) has (head_of (flood_entry stack d v flood Any) []))))

        higher : (f : Flood) → flood_priority f Any ≤ flood_priority f (At i.no)
        higher Group = omega arith
        higher Unicast = omega arith

        lower : {P : Type 0} (f : Flood) → flood_priority f (At i.no) ≤ flood_priority f Any → P
        lower Group le = absurd (omega (arith, le))
        lower Unicast le = absurd (omega (arith, le))

        by : (x y : Bool) → is_apart d v i ≡ x → has_flooded stack d v ≡ y → Sends conf now d 8 port p described
        by true y apart has =
            stopped (plan conf now d) port 8 p described (decided 8 port p (plan conf now d) described None
            (decide flood a (flood_entry stack d v flood (At i.no)) (higher flood) (within_at apart) refl (hits_from flood a.k.kind) (λ h le. lower flood le) (λ x le. does flood a.k (At i.no) (at_each flood a.k))))
        by false true together has =
            stopped (plan conf now d) port 8 p described (decided 8 port p (plan conf now d) described None
            (decide flood a (flood_entry stack d v flood Any) (omega arith) (within_any has) refl (hits_to flood a.k.kind) (λ h le. does flood a.k Any (any_each together flood a.k)) (λ apart le. absurd (true≢false (sym apart ∙ together)))))
        by false false together none =
            subst (Sends conf now d 8 port p) (sym (nobody together none)) (missed (plan conf now d) port 8 p (none_takes 8 port p (plan conf now d) (none_there together none)))

    whole : Sends conf now d 8 port p described
    whole = by (is_group p.dst) refl
      where
        by : (b : Bool) → is_group p.dst ≡ b → Sends conf now d 8 port p described
        by true g = sends_of_kind Group (record {
          k = record { kind = g; inside = rw g refl; each = λ q. rw g refl };
          other = λ n least w k from le. by_ingress from n least le;
        })
          where
            by_ingress : (from : Ingress) (n : ℕ) → 30 ≤ n → n ≤ flood_priority Unicast from → ⊥
            by_ingress Any n least le = omega (arith, least, le)
            by_ingress (At ingress) n least le = omega (arith, least, le)
        by false single = sends_of_kind Unicast (record {
          k = record { kind = tt; inside = rw single refl; each = λ q. rw single refl };
          other = λ n least w k from le. true≢false (sym k ∙ single);
        })

  pub law : FloodLaw conf now d
  law = record { floods = λ port p i v l. whole port p i v l }
