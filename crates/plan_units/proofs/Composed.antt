-- From table to table a plan sends what the description says, step by step.
use Rattle.std.proofs.Common.{◌≡◌, ◌⊎◌, ℕ, ◌^◌, ◌<◌, ◌==◌, Bool, true, false, List, [], ◌∷◌, ◌++◌, length, Option, Some, None, refl, sym, ap, ◌∙◌, subst, inl, inr, true≢false, eqb-true, arith, suc, if◌then◌else◌}
use Rattle.std.specs.Prelude.{option_and_then}
use Rattle.std.specs.List.{find}
use Rattle.std.specs.Option.{option_map_or}
use Rattle.std.proofs.lemmas.Option.{same_Some, none-some}
use Rattle.of_match.specs.declared.packet.Packet.{Packet}
use Rattle.of_match.specs.declared.packet.Sent.{Sent}
use Rattle.of_match.specs.declared.packet.Tag.{Tag}
use Rattle.of_match.specs.Hit.{outermost}
use Rattle.of_match.specs.Shaped.{IsShaped}
use Rattle.conf_types.specs.declared.datapath.Dp.{Dp}
use Rattle.conf_types.specs.declared.datapath.Port.{Port}
use Rattle.conf_types.specs.declared.vlan.Vlan.{Vlan}
use Rattle.conf_types.specs.Configuration.{Configuration, dp_with, port_with, vlan_with}
use Rattle.conf_types.specs.Groups.{group_of}
use Rattle.conf_types.specs.Membership.{is_stack, is_accepting, mirrors_of}
use Rattle.conf_types.specs.State.{State}
use Rattle.packet_way.specs.declared.known.Onward.{Onward}
use Rattle.packet_way.specs.declared.known.Onward.TheVariants.{ByPort, OverStack, Everywhere}
use Rattle.packet_way.specs.declared.routes.Routed.{Routed}
use Rattle.packet_way.specs.declared.routes.Routed.TheVariants as routed_case
use Rattle.packet_way.specs.declared.source.Heard.{Heard}
use Rattle.packet_way.specs.declared.source.Heard.TheVariants as heard_case
use Rattle.packet_way.specs.Admission.{admitted_to, tagged_with}
use Rattle.packet_way.specs.Description.{sent_onward, leaving, leaving_in, behind_routing, by_routing, behind_source, in_vlan, admitted, from_edge, is_bare_lldp, from_stack, from_port, sends}
use Rattle.packet_way.specs.Drops.{is_dropped}
use Rattle.packet_way.specs.Known.{stack_of, onward}
use Rattle.packet_way.specs.Leaving.{copies, to_controller}
use Rattle.packet_way.specs.Routes.{route_list, routed}
use Rattle.packet_way.specs.Source.{heard}
use Rattle.packet_way.specs.Verdict.{acl_sends, is_allowed}
use Rattle.plan_base.specs.declared.table.Table.TheVariants.{Source, VlanAcl}
use Rattle.plan_base.specs.Entries.{table_number}
use Rattle.vlan_compile.specs.Admissions.{next_in}
use Rattle.plan_units.specs.Laws.{IsSetting, IsIn, IsPort, Sends, IsOf, Leaves, PortsLaw, AdmissionLaw, VlanAclLaw, SourceLaw, RoutingLaw, DestinationLaw, FloodLaw, TableLaws}

-- what is found passes the test
passes : {A : Type 0} (test : A → Bool) (xs : List A) (x : A) → find test xs ≡ Some x → test x ≡ true
passes test [] x is = absurd (none-some x is)
passes test (y ∷ ys) x is = one (test y) refl (passes test ys x) is
  where
    one : (b : Bool) → test y ≡ b → (find test ys ≡ Some x → test x ≡ true) → (if b then Some y else find test ys) ≡ Some x → test x ≡ true
    one true here more e = subst (λ z. test z ≡ true) (same_Some y x e) here
    one false here more e = more e

positive : (n : ℕ) → (suc n == 0) ≡ false
positive n = by (suc n == 0) refl
  where
    by : (b : Bool) → (suc n == 0) ≡ b → (suc n == 0) ≡ false
    by true is = absurd (let none = eqb-true (suc n) 0 is in omega (arith, none))
    by false is = is

not_empty : (name : List ℕ) (more : List (List ℕ)) → name ∷ more ≡ [] → ⊥
not_empty name more is = true≢false (ap (λ (names : List (List ℕ)). elim names [ [] ↦ false | ◌∷◌ x (xs → hxs) ↦ true ]) is)

module _ (conf : Configuration) (now : State) (d : Dp) (laws : TableLaws conf now d) where
  abbrev Just : ℕ → ℕ → Packet → List Sent → Type 0
  Just t port p outs = Sends conf now d t port p outs

  -- tables 7 and 8
  leaves : (port : ℕ) (p : Packet) (i : Port) (v : Vlan) → Leaves conf now d port p i v → Just 7 port p (leaving conf now d port v p)
  unfolding leaving
  leaves port p i v l = by (onward conf now.hosts (stack_of conf now.ups) d v.vid p.dst) refl
    where
      by : (o : Onward) → onward conf now.hosts (stack_of conf now.ups) d v.vid p.dst ≡ o → Just 7 port p (sent_onward (stack_of conf now.ups) d port v p o)
      by (ByPort q) is = laws.destinations.by_port port p i v q l is
      by (OverStack hop) is = laws.destinations.over_stack port p i v hop l is
      by Everywhere is = laws.destinations.everywhere port p i v l is _ (laws.floods.floods port p i v l)

  -- tables 4 to 6
  routes : (port : ℕ) (p : Packet) (i : Port) (v : Vlan) → IsOf conf now d port p i v → Just 4 port p (by_routing conf now d port v p)
  unfolding by_routing
  routes port p i v o = by (routed (route_list conf now.neighbours (group_of conf d.id) v.vid) v p) refl
    where
      by : (r : Routed) → routed (route_list conf now.neighbours (group_of conf d.id) v.vid) v p ≡ r → Just 4 port p (behind_routing conf now d port p r)
      by (routed_case.GoesOn vid q) is =
          let there = laws.routing.lands port p i v vid q o is in
          let w = there.0 in
          let same : option_map_or (λ v. leaving conf now d port v q) (vlan_with conf.vlans vid) [] ≡ leaving conf now d port w q = ap (λ (x : Option Vlan). option_map_or (λ v. leaving conf now d port v q) x []) there.1 in
          subst (Just 4 port p) (sym same) (laws.routing.goes_on port p i v vid q o is (leaving conf now d port w q) (leaves port q i w there.2))
      by routed_case.ToController is = laws.routing.to_controller port p i v o is
      by routed_case.Ends is = laws.routing.ends port p i v o is

  -- table 3
  sources : (port : ℕ) (p : Packet) (i : Port) (v : Vlan) → IsOf conf now d port p i v → Just 3 port p (behind_source conf now d port v p (heard conf now d i v p.src))
  sources port p i v o = by (heard conf now d i v p.src) refl
    where
      by : (h : Heard) → heard conf now d i v p.src ≡ h → Just 3 port p (behind_source conf now d port v p h)
      by heard_case.GoesOn is = laws.sources.goes_on port p i v o is _ (routes port p i v o)
      by heard_case.IsCopied is = laws.sources.copied port p i v o is _ (routes port p i v o)
      by heard_case.Ends is = laws.sources.ends port p i v o is

  -- table 2, where the VLAN has ACLs
  in_its_vlan : (port : ℕ) (p : Packet) (i : Port) (v : Vlan) → IsOf conf now d port p i v → i.no ≡ port → Just (table_number (next_in v)) port p (in_vlan conf now d i v p)
  unfolding in_vlan
  in_its_vlan port p i v o number = by v.acls refl
    where
      turned : (acls : List (List ℕ)) → v.acls ≡ acls
          → acl_sends conf d acls port p ++ (if is_allowed conf acls port p then behind_source conf now d port v p (heard conf now d i v p.src) else []) ≡ acl_sends conf d v.acls i.no p ++ (if is_allowed conf v.acls i.no p then behind_source conf now d i.no v p (heard conf now d i v p.src) else [])
      turned acls is =
          ap (λ (names : List (List ℕ)). acl_sends conf d names port p ++ (if is_allowed conf names port p then behind_source conf now d port v p (heard conf now d i v p.src) else [])) (sym is)
          ∙ ap (λ (n : ℕ). acl_sends conf d v.acls n p ++ (if is_allowed conf v.acls n p then behind_source conf now d n v p (heard conf now d i v p.src) else [])) (sym number)

      by : (acls : List (List ℕ)) → v.acls ≡ acls → Just (table_number (next_in v)) port p (acl_sends conf d v.acls i.no p ++ (if is_allowed conf v.acls i.no p then behind_source conf now d i.no v p (heard conf now d i v p.src) else []))
      by [] is =
          let table : 3 ≡ table_number (next_in v) = ap (λ (names : List (List ℕ)). table_number (if length names == 0 then Source else VlanAcl)) (sym is) in
          subst (λ t. Just t port p (acl_sends conf d v.acls i.no p ++ (if is_allowed conf v.acls i.no p then behind_source conf now d i.no v p (heard conf now d i v p.src) else []))) table
          (subst (Just 3 port p) (turned [] is) (sources port p i v o))
      by (name ∷ more) is =
          let table : 2 ≡ table_number (next_in v) = ap (λ (b : Bool). table_number (if b then Source else VlanAcl)) (sym (positive (length more))) ∙ ap (λ (names : List (List ℕ)). table_number (if length names == 0 then Source else VlanAcl)) (sym is) in
          subst (λ t. Just t port p (acl_sends conf d v.acls i.no p ++ (if is_allowed conf v.acls i.no p then behind_source conf now d i.no v p (heard conf now d i v p.src) else []))) table
          (subst (Just 2 port p) (turned v.acls refl) (laws.vlan_acls.acls port p i v o (λ none. not_empty name more (sym is ∙ none)) _ (λ allowed. sources port p i v o)))

  -- table 1, from an edge port
  admits : (port : ℕ) (p : Packet) (i : Port) → IsShaped p → IsPort d port i → is_accepting i ≡ true → i.no ≡ port
      → Just 1 port p (if is_dropped conf d p then [] else option_map_or (admitted conf now d i p) (option_and_then (vlan_with conf.vlans) (admitted_to i p)) [])
  unfolding admitted
  admits port p i shaped is_port accepting number = by (is_dropped conf d p) refl
    where
      into : is_dropped conf d p ≡ false → (o : Option Vlan) → option_and_then (vlan_with conf.vlans) (admitted_to i p) ≡ o → Just 1 port p (option_map_or (admitted conf now d i p) o [])
      into kept None is = laws.admission.kept_out port p i shaped is_port accepting kept is
      into kept (Some v) is =
          laws.admission.admitted port p i v shaped is_port accepting kept is _ (in_its_vlan port (tagged_with v.vid p) i v (laws.admission.lands port p i v shaped is_port accepting is) number)

      by : (b : Bool) → is_dropped conf d p ≡ b → Just 1 port p (if b then [] else option_map_or (admitted conf now d i p) (option_and_then (vlan_with conf.vlans) (admitted_to i p)) [])
      by true is = laws.admission.dropped port p i shaped is_port accepting is
      by false is = into is (option_and_then (vlan_with conf.vlans) (admitted_to i p)) refl

  -- table 1, from an end of a stack link
  joins : (port : ℕ) (p : Packet) (i : Port) → IsShaped p → IsPort d port i → is_stack i ≡ true → i.no ≡ port → Just 1 port p (from_stack conf now d p i)
  unfolding from_stack
  joins port p i shaped is_port stack number = bare (is_bare_lldp p) refl
    where
      by : is_bare_lldp p ≡ false → (o : Option Tag) → outermost p.tags ≡ o → Just 1 port p (option_map_or (λ tag. leaving_in conf now d i.no tag.vid p) o [])
      by other None is = laws.admission.stack_other port p i shaped is_port stack other (ap (option_and_then (λ (tag : Tag). vlan_with conf.vlans tag.vid)) is)
      by other (Some tag) is = named (vlan_with conf.vlans tag.vid) refl
        where
          named : (w : Option Vlan) → vlan_with conf.vlans tag.vid ≡ w → Just 1 port p (option_map_or (λ v. leaving conf now d i.no v p) w [])
          named None none = laws.admission.stack_other port p i shaped is_port stack other (ap (option_and_then (λ (tag : Tag). vlan_with conf.vlans tag.vid)) is ∙ none)
          named (Some v) found =
              let same : v.vid ≡ tag.vid = eqb-true v.vid tag.vid (passes (λ w. w.vid == tag.vid) conf.vlans v found) in
              let is_vlan : vlan_with conf.vlans v.vid ≡ Some v = ap (vlan_with conf.vlans) same ∙ found in
              let inside : IsIn v.vid p = (tag, is, sym same) in
              let l : Leaves conf now d port p i v = record { shaped = shaped; is_port = is_port; takes_in = inl stack; is_vlan = is_vlan; is_in = inside } in
              laws.admission.stack port p i v shaped is_port stack is_vlan inside _ (subst (λ n. Just 7 port p (leaving conf now d n v p)) (sym number) (leaves port p i v l))

      bare : (b : Bool) → is_bare_lldp p ≡ b → Just 1 port p (if b then to_controller p else option_map_or (λ tag. leaving_in conf now d i.no tag.vid p) (outermost p.tags) [])
      bare true is = laws.admission.stack_lldp port p i shaped is_port stack is
      bare false other = by other (outermost p.tags) refl

  pub whole : IsSetting conf now d → (port : ℕ) (p : Packet) → port < 2 ^ 32 → IsShaped p → Just 0 port p (sends conf now d.id port p)
  unfolding from_edge
  whole setting port p fits shaped =
      subst (Just 0 port p) (sym (ap (λ (o : Option Dp). option_map_or (λ d. option_map_or (from_port conf now d p) (port_with d.ports port) []) o []) setting.is_dp)) (by (port_with d.ports port) refl)
    where
      edge : (i : Port) → IsPort d port i → is_stack i ≡ false → (b : Bool) → is_accepting i ≡ b → Just 0 port p (if b then from_edge conf now d p i else [])
      edge i is_port not_stack false closed = laws.ports.closed port p i is_port not_stack closed
      edge i is_port not_stack true accepting =
          let number : i.no ≡ port = eqb-true i.no port (passes (λ q. q.no == port) d.ports i is_port) in
          let rest = if is_dropped conf d p then [] else option_map_or (admitted conf now d i p) (option_and_then (vlan_with conf.vlans) (admitted_to i p)) [] in
          subst (λ n. Just 0 port p (acl_sends conf d i.acls n p ++ (if is_allowed conf i.acls n p then rest else []))) (sym number)
          (laws.ports.edge port p i shaped is_port accepting rest (λ allowed. admits port p i shaped is_port accepting number))

      of_port : (i : Port) → IsPort d port i → (b : Bool) → is_stack i ≡ b → Just 0 port p (if b then from_stack conf now d p i else if is_accepting i then from_edge conf now d p i else [])
      of_port i is_port true stack =
          laws.ports.stack port p i is_port stack _ (joins port p i shaped is_port stack (eqb-true i.no port (passes (λ q. q.no == port) d.ports i is_port)))
      of_port i is_port false not_stack = edge i is_port not_stack (is_accepting i) refl

      by : (o : Option Port) → port_with d.ports port ≡ o → Just 0 port p (option_map_or (from_port conf now d p) o [])
      by None is = laws.ports.no_port port p fits is
      by (Some i) is = of_port i is (is_stack i) refl
