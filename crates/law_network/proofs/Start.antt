-- A packet that comes in: what is sent of it before the step of known destinations, and what comes there.
use Rattle.std.proofs.Common.{◌≡◌, Bool, true, false, cond, Option, List, [], ◌++◌, refl, sym, ap, ◌∙◌, subst}
use Rattle.std.specs.Prelude.{option_and_then}
use Rattle.std.specs.Option.{option_map_or}
use Rattle.std.proofs.lemmas.Option.{same_Some}
use Rattle.of_match.specs.Shaped.{IsShaped}
use Rattle.of_match.specs.declared.packet.Packet.{Packet}
use Rattle.of_match.specs.declared.packet.Sent.{Sent}
use Rattle.conf_types.specs.declared.datapath.Dp.{Dp}
use Rattle.conf_types.specs.declared.datapath.Port.{Port}
use Rattle.conf_types.specs.declared.vlan.Vlan.{Vlan}
use Rattle.conf_types.specs.Configuration.{Configuration, vlan_with}
use Rattle.conf_types.specs.Membership.{mirrors_of}
use Rattle.conf_types.specs.State.{State}
use Rattle.packet_way.specs.declared.source.Heard.{Heard}
use Rattle.packet_way.specs.declared.source.Heard.TheVariants as heard_case
use Rattle.packet_way.specs.Admission.{admitted_to, tagged_with}
use Rattle.packet_way.specs.Description.{leaving, behind_routing, by_routing, behind_source, in_vlan, admitted, from_edge, sends}
use Rattle.packet_way.specs.Drops.{is_dropped}
use Rattle.packet_way.specs.Leaving.{copies, to_controller}
use Rattle.packet_way.specs.Source.{heard}
use Rattle.packet_way.specs.Verdict.{is_allowed}
use Rattle.packet_way.proofs.Ports.{accepting_is_no_stack}
use Rattle.packet_way.proofs.Taking.{sends_from}
use Rattle.plan_units.specs.Laws.{IsIn, IsOf, AdmissionLaw, RoutingLaw}
use Rattle.law_network.specs.Coming.{ComesToDestinations}

module _ (conf : Configuration) (now : State) (d : Dp) (i : Port) (p : Packet) (w : Vlan) (y : Packet) (c : ComesToDestinations conf now d i p w y) where
  abbrev u : Vlan
  u = c.admitting

  abbrev x : Packet
  x = tagged_with c.admitting.vid p

  -- copies for mirrors, perhaps one for the controller, and then what leaves
  pub record Starts : Type 0 where
    pub is_copied : Bool
    pub are : sends conf now d.id i.no p ≡ copies (mirrors_of d i.no) p ++ (cond is_copied (to_controller x) [] ++ leaving conf now d i.no w y)

  routes : by_routing conf now d i.no u x ≡ leaving conf now d i.no w y
  unfolding by_routing
  routes = ap (behind_routing conf now d i.no x) c.routed ∙ ap (λ (o : Option Vlan). option_map_or (λ (v : Vlan). leaving conf now d i.no v y) o []) c.is_vlan

  admits : from_edge conf now d p i ≡ admitted conf now d i p u
  unfolding from_edge
  admits =
      ap (λ (l : List Sent). l ++ cond (is_allowed conf i.acls i.no p) (cond (is_dropped conf d p) [] (option_map_or (admitted conf now d i p) (option_and_then (vlan_with conf.vlans) (admitted_to i p)) [])) []) c.let_in.port_acls.sends
      ∙ ap (λ b. cond b (cond (is_dropped conf d p) [] (option_map_or (admitted conf now d i p) (option_and_then (vlan_with conf.vlans) (admitted_to i p)) [])) []) c.let_in.port_acls.allows
      ∙ ap (λ b. cond b [] (option_map_or (admitted conf now d i p) (option_and_then (vlan_with conf.vlans) (admitted_to i p)) [])) c.let_in.kept
      ∙ ap (λ (o : Option Vlan). option_map_or (admitted conf now d i p) o []) c.let_in.admitted

  in_its_vlan : in_vlan conf now d i u x ≡ behind_source conf now d i.no u x (heard conf now d i u x.src)
  unfolding in_vlan
  in_its_vlan =
      ap (λ (l : List Sent). l ++ cond (is_allowed conf u.acls i.no x) (behind_source conf now d i.no u x (heard conf now d i u x.src)) []) c.let_in.vlan_acls.sends
      ∙ ap (λ b. cond b (behind_source conf now d i.no u x (heard conf now d i u x.src)) []) c.let_in.vlan_acls.allows

  from_it : sends conf now d.id i.no p ≡ copies (mirrors_of d i.no) p ++ behind_source conf now d i.no u x (heard conf now d i u x.src)
  unfolding admitted
  from_it =
      sends_from conf now p d.id i.no d i c.let_in.is_dp c.let_in.is_port
      ∙ rw (accepting_is_no_stack i c.let_in.takes) (rw c.let_in.takes (admits ∙ ap (λ (l : List Sent). copies (mirrors_of d i.no) p ++ l) in_its_vlan))

  pub starts : Starts
  starts = by (heard conf now d i u x.src) refl
    where
      by : (h : Heard) → heard conf now d i u x.src ≡ h → Starts
      by heard_case.GoesOn on = record { is_copied = false; are = from_it ∙ ap (λ h. copies (mirrors_of d i.no) p ++ behind_source conf now d i.no u x h) on ∙ ap (λ (l : List Sent). copies (mirrors_of d i.no) p ++ l) routes }
      by heard_case.IsCopied on = record { is_copied = true; are = from_it ∙ ap (λ h. copies (mirrors_of d i.no) p ++ behind_source conf now d i.no u x h) on ∙ ap (λ (l : List Sent). copies (mirrors_of d i.no) p ++ (to_controller x ++ l)) routes }
      by heard_case.Ends on = absurd (c.goes_on on)

  -- what comes to the step of destinations fits its headers and has the tag of its VLAN
  pub record Comes : Type 0 where
    pub shaped : IsShaped y
    pub in_vlan : IsIn w.vid y

  pub comes : IsShaped p → AdmissionLaw conf now d → RoutingLaw conf now d → Comes
  comes shaped admission routing =
      let lands : IsOf conf now d i.no x i u = admission.lands i.no p i u shaped c.let_in.is_port c.let_in.takes c.let_in.admitted in
      let on = routing.lands i.no x i u w.vid y lands c.routed in
      let same : on.0 ≡ w = same_Some on.0 w (sym on.1 ∙ c.is_vlan) in
      record { shaped = on.2.shaped; in_vlan = subst (λ (v : Vlan). IsIn v.vid y) same on.2.is_in }
