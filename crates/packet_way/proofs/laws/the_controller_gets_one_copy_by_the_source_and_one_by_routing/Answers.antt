use Rattle.std.proofs.Common.{◌≡◌, ℕ, ◌+◌, ◌≤◌, ◌==◌, true, false, List, [], ◌∷◌, length, Some, None, refl, sym, ap, subst, ◌∙◌, arith}
use Rattle.std.specs.Prelude.{Contains}
use Rattle.std.proofs.lemmas.Bool.{both_ways}
use Rattle.std.proofs.lemmas.List.Elements.{All-contains}
use Rattle.net_base.specs.Address.{is_group}
use Rattle.net_base.specs.declared.numbers.DpId.{DpId}
use Rattle.net_base.specs.Numbers.{IsPortNo}
use Rattle.of_match.specs.declared.action.TheConstants.{CONTROLLER}
use Rattle.of_match.specs.declared.packet.Packet.{Packet}
use Rattle.of_match.specs.declared.packet.Sent.{Sent}
use Rattle.conf_types.specs.declared.address.Net.{Net}
use Rattle.conf_types.specs.declared.datapath.Dp.{Dp}
use Rattle.conf_types.specs.declared.datapath.Port.{Port}
use Rattle.conf_types.specs.declared.vlan.Vlan.{Vlan}
use Rattle.conf_types.specs.Configuration.{Configuration, dp_with, port_at}
use Rattle.conf_types.specs.Membership.{is_stack}
use Rattle.conf_types.specs.State.{State}
use Rattle.conf_types.specs.Valid.{IsValid}
use Rattle.packet_way.specs.Description.{is_bare_lldp, from_stack, from_port, sends}
use Rattle.packet_way.specs.Leaving.{sent, to_controller}
use Rattle.packet_way.proofs.Ends.{hop_end, end_number}
use Rattle.packet_way.proofs.Ports.{at_port, port_of}
use Rattle.packet_way.proofs.Sites.{Joins, Sites, Few, few, goes_elsewhere, from_port_all}
use Rattle.packet_way.proofs.Taking.{sends_at, sends_nothing}
use Rattle.packet_way.proofs.laws.the_controller_gets_one_copy_by_the_source_and_one_by_routing.Goals as goal

abbrev R : ℕ → List Sent → Type 0
R = Few CONTROLLER

abbrev joins : Joins R
joins = few CONTROLLER

one : (x : Packet) → R 1 (to_controller x)
one x = omega arith

other : (n : ℕ) (x : Packet) → IsPortNo n → R 0 (sent n x ∷ [])
other n x is = goes_elsewhere CONTROLLER n x (λ e. let most = is.most in omega (arith, e, most))

module _ (conf : Configuration) (now : State) (valid : IsValid conf) (id : DpId) (d : Dp) (dp_is : dp_with conf.dps id ≡ Some d) (i : Port) where
  by_number : (q : Port) (x : Packet) → Contains d.ports q → R 0 (sent q.no x ∷ [])
  by_number q x c = other q.no x (port_of conf valid id d dp_is q c).number

  elsewhere : Sites R joins conf now d i.no
  elsewhere = record {
    target = λ q x c enabled other. by_number q x c;
    mirror = λ m n x c enabled is. by_number m x c;
    out = λ v q x c may reached. by_number q x c;
    hop = λ b n x is differs. other n x (end_number conf valid d.id n (hop_end conf valid now.ups d.id b n is));
  }

  at_most : (p : Packet) (learned by_vip : ℕ) → 1 ≤ learned + by_vip → (is_group p.src ≡ false → 1 ≤ learned) → ((v : Vlan) → Contains conf.vlans v → (length v.vips == 0) ≡ false → 1 ≤ by_vip) → R (learned + by_vip) (from_port conf now d p i)
  at_most p learned by_vip some learns routes =
      from_port_all R joins conf now d i elsewhere p learned by_vip
      (λ x single. joins.more 1 learned (to_controller x) (learns single) (one x))
      (λ v x c vips. joins.more 1 by_vip (to_controller x) (routes v c vips) (one x))
      (λ x. joins.more 1 (learned + by_vip) (to_controller x) some (one x))

module _ (conf : Configuration) (now : State) (valid : IsValid conf) (id : DpId) (port : ℕ) (p : Packet) (learned by_vip : ℕ) (some : 1 ≤ learned + by_vip) (learns : is_group p.src ≡ false → 1 ≤ learned) (routes : (v : Vlan) → Contains conf.vlans v → (length v.vips == 0) ≡ false → 1 ≤ by_vip) where
  all_at_most : R (learned + by_vip) (sends conf now id port p)
  all_at_most =
      elim (port_at conf id port) as (λ o. port_at conf id port ≡ o → R (learned + by_vip) (sends conf now id port p)) [
        | None ↦ λ none. subst (λ xs. R (learned + by_vip) xs) (sym (sends_nothing conf now p id port none)) (omega arith)
        | Some i ↦ λ is.
            let at = at_port conf id port i is in
            subst (λ xs. R (learned + by_vip) xs) (sym (sends_at conf now p id port i at)) (at_most conf now valid id at.dp at.dp_is i p learned by_vip some learns routes)
      ] refl

pub returns-clause-both : goal.returns-clause-both
returns-clause-both c = λ conf now id port p valid. all_at_most conf now valid id port p 1 1 (omega arith) (λ single. omega arith) (λ v c vips. omega arith)

pub returns-clause-routed : goal.returns-clause-routed
returns-clause-routed c = λ conf now id port p valid group. all_at_most conf now valid id port p 0 1 (omega arith) (λ single. absurd (both_ways (is_group p.src) single group)) (λ v c vips. omega arith)

pub returns-clause-learned : goal.returns-clause-learned
returns-clause-learned c = λ conf now id port p valid no_vips. all_at_most conf now valid id port p 1 0 (omega arith) (λ single. omega arith) (λ v c vips. absurd (both_ways (length v.vips == 0) vips (ap (λ (nets : List Net). length nets == 0) (All-contains (λ (w : Vlan). w.vips ≡ []) conf.vlans v no_vips c))))

told_alone : (conf : Configuration) (now : State) (d : Dp) (i : Port) (p : Packet) → is_stack i ≡ true → is_bare_lldp p ≡ true → from_port conf now d p i ≡ to_controller p
unfolding from_stack
told_alone conf now d i p stack bare = rw (stack, bare) refl

pub returns-clause-told : goal.returns-clause-told
returns-clause-told c = λ conf now id port i p is stack bare.
    let at = at_port conf id port i is in
    sends_at conf now p id port i at ∙ told_alone conf now at.dp i p stack bare
