-- What a datapath sends, by the port that a packet came in by.
use Rattle.std.proofs.Common.{◌≡◌, ◌∙◌, ℕ, ◌==◌, ◌&&◌, not, Bool, true, false, Option, Some, None, List, [], ◌∷◌, ap, subst, refl, sym, inl, inr, ◌⊎◌}
use Rattle.std.specs.Option.{option_map_or, option_and_then}
use Rattle.std.proofs.lemmas.Bool.{cases_Bool}
use Rattle.std.proofs.lemmas.List.{append-nil}
use Rattle.std.proofs.lemmas.Option.{none-some}
use Rattle.net_base.specs.declared.numbers.DpId.{DpId}
use Rattle.of_match.specs.declared.packet.Packet.{Packet}
use Rattle.of_match.specs.declared.packet.Sent.{Sent}
use Rattle.of_match.specs.declared.packet.Tag.{Tag}
use Rattle.of_match.specs.declared.ether_type.TheConstants.{LLDP}
use Rattle.of_match.specs.Hit.{outermost}
use Rattle.conf_types.specs.declared.datapath.Dp.{Dp}
use Rattle.conf_types.specs.declared.datapath.Port.{Port}
use Rattle.conf_types.specs.Configuration.{Configuration, dp_with, port_with, port_at}
use Rattle.conf_types.specs.Membership.{is_stack, is_accepting}
use Rattle.conf_types.specs.State.{State}
use Rattle.packet_way.specs.Verdict.{acl_sends, is_allowed}
use Rattle.packet_way.specs.Admission.{is_tagged}
use Rattle.packet_way.specs.Description.{from_edge, is_bare_lldp, from_port, sends}
use Rattle.packet_way.proofs.Ports.{At}

module _ (conf : Configuration) (now : State) (p : Packet) where
  pub sends_from : (id : DpId) (port : ℕ) (d : Dp) (i : Port) → dp_with conf.dps id ≡ Some d → port_with d.ports port ≡ Some i → sends conf now id port p ≡ from_port conf now d p i
  sends_from id port d i dp_is port_is =
      ap (λ (o : Option Dp). option_map_or (λ d. option_map_or (from_port conf now d p) (port_with d.ports port) []) o []) dp_is
      ∙ ap (λ (o : Option Port). option_map_or (from_port conf now d p) o []) port_is

  -- nothing, by what is no interface
  pub sends_nothing : (id : DpId) (port : ℕ) → port_at conf id port ≡ None → sends conf now id port p ≡ []
  sends_nothing id port none =
      elim (dp_with conf.dps id) as (λ o. option_and_then (λ (d : Dp). port_with d.ports port) o ≡ None → option_map_or (λ (d : Dp). option_map_or (from_port conf now d p) (port_with d.ports port) []) o [] ≡ []) [
        | None ↦ λ e. refl
        | Some d ↦ λ e. ap (λ (o : Option Port). option_map_or (from_port conf now d p) o []) e
      ] none

  pub sends_at : (id : DpId) (port : ℕ) (i : Port) → (at : At conf id port i) → sends conf now id port p ≡ from_port conf now at.dp p i
  sends_at id port i at = sends_from id port at.dp i at.dp_is at.port_is

  module _ (d : Dp) (i : Port) where
    pub silent : is_stack i ≡ false → is_accepting i ≡ false → from_port conf now d p i ≡ []
    silent stack accepting = rw stack (rw accepting refl)

    pub denied : is_stack i ≡ false → is_accepting i ≡ true → is_allowed conf i.acls i.no p ≡ false → from_port conf now d p i ≡ acl_sends conf d i.acls i.no p
    unfolding from_edge
    denied stack accepting deny = rw stack (rw accepting (rw deny (append-nil (acl_sends conf d i.acls i.no p))))

    -- what holds of nothing, and where the interface takes packets in
    pub taken : (P : List Sent → Type 0) → P [] → ((is_stack i ≡ true) ⊎ (is_accepting i ≡ true) → P (from_port conf now d p i)) → P (from_port conf now d p i)
    taken P nothing takes =
        elim (cases_Bool (is_stack i)) [
          | inl stack ↦ takes (inl stack)
          | inr stack ↦ elim (cases_Bool (is_accepting i)) [
            | inl accepting ↦ takes (inr accepting)
            | inr accepting ↦ subst P (sym (silent stack accepting)) nothing
          ]
        ]

-- a packet with a tag is no bare LLDP
pub not_bare : (p : Packet) (tag : Tag) → outermost p.tags ≡ Some tag → is_bare_lldp p ≡ false
not_bare p tag outer = by p.tags refl
  where
    off : (b : Bool) → (b && false) ≡ false
    off true = refl
    off false = refl

    by : (ts : List Tag) → p.tags ≡ ts → is_bare_lldp p ≡ false
    by [] e = absurd (none-some tag (sym (ap outermost e) ∙ outer))
    by (first ∷ tags) e = ap (λ ts. p.eth_type == LLDP && not (is_tagged ts)) e ∙ off (p.eth_type == LLDP)
