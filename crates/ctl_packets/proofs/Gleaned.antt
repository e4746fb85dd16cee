-- Where a packet is gleaned, its VLAN is the one that was asked for.
use Rattle.std.proofs.Common.{◌≡◌, ℕ, ◌==◌, true, false, Option, Some, None, refl, sym, ap, ◌∙◌, if◌then◌else◌}
use Rattle.std.specs.Option.{option_and_then, option_map_or}
use Rattle.std.proofs.lemmas.Bool.{eqb-true}
use Rattle.net_base.specs.declared.numbers.DpId.{DpId}
use Rattle.conf_types.specs.declared.address.Ip.{Ip}
use Rattle.conf_types.specs.declared.vlan.Vlan.{Vlan}
use Rattle.conf_types.specs.Configuration.{vlan_with}
use Rattle.conf_types.specs.Groups.{group_of}
use Rattle.host_learn.proofs.Lists.{found_passes}
use Rattle.pkt_view.specs.Frame.{FrameParts}
use Rattle.ctl_world.specs.World.{World}
use Rattle.ctl_packets.specs.Packets.{destination, glean, glean_at, glean_to, is_for_gateway}

module _ (dp : DpId) (vid : ℕ) (frame : FrameParts) (w : World) (ip : Ip) where
  abbrev gleaned_at : Vlan → Option Ip
  gleaned_at v = if is_for_gateway v frame then destination frame.upper else None

  abbrev to : ℕ → World
  to n = glean_to (group_of w.conf dp) n ip w

  pub gleaned_is : Some ip ≡ option_and_then gleaned_at (vlan_with w.conf.vlans vid) → to vid ≡ glean dp vid frame w
  gleaned_is = at (vlan_with w.conf.vlans vid) refl
    where
      at : (o : Option Vlan) → vlan_with w.conf.vlans vid ≡ o → Some ip ≡ option_and_then gleaned_at o → to vid ≡ option_map_or (glean_at dp frame w) o w
      at None none is = absurd (cc)
      at (Some v) some is =
          let same : v.vid ≡ vid = eqb-true v.vid vid (found_passes (λ (x : Vlan). x.vid == vid) w.conf.vlans v some) in
          elim (is_for_gateway v frame) as (λ b. Some ip ≡ (if b then destination frame.upper else None)
          → to vid ≡ (if b then option_map_or (λ a. glean_to (group_of w.conf dp) v.vid a w) (destination frame.upper) w else w)) [
            | true ↦ λ e. ap to (sym same) ∙ ap (λ o. option_map_or (λ a. glean_to (group_of w.conf dp) v.vid a w) o w) e
            | false ↦ λ e. absurd (cc)
          ] is
