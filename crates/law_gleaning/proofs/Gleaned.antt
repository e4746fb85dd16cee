-- What is wanted because of a packet is what the route list leads it to.
use Rattle.std.proofs.Common.{◌≡◌, ℕ, ◌==◌, Bool, true, false, Option, Some, None, refl, sym, ap, ◌∙◌, subst, eqb-true, if◌then◌else◌}
use Rattle.std.specs.Prelude.{Contains}
use Rattle.std.specs.Option.{option_map_or}
use Rattle.conf_types.specs.declared.address.Ip.{Ip}
use Rattle.conf_types.specs.declared.datapath.Dp.{Dp}
use Rattle.conf_types.specs.declared.vlan.Vlan.{Vlan}
use Rattle.conf_types.specs.Configuration.{Configuration, vlan_with}
use Rattle.conf_types.specs.Groups.{group_of}
use Rattle.pkt_view.specs.Frame.{FrameParts}
use Rattle.plan_units.specs.Facts.{found}
use Rattle.plan_units.specs.Laws.{IsSetting}
use Rattle.ctl_world.specs.World.{World, now}
use Rattle.ctl_packets.specs.Packets.{destination, glean, glean_at, glean_in, glean_to, is_for_gateway, is_resolved, network_vlan, want}
use Rattle.law_gleaning.specs.Led.{LeadsIntoNetwork, WantsThere}
use Rattle.law_gleaning.proofs.Led.{asked, led_there}

module _ (w : World) (d : Dp) (vid : ℕ) (v : Vlan) (frame : FrameParts) (ip : Ip) (setting : IsSetting w.conf (now w) d) (is_vlan : vlan_with w.conf.vlans vid ≡ Some v) (to : destination frame.upper ≡ Some ip) where
  v_in : Contains w.conf.vlans v
  v_in = (found (λ (y : Vlan). y.vid == vid) w.conf.vlans v is_vlan).within

  number : v.vid ≡ vid
  number = eqb-true v.vid vid (found (λ (y : Vlan). y.vid == vid) w.conf.vlans v is_vlan).passes

  -- what gleaning comes to in its VLAN
  gleaned : glean d.id vid frame w ≡ (if is_for_gateway v frame then glean_to (group_of w.conf d.id) v.vid ip w else w)
  gleaned =
      ap (λ (o : Option Vlan). option_map_or (glean_at d.id frame w) o w) is_vlan
      ∙ ap (λ (o : Option Ip). if is_for_gateway v frame then option_map_or (λ k. glean_to (group_of w.conf d.id) v.vid k w) o w else w) to

  pub wanted : is_for_gateway v frame ≡ true → LeadsIntoNetwork w d.id vid ip → WantsThere w d.id vid frame ip
  wanted own leads = subst (λ (n : ℕ). LeadsIntoNetwork w d.id n ip → WantsThere w d.id n frame ip) number there leads
    where
      there : LeadsIntoNetwork w d.id v.vid ip → WantsThere w d.id v.vid frame ip
      there led =
          let it = asked w.conf (now w) d setting v v_in ip led.0 led.1 led.2 in (
            it.other,
            record { routed = it.routed; vip = it.vip; here = it.here; holds = it.holds },
            ap (λ (n : ℕ). glean d.id n frame w) number ∙ gleaned
                ∙ ap (λ (b : Bool). if b then glean_to (group_of w.conf d.id) v.vid ip w else w) own
                ∙ ap (λ (o : Option ℕ). option_map_or (glean_in (group_of w.conf d.id) ip w) o w) it.network
                ∙ ap (λ (b : Bool). if b then w else want (group_of w.conf d.id) it.other ip w) it.unknown,
          )

  pub none_else : (LeadsIntoNetwork w d.id vid ip → ⊥) → glean d.id vid frame w ≡ w
  none_else nowhere = gleaned ∙ either (is_for_gateway v frame) (by (network_vlan w.conf v.vid ip) refl)
    where
      either : (b : Bool) → glean_to (group_of w.conf d.id) v.vid ip w ≡ w → (if b then glean_to (group_of w.conf d.id) v.vid ip w else w) ≡ w
      either true same = same
      either false same = refl

      known : (n : ℕ) → network_vlan w.conf v.vid ip ≡ Some n → (b : Bool) → is_resolved w.neighbours.neighbours (group_of w.conf d.id) n ip ≡ b → (if b then w else want (group_of w.conf d.id) n ip w) ≡ w
      known n is true resolved = refl
      known n is false unknown =
          let led = led_there w.conf (now w) d setting v v_in ip n is unknown in
          absurd (nowhere (subst (λ (k : ℕ). LeadsIntoNetwork w d.id k ip) number (led.0, led.1, led.2)))

      by : (o : Option ℕ) → network_vlan w.conf v.vid ip ≡ o → option_map_or (glean_in (group_of w.conf d.id) ip w) o w ≡ w
      by None is = refl
      by (Some n) is = known n is (is_resolved w.neighbours.neighbours (group_of w.conf d.id) n ip) refl
