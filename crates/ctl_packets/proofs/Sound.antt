-- What a packet does leaves a sound world sound.
use Rattle.std.proofs.Common.{◌≡◌, ℕ, ◌==◌, ◌*◌, ◌&&◌, ◌||◌, not, Bool, true, false, Option, Some, None, List, [], ◌∷◌, inl, inr, refl, ap, ◌∙◌, sym, arith, eq-eqb, if◌then◌else◌}
use Rattle.std.specs.List.{list_any}
use Rattle.std.specs.Option.{option_and_then, option_map_or}
use Rattle.std.proofs.lemmas.Bool.{and_parts, cases_Bool, eqb-true}
use Rattle.net_base.specs.Address.{is_group}
use Rattle.net_base.specs.declared.address.Mac.{Mac}
use Rattle.net_base.specs.declared.numbers.DpId.{DpId}
use Rattle.conf_types.specs.declared.address.Ip.{Ip}
use Rattle.conf_types.specs.declared.address.Ip.TheVariants as ips
use Rattle.conf_types.specs.declared.state.HostRec.{HostRec}
use Rattle.conf_types.specs.declared.state.NeighRec.{NeighRec}
use Rattle.conf_types.specs.declared.vlan.Vlan.{Vlan}
use Rattle.conf_types.specs.Configuration.{Configuration, vlan_with}
use Rattle.conf_types.specs.Groups.{group_of}
use Rattle.conf_types.specs.Links.{is_up}
use Rattle.conf_types.specs.Lists.{is_same}
use Rattle.conf_types.specs.Networks.{is_neighbour_address}
use Rattle.conf_types.specs.Routing.{routing_set, vips_of}
use Rattle.conf_types.specs.State.{IsNeighbour, is_running}
use Rattle.conf_types.specs.Valid.{IsValid}
use Rattle.conf_types.proofs.Reached.{same_id}
use Rattle.host_learn.proofs.LearnedValid.{learned_valid}
use Rattle.host_learn.proofs.Lists.{found_passes}
use Rattle.of_match.specs.InPort.{in_port}
use Rattle.of13_codec.specs.declared.packet_in.PacketIn.{PacketIn}
use Rattle.flow_messages.specs.declared.messages.TheConstants.{COOKIE}
use Rattle.pkt_view.specs.Frame.{FrameParts, UpperParts, Unknown, Arp, V4, V6, parts}
use Rattle.neighbour_resolve.specs.declared.hearing.Sender.{Sender}
use Rattle.neighbour_resolve.specs.Answers.{answer}
use Rattle.neighbour_resolve.specs.Counted.{counted_vid}
use Rattle.neighbour_resolve.specs.Discovery.{nd_message, who}
use Rattle.neighbour_resolve.specs.Hearing.{heard_sender, nd_sender, sender_at, upper_sender}
use Rattle.neighbour_resolve.specs.Table.{after_told, resolved, stays, unresolved}
use Rattle.neighbour_resolve.proofs.Valid.{told_valid}
use Rattle.ctl_world.specs.Saying.{packet_out, say}
use Rattle.ctl_world.specs.World.{IsSound, World, now, running, ups}
use Rattle.ctl_world.proofs.SoundChanges.{say_sound}
use Rattle.ctl_packets.specs.Packets.{destination, gateways, glean, glean_at, glean_in, glean_to, hear_neighbour, hear_sender, is_for_gateway, is_resolved, is_route_table, is_sought, learn, least_time, network_vlan, outgoing, packet_at, packet_by, packet_in, packet_of_table, reply, sources, want}

-- what holds with any value, and without one, holds with what there is
with_any : {A : Type 0} (f : A → World) (o : Option A) (w : World) → ((a : A) → o ≡ Some a → IsSound (f a)) → IsSound w → IsSound (option_map_or f o w)
with_any f (Some a) w each none = each a refl
with_any f None w each none = none

-- ---- hosts

learn_sound : (dp : DpId) (port vid : ℕ) (mac : Mac) (w : World) → IsValid w.conf → is_running (running w) dp ≡ true → IsSound w → IsSound (learn dp port vid mac w)
learn_sound dp port vid mac w valid runs sound =
    elim (cases_Bool (is_up (ups w) dp port)) [
      | inl up ↦
          let heard : HostRec = record { dp = dp; port = port; vid = vid; mac = mac; learned = w.moment } in
          rw up (record {
            valid = learned_valid w.conf (now w) w.hosts.limit heard valid (omega (arith, sound.hosts)) sound.valid runs up;
            hosts = sound.hosts;
            neighbours = sound.neighbours;
          })
      | inr down ↦ rw down sound
    ]

-- ---- neighbours

told_sound : (stays : NeighRec → Bool) (told : NeighRec) (w : World) → IsNeighbour w.conf (now w) told → IsSound w → IsSound (record w { neighbours = after_told stays told w.neighbours })
told_sound stays told w is sound = record {
  valid = told_valid w.conf (now w) stays told w.neighbours.limit (omega (arith, sound.neighbours)) (omega (arith, sound.neighbours, sound.valid.neighbour_table)) is sound.valid;
  hosts = sound.hosts;
  neighbours = sound.neighbours;
}

-- where a datapath runs, one of its group does
group_runs : (conf : Configuration) (dp : DpId) (ids : List DpId) → is_running ids dp ≡ true → list_any (λ (id : DpId). (group_of conf id).0 == (group_of conf dp).0) ids ≡ true
group_runs conf dp [] is = is
group_runs conf dp (id ∷ ids) is =
    let of_group : DpId → Bool = λ x. (group_of conf x).0 == (group_of conf dp).0 in
    elim (cases_Bool (id.0 == dp.0)) [
      | inl same ↦
          let one = ap (λ (x : DpId). (group_of conf x).0) (same_id id dp (eqb-true id.0 dp.0 same)) in
          ap (λ b. b || list_any of_group ids) (eq-eqb (group_of conf id).0 (group_of conf dp).0 one)
      | inr other ↦
          let rest : list_any of_group ids ≡ true = group_runs conf dp ids (sym (ap (λ b. b || is_running ids dp) other) ∙ is) in
          elim (of_group id) as (λ b. (b || list_any of_group ids) ≡ true) [ true ↦ refl | false ↦ rest ]
    ]

module _ (dp : DpId) (w : World) (runs : is_running (running w) dp ≡ true) (sound : IsSound w) where
  glean_in_sound : (vid : ℕ) (ip : Ip) → is_neighbour_address (vips_of w.conf vid) ip ≡ true → IsSound (glean_in (group_of w.conf dp) ip w vid)
  glean_in_sound vid ip address =
      let group = group_of w.conf dp in
      elim (is_resolved w.neighbours.neighbours group vid ip) as (λ b. IsSound (if b then w else want group vid ip w)) [
        | true ↦ sound
        | false ↦ told_sound (stays true) (unresolved group vid ip w.moment) w (record { address = address; runs = group_runs w.conf dp (running w) runs }) sound
      ]

  glean_to_sound : (vid : ℕ) (ip : Ip) → IsSound (glean_to (group_of w.conf dp) vid ip w)
  glean_to_sound vid ip =
      with_any (glean_in (group_of w.conf dp) ip w) (network_vlan w.conf vid ip) w
      (λ v some. glean_in_sound v ip (and_parts _ _ (found_passes (is_sought w.conf vid ip) (routing_set w.conf vid) v some)).0) sound

  glean_at_sound : (frame : FrameParts) (v : Vlan) → IsSound (glean_at dp frame w v)
  glean_at_sound frame v =
      let to : Ip → World = λ ip. glean_to (group_of w.conf dp) v.vid ip w in
      elim (is_for_gateway v frame) as (λ b. IsSound (if b then option_map_or to (destination frame.upper) w else w)) [
        | true ↦ with_any to (destination frame.upper) w (λ ip some. glean_to_sound v.vid ip) sound
        | false ↦ sound
      ]

  glean_sound : (vid : ℕ) (frame : FrameParts) → IsSound (glean dp vid frame w)
  glean_sound vid frame = with_any (glean_at dp frame w) (vlan_with w.conf.vlans vid) w (λ v some. glean_at_sound frame v) sound

  -- the sender that is heard is a neighbour
  sender_at_address : (vid : ℕ) (from : Mac) (ip : Ip) (s : Sender) → sender_at w.conf vid from ip ≡ Some s → is_neighbour_address (vips_of w.conf vid) s.ip ≡ true
  sender_at_address vid from ip s is =
      let address : Bool = is_neighbour_address (vips_of w.conf vid) ip in
      elim (cases_Bool (address && not (is_group from))) [
        | inl all ↦
            let e : Some (record { ip = ip; mac = from }) ≡ Some s = rw all at is in
            let same : record { ip = ip; mac = from } ≡ s = cc in
            ap (λ (x : Sender). is_neighbour_address (vips_of w.conf vid) x.ip) (sym same) ∙ (and_parts address (not (is_group from)) all).0
        | inr other ↦ let e = rw other at is in absurd (cc)
      ]

  where_true : (b : Bool) (vid : ℕ) (from : Mac) (ip : Ip) (s : Sender) → (if b then sender_at w.conf vid from ip else None) ≡ Some s → is_neighbour_address (vips_of w.conf vid) s.ip ≡ true
  where_true true vid from ip s is = sender_at_address vid from ip s is
  where_true false vid from ip s is = absurd (cc)

  sender_address : (vid : ℕ) (from : Mac) (upper : UpperParts) (s : Sender) → upper_sender w.conf vid from upper ≡ Some s → is_neighbour_address (vips_of w.conf vid) s.ip ≡ true
  sender_address vid from Unknown s is = absurd (cc)
  sender_address vid from (V4 header body) s is = absurd (cc)
  sender_address vid from (Arp op sha spa tha tpa) s is = where_true (is_same sha.0 from.0) vid from (ips.V4 spa) s is
  sender_address vid from (V6 header body) s is =
      elim (nd_message from header body) as (λ o. option_and_then (nd_sender w.conf vid from) o ≡ Some s → is_neighbour_address (vips_of w.conf vid) s.ip ≡ true) [
        | None ↦ λ none. absurd (cc)
        | Some m ↦ λ some. where_true m.is_own vid from (who m) s some
      ] is

  hear_sound : (vid : ℕ) (frame : FrameParts) → IsSound (hear_neighbour dp vid frame w)
  hear_sound vid frame =
      let group = group_of w.conf dp in
      with_any (hear_sender dp vid w) (heard_sender w.conf vid frame) w
      (λ s some. told_sound (stays false) (resolved group vid s.ip s.mac (least_time w.conf group w.conf.dps * 1000) w.moment) w
      (record { address = sender_address vid frame.src frame.upper s some; runs = group_runs w.conf dp (running w) runs }) sound) sound

-- ---- answers

reply_sound : (number : ℕ) (dp : DpId) (port vid : ℕ) (frame : FrameParts) (w : World) → IsSound w → IsSound (reply number dp port vid frame w)
reply_sound number dp port vid frame w sound =
    with_any (λ out. say number (packet_out out) w) (outgoing w.conf dp port vid (answer w.conf dp port frame)) w (λ out some. say_sound number (packet_out out) w sound) sound

-- ---- the whole

module _ (m : PacketIn) (number : ℕ) (dp : DpId) (w : World) (valid : IsValid w.conf) (sound : IsSound w) where
  table_sound : (port vid : ℕ) (frame : FrameParts) → is_running (running w) dp ≡ true → IsSound (packet_of_table m.table number dp port vid frame w)
  table_sound port vid frame runs =
      let learned = learn dp port vid frame.src w in
      let gleaned = glean dp vid frame w in
      let answered = reply number dp port vid frame (hear_neighbour dp vid frame w) in
      elim (m.table == sources) as (λ b. IsSound (if b then learned else if is_route_table m.table frame.upper then gleaned else if m.table == gateways then answered else w)) [
        | true ↦ learn_sound dp port vid frame.src w valid runs sound
        | false ↦ elim (is_route_table m.table frame.upper) as (λ b. IsSound (if b then gleaned else if m.table == gateways then answered else w)) [
          | true ↦ glean_sound dp w runs sound vid frame
          | false ↦ elim (m.table == gateways) as (λ b. IsSound (if b then answered else w)) [
            | true ↦ reply_sound number dp port vid frame (hear_neighbour dp vid frame w) (hear_sound dp w runs sound vid frame)
            | false ↦ sound
          ]
        ]
      ]

  at_sound : (port : ℕ) (frame : FrameParts) → is_running (running w) dp ≡ true → IsSound (packet_at m number dp w port frame)
  at_sound port frame runs =
      with_any (λ vid. packet_of_table m.table number dp port vid frame w) (counted_vid w.conf dp port frame) w (λ vid some. table_sound port vid frame runs) sound

  by_sound : (port : ℕ) → is_running (running w) dp ≡ true → IsSound (packet_by m number dp w port)
  by_sound port runs = with_any (packet_at m number dp w port) (parts m.payload) w (λ frame some. at_sound port frame runs) sound

  pub packet_sound : IsSound (packet_in m number dp w)
  packet_sound =
      let ours : Bool = m.cookie == COOKIE in
      elim (cases_Bool (ours && is_running (running w) dp)) [
        | inl counts ↦ rw counts (with_any (packet_by m number dp w) (in_port m.fields) w (λ port some. by_sound port (and_parts ours (is_running (running w) dp) counts).1) sound)
        | inr other ↦ rw other sound
      ]
