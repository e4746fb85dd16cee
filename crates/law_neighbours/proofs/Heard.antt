-- The frames that are made to ask for a neighbour, and to answer, are heard, and a solicitation is answered.
use Rattle.std.proofs.Common.{◌≡◌, ℕ, ◌==◌, ◌&&◌, not, false, List, [], ◌∷◌, length, Some, refl, ap, ◌∙◌, if◌then◌else◌}
use Rattle.std.specs.Option.{option_and_then, option_map, option_map_or}
use Rattle.net_base.specs.declared.address.Ip4.{Ip4}
use Rattle.net_base.specs.declared.address.Mac.{Mac}
use Rattle.net_base.specs.declared.address6.Ip6.{Ip6}
use Rattle.net_base.specs.Address.{is_group}
use Rattle.conf_types.specs.declared.address.Ip.TheVariants as ip
use Rattle.conf_types.specs.declared.vlan.Vlan.{Vlan}
use Rattle.conf_types.specs.Configuration.{Configuration}
use Rattle.conf_types.specs.Networks.{is_vip}
use Rattle.of_match.specs.Shaped.{IsIp4, IsIp6}
use Rattle.pkt_view.specs.Frame.{FrameParts}
use Rattle.pkt_view.specs.Layouts.{ShowsArp}
use Rattle.pkt_view.specs.Numbers.{ip6_at, number}
use Rattle.pkt_view.specs.Replies.{arp_request, arp_reply, header6, ip6_bytes, nd_solicit, nd_advert, solicited, solicited_mac}
use Rattle.pkt_view.proofs.Choice.{if_false, if_true}
use Rattle.pkt_view.proofs.MadeFrames.{reply_is_read, request_is_read}
use Rattle.pkt_view.proofs.UpperLaws.{by_six}
use Rattle.neighbour_resolve.specs.declared.answers.Reply.{Reply}
use Rattle.neighbour_resolve.specs.declared.answers.Reply.TheVariants.{Advert, Nothing}
use Rattle.neighbour_resolve.specs.Answers.{answer_in, echo_answer, nd_answer, upper_answer}
use Rattle.neighbour_resolve.specs.Hearing.{heard_sender, nd_sender, sender_at}
use Rattle.law_neighbours.specs.Made.{answered, heard}
use Rattle.law_neighbours.proofs.Messages.{is_read, is_told, read_as, same_itself}

-- ---- ARP

arp_heard : (conf : Configuration) (vid : ℕ) (frame : List ℕ) (dst : Mac) (op : ℕ) (sha : Mac) (spa : Ip4) (tha : Mac) (tpa : Ip4) → ShowsArp frame dst op sha spa tha tpa
    → heard conf vid frame ≡ sender_at conf vid sha (ip.V4 spa)
arp_heard conf vid frame dst op sha spa tha tpa shows = ap (option_and_then (heard_sender conf vid)) shows.read ∙ if_true _ _ _ (same_itself sha.0)

pub request_heard : (conf : Configuration) (vid : ℕ) (src : Mac) (spa tpa : Ip4) → length src.0 ≡ 6 → IsIp4 spa → IsIp4 tpa → heard conf vid (arp_request src spa tpa) ≡ sender_at conf vid src (ip.V4 spa)
request_heard conf vid src spa tpa len spa_fits tpa_fits = arp_heard conf vid _ _ 1 src spa _ tpa (request_is_read src spa tpa len spa_fits tpa_fits)

pub reply_heard : (conf : Configuration) (vid : ℕ) (src : Mac) (spa : Ip4) (dst : Mac) (tpa : Ip4) → length src.0 ≡ 6 → IsIp4 spa → length dst.0 ≡ 6 → IsIp4 tpa
    → heard conf vid (arp_reply src spa dst tpa) ≡ sender_at conf vid src (ip.V4 spa)
reply_heard conf vid src spa dst tpa len spa_fits dst_len tpa_fits = arp_heard conf vid _ dst 2 src spa dst tpa (reply_is_read src spa dst tpa len spa_fits dst_len tpa_fits)

-- ---- neighbour discovery

group_len : (target : Ip6) → length (solicited target) ≡ 16
unfolding number
group_len target = refl

group_mac_len : (target : Ip6) → length (solicited_mac target).0 ≡ 6
unfolding number
group_mac_len target = refl

address_len : (address : Ip6) → length (ip6_bytes address) ≡ 16
unfolding number
address_len address = refl

module _ (conf : Configuration) where
  pub solicitation_heard : (vid : ℕ) (src : Mac) (spa target : Ip6) → length src.0 ≡ 6 → IsIp6 spa → IsIp6 target → heard conf vid (nd_solicit src spa target) ≡ sender_at conf vid src (ip.V6 spa)
  solicitation_heard vid src spa target len spa_fits target_fits =
      let P : List ℕ → Type 0 = λ l. heard conf vid (nd_solicit (record { 0 = l }) spa target) ≡ sender_at conf vid (record { 0 = l }) (ip.V6 spa) in
      by_six P (λ e f g h i j.
      ap (option_and_then (heard_sender conf vid)) (is_read spa (solicited target) 135 0 0 0 0 target 1 e f g h i j (group_len target) (solicited_mac target) (group_mac_len target))
      ∙ ap (option_and_then (nd_sender conf vid (record { 0 = e ∷ f ∷ g ∷ h ∷ i ∷ j ∷ [] }))) (is_told spa (solicited target) 135 0 0 0 0 target 1 e f g h i j (group_len target) spa_fits target_fits refl)) src.0 len

  pub advertisement_heard : (vid : ℕ) (src : Mac) (spa : Ip6) (dst : Mac) (to : Ip6) → length src.0 ≡ 6 → IsIp6 spa → length dst.0 ≡ 6 → heard conf vid (nd_advert src spa dst to) ≡ sender_at conf vid src (ip.V6 spa)
  advertisement_heard vid src spa dst to len spa_fits dst_len =
      let P : List ℕ → Type 0 = λ l. heard conf vid (nd_advert (record { 0 = l }) spa dst to) ≡ sender_at conf vid (record { 0 = l }) (ip.V6 spa) in
      by_six P (λ e f g h i j.
      ap (option_and_then (heard_sender conf vid)) (is_read spa (ip6_bytes to) 136 0xe0 0 0 0 spa 2 e f g h i j (address_len to) dst dst_len)
      ∙ ap (option_and_then (nd_sender conf vid (record { 0 = e ∷ f ∷ g ∷ h ∷ i ∷ j ∷ [] }))) (is_told spa (ip6_bytes to) 136 0xe0 0 0 0 spa 2 e f g h i j (address_len to) spa_fits spa_fits refl)) src.0 len

  pub solicitation_answered : (vlan : Vlan) (src : Mac) (spa target : Ip6) → length src.0 ≡ 6 → IsIp6 spa → IsIp6 target → is_group src ≡ false
      → answered conf vlan (nd_solicit src spa target) ≡ Some (if is_vip vlan.vips (ip.V6 target) && not (spa.0 == 0) then Advert (nd_advert vlan.mac target src spa) else Nothing)
  solicitation_answered vlan src spa target len spa_fits target_fits =
      let due : Mac → Reply = λ from. if is_vip vlan.vips (ip.V6 target) && not (spa.0 == 0) then Advert (nd_advert vlan.mac target from spa) else Nothing in
      let P : List ℕ → Type 0 = λ l. is_group (record { 0 = l }) ≡ false → answered conf vlan (nd_solicit (record { 0 = l }) spa target) ≡ Some (due (record { 0 = l })) in
      by_six P (λ e f g h i j one.
      let frame : FrameParts = read_as spa (solicited target) 135 0 0 0 0 target 1 e f g h i j (group_len target) (solicited_mac target) in
      let else_way : Reply = echo_answer conf vlan frame (ip.V6 (ip6_at 24 (header6 32 255 (ip6_bytes spa) (solicited target)))) in
      ap (option_map (λ p. answer_in conf p vlan)) (is_read spa (solicited target) 135 0 0 0 0 target 1 e f g h i j (group_len target) (solicited_mac target) (group_mac_len target))
      ∙ ap (λ (r : Reply). Some r) (if_false (is_group frame.src) Nothing (upper_answer conf vlan frame frame.upper) one
      ∙ ap (λ o. option_map_or (nd_answer vlan frame.src) o else_way) (is_told spa (solicited target) 135 0 0 0 0 target 1 e f g h i j (group_len target) spa_fits target_fits refl))) src.0 len
