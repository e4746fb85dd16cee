-- The frames that are made are read as they are made.
use Rattle.std.proofs.Common.{◌≡◌, ℕ, suc, ◌+◌, ◌-◌, ◌*◌, ◌/◌, ◌%◌, ◌<◌, ◌^◌, ◌&&◌, ◌||◌, ◌==◌, Bool, true, false, cond, not, nat_le, List, [], ◌∷◌, ◌++◌, length, take, drop, inl, inr, refl, sym, ap, subst, ◌∙◌, arith, append-nil, append_assoc, length-append, Some, None}
use Rattle.std.specs.List.{AllByRecursion, flat_map}
use Rattle.std.proofs.lemmas.List.{drop-drop}
use Rattle.std.proofs.Math.Seq.{take-append_seam, drop-append_seam}
use Rattle.std.proofs.lemmas.Bool.{le-leb}
use Rattle.byteorder.specs.Numbers.{big_number-reads_back}
use Rattle.net_base.specs.declared.address.Mac.{Mac}
use Rattle.net_base.specs.declared.address.Ip4.{Ip4}
use Rattle.of_match.specs.declared.packet.Tag.{Tag}
use Rattle.net_base.specs.declared.address6.Ip6.{Ip6}
use Rattle.of_match.specs.declared.packet.L4.TheVariants.{Icmp6}
use Rattle.of_match.specs.declared.packet.Upper.TheVariants.{V6 as V6Part}
use Rattle.of_match.specs.Shaped.{IsTag, IsIp4, IsIp6}
use Rattle.pkt_view.proofs.Choice.{and_both, if_true}
use Rattle.pkt_view.proofs.Tags.{front_more, front_end}
use Rattle.pkt_view.proofs.Sums.{right_checksum}
use Rattle.pkt_view.proofs.UpperLaws.{by_six, arp_of_packet, ipv6_is_read}
use Rattle.pkt_view.specs.Numbers.{number_at, number}
use Rattle.pkt_view.specs.Checksum.{internet_checksum}
use Rattle.pkt_view.specs.Frame.{Arp, V6, is_tag_type, tag_count, type_place, upper_parts, parts_with, parts}
use Rattle.pkt_view.specs.Packets.{tag_of, tags_of, next_of, upper_of}
use Rattle.pkt_view.specs.Replies.{untagged, arp_packet, arp_request, arp_reply, broadcast, not_known, with_checksum, header6, pseudo, checksum6, message6, frame6, solicited, solicited_mac, nd_solicit, nd_advert}
use Rattle.pkt_view.specs.Layouts.{tag_bytes, frame_of, parts_of, ShowsArp, IsHeader6, ShowsNeighbour}

-- ---- tags

shows_a_tag : (tag : Tag) → IsTag tag → is_tag_type tag.tpid ≡ true
shows_a_tag tag t = elim t.tpid [ inl e ↦ ap is_tag_type e | inr e ↦ ap is_tag_type e ]

type_fits : (tag : Tag) → IsTag tag → tag.tpid < 2 ^ 16
type_fits tag t = elim t.tpid [ inl e ↦ omega (arith, e) | inr e ↦ omega (arith, e) ]

tag_of_numbers : (tpid pcp : ℕ) (dei : Bool) (vid : ℕ) (more : List ℕ) → tpid < 2 ^ 16 → pcp < 2 ^ 3 → vid < 2 ^ 12 → tag_of (tag_bytes (record { tpid = tpid; pcp = pcp; dei = dei; vid = vid }) ++ more) ≡ record { tpid = tpid; pcp = pcp; dei = dei; vid = vid }
unfolding number number_at
tag_of_numbers tpid pcp true vid more tpid_fits pcp_fits vid_fits =
    let bytes = tag_bytes (record { tpid = tpid; pcp = pcp; dei = true; vid = vid }) ++ more in
    let kind : number_at 2 0 bytes ≡ tpid = big_number-reads_back 2 tpid (drop 2 bytes) tpid_fits in
    let control : number_at 2 2 bytes ≡ pcp * 2 ^ 13 + 2 ^ 12 + vid = big_number-reads_back 2 (pcp * 2 ^ 13 + 2 ^ 12 + vid) more (omega (arith, pcp_fits, vid_fits)) in
    let priority : number_at 2 2 bytes / 2 ^ 13 % 2 ^ 3 ≡ pcp = omega (arith, control, pcp_fits, vid_fits) in
    let first : number_at 2 2 bytes / 2 ^ 12 % 2 ≡ 1 = omega (arith, control, pcp_fits, vid_fits) in
    let vlan : number_at 2 2 bytes % 2 ^ 12 ≡ vid = omega (arith, control, pcp_fits, vid_fits) in
    λ x. record { tpid = kind x; pcp = priority x; dei = first x == 1; vid = vlan x }
tag_of_numbers tpid pcp false vid more tpid_fits pcp_fits vid_fits =
    let bytes = tag_bytes (record { tpid = tpid; pcp = pcp; dei = false; vid = vid }) ++ more in
    let kind : number_at 2 0 bytes ≡ tpid = big_number-reads_back 2 tpid (drop 2 bytes) tpid_fits in
    let control : number_at 2 2 bytes ≡ pcp * 2 ^ 13 + 0 + vid = big_number-reads_back 2 (pcp * 2 ^ 13 + 0 + vid) more (omega (arith, pcp_fits, vid_fits)) in
    let priority : number_at 2 2 bytes / 2 ^ 13 % 2 ^ 3 ≡ pcp = omega (arith, control, pcp_fits, vid_fits) in
    let first : number_at 2 2 bytes / 2 ^ 12 % 2 ≡ 0 = omega (arith, control, pcp_fits, vid_fits) in
    let vlan : number_at 2 2 bytes % 2 ^ 12 ≡ vid = omega (arith, control, pcp_fits, vid_fits) in
    λ x. record { tpid = kind x; pcp = priority x; dei = first x == 1; vid = vlan x }

tag_is_read : (tag : Tag) (more : List ℕ) → IsTag tag → tag_of (tag_bytes tag ++ more) ≡ tag
tag_is_read tag more t = tag_of_numbers tag.tpid tag.pcp tag.dei tag.vid more (type_fits tag t) t.pcp t.vid

pub tags_are_read : (tags : List Tag) → AllByRecursion IsTag tags → tags_of (flat_map tag_bytes tags) ≡ tags
unfolding tags_of number
tags_are_read [] all = refl
tags_are_read (tag ∷ tags) all =
    let first = tag_is_read tag (flat_map tag_bytes tags) all.0 in
    let rest = tags_are_read tags all.1 in
    λ x. first x ∷ rest x

tags_len : (tags : List Tag) → length (flat_map tag_bytes tags) ≡ 4 * length tags
unfolding number
tags_len [] = refl
tags_len (tag ∷ tags) = omega (arith, tags_len tags)

tag_in_front : (tag : Tag) (more : List ℕ) → IsTag tag → tag_count (tag_bytes tag ++ more) ≡ suc (tag_count more)
unfolding number number_at
tag_in_front tag more t =
    let bytes = tag_bytes tag ++ more in
    let kind : number_at 2 0 bytes ≡ tag.tpid = big_number-reads_back 2 tag.tpid (drop 2 bytes) (type_fits tag t) in
    front_more bytes (omega arith) (ap is_tag_type kind ∙ shows_a_tag tag t)

tags_counted : (tags : List Tag) (more : List ℕ) → AllByRecursion IsTag tags → tag_count more ≡ 0 → tag_count (flat_map tag_bytes tags ++ more) ≡ length tags
tags_counted [] more all none = none
tags_counted (tag ∷ tags) more all none =
    let behind = flat_map tag_bytes tags ++ more in
    let row : flat_map tag_bytes (tag ∷ tags) ++ more ≡ tag_bytes tag ++ behind = append_assoc (tag_bytes tag) (flat_map tag_bytes tags) more in
    let first = tag_in_front tag behind all.0 in
    let rest = tags_counted tags more all.1 none in
    ap tag_count row ∙ omega (arith, first, rest)

-- ---- frames

type_back : (eth_type : ℕ) (payload : List ℕ) → eth_type < 2 ^ 16 → number_at 2 0 (number 2 eth_type ++ payload) ≡ eth_type
unfolding number number_at
type_back eth_type payload fits = big_number-reads_back 2 eth_type payload fits

frame_of_bytes : (a b c d e f g h i j k l : ℕ) (tags : List Tag) (eth_type : ℕ) (payload : List ℕ) → AllByRecursion IsTag tags → eth_type < 2 ^ 16 → is_tag_type eth_type ≡ false → parts (frame_of (record { 0 = a ∷ b ∷ c ∷ d ∷ e ∷ f ∷ [] }) (record { 0 = g ∷ h ∷ i ∷ j ∷ k ∷ l ∷ [] }) tags eth_type payload) ≡ Some (parts_of (record { 0 = a ∷ b ∷ c ∷ d ∷ e ∷ f ∷ [] }) (record { 0 = g ∷ h ∷ i ∷ j ∷ k ∷ l ∷ [] }) tags eth_type payload)
unfolding parts number number_at
frame_of_bytes a b c d e f g h i j k l tags eth_type payload all fits shown =
    let dst : Mac = record { 0 = a ∷ b ∷ c ∷ d ∷ e ∷ f ∷ [] } in
    let src : Mac = record { 0 = g ∷ h ∷ i ∷ j ∷ k ∷ l ∷ [] } in
    let frame = frame_of dst src tags eth_type payload in
    let row = flat_map tag_bytes tags in
    let rest = number 2 eth_type ++ payload in
    let behind : drop 12 frame ≡ row ++ rest = append_assoc row (number 2 eth_type) payload in
    let len : length row ≡ 4 * length tags = tags_len tags in
    let back = type_back eth_type payload fits in
    let none : tag_count rest ≡ 0 = front_end rest (ap is_tag_type back ∙ shown) in
    let count : tag_count (drop 12 frame) ≡ length tags = ap tag_count behind ∙ tags_counted tags rest all none in
    let at = 12 + 4 * length tags in
    let place : type_place frame ≡ at = omega (arith, count) in
    let at_type : drop at frame ≡ rest = sym (drop-drop (4 * length tags) 12 frame) ∙ ap (drop (4 * length tags)) behind ∙ ap (λ (n : ℕ). drop n (row ++ rest)) (sym len) ∙ drop-append_seam row rest in
    let type_there : number_at 2 at frame ≡ eth_type = ap (number_at 2 0) at_type ∙ back in
    let skipped : at - 12 ≡ length row = omega (arith, len) in
    let tags_there : take (at - 12) (drop 12 frame) ≡ row = ap (λ (n : ℕ). take n (drop 12 frame)) skipped ∙ ap (take (length row)) behind ∙ take-append_seam row rest in
    let payload_there : drop (at + 2) frame ≡ payload = sym (drop-drop 2 at frame) ∙ ap (drop 2) at_type in
    let whole : length (drop 12 frame) ≡ length row + length rest = ap length behind ∙ length-append row rest in
    let P : ℕ → Type 0 = λ n. cond (nat_le (n + 2) (length frame) && not (is_tag_type (number_at 2 n frame))) (Some (parts_with n frame)) None ≡ Some (parts_of dst src tags eth_type payload) in
    let there : (nat_le (at + 2) (length frame) && not (is_tag_type (number_at 2 at frame))) ≡ true = and_both _ _ (le-leb (at + 2) (length frame) (omega (arith, whole, len))) (ap not (ap is_tag_type type_there ∙ shown)) in
    let read : P at = if_true _ _ _ there ∙ (λ x. Some (record { dst = dst; src = src; tags = tags_there x; eth_type = type_there x; payload = payload_there x; upper = upper_parts (type_there x) (payload_there x) })) in
    subst P (sym place) read

pub frame_is_read : (dst src : Mac) (tags : List Tag) (eth_type : ℕ) (payload : List ℕ) → length dst.0 ≡ 6 → length src.0 ≡ 6 → AllByRecursion IsTag tags → eth_type < 2 ^ 16 → is_tag_type eth_type ≡ false → parts (frame_of dst src tags eth_type payload) ≡ Some (parts_of dst src tags eth_type payload)
frame_is_read dst src tags eth_type payload dst_len src_len all fits shown =
    let P : List ℕ → List ℕ → Type 0 = λ d s. parts (frame_of (record { 0 = d }) (record { 0 = s }) tags eth_type payload) ≡ Some (parts_of (record { 0 = d }) (record { 0 = s }) tags eth_type payload) in
    by_six (λ d. P d src.0) (λ a b c d e f. by_six (λ s. P (a ∷ b ∷ c ∷ d ∷ e ∷ f ∷ []) s) (λ g h i j k l. frame_of_bytes a b c d e f g h i j k l tags eth_type payload all fits shown) src.0 src_len) dst.0 dst_len

pub untagged_is_read : (dst src : Mac) (eth_type : ℕ) (payload : List ℕ) → length dst.0 ≡ 6 → length src.0 ≡ 6 → eth_type < 2 ^ 16 → is_tag_type eth_type ≡ false → parts (untagged dst src eth_type payload) ≡ Some (parts_of dst src [] eth_type payload)
untagged_is_read dst src eth_type payload dst_len src_len fits shown =
    let row : dst.0 ++ src.0 ++ [] ≡ dst.0 ++ src.0 = append-nil (dst.0 ++ src.0) in
    ap (λ (l : List ℕ). parts (l ++ number 2 eth_type ++ payload)) (sym row) ∙ frame_is_read dst src [] eth_type payload dst_len src_len tt fits shown

-- ---- ARP

shown_bytes : (op a b c d e f g h i j k l m n o p q r : ℕ) (spa tpa : Ip4) → op < 2 ^ 8 → IsIp4 spa → IsIp4 tpa → ShowsArp (untagged (record { 0 = a ∷ b ∷ c ∷ d ∷ e ∷ f ∷ [] }) (record { 0 = g ∷ h ∷ i ∷ j ∷ k ∷ l ∷ [] }) 0x0806 (arp_packet op (record { 0 = g ∷ h ∷ i ∷ j ∷ k ∷ l ∷ [] }) spa (record { 0 = m ∷ n ∷ o ∷ p ∷ q ∷ r ∷ [] }) tpa)) (record { 0 = a ∷ b ∷ c ∷ d ∷ e ∷ f ∷ [] }) op (record { 0 = g ∷ h ∷ i ∷ j ∷ k ∷ l ∷ [] }) spa (record { 0 = m ∷ n ∷ o ∷ p ∷ q ∷ r ∷ [] }) tpa
unfolding number
shown_bytes op a b c d e f g h i j k l m n o p q r spa tpa small spa_fits tpa_fits =
    let dst : Mac = record { 0 = a ∷ b ∷ c ∷ d ∷ e ∷ f ∷ [] } in
    let sha : Mac = record { 0 = g ∷ h ∷ i ∷ j ∷ k ∷ l ∷ [] } in
    let tha : Mac = record { 0 = m ∷ n ∷ o ∷ p ∷ q ∷ r ∷ [] } in
    let payload = arp_packet op sha spa tha tpa in
    let upper : upper_parts 0x0806 payload ≡ Arp op sha spa tha tpa = ap (upper_parts 0x0806) (sym (append-nil payload)) ∙ arp_of_packet op sha spa tha tpa [] (omega (arith, small)) refl spa_fits refl tpa_fits in
    let high : op / 256 % 256 ≡ 0 = omega (arith, small) in
    let low : op % 256 ≡ op = omega (arith, small) in
    record {
      read = untagged_is_read dst sha 0x0806 payload refl refl (omega arith) refl ∙ (λ x. Some (record { dst = dst; src = sha; tags = []; eth_type = 0x0806; payload = payload; upper = upper x }));
      row = λ x. dst.0 ++ sha.0 ++ (0x08 ∷ 0x06 ∷ 0 ∷ 1 ∷ 0x08 ∷ 0x00 ∷ 6 ∷ 4 ∷ high x ∷ low x ∷ []) ++ sha.0 ++ number 4 spa.0 ++ tha.0 ++ number 4 tpa.0;
    }

shown_arp : (dst : Mac) (op : ℕ) (sha : Mac) (spa : Ip4) (tha : Mac) (tpa : Ip4) → length dst.0 ≡ 6 → op < 2 ^ 8 → length sha.0 ≡ 6 → IsIp4 spa → length tha.0 ≡ 6 → IsIp4 tpa → ShowsArp (untagged dst sha 0x0806 (arp_packet op sha spa tha tpa)) dst op sha spa tha tpa
shown_arp dst op sha spa tha tpa dst_len small sha_len spa_fits tha_len tpa_fits =
    let P : List ℕ → List ℕ → List ℕ → Type 0 = λ d s t. ShowsArp (untagged (record { 0 = d }) (record { 0 = s }) 0x0806 (arp_packet op (record { 0 = s }) spa (record { 0 = t }) tpa)) (record { 0 = d }) op (record { 0 = s }) spa (record { 0 = t }) tpa in
    by_six (λ l. P l sha.0 tha.0)
    (λ a b c d e f. by_six (λ l. P (a ∷ b ∷ c ∷ d ∷ e ∷ f ∷ []) l tha.0)
    (λ g h i j k l. by_six (λ t. P (a ∷ b ∷ c ∷ d ∷ e ∷ f ∷ []) (g ∷ h ∷ i ∷ j ∷ k ∷ l ∷ []) t)
    (λ m n o p q r. shown_bytes op a b c d e f g h i j k l m n o p q r spa tpa small spa_fits tpa_fits) tha.0 tha_len) sha.0 sha_len) dst.0 dst_len

pub request_is_read : (src : Mac) (spa tpa : Ip4) → length src.0 ≡ 6 → IsIp4 spa → IsIp4 tpa → ShowsArp (arp_request src spa tpa) (record { 0 = 0xff ∷ 0xff ∷ 0xff ∷ 0xff ∷ 0xff ∷ 0xff ∷ [] }) 1 src spa (record { 0 = 0 ∷ 0 ∷ 0 ∷ 0 ∷ 0 ∷ 0 ∷ [] }) tpa
request_is_read src spa tpa len spa_fits tpa_fits =
    shown_arp broadcast 1 src spa not_known tpa refl (omega arith) len spa_fits refl tpa_fits

pub reply_is_read : (src : Mac) (spa : Ip4) (dst : Mac) (tpa : Ip4) → length src.0 ≡ 6 → IsIp4 spa → length dst.0 ≡ 6 → IsIp4 tpa → ShowsArp (arp_reply src spa dst tpa) dst 2 src spa dst tpa
reply_is_read src spa dst tpa src_len spa_fits dst_len tpa_fits =
    shown_arp dst 2 src spa dst tpa dst_len (omega arith) src_len spa_fits dst_len tpa_fits

-- ---- the checksum of a message

regroup : (p k n r : List ℕ) → p ++ (k ++ n ++ r) ≡ p ++ k ++ n ++ r
regroup p k n r = sym (append_assoc p (k ++ n) r) ∙ ap (λ (w : List ℕ). w ++ r) (sym (append_assoc p k n))

same_len : (kind sum : ℕ) (rest : List ℕ) → length ((kind ∷ 0 ∷ []) ++ number 2 sum ++ rest) ≡ length ((kind ∷ 0 ∷ []) ++ number 2 0 ++ rest)
unfolding number
same_len kind sum rest = refl

pseudo_len : (source destination : List ℕ) (len kind : ℕ) → length source ≡ 16 → length destination ≡ 16 → length (pseudo source destination len ++ kind ∷ 0 ∷ []) % 2 ≡ 0
unfolding number
pseudo_len source destination len kind s d =
    let tail : List ℕ = 0 ∷ 0 ∷ 0 ∷ 58 ∷ [] in
    omega (arith, length-append (pseudo source destination len) (kind ∷ 0 ∷ []), length-append (source ++ destination ++ number 4 len) tail, length-append (source ++ destination) (number 4 len), length-append source destination, s, d)

pub message_right : (source destination : List ℕ) (kind : ℕ) (rest : List ℕ) → length source ≡ 16 → length destination ≡ 16 → checksum6 source destination (message6 source destination kind rest) ≡ 0
unfolding checksum6 message6 with_checksum
message_right source destination kind rest s d =
    let k : List ℕ = kind ∷ 0 ∷ [] in
    let unsummed : List ℕ = k ++ number 2 0 ++ rest in
    let p : List ℕ = pseudo source destination (length unsummed) in
    let sum : ℕ = internet_checksum (p ++ unsummed) in
    let inner : sum ≡ internet_checksum (p ++ k ++ number 2 0 ++ rest) = ap internet_checksum (regroup p k (number 2 0) rest) in
    ap (λ (n : ℕ). internet_checksum (pseudo source destination n ++ (k ++ number 2 sum ++ rest))) (same_len kind sum rest)
    ∙ ap internet_checksum (regroup p k (number 2 sum) rest)
    ∙ ap (λ (n : ℕ). internet_checksum (p ++ k ++ number 2 n ++ rest)) inner
    ∙ right_checksum (p ++ k) rest (pseudo_len source destination (length unsummed) kind s d)

-- ---- messages between neighbours

len_16 : (n : ℕ) → length (number 16 n) ≡ 16
unfolding number
len_16 n = refl

solicited_len : (target : Ip6) → length (solicited target) ≡ 16
unfolding number
solicited_len target = refl

header_of_message : (len hops source : ℕ) (to : List ℕ) → length to ≡ 16 → IsHeader6 (header6 len hops (number 16 source) to)
unfolding number
header_of_message len hops source to long =
    record { class = 0; more = (0 ∷ 0 ∷ 0 ∷ []) ++ number 2 len ++ (58 ∷ hops ∷ []) ++ number 16 source ++ to; first = refl; fits = omega arith; long = omega (arith, long) }

neighbour_upper : (source : Ip6) (to : List ℕ) (kind : ℕ) (a b c d : ℕ) (target : Ip6) (option e f g h i j : ℕ) → IsIp6 source → IsIp6 target → length to ≡ 16
    → ((sum : ℕ) → next_of 58 ((kind ∷ 0 ∷ []) ++ number 2 sum ++ ((a ∷ b ∷ c ∷ d ∷ []) ++ number 16 target.0 ++ (option ∷ 1 ∷ []) ++ e ∷ f ∷ g ∷ h ∷ i ∷ j ∷ [])) ≡ Icmp6 kind 0 (Some target))
    → upper_of (V6 (header6 32 255 (number 16 source.0) to) (message6 (number 16 source.0) to kind ((a ∷ b ∷ c ∷ d ∷ []) ++ number 16 target.0 ++ (option ∷ 1 ∷ []) ++ e ∷ f ∷ g ∷ h ∷ i ∷ j ∷ [])))
    ≡ V6Part source (record { 0 = number_at 16 0 to }) 58 255 (Icmp6 kind 0 (Some target))
unfolding number number_at message6
neighbour_upper source to kind a b c d target option e f g h i j source_fits target_fits long read =
    let back : number_at 16 8 (header6 32 255 (number 16 source.0) to) ≡ source.0 = big_number-reads_back 16 source.0 to source_fits in
    let rest : List ℕ = (a ∷ b ∷ c ∷ d ∷ []) ++ number 16 target.0 ++ (option ∷ 1 ∷ []) ++ e ∷ f ∷ g ∷ h ∷ i ∷ j ∷ [] in
    let sum : ℕ = checksum6 (number 16 source.0) to ((kind ∷ 0 ∷ []) ++ number 2 0 ++ rest) in
    λ x. V6Part (record { 0 = back x }) (record { 0 = number_at 16 0 to }) 58 255 (read sum x)

target_read : (kind : ℕ) (sum a b c d : ℕ) (target : Ip6) (option e f g h i j : ℕ) → ((kind == 135) || (kind == 136)) ≡ true → IsIp6 target
    → next_of 58 ((kind ∷ 0 ∷ []) ++ number 2 sum ++ ((a ∷ b ∷ c ∷ d ∷ []) ++ number 16 target.0 ++ (option ∷ 1 ∷ []) ++ e ∷ f ∷ g ∷ h ∷ i ∷ j ∷ [])) ≡ Icmp6 kind 0 (Some target)
unfolding next_of number number_at
target_read kind sum a b c d target option e f g h i j shown fits =
    let tail : List ℕ = (option ∷ 1 ∷ []) ++ e ∷ f ∷ g ∷ h ∷ i ∷ j ∷ [] in
    let body : List ℕ = (kind ∷ 0 ∷ []) ++ number 2 sum ++ ((a ∷ b ∷ c ∷ d ∷ []) ++ number 16 target.0 ++ tail) in
    let back : number_at 16 8 body ≡ target.0 = big_number-reads_back 16 target.0 tail fits in
    ap (Icmp6 kind 0) (if_true _ _ _ (and_both _ _ shown refl) ∙ (λ x. Some (record { 0 = back x })))

mac_len : (target : Ip6) → length (solicited_mac target).0 ≡ 6
unfolding number
mac_len target = refl

message_ends : (s t : List ℕ) (kind a b c d : ℕ) (target : Ip6) (tail : List ℕ) → drop 24 (message6 s t kind ((a ∷ b ∷ c ∷ d ∷ []) ++ number 16 target.0 ++ tail)) ≡ tail
unfolding message6 number
message_ends s t kind a b c d target tail = refl

shown_neighbour : (dst : Mac) (e f g h i j : ℕ) (source : Ip6) (to : List ℕ) (kind a b c d : ℕ) (target : Ip6) (option : ℕ) → length dst.0 ≡ 6 → length to ≡ 16 → IsIp6 source → IsIp6 target → ((kind == 135) || (kind == 136)) ≡ true
    → ShowsNeighbour (frame6 dst (record { 0 = e ∷ f ∷ g ∷ h ∷ i ∷ j ∷ [] }) 255 (number 16 source.0) to kind ((a ∷ b ∷ c ∷ d ∷ []) ++ number 16 target.0 ++ (option ∷ 1 ∷ []) ++ e ∷ f ∷ g ∷ h ∷ i ∷ j ∷ []))
    dst (record { 0 = e ∷ f ∷ g ∷ h ∷ i ∷ j ∷ [] }) source to kind target option
unfolding number
shown_neighbour dst e f g h i j source to kind a b c d target option dst_len long source_fits target_fits shown =
    let src : Mac = record { 0 = e ∷ f ∷ g ∷ h ∷ i ∷ j ∷ [] } in
    let rest : List ℕ = (a ∷ b ∷ c ∷ d ∷ []) ++ number 16 target.0 ++ (option ∷ 1 ∷ []) ++ src.0 in
    let header : List ℕ = header6 32 255 (number 16 source.0) to in
    let message : List ℕ = message6 (number 16 source.0) to kind rest in
    let upper : upper_parts 0x86dd (header ++ message) ≡ V6 header message = ipv6_is_read header message (header_of_message 32 255 source.0 to long) in
    record {
      header = header;
      message = message;
      read = untagged_is_read dst src 0x86dd (header ++ message) dst_len refl (omega arith) refl ∙ (λ x. Some (record { dst = dst; src = src; tags = []; eth_type = 0x86dd; payload = header ++ message; upper = upper x }));
      upper = neighbour_upper source to kind a b c d target option e f g h i j source_fits target_fits long (λ sum. target_read kind sum a b c d target option e f g h i j shown target_fits);
      right = message_right (number 16 source.0) to kind rest (len_16 source.0) long;
      ends = message_ends (number 16 source.0) to kind a b c d target (option ∷ 1 ∷ e ∷ f ∷ g ∷ h ∷ i ∷ j ∷ []);
    }

pub solicitation_is_read : (src : Mac) (spa target : Ip6) → length src.0 ≡ 6 → IsIp6 spa → IsIp6 target → ShowsNeighbour (nd_solicit src spa target) (solicited_mac target) src spa (solicited target) 135 target 1
solicitation_is_read src spa target len spa_fits target_fits =
    let P : List ℕ → Type 0 = λ l. ShowsNeighbour (nd_solicit (record { 0 = l }) spa target) (solicited_mac target) (record { 0 = l }) spa (solicited target) 135 target 1 in
    by_six P (λ e f g h i j. shown_neighbour (solicited_mac target) e f g h i j spa (solicited target) 135 0 0 0 0 target 1 (mac_len target) (solicited_len target) spa_fits target_fits refl) src.0 len

pub advertisement_is_read : (src : Mac) (spa : Ip6) (dst : Mac) (to : Ip6) → length src.0 ≡ 6 → IsIp6 spa → length dst.0 ≡ 6 → ShowsNeighbour (nd_advert src spa dst to) dst src spa (number 16 to.0) 136 spa 2
advertisement_is_read src spa dst to len spa_fits dst_len =
    let P : List ℕ → Type 0 = λ l. ShowsNeighbour (nd_advert (record { 0 = l }) spa dst to) dst (record { 0 = l }) spa (number 16 to.0) 136 spa 2 in
    by_six P (λ e f g h i j. shown_neighbour dst e f g h i j spa (number 16 to.0) 136 0xe0 0 0 0 spa 2 dst_len (len_16 to.0) spa_fits spa_fits refl) src.0 len
