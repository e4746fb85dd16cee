-- What a packet has of its headers.
use Rattle.std.proofs.Common.{◌≡◌, ℕ, ◌^◌, ◌<◌, List, [], ◌∷◌, ◌++◌, length, drop, refl}
use Rattle.byteorder.specs.Numbers.{big_number-reads_back}
use Rattle.net_base.specs.declared.address.Mac.{Mac}
use Rattle.net_base.specs.declared.address.Ip4.{Ip4}
use Rattle.of_match.specs.declared.packet.Upper.TheVariants.{V4 as V4Part, V6 as V6Part}
use Rattle.pkt_view.proofs.UpperLaws.{by_six}
use Rattle.pkt_view.specs.Numbers.{number_at, number}
use Rattle.pkt_view.specs.Frame.{Arp, V4, V6}
use Rattle.pkt_view.specs.Packets.{l4_of, next_of, l4_len, next_rest, upper_of, rest_of}
use Rattle.pkt_view.specs.Replies.{arp_packet}
use Rattle.pkt_view.specs.Layouts.{Header, header_front, header_bytes, Header6, header6_front, header6_bytes}

pub ipv4_fields : (h : Header) (body : List ℕ) → h.source < 2 ^ 32 → h.destination < 2 ^ 32 → upper_of (V4 (header_bytes h) body) ≡ V4Part (record { 0 = h.source }) (record { 0 = h.destination }) h.protocol h.lifetime (l4_of (header_bytes h) body)
unfolding number number_at
ipv4_fields h body source_fits destination_fits =
    let header = header_bytes h in
    let source : number_at 4 12 header ≡ h.source = big_number-reads_back 4 h.source (drop 16 header) source_fits in
    let destination : number_at 4 16 header ≡ h.destination = big_number-reads_back 4 h.destination h.options destination_fits in
    λ i. V4Part (record { 0 = source i }) (record { 0 = destination i }) h.protocol h.lifetime (l4_of header body)

pub ipv4_rest : (h : Header) (payload body : List ℕ) → rest_of payload (V4 (header_bytes h) body) ≡ header_front h ++ h.options ++ drop (l4_len (l4_of (header_bytes h) body)) body
unfolding number
ipv4_rest h payload body = refl

pub ipv6_fields : (h : Header6) (body : List ℕ) → h.source < 2 ^ 128 → h.destination < 2 ^ 128 → upper_of (V6 (header6_bytes h) body) ≡ V6Part (record { 0 = h.source }) (record { 0 = h.destination }) h.next h.hops (next_of h.next body)
unfolding number number_at
ipv6_fields h body source_fits destination_fits =
    let header = header6_bytes h in
    let source : number_at 16 8 header ≡ h.source = big_number-reads_back 16 h.source (drop 24 header) source_fits in
    let destination : number_at 16 24 header ≡ h.destination = big_number-reads_back 16 h.destination [] destination_fits in
    λ i. V6Part (record { 0 = source i }) (record { 0 = destination i }) h.next h.hops (next_of h.next body)

pub ipv6_rest : (h : Header6) (payload body : List ℕ) → rest_of payload (V6 (header6_bytes h) body) ≡ header6_front h ++ next_rest (next_of h.next body) body
unfolding number
ipv6_rest h payload body = refl

pub arp_rest : (op : ℕ) (sha : Mac) (spa : Ip4) (tha : Mac) (tpa : Ip4) (padding : List ℕ) → length sha.0 ≡ 6 → length tha.0 ≡ 6 → rest_of (arp_packet op sha spa tha tpa ++ padding) (Arp op sha spa tha tpa) ≡ (0 ∷ 1 ∷ 0x08 ∷ 0x00 ∷ 6 ∷ 4 ∷ []) ++ sha.0 ++ tha.0 ++ padding
unfolding number
arp_rest op sha spa tha tpa padding sha_len tha_len =
    let P : List ℕ → List ℕ → Type 0 = λ s t. rest_of (arp_packet op (record { 0 = s }) spa (record { 0 = t }) tpa ++ padding) (Arp op (record { 0 = s }) spa (record { 0 = t }) tpa) ≡ (0 ∷ 1 ∷ 0x08 ∷ 0x00 ∷ 6 ∷ 4 ∷ []) ++ s ++ t ++ padding in
    by_six (λ s. P s tha.0) (λ a b c d e f. by_six (λ t. P (a ∷ b ∷ c ∷ d ∷ e ∷ f ∷ []) t) (λ g h i j k l. refl) tha.0 tha_len) sha.0 sha_len
