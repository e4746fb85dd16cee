-- What stands behind an EtherType is spelled by what is read of it, and read as it is spelled.
use Rattle.std.proofs.Common.{◌≡◌, ℕ, zero, suc, ◌+◌, ◌*◌, ◌/◌, ◌%◌, ◌^◌, ◌<◌, ◌≤◌, true, false, nat_le, List, [], ◌∷◌, ◌++◌, length, take, drop, get_or, slice_index, refl, sym, ap, subst, ◌∙◌, arith, length-append}
use Rattle.std.specs.Prelude.{All}
use Rattle.std.proofs.lemmas.Bool.{eqb-true, leb-true, le-leb, eq-eqb}
use Rattle.std.proofs.lemmas.List.{take-append-drop, length-take-le}
use Rattle.std.proofs.Math.Seq.{take-append_seam, drop-append_seam}
use Rattle.byteorder.specs.Numbers.{big_number-reads_back}
use Rattle.net_base.specs.declared.address.Mac.{Mac}
use Rattle.net_base.specs.declared.address.Ip4.{Ip4}
use Rattle.pkt_view.proofs.Choice.{by_if, and_left, and_right, and_both, if_true, if_false}
use Rattle.pkt_view.proofs.Shapes.{fits_2, fits_4, six}
use Rattle.pkt_view.proofs.Spelled.{number_back, number_back_4, two_bytes, joined}
use Rattle.pkt_view.specs.Numbers.{number_at, number, mac_at, ip4_at}
use Rattle.pkt_view.specs.Frame.{UpperParts, Arp, V4, V6, is_arp, is_ipv4, is_ipv6, header_len, upper_parts}
use Rattle.pkt_view.specs.Replies.{arp_packet}
use Rattle.pkt_view.specs.Layouts.{IsArp, IsHeader, IsHeader6, IsUpper}

-- what holds of any six bytes, one by one, holds of a list of six
pub by_six : (P : List ℕ → Type 0) → ((a b c d x y : ℕ) → P (a ∷ b ∷ c ∷ d ∷ x ∷ y ∷ [])) → (xs : List ℕ) → length xs ≡ 6 → P xs
by_six P f [] e = absurd (omega (arith, e))
by_six P f (a ∷ []) e = absurd (omega (arith, e))
by_six P f (a ∷ b ∷ []) e = absurd (omega (arith, e))
by_six P f (a ∷ b ∷ c ∷ []) e = absurd (omega (arith, e))
by_six P f (a ∷ b ∷ c ∷ d ∷ []) e = absurd (omega (arith, e))
by_six P f (a ∷ b ∷ c ∷ d ∷ x ∷ []) e = absurd (omega (arith, e))
by_six P f (a ∷ b ∷ c ∷ d ∷ x ∷ y ∷ []) e = f a b c d x y
by_six P f (a ∷ b ∷ c ∷ d ∷ x ∷ y ∷ z ∷ more) e = absurd (omega (arith, e))

-- ---- ARP

arp_of_bytes : (op a b c d e f spa g h i j k l tpa : ℕ) (padding : List ℕ) → op < 2 ^ 16 → spa < 2 ^ 32 → tpa < 2 ^ 32 → upper_parts 0x0806 (arp_packet op (record { 0 = a ∷ b ∷ c ∷ d ∷ e ∷ f ∷ [] }) (record { 0 = spa }) (record { 0 = g ∷ h ∷ i ∷ j ∷ k ∷ l ∷ [] }) (record { 0 = tpa }) ++ padding) ≡ Arp op (record { 0 = a ∷ b ∷ c ∷ d ∷ e ∷ f ∷ [] }) (record { 0 = spa }) (record { 0 = g ∷ h ∷ i ∷ j ∷ k ∷ l ∷ [] }) (record { 0 = tpa })
unfolding upper_parts number number_at
arp_of_bytes op a b c d e f spa g h i j k l tpa padding fits spa_fits tpa_fits =
    let sha : Mac = record { 0 = a ∷ b ∷ c ∷ d ∷ e ∷ f ∷ [] } in
    let tha : Mac = record { 0 = g ∷ h ∷ i ∷ j ∷ k ∷ l ∷ [] } in
    let payload = arp_packet op sha (record { 0 = spa }) tha (record { 0 = tpa }) ++ padding in
    let there : nat_le 28 (length payload) ≡ true = le-leb 28 (length payload) (omega arith) in
    let shown : is_arp 0x0806 payload ≡ true = and_both _ _ (and_both _ _ (and_both _ _ (and_both _ _ there refl) refl) refl) refl in
    let op_back : number_at 2 6 payload ≡ op = big_number-reads_back 2 op (drop 8 payload) fits in
    let spa_back : number_at 4 14 payload ≡ spa = big_number-reads_back 4 spa (drop 18 payload) spa_fits in
    let tpa_back : number_at 4 24 payload ≡ tpa = big_number-reads_back 4 tpa padding tpa_fits in
    if_true _ _ _ shown ∙ (λ x. Arp (op_back x) sha (record { 0 = spa_back x }) tha (record { 0 = tpa_back x }))

pub arp_of_packet : (op : ℕ) (sha : Mac) (spa : Ip4) (tha : Mac) (tpa : Ip4) (padding : List ℕ) → op < 2 ^ 16 → length sha.0 ≡ 6 → spa.0 < 2 ^ 32 → length tha.0 ≡ 6 → tpa.0 < 2 ^ 32 → upper_parts 0x0806 (arp_packet op sha spa tha tpa ++ padding) ≡ Arp op sha spa tha tpa
arp_of_packet op sha spa tha tpa padding fits sha_len spa_fits tha_len tpa_fits =
    let P : List ℕ → List ℕ → Type 0 = λ s t. upper_parts 0x0806 (arp_packet op (record { 0 = s }) spa (record { 0 = t }) tpa ++ padding) ≡ Arp op (record { 0 = s }) spa (record { 0 = t }) tpa in
    by_six (λ s. P s tha.0) (λ a b c d e f. by_six (λ t. P (a ∷ b ∷ c ∷ d ∷ e ∷ f ∷ []) t) (λ g h i j k l. arp_of_bytes op a b c d e f spa.0 g h i j k l tpa.0 padding fits spa_fits tpa_fits) tha.0 tha_len) sha.0 sha_len

pub arp_is_read : (payload : List ℕ) (op : ℕ) (sha : Mac) (spa : Ip4) (tha : Mac) (tpa : Ip4) → IsArp payload op sha spa tha tpa → upper_parts 0x0806 payload ≡ Arp op sha spa tha tpa
arp_is_read payload op sha spa tha tpa a =
    ap (upper_parts 0x0806) a.row ∙ arp_of_packet op sha spa tha tpa a.padding a.operation a.sender.0.count a.sender.1 a.target.0.count a.target.1

pub byte_here : (bytes : List ℕ) → All (λ b. b < 256) bytes → (i : ℕ) → get_or bytes i 0 < 256
byte_here [] all i = omega arith
byte_here (b ∷ bytes) all zero = all 0 0 (omega arith)
byte_here (b ∷ bytes) all (suc i) = byte_here bytes (λ k d below. all (suc k) d (omega (arith, below))) i

arp_row : (payload : List ℕ) → 28 ≤ length payload → All (λ b. b < 256) payload → number_at 2 0 payload ≡ 1 → number_at 2 2 payload ≡ 0x0800 → slice_index payload 4 ≡ 6 → slice_index payload 5 ≡ 4 → payload ≡ arp_packet (number_at 2 6 payload) (mac_at 8 payload) (ip4_at 14 payload) (mac_at 18 payload) (ip4_at 24 payload) ++ drop 28 payload
arp_row payload there all hardware protocol hardware_len protocol_len =
    let one = number 2 1 in
    let two = one ++ number 2 0x0800 in
    let three = two ++ (6 ∷ 4 ∷ []) in
    let op = three ++ number 2 (number_at 2 6 payload) in
    let sha = op ++ take 6 (drop 8 payload) in
    let spa = sha ++ number 4 (number_at 4 14 payload) in
    let tha = spa ++ take 6 (drop 18 payload) in
    let in_front : (at : ℕ) (v : ℕ) → at + 2 ≤ length payload → number_at 2 at payload ≡ v → number 2 v ≡ take 2 (drop at payload) = λ at v h e. ap (number 2) (sym e) ∙ number_back at payload h all in
    sym (joined tha (number 4 (number_at 4 24 payload)) 4 24 28 payload refl (number_back_4 24 payload (omega (arith, there)) all)
    ∙ joined spa (take 6 (drop 18 payload)) 6 18 24 payload refl refl
    ∙ joined sha (number 4 (number_at 4 14 payload)) 4 14 18 payload refl (number_back_4 14 payload (omega (arith, there)) all)
    ∙ joined op (take 6 (drop 8 payload)) 6 8 14 payload refl refl
    ∙ joined three (number 2 (number_at 2 6 payload)) 2 6 8 payload refl (number_back 6 payload (omega (arith, there)) all)
    ∙ joined two (6 ∷ 4 ∷ []) 2 4 6 payload refl (two_bytes 4 payload 6 4 (omega (arith, there)) (sym hardware_len) (sym protocol_len))
    ∙ joined one (number 2 0x0800) 2 2 4 payload refl (in_front 2 0x0800 (omega (arith, there)) protocol)
    ∙ joined [] one 2 0 2 payload refl (in_front 0 1 (omega (arith, there)) hardware))

arp_there : (eth_type : ℕ) (payload : List ℕ) → All (λ b. b < 256) payload → is_arp eth_type payload ≡ true → (eth_type ≡ 0x0806) × IsArp payload (number_at 2 6 payload) (mac_at 8 payload) (ip4_at 14 payload) (mac_at 18 payload) (ip4_at 24 payload)
arp_there eth_type payload all shown =
    let bytes = byte_here payload all in
    let five = and_left _ _ shown in
    let four = and_left _ _ five in
    let three = and_left _ _ four in
    let two = and_left _ _ three in
    let there : 28 ≤ length payload = leb-true 28 (length payload) (and_right _ _ two) in (
      eqb-true eth_type 0x0806 (and_left _ _ two),
      record {
        operation = fits_2 6 payload bytes;
        sender = (six 8 payload (omega (arith, there)) bytes, fits_4 14 payload bytes);
        target = (six 18 payload (omega (arith, there)) bytes, fits_4 24 payload bytes);
        padding = drop 28 payload;
        row = arp_row payload there all (eqb-true _ 1 (and_right _ _ three)) (eqb-true _ 0x0800 (and_right _ _ four)) (eqb-true _ 6 (and_right _ _ five)) (eqb-true _ 4 (and_right _ _ shown));
      },
    )

-- ---- IPv4

first_back : (payload : List ℕ) (len words : ℕ) → len ≡ 4 * words → words ≡ slice_index payload 0 % 16 → slice_index payload 0 / 16 ≡ 4 → 5 ≤ words → 1 ≤ length payload → (more : List ℕ) × (take len payload ≡ (4 * 16 + words) ∷ more)
first_back [] len words e f g h there = absurd (omega (arith, there))
first_back (b ∷ more) zero words e f g h there = absurd (omega (arith, e, h))
first_back (b ∷ more) (suc n) words e f g h there =
    let byte : b ≡ 4 * 16 + words = omega (arith, f, g) in
    (take n more, λ i. byte i ∷ take n more)

header_there : (payload : List ℕ) → slice_index payload 0 / 16 ≡ 4 → 20 ≤ header_len payload → header_len payload ≤ length payload → IsHeader (take (header_len payload) payload)
header_there payload version least within =
    let words = slice_index payload 0 % 16 in
    let begin = first_back payload (header_len payload) words refl refl version (omega (arith, least)) (omega (arith, least, within)) in
    record {
      words = words;
      more = begin.0;
      first = begin.1;
      long = length-take-le (header_len payload) payload within;
      least = omega (arith, least);
      most = omega arith;
    }

ipv4_there : (eth_type : ℕ) (payload : List ℕ) → is_ipv4 eth_type payload ≡ true → (eth_type ≡ 0x0800) × IsHeader (take (header_len payload) payload) × (payload ≡ take (header_len payload) payload ++ drop (header_len payload) payload)
ipv4_there eth_type payload shown =
    let four = and_left _ _ shown in
    let three = and_left _ _ four in
    let two = and_left _ _ three in
    (eqb-true eth_type 0x0800 (and_left _ _ two), header_there payload (eqb-true _ 4 (and_right _ _ three)) (leb-true 20 (header_len payload) (and_right _ _ four)) (leb-true (header_len payload) (length payload) (and_right _ _ shown)), sym (take-append-drop (header_len payload) payload))

ipv4_of_bytes : (words : ℕ) (more body : List ℕ) → suc (length more) ≡ 4 * words → 5 ≤ words → words ≤ 15 → upper_parts 0x0800 (((4 * 16 + words) ∷ more) ++ body) ≡ V4 ((4 * 16 + words) ∷ more) body
unfolding upper_parts
ipv4_of_bytes words more body long least most =
    let header = (4 * 16 + words) ∷ more in
    let payload = header ++ body in
    let len : header_len payload ≡ length header = omega (arith, long, most) in
    let whole : length payload ≡ length header + length body = length-append header body in
    let shown : is_ipv4 0x0800 payload ≡ true = and_both _ _ (and_both _ _ (and_both _ _ (le-leb 20 (length payload) (omega (arith, whole, long, least))) (eq-eqb _ 4 (omega (arith, most)))) (le-leb 20 (header_len payload) (omega (arith, len, long, least)))) (le-leb (header_len payload) (length payload) (omega (arith, len, whole))) in
    if_true _ _ _ shown ∙ ap (λ (n : ℕ). V4 (take n payload) (drop n payload)) len ∙ (λ i. V4 (take-append_seam header body i) (drop-append_seam header body i))

pub ipv4_is_read : (header body : List ℕ) → IsHeader header → upper_parts 0x0800 (header ++ body) ≡ V4 header body
ipv4_is_read header body h =
    let P : List ℕ → Type 0 = λ l. upper_parts 0x0800 (l ++ body) ≡ V4 l body in
    subst P (sym h.first) (ipv4_of_bytes h.words h.more body (sym (ap length h.first) ∙ h.long) h.least h.most)

-- ---- IPv6

header6_there : (payload : List ℕ) → 40 ≤ length payload → slice_index payload 0 / 16 ≡ 6 → IsHeader6 (take 40 payload)
header6_there [] long version = absurd (omega (arith, long))
header6_there (b ∷ more) long version =
    let byte : b ≡ 6 * 16 + b % 16 = omega (arith, version) in
    record { class = b % 16; more = take 39 more; first = λ i. byte i ∷ take 39 more; fits = omega arith; long = length-take-le 40 (b ∷ more) long }

ipv6_there : (eth_type : ℕ) (payload : List ℕ) → is_ipv6 eth_type payload ≡ true → (eth_type ≡ 0x86dd) × IsHeader6 (take 40 payload) × (payload ≡ take 40 payload ++ drop 40 payload)
ipv6_there eth_type payload shown =
    let two = and_left _ _ shown in
    (eqb-true eth_type 0x86dd (and_left _ _ two), header6_there payload (leb-true 40 (length payload) (and_right _ _ two)) (eqb-true _ 6 (and_right _ _ shown)), sym (take-append-drop 40 payload))

ipv6_of_bytes : (class : ℕ) (more body : List ℕ) → suc (length more) ≡ 40 → class < 16 → upper_parts 0x86dd (((6 * 16 + class) ∷ more) ++ body) ≡ V6 ((6 * 16 + class) ∷ more) body
unfolding upper_parts
ipv6_of_bytes class more body long fits =
    let header = (6 * 16 + class) ∷ more in
    let payload = header ++ body in
    let len : 40 ≡ length header = omega (arith, long) in
    let whole : length payload ≡ length header + length body = length-append header body in
    let shown : is_ipv6 0x86dd payload ≡ true = and_both _ _ (le-leb 40 (length payload) (omega (arith, whole, len))) (eq-eqb _ 6 (omega (arith, fits))) in
    if_true _ _ _ shown ∙ ap (λ (n : ℕ). V6 (take n payload) (drop n payload)) len ∙ (λ i. V6 (take-append_seam header body i) (drop-append_seam header body i))

pub ipv6_is_read : (header body : List ℕ) → IsHeader6 header → upper_parts 0x86dd (header ++ body) ≡ V6 header body
ipv6_is_read header body h =
    let P : List ℕ → Type 0 = λ l. upper_parts 0x86dd (l ++ body) ≡ V6 l body in
    subst P (sym h.first) (ipv6_of_bytes h.class h.more body (sym (ap length h.first) ∙ h.long) h.fits)

-- ---- either

pub upper_stands_there : (eth_type : ℕ) (payload : List ℕ) → All (λ b. b < 256) payload → IsUpper eth_type payload (upper_parts eth_type payload)
unfolding upper_parts
upper_stands_there eth_type payload all =
    let P : UpperParts → Type 0 = IsUpper eth_type payload in
    by_if P (is_arp eth_type payload) _ _ (arp_there eth_type payload all) (λ _. by_if P (is_ipv4 eth_type payload) _ _ (ipv4_there eth_type payload) (λ _. by_if P (is_ipv6 eth_type payload) _ _ (ipv6_there eth_type payload) (λ _. tt)))

-- a packet that is one of IPv6, and none before it, is read as one
pub ipv6_parts : (eth_type : ℕ) (payload : List ℕ) → is_arp eth_type payload ≡ false → is_ipv4 eth_type payload ≡ false → is_ipv6 eth_type payload ≡ true → V6 (take 40 payload) (drop 40 payload) ≡ upper_parts eth_type payload
unfolding upper_parts
ipv6_parts eth_type payload arp ipv4 ipv6 = sym (if_false _ _ _ arp ∙ if_false _ _ _ ipv4 ∙ if_true _ _ _ ipv6)
