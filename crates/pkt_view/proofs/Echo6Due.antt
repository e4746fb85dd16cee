-- When an answer to an echo request of ICMPv6 is due, and which one.
use Rattle.std.proofs.Common.{◌≡◌, ℕ, ◌+◌, ◌*◌, ◌/◌, ◌%◌, ◌^◌, ◌<◌, ◌≤◌, ◌↔◌, true, false, not, List, [], ◌∷◌, ◌++◌, length, take, drop, get_or, slice_index, refl, sym, ap, subst, ◌∙◌, arith, length-append, length-drop, append_assoc, Some}
use Rattle.std.specs.Prelude.{All, IsSome}
use Rattle.std.proofs.lemmas.Bool.{eqb-true, leb-true, le-leb, eq-eqb}
use Rattle.std.proofs.lemmas.List.{take-append-drop, length-take-le, take_all}
use Rattle.std.proofs.lemmas.List.Elements.{All-take, All-drop}
use Rattle.std.proofs.Math.Seq.{take-append_seam, drop-append_seam}
use Rattle.byteorder.specs.Numbers.{big_number-reads_back}
use Rattle.net_base.specs.declared.address.Mac.{Mac}
use Rattle.net_base.specs.Address.{is_group}
use Rattle.pkt_view.proofs.Choice.{and_left, and_right, and_both, if_true}
use Rattle.pkt_view.proofs.EchoDue.{due_of, answered_is_some, sum_fits}
use Rattle.pkt_view.proofs.EchoLaws.{take_front, drop_front}
use Rattle.pkt_view.proofs.MadeFrames.{message_right}
use Rattle.pkt_view.proofs.Shapes.{fits_2}
use Rattle.pkt_view.proofs.Spelled.{not_true, number_back, number_back_4, two_bytes, joined}
use Rattle.pkt_view.proofs.UpperLaws.{byte_here, upper_stands_there, ipv6_is_read}
use Rattle.pkt_view.specs.Numbers.{number_at, number}
use Rattle.pkt_view.specs.Frame.{UpperParts, Unknown, Arp, V4, V6, upper_parts}
use Rattle.pkt_view.specs.Replies.{untagged, longest, header6, checksum6, message6, frame6, payload_len, source6, destination6, carries_icmp6, message_in, is_echo6_request, is_echo6_due, echo6_frame, echo_upper}
use Rattle.pkt_view.specs.Layouts.{IsHeader6, IsUpper, Echo6, header6_of, message6_of, IsEcho6, IsEcho6Request, Answers6}

-- ---- only to an echo request

-- the fields that stand in a header and in the message behind it
abbrev fields6_of : List ℕ → List ℕ → Echo6
fields6_of header message =
    record { first = number_at 4 0 header; hops = get_or header 7 0; source = source6 header; destination = destination6 header; message_sum = number_at 2 2 message; identifier = number_at 2 4 message; sequence = number_at 2 6 message; sent = drop 8 message }

header6_row : (header message : List ℕ) → length header ≡ 40 → All (λ b. b < 256) header → 8 ≤ length message → number_at 2 4 header ≡ length message → get_or header 6 0 ≡ 58 → header ≡ header6_of (fields6_of header message)
header6_row header message long all least total protocol =
    let e = fields6_of header message in
    let len_back : 8 + length (drop 8 message) ≡ number_at 2 4 header = omega (arith, total, least, length-drop 8 message) in
    let last : take 16 (drop 24 header) ≡ drop 24 header = take_all 16 (drop 24 header) (omega (arith, long, length-drop 24 header)) in
    let one : List ℕ = number 4 e.first in
    let two : List ℕ = one ++ number 2 (8 + length e.sent) in
    let three : List ℕ = two ++ (58 ∷ e.hops ∷ []) in
    let four : List ℕ = three ++ e.source in
    sym (ap (λ (l : List ℕ). four ++ l) last
    ∙ joined three e.source 16 8 24 header refl refl
    ∙ joined two (58 ∷ e.hops ∷ []) 2 6 8 header refl (two_bytes 6 header 58 e.hops (omega (arith, long)) (sym protocol) refl)
    ∙ joined one (number 2 (8 + length e.sent)) 2 4 6 header refl (ap (number 2) len_back ∙ number_back 4 header (omega (arith, long)) all)
    ∙ joined [] one 4 0 4 header refl (number_back_4 0 header (omega (arith, long)) all))

message6_row : (header message : List ℕ) → All (λ b. b < 256) message → 8 ≤ length message → get_or message 0 0 ≡ 128 → get_or message 1 0 ≡ 0 → message ≡ message6_of 128 (fields6_of header message)
message6_row header message all long kind code =
    let e = fields6_of header message in
    let one : List ℕ = 128 ∷ 0 ∷ [] in
    let two : List ℕ = one ++ number 2 e.message_sum in
    let three : List ℕ = two ++ number 2 e.identifier in
    sym (joined three (number 2 e.sequence) 2 6 8 message refl (number_back 6 message (omega (arith, long)) all)
    ∙ joined two (number 2 e.identifier) 2 4 6 message refl (number_back 4 message (omega (arith, long)) all)
    ∙ joined one (number 2 e.message_sum) 2 2 4 message refl (number_back 2 message (omega (arith, long)) all)
    ∙ joined [] one 2 0 2 message refl (two_bytes 0 message 128 0 (omega (arith, long)) (sym kind) (sym code)))

version_there : (header : List ℕ) → 4 ≤ length header → (class : ℕ) → get_or header 0 0 ≡ 6 * 16 + class → class < 16 → get_or header 1 0 < 256 → get_or header 2 0 < 256 → get_or header 3 0 < 256 → number_at 4 0 header / 2 ^ 28 ≡ 6
unfolding number_at
version_there [] h class first fits p q r = absurd (omega (arith, h))
version_there (a ∷ []) h class first fits p q r = absurd (omega (arith, h))
version_there (a ∷ b ∷ []) h class first fits p q r = absurd (omega (arith, h))
version_there (a ∷ b ∷ c ∷ []) h class first fits p q r = absurd (omega (arith, h))
version_there (a ∷ b ∷ c ∷ d ∷ more) h class first fits p q r =
    let v = a * 16777216 + (b * 65536 + (c * 256 + (d * 1 + 0))) in
    let version : v / 268435456 ≡ 6 = omega (arith, first, fits, p, q, r) in
    version

fields6_fit : (header message : List ℕ) → IsHeader6 header → All (λ b. b < 256) header → All (λ b. b < 256) message → 8 ≤ length message → length message ≤ 65400 → checksum6 (source6 header) (destination6 header) message ≡ 0 → message ≡ message6_of 128 (fields6_of header message) → IsEcho6 128 (fields6_of header message)
fields6_fit header message h all all_message least most sum back =
    let bytes = byte_here header all in
    let message_bytes = byte_here message all_message in
    record {
      version = version_there header (omega (arith, h.long)) h.class (ap (λ (l : List ℕ). get_or l 0 0) h.first) h.fits (bytes 1) (bytes 2) (bytes 3);
      hops = bytes 7;
      source = length-take-le 16 (drop 8 header) (omega (arith, h.long, length-drop 8 header));
      destination = length-take-le 16 (drop 24 header) (omega (arith, h.long, length-drop 24 header));
      message_sum = fits_2 2 message message_bytes;
      identifier = fits_2 4 message message_bytes;
      sequence = fits_2 6 message message_bytes;
      longest = omega (arith, least, most, length-drop 8 message);
      right = ap (checksum6 (source6 header) (destination6 header)) (sym back) ∙ sum;
    }

request6_of : (header body : List ℕ) → IsHeader6 header → All (λ b. b < 256) header → All (λ b. b < 256) body → slice_index header 6 ≡ 58 → 8 ≤ payload_len header → payload_len header ≤ length body → payload_len header ≤ 65400 → slice_index (message_in header body) 0 ≡ 128 → slice_index (message_in header body) 1 ≡ 0 → checksum6 (source6 header) (destination6 header) (message_in header body) ≡ 0 → (e : Echo6) × (padding : List ℕ) × IsEcho6 128 e × (header ≡ header6_of e) × (body ≡ message6_of 128 e ++ padding)
request6_of header body h all all_body protocol least within most kind code sum =
    let len = payload_len header in
    let message = message_in header body in
    let message_len : length message ≡ len = length-take-le len body within in
    let long : 8 ≤ length message = omega (arith, message_len, least) in
    let all_message : All (λ b. b < 256) message = All-take (λ b. b < 256) len body all_body in
    let header_back = header6_row header message h.long all long (sym message_len) protocol in
    let message_back = message6_row header message all_message long kind code in
    let fit = fields6_fit header message h all all_message long (omega (arith, message_len, most)) sum message_back in
    (fields6_of header message, drop len body, fit, header_back, sym (take-append-drop len body) ∙ ap (λ (l : List ℕ). l ++ drop len body) message_back)

request6_there : (from : Mac) (header body : List ℕ) → IsHeader6 header → All (λ b. b < 256) header → All (λ b. b < 256) body → is_echo6_due from header body ≡ true → (is_group from ≡ false) × ((e : Echo6) × (padding : List ℕ) × IsEcho6 128 e × (header ≡ header6_of e) × (body ≡ message6_of 128 e ++ padding))
unfolding carries_icmp6 is_echo6_request
request6_there from header body h all all_body due =
    let front = and_left _ _ due in
    let five = and_right _ _ front in
    let four = and_left _ _ five in
    let three = and_left _ _ four in
    let two = and_left _ _ three in
    let asked = and_right _ _ due in
    let kinds = and_left _ _ asked in
    (not_true (is_group from) (and_left _ _ front), request6_of header body h all all_body (eqb-true _ 58 (and_right _ _ two)) (leb-true _ _ (and_right _ _ three)) (leb-true _ _ (and_right _ _ four)) (leb-true _ _ (and_right _ _ five)) (eqb-true _ 128 (and_left _ _ kinds)) (eqb-true _ 0 (and_right _ _ kinds)) (eqb-true _ 0 (and_right _ _ asked)))

only6_to : (src from : Mac) (payload : List ℕ) (u : UpperParts) → All (λ b. b < 256) payload → IsUpper 0x86dd payload u → IsSome (echo_upper src from u) → (is_group from ≡ false) × IsEcho6Request payload
only6_to src from payload Unknown all there some = absurd (cc some)
only6_to src from payload (Arp op sha spa tha tpa) all there some = absurd (cc some)
only6_to src from payload (V4 header body) all there some = absurd (omega (arith, there.0))
only6_to src from payload (V6 header body) all there some =
    let row : payload ≡ header ++ body = there.2 in
    let whole : All (λ b. b < 256) (header ++ body) = subst (All (λ b. b < 256)) row all in
    let front : All (λ b. b < 256) header = subst (All (λ b. b < 256)) (take-append_seam header body) (All-take (λ b. b < 256) (length header) (header ++ body) whole) in
    let rest : All (λ b. b < 256) body = subst (All (λ b. b < 256)) (drop-append_seam header body) (All-drop (λ b. b < 256) (length header) (header ++ body) whole) in
    let found = request6_there from header body there.1 front rest (due_of _ _ some) in
    let e : Echo6 = found.1.0 in
    let padding : List ℕ = found.1.1 in
    (found.0, (e, padding, found.1.2, row ∙ (λ i. found.1.3 i ++ found.1.4 i) ∙ sym (append_assoc (header6_of e) (message6_of 128 e) padding)))

-- ---- to each echo request

header6_len : (kind : ℕ) (e : Echo6) → IsEcho6 kind e → length (header6_of e) ≡ 40
unfolding number
header6_len kind e fit = omega (arith, length-append e.source e.destination, fit.source, fit.destination)

header6_begins : (kind : ℕ) (e : Echo6) → IsEcho6 kind e → IsHeader6 (header6_of e)
unfolding number
header6_begins kind e fit =
    let byte : e.first / 16777216 % 256 ≡ 6 * 16 + e.first / 16777216 % 16 = omega (arith, fit.version) in
    record {
      class = e.first / 16777216 % 16;
      more = drop 1 (header6_of e);
      first = λ i. byte i ∷ drop 1 (header6_of e);
      fits = omega arith;
      long = header6_len kind e fit;
    }

message6_len : (kind : ℕ) (e : Echo6) → length (message6_of kind e) ≡ 8 + length e.sent
unfolding number
message6_len kind e = omega arith

payload_there : (kind : ℕ) (e : Echo6) → IsEcho6 kind e → payload_len (header6_of e) ≡ 8 + length e.sent
unfolding number_at number
payload_there kind e fit = big_number-reads_back 2 (8 + length e.sent) (drop 6 (header6_of e)) (omega (arith, fit.longest))

next_there : (e : Echo6) → slice_index (header6_of e) 6 ≡ 58
unfolding number
next_there e = refl

source_there : (kind : ℕ) (e : Echo6) → IsEcho6 kind e → source6 (header6_of e) ≡ e.source
unfolding number
source_there kind e fit = take_front 16 e.source e.destination fit.source

destination_there : (kind : ℕ) (e : Echo6) → IsEcho6 kind e → destination6 (header6_of e) ≡ e.destination
unfolding number
destination_there kind e fit =
    ap (take 16) (drop_front 16 e.source e.destination fit.source) ∙ take_all 16 e.destination (omega (arith, fit.destination))

carried6_there : (e : Echo6) (padding : List ℕ) → IsEcho6 128 e → carries_icmp6 (header6_of e) (message6_of 128 e ++ padding) ≡ true
unfolding carries_icmp6
carried6_there e padding fit =
    let header = header6_of e in
    let body = message6_of 128 e ++ padding in
    let total = payload_there 128 e fit in
    let body_len = length-append (message6_of 128 e) padding in
    let one = eq-eqb (length header) 40 (header6_len 128 e fit) in
    let two = eq-eqb (slice_index header 6) 58 (next_there e) in
    let three = le-leb 8 (payload_len header) (omega (arith, total)) in
    let four = le-leb (payload_len header) (length body) (omega (arith, total, body_len, message6_len 128 e)) in
    let five = le-leb (payload_len header) longest (omega (arith, total, fit.longest)) in
    and_both _ _ (and_both _ _ (and_both _ _ (and_both _ _ one two) three) four) five

message_there : (e : Echo6) (padding : List ℕ) → IsEcho6 128 e → message_in (header6_of e) (message6_of 128 e ++ padding) ≡ message6_of 128 e
message_there e padding fit =
    let len : payload_len (header6_of e) ≡ length (message6_of 128 e) = omega (arith, payload_there 128 e fit, message6_len 128 e) in
    ap (λ (n : ℕ). take n (message6_of 128 e ++ padding)) len ∙ take-append_seam (message6_of 128 e) padding

asked6_there : (e : Echo6) → IsEcho6 128 e → is_echo6_request (header6_of e) (message6_of 128 e) ≡ true
unfolding is_echo6_request
asked6_there e fit =
    let ends : checksum6 (source6 (header6_of e)) (destination6 (header6_of e)) (message6_of 128 e) ≡ checksum6 e.source e.destination (message6_of 128 e) =
    λ i. checksum6 (source_there 128 e fit i) (destination_there 128 e fit i) (message6_of 128 e) in
    and_both _ _ refl (eq-eqb _ 0 (ends ∙ fit.right))

due6_there : (from : Mac) (e : Echo6) (padding : List ℕ) → is_group from ≡ false → IsEcho6 128 e → is_echo6_due from (header6_of e) (message6_of 128 e ++ padding) ≡ true
due6_there from e padding one fit =
    and_both _ _ (and_both _ _ (ap not one) (carried6_there e padding fit)) (ap (is_echo6_request (header6_of e)) (message_there e padding fit) ∙ asked6_there e fit)

-- ---- the answer

answer6_sum : Echo6 → ℕ
answer6_sum e = checksum6 e.destination e.source ((129 ∷ 0 ∷ []) ++ number 2 0 ++ drop 4 (message6_of 128 e))

-- the fields of the answer
abbrev answer6_of : Echo6 → Echo6
answer6_of e =
    record { first = 6 * 2 ^ 28; hops = 64; source = e.destination; destination = e.source; message_sum = answer6_sum e; identifier = e.identifier; sequence = e.sequence; sent = e.sent }

behind_len : (e : Echo6) → 4 + length (drop 4 (message6_of 128 e)) ≡ 8 + length e.sent
unfolding number
behind_len e = omega arith

answer6_header : (e : Echo6) (n : ℕ) → n ≡ 8 + length e.sent → header6 n 64 e.destination e.source ≡ header6_of (answer6_of e)
unfolding number
answer6_header e n len = ap (λ (k : ℕ). header6 k 64 e.destination e.source) len

answer6_message : (e : Echo6) → message6 e.destination e.source 129 (drop 4 (message6_of 128 e)) ≡ message6_of 129 (answer6_of e)
unfolding message6 number answer6_sum
answer6_message e = refl

answer6_sum_fits : (e : Echo6) → answer6_sum e < 2 ^ 16
unfolding answer6_sum checksum6
answer6_sum_fits e = sum_fits _

answer6_fits : (e : Echo6) → IsEcho6 128 e → IsEcho6 129 (answer6_of e)
answer6_fits e fit =
    record {
      version = omega arith;
      hops = omega arith;
      source = fit.destination;
      destination = fit.source;
      message_sum = answer6_sum_fits e;
      identifier = fit.identifier;
      sequence = fit.sequence;
      longest = fit.longest;
      right = ap (checksum6 e.destination e.source) (sym (answer6_message e)) ∙ message_right e.destination e.source 129 (drop 4 (message6_of 128 e)) fit.destination fit.source;
    }

answered6 : (src from : Mac) (e : Echo6) (padding : List ℕ) → is_group from ≡ false → IsEcho6 128 e → echo_upper src from (upper_parts 0x86dd (header6_of e ++ message6_of 128 e ++ padding)) ≡ Some (untagged from src 0x86dd (header6_of (answer6_of e) ++ message6_of 129 (answer6_of e)))
answered6 src from e padding one fit =
    let header = header6_of e in
    let body = message6_of 128 e ++ padding in
    let row : header ++ message6_of 128 e ++ padding ≡ header ++ body = append_assoc header (message6_of 128 e) padding in
    let read : upper_parts 0x86dd (header ++ message6_of 128 e ++ padding) ≡ V6 header body = ap (upper_parts 0x86dd) row ∙ ipv6_is_read header body (header6_begins 128 e fit) in
    let message = message_there e padding fit in
    let source = source_there 128 e fit in
    let destination = destination_there 128 e fit in
    let start = answer6_header e (4 + length (drop 4 (message6_of 128 e))) (behind_len e) in
    let frame : echo6_frame src from header (message_in header body) ≡ untagged from src 0x86dd (header6_of (answer6_of e) ++ message6_of 129 (answer6_of e)) =
    (λ i. frame6 from src 64 (destination i) (source i) 129 (drop 4 (message i))) ∙ (λ i. untagged from src 0x86dd (start i ++ answer6_message e i)) in
    ap (echo_upper src from) read ∙ if_true _ _ _ (due6_there from e padding one fit) ∙ ap (λ (f : List ℕ). Some f) frame

pub request6_is_answered : (src from : Mac) (e : Echo6) (padding : List ℕ) → is_group from ≡ false → IsEcho6 128 e → (a : Echo6) × IsEcho6 129 a × Answers6 e a × (echo_upper src from (upper_parts 0x86dd (header6_of e ++ message6_of 128 e ++ padding)) ≡ Some (untagged from src 0x86dd (header6_of a ++ message6_of 129 a)))
request6_is_answered src from e padding one fit =
    (answer6_of e, answer6_fits e fit, record { first = refl; hops = refl; source = refl; destination = refl; identifier = refl; sequence = refl; sent = refl }, answered6 src from e padding one fit)

-- ---- both ways

pub due_to_requests6 : (src from : Mac) (payload : List ℕ) → All (λ b. b < 256) payload → IsSome (echo_upper src from (upper_parts 0x86dd payload)) ↔ ((is_group from ≡ false) × IsEcho6Request payload)
due_to_requests6 src from payload all = (
  only6_to src from payload (upper_parts 0x86dd payload) all (upper_stands_there 0x86dd payload all),
  λ asked. let r = asked.1 in answered_is_some _ _ (ap (λ (p : List ℕ). echo_upper src from (upper_parts 0x86dd p)) r.3 ∙ answered6 src from r.0 r.1 asked.0 r.2),
)
