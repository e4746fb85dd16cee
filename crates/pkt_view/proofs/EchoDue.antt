-- When an answer to an echo request is due, and which one.
use Rattle.std.proofs.Common.{◌≡◌, ℕ, ◌+◌, ◌*◌, ◌-◌, ◌/◌, ◌%◌, ◌^◌, ◌<◌, ◌≤◌, ◌↔◌, Bool, true, false, cond, not, List, [], ◌∷◌, ◌++◌, length, take, drop, get_or, slice_index, refl, sym, ap, subst, ◌∙◌, arith, length-append, length-drop, append_assoc, Option, Some, None}
use Rattle.std.specs.Prelude.{All, IsSome}
use Rattle.std.proofs.lemmas.Bool.{eqb-true, leb-true, le-leb, eq-eqb}
use Rattle.std.proofs.lemmas.List.{take-append-drop, length-take-le}
use Rattle.std.proofs.lemmas.List.Elements.{All-take, All-drop}
use Rattle.std.proofs.Math.Seq.{take-append_seam, drop-append_seam}
use Rattle.byteorder.specs.Numbers.{big_number-reads_back}
use Rattle.net_base.specs.declared.address.Mac.{Mac}
use Rattle.net_base.specs.Address.{is_group}
use Rattle.pkt_view.proofs.Choice.{and_left, and_right, and_both, if_true}
use Rattle.pkt_view.proofs.EchoLaws.{header_right, icmp_right}
use Rattle.pkt_view.proofs.Shapes.{fits_2, fits_4}
use Rattle.pkt_view.proofs.Spelled.{not_true, number_back, number_back_4, two_bytes, joined}
use Rattle.pkt_view.proofs.UpperLaws.{byte_here, upper_stands_there, ipv4_is_read}
use Rattle.pkt_view.specs.Numbers.{number_at, number}
use Rattle.pkt_view.specs.Checksum.{internet_checksum}
use Rattle.pkt_view.specs.Frame.{UpperParts, Unknown, Arp, V4, V6, upper_parts}
use Rattle.pkt_view.specs.Replies.{untagged, total_len, longest, carries_icmp, icmp_of, is_echo_request, with_checksum, reply_start, exchanged, reply_header, reply_icmp, is_echo_due, echo_upper}
use Rattle.pkt_view.specs.Layouts.{IsHeader, IsUpper, Echo, whole_len, header_of, message_of, IsEcho, IsEchoRequest, Answers}

-- ---- only to an echo request

-- the fields that stand in a header and in the message behind it
abbrev fields_of : List ℕ → List ℕ → Echo
fields_of header icmp =
    record { service = get_or header 1 0; identification = number_at 2 4 header; flags = number_at 2 6 header / 2 ^ 14; lifetime = get_or header 8 0; header_sum = number_at 2 10 header; source = number_at 4 12 header; destination = number_at 4 16 header; options = drop 20 header; message_sum = number_at 2 2 icmp; identifier = number_at 2 4 icmp; sequence = number_at 2 6 icmp; sent = drop 8 icmp }

header_row : (header icmp : List ℕ) → IsHeader header → All (λ b. b < 256) header → 8 ≤ length icmp → number_at 2 2 header ≡ length header + length icmp → get_or header 9 0 ≡ 1 → number_at 2 6 header % 2 ^ 14 ≡ 0 → header ≡ header_of (fields_of header icmp)
header_row header icmp h all least total protocol whole =
    let e = fields_of header icmp in
    let long : 20 ≤ length header = omega (arith, h.long, h.least) in
    let behind_header = length-drop 20 header in
    let behind_message = length-drop 8 icmp in
    let first : 4 * 16 + (20 + length (drop 20 header)) / 4 ≡ get_or header 0 0 = omega (arith, ap (λ (l : List ℕ). get_or l 0 0) h.first, h.long, h.least, behind_header) in
    let total_back : whole_len e ≡ number_at 2 2 header = omega (arith, total, long, least, behind_header, behind_message) in
    let flags_back : number_at 2 6 header / 2 ^ 14 * 2 ^ 14 ≡ number_at 2 6 header = omega (arith, whole) in
    let one = (4 * 16 + (20 + length (drop 20 header)) / 4) ∷ get_or header 1 0 ∷ [] in
    let two = one ++ number 2 (whole_len e) in
    let three = two ++ number 2 e.identification in
    let four = three ++ number 2 (e.flags * 2 ^ 14) in
    let five = four ++ (e.lifetime ∷ 1 ∷ []) in
    let six = five ++ number 2 e.header_sum in
    let seven = six ++ number 4 e.source in
    sym (joined seven (number 4 e.destination) 4 16 20 header refl (number_back_4 16 header (omega (arith, long)) all)
    ∙ joined six (number 4 e.source) 4 12 16 header refl (number_back_4 12 header (omega (arith, long)) all)
    ∙ joined five (number 2 e.header_sum) 2 10 12 header refl (number_back 10 header (omega (arith, long)) all)
    ∙ joined four (e.lifetime ∷ 1 ∷ []) 2 8 10 header refl (two_bytes 8 header e.lifetime 1 (omega (arith, long)) refl (sym protocol))
    ∙ joined three (number 2 (e.flags * 2 ^ 14)) 2 6 8 header refl (ap (number 2) flags_back ∙ number_back 6 header (omega (arith, long)) all)
    ∙ joined two (number 2 e.identification) 2 4 6 header refl (number_back 4 header (omega (arith, long)) all)
    ∙ joined one (number 2 (whole_len e)) 2 2 4 header refl (ap (number 2) total_back ∙ number_back 2 header (omega (arith, long)) all)
    ∙ joined [] one 2 0 2 header refl (two_bytes 0 header _ _ (omega (arith, long)) first refl))

message_row : (header icmp : List ℕ) → All (λ b. b < 256) icmp → 8 ≤ length icmp → get_or icmp 0 0 ≡ 8 → get_or icmp 1 0 ≡ 0 → icmp ≡ message_of 8 (fields_of header icmp)
message_row header icmp all long kind code =
    let e = fields_of header icmp in
    let one : List ℕ = 8 ∷ 0 ∷ [] in
    let two : List ℕ = one ++ number 2 e.message_sum in
    let three : List ℕ = two ++ number 2 e.identifier in
    sym (joined three (number 2 e.sequence) 2 6 8 icmp refl (number_back 6 icmp (omega (arith, long)) all)
    ∙ joined two (number 2 e.identifier) 2 4 6 icmp refl (number_back 4 icmp (omega (arith, long)) all)
    ∙ joined one (number 2 e.message_sum) 2 2 4 icmp refl (number_back 2 icmp (omega (arith, long)) all)
    ∙ joined [] one 2 0 2 icmp refl (two_bytes 0 icmp 8 0 (omega (arith, long)) (sym kind) (sym code)))

fields_fit : (header icmp : List ℕ) → IsHeader header → All (λ b. b < 256) header → All (λ b. b < 256) icmp → 8 ≤ length icmp → number_at 2 2 header ≡ length header + length icmp → number_at 2 2 header ≤ 65400 → internet_checksum header ≡ 0 → internet_checksum icmp ≡ 0 → header ≡ header_of (fields_of header icmp) → icmp ≡ message_of 8 (fields_of header icmp) → IsEcho 8 (fields_of header icmp)
fields_fit header icmp h all all_icmp least total most header_sum icmp_sum header_back icmp_back =
    let bytes = byte_here header all in
    let icmp_bytes = byte_here icmp all_icmp in
    let behind_header = length-drop 20 header in
    let behind_message = length-drop 8 icmp in
    record {
      service = bytes 1;
      identification = fits_2 4 header bytes;
      flags = omega (arith, fits_2 6 header bytes);
      lifetime = bytes 8;
      header_sum = fits_2 10 header bytes;
      source = fits_4 12 header bytes;
      destination = fits_4 16 header bytes;
      options = (omega (arith, behind_header, h.long, h.least), omega (arith, behind_header, h.long, h.most));
      message_sum = fits_2 2 icmp icmp_bytes;
      identifier = fits_2 4 icmp icmp_bytes;
      sequence = fits_2 6 icmp icmp_bytes;
      longest = omega (arith, total, most, least, behind_header, behind_message, h.long, h.least);
      header_right = ap internet_checksum (sym header_back) ∙ header_sum;
      message_right = ap internet_checksum (sym icmp_back) ∙ icmp_sum;
    }

request_of : (header body : List ℕ) → IsHeader header → All (λ b. b < 256) header → All (λ b. b < 256) body → slice_index header 9 ≡ 1 → number_at 2 6 header % 2 ^ 14 ≡ 0 → length header + 8 ≤ total_len header → total_len header ≤ length header + length body → total_len header ≤ 65400 → internet_checksum header ≡ 0 → slice_index (icmp_of header body) 0 ≡ 8 → slice_index (icmp_of header body) 1 ≡ 0 → internet_checksum (icmp_of header body) ≡ 0 → (e : Echo) × (padding : List ℕ) × IsEcho 8 e × (header ≡ header_of e) × (body ≡ message_of 8 e ++ padding)
request_of header body h all all_body protocol whole least within most header_sum kind code icmp_sum =
    let len = total_len header - length header in
    let icmp = icmp_of header body in
    let icmp_len : length icmp ≡ len = length-take-le len body (omega (arith, within)) in
    let long : 8 ≤ length icmp = omega (arith, icmp_len, least) in
    let total : total_len header ≡ length header + length icmp = omega (arith, icmp_len, least) in
    let all_icmp : All (λ b. b < 256) icmp = All-take (λ b. b < 256) len body all_body in
    let header_back = header_row header icmp h all long total protocol whole in
    let icmp_back = message_row header icmp all_icmp long kind code in
    let fit = fields_fit header icmp h all all_icmp long total most header_sum icmp_sum header_back icmp_back in
    (fields_of header icmp, drop len body, fit, header_back, sym (take-append-drop len body) ∙ ap (λ (l : List ℕ). l ++ drop len body) icmp_back)

request_there : (from : Mac) (header body : List ℕ) → IsHeader header → All (λ b. b < 256) header → All (λ b. b < 256) body → is_echo_due from header body ≡ true → (is_group from ≡ false) × ((e : Echo) × (padding : List ℕ) × IsEcho 8 e × (header ≡ header_of e) × (body ≡ message_of 8 e ++ padding))
unfolding carries_icmp is_echo_request
request_there from header body h all all_body due =
    let front = and_left _ _ due in
    let seven = and_right _ _ front in
    let six = and_left _ _ seven in
    let five = and_left _ _ six in
    let four = and_left _ _ five in
    let three = and_left _ _ four in
    let two = and_left _ _ three in
    let asked = and_right _ _ due in
    let kinds = and_left _ _ asked in
    (not_true (is_group from) (and_left _ _ front), request_of header body h all all_body (eqb-true _ 1 (and_right _ _ two)) (eqb-true _ 0 (and_right _ _ three)) (leb-true _ _ (and_right _ _ four)) (leb-true _ _ (and_right _ _ five)) (leb-true _ _ (and_right _ _ six)) (eqb-true _ 0 (and_right _ _ seven)) (eqb-true _ 8 (and_left _ _ kinds)) (eqb-true _ 0 (and_right _ _ kinds)) (eqb-true _ 0 (and_right _ _ asked)))

pub due_of : (due : Bool) (frame : List ℕ) → IsSome (cond due (Some frame) None) → due ≡ true
due_of true frame some = refl
due_of false frame some = absurd (cc some)

only_to : (src from : Mac) (payload : List ℕ) (u : UpperParts) → All (λ b. b < 256) payload → IsUpper 0x0800 payload u → IsSome (echo_upper src from u) → (is_group from ≡ false) × IsEchoRequest payload
only_to src from payload Unknown all there some = absurd (cc some)
only_to src from payload (Arp op sha spa tha tpa) all there some = absurd (cc some)
only_to src from payload (V6 header body) all there some = absurd (omega (arith, there.0))
only_to src from payload (V4 header body) all there some =
    let row : payload ≡ header ++ body = there.2 in
    let whole : All (λ b. b < 256) (header ++ body) = subst (All (λ b. b < 256)) row all in
    let front : All (λ b. b < 256) header = subst (All (λ b. b < 256)) (take-append_seam header body) (All-take (λ b. b < 256) (length header) (header ++ body) whole) in
    let rest : All (λ b. b < 256) body = subst (All (λ b. b < 256)) (drop-append_seam header body) (All-drop (λ b. b < 256) (length header) (header ++ body) whole) in
    let found = request_there from header body there.1 front rest (due_of _ _ some) in
    let e : Echo = found.1.0 in
    let padding : List ℕ = found.1.1 in
    (found.0, (e, padding, found.1.2, row ∙ (λ i. found.1.3 i ++ found.1.4 i) ∙ sym (append_assoc (header_of e) (message_of 8 e) padding)))

-- ---- to each echo request

header_begins : (kind : ℕ) (e : Echo) → IsEcho kind e → IsHeader (header_of e)
unfolding number
header_begins kind e fit =
    record {
      words = (20 + length e.options) / 4;
      more = drop 1 (header_of e);
      first = refl;
      long = omega (arith, fit.options.0);
      least = omega arith;
      most = omega (arith, fit.options.1);
    }

message_len : (kind : ℕ) (e : Echo) → length (message_of kind e) ≡ 8 + length e.sent
unfolding number
message_len kind e = omega arith

header_len : (e : Echo) → length (header_of e) ≡ 20 + length e.options
unfolding number
header_len e = omega arith

total_there : (kind : ℕ) (e : Echo) → IsEcho kind e → total_len (header_of e) ≡ whole_len e
unfolding number_at number
total_there kind e fit = big_number-reads_back 2 (whole_len e) (drop 4 (header_of e)) (omega (arith, fit.longest))

flags_there : (kind : ℕ) (e : Echo) → IsEcho kind e → number_at 2 6 (header_of e) ≡ e.flags * 2 ^ 14
unfolding number_at number
flags_there kind e fit = big_number-reads_back 2 (e.flags * 2 ^ 14) (drop 8 (header_of e)) (omega (arith, fit.flags))

protocol_there : (e : Echo) → slice_index (header_of e) 9 ≡ 1
unfolding number
protocol_there e = refl

carried_there : (e : Echo) (padding : List ℕ) → IsEcho 8 e → carries_icmp (header_of e) (message_of 8 e ++ padding) ≡ true
unfolding carries_icmp
carried_there e padding fit =
    let header = header_of e in
    let body = message_of 8 e ++ padding in
    let long = header_len e in
    let body_len = length-append (message_of 8 e) padding in
    let total = total_there 8 e fit in
    let flags = flags_there 8 e fit in
    let one = le-leb 20 (length header) (omega (arith, long)) in
    let two = eq-eqb (slice_index header 9) 1 (protocol_there e) in
    let three = eq-eqb (number_at 2 6 header % 2 ^ 14) 0 (omega (arith, flags)) in
    let four = le-leb (length header + 8) (total_len header) (omega (arith, long, total)) in
    let five = le-leb (total_len header) (length header + length body) (omega (arith, long, total, body_len, message_len 8 e)) in
    let six = le-leb (total_len header) longest (omega (arith, total, fit.longest)) in
    let seven = eq-eqb (internet_checksum header) 0 fit.header_right in
    and_both _ _ (and_both _ _ (and_both _ _ (and_both _ _ (and_both _ _ (and_both _ _ one two) three) four) five) six) seven

icmp_there : (e : Echo) (padding : List ℕ) → IsEcho 8 e → icmp_of (header_of e) (message_of 8 e ++ padding) ≡ message_of 8 e
icmp_there e padding fit =
    let len : total_len (header_of e) - length (header_of e) ≡ length (message_of 8 e) = omega (arith, total_there 8 e fit, header_len e, message_len 8 e) in
    ap (λ (n : ℕ). take n (message_of 8 e ++ padding)) len ∙ take-append_seam (message_of 8 e) padding

asked_there : (e : Echo) → IsEcho 8 e → is_echo_request (message_of 8 e) ≡ true
unfolding is_echo_request
asked_there e fit = and_both _ _ refl (eq-eqb (internet_checksum (message_of 8 e)) 0 fit.message_right)

due_there : (from : Mac) (e : Echo) (padding : List ℕ) → is_group from ≡ false → IsEcho 8 e → is_echo_due from (header_of e) (message_of 8 e ++ padding) ≡ true
due_there from e padding one fit =
    and_both _ _ (and_both _ _ (ap not one) (carried_there e padding fit)) (ap is_echo_request (icmp_there e padding fit) ∙ asked_there e fit)

-- ---- the answer

header_answer : Echo → ℕ → ℕ
header_answer e n = internet_checksum (reply_start (header_of e) n ++ number 2 0 ++ exchanged (header_of e))

message_answer : Echo → ℕ
message_answer e = internet_checksum ((0 ∷ 0 ∷ []) ++ number 2 0 ++ drop 4 (message_of 8 e))

-- the fields of the answer
abbrev answer_of : Echo → Echo
answer_of e =
    record { service = e.service; identification = e.identification; flags = 0; lifetime = 64; header_sum = header_answer e (8 + length e.sent); source = e.destination; destination = e.source; options = []; message_sum = message_answer e; identifier = e.identifier; sequence = e.sequence; sent = e.sent }

answer_header : (e : Echo) (n : ℕ) → n ≡ 8 + length e.sent → reply_header (header_of e) n ≡ header_of (answer_of e)
unfolding reply_header with_checksum number header_answer
answer_header e n len = ap (reply_header (header_of e)) len

answer_message : (e : Echo) → reply_icmp (message_of 8 e) ≡ message_of 0 (answer_of e)
unfolding reply_icmp with_checksum number message_answer
answer_message e = refl

pub sum_fits : (bytes : List ℕ) → internet_checksum bytes < 2 ^ 16
unfolding internet_checksum
sum_fits bytes = omega arith

header_sum_fits : (e : Echo) (n : ℕ) → header_answer e n < 2 ^ 16
unfolding header_answer
header_sum_fits e n = sum_fits _

message_sum_fits : (e : Echo) → message_answer e < 2 ^ 16
unfolding message_answer
message_sum_fits e = sum_fits _

answer_fits : (e : Echo) → IsEcho 8 e → IsEcho 0 (answer_of e)
answer_fits e fit =
    record {
      service = fit.service;
      identification = fit.identification;
      flags = omega arith;
      lifetime = omega arith;
      header_sum = header_sum_fits e _;
      source = fit.destination;
      destination = fit.source;
      options = (refl, omega arith);
      message_sum = message_sum_fits e;
      identifier = fit.identifier;
      sequence = fit.sequence;
      longest = omega (arith, fit.longest);
      header_right = ap internet_checksum (sym (answer_header e _ refl)) ∙ header_right (header_of e) _ (omega (arith, header_len e));
      message_right = ap internet_checksum (sym (answer_message e)) ∙ icmp_right (message_of 8 e);
    }

answered : (src from : Mac) (e : Echo) (padding : List ℕ) → is_group from ≡ false → IsEcho 8 e → echo_upper src from (upper_parts 0x0800 (header_of e ++ message_of 8 e ++ padding)) ≡ Some (untagged from src 0x0800 (header_of (answer_of e) ++ message_of 0 (answer_of e)))
answered src from e padding one fit =
    let body = message_of 8 e ++ padding in
    let answer = answer_of e in
    let row : header_of e ++ message_of 8 e ++ padding ≡ header_of e ++ (message_of 8 e ++ padding) = append_assoc (header_of e) (message_of 8 e) padding in
    let read : upper_parts 0x0800 (header_of e ++ message_of 8 e ++ padding) ≡ V4 (header_of e) body = ap (upper_parts 0x0800) row ∙ ipv4_is_read (header_of e) body (header_begins 8 e fit) in
    let icmp = icmp_there e padding fit in
    let start : reply_header (header_of e) (length (icmp_of (header_of e) body)) ≡ header_of answer = answer_header e _ (ap length icmp ∙ message_len 8 e) in
    let message : reply_icmp (icmp_of (header_of e) body) ≡ message_of 0 answer = ap reply_icmp icmp ∙ answer_message e in
    ap (echo_upper src from) read ∙ if_true _ _ _ (due_there from e padding one fit) ∙ (λ i. Some (untagged from src 0x0800 (start i ++ message i)))

pub request_is_answered : (src from : Mac) (e : Echo) (padding : List ℕ) → is_group from ≡ false → IsEcho 8 e → (a : Echo) × IsEcho 0 a × Answers e a × (echo_upper src from (upper_parts 0x0800 (header_of e ++ message_of 8 e ++ padding)) ≡ Some (untagged from src 0x0800 (header_of a ++ message_of 0 a)))
request_is_answered src from e padding one fit =
    (answer_of e, answer_fits e fit, record { service = refl; identification = refl; flags = refl; lifetime = refl; source = refl; destination = refl; options = refl; identifier = refl; sequence = refl; sent = refl }, answered src from e padding one fit)

-- ---- both ways

pub answered_is_some : (o : Option (List ℕ)) (frame : List ℕ) → o ≡ Some frame → IsSome o
answered_is_some o frame e = subst IsSome (sym e) refl

pub due_to_requests : (src from : Mac) (payload : List ℕ) → All (λ b. b < 256) payload → IsSome (echo_upper src from (upper_parts 0x0800 payload)) ↔ ((is_group from ≡ false) × IsEchoRequest payload)
due_to_requests src from payload all = (
  only_to src from payload (upper_parts 0x0800 payload) all (upper_stands_there 0x0800 payload all),
  λ asked. let r = asked.1 in answered_is_some _ _ (ap (λ (p : List ℕ). echo_upper src from (upper_parts 0x0800 p)) r.3 ∙ answered src from r.0 r.1 asked.0 r.2),
)

-- what is neither IPv4 nor IPv6 has no answer
none_to : (src from : Mac) (eth_type : ℕ) (payload : List ℕ) (u : UpperParts) → IsUpper eth_type payload u → ¬ (eth_type ≡ 0x0800) → ¬ (eth_type ≡ 0x86dd) → echo_upper src from u ≡ None
none_to src from eth_type payload Unknown there no_ipv4 no_ipv6 = refl
none_to src from eth_type payload (Arp op sha spa tha tpa) there no_ipv4 no_ipv6 = refl
none_to src from eth_type payload (V4 header body) there no_ipv4 no_ipv6 = absurd (no_ipv4 there.0)
none_to src from eth_type payload (V6 header body) there no_ipv4 no_ipv6 = absurd (no_ipv6 there.0)

pub due_to_no_other : (src from : Mac) (eth_type : ℕ) (payload : List ℕ) → All (λ b. b < 256) payload → ¬ (eth_type ≡ 0x0800) → ¬ (eth_type ≡ 0x86dd) → echo_upper src from (upper_parts eth_type payload) ≡ None
due_to_no_other src from eth_type payload all = none_to src from eth_type payload (upper_parts eth_type payload) (upper_stands_there eth_type payload all)
