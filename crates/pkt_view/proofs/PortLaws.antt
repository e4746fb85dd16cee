-- What a transport header begins with is spelled by what is read of it, and read as it is spelled.
use Rattle.std.proofs.Common.{◌≡◌, ℕ, ◌*◌, ◌/◌, ◌%◌, ◌^◌, ◌<◌, ◌≤◌, ◌==◌, ◌&&◌, ◌||◌, ◌⊎◌, inl, inr, true, false, nat_le, Some, None, List, [], ◌∷◌, ◌++◌, length, take, drop, slice_index, refl, sym, ap, ◌∙◌, arith}
use Rattle.std.specs.Prelude.{All}
use Rattle.std.proofs.lemmas.Bool.{eqb-true, leb-true, le-leb, eq-eqb, ne_eqb}
use Rattle.std.proofs.lemmas.List.{length-take-le}
use Rattle.byteorder.specs.Numbers.{big_number-reads_back}
use Rattle.of_match.specs.declared.packet.L4.{L4}
use Rattle.of_match.specs.declared.packet.L4.TheVariants.{None as NoL4, Tcp, Udp, Icmp, Icmp6}
use Rattle.pkt_view.proofs.Choice.{by_if, and_left, and_right, or_cases, if_true, if_false}
use Rattle.pkt_view.proofs.Shapes.{fits_2}
use Rattle.pkt_view.proofs.Spelled.{number_back, two_bytes, joined}
use Rattle.pkt_view.proofs.UpperLaws.{by_six, byte_here}
use Rattle.pkt_view.specs.Numbers.{number_at, number}
use Rattle.net_base.specs.declared.address6.Ip6.{Ip6}
use Rattle.pkt_view.specs.Packets.{has_target, target_of, l4_in, l4_of, next_of}
use Rattle.pkt_view.specs.Layouts.{IsFirstOf, HasPorts, IsL4, IsTarget, IsMessage, IsNext, targeted}

-- ---- what is read stands there

first_there : (header : List ℕ) (proto : ℕ) → 20 ≤ length header → All (λ b. b < 256) header → number_at 2 6 header % 2 ^ 13 ≡ 0 → slice_index header 9 ≡ proto → IsFirstOf proto header
first_there header proto long all whole protocol =
    let flags = number_at 2 6 header / 2 ^ 13 in
    let back : flags * 2 ^ 13 ≡ number_at 2 6 header = omega (arith, whole) in
    let lifetime = slice_index header 8 in
    let front = take 6 header in
    let placed : front ++ number 2 (flags * 2 ^ 13) ++ drop 8 header ≡ front ++ drop 6 header = joined front (number 2 (flags * 2 ^ 13)) 2 6 8 header refl (ap (number 2) back ∙ number_back 6 header (omega (arith, long)) all) in
    record {
      front = front;
      flags = flags;
      lifetime = lifetime;
      more = drop 10 header;
      count = length-take-le 6 header (omega (arith, long));
      fits = omega (arith, fits_2 6 header (byte_here header all));
      row = sym (joined (front ++ number 2 (flags * 2 ^ 13)) (lifetime ∷ proto ∷ []) 2 8 10 header refl (two_bytes 8 header lifetime proto (omega (arith, long)) refl (sym protocol)) ∙ placed ∙ joined [] front 6 0 6 header refl refl);
    }

ports_there : (body : List ℕ) → All (λ b. b < 256) body → 4 ≤ length body → HasPorts body (number_at 2 0 body) (number_at 2 2 body)
ports_there body all long =
    let bytes = byte_here body all in
    let src = number 2 (number_at 2 0 body) in
    record {
      fits = (fits_2 0 body bytes, fits_2 2 body bytes);
      more = drop 4 body;
      row = sym (joined src (number 2 (number_at 2 2 body)) 2 2 4 body refl (number_back 2 body (omega (arith, long)) all) ∙ joined [] src 2 0 2 body refl (number_back 0 body (omega (arith, long)) all));
    }

kind_there : (body : List ℕ) → 2 ≤ length body → body ≡ slice_index body 0 ∷ slice_index body 1 ∷ drop 2 body
kind_there [] long = absurd (omega (arith, long))
kind_there (a ∷ []) long = absurd (omega (arith, long))
kind_there (a ∷ b ∷ more) long = refl

in_there : (header body : List ℕ) → 20 ≤ length header → All (λ b. b < 256) header → All (λ b. b < 256) body → number_at 2 6 header % 2 ^ 13 ≡ 0 → IsL4 header body (l4_in (slice_index header 9) body)
in_there header body long all all_body whole =
    let proto = slice_index header 9 in
    let P : L4 → Type 0 = IsL4 header body in
    let first : (n : ℕ) → proto ≡ n → IsFirstOf n header = λ n e. first_there header n long all whole e in
    by_if P ((proto == 6) && nat_le 4 (length body)) _ _ (λ e. (first 6 (eqb-true _ 6 (and_left (proto == 6) _ e)), ports_there body all_body (leb-true 4 (length body) (and_right (proto == 6) _ e))))
    (λ _. by_if P ((proto == 17) && nat_le 4 (length body)) _ _ (λ e. (first 17 (eqb-true _ 17 (and_left (proto == 17) _ e)), ports_there body all_body (leb-true 4 (length body) (and_right (proto == 17) _ e))))
    (λ _. by_if P ((proto == 1) && nat_le 2 (length body)) _ _ (λ e. (first 1 (eqb-true _ 1 (and_left (proto == 1) _ e)), (drop 2 body, kind_there body (leb-true 2 (length body) (and_right (proto == 1) _ e)))))
    (λ _. tt)))

pub l4_there : (header body : List ℕ) → 20 ≤ length header → All (λ b. b < 256) header → All (λ b. b < 256) body → IsL4 header body (l4_of header body)
unfolding l4_of
l4_there header body long all all_body =
    by_if (IsL4 header body) (number_at 2 6 header % 2 ^ 13 == 0) _ _ (λ e. in_there header body long all all_body (eqb-true _ 0 e)) (λ _. tt)

-- ---- what stands there is read

first_bytes : (proto a b c d x y flags lifetime : ℕ) (more body : List ℕ) → flags < 2 ^ 3 → l4_of (a ∷ b ∷ c ∷ d ∷ x ∷ y ∷ [] ++ number 2 (flags * 2 ^ 13) ++ (lifetime ∷ proto ∷ []) ++ more) body ≡ l4_in proto body
unfolding l4_of number number_at
first_bytes proto a b c d x y flags lifetime more body fits =
    let header = a ∷ b ∷ c ∷ d ∷ x ∷ y ∷ [] ++ number 2 (flags * 2 ^ 13) ++ (lifetime ∷ proto ∷ []) ++ more in
    let back : number_at 2 6 header ≡ flags * 2 ^ 13 = big_number-reads_back 2 (flags * 2 ^ 13) (drop 8 header) (omega (arith, fits)) in
    if_true _ _ _ (eq-eqb (number_at 2 6 header % 2 ^ 13) 0 (omega (arith, back)))

first_read : (proto : ℕ) (header body : List ℕ) → IsFirstOf proto header → l4_of header body ≡ l4_in proto body
first_read proto header body f =
    let P : List ℕ → Type 0 = λ l. l4_of (l ++ number 2 (f.flags * 2 ^ 13) ++ (f.lifetime ∷ proto ∷ []) ++ f.more) body ≡ l4_in proto body in
    ap (λ (l : List ℕ). l4_of l body) f.row ∙ by_six P (λ a b c d x y. first_bytes proto a b c d x y f.flags f.lifetime f.more body f.fits) f.front f.count

ports_len : (src dst : ℕ) (more : List ℕ) → 4 ≤ length (number 2 src ++ number 2 dst ++ more)
unfolding number
ports_len src dst more = omega arith

src_back : (src dst : ℕ) (more : List ℕ) → src < 2 ^ 16 → number_at 2 0 (number 2 src ++ number 2 dst ++ more) ≡ src
unfolding number_at number
src_back src dst more fits = big_number-reads_back 2 src (number 2 dst ++ more) fits

dst_back : (src dst : ℕ) (more : List ℕ) → dst < 2 ^ 16 → number_at 2 2 (number 2 src ++ number 2 dst ++ more) ≡ dst
unfolding number_at number
dst_back src dst more fits = big_number-reads_back 2 dst more fits

tcp_in : (src dst : ℕ) (more : List ℕ) → src < 2 ^ 16 → dst < 2 ^ 16 → l4_in 6 (number 2 src ++ number 2 dst ++ more) ≡ Tcp src dst
tcp_in src dst more src_fits dst_fits =
    if_true _ _ _ (le-leb 4 _ (ports_len src dst more)) ∙ (λ i. Tcp (src_back src dst more src_fits i) (dst_back src dst more dst_fits i))

udp_in : (src dst : ℕ) (more : List ℕ) → src < 2 ^ 16 → dst < 2 ^ 16 → l4_in 17 (number 2 src ++ number 2 dst ++ more) ≡ Udp src dst
udp_in src dst more src_fits dst_fits =
    if_true _ _ _ (le-leb 4 _ (ports_len src dst more)) ∙ (λ i. Udp (src_back src dst more src_fits i) (dst_back src dst more dst_fits i))

pub tcp_is_read : (header body : List ℕ) (src dst : ℕ) → IsFirstOf 6 header → HasPorts body src dst → l4_of header body ≡ Tcp src dst
tcp_is_read header body src dst f p =
    first_read 6 header body f ∙ ap (l4_in 6) p.row ∙ tcp_in src dst p.more p.fits.0 p.fits.1

pub udp_is_read : (header body : List ℕ) (src dst : ℕ) → IsFirstOf 17 header → HasPorts body src dst → l4_of header body ≡ Udp src dst
udp_is_read header body src dst f p =
    first_read 17 header body f ∙ ap (l4_in 17) p.row ∙ udp_in src dst p.more p.fits.0 p.fits.1

icmp_in : (kind code : ℕ) (more : List ℕ) → l4_in 1 (kind ∷ code ∷ more) ≡ Icmp kind code
icmp_in kind code more = if_true _ _ _ (le-leb 2 (length (kind ∷ code ∷ more)) (omega arith))

pub icmp_is_read : (header : List ℕ) (kind code : ℕ) (more : List ℕ) → IsFirstOf 1 header → l4_of header (kind ∷ code ∷ more) ≡ Icmp kind code
icmp_is_read header kind code more f = first_read 1 header (kind ∷ code ∷ more) f ∙ icmp_in kind code more

-- ---- behind an IPv6 header

target_there : (body : List ℕ) → IsTarget body (slice_index body 0) (target_of body)
target_there body =
    let kind = slice_index body 0 in
    by_if (IsTarget body kind) (has_target body) _ _
    (λ e. let k = and_left ((kind == 135) || (kind == 136)) _ e in (
      elim (or_cases (kind == 135) (kind == 136) k) [ inl a ↦ inl (eqb-true kind 135 a) | inr b ↦ inr (eqb-true kind 136 b) ],
      leb-true 24 (length body) (and_right ((kind == 135) || (kind == 136)) _ e),
      refl,
    ))
    (λ _. tt)

message_there : (body : List ℕ) → 2 ≤ length body → IsMessage body (slice_index body 0) (slice_index body 1) (target_of body)
message_there body long = record { more = drop 2 body; row = kind_there body long; there = target_there body }

others_there : (proto : ℕ) (body : List ℕ) → All (λ b. b < 256) body → (proto == 1) ≡ false → IsNext proto body (l4_in proto body)
others_there proto body all other =
    let P : L4 → Type 0 = IsNext proto body in
    by_if P ((proto == 6) && nat_le 4 (length body)) _ _ (λ e. (eqb-true proto 6 (and_left (proto == 6) _ e), ports_there body all (leb-true 4 (length body) (and_right (proto == 6) _ e))))
    (λ _. by_if P ((proto == 17) && nat_le 4 (length body)) _ _ (λ e. (eqb-true proto 17 (and_left (proto == 17) _ e), ports_there body all (leb-true 4 (length body) (and_right (proto == 17) _ e))))
    (λ _. by_if P ((proto == 1) && nat_le 2 (length body)) _ _ (λ e. let one = and_left (proto == 1) _ e in absurd (cc (one, other))) (λ _. tt)))

pub next_there : (proto : ℕ) (body : List ℕ) → All (λ b. b < 256) body → IsNext proto body (next_of proto body)
unfolding next_of
next_there proto body all =
    let P : L4 → Type 0 = IsNext proto body in
    by_if P (proto == 58) _ _ (λ e. by_if P (nat_le 2 (length body)) _ _ (λ long. (eqb-true proto 58 e, message_there body (leb-true 2 (length body) long))) (λ _. tt))
    (λ _. by_if P (proto == 1) _ _ (λ _. tt) (others_there proto body all))

pub tcp_in_ipv6 : (body : List ℕ) (src dst : ℕ) → HasPorts body src dst → next_of 6 body ≡ Tcp src dst
unfolding next_of
tcp_in_ipv6 body src dst p = ap (l4_in 6) p.row ∙ tcp_in src dst p.more p.fits.0 p.fits.1

pub udp_in_ipv6 : (body : List ℕ) (src dst : ℕ) → HasPorts body src dst → next_of 17 body ≡ Udp src dst
unfolding next_of
udp_in_ipv6 body src dst p = ap (l4_in 17) p.row ∙ udp_in src dst p.more p.fits.0 p.fits.1

pub plain_message : (kind code : ℕ) (more : List ℕ) → ¬ (kind ≡ 135) → ¬ (kind ≡ 136) → next_of 58 (kind ∷ code ∷ more) ≡ Icmp6 kind code None
unfolding next_of
plain_message kind code more no_solicitation no_advertisement =
    let body = kind ∷ code ∷ more in
    let none : has_target body ≡ false = (λ i. (ne_eqb kind 135 no_solicitation i || ne_eqb kind 136 no_advertisement i) && nat_le 24 (length body)) in
    if_true _ _ _ (le-leb 2 (length body) (omega arith)) ∙ ap (Icmp6 kind code) (if_false _ _ _ none)

pub icmp_in_ipv6 : (body : List ℕ) → next_of 1 body ≡ NoL4
unfolding next_of
icmp_in_ipv6 body = refl

asked_or_told : (kind : ℕ) → (kind ≡ 135) ⊎ (kind ≡ 136) → ((kind == 135) || (kind == 136)) ≡ true
asked_or_told kind k = elim k [ inl e ↦ ap (λ n. (n == 135) || (n == 136)) e | inr e ↦ ap (λ n. (n == 135) || (n == 136)) e ]

pub targeted_is_read : (kind code sum flags : ℕ) (target : Ip6) (more : List ℕ) → (kind ≡ 135) ⊎ (kind ≡ 136) → target.0 < 2 ^ 128 → next_of 58 (targeted kind code sum flags target more) ≡ Icmp6 kind code (Some target)
unfolding next_of number number_at
targeted_is_read kind code sum flags target more k fits =
    let body = targeted kind code sum flags target more in
    let there : has_target body ≡ true = (λ i. asked_or_told kind k i && le-leb 24 (length body) (omega arith) i) in
    let back : number_at 16 8 body ≡ target.0 = big_number-reads_back 16 target.0 more fits in
    if_true _ _ _ (le-leb 2 (length body) (omega arith)) ∙ ap (Icmp6 kind code) (if_true _ _ _ there ∙ (λ i. Some (record { 0 = back i })))
