-- The packet of a frame is shaped.
use Rattle.std.proofs.Common.{◌≡◌, ℕ, zero, suc, ◌<◌, ◌≤◌, get_or, get_or-drop, length-drop, ◌+◌, ◌*◌, ◌-◌, ◌%◌, ◌^◌, ◌&&◌, ◌||◌, ◌==◌, Bool, true, false, List, [], ◌∷◌, take, drop, length, refl, sym, ap, subst, ◌∙◌, arith, inl, inr, IfSome, Option, Some, None, nat_le, slice_index}
use Rattle.std.specs.List.{AllByRecursion}
use Rattle.std.proofs.lemmas.List.{length-take-le}
use Rattle.std.proofs.lemmas.Bool.{eqb-true, leb-true}
use Rattle.std.specs.Option.{option_map}
use Rattle.net_base.specs.Address.{IsSixBytes}
use Rattle.pkt_view.proofs.Choice.{by_if, and_left, or_cases}
use Rattle.pkt_view.proofs.Tags.{front_more, front_end, front_short}
use Rattle.pkt_view.specs.Numbers.{number_at}
use Rattle.pkt_view.specs.Frame.{UpperParts, FrameParts, header_len, is_tag_type, tag_count, type_place, has_type, is_arp, is_ipv4, is_ipv6, upper_parts, parts_with, parts}
use Rattle.pkt_view.specs.Packets.{tag_of, tags_of, l4_in, l4_of, has_target, target_of, next_of, upper_of, packet_of_parts, packet}
use Rattle.of_match.specs.declared.packet.L4.{L4}
use Rattle.of_match.specs.Shaped.{IsTag, AgreesWithProto, AgreesWithKind, AgreesWithNext, AgreesWithType, FitsTarget, FitsL4, FitsUpper, IsShaped}
use Rattle.byteorder.specs.Numbers.{big_from-lt}

-- ---- bytes, and the numbers that stand in them

abbrev AreBytes : List ℕ → Type 0
AreBytes xs = (i : ℕ) → get_or xs i 0 < 256

behind : (n : ℕ) (xs : List ℕ) → AreBytes xs → AreBytes (drop n xs)
behind n xs all i = let b = all (n + i) in let e = get_or-drop n xs i 0 in omega (arith, b, e)

front : (n : ℕ) (xs : List ℕ) → AreBytes xs → AreBytes (take n xs)
front zero xs all i = omega arith
front (suc n) [] all i = omega arith
front (suc n) (x ∷ xs) all zero = all 0
front (suc n) (x ∷ xs) all (suc i) = front n xs (λ k. all (suc k)) i

each : (xs : List ℕ) → AreBytes xs → AllByRecursion (λ b. b < 256) xs
each [] all = tt
each (x ∷ xs) all = (all 0, each xs (λ i. all (suc i)))

pub fits_2 : (at : ℕ) (xs : List ℕ) → AreBytes xs → number_at 2 at xs < 2 ^ 16
unfolding number_at
fits_2 at xs all = let a = behind at xs all 0 in let b = behind at xs all 1 in omega (arith, a, b)

pub fits_4 : (at : ℕ) (xs : List ℕ) → AreBytes xs → number_at 4 at xs < 2 ^ 32
unfolding number_at
fits_4 at xs all =
    let a = behind at xs all 0 in
    let b = behind at xs all 1 in
    let c = behind at xs all 2 in
    let d = behind at xs all 3 in
    omega (arith, a, b, c, d)

pub fits_16 : (at : ℕ) (xs : List ℕ) → AreBytes xs → number_at 16 at xs < 2 ^ 128
unfolding number_at
fits_16 at xs all = big_from-lt 0 16 (drop at xs) (behind at xs all)

pub six : (at : ℕ) (xs : List ℕ) → at + 6 ≤ length xs → AreBytes xs → IsSixBytes (take 6 (drop at xs))
six at xs within all =
    record {
      count = length-take-le 6 (drop at xs) (omega (arith, within, length-drop at xs));
      each = each (take 6 (drop at xs)) (front 6 (drop at xs) (behind at xs all));
    }

-- ---- the tags

a_tag : (bytes : List ℕ) → is_tag_type (number_at 2 0 bytes) ≡ true → IsTag (tag_of bytes)
a_tag bytes t =
    record {
      tpid = elim (or_cases (number_at 2 0 bytes == 0x8100) (number_at 2 0 bytes == 0x88a8) t) [ inl e ↦ inl (eqb-true (number_at 2 0 bytes) 0x8100 e) | inr e ↦ inr (eqb-true (number_at 2 0 bytes) 0x88a8 e) ];
      pcp = omega arith;
      vid = omega arith;
    }

same_type : (a b c d : ℕ) (more less : List ℕ) → number_at 2 0 (a ∷ b ∷ c ∷ d ∷ more) ≡ number_at 2 0 (a ∷ b ∷ c ∷ d ∷ less)
unfolding number_at
same_type a b c d more less = refl

tags_there : (a b c d : ℕ) (more : List ℕ) (n : ℕ) → n ≡ suc (suc (suc (suc (4 * tag_count more)))) → is_tag_type (number_at 2 0 (a ∷ b ∷ c ∷ d ∷ more)) ≡ true → AllByRecursion IsTag (tags_of (take (4 * tag_count more) more)) → AllByRecursion IsTag (tags_of (take n (a ∷ b ∷ c ∷ d ∷ more)))
unfolding tags_of
tags_there a b c d more n e t rest =
    let P : ℕ → Type 0 = λ k. AllByRecursion IsTag (tags_of (take k (a ∷ b ∷ c ∷ d ∷ more))) in
    let less = take (4 * tag_count more) more in
    let first : IsTag (tag_of (a ∷ b ∷ c ∷ d ∷ less)) = a_tag (a ∷ b ∷ c ∷ d ∷ less) (ap is_tag_type (same_type a b c d less more) ∙ t) in
    subst P (sym e) (first, rest)

tags_none : (bytes : List ℕ) (n : ℕ) → n ≡ 0 → AllByRecursion IsTag (tags_of (take n bytes))
unfolding tags_of
tags_none bytes n e =
    let P : ℕ → Type 0 = λ k. AllByRecursion IsTag (tags_of (take k bytes)) in
    subst P (sym e) tt

tags_step : (a b c d : ℕ) (more : List ℕ) (n : ℕ) (test : Bool) → is_tag_type (number_at 2 0 (a ∷ b ∷ c ∷ d ∷ more)) ≡ test → n ≡ 4 * tag_count (a ∷ b ∷ c ∷ d ∷ more) → AllByRecursion IsTag (tags_of (take (4 * tag_count more) more)) → AllByRecursion IsTag (tags_of (take n (a ∷ b ∷ c ∷ d ∷ more)))
tags_step a b c d more n true t e rest =
    let one : tag_count (a ∷ b ∷ c ∷ d ∷ more) ≡ suc (tag_count more) = front_more (a ∷ b ∷ c ∷ d ∷ more) (omega arith) t in
    tags_there a b c d more n (omega (arith, e, one)) t rest
tags_step a b c d more n false t e rest =
    let none = front_end (a ∷ b ∷ c ∷ d ∷ more) t in
    tags_none (a ∷ b ∷ c ∷ d ∷ more) n (omega (arith, e, none))

tags_all : (bytes : List ℕ) (n : ℕ) → n ≡ 4 * tag_count bytes → AllByRecursion IsTag (tags_of (take n bytes))
tags_all [] n e = tags_none [] n (omega (arith, e, front_short [] (omega arith)))
tags_all (a ∷ []) n e = tags_none (a ∷ []) n (omega (arith, e, front_short (a ∷ []) (omega arith)))
tags_all (a ∷ b ∷ []) n e = tags_none (a ∷ b ∷ []) n (omega (arith, e, front_short (a ∷ b ∷ []) (omega arith)))
tags_all (a ∷ b ∷ c ∷ []) n e = tags_none (a ∷ b ∷ c ∷ []) n (omega (arith, e, front_short (a ∷ b ∷ c ∷ []) (omega arith)))
tags_all (a ∷ b ∷ c ∷ d ∷ more) n e = tags_step a b c d more n (is_tag_type (number_at 2 0 (a ∷ b ∷ c ∷ d ∷ more))) refl e (tags_all more (4 * tag_count more) refl)

-- ---- what lies behind the EtherType

l4_agrees : (proto : ℕ) (body : List ℕ) → AgreesWithProto proto (l4_in proto body)
l4_agrees proto body =
    by_if (AgreesWithProto proto) ((proto == 6) && nat_le 4 (length body)) _ _ (λ e. eqb-true proto 6 (and_left (proto == 6) _ e)) (λ _. by_if (AgreesWithProto proto) ((proto == 17) && nat_le 4 (length body)) _ _ (λ e. eqb-true proto 17 (and_left (proto == 17) _ e)) (λ _. by_if (AgreesWithProto proto) ((proto == 1) && nat_le 2 (length body)) _ _ (λ e. eqb-true proto 1 (and_left (proto == 1) _ e)) (λ _. tt)))

l4_of_agrees : (header body : List ℕ) → AgreesWithProto (slice_index header 9) (l4_of header body)
unfolding l4_of
l4_of_agrees header body =
    by_if (AgreesWithProto (slice_index header 9)) (number_at 2 6 header % 2 ^ 13 == 0) _ _ (λ _. l4_agrees (slice_index header 9) body) (λ _. tt)

target_agrees : (body : List ℕ) → AgreesWithKind (slice_index body 0) (target_of body)
target_agrees body =
    let kind = slice_index body 0 in
    by_if (AgreesWithKind kind) (has_target body) _ _
    (λ e. elim (or_cases (kind == 135) (kind == 136) (and_left ((kind == 135) || (kind == 136)) _ e)) [ inl a ↦ inl (eqb-true kind 135 a) | inr b ↦ inr (eqb-true kind 136 b) ])
    (λ _. tt)

-- neither ICMP nor ICMPv6
ports_agree : (proto : ℕ) (body : List ℕ) → (proto == 1) ≡ false → AgreesWithNext proto (l4_in proto body)
ports_agree proto body other =
    by_if (AgreesWithNext proto) ((proto == 6) && nat_le 4 (length body)) _ _ (λ e. eqb-true proto 6 (and_left (proto == 6) _ e))
    (λ _. by_if (AgreesWithNext proto) ((proto == 17) && nat_le 4 (length body)) _ _ (λ e. eqb-true proto 17 (and_left (proto == 17) _ e))
    (λ _. by_if (AgreesWithNext proto) ((proto == 1) && nat_le 2 (length body)) _ _ (λ e. let one = and_left (proto == 1) _ e in absurd (cc (one, other))) (λ _. tt)))

next_agrees : (proto : ℕ) (body : List ℕ) → AgreesWithNext proto (next_of proto body)
unfolding next_of
next_agrees proto body =
    let P : L4 → Type 0 = AgreesWithNext proto in
    by_if P (proto == 58) _ _ (λ e. by_if P (nat_le 2 (length body)) _ _ (λ _. (eqb-true proto 58 e, target_agrees body)) (λ _. tt))
    (λ _. by_if P (proto == 1) _ _ (λ _. tt) (ports_agree proto body))

upper_agrees : (eth_type : ℕ) (payload : List ℕ) → AgreesWithType eth_type (upper_of (upper_parts eth_type payload))
unfolding upper_parts
upper_agrees eth_type payload =
    let P : UpperParts → Type 0 = λ u. AgreesWithType eth_type (upper_of u) in
    by_if P (is_arp eth_type payload) _ _ (λ e. eqb-true eth_type 0x0806 (and_left _ _ (and_left _ _ (and_left _ _ (and_left _ _ (and_left _ _ e)))))) (λ _. by_if P (is_ipv4 eth_type payload) _ _ (λ e. (eqb-true eth_type 0x0800 (and_left _ _ (and_left _ _ (and_left _ _ (and_left _ _ e)))), l4_of_agrees (take (header_len payload) payload) (drop (header_len payload) payload))) (λ _. by_if P (is_ipv6 eth_type payload) _ _ (λ e. (eqb-true eth_type 0x86dd (and_left _ _ (and_left _ _ e)), next_agrees (slice_index (take 40 payload) 6) (drop 40 payload))) (λ _. tt)))

l4_fits : (proto : ℕ) (body : List ℕ) → AreBytes body → FitsL4 (l4_in proto body)
l4_fits proto body all =
    by_if FitsL4 ((proto == 6) && nat_le 4 (length body)) _ _ (λ _. (fits_2 0 body all, fits_2 2 body all))
    (λ _. by_if FitsL4 ((proto == 17) && nat_le 4 (length body)) _ _ (λ _. (fits_2 0 body all, fits_2 2 body all))
    (λ _. by_if FitsL4 ((proto == 1) && nat_le 2 (length body)) _ _ (λ _. (all 0, all 1)) (λ _. tt)))

l4_of_fits : (header body : List ℕ) → AreBytes body → FitsL4 (l4_of header body)
unfolding l4_of
l4_of_fits header body all =
    by_if FitsL4 (number_at 2 6 header % 2 ^ 13 == 0) _ _ (λ _. l4_fits (slice_index header 9) body all) (λ _. tt)

target_fits : (body : List ℕ) → AreBytes body → FitsTarget (target_of body)
target_fits body all = by_if FitsTarget (has_target body) _ _ (λ _. fits_16 8 body all) (λ _. tt)

next_fits : (proto : ℕ) (body : List ℕ) → AreBytes body → FitsL4 (next_of proto body)
unfolding next_of
next_fits proto body all =
    by_if FitsL4 (proto == 58) _ _ (λ _. by_if FitsL4 (nat_le 2 (length body)) _ _ (λ _. (all 0, all 1, target_fits body all)) (λ _. tt))
    (λ _. by_if FitsL4 (proto == 1) _ _ (λ _. tt) (λ _. l4_fits proto body all))

upper_fits : (eth_type : ℕ) (payload : List ℕ) → AreBytes payload → FitsUpper (upper_of (upper_parts eth_type payload))
unfolding upper_parts
upper_fits eth_type payload all =
    let P : UpperParts → Type 0 = λ u. FitsUpper (upper_of u) in
    let header = take (header_len payload) payload in
    let bytes = front (header_len payload) payload all in
    by_if P (is_arp eth_type payload) _ _ (λ _. (fits_2 6 payload all, fits_4 14 payload all, fits_4 24 payload all))
    (λ _. by_if P (is_ipv4 eth_type payload) _ _
    (λ _. (fits_4 12 header bytes, fits_4 16 header bytes, bytes 9, bytes 8, l4_of_fits header (drop (header_len payload) payload) (behind (header_len payload) payload all)))
    (λ _. by_if P (is_ipv6 eth_type payload) _ _
    (λ _. let header6 = take 40 payload in let bytes6 = front 40 payload all in (fits_16 8 header6 bytes6, fits_16 24 header6 bytes6, bytes6 6, bytes6 7, next_fits (slice_index header6 6) (drop 40 payload) (behind 40 payload all)))
    (λ _. tt)))

-- ---- the whole

pub packet_shaped : (frame : List ℕ) → AreBytes frame → IfSome (packet frame) IsShaped
unfolding parts packet_of_parts
packet_shaped frame all =
    let at = type_place frame in
    let eth_type = number_at 2 at frame in
    let payload = drop (at + 2) frame in
    by_if (λ (o : Option FrameParts). IfSome (option_map packet_of_parts o) IsShaped) (has_type frame) (Some (parts_with at frame)) None
    (λ there.
    let within = leb-true (at + 2) (length frame) (and_left _ _ there) in
    record {
      dst = six 0 frame (omega (arith, within)) all;
      src = six 6 frame (omega (arith, within)) all;
      tags = tags_all (drop 12 frame) (at - 12) (omega arith);
      eth_type = fits_2 at frame all;
      upper = upper_agrees eth_type payload;
      numbers = upper_fits eth_type payload (behind (at + 2) frame all);
    })
    (λ _. tt)
