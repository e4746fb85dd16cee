-- The header and the ICMP part of an echo reply.
use Rattle.std.proofs.Common.{◌≡◌, ℕ, ◌+◌, ◌≤◌, List, [], ◌∷◌, ◌++◌, length, take, drop, slice_index, refl, sym, ap, ◌∙◌, arith, length-append, length-drop}
use Rattle.std.proofs.lemmas.List.{length-take-le, drop-drop, take_all}
use Rattle.std.proofs.Math.Seq.{take-append_seam, drop-append_seam}
use Rattle.pkt_view.proofs.Sums.{right_checksum}
use Rattle.pkt_view.specs.Numbers.{number}
use Rattle.pkt_view.specs.Checksum.{internet_checksum}
use Rattle.pkt_view.specs.Replies.{with_checksum, reply_start, exchanged, reply_header, reply_icmp}

length-number2 : (v : ℕ) → length (number 2 v) ≡ 2
unfolding number
length-number2 v = refl

pub take_front : (n : ℕ) (xs ys : List ℕ) → length xs ≡ n → take n (xs ++ ys) ≡ xs
take_front n xs ys e = ap (λ (k : ℕ). take k (xs ++ ys)) (sym e) ∙ take-append_seam xs ys

pub drop_front : (n : ℕ) (xs ys : List ℕ) → length xs ≡ n → drop n (xs ++ ys) ≡ ys
drop_front n xs ys e = ap (λ (k : ℕ). drop k (xs ++ ys)) (sym e) ∙ drop-append_seam xs ys

part_len : (n at : ℕ) (bytes : List ℕ) → at + n ≤ length bytes → length (take n (drop at bytes)) ≡ n
part_len n at bytes h = length-take-le n (drop at bytes) (omega (arith, h, length-drop at bytes))

five : (a b c d e : List ℕ) → length (a ++ b ++ c ++ d ++ e) ≡ length a + length b + length c + length d + length e
five a b c d e =
    omega (arith, length-append (a ++ b ++ c ++ d) e, length-append (a ++ b ++ c) d, length-append (a ++ b) c, length-append a b)

start_len : (header : List ℕ) (n : ℕ) → 20 ≤ length header → length (reply_start header n) ≡ 10
start_len header n h =
    let all = five (0x45 ∷ slice_index header 1 ∷ []) (number 2 (20 + n)) (take 2 (drop 4 header)) (number 2 0) (64 ∷ 1 ∷ []) in
    omega (arith, all, length-number2 (20 + n), length-number2 0, part_len 2 4 header (omega (arith, h)))

pub header_right : (header : List ℕ) (n : ℕ) → 20 ≤ length header → internet_checksum (reply_header header n) ≡ 0
unfolding reply_header
header_right header n h = right_checksum (reply_start header n) (exchanged header) (omega (arith, start_len header n h))

pub icmp_right : (icmp : List ℕ) → internet_checksum (reply_icmp icmp) ≡ 0
unfolding reply_icmp
icmp_right icmp = right_checksum (0 ∷ 0 ∷ []) (drop 4 icmp) refl

-- the addresses stand behind twelve bytes
addresses : (header : List ℕ) (n : ℕ) → 20 ≤ length header → drop 12 (reply_header header n) ≡ exchanged header
unfolding reply_header with_checksum
addresses header n h =
    let start = reply_start header n in
    let sum = number 2 (internet_checksum (start ++ number 2 0 ++ exchanged header)) in
    drop_front 12 (start ++ sum) (exchanged header) (omega (arith, length-append start sum, start_len header n h, length-number2 (internet_checksum (start ++ number 2 0 ++ exchanged header))))

pub source_exchanged : (header : List ℕ) (n : ℕ) → 20 ≤ length header → take 4 (drop 12 (reply_header header n)) ≡ take 4 (drop 16 header)
source_exchanged header n h =
    ap (λ (l : List ℕ). take 4 l) (addresses header n h) ∙ take_front 4 (take 4 (drop 16 header)) (take 4 (drop 12 header)) (part_len 4 16 header (omega (arith, h)))

pub target_exchanged : (header : List ℕ) (n : ℕ) → 20 ≤ length header → take 4 (drop 16 (reply_header header n)) ≡ take 4 (drop 12 header)
target_exchanged header n h =
    let behind : drop 16 (reply_header header n) ≡ take 4 (drop 12 header) =
    sym (drop-drop 4 12 (reply_header header n)) ∙ ap (λ (l : List ℕ). drop 4 l) (addresses header n h) ∙ drop_front 4 (take 4 (drop 16 header)) (take 4 (drop 12 header)) (part_len 4 16 header (omega (arith, h))) in
    ap (λ (l : List ℕ). take 4 l) behind ∙ take_all 4 (take 4 (drop 12 header)) (omega (arith, part_len 4 12 header (omega (arith, h))))

pub header_len : (header : List ℕ) (n : ℕ) → 20 ≤ length header → length (reply_header header n) ≡ 20
unfolding reply_header with_checksum
header_len header n h =
    let start = reply_start header n in
    let c = internet_checksum (start ++ number 2 0 ++ exchanged header) in
    omega (arith, length-append (start ++ number 2 c) (exchanged header), length-append start (number 2 c), start_len header n h, length-number2 c, length-append (take 4 (drop 16 header)) (take 4 (drop 12 header)), part_len 4 16 header (omega (arith, h)), part_len 4 12 header (omega (arith, h)))

pub source_again : (header : List ℕ) (n m : ℕ) → 20 ≤ length header → take 4 (drop 12 (reply_header (reply_header header n) m)) ≡ take 4 (drop 12 header)
source_again header n m h =
    source_exchanged (reply_header header n) m (omega (arith, header_len header n h)) ∙ target_exchanged header n h

pub target_again : (header : List ℕ) (n m : ℕ) → 20 ≤ length header → take 4 (drop 16 (reply_header (reply_header header n) m)) ≡ take 4 (drop 16 header)
target_again header n m h =
    target_exchanged (reply_header header n) m (omega (arith, header_len header n h)) ∙ source_exchanged header n h
