-- A message that is made between neighbours of IPv6 is read as it is made: it counts, and tells what it holds.
use Rattle.std.proofs.Common.{◌≡◌, ℕ, ◌==◌, ◌&&◌, ◌||◌, not, Bool, true, false, List, [], ◌∷◌, ◌++◌, length, Some, None, refl, ap, ◌∙◌, arith, if◌then◌else◌}
use Rattle.std.specs.Str.{bytes_eq}
use Rattle.std.proofs.lemmas.Bool.{and_from, eq-eqb}
use Rattle.std.proofs.lemmas.List.{take_all}
use Rattle.std.proofs.lemmas.Map.Text.{is_eq-slice_cmp}
use Rattle.byteorder.specs.Numbers.{big_number-reads_back}
use Rattle.net_base.specs.declared.address.Mac.{Mac}
use Rattle.net_base.specs.declared.address6.Ip6.{Ip6}
use Rattle.conf_types.specs.Lists.{is_same}
use Rattle.of_match.specs.Shaped.{IsIp6}
use Rattle.pkt_view.specs.Frame.{FrameParts, UpperParts, V6, parts, upper_parts}
use Rattle.pkt_view.specs.Layouts.{IsHeader6}
use Rattle.pkt_view.specs.Numbers.{number, number_at}
use Rattle.pkt_view.specs.Replies.{checksum6, destination6, frame6, header6, ip6_bytes, message6, message_in, source6}
use Rattle.pkt_view.proofs.Choice.{if_true}
use Rattle.pkt_view.proofs.MadeFrames.{message_right, untagged_is_read}
use Rattle.pkt_view.proofs.UpperLaws.{ipv6_is_read}
use Rattle.neighbour_resolve.specs.Discovery.{carries_discovery, is_discovery, may_stand, nd_message, told_in, told_option}

-- bytes are the same as themselves
bytes_same : (bytes : List ℕ) → bytes_eq bytes bytes ≡ true
bytes_same [] = refl
bytes_same (b ∷ bytes) = and_from (b == b) (bytes_eq bytes bytes) (eq-eqb b b refl) (bytes_same bytes)

pub same_itself : (bytes : List ℕ) → is_same bytes bytes ≡ true
same_itself bytes = is_eq-slice_cmp bytes bytes ∙ bytes_same bytes

or_right : (a b : Bool) → b ≡ true → (a || b) ≡ true
or_right true b is = refl
or_right false b is = is

bytes_16 : (n : ℕ) → length (number 16 n) ≡ 16
unfolding number
bytes_16 n = refl

-- four bytes, a target, and an option that holds the Ethernet address that the frame is from
module _ (source : Ip6) (to : List ℕ) (kind a b c d : ℕ) (target : Ip6) (option e f g h i j : ℕ) (long : length to ≡ 16) where
  abbrev pub from : Mac
  from = record { 0 = e ∷ f ∷ g ∷ h ∷ i ∷ j ∷ [] }

  abbrev rest : List ℕ
  rest = (a ∷ b ∷ c ∷ d ∷ []) ++ ip6_bytes target ++ (option ∷ 1 ∷ []) ++ e ∷ f ∷ g ∷ h ∷ i ∷ j ∷ []

  abbrev header : List ℕ
  header = header6 32 255 (ip6_bytes source) to

  abbrev message : List ℕ
  message = message6 (ip6_bytes source) to kind rest

  -- ---- it counts

  header_len : length header ≡ 40
  unfolding number
  header_len = omega (arith, long)

  carries : carries_discovery header message ≡ true
  unfolding carries_discovery number number_at message6
  carries = and_from _ _ (and_from _ _ (and_from _ _ (and_from _ _ (eq-eqb (length header) 40 header_len) refl) refl) refl) refl

  right : checksum6 (source6 header) (destination6 header) message ≡ 0
  unfolding number
  right = ap (λ (l : List ℕ). checksum6 (ip6_bytes source) l message) (take_all 16 to (omega (arith, long))) ∙ message_right (ip6_bytes source) to kind rest (bytes_16 source.0) long

  counts : ((kind == 135) || (kind == 136)) ≡ true → is_discovery header message ≡ true
  unfolding is_discovery message6
  counts shown = and_from _ _ (and_from _ _ shown refl) (eq-eqb (checksum6 (source6 header) (destination6 header) message) 0 right)

  -- no byte is padding
  whole : message_in header message ≡ message
  unfolding number number_at message6
  whole = refl

  -- ---- what it tells

  own : (may_stand (told_option kind) from.0 option from.0 && true) ≡ true
  own = and_from _ _ (or_right (not (option == told_option kind)) (is_same from.0 from.0) (same_itself from.0)) refl

  tells : IsIp6 source → IsIp6 target → told_in from header message ≡ Some (record { kind = kind; source = source; target = target; is_own = true })
  unfolding number number_at message6
  tells source_fits target_fits =
      let source_back : number_at 16 8 header ≡ source.0 = big_number-reads_back 16 source.0 to source_fits in
      let target_back : number_at 16 8 message ≡ target.0 = big_number-reads_back 16 target.0 (option ∷ 1 ∷ from.0) target_fits in
      λ x. Some (record { kind = kind; source = record { 0 = source_back x }; target = record { 0 = target_back x }; is_own = own x })

  pub is_told : IsIp6 source → IsIp6 target → ((kind == 135) || (kind == 136)) ≡ true → nd_message from header message ≡ Some (record { kind = kind; source = source; target = target; is_own = true })
  is_told source_fits target_fits shown =
      ap (λ (m : List ℕ). if carries_discovery header message && is_discovery header m then told_in from header m else None) whole
      ∙ if_true _ (told_in from header message) None (and_from _ _ carries (counts shown))
      ∙ tells source_fits target_fits

  -- ---- the frame

  is_header : IsHeader6 header
  unfolding number
  is_header = record { class = 0; more = (0 ∷ 0 ∷ 0 ∷ []) ++ number 2 32 ++ (58 ∷ 255 ∷ []) ++ ip6_bytes source ++ to; first = refl; fits = omega arith; long = header_len }

  abbrev pub read_as : Mac → FrameParts
  read_as dst = record { dst = dst; src = from; tags = []; eth_type = 0x86dd; payload = header ++ message; upper = V6 header message }

  pub is_read : (dst : Mac) → length dst.0 ≡ 6 → parts (frame6 dst from 255 (ip6_bytes source) to kind rest) ≡ Some (read_as dst)
  unfolding number
  is_read dst dst_len =
      let upper : upper_parts 0x86dd (header ++ message) ≡ V6 header message = ipv6_is_read header message is_header in
      untagged_is_read dst from 0x86dd (header ++ message) dst_len refl (omega arith) refl
      ∙ ap (λ (u : UpperParts). Some (record { dst = dst; src = from; tags = []; eth_type = 0x86dd; payload = header ++ message; upper = u })) upper
