-- A frame is its parts in a row.
use Rattle.std.proofs.Common.{◌≡◌, ℕ, ◌+◌, ◌*◌, ◌-◌, ◌/◌, ◌%◌, ◌<◌, ◌≤◌, Bool, true, false, not, nat_le, List, [], ◌∷◌, ◌++◌, length, take, drop, get_or, refl, sym, ap, ◌∙◌, arith, length-drop, get_or-drop, append_assoc, IfSome, Option, Some, None}
use Rattle.std.specs.Prelude.{All}
use Rattle.std.proofs.lemmas.Bool.{leb-true}
use Rattle.std.proofs.lemmas.List.{drop-drop, take-append-drop}
use Rattle.pkt_view.proofs.Choice.{by_if, and_left, and_right}
use Rattle.pkt_view.specs.Numbers.{number_at, number}
use Rattle.pkt_view.specs.Frame.{FrameParts, is_tag_type, type_place, has_type, parts_with, parts}

pub not_true : (b : Bool) → not b ≡ true → b ≡ false
not_true true e = absurd (cc e)
not_true false e = refl

front_back : (bytes : List ℕ) → 2 ≤ length bytes → get_or bytes 0 0 < 256 → get_or bytes 1 0 < 256 → number 2 (number_at 2 0 bytes) ≡ take 2 bytes
unfolding number number_at
front_back [] h p q = absurd (omega (arith, h))
front_back (a ∷ []) h p q = absurd (omega (arith, h))
front_back (a ∷ b ∷ more) h p q =
    let v = a * 256 + (b * 1 + 0) in
    let high : v / 256 % 256 ≡ a = omega (arith, p, q) in
    let low : v % 256 ≡ b = omega (arith, p, q) in
    λ i. high i ∷ low i ∷ []

front_back_4 : (bytes : List ℕ) → 4 ≤ length bytes → get_or bytes 0 0 < 256 → get_or bytes 1 0 < 256 → get_or bytes 2 0 < 256 → get_or bytes 3 0 < 256 → number 4 (number_at 4 0 bytes) ≡ take 4 bytes
unfolding number number_at
front_back_4 [] h p q r t = absurd (omega (arith, h))
front_back_4 (a ∷ []) h p q r t = absurd (omega (arith, h))
front_back_4 (a ∷ b ∷ []) h p q r t = absurd (omega (arith, h))
front_back_4 (a ∷ b ∷ c ∷ []) h p q r t = absurd (omega (arith, h))
front_back_4 (a ∷ b ∷ c ∷ d ∷ more) h p q r t =
    let v = a * 16777216 + (b * 65536 + (c * 256 + (d * 1 + 0))) in
    let first : v / 16777216 % 256 ≡ a = omega (arith, p, q, r, t) in
    let second : v / 65536 % 256 ≡ b = omega (arith, p, q, r, t) in
    let third : v / 256 % 256 ≡ c = omega (arith, p, q, r, t) in
    let last : v % 256 ≡ d = omega (arith, p, q, r, t) in
    λ i. first i ∷ second i ∷ third i ∷ last i ∷ []

pub number_back : (at : ℕ) (bytes : List ℕ) → at + 2 ≤ length bytes → All (λ b. b < 256) bytes → number 2 (number_at 2 at bytes) ≡ take 2 (drop at bytes)
unfolding number_at
number_back at bytes h all =
    let first : get_or bytes (at + 0) 0 < 256 = all (at + 0) 0 (omega (arith, h)) in
    let second : get_or bytes (at + 1) 0 < 256 = all (at + 1) 0 (omega (arith, h)) in
    front_back (drop at bytes) (omega (arith, h, length-drop at bytes)) (omega (arith, first, get_or-drop at bytes 0 0)) (omega (arith, second, get_or-drop at bytes 1 0))

pub number_back_4 : (at : ℕ) (bytes : List ℕ) → at + 4 ≤ length bytes → All (λ b. b < 256) bytes → number 4 (number_at 4 at bytes) ≡ take 4 (drop at bytes)
unfolding number_at
number_back_4 at bytes h all =
    let byte : (i : ℕ) → i < 4 → get_or (drop at bytes) i 0 < 256 = λ i below. let here : get_or bytes (at + i) 0 < 256 = all (at + i) 0 (omega (arith, h, below)) in omega (arith, here, get_or-drop at bytes i 0) in
    front_back_4 (drop at bytes) (omega (arith, h, length-drop at bytes)) (byte 0 (omega arith)) (byte 1 (omega arith)) (byte 2 (omega arith)) (byte 3 (omega arith))

in_a_row : (d s t n p d6 d12 da frame : List ℕ) → d ++ d6 ≡ frame → s ++ d12 ≡ d6 → t ++ da ≡ d12 → n ++ p ≡ da → frame ≡ d ++ s ++ t ++ n ++ p
in_a_row d s t n p d6 d12 da frame e f g h =
    sym (append_assoc (d ++ s ++ t) n p ∙ ap (λ (l : List ℕ). (d ++ s ++ t) ++ l) h ∙ append_assoc (d ++ s) t da ∙ ap (λ (l : List ℕ). (d ++ s) ++ l) g ∙ append_assoc d s d12 ∙ ap (λ (l : List ℕ). d ++ l) f ∙ e)

pub split : (m at : ℕ) (bytes : List ℕ) → take m (drop at bytes) ++ drop (at + m) bytes ≡ drop at bytes
split m at bytes =
    ap (λ (l : List ℕ). take m (drop at bytes) ++ l) (sym (drop-drop m at bytes)) ∙ take-append-drop m (drop at bytes)

row_of : (frame : List ℕ) (at : ℕ) → 12 ≤ at → at + 2 ≤ length frame → All (λ b. b < 256) frame → frame ≡ take 6 frame ++ take 6 (drop 6 frame) ++ take (at - 12) (drop 12 frame) ++ number 2 (number_at 2 at frame) ++ drop (at + 2) frame
row_of frame at least within all =
    let place : 12 + (at - 12) ≡ at = omega (arith, least) in
    let tags : take (at - 12) (drop 12 frame) ++ drop at frame ≡ drop 12 frame =
    ap (λ (k : ℕ). take (at - 12) (drop 12 frame) ++ drop k frame) (sym place) ∙ split (at - 12) 12 frame in
    let kind : number 2 (number_at 2 at frame) ++ drop (at + 2) frame ≡ drop at frame =
    ap (λ (l : List ℕ). l ++ drop (at + 2) frame) (number_back at frame within all) ∙ split 2 at frame in
    in_a_row (take 6 frame) (take 6 (drop 6 frame)) (take (at - 12) (drop 12 frame)) (number 2 (number_at 2 at frame)) (drop (at + 2) frame) (drop 6 frame) (drop 12 frame) (drop at frame) frame (take-append-drop 6 frame) (split 6 6 frame) tags kind

pub frame_in_a_row : (frame : List ℕ) → All (λ b. b < 256) frame → IfSome (parts frame) (λ p. frame ≡ p.dst.0 ++ p.src.0 ++ p.tags ++ number 2 p.eth_type ++ p.payload)
unfolding parts
frame_in_a_row frame all =
    let P : Option FrameParts → Type 0 = λ o. IfSome o (λ p. frame ≡ p.dst.0 ++ p.src.0 ++ p.tags ++ number 2 p.eth_type ++ p.payload) in
    by_if P (has_type frame) (Some (parts_with (type_place frame) frame)) None (λ e. row_of frame (type_place frame) (omega arith) (leb-true (type_place frame + 2) (length frame) (and_left _ _ e)) all) (λ _. tt)

pub type_shows_no_tag : (frame : List ℕ) → IfSome (parts frame) (λ p. is_tag_type p.eth_type ≡ false)
unfolding parts
type_shows_no_tag frame =
    let P : Option FrameParts → Type 0 = λ o. IfSome o (λ p. is_tag_type p.eth_type ≡ false) in
    by_if P (has_type frame) (Some (parts_with (type_place frame) frame)) None (λ e. not_true (is_tag_type (number_at 2 (type_place frame) frame)) (and_right (nat_le (type_place frame + 2) (length frame)) _ e)) (λ _. tt)

-- ---- fields that stand in bytes, joined from the last to the first

two_there : (bytes : List ℕ) → 2 ≤ length bytes → get_or bytes 0 0 ∷ get_or bytes 1 0 ∷ [] ≡ take 2 bytes
two_there [] h = absurd (omega (arith, h))
two_there (a ∷ []) h = absurd (omega (arith, h))
two_there (a ∷ b ∷ more) h = refl

-- two bytes that stand at a place
pub two_bytes : (at : ℕ) (bytes : List ℕ) (a b : ℕ) → at + 2 ≤ length bytes → a ≡ get_or bytes at 0 → b ≡ get_or bytes (at + 1) 0 → a ∷ b ∷ [] ≡ take 2 (drop at bytes)
two_bytes at bytes a b h e f =
    let here : get_or bytes (at + 0) 0 ≡ get_or bytes at 0 = ap (λ (i : ℕ). get_or bytes i 0) (omega arith) in
    let first : a ≡ get_or (drop at bytes) 0 0 = omega (arith, e, here, get_or-drop at bytes 0 0) in
    let second : b ≡ get_or (drop at bytes) 1 0 = omega (arith, f, get_or-drop at bytes 1 0) in
    (λ i. first i ∷ second i ∷ []) ∙ two_there (drop at bytes) (omega (arith, h, length-drop at bytes))

-- a field in front of what follows it
pub joined : (before field : List ℕ) (len at next : ℕ) (bytes : List ℕ) → at + len ≡ next → field ≡ take len (drop at bytes) → before ++ field ++ drop next bytes ≡ before ++ drop at bytes
joined before field len at next bytes e f =
    append_assoc before field (drop next bytes) ∙ ap (λ (l : List ℕ). before ++ l) (ap (λ (l : List ℕ). l ++ drop next bytes) f ∙ ap (λ (k : ℕ). take len (drop at bytes) ++ drop k bytes) (sym e) ∙ split len at bytes)
