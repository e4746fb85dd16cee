-- Tags that stand in a row, one by one.
use Rattle.std.proofs.Common.{◌≡◌, ℕ, suc, ◌+◌, ◌*◌, ◌<◌, ◌≤◌, true, false, List, [], ◌∷◌, length, drop, refl, ap, ◌∙◌, arith, length-drop, ◌++◌, append_assoc}
use Rattle.std.proofs.lemmas.List.{drop-drop}
use Rattle.pkt_view.specs.Numbers.{number_at}
use Rattle.pkt_view.specs.Frame.{is_tag_type, tag_count}
use Rattle.of_match.specs.declared.packet.Tag.{Tag}
use Rattle.pkt_view.specs.Packets.{tag_of, tags_of}

pub front_more : (bytes : List ℕ) → 4 ≤ length bytes → is_tag_type (number_at 2 0 bytes) ≡ true → tag_count bytes ≡ suc (tag_count (drop 4 bytes))
unfolding tag_count
front_more [] h t = absurd (omega (arith, h))
front_more (a ∷ []) h t = absurd (omega (arith, h))
front_more (a ∷ b ∷ []) h t = absurd (omega (arith, h))
front_more (a ∷ b ∷ c ∷ []) h t = absurd (omega (arith, h))
front_more (a ∷ b ∷ c ∷ d ∷ more) h t = rw t refl

pub front_end : (bytes : List ℕ) → is_tag_type (number_at 2 0 bytes) ≡ false → tag_count bytes ≡ 0
unfolding tag_count
front_end [] t = refl
front_end (a ∷ []) t = refl
front_end (a ∷ b ∷ []) t = refl
front_end (a ∷ b ∷ c ∷ []) t = refl
front_end (a ∷ b ∷ c ∷ d ∷ more) t = rw t refl

pub front_short : (bytes : List ℕ) → length bytes < 4 → tag_count bytes ≡ 0
unfolding tag_count
front_short [] h = refl
front_short (a ∷ []) h = refl
front_short (a ∷ b ∷ []) h = refl
front_short (a ∷ b ∷ c ∷ []) h = refl
front_short (a ∷ b ∷ c ∷ d ∷ more) h = absurd (omega (arith, h))

number-drop : (at : ℕ) (bytes : List ℕ) → number_at 2 0 (drop at bytes) ≡ number_at 2 at bytes
unfolding number_at
number-drop at bytes = refl

pub tags_more : (bytes : List ℕ) (at : ℕ) → at + 4 ≤ length bytes → is_tag_type (number_at 2 at bytes) ≡ true → 4 * tag_count (drop at bytes) ≡ 4 + 4 * tag_count (drop (at + 4) bytes)
tags_more bytes at h t =
    let one : tag_count (drop at bytes) ≡ suc (tag_count (drop 4 (drop at bytes))) = front_more (drop at bytes) (omega (arith, h, length-drop at bytes)) (ap is_tag_type (number-drop at bytes) ∙ t) in
    let rest : tag_count (drop 4 (drop at bytes)) ≡ tag_count (drop (at + 4) bytes) = ap tag_count (drop-drop 4 at bytes) in
    omega (arith, one, rest)

pub tags_end : (bytes : List ℕ) (at : ℕ) → is_tag_type (number_at 2 at bytes) ≡ false → tag_count (drop at bytes) ≡ 0
tags_end bytes at t = front_end (drop at bytes) (ap is_tag_type (number-drop at bytes) ∙ t)

pub tags_short : (bytes : List ℕ) (at : ℕ) → length bytes < at + 4 → tag_count (drop at bytes) ≡ 0
tags_short bytes at h = front_short (drop at bytes) (omega (arith, h, length-drop at bytes))

-- ---- the tags themselves

list_more : (bytes : List ℕ) → 4 ≤ length bytes → tags_of bytes ≡ tag_of bytes ∷ tags_of (drop 4 bytes)
unfolding tags_of
list_more [] h = absurd (omega (arith, h))
list_more (a ∷ []) h = absurd (omega (arith, h))
list_more (a ∷ b ∷ []) h = absurd (omega (arith, h))
list_more (a ∷ b ∷ c ∷ []) h = absurd (omega (arith, h))
list_more (a ∷ b ∷ c ∷ d ∷ more) h = refl

list_short : (bytes : List ℕ) → length bytes < 4 → tags_of bytes ≡ []
unfolding tags_of
list_short [] h = refl
list_short (a ∷ []) h = refl
list_short (a ∷ b ∷ []) h = refl
list_short (a ∷ b ∷ c ∷ []) h = refl
list_short (a ∷ b ∷ c ∷ d ∷ more) h = absurd (omega (arith, h))

pub tags_of-more : (bytes : List ℕ) (at : ℕ) → at + 4 ≤ length bytes → tags_of (drop at bytes) ≡ tag_of (drop at bytes) ∷ tags_of (drop (at + 4) bytes)
tags_of-more bytes at h =
    list_more (drop at bytes) (omega (arith, h, length-drop at bytes)) ∙ ap (λ rest. tag_of (drop at bytes) ∷ tags_of rest) (drop-drop 4 at bytes)

pub tags_of-short : (bytes : List ℕ) (at : ℕ) → length bytes < at + 4 → tags_of (drop at bytes) ≡ []
tags_of-short bytes at h = list_short (drop at bytes) (omega (arith, h, length-drop at bytes))

-- a tag behind the tags so far
pub joined : (sofar all rest : List Tag) (tag : Tag) (new : List Tag) → new ≡ sofar ++ tag ∷ [] → sofar ++ tag ∷ rest ≡ all → new ++ rest ≡ all
joined sofar all rest tag new n e = ap (λ tags. tags ++ rest) n ∙ append_assoc sofar (tag ∷ []) rest ∙ e
