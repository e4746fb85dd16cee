-- Ports and their counters are read exactly where they are spelled.
use Rattle.std.proofs.Common.{◌≡◌, ℕ, ◌≤◌, List, [], ◌∷◌, ◌++◌, length, take, drop, get_or, slice_index, refl, sym, ap, ◌∙◌, arith}
use Rattle.std.proofs.lemmas.List.{length-drop, length-take-le, take-append-le, take_all, drop-append-le, get_or_append_left, get_or-drop}
use Rattle.of_wire.specs.Numbers.{number_in}
use Rattle.of_wire.proofs.Grammars.{AreBytes, number_then, ignored_then, front_then, number_again, ignored_again, front_again, number_of_front}
use Rattle.of13_codec.specs.declared.ports.PortDesc.{PortDesc}
use Rattle.of13_codec.specs.Decoding.{port_of}
use Rattle.of13_codec.specs.Spelling.{SpellsPort, Raw}
use Rattle.of13_codec.proofs.ItemLaws.{IsItem}

six : (ys : List ℕ) → 6 ≤ length ys → take 6 ys ≡ get_or ys 0 0 ∷ get_or ys 1 0 ∷ get_or ys 2 0 ∷ get_or ys 3 0 ∷ get_or ys 4 0 ∷ get_or ys 5 0 ∷ []
six [] h = absurd (omega arith)
six (a ∷ []) h = absurd (omega arith)
six (a ∷ b ∷ []) h = absurd (omega arith)
six (a ∷ b ∷ c ∷ []) h = absurd (omega arith)
six (a ∷ b ∷ c ∷ d ∷ []) h = absurd (omega arith)
six (a ∷ b ∷ c ∷ d ∷ e ∷ []) h = absurd (omega arith)
six (a ∷ b ∷ c ∷ d ∷ e ∷ f ∷ rest) h = refl

address : (xs : List ℕ) → 14 ≤ length xs → take 6 (drop 8 xs) ≡ slice_index xs 8 ∷ slice_index xs 9 ∷ slice_index xs 10 ∷ slice_index xs 11 ∷ slice_index xs 12 ∷ slice_index xs 13 ∷ []
address xs h =
    let a = get_or-drop 8 xs 0 0 in let b = get_or-drop 8 xs 1 0 in let c = get_or-drop 8 xs 2 0 in
    let d = get_or-drop 8 xs 3 0 in let e = get_or-drop 8 xs 4 0 in let f = get_or-drop 8 xs 5 0 in
    six (drop 8 xs) (omega (arith, length-drop 8 xs)) ∙ (λ i. a i ∷ b i ∷ c i ∷ d i ∷ e i ∷ f i ∷ [])

pub port_sound : (xs : List ℕ) → AreBytes xs → length xs ≡ 64 → SpellsPort (port_of xs) xs
unfolding port_of
port_sound xs h len =
    number_then 0 4 (number_in 0 4 xs) _ xs h (omega arith) refl (
    ignored_then 4 4 _ xs (omega arith) (
    front_then (Raw 6 _) _ 8 6 xs (length-take-le 6 (drop 8 xs) (omega (arith, length-drop 8 xs)), address xs (omega arith)) (
    ignored_then 14 2 _ xs (omega arith) (
    front_then (Raw 16 _) _ 16 16 xs (length-take-le 16 (drop 16 xs) (omega (arith, length-drop 16 xs)), refl) (
    number_then 32 4 (number_in 32 4 xs) _ xs h (omega arith) refl (
    number_then 36 4 (number_in 36 4 xs) _ xs h (omega arith) refl (
      omega (arith, length-drop 40 xs),
      sym (take_all 24 (drop 40 xs) (omega (arith, length-drop 40 xs))),
    )))))))

pub port_complete : (p : PortDesc) (xs : List ℕ) → SpellsPort p xs → (port_of xs ≡ p) × (length xs ≡ 64)
unfolding port_of
port_complete p xs s =
    let a = number_again 0 4 p.no _ xs s in
    let b = ignored_again 4 4 _ xs a.behind in
    let c = front_again (Raw 6 p.hw.0) _ 8 6 xs b.1 b.1.in_front.0 in
    let d = ignored_again 14 2 _ xs c.2 in
    let e = front_again (Raw 16 p.name) _ 16 16 xs d.1 d.1.in_front.0 in
    let f = number_again 32 4 p.config _ xs e.2 in
    let g = number_again 36 4 p.state _ xs f.behind in
    let len : length xs ≡ 64 = omega (arith, a.size, b.0, c.1, d.0, e.1, f.size, g.size, g.behind.0) in
    let hw : slice_index xs 8 ∷ slice_index xs 9 ∷ slice_index xs 10 ∷ slice_index xs 11 ∷ slice_index xs 12 ∷ slice_index xs 13 ∷ [] ≡ p.hw.0 = sym (address xs (omega arith)) ∙ c.0.1 in
    let rest : take 24 (drop 40 xs) ≡ p.rest = take_all 24 (drop 40 xs) (omega (arith, length-drop 40 xs)) ∙ g.behind.1 in
    let same : port_of xs ≡ p = λ i. record { no = a.value i; hw = record { 0 = hw i }; name = e.0.1 i; config = f.value i; state = g.value i; rest = rest i } in
    (same, len)

-- a port reads no byte behind its 64
pub port_front : (xs ys : List ℕ) → length xs ≡ 64 → port_of (xs ++ ys) ≡ port_of xs
unfolding port_of
port_front xs ys len =
    let a = number_of_front 0 4 xs ys (omega arith) in let b = number_of_front 32 4 xs ys (omega arith) in let c = number_of_front 36 4 xs ys (omega arith) in
    let h8 = get_or_append_left xs ys 0 8 (omega arith) in let h9 = get_or_append_left xs ys 0 9 (omega arith) in let h10 = get_or_append_left xs ys 0 10 (omega arith) in
    let h11 = get_or_append_left xs ys 0 11 (omega arith) in let h12 = get_or_append_left xs ys 0 12 (omega arith) in let h13 = get_or_append_left xs ys 0 13 (omega arith) in
    let n : take 16 (drop 16 (xs ++ ys)) ≡ take 16 (drop 16 xs) = ap (take 16) (drop-append-le 16 xs ys (omega arith)) ∙ take-append-le 16 (drop 16 xs) ys (omega (arith, length-drop 16 xs)) in
    let r : take 24 (drop 40 (xs ++ ys)) ≡ take 24 (drop 40 xs) = ap (take 24) (drop-append-le 40 xs ys (omega arith)) ∙ take-append-le 24 (drop 40 xs) ys (omega (arith, length-drop 40 xs)) in
    let same : port_of (xs ++ ys) ≡ port_of xs = λ i. record { no = a i; hw = record { 0 = h8 i ∷ h9 i ∷ h10 i ∷ h11 i ∷ h12 i ∷ h13 i ∷ [] }; name = n i; config = b i; state = c i; rest = r i } in
    same

pub port_is_item : IsItem SpellsPort 64 port_of
port_is_item = record { some = omega arith; sound = port_sound; complete = port_complete; front = port_front }
