-- Texts that are written one behind the other.
use Rattle.std.proofs.Common.{◌≡◌, ℕ, ◌+◌, ◌<◌, List, ◌++◌, length, get_or, take, drop, Option, Result, Ok, Err, OnErr, sym, ap, ◌∙◌, append_assoc}
use Rattle.std.proofs.lemmas.List.{take-append-drop, at_drop_more}
use Rattle.std.proofs.lemmas.List.Concat.{flat_map-append}
use Rattle.std.specs.Borrow.{Bor}
use Rattle.std.specs.List.{flat_map}
use Rattle.fg_outside.specs.Wrote.{appended, AppendsFront}
use Rattle.fg_outside.proofs.SinkLemmas.{AppendsFront-first, AppendsFront-second}

abbrev pub texts : List (Bor (List ℕ)) → List ℕ
texts pieces = flat_map (λ piece. piece.now) pieces

-- the pieces before a place, the piece there, and those behind it
parted : (pieces : List (Bor (List ℕ))) (i : ℕ) (d : Bor (List ℕ)) → i < length pieces → (texts (take i pieces) ++ (get_or pieces i d).now) ++ texts (drop (i + 1) pieces) ≡ texts pieces
parted pieces i d h =
    append_assoc (texts (take i pieces)) (get_or pieces i d).now (texts (drop (i + 1) pieces))
    ∙ ap (λ (l : List ℕ). texts (take i pieces) ++ l) (sym (at_drop_more texts pieces i d h))
    ∙ sym (flat_map-append (λ (piece : Bor (List ℕ)). piece.now) (take i pieces) (drop i pieces))
    ∙ ap texts (take-append-drop i pieces)

-- a front of the piece at a place, behind those before it, is a front of all
pub front_within : (old mid new : Option (List ℕ)) (pieces : List (Bor (List ℕ))) (i : ℕ) (d : Bor (List ℕ)) (piece : List ℕ) → i < length pieces → piece ≡ (get_or pieces i d).now → mid ≡ appended old (texts (take i pieces)) → AppendsFront mid new piece → AppendsFront old new (texts pieces)
front_within old mid new pieces i d piece h is so_far front =
    let here : AppendsFront mid new (get_or pieces i d).now = rw (← is) front in
    let all = AppendsFront-first old new (texts (take i pieces) ++ (get_or pieces i d).now) (texts (drop (i + 1) pieces)) (AppendsFront-second old mid new (texts (take i pieces)) (get_or pieces i d).now so_far here) in
    rw (parted pieces i d h) at all

pub on_err : {A E : Type 0} {P : Type 0} (r : Result A E) → P → OnErr r P
on_err (Ok x) p = tt
on_err (Err e) p = p
