-- What decoding answers, against the grammar.
use Rattle.std.proofs.Common.{◌≡◌, ℕ, ◌≤◌, ◌++◌, List, [], length, Result, Ok, Err, arith}
use Rattle.std.specs.Result.{OnOk}
use Rattle.std.proofs.lemmas.List.{length-append, nil_from_length}
use Rattle.of_wire.specs.Numbers.{number_in}
use Rattle.of_wire.proofs.Chosen.{one_answer}
use Rattle.of_wire.proofs.Grammars.{number_again, number_of_front}
use Rattle.of13_codec.specs.declared.message.Message.{Message}
use Rattle.of13_codec.specs.declared.refused.WireRefused.{WireRefused}
use Rattle.of13_codec.specs.declared.refused.WireRefused.TheVariants.{Version, Length, Body, Memory}
use Rattle.of13_codec.specs.Decoding.{decoded, Decodes}
use Rattle.of13_codec.specs.Messages.{version_of, kind_of}
use Rattle.of13_codec.specs.Spelling.{Spells}
use Rattle.of13_codec.specs.Faults.{Answers}
use Rattle.of13_codec.proofs.DecodeLaws.{decode_complete}

refused_and_read : {A : Type 0} (frame : List ℕ) (f : WireRefused) (m : Message) (xid : ℕ) → decoded frame ≡ Err f → Spells m xid frame → A
refused_and_read frame f m xid e p = let read = decode_complete m xid frame p in absurd (cc)

pub frame_read : (frame : List ℕ) (r : Result (Message × ℕ) WireRefused) → Decodes r (decoded frame) → (m : Message) (xid : ℕ) → Spells m xid frame → Answers (m, xid) r
frame_read frame (Ok y) e m xid p = one_answer (decoded frame) y (m, xid) e (decode_complete m xid frame p)
frame_read frame (Err Memory) e m xid p = tt
frame_read frame (Err Version) e m xid p = refused_and_read frame Version m xid e p
frame_read frame (Err Length) e m xid p = refused_and_read frame Length m xid e p
frame_read frame (Err (Body f)) e m xid p = refused_and_read frame (Body f) m xid e p

-- a frame says how long it is
length_told : (m : Message) (xid : ℕ) (frame : List ℕ) → Spells m xid frame → (4 ≤ length frame) × (number_in 2 2 frame ≡ length frame)
length_told m xid frame p =
    let a = number_again 0 1 (version_of m) _ frame p.parts in
    let b = number_again 1 1 (kind_of m) _ frame a.behind in
    let c = number_again 2 2 (length frame) _ frame b.behind in
    (omega (arith, a.size, b.size, c.size), c.value)

pub no_spelling_goes_on : (m n : Message) (x y : ℕ) (bytes rest : List ℕ) → Spells m x bytes → Spells n y (bytes ++ rest) → rest ≡ []
no_spelling_goes_on m n x y bytes rest p q =
    let a = length_told m x bytes p in
    let b = length_told n y (bytes ++ rest) q in
    let same = number_of_front 2 2 bytes rest a.0 in
    nil_from_length rest (omega (arith, length-append bytes rest, a.1, b.1, same))

pub on_ok : {X E : Type 0} (r : Result X E) (P Q : Type 0) → (P → Q) → OnOk r P → OnOk r Q
on_ok (Ok x) P Q f p = f p
on_ok (Err e) P Q f p = tt
