-- What a frame is decoded to, by what it spells and by what is wrong with it.
use Rattle.std.proofs.Common.{◌≡◌, ◌≢◌, inl, inr, ℕ, ◌<◌, ◌≤◌, ◌==◌, nat_lt, Bool, true, false, cond, not, List, drop, length, Result, Ok, Err, refl, ◌∙◌, ap, arith}
use Rattle.std.specs.Prelude.{slice_index}
use Rattle.std.proofs.lemmas.Bool.Decides.{nat_tests}
use Rattle.of_wire.specs.declared.fault.PartFault.{PartFault}
use Rattle.of_wire.specs.Faults.{IsFirst}
use Rattle.of_wire.specs.Numbers.{number_in}
use Rattle.of_wire.proofs.Told.{one_first}
use Rattle.of13_codec.specs.declared.message.Message.{Message}
use Rattle.of13_codec.specs.declared.refused.WireRefused.{WireRefused}
use Rattle.of13_codec.specs.declared.refused.WireRefused.TheVariants.{Version, Length, Body, Memory}
use Rattle.of13_codec.specs.Decoding.{is_version, body_at, with_xid, decoded}
use Rattle.of13_codec.specs.Faults.{IsVersionOf, FaultInBody, TellsFrame}
use Rattle.of13_codec.specs.Spelling.{Spells}
use Rattle.of13_codec.proofs.DecodeLaws.{frame_says}

abbrev AreBytes : List ℕ → Type 0
AreBytes frame = (i : ℕ) → slice_index frame i < 256

abbrev Answer : Type 0
Answer = Result (Message × ℕ) WireRefused

abbrev refuses : WireRefused → Answer
refuses why = Err why

pub spelled_of : (frame : List ℕ) → AreBytes frame → (m : Message) (xid : ℕ) → decoded frame ≡ Ok (m, xid) → Spells m xid frame
spelled_of frame bytes m xid e = (frame_says frame (Ok (m, xid)) bytes e).0

-- ---- refusals

never_memory : (xid : ℕ) (r : Result Message PartFault) → with_xid xid r ≡ refuses Memory → ⊥
never_memory xid (Ok m) e = cc
never_memory xid (Err f) e = cc

no_memory : (frame : List ℕ) → decoded frame ≡ refuses Memory → ⊥
unfolding decoded
no_memory frame e = by_tests (nat_lt (length frame) 8) (not (is_version (number_in 0 1 frame) (number_in 1 1 frame))) (not (number_in 2 2 frame == length frame)) e
  where
    read : Answer
    read = with_xid (number_in 4 4 frame) (body_at (number_in 0 1 frame) (number_in 1 1 frame) (drop 8 frame))

    by_tests : (few other long : Bool) → cond few (refuses Length) (cond other (refuses Version) (cond long (refuses Length) read)) ≡ refuses Memory → ⊥
    by_tests true other long e = cc
    by_tests false true long e = cc
    by_tests false false true e = cc
    by_tests false false false e = never_memory (number_in 4 4 frame) (body_at (number_in 0 1 frame) (number_in 1 1 frame) (drop 8 frame)) e

pub told_of : (frame : List ℕ) → AreBytes frame → (why : WireRefused) → decoded frame ≡ Err why → (why ≢ Memory) × TellsFrame {X = Message × ℕ} frame (Err why)
told_of frame bytes Length e = (λ same. absurd cc, (frame_says frame (Err Length) bytes e).1)
told_of frame bytes Version e = (λ same. absurd cc, (frame_says frame (Err Version) bytes e).1)
told_of frame bytes (Body f) e = (λ same. absurd cc, (frame_says frame (Err (Body f)) bytes e).1)
told_of frame bytes Memory e = absurd (no_memory frame e)

-- ---- and back

is_right : (version kind : ℕ) → IsVersionOf kind version → is_version version kind ≡ true
is_right version kind v = by_kind (kind == 0) refl
  where
    by_kind : (b : Bool) → kind == 0 ≡ b → cond b (nat_lt 0 version) (version == 4) ≡ true
    by_kind true e = let z : kind ≡ 0 = grind (arith, nat_tests) in let l = v.0 z in grind (arith, nat_tests)
    by_kind false e = let z : kind ≢ 0 = grind (arith, nat_tests) in let f = v.1 z in grind (arith, nat_tests)

is_wrong : (version kind : ℕ) → (IsVersionOf kind version → ⊥) → is_version version kind ≡ false
is_wrong version kind none = by_kind (kind == 0) refl
  where
    when_true : (b : Bool) → (b ≡ true → ⊥) → b ≡ false
    when_true true h = absurd (h refl)
    when_true false h = refl

    by_kind : (b : Bool) → kind == 0 ≡ b → cond b (nat_lt 0 version) (version == 4) ≡ false
    by_kind true e = let z : kind ≡ 0 = grind (arith, nat_tests) in
        when_true (nat_lt 0 version) (λ t. none (λ k. let l : 0 < version = grind (arith, nat_tests) in l, λ other. absurd (other z)))
    by_kind false e = let z : kind ≢ 0 = grind (arith, nat_tests) in
        when_true (version == 4) (λ t. none (λ k. absurd (z k), λ other. let f : version ≡ 4 = grind (arith, nat_tests) in f))

few : (frame : List ℕ) → length frame < 8 → decoded frame ≡ Err Length
unfolding decoded
few frame l = let t : nat_lt (length frame) 8 ≡ true = grind (arith, nat_tests) in rw t refl

wrong_version : (frame : List ℕ) → 8 ≤ length frame → (IsVersionOf (number_in 1 1 frame) (number_in 0 1 frame) → ⊥) → decoded frame ≡ Err Version
unfolding decoded
wrong_version frame l v =
    let t : nat_lt (length frame) 8 ≡ false = grind (arith, nat_tests) in
    let w = is_wrong (number_in 0 1 frame) (number_in 1 1 frame) v in
    rw (t, w) refl

wrong_size : (frame : List ℕ) → IsVersionOf (number_in 1 1 frame) (number_in 0 1 frame) → number_in 2 2 frame ≢ length frame → decoded frame ≡ Err Length
unfolding decoded
wrong_size frame v size = by_length (nat_lt (length frame) 8)
  where
    version : is_version (number_in 0 1 frame) (number_in 1 1 frame) ≡ true
    version = is_right (number_in 0 1 frame) (number_in 1 1 frame) v

    other : number_in 2 2 frame == length frame ≡ false
    other = grind (arith, nat_tests)

    read : Answer
    read = with_xid (number_in 4 4 frame) (body_at (number_in 0 1 frame) (number_in 1 1 frame) (drop 8 frame))

    by_length : (b : Bool) → cond b (refuses Length) (cond (not (is_version (number_in 0 1 frame) (number_in 1 1 frame))) (refuses Version)
        (cond (not (number_in 2 2 frame == length frame)) (refuses Length) read)) ≡ refuses Length
    by_length true = refl
    by_length false = rw (version, other) refl

right_header : (frame : List ℕ) → 8 ≤ length frame → IsVersionOf (number_in 1 1 frame) (number_in 0 1 frame) → number_in 2 2 frame ≡ length frame
    → decoded frame ≡ with_xid (number_in 4 4 frame) (body_at (number_in 0 1 frame) (number_in 1 1 frame) (drop 8 frame))
unfolding decoded
right_header frame l v size =
    let t : nat_lt (length frame) 8 ≡ false = grind (arith, nat_tests) in
    let version = is_right (number_in 0 1 frame) (number_in 1 1 frame) v in
    let same : number_in 2 2 frame == length frame ≡ true = grind (arith, nat_tests) in
    rw (t, version, same) refl

first_told : (frame : List ℕ) → AreBytes frame → (f : PartFault) → IsFirst (FaultInBody (number_in 1 1 frame) (drop 8 frame)) f
    → (r : Result Message PartFault) → decoded frame ≡ with_xid (number_in 4 4 frame) r → decoded frame ≡ Err (Body f)
first_told frame bytes f first (Ok m) e = absurd ((frame_says frame (Ok (m, number_in 4 4 frame)) bytes e).1 f.at f.cause first.there)
first_told frame bytes f first (Err g) e =
    e ∙ ap (λ (h : PartFault). refuses (Body h)) (one_first (FaultInBody (number_in 1 1 frame) (drop 8 frame)) g f (frame_says frame (Err (Body g)) bytes e).1.3 first)

pub refused_of : (frame : List ℕ) → AreBytes frame → (why : WireRefused) → (why ≢ Memory) × TellsFrame {X = Message × ℕ} frame (Err why) → decoded frame ≡ Err why
refused_of frame bytes Length (other, inl l) = few frame l
refused_of frame bytes Length (other, inr w) = wrong_size frame w.0 w.1
refused_of frame bytes Version (other, w) = wrong_version frame w.0 w.1
refused_of frame bytes (Body f) (other, w) = first_told frame bytes f w.3 (body_at (number_in 0 1 frame) (number_in 1 1 frame) (drop 8 frame)) (right_header frame w.0 w.1 w.2)
refused_of frame bytes Memory (other, w) = absurd (other refl)
