-- What stands at the front of bytes, and where more bytes are behind it.
use Rattle.std.proofs.Common.{◌≡◌, ℕ, ◌<◌, ◌≤◌, true, false, List, ◌++◌, length, take, drop, ltb, nat_lt, refl, sym, ap, ◌∙◌, inl, inr, arith, length-append, length-drop}
use Rattle.std.proofs.lemmas.Bool.{cases_Bool, le-ltb, lt-ltb, ltb-false, ltb-true}
use Rattle.std.proofs.lemmas.List.{drop-append-le, take-append-le}
use Rattle.switch_session.specs.Frames.{told_length}
use Rattle.switch_session.proofs.FrameLemmas.{told-append}
use Rattle.ctl_world.specs.declared.frames.Front.TheVariants.{Part, Frame, Bad}
use Rattle.ctl_world.specs.Frames.{behind_frame, front}

-- a frame
pub record IsWhole (bytes : List ℕ) : Type 0 where
  pub header : 8 ≤ told_length bytes
  pub all : told_length bytes ≤ length bytes

-- a header that tells less than its own length
pub record IsBad (bytes : List ℕ) : Type 0 where
  pub header : 8 ≤ length bytes
  pub small : told_length bytes < 8

pub data Fronts (bytes : List ℕ) : Type 0 where
  part : front bytes ≡ Part → Fronts bytes
  whole : IsWhole bytes → Fronts bytes
  bad : IsBad bytes → Fronts bytes

pub fronts : (bytes : List ℕ) → Fronts bytes
fronts bytes =
    elim (cases_Bool (nat_lt (length bytes) 8)) [
      | inl short ↦ part (rw short refl)
      | inr long ↦ elim (cases_Bool (nat_lt (told_length bytes) 8)) [
        | inl small ↦ bad (record { header = ltb-false (length bytes) 8 long; small = ltb-true (told_length bytes) 8 small })
        | inr fine ↦ elim (cases_Bool (nat_lt (length bytes) (told_length bytes))) [
          | inl begun ↦ part (rw (long, fine, begun) refl)
          | inr all ↦ whole (record { header = ltb-false (told_length bytes) 8 fine; all = ltb-false (length bytes) (told_length bytes) all })
        ]
      ]
    ]

-- ---- a frame

pub whole_front : (bytes : List ℕ) → IsWhole bytes → front bytes ≡ Frame (take (told_length bytes) bytes)
whole_front bytes is =
    let h : 8 ≤ told_length bytes = is.header in
    let a : told_length bytes ≤ length bytes = is.all in
    let long : ltb (length bytes) 8 ≡ false = le-ltb (length bytes) 8 (omega arith) in
    let fine : ltb (told_length bytes) 8 ≡ false = le-ltb (told_length bytes) 8 h in
    let all : ltb (length bytes) (told_length bytes) ≡ false = le-ltb (length bytes) (told_length bytes) a in
    rw (long, fine, all) refl

pub whole_behind : (bytes : List ℕ) → IsWhole bytes → behind_frame bytes ≡ drop (told_length bytes) bytes
whole_behind bytes is = let e = whole_front bytes is in rw e refl

pub whole_shorter : (bytes : List ℕ) → IsWhole bytes → length (behind_frame bytes) < length bytes
whole_shorter bytes is =
    let h : 8 ≤ told_length bytes = is.header in
    let a : told_length bytes ≤ length bytes = is.all in
    omega (arith, ap length (whole_behind bytes is), length-drop (told_length bytes) bytes)

module _ (bytes more : List ℕ) (is : IsWhole bytes) where
  tells : told_length (bytes ++ more) ≡ told_length bytes
  tells =
      let h : 8 ≤ told_length bytes = is.header in
      let a : told_length bytes ≤ length bytes = is.all in
      told-append bytes more (omega arith)

  pub whole_more : IsWhole (bytes ++ more)
  whole_more =
      let h : 8 ≤ told_length bytes = is.header in
      let a : told_length bytes ≤ length bytes = is.all in
      record { header = omega (arith, tells); all = omega (arith, tells, length-append bytes more) }

  pub front_more : front (bytes ++ more) ≡ front bytes
  front_more =
      whole_front (bytes ++ more) whole_more ∙ ap (λ n. Frame (take n (bytes ++ more))) tells ∙ ap Frame (take-append-le (told_length bytes) bytes more is.all)
      ∙ sym (whole_front bytes is)

  pub behind_more : behind_frame (bytes ++ more) ≡ behind_frame bytes ++ more
  behind_more =
      whole_behind (bytes ++ more) whole_more ∙ ap (λ n. drop n (bytes ++ more)) tells ∙ drop-append-le (told_length bytes) bytes more is.all
      ∙ ap (λ l. l ++ more) (sym (whole_behind bytes is))

-- ---- a bad header

pub bad_front : (bytes : List ℕ) → IsBad bytes → front bytes ≡ Bad
bad_front bytes is =
    let long : ltb (length bytes) 8 ≡ false = le-ltb (length bytes) 8 is.header in
    let small : ltb (told_length bytes) 8 ≡ true = lt-ltb (told_length bytes) 8 is.small in
    rw (long, small) refl

pub bad_more : (bytes more : List ℕ) → IsBad bytes → IsBad (bytes ++ more)
bad_more bytes more is =
    let h : 8 ≤ length bytes = is.header in
    let s : told_length bytes < 8 = is.small in
    let tells : told_length (bytes ++ more) ≡ told_length bytes = told-append bytes more h in
    record { header = omega (arith, length-append bytes more); small = omega (arith, tells) }
