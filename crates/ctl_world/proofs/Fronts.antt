-- The frame at the front of the bytes that came.
use Rattle.std.proofs.Common.{◌≡◌, ℕ, false, List, ◌++◌, length, take, drop, ltb, ap, ◌∙◌, arith, length-append}
use Rattle.std.proofs.lemmas.Bool.{le-ltb}
use Rattle.std.proofs.Math.Seq.{take-append_seam, drop-append_seam}
use Rattle.switch_session.specs.Frames.{told_length, IsFrame}
use Rattle.switch_session.proofs.FrameLemmas.{told-append}
use Rattle.ctl_world.specs.declared.frames.Front.TheVariants.{Frame}
use Rattle.ctl_world.specs.Frames.{behind_frame, front}

module _ (bytes frame rest : List ℕ) (is : IsFrame frame) (whole : bytes ≡ frame ++ rest) where
  tells : told_length bytes ≡ length frame
  tells = ap told_length whole ∙ told-append frame rest is.header ∙ is.whole

  long : length bytes ≡ length (frame ++ rest)
  long = ap length whole

  at_all : ltb (length bytes) 8 ≡ false
  at_all = let n = length-append frame rest in let h = is.header in le-ltb (length bytes) 8 (omega (arith, long))

  not_bad : ltb (told_length bytes) 8 ≡ false
  not_bad = let h = is.header in le-ltb (told_length bytes) 8 (omega (arith, tells))

  not_part : ltb (length bytes) (told_length bytes) ≡ false
  not_part = let n = length-append frame rest in le-ltb (length bytes) (told_length bytes) (omega (arith, long, tells))

  taken : take (told_length bytes) bytes ≡ frame
  taken = ap (λ n. take n bytes) tells ∙ ap (take (length frame)) whole ∙ take-append_seam frame rest

  pub is_front : front bytes ≡ Frame frame
  is_front = rw (at_all, not_bad, not_part) (ap Frame taken)

  pub is_behind : behind_frame bytes ≡ rest
  is_behind = rw is_front (ap (λ n. drop n bytes) tells ∙ ap (drop (length frame)) whole ∙ drop-append_seam frame rest)
