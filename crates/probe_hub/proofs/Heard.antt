-- What a frame says, as decoding tells it.
use Rattle.std.proofs.Common.{◌≡◌, ℕ, ◌<◌, List, get_or, Some, None, Result, Ok, Err, refl}
use Rattle.of13_codec.specs.declared.message.Message.{Message}
use Rattle.of13_codec.specs.declared.refused.WireRefused.{WireRefused}
use Rattle.of13_codec.specs.Decoding.{decoded}
use Rattle.of13_codec.specs.Spelling.{Spells}
use Rattle.of13_codec.proofs.DecodeLaws.{decode_complete, frame_says}
use Rattle.probe_hub.specs.Frames.{says, says_by}

pub said_as_spelled : (frame : List ℕ) (x : Message × ℕ) → Spells x.0 x.1 frame → Some x ≡ says frame
said_as_spelled frame x spelled = let read = decode_complete x.0 x.1 frame spelled in rw read refl

module _ (frame : List ℕ) (small : (i : ℕ) → get_or frame i 0 < 256) (none : (m : Message) (xid : ℕ) → Spells m xid frame → ⊥) where
  nothing_said : (r : Result (Message × ℕ) WireRefused) → decoded frame ≡ r → None ≡ says_by r
  nothing_said (Err f) is = refl
  nothing_said (Ok y) is = absurd (none y.0 y.1 (frame_says frame (Ok y) small is).0)

  pub nothing_spelled : None ≡ says frame
  nothing_spelled = nothing_said (decoded frame) refl
