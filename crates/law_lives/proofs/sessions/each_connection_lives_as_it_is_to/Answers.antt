use Rattle.std.proofs.Common.{◌≡◌, ℕ, ◌<◌, List, slice_index, Result, Ok, Err, refl, sym, ◌∙◌}
use Rattle.std.specs.Prelude.{◌↔◌}
use Rattle.of13_codec.specs.declared.message.Message.{Message}
use Rattle.of13_codec.specs.declared.refused.WireRefused.{WireRefused}
use Rattle.of13_codec.specs.Decoding.{decoded}
use Rattle.of13_codec.specs.Spelling.{Spells}
use Rattle.ctl_life.specs.Life.{says, says_by}
use Rattle.law_lives.specs.Sessions.{IsSpelled}
use Rattle.law_lives.proofs.Turns.{story_lives}
use Rattle.law_lives.proofs.sessions.each_connection_lives_as_it_is_to.Goals as goal

module _ (law : (frame : List ℕ) → ((i : ℕ) → slice_index frame i < 256) → (m : Message) (xid : ℕ) → (decoded frame ≡ Ok (m, xid)) ↔ Spells m xid frame) where
  spelled : (frame : List ℕ) → ((i : ℕ) → slice_index frame i < 256) → IsSpelled frame (says frame)
  spelled frame bytes = by (decoded frame) refl
    where
      by : (r : Result (Message × ℕ) WireRefused) → decoded frame ≡ r → IsSpelled frame (says_by r)
      by (Ok said) is = (law frame bytes said.0 said.1).0 is
      by (Err why) is = λ m xid spells.
          let read : decoded frame ≡ Ok (m, xid) = (law frame bytes m xid).1 spells in
          let bad : ◌≡◌ {A = Result (Message × ℕ) WireRefused} (Err why) (Ok (m, xid)) = sym is ∙ read in
          absurd (cc)

pub returns : goal.returns
returns c = story_lives c.a_cold_start_is_the_plan_in_key_order.ensures.order (spelled c.a_frame_is_decoded_as_it_is_spelled.ensures.message)
