-- A connection that is closed while bytes are heard isn't open behind that, and the moment stays.
use Rattle.std.proofs.Common.{◌≡◌, ℕ, zero, suc, ◌==◌, true, false, None, List, [], ◌∷◌, ◌++◌, length, inl, inr, refl, sym, ap, ◌∙◌, if◌then◌else◌}
use Rattle.std.proofs.lemmas.Bool.{cases_Bool, eqb-true, or_cases}
use Rattle.fg_outside.specs.declared.hub.Happening.TheVariants.{Heard}
use Rattle.switch_session.specs.declared.closing.Closing.{Closing}
use Rattle.ctl_world.specs.declared.conns.Conn.{Conn}
use Rattle.ctl_world.specs.declared.frames.Front.{Front}
use Rattle.ctl_world.specs.declared.frames.Front.TheVariants.{Part, Frame, Bad}
use Rattle.ctl_world.specs.declared.said.Said.{Said}
use Rattle.ctl_world.specs.declared.said.Said.TheVariants as said
use Rattle.ctl_world.specs.Connections.{change, is_open, without}
use Rattle.ctl_world.specs.Ends.{end_line}
use Rattle.ctl_world.specs.Frames.{front}
use Rattle.ctl_world.specs.World.{World}
use Rattle.switch_session.specs.Connections.{next_id}
use Rattle.ctl_life.specs.Life.{has_frame, read, says, unread, feed}
use Rattle.ctl_core.specs.Hearing.{hear_frame, hear_frames, hear_front, hear_next}
use Rattle.ctl_core.specs.Turns.{hear, turn}
use Rattle.ctl_world.proofs.Numbered.{unlike}
use Rattle.ctl_life.proofs.Openings.{change_open, without_open, without_shut}
use Rattle.law_stories.proofs.Singly.{Steps, feed_stays, heard_stays, read_stays, settle_stays}
use Rattle.law_recordings.specs.Pieces.{known_only}
use Rattle.law_recordings.proofs.Frames.{holding}
use Rattle.law_recordings.proofs.Hears.{front_keeps}
use Rattle.law_recordings.proofs.Closed.{closes-append, closes_by, closes_in}

-- ---- frame by frame

module _ (P : World → Type 0) (number : ℕ) (next : (w : World) → P w → P (hear_next number w)) where
  frames_keep : (most : ℕ) (w : World) → P w → P (hear_frames most number w)
  frames_keep zero w here = here
  frames_keep (suc most) w here =
      elim (has_frame number w) as (λ b. P (if b then hear_frames most number (hear_next number w) else hear_next number w)) [
        | true ↦ frames_keep most (hear_next number w) (next w here)
        | false ↦ next w here
      ]

  -- what holds behind the bytes holds behind the turn
  turn_keeps : (piece : List ℕ) (w : World) → P (known_only w) → P (feed number piece (known_only w)) → P (turn (Heard number piece) w)
  turn_keeps piece w none fed =
      let v : World = feed number piece (known_only w) in
      elim (is_open w.conns number) as (λ b. P (if b then hear number piece (known_only w) else known_only w)) [
        | true ↦ frames_keep (length (unread number v)) v fed
        | false ↦ none
      ]

pub heard_moment : (number : ℕ) (piece : List ℕ) (w : World) → (turn (Heard number piece) w).moment ≡ w.moment
heard_moment number piece w =
    turn_keeps (λ v. v.moment ≡ w.moment) number
    (λ v same. (front_keeps (holding 0 []) (front (unread number v)) number (read number v)).moment ∙ same) piece w refl refl

-- ---- what was closed isn't open

abbrev AreShut : List Conn → List Said → Type 0
AreShut conns said = (n : ℕ) → closes_in said n ≡ true → is_open conns n ≡ false

more_shut : (conns left : List Conn) (said more : List Said) → AreShut conns said → AreShut left more → ((n : ℕ) → is_open conns n ≡ false → is_open left n ≡ false) → AreShut left (said ++ more)
more_shut conns left said more shut now stays n is =
    elim (or_cases (closes_in said n) (closes_in more n) (sym (closes-append said more n) ∙ is)) [
      | inl before ↦ stays n (shut n before)
      | inr last ↦ now n last
    ]

-- one that goes
own_shut : (number : ℕ) (conns : List Conn) (n : ℕ) → (number == n) ≡ true → is_open (without number conns) n ≡ false
own_shut number conns n is = ap (is_open (without number conns)) (sym (eqb-true number n is)) ∙ without_shut number conns

left_shut : (number : ℕ) (conns : List Conn) (n : ℕ) → is_open conns n ≡ false → is_open (without number conns) n ≡ false
left_shut number conns n shut =
    elim (cases_Bool (number == n)) [
      | inl own ↦ own_shut number conns n own
      | inr other ↦ without_open number n (λ e. unlike number n other (sym e)) conns ∙ shut
    ]

closing_shuts : (cause : Closing) (number : ℕ) (conns : List Conn) (told : List Said) → is_open conns number ≡ true → AreShut conns told
    → AreShut (without number conns) (told ++ said.Closing number cause ∷ end_line number cause ∷ [])
closing_shuts cause number conns told opened shut =
    more_shut conns (without number conns) told (said.Closing number cause ∷ end_line number cause ∷ []) shut
    (λ n is. elim (or_cases (number == n) false is) [ inl own ↦ own_shut number conns n own | inr never ↦ absurd (cc) ])
    (left_shut number conns)

single : Steps AreShut
single = record {
  changes = λ f still number conns told shut n is. change_open f still.number number n conns ∙ shut n is;
  says = λ f counting number m own c conns told some shut.
      more_shut conns (change number f conns) told (said.Message number m (next_id c.session.last_xid) ∷ []) shut (λ n is. absurd (cc))
      (λ n stays. change_open f counting.number number n conns ∙ stays);
  repeats = λ number m answers xid conns told opened shut. more_shut conns conns told (said.Message number m xid ∷ []) shut (λ n is. absurd (cc)) (λ n stays. stays);
  closes = closing_shuts;
  tells = λ text conns told shut. more_shut conns conns told (said.Line text ∷ []) shut (λ n is. absurd (cc)) (λ n stays. stays);
}

abbrev Shut : World → Type 0
Shut w = AreShut w.conns w.said

front_shut : (number : ℕ) (w : World) → Shut w → (f : Front) → front (unread number w) ≡ f → Shut (hear_front f number (read number w))
front_shut number w shut Part is = read_stays AreShut single number w shut
front_shut number w shut (Frame frame) is =
    settle_stays AreShut single (hear_frame (says frame) number (read number w)) (heard_stays AreShut single (says frame) number w (λ part. absurd (cc)) shut)
front_shut number w shut Bad is =
    settle_stays AreShut single (hear_frame None number (read number w)) (heard_stays AreShut single None number w (λ part. absurd (cc)) shut)

pub closed_isnt_open : (number : ℕ) (piece : List ℕ) (w : World) (n : ℕ) → closes_by (turn (Heard number piece) w) n ≡ true → is_open (turn (Heard number piece) w).conns n ≡ false
closed_isnt_open number piece w =
    let none : Shut (known_only w) = λ n is. absurd (cc) in
    turn_keeps Shut number (λ v shut. front_shut number v shut (front (unread number v)) refl) piece w none (feed_stays AreShut single number piece (known_only w) none)
