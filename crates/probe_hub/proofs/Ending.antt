-- Bytes that come with the end of a frame.
use Rattle.std.proofs.Common.{◌≡◌, ℕ, ◌-◌, Bool, true, false, List, ◌++◌, length, Option, Some, refl, sym, ap, ◌∙◌}
use Rattle.probe_hub.specs.declared.conn.Conn.{Conn}
use Rattle.probe_hub.specs.declared.links.Links.{Links}
use Rattle.probe_hub.specs.Conn.{came, ended_by, frame_ended, given_by, has_waiting}
use Rattle.probe_hub.specs.Frames.{frame_len}
use Rattle.probe_hub.proofs.Places.{both}

module _ (links : Links) (moment : ℕ) (piece : List ℕ) (c : Conn) (waiting : has_waiting c.peer ≡ true) where
  -- what the bytes make of it, with all that no frame has taken
  abbrev ends_with : List ℕ → Conn × ℕ
  ends_with all = ended_by links moment (length c.unread) (length piece) (frame_len all) (record c { unread = all })

  module _ (all : List ℕ) (all_is : all ≡ c.unread ++ piece) (len : ℕ) (frame : Some len ≡ frame_len all) (e : Conn) (waits : Bool) (ended : (e, waits) ≡ frame_ended links moment len (record c { unread = all })) where
    came_by : given_by (length c.unread) len (length piece) (e, waits) ≡ came links moment piece c
    came_by =
        ap (given_by (length c.unread) len (length piece)) ended
        ∙ ap (λ (o : Option ℕ). ended_by links moment (length c.unread) (length piece) o (record c { unread = all })) frame
        ∙ ap ends_with all_is
        ∙ rw waiting refl

    pub came_cut : waits ≡ true → (begun given : ℕ) → begun ≡ length c.unread → given ≡ len - begun → (e, given) ≡ came links moment piece c
    came_cut is begun given begun_is given_is =
        both refl (given_is ∙ ap (λ n. len - n) begun_is) ∙ ap (λ (b : Bool). given_by (length c.unread) len (length piece) (e, b)) (sym is) ∙ came_by

    pub came_whole : waits ≡ false → (e, length piece) ≡ came links moment piece c
    came_whole is = ap (λ (b : Bool). given_by (length c.unread) len (length piece) (e, b)) (sym is) ∙ came_by
