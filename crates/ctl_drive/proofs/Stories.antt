-- A story with one turn more.
use Rattle.std.proofs.Common.{◌≡◌, ℕ, List, [], ◌∷◌, ◌++◌, refl, sym, ap, ◌∙◌, append_assoc}
use Rattle.std.proofs.lemmas.List.{append-nil}
use Rattle.fg_outside.specs.declared.hub.Happening.{Happening}
use Rattle.ctl_world.specs.World.{World}
use Rattle.ctl_core.specs.Story.{behind}
use Rattle.ctl_core.specs.Turns.{turn}
use Rattle.ctl_drive.specs.Driving.{lines_of, turn_lines}

pub behind-push : (w : World) (hs : List Happening) (h : Happening) → behind w (hs ++ h ∷ []) ≡ turn h (behind w hs)
behind-push w [] h = refl
behind-push w (g ∷ hs) h = behind-push (turn g w) hs h

pub lines-push : (w : World) (hs : List Happening) (h : Happening) → lines_of w (hs ++ h ∷ []) ≡ lines_of w hs ++ turn_lines h (behind w hs)
lines-push w [] h = append-nil (turn_lines h w)
lines-push w (g ∷ hs) h =
    ap (λ (l : List ℕ). turn_lines g w ++ l) (lines-push (turn g w) hs h)
    ∙ sym (append_assoc (turn_lines g w) (lines_of (turn g w) hs) (turn_lines h (behind (turn g w) hs)))
