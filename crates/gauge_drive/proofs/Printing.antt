-- What is printed of a story.
use Rattle.std.proofs.Common.{◌≡◌, ℕ, List, [], ◌∷◌, ◌++◌, refl, sym, ap, ◌∙◌}
use Rattle.std.proofs.lemmas.List.Concat.{flat_map-append}
use Rattle.fg_outside.specs.declared.hub.Happening.{Happening}
use Rattle.hub_drive.specs.Driving.{prints_of}
use Rattle.gauge_poll.specs.Monitoring.{Monitor, lines_of, turn}
use Rattle.gauge_drive.specs.Gauge.{joined, monitor}

pub prints_lines : (m : Monitor) (hs : List Happening) → prints_of monitor (λ (k : Monitor). joined k.lines) m hs ≡ joined (lines_of m hs)
prints_lines m [] = refl
prints_lines m (h ∷ hs) =
    ap (λ (l : List ℕ). joined (turn h m).lines ++ l) (prints_lines (turn h m) hs)
    ∙ sym (flat_map-append (λ (line : List ℕ). line) (turn h m).lines (lines_of (turn h m) hs))
