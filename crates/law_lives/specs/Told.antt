-- What happened, turn by turn, each with what was said of it.
use Rattle.std.specs.Prelude.{List, [], ◌∷◌}
use Rattle.fg_outside.specs.declared.hub.Happening.{Happening}
use Rattle.ctl_world.specs.declared.said.Said.{Said}
use Rattle.ctl_world.specs.World.{World}
use Rattle.ctl_core.specs.Turns.{turn}

pub record Told : Type 0 where
  pub what : Happening
  pub said : List Said

-- those of a story, where this is known before it
abbrev pub as_told : World → List Happening → List Told
as_told w [] = []
as_told w (h ∷ hs) = record { what = h; said = (turn h w).said } ∷ as_told (turn h w) hs
