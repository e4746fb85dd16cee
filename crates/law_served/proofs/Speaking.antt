-- The records of a story say what a hub is told in it.
use Rattle.std.proofs.Common.{◌≡◌, ℕ, List, [], ◌∷◌, ◌++◌, refl, ap, ◌∙◌}
use Rattle.std.proofs.lemmas.List.{map-append}
use Rattle.std.specs.List.{flat_map}
use Rattle.fg_outside.specs.declared.hub.Happening.{Happening}
use Rattle.ctl_world.specs.World.{World}
use Rattle.ctl_life.specs.declared.saying.Saying.{Saying}
use Rattle.ctl_life.specs.declared.saying.Saying.TheVariants.{Send, Close, Line}
use Rattle.ctl_core.specs.Turns.{turn}
use Rattle.hub_drive.specs.declared.sayings.Outlet.TheVariants.{Hub}
use Rattle.hub_drive.specs.Driving.{Deed, deeds_by, record_by, said, shut}
use Rattle.ctl_drive.specs.Driving.{deeds_of, records_of, sayings_of, turn_records}
use Rattle.law_served.specs.Spoken.{deed_of, deeds_in, spoken}

said_so : (moment : ℕ) (sayings : List Saying) (more : List Deed) → deeds_in (flat_map (record_by moment) sayings) ++ spoken more ≡ spoken (flat_map (deeds_by Hub) sayings ++ more)
said_so moment [] more = refl
said_so moment (Send conn message ∷ sayings) more = ap (λ (l : List Deed). said conn message ∷ l) (said_so moment sayings more)
said_so moment (Close conn cause ∷ sayings) more = ap (λ (l : List Deed). shut conn ∷ l) (said_so moment sayings more)
said_so moment (Line text ∷ sayings) more = said_so moment sayings more

pub spoken_records : (w : World) (hs : List Happening) → deeds_in (records_of w hs) ≡ spoken (deeds_of Hub w hs)
spoken_records w [] = refl
spoken_records w (h ∷ hs) =
    map-append deed_of (turn_records h w) (records_of (turn h w) hs)
    ∙ ap (λ (l : List Deed). deeds_in (turn_records h w) ++ l) (spoken_records (turn h w) hs)
    ∙ said_so (turn h w).moment.0 (sayings_of h w) (deeds_of Hub (turn h w) hs)
