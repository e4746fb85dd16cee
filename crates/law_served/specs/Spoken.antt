-- What a controller says, as a hub is told it, and as a replay writes it.
use Rattle.std.specs.Prelude.{List, [], ◌∷◌, map}
use Rattle.recording.specs.Written.{WrittenRecord, sent, closed}
use Rattle.hub_drive.specs.Driving.{Deed, gave, said, shut}

-- what a hub was told, without what it gave
abbrev pub spoken : List Deed → List Deed
spoken [] = []
spoken (gave it ∷ deeds) = spoken deeds
spoken (said conn message ∷ deeds) = said conn message ∷ spoken deeds
spoken (shut conn ∷ deeds) = shut conn ∷ spoken deeds

-- what a written record tells: a message on a connection, or that it was closed
abbrev pub deed_of : WrittenRecord → Deed
deed_of r = elim r.told [ sent message ↦ said r.conn message | closed cause error ↦ shut r.conn ]

abbrev pub deeds_in : List WrittenRecord → List Deed
deeds_in records = map deed_of records
