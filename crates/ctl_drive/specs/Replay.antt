-- What a replay of a recording has done (`hub_drive`).
use Rattle.std.specs.Prelude.{ℕ, List, Option}
use Rattle.fg_outside.specs.declared.hub.Happening.{Happening}
use Rattle.fg_outside.specs.Contents.{Contents}
use Rattle.conf_types.specs.Configuration.{Configuration}
use Rattle.recording.specs.Turns.{Closing}
use Rattle.ctl_world.specs.World.{first}
use Rattle.hub_drive.specs.declared.replay.Replayed.{Replayed}
use Rattle.hub_drive.specs.declared.sayings.Outlet.TheVariants.{Records}
use Rattle.hub_drive.specs.Replay as hub
use Rattle.ctl_drive.specs.Controller.{controller}
use Rattle.ctl_drive.specs.Driving.{closings_of}

-- the connections that the controller of this configuration closes in a story
abbrev pub closed_in : Configuration → List Happening → List Closing
closed_in conf story = closings_of 0 (first conf) story

-- the records of all that is said, and the lines
abbrev pub WritesAll : Configuration → List Happening → (out_old out_new err_old err_new : Option (List ℕ)) → Type 0
WritesAll conf story out_old out_new err_old err_new = hub.WritesAll controller Records (first conf) story out_old out_new err_old err_new

-- fronts of these, which end in the last turn
abbrev pub WritesFront : Configuration → List Happening → (out_old out_new err_old err_new : Option (List ℕ)) → Type 0
WritesFront conf story out_old out_new err_old err_new = hub.WritesFront controller Records (first conf) story out_old out_new err_old err_new

-- by how the replay ended
abbrev pub Replays : Option Contents → (name : List ℕ) → (absence fault : Type 0) → Configuration → (out_old out_new err_old err_new : Option (List ℕ)) → Replayed → Type 0
Replays contents name absence fault conf out_old out_new err_old err_new how =
    hub.Replays controller Records contents name absence fault (first conf) out_old out_new err_old err_new how
