-- What a call that drives a controller has done (`hub_drive`).
use Rattle.std.specs.Prelude.{ℕ, List, Option}
use Rattle.fg_outside.specs.declared.hub.Happening.{Happening}
use Rattle.fg_outside.specs.HubStep.{HubStep}
use Rattle.ctl_world.specs.World.{World}
use Rattle.hub_drive.specs.declared.drive.Drove.{Drove}
use Rattle.hub_drive.specs.declared.sayings.Outlet.{Outlet}
use Rattle.hub_drive.specs.Driven as hub
use Rattle.ctl_drive.specs.Controller.{controller}

-- of the answer to all that happened a front is given, which ends in the last turn; where a write failed, the hub was told all
abbrev pub AnswersFront : {H : Type 0} → (H → HubStep → H → Type 0) → Outlet → World → List Happening → (hub_old hub_new : H) → (out_old out_new err_old err_new : Option (List ℕ)) → Type 0
AnswersFront may outlet w hs hub_old hub_new out_old out_new err_old err_new = hub.AnswersFront controller may outlet w hs hub_old hub_new out_old out_new err_old err_new

-- all that happened is answered whole
abbrev pub AnswersAll : {H : Type 0} → (H → HubStep → H → Type 0) → Outlet → World → List Happening → (hub_old hub_new : H) → (out_old out_new err_old err_new : Option (List ℕ)) → Type 0
AnswersAll may outlet w hs hub_old hub_new out_old out_new err_old err_new = hub.AnswersAll controller may outlet w hs hub_old hub_new out_old out_new err_old err_new

-- what on the streams is the whole answer to all that happened but the last, and a front of the answer to that
abbrev pub WholeButLast : Outlet → World → List Happening → (out_old out_new err_old err_new : Option (List ℕ)) → Type 0
WholeButLast outlet w hs out_old out_new err_old err_new = hub.WholeButLast controller outlet w hs out_old out_new err_old err_new

-- by how driving ended
abbrev pub Drives : {H : Type 0} → (H → HubStep → H → Type 0) → Outlet → (most : ℕ) → World → (hub_old hub_new : H) → (out_old out_new err_old err_new : Option (List ℕ)) → Drove → Type 0
Drives may outlet most w hub_old hub_new out_old out_new err_old err_new how = hub.Drives controller may outlet most w hub_old hub_new out_old out_new err_old err_new how
