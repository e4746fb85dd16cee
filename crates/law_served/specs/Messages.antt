-- What a controller says on one connection.
use Rattle.std.specs.Prelude.{◌≡◌, ◌==◌, ℕ, if◌then◌else◌, List, [], ◌∷◌, ◌++◌}
use Rattle.std.specs.List.{flat_map}
use Rattle.fg_outside.specs.declared.hub.Happening.{Happening}
use Rattle.fg_outside.specs.declared.hub.Said.TheVariants.{Taken}
use Rattle.fg_outside.specs.HubStep.{Event, happening, saying, closing}
use Rattle.ctl_world.specs.World.{World}
use Rattle.ctl_life.specs.declared.saying.Saying.{Saying}
use Rattle.ctl_life.specs.declared.saying.Saying.TheVariants.{Send, Close, Line}
use Rattle.ctl_core.specs.Turns.{turn}
use Rattle.ctl_drive.specs.Driving.{sayings_of}

-- the bytes of a message on this connection
abbrev pub message_on : ℕ → Saying → List ℕ
message_on conn (Send c message) = if c == conn then message else []
message_on conn (Close c cause) = []
message_on conn (Line text) = []

-- all messages on it in a story that begins where this is known, in order
abbrev pub messages_on : ℕ → World → List Happening → List ℕ
messages_on conn w [] = []
messages_on conn w (h ∷ hs) = flat_map (message_on conn) (sayings_of h w) ++ messages_on conn (turn h w) hs

-- each message that was said on this connection was taken
abbrev pub AllTaken : ℕ → List Event → Type 0
AllTaken conn [] = Unit {0}
AllTaken conn (happening it ∷ events) = AllTaken conn events
AllTaken conn (saying c piece answer ∷ events) = (c ≡ conn → answer ≡ Taken) × AllTaken conn events
AllTaken conn (closing c ∷ events) = AllTaken conn events
