-- What came of following a packet behind a recording.
use Rattle.std.specs.Prelude.{◌≡◌, ℕ, ◌-◌, ◌^◌, ◌<◌, ◌⊎◌, Bool, false, not, List, length, Option, Some, None, is_some}
use Rattle.fg_outside.specs.declared.hub.Happening.{Happening}
use Rattle.fg_outside.specs.Contents.{Contents, Tells}
use Rattle.recording.specs.declared.refused.RecordRefused.{RecordRefused}
use Rattle.recording.specs.Script.{IsStoryOf}
use Rattle.of_match.specs.declared.packet.Packet.{Packet}
use Rattle.conf_types.specs.Configuration.{Configuration}
use Rattle.ctl_world.specs.World.{first}
use Rattle.ctl_core.specs.Story.{behind}
use Rattle.hub_drive.specs.declared.replay.Replayed.{Replayed}
use Rattle.hub_drive.specs.declared.replay.Replayed.TheVariants as replayed
use Rattle.hub_drive.specs.Replay.{TellsSoFar}
use Rattle.ctl_drive.specs.Controller.{controller}
use Rattle.ctl_drive.specs.Replay.{closed_in}
use Rattle.trace_story.specs.declared.following.Followed.{Followed}
use Rattle.trace_story.specs.declared.following.Followed.TheVariants.{Showed, Ended}
use Rattle.trace_story.specs.declared.showing.How.{How}
use Rattle.trace_story.specs.declared.showing.Shown.{Shown}
use Rattle.trace_story.specs.Shown.{shown}

-- the recording was read to its end
abbrev pub is_whole : Replayed → Bool
is_whole (replayed.Read refused) = not (is_some refused)
is_whole replayed.Unread = false
is_whole replayed.Spent = false
is_whole replayed.WriteFault = false
is_whole replayed.Memory = false

-- this is shown, or memory ran out
abbrev pub IsShown : Shown → Followed → Type 0
IsShown s (Showed made) = made ≡ s
IsShown s (Ended end) = end ≡ replayed.Memory

-- where the files tell the recording, this is its story, where the controller closes what it closes: of all of it, or of the records
-- before this one, which is refused
abbrev pub TellsStory : Option Contents → (recording : List ℕ) → Configuration → List Happening → (refused : Option RecordRefused) → Type 0
TellsStory contents recording conf story refused =
    (length story < 2 ^ 64 - 1) × ((bytes : List ℕ) → Tells contents recording (Some bytes) → IsStoryOf bytes story (closed_in conf story) refused)

-- by how the run over the recording ended: what is shown is that by what the controller knows behind its story
abbrev pub EndsSo : Option Contents → (recording : List ℕ) → (absence fault : Type 0) → Configuration → Replayed → Type 0
EndsSo contents recording absence fault conf (replayed.Read None) = ⊥
EndsSo contents recording absence fault conf (replayed.Read (Some refused)) = (story : List Happening) × TellsStory contents recording conf story (Some refused)
EndsSo contents recording absence fault conf replayed.Unread = absence ⊎ fault
EndsSo contents recording absence fault conf replayed.Spent =
    (story : List Happening) × (length story ≡ 2 ^ 64 - 1) × TellsSoFar controller contents recording (first conf) story
EndsSo contents recording absence fault conf replayed.WriteFault = ⊥
EndsSo contents recording absence fault conf replayed.Memory = Unit {0}

abbrev pub Follows : How → Option Contents → (recording : List ℕ) → (absence fault : Type 0) → Configuration → (dp : List ℕ) → (port : ℕ) → Packet → Followed → Type 0
Follows how contents recording absence fault conf dp port p (Showed s) =
    (story : List Happening) × TellsStory contents recording conf story None × (s ≡ shown how (behind (first conf) story) dp port p)
Follows how contents recording absence fault conf dp port p (Ended end) = EndsSo contents recording absence fault conf end
