-- All that is right of a story, by name: each field is what a law says of it.
use Rattle.std.specs.Prelude.{◌≡◌, ◌<◌, ℕ, List, [], ◌∷◌, ◌++◌, codes, Err}
use Rattle.std.specs.List.{AllByRecursion}
use Rattle.fg_outside.specs.declared.hub.Happening.{Happening}
use Rattle.fg_outside.specs.declared.hub.Happening.TheVariants.{Reload}
use Rattle.of_match.specs.FlowTables.{IsInKeyOrder}
use Rattle.conf_types.specs.Configuration.{Configuration}
use Rattle.conf_types.specs.Lists.{EachBefore}
use Rattle.conf_types.specs.Valid.{IsValid}
use Rattle.ctl_world.specs.declared.said.Said.TheVariants.{Line}
use Rattle.ctl_world.specs.Connections.{conn_with, is_open}
use Rattle.ctl_world.specs.TablesSaid.{tables_said}
use Rattle.ctl_world.specs.World.{first}
use Rattle.ctl_core.specs.Settlings.{IsAtRest}
use Rattle.ctl_core.specs.Reloading.{accepted}
use Rattle.ctl_core.specs.Story.{behind}
use Rattle.ctl_core.specs.Turns.{turn}
use Rattle.hub_drive.specs.Driving.{IsFront}
use Rattle.law_stories.specs.Right.{Describes, IsOfBytes, IsRight}
use Rattle.law_stories.specs.Settlings.{said_in, settlings}
use Rattle.law_lives.specs.Batches.{OnlyWipesBetween, SaysExactly}
use Rattle.law_lives.specs.Behind.{IsRightBehind}
use Rattle.law_lives.specs.Lives.{Note, Turn, behind_turns, came, none_lives, went}
use Rattle.law_lives.specs.Sessions.{AreRightTurns, IsOf, IsSpelled, Tells}
use Rattle.law_lives.specs.Causes.{HaveTheirCauses}
use Rattle.law_lives.specs.Known.{conf_by, moment_by, open_by}
use Rattle.law_lives.specs.Lines.{HaveTheirLines}
use Rattle.law_lives.specs.Steps.{frames, turns}
use Rattle.law_lives.specs.Told.{as_told}
use Rattle.law_lives.specs.Gone.{ClosesTheGone}
use Rattle.law_lives.specs.Hosts.{KnowsItsHosts, KnowsTheHeard}
use Rattle.law_lives.specs.Reloads.{KeepsItsHosts}
use Rattle.law_lives.specs.Same.{KeepsAllHosts}
use Rattle.law_lives.specs.Outs.{AnswersTheHeard, AsksTheDue}
use Rattle.law_lives.specs.Frames.{SpeaksByItsFrames}
use Rattle.law_lives.specs.Since.{CountAlike, tables_since}

-- there is a log of it in which each connection lives as it is to, and what the controller has of each is what its life comes to
abbrev pub HasItsLives : Configuration → List Happening → Type 0
HasItsLives conf story =
    (log : List Turn) × Tells conf story log × AreRightTurns log none_lives
    × ((number : ℕ) → IsOf (behind_turns log none_lives number) (conn_with (behind (first conf) story).conns number))

-- a reload that is refused behind it says its one line, and changes nothing
abbrev pub RefusesAlone : Configuration → List Happening → Type 0
RefusesAlone conf story =
    (text cause : List ℕ) → accepted text ≡ Err cause
    → turn (Reload text) (behind (first conf) story) ≡ record (behind (first conf) story) { said = Line (codes "reload: " ++ cause) ∷ [] }

pub record IsWhole (conf : Configuration) (story : List Happening) : Type 0 where
  -- law_stories: cold tables, the description, nothing waits, one batch, the least batch, transaction ids, open connections
  pub right : IsRight conf story
  pub valid : IsValid (behind (first conf) story).conf
  pub numbers : EachBefore (λ a b. a.number < b.number) (behind (first conf) story).conns
  pub keys : AllByRecursion (λ c. IsInKeyOrder c.sent) (behind (first conf) story).conns
  pub rests : IsAtRest (behind (first conf) story)
  -- law_lives::batches: the same at the end of each settling; exactly the batches that are due, and else the wipe alone
  pub settled : AllByRecursion IsRightBehind (settlings (first conf) story)
  pub batches : AllByRecursion SaysExactly (settlings (first conf) story)
  pub wipes : OnlyWipesBetween [] (settlings (first conf) story) (said_in (first conf) story)
  -- law_lives::sessions: connection by connection, by what came and was said
  pub lives : HasItsLives conf story
  -- law_lives::lines: what is known by what happened; lines; causes of closings
  pub configuration : (behind (first conf) story).conf ≡ conf_by conf story
  pub moment : (behind (first conf) story).moment.0 ≡ moment_by story
  pub opened : (number : ℕ) → is_open (behind (first conf) story).conns number ≡ open_by number (as_told (first conf) story)
  pub refuses : RefusesAlone conf story
  pub lines : HaveTheirLines [] (as_told (first conf) story)
  pub causes : HaveTheirCauses [] (as_told (first conf) story)
  -- law_lives::spans: of which frame what is said is said, and from where it counts
  pub by_frames : AllByRecursion SpeaksByItsFrames (turns (first conf) story)
  pub since : (number : ℕ) → tables_said number (said_in (first conf) story) ≡ tables_since number (as_told (first conf) story)
  pub since_settled : CountAlike [] [] (first conf) story
  -- law_lives::hosts: which hosts are known, frame by frame, turn by turn, and over reloads
  pub heard_hosts : AllByRecursion KnowsTheHeard (frames (first conf) story)
  pub hosts : AllByRecursion KnowsItsHosts (turns (first conf) story)
  pub kept_hosts : AllByRecursion KeepsItsHosts (turns (first conf) story)
  -- law_lives::reloads: which connections a reload closes; over one of the same configuration all hosts stay
  pub gone : AllByRecursion ClosesTheGone (turns (first conf) story)
  pub same_hosts : AllByRecursion KeepsAllHosts (turns (first conf) story)
  -- law_lives::neighbours: what is asked and answered, once, and nothing else
  pub asks : AllByRecursion AsksTheDue (settlings (first conf) story)
  pub answers : AllByRecursion AnswersTheHeard (frames (first conf) story)

-- of each front of a story
abbrev pub IsWholeThrough : Configuration → List Happening → Type 0
IsWholeThrough conf story = (front : List Happening) → IsFront front story → IsWhole conf front

-- each frame spells its message, or none
abbrev pub EachSpelled : List Note → Type 0
EachSpelled [] = Unit {0}
EachSpelled (came number frame said ∷ notes) = IsSpelled frame said × EachSpelled notes
EachSpelled (went said ∷ notes) = EachSpelled notes

-- in such a log, each frame that was heard
abbrev pub HasSpelledLives : Configuration → List Happening → Type 0
HasSpelledLives conf story = (lives : HasItsLives conf story) × AllByRecursion (λ (t : Turn). EachSpelled t.notes) lives.0

-- what came is bytes, so that the cold starts of each settling send every packet as the configuration describes
pub record IsDescribed (conf : Configuration) (story : List Happening) : Type 0 where
  pub bytes : AllByRecursion IsOfBytes story
  pub described : AllByRecursion Describes (settlings (first conf) story)
  pub spelled : HasSpelledLives conf story

abbrev pub IsDescribedThrough : Configuration → List Happening → Type 0
IsDescribedThrough conf story = (front : List Happening) → IsFront front story → IsDescribed conf front

-- all of it, of each front of a story of bytes
abbrev pub IsAllRightThrough : Configuration → List Happening → Type 0
IsAllRightThrough conf story = IsWholeThrough conf story × IsDescribedThrough conf story
