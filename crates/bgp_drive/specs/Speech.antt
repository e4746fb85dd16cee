-- How a BGP speaker works, as a hub drives it.
use Rattle.std.specs.Prelude.{ℕ, List, [], ◌∷◌, ◌++◌, codes, Option, Some, None}
use Rattle.std.specs.Fmt.{decimal}
use Rattle.std.specs.List.{flat_map}
use Rattle.recording.specs.Written.{laid}
use Rattle.switch_session.specs.declared.closing.Closing.TheVariants as closing
use Rattle.ctl_life.specs.declared.saying.Saying.{Saying}
use Rattle.ctl_life.specs.declared.saying.Saying.TheVariants as sayings
use Rattle.hub_drive.specs.Machine.{Runs, Workings}
use Rattle.bgp_peer.specs.declared.saying.BgpClosing.{BgpClosing}
use Rattle.bgp_peer.specs.declared.saying.BgpClosing.TheVariants.{Sent, Heard, Overfull, LinkFault, End}
use Rattle.bgp_peer.specs.declared.saying.BgpSaying.{BgpSaying}
use Rattle.bgp_peer.specs.declared.saying.BgpSaying.TheVariants.{Send, Close}
use Rattle.bgp_speaker.specs.Speaking.{Speaking, said, turn}
use Rattle.bgp_speaker.specs.Speaking as speaker
use Rattle.bgp_drive.specs.declared.driven.DrivenSpeaker.{DrivenSpeaker}

-- ---- what the hub is told, and lines

abbrev pub codes_text : (code sub : ℕ) → List ℕ
codes_text code sub = decimal code ++ codes " " ++ decimal sub

-- the closing's name, and of a NOTIFICATION its error code and subcode
abbrev pub closing_text : BgpClosing → List ℕ
closing_text (Sent code sub) = codes "BgpSent " ++ codes_text code sub
closing_text (Heard code sub) = codes "BgpHeard " ++ codes_text code sub
closing_text Overfull = codes "Overfull"
closing_text LinkFault = codes "LinkFault"
closing_text End = codes "End"

abbrev pub end_line : ℕ → BgpClosing → Saying
end_line conn cause = sayings.Line (codes "conn " ++ decimal conn ++ codes ": " ++ closing_text cause)

-- a connection that a NOTIFICATION ends is closed; of any other one the hub told the end
abbrev pub closes : ℕ → BgpClosing → List Saying
closes conn (Sent code sub) = sayings.Close conn closing.End ∷ []
closes conn (Heard code sub) = sayings.Close conn closing.End ∷ []
closes conn Overfull = []
closes conn LinkFault = []
closes conn End = []

abbrev pub sayings_by : BgpSaying → List Saying
sayings_by (Send conn message) = sayings.Send conn message ∷ []
sayings_by (Close conn cause) = closes conn cause ++ end_line conn cause ∷ []

-- ---- records

-- of a connection that a NOTIFICATION ended, with its codes: 12 before those of one that was said, 13 of one that was heard
abbrev pub record_of_end : (moment conn : ℕ) → BgpClosing → List ℕ
record_of_end moment conn (Sent code sub) = laid moment 131 conn (12 ∷ code ∷ sub ∷ [])
record_of_end moment conn (Heard code sub) = laid moment 131 conn (13 ∷ code ∷ sub ∷ [])
record_of_end moment conn Overfull = []
record_of_end moment conn LinkFault = []
record_of_end moment conn End = []

abbrev pub record_by : (moment : ℕ) → BgpSaying → List ℕ
record_by moment (Send conn message) = laid moment 130 conn message
record_by moment (Close conn cause) = record_of_end moment conn cause

-- a text is told as a configuration that came
abbrev pub record_of_text : (moment : ℕ) → Option (List ℕ) → List ℕ
record_of_text moment None = []
record_of_text moment (Some text) = laid moment 4 0 text

abbrev pub records_at : (moment : ℕ) → List BgpSaying → Option (List ℕ) → List ℕ
records_at moment saids text = flat_map (record_by moment) saids ++ record_of_text moment text

-- ---- turns

abbrev pub moment_of : Speaking → ℕ
moment_of s = s.known.peer.moment.0

-- it says messages, closings and lines, and prints a record of each message and each closing, and behind them one of the text
abbrev pub speaks : Workings Speaking
speaks = record {
  turn = turn;
  moment = moment_of;
  says = λ s. flat_map sayings_by (said s);
  prints = Some (λ s. records_at (moment_of s) (said s) s.text);
}

-- a speaker knows this
abbrev pub StandsFor : DrivenSpeaker → Speaking → Type 0
StandsFor d s = speaker.StandsFor d.speaker s

abbrev pub drives : Runs DrivenSpeaker
drives = record { State = Speaking; works = speaks; stands = StandsFor }
