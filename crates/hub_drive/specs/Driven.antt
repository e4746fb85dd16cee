-- What a call that drives a machine by a hub has done.
use Rattle.std.specs.Prelude.{◌≡◌, ℕ, ◌-◌, ◌<◌, ◌≤◌, Bool, true, false, List, ◌++◌, length, take, Option}
use Rattle.std.specs.List.{AllByRecursion, flat_map}
use Rattle.fg_outside.specs.declared.hub.Happening.{Happening}
use Rattle.fg_outside.specs.declared.hub.Happening.TheVariants as happenings
use Rattle.fg_outside.specs.declared.hub.Turn.TheVariants as turns
use Rattle.fg_outside.specs.declared.hub.Said.TheVariants as answers
use Rattle.fg_outside.specs.HubStep.{HubStep, Leads, closed, happenings, said, story, turned}
use Rattle.fg_outside.specs.Wrote.{appended, AppendsFront}
use Rattle.hub_drive.specs.declared.sayings.Outlet.{Outlet}
use Rattle.hub_drive.specs.declared.drive.Drove.{Drove}
use Rattle.hub_drive.specs.declared.drive.Drove.TheVariants.{Done, HubFault, Spent, WriteFault, Memory}
use Rattle.hub_drive.specs.declared.turn.Stopped.{Stopped}
use Rattle.hub_drive.specs.declared.turn.Stopped.TheVariants as stopped
use Rattle.hub_drive.specs.Driving.{Deed, IsFront, deeds, deeds_by, deeds_of, lines_of, out_of, sayings_of, turn_lines, turn_out}
use Rattle.hub_drive.specs.Machine.{Workings, behind}

abbrev pub drove_by : Stopped → Drove
drove_by stopped.WriteFault = WriteFault
drove_by stopped.Memory = Memory

-- a call that a run goes on behind: a turn gave a happening, a piece was taken or its connection is gone, a connection was closed
abbrev pub goes_on : HubStep → Bool
goes_on (turned (turns.Happened it)) = true
goes_on (turned turns.Done) = false
goes_on (turned turns.Failed) = false
goes_on (turned turns.Memory) = false
goes_on (said conn piece answers.Taken) = true
goes_on (said conn piece answers.Gone) = true
goes_on (said conn piece answers.Memory) = false
goes_on (closed conn) = true

-- a hub gave and was told this, and came from one state to another: each turn gave a happening, and no call was answered want of
-- memory
pub record Tells {H : Type 0} (may : H → HubStep → H → Type 0) (old : H) (told : List Deed) (new : H) : Type 0 where
  pub steps : List HubStep
  pub leads : Leads may old steps new
  pub deeds : deeds (story steps) ≡ told
  pub went_on : AllByRecursion (λ step. goes_on step ≡ true) steps

-- a hub gave and was told a front of this: each turn gave a happening, and no call was answered want of memory, but for the last call
pub record TellsPart {H : Type 0} (may : H → HubStep → H → Type 0) (old : H) (told : List Deed) (new : H) : Type 0 where
  pub steps : List HubStep
  pub leads : Leads may old steps new
  pub front : IsFront (deeds (story steps)) told
  pub went_on : AllByRecursion (λ step. goes_on step ≡ true) (take (length steps - 1) steps)

-- calls lead a hub from one state to another
abbrev pub Goes : {H : Type 0} → (H → HubStep → H → Type 0) → (old new : H) → Type 0
Goes may old new = (steps : List HubStep) × Leads may old steps new

-- a message was said on a connection of the hub, for which it had no memory
abbrev pub HasNoRoom : {H : Type 0} → (H → HubStep → H → Type 0) → (old new : H) → Type 0
HasNoRoom may old new = (conn : ℕ) × (message : List ℕ) × may old (said conn message answers.Memory) new

-- ---- one turn, behind what the hub gave

pub record Answers {S H : Type 0} (m : Workings S) (may : H → HubStep → H → Type 0) (outlet : Outlet) (h : Happening) (w : S)
    (hub_old hub_new : H) (out_old out_new err_old err_new : Option (List ℕ)) : Type 0 where
  pub told : Tells may hub_old (flat_map (deeds_by outlet) (sayings_of m h w)) hub_new
  pub out : out_new ≡ appended out_old (turn_out m outlet h w)
  pub err : err_new ≡ appended err_old (turn_lines m h w)

pub record AnswersPart {S H : Type 0} (m : Workings S) (may : H → HubStep → H → Type 0) (outlet : Outlet) (h : Happening) (w : S)
    (hub_old hub_new : H) (out_old out_new err_old err_new : Option (List ℕ)) : Type 0 where
  pub told : TellsPart may hub_old (flat_map (deeds_by outlet) (sayings_of m h w)) hub_new
  pub out : AppendsFront out_old out_new (turn_out m outlet h w)
  pub err : AppendsFront err_old err_new (turn_lines m h w)

-- ---- a story

-- what came on a connection is bytes
abbrev pub CameAsBytes : Happening → Type 0
CameAsBytes (happenings.Heard conn piece) = AllByRecursion (λ byte. byte < 256) piece
CameAsBytes other = Unit {0}

-- all that happened is answered whole
pub record AnswersAll {S H : Type 0} (m : Workings S) (may : H → HubStep → H → Type 0) (outlet : Outlet) (w : S) (hs : List Happening)
    (hub_old hub_new : H) (out_old out_new err_old err_new : Option (List ℕ)) : Type 0 where
  pub told : Tells may hub_old (deeds_of m outlet w hs) hub_new
  pub out : out_new ≡ appended out_old (out_of m outlet w hs)
  pub err : err_new ≡ appended err_old (lines_of m w hs)
  pub bytes : AllByRecursion CameAsBytes hs

-- what stands on the streams is the whole answer to all that happened but the last, and a front of the answer to that
pub record WholeButLast {S : Type 0} (m : Workings S) (outlet : Outlet) (w : S) (hs : List Happening) (out_old out_new err_old err_new : Option (List ℕ)) : Type 0 where
  pub before : List Happening
  pub last : List Happening
  pub parts : hs ≡ before ++ last
  pub one : length last ≤ 1
  pub out : AppendsFront (appended out_old (out_of m outlet w before)) out_new (out_of m outlet (behind m w before) last)
  pub err : AppendsFront (appended err_old (lines_of m w before)) err_new (lines_of m (behind m w before) last)

-- of the answer to all that happened a front is given, which ends in the last turn; where a write failed, the hub was told all
pub record AnswersFront {S H : Type 0} (m : Workings S) (may : H → HubStep → H → Type 0) (outlet : Outlet) (w : S) (hs : List Happening)
    (hub_old hub_new : H) (out_old out_new err_old err_new : Option (List ℕ)) : Type 0 where
  pub told : TellsPart may hub_old (deeds_of m outlet w hs) hub_new
  pub happened : happenings (story told.steps) ≡ hs
  pub out : AppendsFront out_old out_new (out_of m outlet w hs)
  pub err : AppendsFront err_old err_new (lines_of m w hs)
  pub but_last : WholeButLast m outlet w hs out_old out_new err_old err_new
  pub bytes : AllByRecursion CameAsBytes hs

-- by how driving ended
abbrev pub Drives : {S H : Type 0} → Workings S → (H → HubStep → H → Type 0) → Outlet → (most : ℕ) → S → (hub_old hub_new : H) → (out_old out_new err_old err_new : Option (List ℕ)) → Drove → Type 0
Drives {H = H} m may outlet most w hub_old hub_new out_old out_new err_old err_new Done =
    (hs : List Happening) × (mid : H) × (length hs < most)
    × AnswersAll m may outlet w hs hub_old mid out_old out_new err_old err_new × may mid (turned turns.Done) hub_new
Drives {H = H} m may outlet most w hub_old hub_new out_old out_new err_old err_new HubFault =
    (hs : List Happening) × (mid : H) × (length hs < most)
    × AnswersAll m may outlet w hs hub_old mid out_old out_new err_old err_new × may mid (turned turns.Failed) hub_new
Drives m may outlet most w hub_old hub_new out_old out_new err_old err_new Spent =
    (hs : List Happening) × (length hs ≡ most) × AnswersAll m may outlet w hs hub_old hub_new out_old out_new err_old err_new
Drives m may outlet most w hub_old hub_new out_old out_new err_old err_new WriteFault =
    (hs : List Happening) × (length hs ≤ most) × AnswersFront m may outlet w hs hub_old hub_new out_old out_new err_old err_new
    × Tells may hub_old (deeds_of m outlet w hs) hub_new
Drives m may outlet most w hub_old hub_new out_old out_new err_old err_new Memory =
    (hs : List Happening) × (length hs ≤ most) × AnswersFront m may outlet w hs hub_old hub_new out_old out_new err_old err_new
