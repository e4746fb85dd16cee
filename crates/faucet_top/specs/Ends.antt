-- How a call ends that writes once.
use Rattle.std.specs.Prelude.{◌≡◌, ℕ, ◌⊎◌, List, Option, Some, None}
use Rattle.fg_outside.specs.Counts.{Rose}
use Rattle.fg_outside.specs.Wrote.{appended, AppendsFront}
use Rattle.conf_gather.specs.declared.refused.LoadRefused.{LoadRefused}
use Rattle.conf_gather.specs.declared.refused.LoadRefused.TheVariants.{Read, Yaml, Conf, IncludeTwice, IncludeDepth, Absent, Memory}
use Rattle.hub_drive.specs.declared.drive.Drove.{Drove}
use Rattle.hub_drive.specs.declared.drive.Drove.TheVariants as drove
use Rattle.hub_drive.specs.declared.replay.Replayed.{Replayed}
use Rattle.hub_drive.specs.declared.replay.Replayed.TheVariants as replayed
use Rattle.faucet_top.specs.declared.deliver.Status.{Status}
use Rattle.faucet_top.specs.declared.deliver.Status.TheVariants as statuses

-- the bytes were written with no failed write, and the status is this; or a write failed behind a front of them
abbrev pub Ends : Status → List ℕ → (old new : Option (List ℕ)) → (faults_old faults_new : ℕ) → Status → Type 0
Ends status bytes old new faults_old faults_new ended =
    ((ended ≡ status) × (new ≡ appended old bytes) × (faults_new ≡ faults_old))
    ⊎ ((ended ≡ statuses.WriteFault) × AppendsFront old new bytes × Rose faults_old faults_new)

-- the status where a file gave no configuration
abbrev pub refused_status : LoadRefused → Status
refused_status (Read file) = statuses.Unread
refused_status (Absent file) = statuses.Unread
refused_status (Yaml file fault) = statuses.Refused
refused_status (Conf fault) = statuses.Refused
refused_status (IncludeTwice file) = statuses.Refused
refused_status (IncludeDepth file) = statuses.Refused
refused_status Memory = statuses.Memory

-- the status by how a replay ended
abbrev pub status_after : Replayed → Status
status_after (replayed.Read None) = statuses.Done
status_after (replayed.Read (Some refused)) = statuses.RecordRefused
status_after replayed.Unread = statuses.Unread
status_after replayed.Spent = statuses.Spent
status_after replayed.WriteFault = statuses.WriteFault
status_after replayed.Memory = statuses.Memory

-- the status by how serving ended
abbrev pub status_served : Drove → Status
status_served drove.Done = statuses.Done
status_served drove.HubFault = statuses.HubFault
status_served drove.Spent = statuses.Spent
status_served drove.WriteFault = statuses.WriteFault
status_served drove.Memory = statuses.Memory
