-- A read that failed ends the run with its status, or with that of a failed write.
use Rattle.std.proofs.Common.{◌≡◌, ◌≢◌, ℕ, inl, inr, List, [], ◌++◌, Option, Some, None, Result, Err, IsErrOf, refl, sym, ap, ◌∙◌, arith}
use Rattle.fg_outside.specs.Contents.{Contents}
use Rattle.fg_outside.specs.Wrote.{appended}
use Rattle.fg_outside.proofs.SinkLemmas.{appended-append}
use Rattle.conf_gather.specs.declared.refused.LoadRefused.{LoadRefused}
use Rattle.conf_gather.specs.declared.refused.LoadRefused.TheVariants.{Read, Yaml, Conf, IncludeTwice, IncludeDepth, Absent, Memory}
use Rattle.conf_gather.specs.Gathered.{Held}
use Rattle.hub_drive.specs.declared.replay.Replayed.{Replayed}
use Rattle.hub_drive.specs.declared.replay.Replayed.TheVariants as replayed
use Rattle.faucet_top.specs.declared.deliver.Status.{Status}
use Rattle.faucet_top.specs.declared.deliver.Status.TheVariants as statuses
use Rattle.hub_drive.specs.declared.sayings.Outlet.{Outlet}
use Rattle.hub_drive.specs.Driving.{lines_of}
use Rattle.hub_drive.specs.Machine.{Workings}
use Rattle.hub_drive.specs.Replay.{Replays}
use Rattle.faucet_top.specs.Answer.{last_line, plan_answer, refusal, unread as unread_answer}
use Rattle.faucet_top.specs.Ends.{Ends, refused_status, status_after}
use Rattle.faucet_top.specs.Given.{Delivers, LoadsBy, NamesUnread}
use Rattle.faucet_top.specs.Status.{number_of_status}

module _ (bytes : List ℕ) (old new : Option (List ℕ)) (n0 n1 : ℕ) (ended : Status) (unread : ended ≢ statuses.Unread) (written : ended ≢ statuses.WriteFault) where
  -- a refusal that ends the run with another status is no read that failed
  pub no_read_refused : (why : LoadRefused) → Ends (refused_status why) bytes old new n0 n1 ended → (file : List ℕ) → why ≢ Read file
  no_read_refused why ends file is = elim ends [ inl whole ↦ unread (whole.0 ∙ ap refused_status is) | inr front ↦ written front.0 ]

  -- nor is a replay
  pub no_read_replayed : (end : Replayed) → Ends (status_after end) bytes old new n0 n1 ended → end ≢ replayed.Unread
  no_read_replayed end ends is = elim ends [ inl whole ↦ unread (whole.0 ∙ ap status_after is) | inr front ↦ written front.0 ]

-- the status with a number
pub unread_by_number : (one : Status) → number_of_status one ≡ 3 → one ≡ statuses.Unread
unread_by_number statuses.Done is = absurd (omega (arith, is))
unread_by_number statuses.Usage is = absurd (omega (arith, is))
unread_by_number statuses.Refused is = absurd (omega (arith, is))
unread_by_number statuses.Unread is = refl
unread_by_number statuses.WriteFault is = absurd (omega (arith, is))
unread_by_number statuses.RecordRefused is = absurd (omega (arith, is))
unread_by_number statuses.HubFault is = absurd (omega (arith, is))
unread_by_number statuses.Spent is = absurd (omega (arith, is))
unread_by_number statuses.Memory is = absurd (omega (arith, is))
unread_by_number statuses.NotReady is = absurd (omega (arith, is))

pub write_fault_by_number : (one : Status) → number_of_status one ≡ 4 → one ≡ statuses.WriteFault
write_fault_by_number statuses.Done is = absurd (omega (arith, is))
write_fault_by_number statuses.Usage is = absurd (omega (arith, is))
write_fault_by_number statuses.Refused is = absurd (omega (arith, is))
write_fault_by_number statuses.Unread is = absurd (omega (arith, is))
write_fault_by_number statuses.WriteFault is = refl
write_fault_by_number statuses.RecordRefused is = absurd (omega (arith, is))
write_fault_by_number statuses.HubFault is = absurd (omega (arith, is))
write_fault_by_number statuses.Spent is = absurd (omega (arith, is))
write_fault_by_number statuses.Memory is = absurd (omega (arith, is))
write_fault_by_number statuses.NotReady is = absurd (omega (arith, is))

pub hub_fault_by_number : (one : Status) → number_of_status one ≡ 6 → one ≡ statuses.HubFault
hub_fault_by_number statuses.Done is = absurd (omega (arith, is))
hub_fault_by_number statuses.Usage is = absurd (omega (arith, is))
hub_fault_by_number statuses.Refused is = absurd (omega (arith, is))
hub_fault_by_number statuses.Unread is = absurd (omega (arith, is))
hub_fault_by_number statuses.WriteFault is = absurd (omega (arith, is))
hub_fault_by_number statuses.RecordRefused is = absurd (omega (arith, is))
hub_fault_by_number statuses.HubFault is = refl
hub_fault_by_number statuses.Spent is = absurd (omega (arith, is))
hub_fault_by_number statuses.Memory is = absurd (omega (arith, is))
hub_fault_by_number statuses.NotReady is = absurd (omega (arith, is))

-- nor is a plan
pub no_read_planned : (config dp : List ℕ) (made : Result (Option (List ℕ)) LoadRefused) (ended : Status) (o0 o1 e0 e1 : Option (List ℕ)) (m0 m1 n0 n1 : ℕ)
    → Delivers (plan_answer config dp made) (number_of_status ended) o0 o1 e0 e1 m0 m1 n0 n1 → ended ≢ statuses.Unread → ended ≢ statuses.WriteFault → (file : List ℕ) → IsErrOf made (Read file) → ⊥
no_read_planned config dp made ended o0 o1 e0 e1 m0 m1 n0 n1 delivers unread written file is =
    elim delivers [
      | inl whole ↦ unread (unread_by_number ended (whole.0 ∙ ap (λ (m : Result (Option (List ℕ)) LoadRefused). (plan_answer config dp m).status) is))
      | inr front ↦ written (write_fault_by_number ended front.0)
    ]

pub refused_by : {T : Type 0} (why cause : LoadRefused) → IsErrOf {T = T} (Err why) cause → why ≡ cause
refused_by why cause is = cc

pub same_status : (one other : Status) → Some one ≡ Some other → one ≡ other
same_status one other is = cc

-- ---- the file at fault is named

unread_end : (end : Replayed) → status_after end ≡ statuses.Unread → end ≡ replayed.Unread
unread_end (replayed.Read None) is = absurd (cc)
unread_end (replayed.Read (Some refused)) is = absurd (cc)
unread_end replayed.Unread is = refl
unread_end replayed.Spent is = absurd (cc)
unread_end replayed.WriteFault is = absurd (cc)
unread_end replayed.Memory is = absurd (cc)

write_fault_isnt_unread : statuses.WriteFault ≡ statuses.Unread → ⊥
write_fault_isnt_unread is = cc

-- a run over a recording that ended with this status has the recording in its last line
module _ {S : Type 0} (works : Workings S) (outlet : Outlet) (contents : Option Contents) (absence fault : Type 0) (recording : List ℕ) (w : S) (o0 o1 e0 e1 e2 : Option (List ℕ)) (n1 n2 : ℕ) (name : List ℕ) where
  line_named : (end : Replayed) → Replays works outlet contents recording absence fault w o0 o1 e0 e1 end → end ≡ replayed.Unread → e2 ≡ appended e1 (last_line recording end) → name ≡ recording → NamesUnread name e0 e2
  line_named (replayed.Read refused) replays is said same = absurd (cc)
  line_named replayed.Unread (story, writes, so_far, cause) is said same = (
    lines_of works w story,
    said ∙ ap (λ (e : Option (List ℕ)). appended e (unread_answer recording).err) writes.err ∙ appended-append e0 (lines_of works w story) (unread_answer recording).err
        ∙ ap (λ (f : List ℕ). appended e0 (lines_of works w story ++ (unread_answer f).err)) (sym same),
  )
  line_named replayed.Spent replays is said same = absurd (cc)
  line_named replayed.WriteFault replays is said same = absurd (cc)
  line_named replayed.Memory replays is said same = absurd (cc)

  pub run_named : (end : Replayed) (ended : Status) → Replays works outlet contents recording absence fault w o0 o1 e0 e1 end → Ends (status_after end) (last_line recording end) e1 e2 n1 n2 ended → ended ≡ statuses.Unread
      → (end ≡ replayed.Unread → name ≡ recording) → NamesUnread name e0 e2
  run_named end ended replays ends is same =
      elim ends [
        | inl whole ↦ let at : end ≡ replayed.Unread = unread_end end (sym whole.0 ∙ is) in line_named end replays at whole.1 (same at)
        | inr front ↦ absurd (write_fault_isnt_unread (sym front.0 ∙ is))
      ]

-- an end with another status
module _ (bytes : List ℕ) (old new : Option (List ℕ)) (n0 n1 : ℕ) (ended : Status) where
  other_read : (status : Status) → (status ≡ statuses.Unread → ⊥) → Ends status bytes old new n0 n1 ended → ended ≡ statuses.Unread → ⊥
  other_read status other ends is = elim ends [ inl whole ↦ other (sym whole.0 ∙ is) | inr front ↦ write_fault_isnt_unread (sym front.0 ∙ is) ]

  pub memory_read : Ends statuses.Memory bytes old new n0 n1 ended → ended ≡ statuses.Unread → ⊥
  memory_read ends is = other_read statuses.Memory (λ h. cc) ends is

  pub usage_read : Ends statuses.Usage bytes old new n0 n1 ended → ended ≡ statuses.Unread → ⊥
  usage_read ends is = other_read statuses.Usage (λ h. cc) ends is

-- a refusal with this status has the file in its line at which a read was refused last
module _ {A : Type 0} (given : Held → List ℕ → Result A LoadRefused) (contents : Option Contents) (absence fault : Type 0) (refused config : List ℕ) (e0 e1 : Option (List ℕ)) (n0 n1 : ℕ) (ended : Status) (is : ended ≡ statuses.Unread) where
  file_named : (file : List ℕ) → refused ≡ file → e1 ≡ appended e0 (unread_answer file).err → NamesUnread refused e0 e1
  file_named file same said = ([], said ∙ ap (λ (f : List ℕ). appended e0 ([] ++ (unread_answer f).err)) (sym same))

  said_named : (why : LoadRefused) → LoadsBy given contents absence fault refused config (Err why) → refused_status why ≡ statuses.Unread → e1 ≡ appended e0 (refusal config why).err → NamesUnread refused e0 e1
  said_named (Read file) loads at said = file_named file (loads.named file (inr refl)) said
  said_named (Absent file) loads at said = file_named file (loads.named file (inl refl)) said
  said_named (Yaml file fault) loads at said = absurd (cc)
  said_named (Conf fault) loads at said = absurd (cc)
  said_named (IncludeTwice file) loads at said = absurd (cc)
  said_named (IncludeDepth file) loads at said = absurd (cc)
  said_named Memory loads at said = absurd (cc)

  pub refusal_named : (why : LoadRefused) → LoadsBy given contents absence fault refused config (Err why) → Ends (refused_status why) (refusal config why).err e0 e1 n0 n1 ended → NamesUnread refused e0 e1
  refusal_named why loads ends =
      elim ends [
        | inl whole ↦ said_named why loads (sym whole.0 ∙ is) whole.1
        | inr front ↦ absurd (write_fault_isnt_unread (sym front.0 ∙ is))
      ]
