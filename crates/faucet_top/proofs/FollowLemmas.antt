-- What each status says of `trace` and `walk`, and the reply that was given.
use Rattle.std.proofs.Common.{◌≡◌, ◌≢◌, ◌⊎◌, ℕ, ◌≤◌, inl, inr, List, [], ◌++◌, Option, Some, None, Ok, Err, refl, sym, ap, subst, ◌∙◌, arith}
use Rattle.std.specs.Prelude.{IsSome, IsTrue, ◌↔◌}
use Rattle.fg_outside.specs.Contents.{Contents}
use Rattle.fg_outside.specs.Counts.{Rose}
use Rattle.fg_outside.specs.Wrote.{appended}
use Rattle.fg_outside.specs.declared.hub.Happening.{Happening}
use Rattle.fg_outside.proofs.CountLemmas.{Rose-since}
use Rattle.conf_types.specs.Configuration.{Configuration}
use Rattle.conf_types.specs.Valid.{IsValid}
use Rattle.conf_gather.specs.declared.refused.LoadRefused.{LoadRefused}
use Rattle.conf_gather.specs.Gathered.{Held}
use Rattle.conf_load.specs.Loaded.{loaded}
use Rattle.command_line.specs.declared.meaning.Job.{Job}
use Rattle.command_line.specs.Asked.{AskFor, Check, Plan, Replay, Serve, Gauge, GaugeServe, Bench, Trace, Walk, Bgp, BgpServe}
use Rattle.of_match.specs.declared.packet.Packet.{Packet}
use Rattle.pkt_view.specs.Frame.{has_type}
use Rattle.pkt_view.specs.Packets.{packet}
use Rattle.law_stories.specs.Right.{IsRight}
use Rattle.recording.specs.declared.refused.RecordRefused.{RecordRefused}
use Rattle.recording.specs.Script.{IsStoryOf}
use Rattle.hub_drive.specs.declared.replay.Replayed.{Replayed}
use Rattle.hub_drive.specs.declared.replay.Replayed.TheVariants as replayed
use Rattle.ctl_drive.specs.Replay.{closed_in}
use Rattle.trace_story.specs.declared.entry.Missing.{Missing}
use Rattle.trace_story.specs.declared.entry.Missing.TheVariants as missing
use Rattle.trace_story.specs.declared.following.Followed.{Followed}
use Rattle.trace_story.specs.declared.following.Followed.TheVariants as followed
use Rattle.trace_story.specs.declared.showing.How.{How}
use Rattle.trace_story.specs.declared.showing.Shown.{Shown}
use Rattle.trace_story.specs.declared.showing.Shown.TheVariants.{Lines, NotReady}
use Rattle.trace_story.specs.Entry.{missing_in}
use Rattle.trace_story.specs.Followed.{Follows}
use Rattle.faucet_top.specs.declared.deliver.Status.{Status}
use Rattle.faucet_top.specs.declared.deliver.Status.TheVariants as statuses
use Rattle.faucet_top.specs.Answer.{Answer, Load, missing_answer, out_of_memory, refusal, shown_answer, unread as unread_answer}
use Rattle.faucet_top.specs.Ends.{Ends}
use Rattle.faucet_top.specs.Follow.{GoesByRecording, IsCutShort, IsEntered, IsEnteredStatus, IsFollowStatus, IsFollowed, RepliesEntered, RepliesFollow, Traced, followed_answer}
use Rattle.faucet_top.specs.Given.{Delivers, GivesFollow, IsLoadedStatus, Loads, NamesUnread, RepliesLoaded, StatusFor}
use Rattle.faucet_top.specs.Serving.{HasFrame}
use Rattle.faucet_top.specs.Status.{number_of_status}
use Rattle.faucet_top.proofs.CheckLemmas.{accepted_loads, line_delivered}
use Rattle.faucet_top.proofs.ReadLemmas.{unread_by_number, write_fault_by_number}
use Rattle.faucet_top.proofs.RefusalLemmas.{IsInner, refusal_inner, refusal_not, refusal_unread}
use Rattle.faucet_top.proofs.ReplayLemmas.{accepted_told, number_after, refusal_told}

-- ---- the statuses of the answers

shown_inner : (config : List ℕ) (s : Shown) → IsInner (shown_answer config s).status
shown_inner config (Lines lines) = (λ e. omega arith, λ e. omega arith, λ e. omega arith)
shown_inner config (NotReady name) = (λ e. omega arith, λ e. omega arith, λ e. omega arith)

missing_inner : (config dp : List ℕ) (port : ℕ) (m : Missing) → IsInner (missing_answer config dp port m).status
missing_inner config dp port missing.Dp = (λ e. omega arith, λ e. omega arith, λ e. omega arith)
missing_inner config dp port missing.Port = (λ e. omega arith, λ e. omega arith, λ e. omega arith)

two : (config dp : List ℕ) (port : ℕ) (m : Missing) → (missing_answer config dp port m).status ≡ 2
two config dp port missing.Dp = refl
two config dp port missing.Port = refl

module _ (how : How) (contents : Option Contents) (absence fault : Type 0) (traced : Traced) where
  end_inner : (conf : Configuration) (p : Packet) (end : Followed) → Follows how contents traced.recording absence fault conf traced.dp traced.port p end → IsInner (followed_answer traced.config traced.recording end).status
  end_inner conf p (followed.Showed s) follows = shown_inner traced.config s
  end_inner conf p (followed.Ended (replayed.Read None)) follows = absurd follows
  end_inner conf p (followed.Ended (replayed.Read (Some why))) follows = (λ e. omega arith, λ e. omega arith, λ e. omega arith)
  end_inner conf p (followed.Ended replayed.Unread) follows = (λ e. omega arith, λ e. omega arith, λ e. omega arith)
  end_inner conf p (followed.Ended replayed.Spent) follows = (λ e. omega arith, λ e. omega arith, λ e. omega arith)
  end_inner conf p (followed.Ended replayed.WriteFault) follows = absurd follows
  end_inner conf p (followed.Ended replayed.Memory) follows = (λ e. omega arith, λ e. omega arith, λ e. omega arith)

  entered_inner : (conf : Configuration) (m : Option Missing) (a : Answer) → RepliesEntered how contents absence fault traced conf m a → IsInner a.status
  entered_inner conf (Some m) a is = subst (λ (b : Answer). IsInner b.status) (sym is) (missing_inner traced.config traced.dp traced.port m)
  entered_inner conf None a (p, reads, (end, follows, by_file, is)) = subst (λ (b : Answer). IsInner b.status) (sym is) (end_inner conf p end follows)

  pub follow_inner : (made : Load) (a : Answer) → RepliesFollow how contents absence fault traced made a → IsInner a.status
  follow_inner (Err why) a is = subst (λ (b : Answer). IsInner b.status) (sym is) (refusal_inner traced.config why)
  follow_inner (Ok conf) a replies = entered_inner conf (missing_in conf traced.dp traced.port) a replies

  end_unread : (conf : Configuration) (p : Packet) (end : Followed) → Follows how contents traced.recording absence fault conf traced.dp traced.port p end → (followed_answer traced.config traced.recording end).status ≡ 3 → absence ⊎ fault
  end_unread conf p (followed.Showed (Lines lines)) follows s = absurd (omega (arith, s))
  end_unread conf p (followed.Showed (NotReady name)) follows s = absurd (omega (arith, s))
  end_unread conf p (followed.Ended (replayed.Read None)) follows s = absurd follows
  end_unread conf p (followed.Ended (replayed.Read (Some why))) follows s = absurd (omega (arith, s))
  end_unread conf p (followed.Ended replayed.Unread) follows s = follows
  end_unread conf p (followed.Ended replayed.Spent) follows s = absurd (omega (arith, s))
  end_unread conf p (followed.Ended replayed.WriteFault) follows s = absurd follows
  end_unread conf p (followed.Ended replayed.Memory) follows s = absurd (omega (arith, s))

  entered_unread : (conf : Configuration) (m : Option Missing) (a : Answer) → RepliesEntered how contents absence fault traced conf m a → a.status ≡ 3 → absence ⊎ fault
  entered_unread conf (Some m) a is s = let at = two traced.config traced.dp traced.port m in let same = ap (λ (b : Answer). b.status) is in absurd (omega (arith, at, same, s))
  entered_unread conf None a (p, reads, (end, follows, by_file, is)) s = end_unread conf p end follows (sym (ap (λ (b : Answer). b.status) is) ∙ s)

  -- a file is missing, or a read failed, where the status says so
  pub follow_unread : (refused : List ℕ) (made : Load) (a : Answer) → Loads contents absence fault refused traced.config made → RepliesFollow how contents absence fault traced made a
      → a.status ≡ 3 → absence ⊎ fault
  follow_unread refused (Err why) a loads is s = refusal_unread loaded contents absence fault refused traced.config traced.config why loads (sym (ap (λ (b : Answer). b.status) is) ∙ s)
  follow_unread refused (Ok conf) a loads replies s = entered_unread conf (missing_in conf traced.dp traced.port) a replies s

-- a status that is neither of two
neither : (m n : ℕ) → m ≡ n → (n ≡ 0) ⊎ (n ≡ 9) → (m ≡ 0 → ⊥) → (m ≡ 9 → ⊥) → ⊥
neither m n is either none nine = elim either [ inl zero ↦ none (is ∙ zero) | inr other ↦ nine (is ∙ other) ]

refusal_apart : (n : ℕ) → (n ≡ 0) ⊎ (n ≡ 9) → (config : List ℕ) (why : LoadRefused) → (refusal config why).status ≡ n → ⊥
refusal_apart n either config why s =
    elim either [
      | inl zero ↦ refusal_not n (λ e. omega (arith, e, zero)) (λ e. omega (arith, e, zero)) (λ e. omega (arith, e, zero)) config why s
      | inr nine ↦ refusal_not n (λ e. omega (arith, e, nine)) (λ e. omega (arith, e, nine)) (λ e. omega (arith, e, nine)) config why s
    ]

-- ends with different numbers differ
abbrev end_or : Replayed → Followed → Replayed
end_or end (followed.Showed s) = end
end_or end (followed.Ended e) = e

read_apart : (why : RecordRefused) (end : Replayed) → (number_after (replayed.Read (Some why)) ≡ number_after end → ⊥) → followed.Ended (replayed.Read (Some why)) ≡ followed.Ended end → ⊥
read_apart why end other is = other (ap number_after (ap (end_or end) is))

-- ---- what is replied, where the files are told

module _ (how : How) (held : Contents) (absence fault : Type 0) (traced : Traced) where
  -- the recording is there
  file_is : (file : Option (List ℕ)) → held 0 traced.recording ≡ file → ◌≡◌ {A = Option (Option (List ℕ))} (Some (held 0 traced.recording)) (Some file)
  file_is file is = ap (λ (f : Option (List ℕ)). Some f) is

  module _ (conf : Configuration) (p : Packet) (reads : packet traced.frame ≡ Some p) where
    -- that it isn't there is told, unless memory ran out
    end_none : (end : Followed) → GoesByRecording (Some held) traced.recording fault end → held 0 traced.recording ≡ None
        → StatusFor (followed_answer traced.config traced.recording end).status (λ n. n ≡ 3) fault
    end_none end by_file is =
        elim (by_file.missing (file_is None is)) [
          | inl unread ↦ inl (ap (λ (e : Followed). (followed_answer traced.config traced.recording e).status) unread)
          | inr memory ↦ inr (inr (inl (ap (λ (e : Followed). (followed_answer traced.config traced.recording e).status) memory)))
        ]

    same_shown : (s t : Shown) → s ≡ t → (shown_answer traced.config s).status ≡ (shown_answer [] t).status
    same_shown (Lines lines) t is = ap (λ (u : Shown). (shown_answer [] u).status) is
    same_shown (NotReady name) t is = ap (λ (u : Shown). (shown_answer [] u).status) is

    end_some : (bytes : List ℕ) (end : Followed) → Follows how (Some held) traced.recording absence fault conf traced.dp traced.port p end → GoesByRecording (Some held) traced.recording fault end → held 0 traced.recording ≡ Some bytes
        → StatusFor (followed_answer traced.config traced.recording end).status (IsEnteredStatus how conf traced (Some bytes) None) fault
    end_some bytes (followed.Showed s) (story, told, is) by_file file = inl (inl (story, None, told.1 bytes (file_is (Some bytes) file), told.0, (p, reads, same_shown s _ is)))
    end_some bytes (followed.Ended (replayed.Read None)) follows by_file file = absurd follows
    end_some bytes (followed.Ended (replayed.Read (Some why))) (story, told) by_file file = inl (inl (story, Some why, told.1 bytes (file_is (Some bytes) file), told.0, refl))
    end_some bytes (followed.Ended replayed.Unread) follows by_file file = inr (inr (inr (refl, by_file.there bytes (file_is (Some bytes) file) refl)))
    end_some bytes (followed.Ended replayed.Spent) (story, most, so_far) by_file file = inl (inr (story, so_far bytes (file_is (Some bytes) file), most, refl))
    end_some bytes (followed.Ended replayed.WriteFault) follows by_file file = absurd follows
    end_some bytes (followed.Ended replayed.Memory) follows by_file file = inr (inr (inl refl))

    end_told : (end : Followed) → Follows how (Some held) traced.recording absence fault conf traced.dp traced.port p end → GoesByRecording (Some held) traced.recording fault end → (file : Option (List ℕ)) → held 0 traced.recording ≡ file
        → StatusFor (followed_answer traced.config traced.recording end).status (IsEnteredStatus how conf traced file None) fault
    end_told end follows by_file None is = end_none end by_file is
    end_told end follows by_file (Some bytes) is = end_some bytes end follows by_file is

  entered_told : (conf : Configuration) (m : Option Missing) (a : Answer) → RepliesEntered how (Some held) absence fault traced conf m a
      → StatusFor a.status (IsEnteredStatus how conf traced (held 0 traced.recording) m) fault
  entered_told conf (Some m) a is = inl (ap (λ (b : Answer). b.status) is ∙ two traced.config traced.dp traced.port m)
  entered_told conf None a (p, reads, (end, follows, by_file, is)) =
      subst (λ (b : Answer). StatusFor b.status (IsEnteredStatus how conf traced (held 0 traced.recording) None) fault) (sym is) (end_told conf p reads end follows by_file (held 0 traced.recording) refl)

  pub follow_told : (refused : List ℕ) (made : Load) (a : Answer) → Loads (Some held) absence fault refused traced.config made → RepliesFollow how (Some held) absence fault traced made a
      → StatusFor a.status (IsLoadedStatus traced.config (loaded (held 0) traced.config) (IsFollowStatus how traced (held 0))) fault
  follow_told refused (Err why) a loads is =
      subst (λ (b : Answer). StatusFor b.status (IsLoadedStatus traced.config (loaded (held 0) traced.config) (IsFollowStatus how traced (held 0))) fault) (sym is)
      (refusal_told held absence fault loaded refused traced.config (IsFollowStatus how traced (held 0)) why loads)
  follow_told refused (Ok conf) a loads replies =
      accepted_told held absence fault loaded refused traced.config (IsFollowStatus how traced (held 0)) conf a.status loads (entered_told conf (missing_in conf traced.dp traced.port) a replies)

  -- ---- at status 0, 9 and 5

  module _ (valid : (held : Held) (name : List ℕ) (conf : Configuration) → loaded held name ≡ Ok conf → IsValid conf)
      (right : (conf : Configuration) (story : List Happening) → IsValid conf → IsRight conf story) (refused : List ℕ) (o0 o1 e0 e1 : Option (List ℕ)) where
    -- the recording is there, where the run over it didn't end so
    there : (end : Followed) → GoesByRecording (Some held) traced.recording fault end → (end ≡ followed.Ended replayed.Unread → ⊥) → (end ≡ followed.Ended replayed.Memory → ⊥)
        → (bytes : List ℕ) × (held 0 traced.recording ≡ Some bytes)
    there end by_file read kept = by (held 0 traced.recording) refl
      where
        by : (file : Option (List ℕ)) → held 0 traced.recording ≡ file → (bytes : List ℕ) × (held 0 traced.recording ≡ Some bytes)
        by (Some bytes) is = (bytes, is)
        by None is = absurd (elim (by_file.missing (file_is None is)) [ inl unread ↦ read unread | inr memory ↦ kept memory ])

    abbrev entered_by : (conf : Configuration) (story : List Happening) (cut : Option RecordRefused) → loaded (held 0) traced.config ≡ Ok conf → missing_in conf traced.dp traced.port ≡ None
        → (bytes : List ℕ) → held 0 traced.recording ≡ Some bytes → IsStoryOf bytes story (closed_in conf story) cut → IsEntered traced cut (held 0)
    entered_by conf story cut accepted enters bytes file told = record {
      conf = conf;
      bytes = bytes;
      story = story;
      accepted = accepted;
      enters = enters;
      file = file;
      told = told;
      right = λ front is_front. right conf front (valid (held 0) traced.config conf accepted);
    }

    -- what was shown was written
    end_shown : (conf : Configuration) (p : Packet) (end : Followed) (n : ℕ) → loaded (held 0) traced.config ≡ Ok conf → missing_in conf traced.dp traced.port ≡ None → packet traced.frame ≡ Some p
        → Follows how (Some held) traced.recording absence fault conf traced.dp traced.port p end → GoesByRecording (Some held) traced.recording fault end → (followed_answer traced.config traced.recording end).status ≡ n → (n ≡ 0) ⊎ (n ≡ 9)
        → o1 ≡ appended o0 (followed_answer traced.config traced.recording end).out → e1 ≡ appended e0 (followed_answer traced.config traced.recording end).err
        → (s : Shown) × ((shown_answer traced.config s).status ≡ n) × IsFollowed how traced (held 0) s o0 o1 e0 e1
    end_shown conf p (followed.Showed s) n accepted enters reads (story, told, is) by_file at either wrote said =
        let file = there (followed.Showed s) by_file (λ h. absurd cc) (λ h. absurd cc) in (
          s,
          at,
          record {
            entered = entered_by conf story None accepted enters file.0 file.1 (told.1 file.0 (file_is (Some file.0) file.1));
            p = p;
            reads = reads;
            shows = sym is;
            out = wrote;
            err = said;
          },
        )
    end_shown conf p (followed.Ended (replayed.Read None)) n accepted enters reads follows by_file at either wrote said = absurd follows
    end_shown conf p (followed.Ended (replayed.Read (Some why))) n accepted enters reads follows by_file at either wrote said = absurd (neither 5 n at either (λ e. omega arith) (λ e. omega arith))
    end_shown conf p (followed.Ended replayed.Unread) n accepted enters reads follows by_file at either wrote said = absurd (neither 3 n at either (λ e. omega arith) (λ e. omega arith))
    end_shown conf p (followed.Ended replayed.Spent) n accepted enters reads follows by_file at either wrote said = absurd (neither 7 n at either (λ e. omega arith) (λ e. omega arith))
    end_shown conf p (followed.Ended replayed.WriteFault) n accepted enters reads follows by_file at either wrote said = absurd follows
    end_shown conf p (followed.Ended replayed.Memory) n accepted enters reads follows by_file at either wrote said = absurd (neither 8 n at either (λ e. omega arith) (λ e. omega arith))

    entered_shown : (conf : Configuration) (m : Option Missing) (a : Answer) (n : ℕ) → loaded (held 0) traced.config ≡ Ok conf → missing_in conf traced.dp traced.port ≡ m
        → RepliesEntered how (Some held) absence fault traced conf m a → a.status ≡ n → (n ≡ 0) ⊎ (n ≡ 9) → o1 ≡ appended o0 a.out → e1 ≡ appended e0 a.err
        → (s : Shown) × ((shown_answer traced.config s).status ≡ n) × IsFollowed how traced (held 0) s o0 o1 e0 e1
    entered_shown conf (Some m) a n accepted enters is at either wrote said = absurd (neither 2 n (sym (ap (λ (b : Answer). b.status) is ∙ two traced.config traced.dp traced.port m) ∙ at) either (λ e. omega arith) (λ e. omega arith))
    entered_shown conf None a n accepted enters (p, reads, (end, follows, by_file, is)) at either wrote said =
        end_shown conf p end n accepted enters reads follows by_file (sym (ap (λ (b : Answer). b.status) is) ∙ at) either
        (wrote ∙ ap (λ (b : Answer). appended o0 b.out) is) (said ∙ ap (λ (b : Answer). appended e0 b.err) is)

    pub follow_shown : (a : Answer) (n : ℕ) → RepliesLoaded how (Some held) absence fault refused traced a → a.status ≡ n → (n ≡ 0) ⊎ (n ≡ 9) → o1 ≡ appended o0 a.out → e1 ≡ appended e0 a.err
        → (s : Shown) × ((shown_answer traced.config s).status ≡ n) × IsFollowed how traced (held 0) s o0 o1 e0 e1
    follow_shown a n (Err why, loads, is) at either wrote said =
        absurd (refusal_apart n either traced.config why (sym (ap (λ (b : Answer). b.status) is) ∙ at))
    follow_shown a n (Ok conf, loads, replies) at either wrote said = entered_shown conf (missing_in conf traced.dp traced.port) a n (loads.told held refl) refl replies at either wrote said

    -- a refused record is all that was said
    end_cut : (conf : Configuration) (p : Packet) (end : Followed) → loaded (held 0) traced.config ≡ Ok conf → missing_in conf traced.dp traced.port ≡ None
        → Follows how (Some held) traced.recording absence fault conf traced.dp traced.port p end → GoesByRecording (Some held) traced.recording fault end → (followed_answer traced.config traced.recording end).status ≡ 5
        → o1 ≡ appended o0 (followed_answer traced.config traced.recording end).out → e1 ≡ appended e0 (followed_answer traced.config traced.recording end).err
        → (why : RecordRefused) × IsCutShort traced why (held 0) o0 o1 e0 e1
    end_cut conf p (followed.Showed (Lines lines)) accepted enters follows by_file at wrote said = absurd (omega (arith, at))
    end_cut conf p (followed.Showed (NotReady name)) accepted enters follows by_file at wrote said = absurd (omega (arith, at))
    end_cut conf p (followed.Ended (replayed.Read None)) accepted enters follows by_file at wrote said = absurd follows
    end_cut conf p (followed.Ended (replayed.Read (Some why))) accepted enters (story, told) by_file at wrote said =
        let file = there (followed.Ended (replayed.Read (Some why))) by_file (λ h. read_apart why replayed.Unread (λ e. omega arith) h) (λ h. read_apart why replayed.Memory (λ e. omega arith) h) in (
          why,
          record {
            entered = entered_by conf story (Some why) accepted enters file.0 file.1 (told.1 file.0 (file_is (Some file.0) file.1));
            out = wrote;
            err = said;
          },
        )
    end_cut conf p (followed.Ended replayed.Unread) accepted enters follows by_file at wrote said = absurd (omega (arith, at))
    end_cut conf p (followed.Ended replayed.Spent) accepted enters follows by_file at wrote said = absurd (omega (arith, at))
    end_cut conf p (followed.Ended replayed.WriteFault) accepted enters follows by_file at wrote said = absurd follows
    end_cut conf p (followed.Ended replayed.Memory) accepted enters follows by_file at wrote said = absurd (omega (arith, at))

    entered_cut : (conf : Configuration) (m : Option Missing) (a : Answer) → loaded (held 0) traced.config ≡ Ok conf → missing_in conf traced.dp traced.port ≡ m
        → RepliesEntered how (Some held) absence fault traced conf m a → a.status ≡ 5 → o1 ≡ appended o0 a.out → e1 ≡ appended e0 a.err
        → (why : RecordRefused) × IsCutShort traced why (held 0) o0 o1 e0 e1
    entered_cut conf (Some m) a accepted enters is at wrote said = let two_is = two traced.config traced.dp traced.port m in let same = ap (λ (b : Answer). b.status) is in absurd (omega (arith, two_is, same, at))
    entered_cut conf None a accepted enters (p, reads, (end, follows, by_file, is)) at wrote said =
        end_cut conf p end accepted enters follows by_file (sym (ap (λ (b : Answer). b.status) is) ∙ at)
        (wrote ∙ ap (λ (b : Answer). appended o0 b.out) is) (said ∙ ap (λ (b : Answer). appended e0 b.err) is)

    pub follow_cut : (a : Answer) → RepliesLoaded how (Some held) absence fault refused traced a → a.status ≡ 5 → o1 ≡ appended o0 a.out → e1 ≡ appended e0 a.err
        → (why : RecordRefused) × IsCutShort traced why (held 0) o0 o1 e0 e1
    follow_cut a (Err why, loads, is) at wrote said =
        absurd (refusal_not 5 (λ e. omega arith) (λ e. omega arith) (λ e. omega arith) traced.config why (sym (ap (λ (b : Answer). b.status) is) ∙ at))
    follow_cut a (Ok conf, loads, replies) at wrote said = entered_cut conf (missing_in conf traced.dp traced.port) a (loads.told held refl) refl replies at wrote said

-- ---- the reply that was given

-- a frame whose EtherType is there has a packet
pub packet_is : (frame : List ℕ) (p : Option Packet) → p ≡ packet frame → IsSome p ↔ IsTrue (has_type frame) → IsTrue (has_type frame) → p ≡ None → ⊥
packet_is frame (Some p) is with_type typed none = absurd cc
packet_is frame None is with_type typed none = absurd (cc (with_type.1 typed))

-- what was counted by a part of a call was counted by the whole
module _ (how : How) (contents : Option Contents) (recording : List ℕ) (a0 a1 a2 f0 f1 f2 : ℕ) (le_a : a0 ≤ a1) (le_f : f0 ≤ f1) where
  follows_since : (conf : Configuration) (dp : List ℕ) (port : ℕ) (p : Packet) (end : Followed) → Follows how contents recording (Rose a1 a2) (Rose f1 f2) conf dp port p end → Follows how contents recording (Rose a0 a2) (Rose f0 f2) conf dp port p end
  follows_since conf dp port p (followed.Showed s) follows = follows
  follows_since conf dp port p (followed.Ended (replayed.Read None)) follows = follows
  follows_since conf dp port p (followed.Ended (replayed.Read (Some why))) follows = follows
  follows_since conf dp port p (followed.Ended replayed.Unread) follows = elim follows [ inl rose ↦ inl (Rose-since a0 a1 a2 le_a rose) | inr rose ↦ inr (Rose-since f0 f1 f2 le_f rose) ]
  follows_since conf dp port p (followed.Ended replayed.Spent) follows = follows
  follows_since conf dp port p (followed.Ended replayed.WriteFault) follows = follows
  follows_since conf dp port p (followed.Ended replayed.Memory) follows = follows

  file_since : (end : Followed) → GoesByRecording contents recording (Rose f1 f2) end → GoesByRecording contents recording (Rose f0 f2) end
  file_since end by_file = record { missing = by_file.missing; there = λ bytes is ends. Rose-since f0 f1 f2 le_f (by_file.there bytes is ends) }

module _ (how : How) (contents : Option Contents) (a0 a1 a2 f0 f1 f2 : ℕ) (le_a : a0 ≤ a1) (le_f : f0 ≤ f1) (refused : List ℕ) (traced : Traced) (o0 o1 e0 e1 : Option (List ℕ)) (m0 m1 n0 n1 : ℕ) (status : ℕ) where
  -- of a configuration that has the interface
  pub followed_given : (conf : Configuration) (p : Packet) (end : Followed) → ((held : Contents) → contents ≡ Some held → loaded (held 0) traced.config ≡ Ok conf)
      → missing_in conf traced.dp traced.port ≡ None → packet traced.frame ≡ Some p
      → Follows how contents traced.recording (Rose a1 a2) (Rose f1 f2) conf traced.dp traced.port p end → GoesByRecording contents traced.recording (Rose f1 f2) end
      → Delivers (followed_answer traced.config traced.recording end) status o0 o1 e0 e1 m0 m1 n0 n1 → GivesFollow how contents (Rose a0 a2) (Rose f0 f2) refused traced status o0 o1 e0 e1 m0 m1 n0 n1
  followed_given conf p end told none reads follows by_file delivers = (
    followed_answer traced.config traced.recording end,
    inl (
      Ok conf,
      accepted_loads loaded contents (Rose a0 a2) (Rose f0 f2) refused traced.config conf told,
      subst (λ (m : Option Missing). RepliesEntered how contents (Rose a0 a2) (Rose f0 f2) traced conf m (followed_answer traced.config traced.recording end)) (sym none) (
        p,
        reads,
        (end, follows_since how contents traced.recording a0 a1 a2 f0 f1 f2 le_a le_f conf traced.dp traced.port p end follows, file_since how contents traced.recording a0 a1 a2 f0 f1 f2 le_a le_f end by_file, refl),
      ),
    ),
    delivers,
  )

module _ (how : How) (contents : Option Contents) (absence fault : Type 0) (refused : List ℕ) (traced : Traced) (o e0 e1 : Option (List ℕ)) (m n0 n1 : ℕ) (ended : Status) where
  -- of one that hasn't it
  pub missing_given : (conf : Configuration) → ((held : Contents) → contents ≡ Some held → loaded (held 0) traced.config ≡ Ok conf) → (lacks : Missing) → Some lacks ≡ missing_in conf traced.dp traced.port
      → Ends statuses.Refused (missing_answer traced.config traced.dp traced.port lacks).err e0 e1 n0 n1 ended → GivesFollow how contents absence fault refused traced (number_of_status ended) o o e0 e1 m m n0 n1
  missing_given conf told lacks is ends = (
    missing_answer traced.config traced.dp traced.port lacks,
    inl (
      Ok conf,
      accepted_loads loaded contents absence fault refused traced.config conf told,
      subst (λ (x : Option Missing). RepliesEntered how contents absence fault traced conf x (missing_answer traced.config traced.dp traced.port lacks)) is refl,
    ),
    said_missing lacks ends,
  )
    where
      said_missing : (lacks : Missing) → Ends statuses.Refused (missing_answer traced.config traced.dp traced.port lacks).err e0 e1 n0 n1 ended
          → Delivers (missing_answer traced.config traced.dp traced.port lacks) (number_of_status ended) o o e0 e1 m m n0 n1
      said_missing missing.Dp ends = line_delivered [] o o e0 e1 m m n0 n1 (missing_answer traced.config traced.dp traced.port missing.Dp) statuses.Refused ended refl refl ends
      said_missing missing.Port ends = line_delivered [] o o e0 e1 m m n0 n1 (missing_answer traced.config traced.dp traced.port missing.Port) statuses.Refused ended refl refl ends

  -- the configuration was refused
  pub unloaded_given : (why : LoadRefused) → Loads contents absence fault refused traced.config (Err why) → Delivers (refusal traced.config why) (number_of_status ended) o o e0 e1 m m n0 n1
      → GivesFollow how contents absence fault refused traced (number_of_status ended) o o e0 e1 m m n0 n1
  unloaded_given why loads delivers = (refusal traced.config why, inl (Err why, loads, refl), delivers)

  -- memory ran out
  pub memory_given : Ends statuses.Memory out_of_memory.err e0 e1 n0 n1 ended → GivesFollow how contents absence fault refused traced (number_of_status ended) o o e0 e1 m m n0 n1
  memory_given ends = (out_of_memory, inr refl, line_delivered [] o o e0 e1 m m n0 n1 out_of_memory statuses.Memory ended refl refl ends)

-- ---- the file at fault

module _ (config recording : List ℕ) (o0 o1 e0 e1 : Option (List ℕ)) (m0 m1 n0 n1 : ℕ) (ended : Status) where
  -- an end with the status of a read that failed
  unread_end : (end : Followed) → (followed_answer config recording end).status ≡ 3 → end ≡ followed.Ended replayed.Unread
  unread_end (followed.Showed (Lines lines)) s = absurd (omega (arith, s))
  unread_end (followed.Showed (NotReady name)) s = absurd (omega (arith, s))
  unread_end (followed.Ended (replayed.Read None)) s = absurd (omega (arith, s))
  unread_end (followed.Ended (replayed.Read (Some why))) s = absurd (omega (arith, s))
  unread_end (followed.Ended replayed.Unread) s = refl
  unread_end (followed.Ended replayed.Spent) s = absurd (omega (arith, s))
  unread_end (followed.Ended replayed.WriteFault) s = absurd (omega (arith, s))
  unread_end (followed.Ended replayed.Memory) s = absurd (omega (arith, s))

  pub followed_named : (end : Followed) (name : List ℕ) → Delivers (followed_answer config recording end) (number_of_status ended) o0 o1 e0 e1 m0 m1 n0 n1 → ended ≡ statuses.Unread
      → (end ≡ followed.Ended replayed.Unread → name ≡ recording) → NamesUnread name e0 e1
  followed_named end name delivers is same =
      elim delivers [
        | inl whole ↦
            let at : end ≡ followed.Ended replayed.Unread = unread_end end (sym whole.0 ∙ ap number_of_status is) in
            ([], whole.2 ∙ ap (λ (x : Followed). appended e0 (followed_answer config recording x).err) at ∙ ap (λ (f : List ℕ). appended e0 ([] ++ (unread_answer f).err)) (sym (same at)))
        | inr front ↦ absurd (four_isnt_three (sym front.0 ∙ ap number_of_status is))
      ]
    where
      four_isnt_three : ◌≡◌ {A = ℕ} 4 3 → ⊥
      four_isnt_three e = omega (arith, e)

  -- another end is no read that failed
  pub followed_read : (end : Followed) → Delivers (followed_answer config recording end) (number_of_status ended) o0 o1 e0 e1 m0 m1 n0 n1 → ended ≢ statuses.Unread → ended ≢ statuses.WriteFault
      → end ≡ followed.Ended replayed.Unread → ⊥
  followed_read end delivers unread written is =
      elim delivers [
        | inl whole ↦ unread (unread_by_number ended (whole.0 ∙ ap (λ (x : Followed). (followed_answer config recording x).status) is))
        | inr front ↦ written (write_fault_by_number ended front.0)
      ]

-- the line of a missing interface is none of a read
pub missing_read : (bytes : List ℕ) (e0 e1 : Option (List ℕ)) (n0 n1 : ℕ) (ended : Status) → Ends statuses.Refused bytes e0 e1 n0 n1 ended → ended ≡ statuses.Unread → ⊥
missing_read bytes e0 e1 n0 n1 ended ends is = elim ends [ inl whole ↦ refused_isnt_unread (sym whole.0 ∙ is) | inr front ↦ written_isnt_unread (sym front.0 ∙ is) ]
  where
    refused_isnt_unread : statuses.Refused ≡ statuses.Unread → ⊥
    refused_isnt_unread e = cc

    written_isnt_unread : statuses.WriteFault ≡ statuses.Unread → ⊥
    written_isnt_unread e = cc

-- ---- the words

-- a frame that words spell has its EtherType
pub has_frame : (words : List (List ℕ)) (job : Job) → AskFor words job → HasFrame (Some job)
has_frame w j (Check words files some is) = tt
has_frame w j (Plan words config dp is) = tt
has_frame w j (Replay words config recording is) = tt
has_frame w j (Serve words config options said is how) = tt
has_frame w j (Gauge words config recording is) = tt
has_frame w j (GaugeServe words config options events listen is says_events says_listen) = tt
has_frame w j (Bench words text hosts is spells) = tt
has_frame w j (Trace words config recording dp port digits number frame is is_port is_frame) = is_frame.typed
has_frame w j (Walk words config recording dp port digits number frame is is_port is_frame) = is_frame.typed
has_frame w j (Bgp words config router recording is) = tt
has_frame w j (BgpServe words config router options events listen is says_events says_listen) = tt
