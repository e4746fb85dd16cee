-- From the reply to a run over a recording to what its status says.
use Rattle.std.proofs.Common.{◌≡◌, ◌≢◌, ℕ, ◌⊎◌, inl, inr, List, [], ◌∷◌, ◌++◌, Option, Some, None, unwrap_or, Result, Ok, Err, refl, sym, ap, subst, ◌∙◌, arith}
use Rattle.std.specs.List.{AllByRecursion}
use Rattle.fg_outside.specs.Contents.{Contents}
use Rattle.fg_outside.specs.Wrote.{appended}
use Rattle.fg_outside.specs.declared.hub.Happening.{Happening}
use Rattle.conf_types.specs.Configuration.{Configuration}
use Rattle.conf_types.specs.Valid.{IsValid}
use Rattle.conf_gather.specs.declared.refused.LoadRefused.{LoadRefused}
use Rattle.conf_gather.specs.declared.refused.LoadRefused.TheVariants.{Read, Yaml, Conf, IncludeTwice, IncludeDepth, Absent, Memory}
use Rattle.conf_gather.specs.Gathered.{Held}
use Rattle.conf_load.specs.Loaded.{loaded}
use Rattle.law_stories.specs.Right.{IsRight}
use Rattle.recording.specs.declared.refused.RecordRefused.{RecordRefused}
use Rattle.recording.specs.Written.{written_records}
use Rattle.ctl_world.specs.World.{first}
use Rattle.gauge_load.specs.Loaded.{gauge_of}
use Rattle.gauge_poll.specs.Monitoring.{Monitor, begun, lines_of as gauge_lines}
use Rattle.hub_drive.specs.declared.replay.Replayed.{Replayed}
use Rattle.hub_drive.specs.declared.replay.Replayed.TheVariants as replayed
use Rattle.hub_drive.specs.declared.sayings.Outlet.{Outlet}
use Rattle.hub_drive.specs.declared.sayings.Outlet.TheVariants as outlets
use Rattle.hub_drive.specs.Driving.{out_of}
use Rattle.hub_drive.specs.Machine.{Workings}
use Rattle.hub_drive.specs.Replay.{Replays}
use Rattle.ctl_drive.specs.Controller.{controller}
use Rattle.ctl_drive.specs.Driving.{records_of}
use Rattle.gauge_drive.specs.Gauge.{joined, monitor}
use Rattle.bgp_load.specs.declared.found.LoadedPeer.{LoadedPeer}
use Rattle.bgp_load.specs.declared.found.PeerLacks.{PeerLacks}
use Rattle.bgp_load.specs.declared.found.PeerLacks.TheVariants as lacks
use Rattle.bgp_load.specs.Peers.{FoundPeer, loaded_peer}
use Rattle.bgp_texts.specs.Taking.{IsAccepted}
use Rattle.bgp_speaker.specs.Speaking.{Speaking, turn as speak}
use Rattle.bgp_drive.specs.Speech.{speaks}
use Rattle.faucet_top.specs.Answer.{Answer, GaugeLoad, Load, refusal, last_line, PeerLoad, lacks_answer}
use Rattle.faucet_top.specs.Ends.{status_after}
use Rattle.faucet_top.specs.Given.{GaugeLoads, Loads, LoadsBy, GoesByFile, RepliesGauge, RepliesReplay, RepliesRun, StatusFor, IsRun, IsRunStatus, IsLoadedStatus, IsReplayed, IsWatched, IsPeerStatus, IsSpoken, PeerLoads, RepliesPeerRun, speaking_with, texts_of, with_text}
use Rattle.faucet_top.specs.Status.{number_of_status}
use Rattle.faucet_top.proofs.RefusalLemmas.{IsInner, refusal_inner, refusal_undone, refusal_unread_record, refusal_unread}

-- the number by how a replay ended
abbrev pub number_after : Replayed → ℕ
number_after end = number_of_status (status_after end)

-- ends with different numbers differ
pub ends_differ : (x y : Replayed) → (number_after x ≡ number_after y → ⊥) → x ≡ y → ⊥
ends_differ x y other is = other (ap number_after is)

-- a recording that is read is there
read_there : (refused : Option RecordRefused) → replayed.Read refused ≡ replayed.Unread → ⊥
read_there None = ends_differ (replayed.Read None) replayed.Unread (λ e. omega arith)
read_there (Some refused) = ends_differ (replayed.Read (Some refused)) replayed.Unread (λ e. omega arith)

-- the ends with these numbers
end_done : (end : Replayed) → number_after end ≡ 0 → end ≡ replayed.Read None
end_done (replayed.Read None) s = refl
end_done (replayed.Read (Some refused)) s = absurd (omega (arith, s))
end_done replayed.Unread s = absurd (omega (arith, s))
end_done replayed.Spent s = absurd (omega (arith, s))
end_done replayed.WriteFault s = absurd (omega (arith, s))
end_done replayed.Memory s = absurd (omega (arith, s))

end_refused : (end : Replayed) → number_after end ≡ 5 → (refused : RecordRefused) × (end ≡ replayed.Read (Some refused))
end_refused (replayed.Read None) s = absurd (omega (arith, s))
end_refused (replayed.Read (Some refused)) s = (refused, refl)
end_refused replayed.Unread s = absurd (omega (arith, s))
end_refused replayed.Spent s = absurd (omega (arith, s))
end_refused replayed.WriteFault s = absurd (omega (arith, s))
end_refused replayed.Memory s = absurd (omega (arith, s))

-- ---- the peer of a router

-- what a file gives of it
abbrev pub by_router : (router : List ℕ) → Held → List ℕ → Result FoundPeer LoadRefused
by_router router held name = loaded_peer held name router

pub lacks_status : (config router : List ℕ) (why : PeerLacks) → (lacks_answer config router why).status ≡ 2
lacks_status config router lacks.Router = refl
lacks_status config router lacks.Peer = refl
lacks_status config router lacks.Room = refl

-- an answer that there is none
lacks_other : (n : ℕ) → (n ≡ 2 → ⊥) → (config router : List ℕ) (why : PeerLacks) (a : Answer) → a ≡ lacks_answer config router why → a.status ≡ n → ⊥
lacks_other n two config router why a is s = two (sym s ∙ ap (λ (b : Answer). b.status) is ∙ lacks_status config router why)

-- each text that a turn of a speaker gives is accepted, so each that a story gives is
abbrev pub EachIsAccepted : Type 0
EachIsAccepted = (h : Happening) (s : Speaking) (text : List ℕ) → (speak h s).text ≡ Some text → IsAccepted text

with_accepted : (given : Option (List ℕ)) (texts : List (List ℕ)) → ((text : List ℕ) → given ≡ Some text → IsAccepted text) → AllByRecursion IsAccepted texts → AllByRecursion IsAccepted (with_text given texts)
with_accepted None texts each all = all
with_accepted (Some text) texts each all = (each text refl, all)

pub texts_accepted : EachIsAccepted → (s : Speaking) (hs : List Happening) → AllByRecursion IsAccepted (texts_of s hs)
texts_accepted each s [] = tt
texts_accepted each s (h ∷ hs) = with_accepted (speak h s).text (texts_of (speak h s) hs) (each h s) (texts_accepted each (speak h s) hs)

-- ---- its status

end_inner : (end : Replayed) → end ≢ replayed.WriteFault → IsInner (number_after end)
end_inner (replayed.Read None) other = (λ e. omega arith, λ e. omega arith, λ e. omega arith)
end_inner (replayed.Read (Some refused)) other = (λ e. omega arith, λ e. omega arith, λ e. omega arith)
end_inner replayed.Unread other = (λ e. omega arith, λ e. omega arith, λ e. omega arith)
end_inner replayed.Spent other = (λ e. omega arith, λ e. omega arith, λ e. omega arith)
end_inner replayed.WriteFault other = absurd (other refl)
end_inner replayed.Memory other = (λ e. omega arith, λ e. omega arith, λ e. omega arith)

module _ (contents : Option Contents) (absence fault : Type 0) where
  module _ {S : Type 0} (works : Workings S) (outlet : Outlet) (recording : List ℕ) (w : S) where
    run_inner : (a : Answer) → RepliesRun works outlet contents absence fault recording w a → IsInner a.status
    run_inner a (end, out, lines, unfailed, replays, by_file, is) = subst (λ (b : Answer). IsInner b.status) (sym is) (end_inner end unfailed)

    end_unread : (o0 o1 e0 e1 : Option (List ℕ)) (end : Replayed) → Replays works outlet contents recording absence fault w o0 o1 e0 e1 end → number_after end ≡ 3 → absence ⊎ fault
    end_unread o0 o1 e0 e1 (replayed.Read None) replays s = absurd (omega (arith, s))
    end_unread o0 o1 e0 e1 (replayed.Read (Some refused)) replays s = absurd (omega (arith, s))
    end_unread o0 o1 e0 e1 replayed.Unread replays s = replays.3
    end_unread o0 o1 e0 e1 replayed.Spent replays s = absurd (omega (arith, s))
    end_unread o0 o1 e0 e1 replayed.WriteFault replays s = absurd (omega (arith, s))
    end_unread o0 o1 e0 e1 replayed.Memory replays s = absurd (omega (arith, s))

    run_unread : (a : Answer) → RepliesRun works outlet contents absence fault recording w a → a.status ≡ 3 → absence ⊎ fault
    run_unread a (end, out, lines, unfailed, replays, by_file, is) s =
        end_unread (Some []) (Some out) (Some []) (Some lines) end replays (sym (ap (λ (b : Answer). b.status) is) ∙ s)

  pub replay_inner : (config recording : List ℕ) (made : Load) (a : Answer) → RepliesReplay contents absence fault config recording made a → IsInner a.status
  replay_inner config recording (Err why) a is = subst (λ (b : Answer). IsInner b.status) (sym is) (refusal_inner config why)
  replay_inner config recording (Ok conf) a replies = run_inner controller outlets.Records recording (first conf) a replies

  pub gauge_inner : (config recording : List ℕ) (made : GaugeLoad) (a : Answer) → RepliesGauge contents absence fault config recording made a → IsInner a.status
  gauge_inner config recording (Err why) a is = subst (λ (b : Answer). IsInner b.status) (sym is) (refusal_inner config why)
  gauge_inner config recording (Ok conf) a replies = run_inner monitor outlets.Nowhere recording (begun conf) a replies

  pub bgp_inner : (config router recording : List ℕ) (made : PeerLoad) (a : Answer) → RepliesPeerRun contents absence fault config router recording made a → IsInner a.status
  bgp_inner config router recording (Err why) a is = subst (λ (b : Answer). IsInner b.status) (sym is) (refusal_inner config why)
  bgp_inner config router recording (Ok (Err why)) a is = (
    lacks_other 1 (λ e. omega (arith, e)) config router why a is,
    lacks_other 4 (λ e. omega (arith, e)) config router why a is,
    lacks_other 6 (λ e. omega (arith, e)) config router why a is,
  )
  bgp_inner config router recording (Ok (Ok peer)) a replies = run_inner speaks outlets.Nowhere recording (speaking_with peer) a replies

  -- a file is missing, or a read failed, where the status says so
  pub replay_unread : (refused config recording : List ℕ) (made : Load) (a : Answer) → Loads contents absence fault refused config made → RepliesReplay contents absence fault config recording made a
      → a.status ≡ 3 → absence ⊎ fault
  replay_unread refused config recording (Err why) a loads is s = refusal_unread loaded contents absence fault refused config config why loads (sym (ap (λ (b : Answer). b.status) is) ∙ s)
  replay_unread refused config recording (Ok conf) a loads replies s = run_unread controller outlets.Records recording (first conf) a replies s

  pub gauge_unread : (refused config recording : List ℕ) (made : GaugeLoad) (a : Answer) → GaugeLoads contents absence fault refused config made → RepliesGauge contents absence fault config recording made a
      → a.status ≡ 3 → absence ⊎ fault
  gauge_unread refused config recording (Err why) a loads is s = refusal_unread gauge_of contents absence fault refused config config why loads (sym (ap (λ (b : Answer). b.status) is) ∙ s)
  gauge_unread refused config recording (Ok conf) a loads replies s = run_unread monitor outlets.Nowhere recording (begun conf) a replies s

  pub bgp_unread : (refused config router recording : List ℕ) (made : PeerLoad) (a : Answer) → PeerLoads contents absence fault refused config router made → RepliesPeerRun contents absence fault config router recording made a
      → a.status ≡ 3 → absence ⊎ fault
  bgp_unread refused config router recording (Err why) a loads is s = refusal_unread (by_router router) contents absence fault refused config config why loads (sym (ap (λ (b : Answer). b.status) is) ∙ s)
  bgp_unread refused config router recording (Ok (Err why)) a loads is s = absurd (lacks_other 3 (λ e. omega (arith, e)) config router why a is s)
  bgp_unread refused config router recording (Ok (Ok peer)) a loads replies s = run_unread speaks outlets.Nowhere recording (speaking_with peer) a replies s

-- ---- what is replied, where the files are told

module _ (held : Contents) (absence fault : Type 0) where
  module _ {S : Type 0} (works : Workings S) (outlet : Outlet) (name : List ℕ) (w : S) where
    -- what a run that ends so writes
    abbrev pub Wrote : (out lines : List ℕ) → Replayed → Type 0
    Wrote out lines end = Replays works outlet (Some held) name absence fault w (Some []) (Some out) (Some []) (Some lines) end

    end_where_none : (end : Replayed) → GoesByFile (Some held) name fault end → held 0 name ≡ None → StatusFor (number_after end) (IsRunStatus works w None) fault
    end_where_none end by_file is = inl (ap number_after (by_file.missing (ap (λ (f : Option (List ℕ)). Some f) is)))

    end_where_some : (out lines bytes : List ℕ) (end : Replayed) → end ≢ replayed.WriteFault → Wrote out lines end → GoesByFile (Some held) name fault end
        → held 0 name ≡ Some bytes → StatusFor (number_after end) (IsRunStatus works w (Some bytes)) fault
    end_where_some out lines bytes (replayed.Read refused) unfailed (story, writes, few, told) by_file is =
        inl (inl (story, refused, told bytes (ap (λ (f : Option (List ℕ)). Some f) is), few, refl))
    end_where_some out lines bytes replayed.Unread unfailed replays by_file is =
        inr (inr (inr (refl, by_file.there bytes (ap (λ (f : Option (List ℕ)). Some f) is) refl)))
    end_where_some out lines bytes replayed.Spent unfailed (story, writes, so_far, most) by_file is =
        inl (inr (story, so_far bytes (ap (λ (f : Option (List ℕ)). Some f) is), most, refl))
    end_where_some out lines bytes replayed.WriteFault unfailed replays by_file is = absurd (unfailed refl)
    end_where_some out lines bytes replayed.Memory unfailed replays by_file is = inr (inr (inl refl))

    end_told : (out lines : List ℕ) (end : Replayed) → end ≢ replayed.WriteFault → Wrote out lines end → GoesByFile (Some held) name fault end
        → (file : Option (List ℕ)) → held 0 name ≡ file → StatusFor (number_after end) (IsRunStatus works w file) fault
    end_told out lines end unfailed replays by_file None is = end_where_none end by_file is
    end_told out lines end unfailed replays by_file (Some bytes) is = end_where_some out lines bytes end unfailed replays by_file is

    run_told : (a : Answer) → RepliesRun works outlet (Some held) absence fault name w a → StatusFor a.status (IsRunStatus works w (held 0 name)) fault
    run_told a (end, out, lines, unfailed, replays, by_file, is) =
        subst (λ (b : Answer). StatusFor b.status (IsRunStatus works w (held 0 name)) fault) (sym is) (end_told out lines end unfailed replays by_file (held 0 name) refl)

  module _ {A : Type 0} (given : Held → List ℕ → Result A LoadRefused) (refused config : List ℕ) (IsRun : A → ℕ → Type 0) where
    same_refusal : (why : LoadRefused) → given (held 0) config ≡ Err why → IsLoadedStatus config (given (held 0) config) IsRun (refusal config why).status
    same_refusal why is = subst (λ (l : Result A LoadRefused). IsLoadedStatus config l IsRun (refusal config why).status) (sym is) refl

    -- the refusal that the files give is told; the others end the run
    pub refusal_told : (why : LoadRefused) → LoadsBy given (Some held) absence fault refused config (Err why)
        → StatusFor (refusal config why).status (IsLoadedStatus config (given (held 0) config) IsRun) fault
    refusal_told (Read name) loads = inr (inr (inr (refl, loads.unread name refl)))
    refusal_told Memory loads = inr (inr (inl refl))
    refusal_told (Yaml name at) loads = inl (same_refusal (Yaml name at) (loads.told held refl))
    refusal_told (Conf at) loads = inl (same_refusal (Conf at) (loads.told held refl))
    refusal_told (IncludeTwice name) loads = inl (same_refusal (IncludeTwice name) (loads.told held refl))
    refusal_told (IncludeDepth name) loads = inl (same_refusal (IncludeDepth name) (loads.told held refl))
    refusal_told (Absent name) loads = inl (same_refusal (Absent name) (loads.told held refl))

    -- a status that goes by the configuration that the files give
    pub accepted_told : (conf : A) (n : ℕ) → LoadsBy given (Some held) absence fault refused config (Ok conf) → StatusFor n (IsRun conf) fault
        → StatusFor n (IsLoadedStatus config (given (held 0) config) IsRun) fault
    accepted_told conf n loads one = subst (λ (l : Result A LoadRefused). StatusFor n (IsLoadedStatus config l IsRun) fault) (sym (loads.told held refl)) one

  module _ (refused config recording : List ℕ) (a : Answer) where
    pub replay_told : (made : Load) → Loads (Some held) absence fault refused config made → RepliesReplay (Some held) absence fault config recording made a
        → StatusFor a.status (IsLoadedStatus config (loaded (held 0) config) (λ conf. IsRunStatus controller (first conf) (held 0 recording))) fault
    replay_told (Err why) loads is =
        subst (λ (b : Answer). StatusFor b.status (IsLoadedStatus config (loaded (held 0) config) (λ conf. IsRunStatus controller (first conf) (held 0 recording))) fault) (sym is)
        (refusal_told loaded refused config (λ conf. IsRunStatus controller (first conf) (held 0 recording)) why loads)
    replay_told (Ok conf) loads replies =
        accepted_told loaded refused config (λ c. IsRunStatus controller (first c) (held 0 recording)) conf a.status loads (run_told controller outlets.Records recording (first conf) a replies)

    pub gauge_told : (made : GaugeLoad) → GaugeLoads (Some held) absence fault refused config made → RepliesGauge (Some held) absence fault config recording made a
        → StatusFor a.status (IsLoadedStatus config (gauge_of (held 0) config) (λ conf. IsRunStatus monitor (begun conf) (held 0 recording))) fault
    gauge_told (Err why) loads is =
        subst (λ (b : Answer). StatusFor b.status (IsLoadedStatus config (gauge_of (held 0) config) (λ conf. IsRunStatus monitor (begun conf) (held 0 recording))) fault) (sym is)
        (refusal_told gauge_of refused config (λ conf. IsRunStatus monitor (begun conf) (held 0 recording)) why loads)
    gauge_told (Ok conf) loads replies =
        accepted_told gauge_of refused config (λ c. IsRunStatus monitor (begun c) (held 0 recording)) conf a.status loads (run_told monitor outlets.Nowhere recording (begun conf) a replies)

  module _ (refused config router recording : List ℕ) (a : Answer) where
    abbrev IsBgpStatus : FoundPeer → ℕ → Type 0
    IsBgpStatus found n = IsPeerStatus (λ peer. IsRunStatus speaks (speaking_with peer) (held 0 recording)) found n

    pub bgp_told : (made : PeerLoad) → PeerLoads (Some held) absence fault refused config router made → RepliesPeerRun (Some held) absence fault config router recording made a
        → StatusFor a.status (IsLoadedStatus config (loaded_peer (held 0) config router) IsBgpStatus) fault
    bgp_told (Err why) loads is =
        subst (λ (b : Answer). StatusFor b.status (IsLoadedStatus config (loaded_peer (held 0) config router) IsBgpStatus) fault) (sym is)
        (refusal_told (by_router router) refused config IsBgpStatus why loads)
    bgp_told (Ok (Err why)) loads is =
        accepted_told (by_router router) refused config IsBgpStatus (Err why) a.status loads (inl (ap (λ (b : Answer). b.status) is ∙ lacks_status config router why))
    bgp_told (Ok (Ok peer)) loads replies =
        accepted_told (by_router router) refused config IsBgpStatus (Ok peer) a.status loads (run_told speaks outlets.Nowhere recording (speaking_with peer) a replies)

  -- ---- at status 0, and at status 5

  module _ {S : Type 0} (works : Workings S) (outlet : Outlet) (recording : List ℕ) (w : S) (prints : List Happening → List ℕ) (are : (story : List Happening) → out_of works outlet w story ≡ prints story) (o0 o1 e0 e1 : Option (List ℕ)) where
    abbrev Ran : Option RecordRefused → Type 0
    Ran refused = IsRun works w prints recording refused (held 0) o0 o1 e0 e1

    read_so : (out lines : List ℕ) → o1 ≡ appended o0 out → (refused : Option RecordRefused) → Wrote works outlet recording w out lines (replayed.Read refused) → GoesByFile (Some held) recording fault (replayed.Read refused)
        → (file : Option (List ℕ)) → held 0 recording ≡ file → e1 ≡ appended e0 (lines ++ last_line recording (replayed.Read refused)) → Ran refused
    read_so out lines wrote refused replays by_file None is said = absurd (read_there refused (by_file.missing (ap (λ (f : Option (List ℕ)). Some f) is)))
    read_so out lines wrote refused (story, writes, few, told) by_file (Some bytes) is said = record {
      bytes = bytes;
      story = story;
      file = is;
      told = told bytes (ap (λ (f : Option (List ℕ)). Some f) is);
      out = wrote ∙ ap (λ (o : Option (List ℕ)). appended o0 (unwrap_or o [])) writes.out ∙ ap (λ (l : List ℕ). appended o0 l) (are story);
      err = said ∙ ap (λ (o : Option (List ℕ)). appended e0 (unwrap_or o [] ++ last_line recording (replayed.Read refused))) writes.err;
    }

    module _ (a : Answer) (wrote : o1 ≡ appended o0 a.out) (said : e1 ≡ appended e0 a.err) where
      run_read : (replies : RepliesRun works outlet (Some held) absence fault recording w a) → (refused : Option RecordRefused) → replies.0 ≡ replayed.Read refused → Ran refused
      run_read (end, out, lines, unfailed, replays, by_file, is) refused read =
          read_so out lines (wrote ∙ ap (λ (b : Answer). appended o0 b.out) is) refused
          (subst (λ (r : Replayed). Wrote works outlet recording w out lines r) read replays) (subst (λ (r : Replayed). GoesByFile (Some held) recording fault r) read by_file) (held 0 recording) refl
          (said ∙ ap (λ (b : Answer). appended e0 b.err) is ∙ ap (λ (r : Replayed). appended e0 (lines ++ last_line recording r)) read)

      run_done : RepliesRun works outlet (Some held) absence fault recording w a → a.status ≡ 0 → Ran None
      run_done replies s = run_read replies None (end_done replies.0 (sym (ap (λ (b : Answer). b.status) replies.6) ∙ s))

      run_refused : RepliesRun works outlet (Some held) absence fault recording w a → a.status ≡ 5 → (refused : RecordRefused) × Ran (Some refused)
      run_refused replies s =
          let five = end_refused replies.0 (sym (ap (λ (b : Answer). b.status) replies.6) ∙ s) in
          (five.0, run_read replies (Some five.0) five.1)

  module _ (refused config recording : List ℕ) (o0 o1 e0 e1 : Option (List ℕ)) (a : Answer) (wrote : o1 ≡ appended o0 a.out) (said : e1 ≡ appended e0 a.err) where
    module _ (valid : (held : Held) (name : List ℕ) (conf : Configuration) → loaded held name ≡ Ok conf → IsValid conf)
        (right : (conf : Configuration) (story : List Happening) → IsValid conf → IsRight conf story) where
      abbrev ControllerRan : Configuration → Option RecordRefused → Type 0
      ControllerRan conf at = IsRun controller (first conf) (λ story. written_records (records_of (first conf) story)) recording at (held 0) o0 o1 e0 e1

      replayed_right : (conf : Configuration) (at : Option RecordRefused) → loaded (held 0) config ≡ Ok conf → ControllerRan conf at → IsReplayed config recording at (held 0) o0 o1 e0 e1
      replayed_right conf at accepted run = record { conf = conf; accepted = accepted; run = run; right = λ front is_front. right conf front (valid (held 0) config conf accepted) }

      pub replay_done : (made : Load) → Loads (Some held) absence fault refused config made → RepliesReplay (Some held) absence fault config recording made a
          → a.status ≡ 0 → IsReplayed config recording None (held 0) o0 o1 e0 e1
      replay_done (Err why) loads is s = absurd (refusal_undone config why (sym (ap (λ (b : Answer). b.status) is) ∙ s))
      replay_done (Ok conf) loads replies s =
          let ran : ControllerRan conf None = run_done controller outlets.Records recording (first conf) (λ story. written_records (records_of (first conf) story)) (λ story. refl) o0 o1 e0 e1 a wrote said replies s in
          replayed_right conf None (loads.told held refl) ran

      pub replay_refused : (made : Load) → Loads (Some held) absence fault refused config made → RepliesReplay (Some held) absence fault config recording made a
          → a.status ≡ 5 → (why : RecordRefused) × IsReplayed config recording (Some why) (held 0) o0 o1 e0 e1
      replay_refused (Err why) loads is s = absurd (refusal_unread_record config why (sym (ap (λ (b : Answer). b.status) is) ∙ s))
      replay_refused (Ok conf) loads replies s =
          let ran : (why : RecordRefused) × ControllerRan conf (Some why) = run_refused controller outlets.Records recording (first conf) (λ story. written_records (records_of (first conf) story)) (λ story. refl) o0 o1 e0 e1 a wrote said replies s in
          (ran.0, replayed_right conf (Some ran.0) (loads.told held refl) ran.1)

    module _ (lines_are : (k : Monitor) (story : List Happening) → out_of monitor outlets.Nowhere k story ≡ joined (gauge_lines k story)) where
      pub gauge_done : (made : GaugeLoad) → GaugeLoads (Some held) absence fault refused config made → RepliesGauge (Some held) absence fault config recording made a
          → a.status ≡ 0 → IsWatched config recording None (held 0) o0 o1 e0 e1
      gauge_done (Err why) loads is s = absurd (refusal_undone config why (sym (ap (λ (b : Answer). b.status) is) ∙ s))
      gauge_done (Ok conf) loads replies s =
          let ran = run_done monitor outlets.Nowhere recording (begun conf) (λ story. joined (gauge_lines (begun conf) story)) (lines_are (begun conf)) o0 o1 e0 e1 a wrote said replies s in
          record { conf = conf; accepted = loads.told held refl; run = ran }

      pub gauge_refused : (made : GaugeLoad) → GaugeLoads (Some held) absence fault refused config made → RepliesGauge (Some held) absence fault config recording made a
          → a.status ≡ 5 → (why : RecordRefused) × IsWatched config recording (Some why) (held 0) o0 o1 e0 e1
      gauge_refused (Err why) loads is s = absurd (refusal_unread_record config why (sym (ap (λ (b : Answer). b.status) is) ∙ s))
      gauge_refused (Ok conf) loads replies s =
          let ran = run_refused monitor outlets.Nowhere recording (begun conf) (λ story. joined (gauge_lines (begun conf) story)) (lines_are (begun conf)) o0 o1 e0 e1 a wrote said replies s in
          (ran.0, record { conf = conf; accepted = loads.told held refl; run = ran.1 })

  module _ (refused config router recording : List ℕ) (o0 o1 e0 e1 : Option (List ℕ)) (a : Answer) (wrote : o1 ≡ appended o0 a.out) (said : e1 ≡ appended e0 a.err) (each : EachIsAccepted) where
    pub bgp_done : (made : PeerLoad) → PeerLoads (Some held) absence fault refused config router made → RepliesPeerRun (Some held) absence fault config router recording made a
        → a.status ≡ 0 → IsSpoken config router recording None (held 0) o0 o1 e0 e1
    bgp_done (Err why) loads is s = absurd (refusal_undone config why (sym (ap (λ (b : Answer). b.status) is) ∙ s))
    bgp_done (Ok (Err why)) loads is s = absurd (lacks_other 0 (λ e. omega (arith, e)) config router why a is s)
    bgp_done (Ok (Ok peer)) loads replies s =
        let ran = run_done speaks outlets.Nowhere recording (speaking_with peer) (λ story. out_of speaks outlets.Nowhere (speaking_with peer) story) (λ story. refl) o0 o1 e0 e1 a wrote said replies s in
        record { peer = peer; accepted = loads.told held refl; run = ran; texts = texts_accepted each (speaking_with peer) ran.story }

    pub bgp_refused : (made : PeerLoad) → PeerLoads (Some held) absence fault refused config router made → RepliesPeerRun (Some held) absence fault config router recording made a
        → a.status ≡ 5 → (why : RecordRefused) × IsSpoken config router recording (Some why) (held 0) o0 o1 e0 e1
    bgp_refused (Err why) loads is s = absurd (refusal_unread_record config why (sym (ap (λ (b : Answer). b.status) is) ∙ s))
    bgp_refused (Ok (Err why)) loads is s = absurd (lacks_other 5 (λ e. omega (arith, e)) config router why a is s)
    bgp_refused (Ok (Ok peer)) loads replies s =
        let ran = run_refused speaks outlets.Nowhere recording (speaking_with peer) (λ story. out_of speaks outlets.Nowhere (speaking_with peer) story) (λ story. refl) o0 o1 e0 e1 a wrote said replies s in
        (ran.0, record { peer = peer; accepted = loads.told held refl; run = ran.1; texts = texts_accepted each (speaking_with peer) ran.1.story })
