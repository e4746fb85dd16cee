-- What each status says of `serve`, and of whatever the words ask for.
use Rattle.std.proofs.Common.{◌≡◌, ℕ, ◌⊎◌, inl, inr, List, Option, Some, None, Ok, Err, refl, sym, ap, subst, ◌∙◌, arith}
use Rattle.fg_outside.specs.Contents.{Contents}
use Rattle.fg_outside.specs.Counts.{Rose}
use Rattle.fg_outside.specs.HubStep.{HubStep}
use Rattle.fg_outside.specs.declared.hub.Happening.{Happening}
use Rattle.fg_outside.proofs.SinkLemmas.{appended-nil}
use Rattle.conf_types.specs.Configuration.{Configuration}
use Rattle.conf_types.specs.Valid.{IsValid}
use Rattle.conf_gather.specs.Gathered.{Held}
use Rattle.conf_load.specs.Loaded.{loaded}
use Rattle.command_line.specs.declared.meaning.Job.{Job}
use Rattle.command_line.specs.declared.meaning.Job.TheVariants.{Bench, Check, Gauge, GaugeServe, Plan, Replay, Serve, Trace, Walk, Bgp, BgpServe}
use Rattle.command_line.specs.declared.values.Listen.{Listen}
use Rattle.watch_hub.specs.Look.{text_of}
use Rattle.opening_batch.specs.Opened.{Opens}
use Rattle.opening_batch.specs.Opening.{opening_of}
use Rattle.law_stories.specs.Right.{IsRight}
use Rattle.bench_story.specs.Setup.{configuration}
use Rattle.gauge_conf.specs.declared.gauge.GaugeConf.{GaugeConf}
use Rattle.gauge_load.specs.Loaded.{gauge_of}
use Rattle.bgp_load.specs.declared.found.LoadedPeer.{LoadedPeer}
use Rattle.bgp_load.specs.Peers.{loaded_peer}
use Rattle.gauge_poll.specs.Monitoring.{Monitor, lines_of as gauge_lines}
use Rattle.recording.specs.declared.refused.RecordRefused.{RecordRefused}
use Rattle.hub_drive.specs.declared.sayings.Outlet.TheVariants as outlets
use Rattle.hub_drive.specs.Driving.{out_of}
use Rattle.gauge_drive.specs.Gauge.{joined, monitor}
use Rattle.ctl_world.specs.World.{first}
use Rattle.hub_drive.specs.declared.drive.Drove.{Drove}
use Rattle.hub_drive.specs.declared.drive.Drove.TheVariants as drove
use Rattle.ctl_drive.specs.Driving.{lines_of}
use Rattle.ctl_serve.specs.Served.{Ended, Served}
use Rattle.faucet_top.specs.Answer.{Answer, GaugeLoad, Load, PeerLoad, out_of_memory}
use Rattle.trace_story.specs.declared.showing.How.{How}
use Rattle.trace_story.specs.declared.showing.How.TheVariants as hows
use Rattle.trace_story.specs.declared.showing.Shown.TheVariants.{Lines, NotReady}
use Rattle.faucet_top.specs.Ends.{status_served}
use Rattle.faucet_top.specs.Follow.{IsCutShort, IsFollowed, Traced, job_for}
use Rattle.faucet_top.specs.Given.{AreAccepted, Delivers, Gives, IsLoadedStatus, IsMeasured, IsOpened, IsReplayed, IsPeerStatus, IsServeStatus, IsSpoken, IsStatusOf, IsWatched, Loads, StatusFor}
use Rattle.faucet_top.specs.Any.{GivesAny}
use Rattle.faucet_top.specs.Serving.{IsItsEnd, IsLocal, IsServed, RepliesServe, ServesUntil, UnservedAnswer, served_answer}
use Rattle.faucet_top.specs.Speaking.{IsHubSpoken}
use Rattle.faucet_top.specs.Watching.{IsHubWatched}
use Rattle.faucet_top.specs.Status.{number_of_status}
use Rattle.faucet_top.proofs.RefusalLemmas.{refusal_not, refusal_unread}
use Rattle.faucet_top.proofs.ReplayLemmas.{EachIsAccepted, refusal_told}
use Rattle.faucet_top.proofs.EndLemmas.{Broke, Whole, delivered_fault, delivered_kept, delivered_status, its_end_not_four, its_end_not_refused, number_served, same_end, served_not, unfailed_not_four}
use Rattle.faucet_top.proofs.TopLemmas as by
use Rattle.faucet_top.proofs.SpeakLemmas.{spoken_fault, spoken_kept, spoken_meant, spoken_right, spoken_told, spoken_unasked, spoken_unread}
use Rattle.faucet_top.proofs.WatchLemmas.{watched_fault, watched_kept, watched_meant, watched_right, watched_told, watched_unasked, watched_unread}

module _ (status : ℕ) (o0 o1 e0 e1 : Option (List ℕ)) (m0 m1 n0 n1 : ℕ) where
  -- ---- `serve`

  module _ {H F : Type 0} (may : H → HubStep → H → Type 0) (contents : F → Option Contents) (faults : F → ℕ) (absence fault : Type 0) (refused config : List ℕ) (reload_ms events : ℕ) (hub0 hub1 : H) (files0 files1 : F) where
    abbrev Until : List ℕ → Configuration → Drove → Type 0
    Until text conf end = ServesUntil may contents faults config text reload_ms events conf hub0 hub1 files0 files1 (Whole status o0 o1 e0 e1 m0 m1 n0 n1) (Broke status o0 o1 e0 e1 m0 m1 n0 n1) end

    -- a reply was delivered by how it ended, or a write failed
    abbrev Came : Drove → Type 0
    Came end = ((end ≡ drove.WriteFault → ⊥) × ((lines : List ℕ) × (Whole status o0 o1 e0 e1 m0 m1 n0 n1) (served_answer lines end))) ⊎ ((a : Answer) × (Broke status o0 o1 e0 e1 m0 m1 n0 n1) a)

    came : (text : List ℕ) (conf : Configuration) (end : Drove) → Until text conf end → Came end
    came text conf drove.Done (happened, few, served, whole) = inl (λ is. cc, (lines_of (first conf) happened, whole))
    came text conf drove.HubFault (happened, few, served, whole) = inl (λ is. cc, (lines_of (first conf) happened, whole))
    came text conf drove.Spent (happened, all, served, whole) = inl (λ is. cc, (lines_of (first conf) happened, whole))
    came text conf drove.WriteFault (happened, few, served, broke) = inr (served_answer (lines_of (first conf) happened) drove.WriteFault, broke)
    came text conf drove.Memory (happened, few, part, some) = inl (λ is. cc, (some.0, some.2))

    unserved_status : (a : Answer) → UnservedAnswer (contents files0) absence fault refused config a → (n : ℕ) → (n ≡ 2 → ⊥) → (n ≡ 3 → ⊥) → (n ≡ 8 → ⊥) → a.status ≡ n → ⊥
    unserved_status a (inl memory) n two three eight s = eight (sym s ∙ ap (λ (b : Answer). b.status) memory)
    unserved_status a (inr (why, loads, is)) n two three eight s = refusal_not n two three eight config why (sym (ap (λ (b : Answer). b.status) is) ∙ s)

    unserved_unread : (a : Answer) → UnservedAnswer (contents files0) absence fault refused config a → a.status ≡ 3 → absence ⊎ fault
    unserved_unread a (inl memory) s = let eight : a.status ≡ 8 = ap (λ (b : Answer). b.status) memory in absurd (omega (arith, eight, s))
    unserved_unread a (inr (why, loads, is)) s = refusal_unread loaded (contents files0) absence fault refused config config why loads (sym (ap (λ (b : Answer). b.status) is) ∙ s)

    module _ (replies : RepliesServe may contents faults absence fault refused config reload_ms events hub0 hub1 files0 files1 (Whole status o0 o1 e0 e1 m0 m1 n0 n1) (Broke status o0 o1 e0 e1 m0 m1 n0 n1)) where
      pub served_fault : status ≡ 4 → Rose m0 m1 ⊎ Rose n0 n1
      served_fault s =
          elim replies [
            | inl (a, unserved, whole, hub, files) ↦ delivered_fault status o0 o1 e0 e1 m0 m1 n0 n1 a (unserved_status a unserved 4 (λ e. omega (arith, e)) (λ e. omega (arith, e)) (λ e. omega (arith, e))) whole s
            | inr (conf, text, loads, begins, end, until) ↦ elim (came text conf end until) [
              | inl (unfailed, some) ↦ delivered_fault status o0 o1 e0 e1 m0 m1 n0 n1 (served_answer some.0 end) (unfailed_not_four end unfailed) some.1 s
              | inr (a, broke) ↦ broke.3
            ]
          ]

      pub served_kept : (status ≡ 4 → ⊥) → (m1 ≡ m0) × (n1 ≡ n0)
      served_kept other =
          elim replies [
            | inl (a, unserved, whole, hub, files) ↦ delivered_kept status o0 o1 e0 e1 m0 m1 n0 n1 a whole other
            | inr (conf, text, loads, begins, end, until) ↦ elim (came text conf end until) [
              | inl (unfailed, some) ↦ delivered_kept status o0 o1 e0 e1 m0 m1 n0 n1 (served_answer some.0 end) some.1 other
              | inr (a, broke) ↦ absurd (other broke.0)
            ]
          ]

      -- at a status that no end of serving has, the hub wasn't asked
      unserved_at : (n : ℕ) → status ≡ n → (n ≡ 0 → ⊥) → (n ≡ 6 → ⊥) → (n ≡ 7 → ⊥) → (n ≡ 4 → ⊥) → (n ≡ 8 → ⊥)
          → (a : Answer) × UnservedAnswer (contents files0) absence fault refused config a × (a.status ≡ n) × (hub1 ≡ hub0)
      unserved_at n s zero six seven four eight =
          elim replies [
            | inl (a, unserved, whole, hub, files) ↦ elim (delivered_status status o0 o1 e0 e1 m0 m1 n0 n1 a whole) [
              | inl same ↦ (a, unserved, sym same ∙ s, hub)
              | inr is_four ↦ absurd (four (sym s ∙ is_four))
            ]
            | inr (conf, text, loads, begins, end, until) ↦ elim (came text conf end until) [
              | inl (unfailed, some) ↦ elim (delivered_status status o0 o1 e0 e1 m0 m1 n0 n1 (served_answer some.0 end) some.1) [
                | inl same ↦ absurd (served_not n zero six seven four eight end (sym same ∙ s))
                | inr is_four ↦ absurd (four (sym s ∙ is_four))
              ]
              | inr (a, broke) ↦ absurd (four (sym s ∙ broke.0))
            ]
          ]

      pub served_unread : status ≡ 3 → absence ⊎ fault
      served_unread s =
          let at = unserved_at 3 s (λ e. omega (arith, e)) (λ e. omega (arith, e)) (λ e. omega (arith, e)) (λ e. omega (arith, e)) (λ e. omega (arith, e)) in
          unserved_unread at.0 at.1 at.2

      pub served_unasked : (status ≡ 2) ⊎ (status ≡ 3) → hub1 ≡ hub0
      served_unasked (inl s) =
          (unserved_at 2 s (λ e. omega (arith, e)) (λ e. omega (arith, e)) (λ e. omega (arith, e)) (λ e. omega (arith, e)) (λ e. omega (arith, e))).3
      served_unasked (inr s) =
          (unserved_at 3 s (λ e. omega (arith, e)) (λ e. omega (arith, e)) (λ e. omega (arith, e)) (λ e. omega (arith, e)) (λ e. omega (arith, e))).3

      pub served_meant : status ≡ 1 → ⊥
      served_meant s =
          let at = unserved_at 1 s (λ e. omega (arith, e)) (λ e. omega (arith, e)) (λ e. omega (arith, e)) (λ e. omega (arith, e)) (λ e. omega (arith, e)) in
          unserved_status at.0 at.1 1 (λ e. omega (arith, e)) (λ e. omega (arith, e)) (λ e. omega (arith, e)) at.2

      -- ---- where the files are told

      module _ (held : Contents) (is : contents files0 ≡ Some held) where
        abbrev IsOurs : ℕ → Type 0
        IsOurs n = IsLoadedStatus config (loaded (held 0) config) (λ conf. IsServeStatus) n

        unserved_told : (a : Answer) → UnservedAnswer (contents files0) absence fault refused config a → StatusFor a.status IsOurs fault
        unserved_told a (inl memory) = inr (inr (inl (ap (λ (b : Answer). b.status) memory)))
        unserved_told a (inr (why, loads, same)) =
            subst (λ (b : Answer). StatusFor b.status IsOurs fault) (sym same)
            (refusal_told held absence fault loaded refused config (λ conf. IsServeStatus) why (subst (λ (c : Option Contents). Loads c absence fault refused config (Err why)) is loads))

        ours : (conf : Configuration) → loaded (held 0) config ≡ Ok conf → (n : ℕ) → IsServeStatus n → IsOurs n
        ours conf accepted n one = subst (λ (l : Load). IsLoadedStatus config l (λ c. IsServeStatus) n) (sym accepted) one

        end_told : (conf : Configuration) → loaded (held 0) config ≡ Ok conf → (end : Drove) → StatusFor (number_served end) IsOurs fault
        end_told conf accepted drove.Done = inl (ours conf accepted 0 (inl refl))
        end_told conf accepted drove.HubFault = inl (ours conf accepted 6 (inr (inl refl)))
        end_told conf accepted drove.Spent = inl (ours conf accepted 7 (inr (inr refl)))
        end_told conf accepted drove.WriteFault = inr (inl refl)
        end_told conf accepted drove.Memory = inr (inr (inl refl))

        by_status : (a : Answer) → (Whole status o0 o1 e0 e1 m0 m1 n0 n1) a → StatusFor a.status IsOurs fault → StatusFor status IsOurs fault
        by_status a whole one = elim (delivered_status status o0 o1 e0 e1 m0 m1 n0 n1 a whole) [ inl same ↦ subst (λ n. StatusFor n IsOurs fault) (sym same) one | inr four ↦ inr (inl four) ]

        pub served_told : StatusFor status IsOurs fault
        served_told =
            elim replies [
              | inl (a, unserved, whole, hub, files) ↦ by_status a whole (unserved_told a unserved)
              | inr (conf, text, loads, begins, end, until) ↦ elim (came text conf end until) [
                | inl (unfailed, some) ↦ by_status (served_answer some.0 end) some.1 (end_told conf (loads.told held is) end)
                | inr (a, broke) ↦ inr (inl broke.0)
              ]
            ]

        -- ---- the command

        module _ (valid : (h : Held) (name : List ℕ) (conf : Configuration) → loaded h name ≡ Ok conf → IsValid conf)
            (right : (conf : Configuration) (story : List Happening) → IsValid conf → IsRight conf story) where
          abbrev Did : Drove → Type 0
          Did end = IsServed may contents faults config (held 0) reload_ms events end hub0 hub1 files0 files1 o0 o1 e0 e1

          did : (text : List ℕ) (conf : Configuration) (end : Drove) → loaded (held 0) config ≡ Ok conf → text_of (held 0) config ≡ Some text
              → (happened : List Happening) → Ended events happened end → Served may contents faults config text reload_ms events (first conf) happened end hub0 hub1 files0 files1
              → (Whole status o0 o1 e0 e1 m0 m1 n0 n1) (served_answer (lines_of (first conf) happened) end) → (status ≡ 4 → ⊥) → Did end
          did text conf end accepted begins happened ended served whole other =
              elim whole [
                | inl all ↦ record {
                  conf = conf;
                  text = text;
                  happened = happened;
                  accepted = accepted;
                  begins = begins;
                  ended = ended;
                  served = served;
                  out = all.1 ∙ appended-nil o0;
                  err = all.2;
                  right = λ front is_front. right conf front (valid (held 0) config conf accepted);
                }
                | inr front ↦ absurd (other front.0)
              ]

          did_until : (text : List ℕ) (conf : Configuration) (end : Drove) → loaded (held 0) config ≡ Ok conf → text_of (held 0) config ≡ Some text → Until text conf end → IsItsEnd end → (status ≡ 4 → ⊥) → Did end
          did_until text conf drove.Done accepted begins (happened, few, served, whole) its other = did text conf drove.Done accepted begins happened few served whole other
          did_until text conf drove.HubFault accepted begins (happened, few, served, whole) its other = did text conf drove.HubFault accepted begins happened few served whole other
          did_until text conf drove.Spent accepted begins (happened, all, served, whole) its other = did text conf drove.Spent accepted begins happened all served whole other
          did_until text conf drove.WriteFault accepted begins until its other = absurd its
          did_until text conf drove.Memory accepted begins until its other = absurd its

          pub served_right : (end : Drove) → IsItsEnd end → status ≡ number_served end → Did end
          served_right end its s =
              let other : status ≡ 4 → ⊥ = λ four. its_end_not_four end its (sym s ∙ four) in
              elim replies [
                | inl (a, unserved, whole, hub, files) ↦ absurd (elim (delivered_status status o0 o1 e0 e1 m0 m1 n0 n1 a whole) [
                  | inl same ↦ unserved_status a unserved (number_served end) (λ e. its_end_not_refused 2 (inl refl) end its e) (λ e. its_end_not_refused 3 (inr (inl refl)) end its e) (λ e. its_end_not_refused 8 (inr (inr refl)) end its e) (sym same ∙ s)
                  | inr four ↦ other four
                ])
                | inr (conf, text, loads, begins, last, until) ↦ elim (came text conf last until) [
                  | inl (unfailed, some) ↦ elim (delivered_status status o0 o1 e0 e1 m0 m1 n0 n1 (served_answer some.0 last) some.1) [
                    | inl same ↦ let one : last ≡ end = same_end last end (sym same ∙ s) in
                        did_until text conf end (loads.told held is) (begins held is) (subst (λ (d : Drove). Until text conf d) one until) its other
                    | inr four ↦ absurd (other four)
                  ]
                  | inr (a, broke) ↦ absurd (other broke.0)
                ]
              ]

-- ---- whatever the words ask for

module _ {H F : Type 0} (may : H → HubStep → H → Type 0) (contents : F → Option Contents) (faults : F → ℕ) (absence fault : Type 0) (refused : List ℕ) (job : Option Job) (hub0 hub1 : H) (files0 files1 : F)
    (status : ℕ) (o0 o1 e0 e1 : Option (List ℕ)) (m0 m1 n0 n1 : ℕ) where
  abbrev Any : Option Job → Type 0
  Any j = GivesAny may contents faults absence fault refused j hub0 hub1 files0 files1 status o0 o1 e0 e1 m0 m1 n0 n1

  abbrev Ours : Option Job → Type 0
  Ours j = Gives j (contents files0) absence fault refused status o0 o1 e0 e1 m0 m1 n0 n1

  abbrev Serves : Option Job → Type 0
  Serves j =
      (config : List ℕ) × (events : ℕ) × (reload_ms : ℕ) × (listen : Listen)
      × (j ≡ Some (Serve config events reload_ms listen)) × Any (Some (Serve config events reload_ms listen))

  abbrev Watches : Option Job → Type 0
  Watches j =
      (config : List ℕ) × (events : ℕ) × (listen : Listen)
      × (j ≡ Some (GaugeServe config events listen)) × Any (Some (GaugeServe config events listen))

  abbrev Speaks : Option Job → Type 0
  Speaks j =
      (config : List ℕ) × (router : List ℕ) × (events : ℕ) × (listen : Listen)
      × (j ≡ Some (BgpServe config router events listen)) × Any (Some (BgpServe config router events listen))

  either : (j : Option Job) → Any j → (IsLocal j × Ours j) ⊎ (Serves j ⊎ (Watches j ⊎ Speaks j))
  either None gives = inl ((λ config events reload_ms listen is. absurd cc, λ config events listen is. absurd cc, λ config router events listen is. absurd cc), gives)
  either (Some (Check names)) gives = inl ((λ config events reload_ms listen is. absurd cc, λ config events listen is. absurd cc, λ config router events listen is. absurd cc), gives)
  either (Some (Plan config dp)) gives = inl ((λ c events reload_ms listen is. absurd cc, λ c events listen is. absurd cc, λ c router events listen is. absurd cc), gives)
  either (Some (Replay config recording)) gives = inl ((λ c events reload_ms listen is. absurd cc, λ c events listen is. absurd cc, λ c router events listen is. absurd cc), gives)
  either (Some (Gauge config recording)) gives = inl ((λ c events reload_ms listen is. absurd cc, λ c events listen is. absurd cc, λ c router events listen is. absurd cc), gives)
  either (Some (Bench hosts)) gives = inl ((λ c events reload_ms listen is. absurd cc, λ c events listen is. absurd cc, λ c router events listen is. absurd cc), gives)
  either (Some (Trace config recording dp port frame)) gives = inl ((λ c events reload_ms listen is. absurd cc, λ c events listen is. absurd cc, λ c router events listen is. absurd cc), gives)
  either (Some (Walk config recording dp port frame)) gives = inl ((λ c events reload_ms listen is. absurd cc, λ c events listen is. absurd cc, λ c router events listen is. absurd cc), gives)
  either (Some (Bgp config router recording)) gives = inl ((λ c events reload_ms listen is. absurd cc, λ c events listen is. absurd cc, λ c r events listen is. absurd cc), gives)
  either (Some (Serve config events reload_ms listen)) gives = inr (inl (config, events, reload_ms, listen, refl, gives))
  either (Some (GaugeServe config events listen)) gives = inr (inr (inl (config, events, listen, refl, gives)))
  either (Some (BgpServe config router events listen)) gives = inr (inr (inr (config, router, events, listen, refl, gives)))

  pub local_any : (j : Option Job) → IsLocal j → Ours j → Any j
  local_any None local gives = gives
  local_any (Some (Check names)) local gives = gives
  local_any (Some (Plan config dp)) local gives = gives
  local_any (Some (Replay config recording)) local gives = gives
  local_any (Some (Gauge config recording)) local gives = gives
  local_any (Some (Bench hosts)) local gives = gives
  local_any (Some (Trace config recording dp port frame)) local gives = gives
  local_any (Some (Walk config recording dp port frame)) local gives = gives
  local_any (Some (Bgp config router recording)) local gives = gives
  local_any (Some (Serve config events reload_ms listen)) local gives = absurd (local.0 config events reload_ms listen refl)
  local_any (Some (GaugeServe config events listen)) local gives = absurd (local.1 config events listen refl)
  local_any (Some (BgpServe config router events listen)) local gives = absurd (local.2 config router events listen refl)

  -- memory ran out before anything was done
  pub any_memory : (j : Option Job) → Delivers out_of_memory status o0 o1 e0 e1 m0 m1 n0 n1 → hub1 ≡ hub0 → contents files1 ≡ contents files0 → Any j
  any_memory None delivers hub files = (out_of_memory, inr refl, delivers)
  any_memory (Some (Check names)) delivers hub files = (out_of_memory, inr refl, delivers)
  any_memory (Some (Plan config dp)) delivers hub files = (out_of_memory, inr refl, delivers)
  any_memory (Some (Replay config recording)) delivers hub files = (out_of_memory, inr refl, delivers)
  any_memory (Some (Gauge config recording)) delivers hub files = (out_of_memory, inr refl, delivers)
  any_memory (Some (Bench hosts)) delivers hub files = (out_of_memory, inr refl, delivers)
  any_memory (Some (Trace config recording dp port frame)) delivers hub files = (out_of_memory, inr refl, delivers)
  any_memory (Some (Walk config recording dp port frame)) delivers hub files = (out_of_memory, inr refl, delivers)
  any_memory (Some (Bgp config router recording)) delivers hub files = (out_of_memory, inr refl, delivers)
  any_memory (Some (Serve config events reload_ms listen)) delivers hub files = inl (out_of_memory, inl refl, delivers, hub, files)
  any_memory (Some (GaugeServe config events listen)) delivers hub files = (out_of_memory, inl (inl refl, hub), delivers)
  any_memory (Some (BgpServe config router events listen)) delivers hub files = (out_of_memory, inl (inl refl, hub), delivers)

  module _ (gives : Any job) where
    pub write_fault : status ≡ 4 → Rose m0 m1 ⊎ Rose n0 n1
    write_fault s =
        elim (either job gives) [
          | inl ours ↦ by.write_fault job (contents files0) absence fault refused status o0 o1 e0 e1 m0 m1 n0 n1 ours.1 s
          | inr (inl serves) ↦ served_fault status o0 o1 e0 e1 m0 m1 n0 n1 may contents faults absence fault refused serves.0 serves.2 serves.1 hub0 hub1 files0 files1 serves.5 s
          | inr (inr (inl watches)) ↦ watched_fault may (contents files0) absence fault refused watches.0 watches.1 hub0 hub1 status o0 o1 e0 e1 m0 m1 n0 n1 watches.4 s
          | inr (inr (inr speaks)) ↦ spoken_fault may (contents files0) absence fault refused speaks.0 speaks.1 speaks.2 hub0 hub1 status o0 o1 e0 e1 m0 m1 n0 n1 speaks.5 s
        ]

    pub kept : (status ≡ 4 → ⊥) → (m1 ≡ m0) × (n1 ≡ n0)
    kept other =
        elim (either job gives) [
          | inl ours ↦ by.kept job (contents files0) absence fault refused status o0 o1 e0 e1 m0 m1 n0 n1 ours.1 other
          | inr (inl serves) ↦ served_kept status o0 o1 e0 e1 m0 m1 n0 n1 may contents faults absence fault refused serves.0 serves.2 serves.1 hub0 hub1 files0 files1 serves.5 other
          | inr (inr (inl watches)) ↦ watched_kept may (contents files0) absence fault refused watches.0 watches.1 hub0 hub1 status o0 o1 e0 e1 m0 m1 n0 n1 watches.4 other
          | inr (inr (inr speaks)) ↦ spoken_kept may (contents files0) absence fault refused speaks.0 speaks.1 speaks.2 hub0 hub1 status o0 o1 e0 e1 m0 m1 n0 n1 speaks.5 other
        ]

    pub unread_only : status ≡ 3 → absence ⊎ fault
    unread_only s =
        elim (either job gives) [
          | inl ours ↦ by.unread_only job (contents files0) absence fault refused status o0 o1 e0 e1 m0 m1 n0 n1 ours.1 s
          | inr (inl serves) ↦ served_unread status o0 o1 e0 e1 m0 m1 n0 n1 may contents faults absence fault refused serves.0 serves.2 serves.1 hub0 hub1 files0 files1 serves.5 s
          | inr (inr (inl watches)) ↦ watched_unread may (contents files0) absence fault refused watches.0 watches.1 hub0 hub1 status o0 o1 e0 e1 m0 m1 n0 n1 watches.4 s
          | inr (inr (inr speaks)) ↦ spoken_unread may (contents files0) absence fault refused speaks.0 speaks.1 speaks.2 hub0 hub1 status o0 o1 e0 e1 m0 m1 n0 n1 speaks.5 s
        ]

    pub unasked : (IsLocal job → hub1 ≡ hub0) → (status ≡ 2) ⊎ (status ≡ 3) → hub1 ≡ hub0
    unasked same s =
        elim (either job gives) [
          | inl ours ↦ same ours.0
          | inr (inl serves) ↦ served_unasked status o0 o1 e0 e1 m0 m1 n0 n1 may contents faults absence fault refused serves.0 serves.2 serves.1 hub0 hub1 files0 files1 serves.5 s
          | inr (inr (inl watches)) ↦ watched_unasked may (contents files0) absence fault refused watches.0 watches.1 hub0 hub1 status o0 o1 e0 e1 m0 m1 n0 n1 watches.4 s
          | inr (inr (inr speaks)) ↦ spoken_unasked may (contents files0) absence fault refused speaks.0 speaks.1 speaks.2 hub0 hub1 status o0 o1 e0 e1 m0 m1 n0 n1 speaks.5 s
        ]

    pub usage_only : status ≡ 1 → job ≡ None
    usage_only s =
        elim (either job gives) [
          | inl ours ↦ by.usage_only job (contents files0) absence fault refused status o0 o1 e0 e1 m0 m1 n0 n1 ours.1 s
          | inr (inl serves) ↦ absurd (served_meant status o0 o1 e0 e1 m0 m1 n0 n1 may contents faults absence fault refused serves.0 serves.2 serves.1 hub0 hub1 files0 files1 serves.5 s)
          | inr (inr (inl watches)) ↦ absurd (watched_meant may (contents files0) absence fault refused watches.0 watches.1 hub0 hub1 status o0 o1 e0 e1 m0 m1 n0 n1 watches.4 s)
          | inr (inr (inr speaks)) ↦ absurd (spoken_meant may (contents files0) absence fault refused speaks.0 speaks.1 speaks.2 hub0 hub1 status o0 o1 e0 e1 m0 m1 n0 n1 speaks.5 s)
        ]

    -- the reply to a job that needs no hub
    ours_where : IsLocal job → Ours job
    ours_where local =
        elim (either job gives) [
          | inl ours ↦ ours.1
          | inr (inl serves) ↦ absurd (local.0 serves.0 serves.1 serves.2 serves.3 serves.4)
          | inr (inr (inl watches)) ↦ absurd (local.1 watches.0 watches.1 watches.2 watches.3)
          | inr (inr (inr speaks)) ↦ absurd (local.2 speaks.0 speaks.1 speaks.2 speaks.3 speaks.4)
        ]

    pub no_meaning : job ≡ None → (status ≡ 1) ⊎ ((status ≡ 4) ⊎ (status ≡ 8))
    no_meaning none =
        by.no_meaning job (contents files0) absence fault refused status o0 o1 e0 e1 m0 m1 n0 n1 (ours_where (λ config events reload_ms listen is. absurd cc, λ config events listen is. absurd cc, λ config router events listen is. absurd cc)) none

    pub told : (held : Contents) → contents files0 ≡ Some held → StatusFor status (IsStatusOf job (held 0)) fault
    told held is =
        elim (either job gives) [
          | inl ours ↦ by.told job (contents files0) absence fault refused status o0 o1 e0 e1 m0 m1 n0 n1 ours.1 held is
          | inr (inl serves) ↦ subst (λ (j : Option Job). StatusFor status (IsStatusOf j (held 0)) fault) (sym serves.4)
              (served_told status o0 o1 e0 e1 m0 m1 n0 n1 may contents faults absence fault refused serves.0 serves.2 serves.1 hub0 hub1 files0 files1 serves.5 held is)
          | inr (inr (inl watches)) ↦ subst (λ (j : Option Job). StatusFor status (IsStatusOf j (held 0)) fault) (sym watches.3)
              (watched_told may (contents files0) absence fault refused watches.0 watches.1 hub0 hub1 status o0 o1 e0 e1 m0 m1 n0 n1 watches.4 held is)
          | inr (inr (inr speaks)) ↦ subst (λ (j : Option Job). StatusFor status (IsStatusOf j (held 0)) fault) (sym speaks.4)
              (spoken_told may (contents files0) absence fault refused speaks.0 speaks.1 speaks.2 hub0 hub1 status o0 o1 e0 e1 m0 m1 n0 n1 speaks.5 held is)
        ]

    -- an end by the hub or the words, where nothing failed and memory didn't run out
    module _ (no_hub : status ≡ 6 → ⊥) (no_read : fault → ⊥) (no_out : Rose m0 m1 → ⊥) (no_err : Rose n0 n1 → ⊥) where
      completes_by : StatusFor status IsServeStatus fault → (status ≡ 0) ⊎ ((status ≡ 7) ⊎ (status ≡ 8))
      completes_by one =
          elim one [
            | inl answered ↦ elim answered [ inl zero ↦ inl zero | inr more ↦ elim more [ inl six ↦ absurd (no_hub six) | inr seven ↦ inr (inl seven) ] ]
            | inr other ↦ elim other [
              | inl four ↦ absurd (elim (write_fault four) [ inl rose ↦ no_out rose | inr rose ↦ no_err rose ])
              | inr more ↦ elim more [ inl eight ↦ inr (inr eight) | inr unread ↦ absurd (no_read unread.1) ]
            ]
          ]

      pub completes : (config : List ℕ) (events reload_ms : ℕ) (listen : Listen) (held : Contents) (conf : Configuration) → job ≡ Some (Serve config events reload_ms listen) → contents files0 ≡ Some held → loaded (held 0) config ≡ Ok conf
          → (status ≡ 0) ⊎ ((status ≡ 7) ⊎ (status ≡ 8))
      completes config events reload_ms listen held conf is told_so accepted =
          completes_by (subst (λ (l : Load). StatusFor status (IsLoadedStatus config l (λ c. IsServeStatus)) fault) accepted
          (subst (λ (j : Option Job). StatusFor status (IsStatusOf j (held 0)) fault) is (told held told_so)))

      pub gauge_completes : (config : List ℕ) (events : ℕ) (listen : Listen) (held : Contents) (conf : GaugeConf) → job ≡ Some (GaugeServe config events listen) → contents files0 ≡ Some held → gauge_of (held 0) config ≡ Ok conf
          → (status ≡ 0) ⊎ ((status ≡ 7) ⊎ (status ≡ 8))
      gauge_completes config events listen held conf is told_so accepted =
          completes_by (subst (λ (l : GaugeLoad). StatusFor status (IsLoadedStatus config l (λ c. IsServeStatus)) fault) accepted
          (subst (λ (j : Option Job). StatusFor status (IsStatusOf j (held 0)) fault) is (told held told_so)))

      pub bgp_completes : (config router : List ℕ) (events : ℕ) (listen : Listen) (held : Contents) (peer : LoadedPeer) → job ≡ Some (BgpServe config router events listen) → contents files0 ≡ Some held
          → loaded_peer (held 0) config router ≡ Ok (Ok peer) → (status ≡ 0) ⊎ ((status ≡ 7) ⊎ (status ≡ 8))
      bgp_completes config router events listen held peer is told_so accepted =
          completes_by (subst (λ (l : PeerLoad). StatusFor status (IsLoadedStatus config l (IsPeerStatus (λ p. IsServeStatus))) fault) accepted
          (subst (λ (j : Option Job). StatusFor status (IsStatusOf j (held 0)) fault) is (told held told_so)))

    pub checked : (names : List (List ℕ)) (held : Contents) → job ≡ Some (Check names) → contents files0 ≡ Some held → status ≡ 0 → AreAccepted names (held 0) o0 o1
    checked names held is told_so s =
        by.checked job (contents files0) absence fault refused status o0 o1 e0 e1 m0 m1 n0 n1 (ours_where (λ config events reload_ms listen other. absurd cc, λ config events listen other. absurd cc, λ config router events listen other. absurd cc)) names held is told_so s

    pub opened : ((held : Held) (name : List ℕ) (conf : Configuration) → loaded held name ≡ Ok conf → IsValid conf)
        → ((conf : Configuration) (dp batch : List ℕ) → IsValid conf → opening_of conf dp ≡ Some batch → Opens conf dp batch)
        → (config dp : List ℕ) (held : Contents) → job ≡ Some (Plan config dp) → contents files0 ≡ Some held → status ≡ 0 → IsOpened config dp (held 0) o0 o1
    opened valid opens config dp held is told_so s =
        by.opened job (contents files0) absence fault refused status o0 o1 e0 e1 m0 m1 n0 n1 (ours_where (λ c events reload_ms listen other. absurd cc, λ c events listen other. absurd cc, λ c router events listen other. absurd cc)) valid opens config dp held is told_so s

    pub story_measured : ((conf : Configuration) (story : List Happening) → IsValid conf → IsRight conf story) → IsValid configuration
        → (hosts : ℕ) → job ≡ Some (Bench hosts) → status ≡ 0 → IsMeasured hosts o0 o1
    story_measured right valid hosts is s =
        by.story_measured job (contents files0) absence fault refused status o0 o1 e0 e1 m0 m1 n0 n1 (ours_where (λ c events reload_ms listen other. absurd cc, λ c events listen other. absurd cc, λ c router events listen other. absurd cc)) right valid hosts is s

    pub spoken : EachIsAccepted → (config router recording : List ℕ) (held : Contents) → job ≡ Some (Bgp config router recording) → contents files0 ≡ Some held → status ≡ 0 → IsSpoken config router recording None (held 0) o0 o1 e0 e1
    spoken each config router recording held is told_so s =
        by.spoken job (contents files0) absence fault refused status o0 o1 e0 e1 m0 m1 n0 n1 (ours_where (λ c events reload_ms listen other. absurd cc, λ c events listen other. absurd cc, λ c r events listen other. absurd cc)) each config router recording held is told_so s

    pub spoken_to : EachIsAccepted → (config router recording : List ℕ) (held : Contents) → job ≡ Some (Bgp config router recording) → contents files0 ≡ Some held → status ≡ 5
        → (why : RecordRefused) × IsSpoken config router recording (Some why) (held 0) o0 o1 e0 e1
    spoken_to each config router recording held is told_so s =
        by.spoken_to job (contents files0) absence fault refused status o0 o1 e0 e1 m0 m1 n0 n1 (ours_where (λ c events reload_ms listen other. absurd cc, λ c events listen other. absurd cc, λ c r events listen other. absurd cc)) each config router recording held is told_so s

    pub hub_spoken : EachIsAccepted → (config router : List ℕ) (events : ℕ) (listen : Listen) (held : Contents) (end : Drove) → job ≡ Some (BgpServe config router events listen) → contents files0 ≡ Some held
        → IsItsEnd end → status ≡ number_of_status (status_served end) → IsHubSpoken may config router (held 0) events end hub0 hub1 o0 o1 e0 e1
    hub_spoken each config router events listen held end is told_so its s =
        let replies : Any (Some (BgpServe config router events listen)) = subst Any is gives in
        spoken_right may (contents files0) absence fault refused config router events hub0 hub1 status o0 o1 e0 e1 m0 m1 n0 n1 replies held told_so each end its s

    -- a job that follows a frame needs no hub
    job_local : (how : How) (traced : Traced) → IsLocal (Some (job_for how traced))
    job_local hows.Trace traced = (λ c events reload_ms listen other. absurd cc, λ c events listen other. absurd cc, λ c router events listen other. absurd cc)
    job_local hows.Walk traced = (λ c events reload_ms listen other. absurd cc, λ c events listen other. absurd cc, λ c router events listen other. absurd cc)

    module _ (valid : (held : Held) (name : List ℕ) (conf : Configuration) → loaded held name ≡ Ok conf → IsValid conf)
        (right : (conf : Configuration) (story : List Happening) → IsValid conf → IsRight conf story) where
      module _ (how : How) (traced : Traced) (held : Contents) (is : job ≡ Some (job_for how traced)) (told_so : contents files0 ≡ Some held) where
        ours_then : Ours job
        ours_then = ours_where (subst (λ (j : Option Job). IsLocal j) (sym is) (job_local how traced))

        pub frame_followed : status ≡ 0 → (lines : List ℕ) × IsFollowed how traced (held 0) (Lines lines) o0 o1 e0 e1
        frame_followed s = by.frame_followed job (contents files0) absence fault refused status o0 o1 e0 e1 m0 m1 n0 n1 ours_then valid right how traced held is told_so s

        pub frame_waits : status ≡ 9 → (name : List ℕ) × IsFollowed how traced (held 0) (NotReady name) o0 o1 e0 e1
        frame_waits s = by.frame_waits job (contents files0) absence fault refused status o0 o1 e0 e1 m0 m1 n0 n1 ours_then valid right how traced held is told_so s

        pub frame_cut : status ≡ 5 → (why : RecordRefused) × IsCutShort traced why (held 0) o0 o1 e0 e1
        frame_cut s = by.frame_cut job (contents files0) absence fault refused status o0 o1 e0 e1 m0 m1 n0 n1 ours_then valid right how traced held is told_so s

      pub replayed : (config recording : List ℕ) (held : Contents) → job ≡ Some (Replay config recording) → contents files0 ≡ Some held → status ≡ 0 → IsReplayed config recording None (held 0) o0 o1 e0 e1
      replayed config recording held is told_so s =
          by.replayed job (contents files0) absence fault refused status o0 o1 e0 e1 m0 m1 n0 n1 (ours_where (λ c events reload_ms listen other. absurd cc, λ c events listen other. absurd cc, λ c router events listen other. absurd cc)) valid right config recording held is told_so s

      pub refused_record : (config recording : List ℕ) (held : Contents) → job ≡ Some (Replay config recording) → contents files0 ≡ Some held → status ≡ 5 → (why : RecordRefused) × IsReplayed config recording (Some why) (held 0) o0 o1 e0 e1
      refused_record config recording held is told_so s =
          by.refused_record job (contents files0) absence fault refused status o0 o1 e0 e1 m0 m1 n0 n1 (ours_where (λ c events reload_ms listen other. absurd cc, λ c events listen other. absurd cc, λ c router events listen other. absurd cc)) valid right config recording held is told_so s

      pub served : (config : List ℕ) (events reload_ms : ℕ) (listen : Listen) (held : Contents) (end : Drove) → job ≡ Some (Serve config events reload_ms listen) → contents files0 ≡ Some held
          → IsItsEnd end → status ≡ number_of_status (status_served end) → IsServed may contents faults config (held 0) reload_ms events end hub0 hub1 files0 files1 o0 o1 e0 e1
      served config events reload_ms listen held end is told_so its s =
          let replies : Any (Some (Serve config events reload_ms listen)) = subst Any is gives in
          served_right status o0 o1 e0 e1 m0 m1 n0 n1 may contents faults absence fault refused config reload_ms events hub0 hub1 files0 files1 replies held told_so valid right end its s

    module _ (recorded : (k : Monitor) (story : List Happening) → out_of monitor outlets.Nowhere k story ≡ joined (gauge_lines k story))
        (served_lines : (k : Monitor) (story : List Happening) → out_of monitor outlets.Hub k story ≡ joined (gauge_lines k story)) where
      pub watched : (config recording : List ℕ) (held : Contents) → job ≡ Some (Gauge config recording) → contents files0 ≡ Some held → status ≡ 0 → IsWatched config recording None (held 0) o0 o1 e0 e1
      watched config recording held is told_so s =
          by.watched job (contents files0) absence fault refused status o0 o1 e0 e1 m0 m1 n0 n1 (ours_where (λ c events reload_ms listen other. absurd cc, λ c events listen other. absurd cc, λ c router events listen other. absurd cc)) recorded config recording held is told_so s

      pub watched_to : (config recording : List ℕ) (held : Contents) → job ≡ Some (Gauge config recording) → contents files0 ≡ Some held → status ≡ 5 → (why : RecordRefused) × IsWatched config recording (Some why) (held 0) o0 o1 e0 e1
      watched_to config recording held is told_so s =
          by.watched_to job (contents files0) absence fault refused status o0 o1 e0 e1 m0 m1 n0 n1 (ours_where (λ c events reload_ms listen other. absurd cc, λ c events listen other. absurd cc, λ c router events listen other. absurd cc)) recorded config recording held is told_so s

      pub hub_watched : (config : List ℕ) (events : ℕ) (listen : Listen) (held : Contents) (end : Drove) → job ≡ Some (GaugeServe config events listen) → contents files0 ≡ Some held
          → IsItsEnd end → status ≡ number_of_status (status_served end) → IsHubWatched may config (held 0) events end hub0 hub1 o0 o1 e0 e1
      hub_watched config events listen held end is told_so its s =
          let replies : Any (Some (GaugeServe config events listen)) = subst Any is gives in
          watched_right may (contents files0) absence fault refused config events hub0 hub1 status o0 o1 e0 e1 m0 m1 n0 n1 replies held told_so served_lines end its s
