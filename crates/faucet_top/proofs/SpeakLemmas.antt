-- From what a run of a BGP speaker on a hub wrote to the reply to `bgp-serve`, and from that to what its status says.
use Rattle.std.proofs.Common.{◌≡◌, ◌≢◌, ℕ, ◌≤◌, ◌⊎◌, inl, inr, List, [], ◌∷◌, ◌++◌, Option, Some, None, unwrap_or, Result, Ok, Err, refl, sym, ap, subst, ◌∙◌, arith}
use Rattle.std.proofs.lemmas.List.{append-nil}
use Rattle.fg_outside.specs.Contents.{Contents}
use Rattle.fg_outside.specs.Counts.{Rose}
use Rattle.fg_outside.specs.declared.hub.Happening.{Happening}
use Rattle.fg_outside.specs.declared.hub.Turn.TheVariants as turns
use Rattle.fg_outside.specs.HubStep.{HubStep, Leads, next, story, turned}
use Rattle.fg_outside.specs.Wrote.{appended, AppendsFront}
use Rattle.conf_gather.specs.declared.refused.LoadRefused.{LoadRefused}
use Rattle.bgp_load.specs.declared.found.LoadedPeer.{LoadedPeer}
use Rattle.bgp_load.specs.declared.found.PeerLacks.{PeerLacks}
use Rattle.bgp_load.specs.declared.found.PeerLacks.TheVariants as lacks
use Rattle.bgp_load.specs.Peers.{loaded_peer}
use Rattle.bgp_drive.specs.Speech.{speaks}
use Rattle.hub_drive.specs.declared.drive.Drove.{Drove}
use Rattle.hub_drive.specs.declared.drive.Drove.TheVariants as drove
use Rattle.hub_drive.specs.declared.sayings.Outlet.TheVariants.{Hub}
use Rattle.hub_drive.specs.Driven.{AnswersAll, Drives}
use Rattle.hub_drive.specs.Driving.{lines_of, out_of}
use Rattle.hub_drive.proofs.Deeds.{whole_happened}
use Rattle.ctl_serve.specs.Served.{Ended, last_call}
use Rattle.faucet_top.specs.declared.deliver.Status.{Status}
use Rattle.faucet_top.specs.declared.deliver.Status.TheVariants as statuses
use Rattle.faucet_top.specs.Answer.{Answer, PeerLoad, lacks_answer, out_of_memory, refusal, served_line}
use Rattle.faucet_top.specs.Ends.{Ends, status_served}
use Rattle.faucet_top.specs.Given.{Delivers, IsLoadedStatus, IsPeerStatus, IsServeStatus, PeerLoads, StatusFor, speaking_with}
use Rattle.faucet_top.specs.Serving.{IsItsEnd}
use Rattle.faucet_top.specs.Status.{number_of_status}
use Rattle.faucet_top.specs.Speaking.{IsHubSpoken, RepliesSpeak, UnspokenAnswer}
use Rattle.faucet_top.proofs.CheckLemmas.{line_delivered}
use Rattle.faucet_top.proofs.FollowLemmas.{missing_read}
use Rattle.faucet_top.proofs.EndLemmas.{delivered_fault, delivered_kept, delivered_status, its_end_not_four, its_end_not_refused, number_served, same_end, served_not, unfailed_not_four}
use Rattle.faucet_top.proofs.RefusalLemmas.{refusal_not, refusal_unread}
use Rattle.faucet_top.proofs.ReplayLemmas.{EachIsAccepted, accepted_told, by_router, lacks_status, refusal_told, texts_accepted}
use Rattle.faucet_top.proofs.ReplyLemmas.{AppendsFront-all, line_behind, nothing_behind, on_empty, whole_on_empty}

-- ---- what is written on two streams, by what would be on empty ones

write_fault_or_not : (end : Drove) → (end ≡ drove.WriteFault) ⊎ (end ≢ drove.WriteFault)
write_fault_or_not drove.Done = inr (λ is. cc)
write_fault_or_not drove.HubFault = inr (λ is. cc)
write_fault_or_not drove.Spent = inr (λ is. cc)
write_fault_or_not drove.WriteFault = inl refl
write_fault_or_not drove.Memory = inr (λ is. cc)

module _ {H : Type 0} (may : H → HubStep → H → Type 0) (events : ℕ) (peer : LoadedPeer) (h0 h1 : H) where
  -- a run that ends so writes this on empty streams
  abbrev Does : (out lines : List ℕ) → Drove → Type 0
  Does out lines end = Drives speaks may Hub events (speaking_with peer) h0 h1 (Some []) (Some out) (Some []) (Some lines) end

  module _ (o0 o1 e0 e1 : Option (List ℕ)) where
    abbrev DoesThat : Drove → Type 0
    DoesThat end = (out : List ℕ) × (lines : List ℕ) × Does out lines end × (o1 ≡ appended o0 out) × (e1 ≡ appended e0 lines)

    does_that : (end : Drove) → end ≢ drove.WriteFault → Drives speaks may Hub events (speaking_with peer) h0 h1 o0 o1 e0 e1 end → DoesThat end
    does_that drove.Done unfailed (hs, mid, few, all, last) =
        (out_of speaks Hub (speaking_with peer) hs, lines_of speaks (speaking_with peer) hs, (hs, mid, few, record { told = all.told; out = refl; err = refl; bytes = all.bytes }, last), all.out, all.err)
    does_that drove.HubFault unfailed (hs, mid, few, all, last) =
        (out_of speaks Hub (speaking_with peer) hs, lines_of speaks (speaking_with peer) hs, (hs, mid, few, record { told = all.told; out = refl; err = refl; bytes = all.bytes }, last), all.out, all.err)
    does_that drove.Spent unfailed (hs, is, all) =
        (out_of speaks Hub (speaking_with peer) hs, lines_of speaks (speaking_with peer) hs, (hs, is, record { told = all.told; out = refl; err = refl; bytes = all.bytes }), all.out, all.err)
    does_that drove.WriteFault unfailed drives = absurd (unfailed refl)
    does_that drove.Memory unfailed (hs, few, front) =
        let some = on_empty speaks Hub (speaking_with peer) hs o0 o1 e0 e1 front.but_last in
        (some.out, some.lines, (hs, few, record { told = front.told; happened = front.happened; out = some.out_front; err = some.lines_front; but_last = some.but_last; bytes = front.bytes }), some.wrote, some.said)

    abbrev DoesFrontOfThat : Type 0
    DoesFrontOfThat = (out : List ℕ) × (lines : List ℕ) × Does out lines drove.Memory × AppendsFront o0 o1 out × AppendsFront e0 e1 lines

    -- a write failed: what was written is a front of what there is where memory runs out behind the whole
    does_front : Drives speaks may Hub events (speaking_with peer) h0 h1 o0 o1 e0 e1 drove.WriteFault → DoesFrontOfThat
    does_front (hs, few, front, told) =
        let out = out_of speaks Hub (speaking_with peer) hs in
        let lines = lines_of speaks (speaking_with peer) hs in (
          out,
          lines,
          (hs, few, record { told = front.told; happened = front.happened; out = AppendsFront-all (Some []) out; err = AppendsFront-all (Some []) lines; but_last = whole_on_empty speaks Hub (speaking_with peer) hs; bytes = front.bytes }),
          front.out,
          front.err,
        )

-- ---- the reply

-- the line that there is no peer was the whole reply
module _ (config router : List ℕ) (o e0 e1 : Option (List ℕ)) (m n0 n1 : ℕ) (why : PeerLacks) (ended : Status) (ends : Ends statuses.Refused (lacks_answer config router why).err e0 e1 n0 n1 ended) where
  lacks_line : (it : PeerLacks) → Ends statuses.Refused (lacks_answer config router it).err e0 e1 n0 n1 ended → Delivers (lacks_answer config router it) (number_of_status ended) o o e0 e1 m m n0 n1
  lacks_line lacks.Router it = line_delivered [] o o e0 e1 m m n0 n1 (lacks_answer config router lacks.Router) statuses.Refused ended refl refl it
  lacks_line lacks.Peer it = line_delivered [] o o e0 e1 m m n0 n1 (lacks_answer config router lacks.Peer) statuses.Refused ended refl refl it
  lacks_line lacks.Room it = line_delivered [] o o e0 e1 m m n0 n1 (lacks_answer config router lacks.Room) statuses.Refused ended refl refl it

  pub lacks_delivered : Delivers (lacks_answer config router why) (number_of_status ended) o o e0 e1 m m n0 n1
  lacks_delivered = lacks_line why ends

pub lacks_read : (bytes : List ℕ) (old new : Option (List ℕ)) (n0 n1 : ℕ) (ended : Status) → Ends statuses.Refused bytes old new n0 n1 ended → ended ≡ statuses.Unread → ⊥
lacks_read bytes old new n0 n1 ended ends is = missing_read bytes old new n0 n1 ended ends is

module _ {H : Type 0} (may : H → HubStep → H → Type 0) (contents : Option Contents) (absence fault : Type 0) (refused config router : List ℕ) (events : ℕ) (hub0 hub1 : H) where
  -- a reply was delivered
  abbrev SpeakGiven : (status : ℕ) → (o0 o1 e0 e1 : Option (List ℕ)) → (m0 m1 n0 n1 : ℕ) → Type 0
  SpeakGiven status o0 o1 e0 e1 m0 m1 n0 n1 =
      (a : Answer) × RepliesSpeak may contents absence fault refused config router events hub0 hub1 a × Delivers a status o0 o1 e0 e1 m0 m1 n0 n1

  module _ (o0 o1 e0 e1 e2 : Option (List ℕ)) (m0 m1 n0 n1 n2 : ℕ) (peer : LoadedPeer) (end : Drove) (ended : Status) (le_n : n1 ≤ n2)
      (loads : PeerLoads contents absence fault refused config router (Ok (Ok peer))) (ends : Ends (status_served end) (served_line end) e1 e2 n1 n2 ended) where
    whole_given : end ≢ drove.WriteFault → DoesThat may events peer hub0 hub1 o0 o1 e0 e1 end → m1 ≡ m0 → n1 ≡ n0 → SpeakGiven (number_of_status ended) o0 o1 e0 e2 m0 m1 n0 n2
    whole_given unfailed (out, lines, does, wrote, said) outs errs = (
      record { out = out; err = lines ++ served_line end; status = number_served end },
      inr (peer, loads, (end, out, lines, unfailed, does, refl)),
      line_behind o0 o1 e0 e1 e2 m0 m1 n0 n1 n2 out lines (served_line end) (status_served end) ended wrote said outs errs ends,
    )

    front_given : end ≡ drove.WriteFault → DoesFrontOfThat may events peer hub0 hub1 o0 o1 e0 e1 → Rose m0 m1 ⊎ Rose n0 n1 → SpeakGiven (number_of_status ended) o0 o1 e0 e2 m0 m1 n0 n2
    front_given is (out, lines, does, front, line_front) rose = (
      record { out = out; err = lines ++ out_of_memory.err; status = 8 },
      inr (peer, loads, (drove.Memory, out, lines, (λ same. cc), does, refl)),
      inr (nothing_behind o0 o1 e0 e1 e2 m0 m1 n0 n1 n2 out lines out_of_memory.err 8 ended front line_front rose le_n
          (subst (λ (d : Drove). Ends (status_served d) (served_line d) e1 e2 n1 n2 ended) is ends)),
    )

    pub hub_given : Drives speaks may Hub events (speaking_with peer) hub0 hub1 o0 o1 e0 e1 end → (end ≡ drove.WriteFault → Rose m0 m1 ⊎ Rose n0 n1)
        → (end ≢ drove.WriteFault → (m1 ≡ m0) × (n1 ≡ n0)) → SpeakGiven (number_of_status ended) o0 o1 e0 e2 m0 m1 n0 n2
    hub_given drives failed kept =
        elim (write_fault_or_not end) [
          | inl is ↦ front_given is
              (does_front may events peer hub0 hub1 o0 o1 e0 e1 (subst (λ (d : Drove). Drives speaks may Hub events (speaking_with peer) hub0 hub1 o0 o1 e0 e1 d) is drives)) (failed is)
          | inr unfailed ↦ whole_given unfailed (does_that may events peer hub0 hub1 o0 o1 e0 e1 end unfailed drives) (kept unfailed).0 (kept unfailed).1
        ]

  -- ---- its status

  unspoken_status : (a : Answer) → UnspokenAnswer contents absence fault refused config router a → (n : ℕ) → (n ≡ 2 → ⊥) → (n ≡ 3 → ⊥) → (n ≡ 8 → ⊥) → a.status ≡ n → ⊥
  unspoken_status a (inl memory) n two three eight s = eight (sym s ∙ ap (λ (b : Answer). b.status) memory)
  unspoken_status a (inr (inl (why, loads, is))) n two three eight s = refusal_not n two three eight config why (sym (ap (λ (b : Answer). b.status) is) ∙ s)
  unspoken_status a (inr (inr (why, loads, is))) n two three eight s = two (sym (sym (ap (λ (b : Answer). b.status) is ∙ lacks_status config router why) ∙ s))

  unspoken_unread : (a : Answer) → UnspokenAnswer contents absence fault refused config router a → a.status ≡ 3 → absence ⊎ fault
  unspoken_unread a (inl memory) s = let eight : a.status ≡ 8 = ap (λ (b : Answer). b.status) memory in absurd (omega (arith, eight, s))
  unspoken_unread a (inr (inl (why, loads, is))) s = refusal_unread (by_router router) contents absence fault refused config config why loads (sym (ap (λ (b : Answer). b.status) is) ∙ s)
  unspoken_unread a (inr (inr (why, loads, is))) s = let two : a.status ≡ 2 = ap (λ (b : Answer). b.status) is ∙ lacks_status config router why in absurd (omega (arith, two, s))

  module _ (status : ℕ) (o0 o1 e0 e1 : Option (List ℕ)) (m0 m1 n0 n1 : ℕ) (gives : SpeakGiven status o0 o1 e0 e1 m0 m1 n0 n1) where
    never_four : (gives.0).status ≡ 4 → ⊥
    never_four s =
        elim gives.1 [
          | inl (unspoken, same) ↦ unspoken_status gives.0 unspoken 4 (λ e. omega (arith, e)) (λ e. omega (arith, e)) (λ e. omega (arith, e)) s
          | inr (peer, loads, (end, out, lines, unfailed, does, is)) ↦ unfailed_not_four end unfailed (sym (ap (λ (b : Answer). b.status) is) ∙ s)
        ]

    pub spoken_fault : status ≡ 4 → Rose m0 m1 ⊎ Rose n0 n1
    spoken_fault s = delivered_fault status o0 o1 e0 e1 m0 m1 n0 n1 gives.0 never_four gives.2 s

    pub spoken_kept : (status ≡ 4 → ⊥) → (m1 ≡ m0) × (n1 ≡ n0)
    spoken_kept other = delivered_kept status o0 o1 e0 e1 m0 m1 n0 n1 gives.0 gives.2 other

    -- the status of the answer, where it isn't 4
    answered : (n : ℕ) → status ≡ n → (n ≡ 4 → ⊥) → (gives.0).status ≡ n
    answered n s four = elim (delivered_status status o0 o1 e0 e1 m0 m1 n0 n1 gives.0 gives.2) [ inl same ↦ sym same ∙ s | inr is_four ↦ absurd (four (sym s ∙ is_four)) ]

    -- at a status that no end of serving has, the hub wasn't asked
    unspoken_at : (n : ℕ) → status ≡ n → (n ≡ 0 → ⊥) → (n ≡ 6 → ⊥) → (n ≡ 7 → ⊥) → (n ≡ 4 → ⊥) → (n ≡ 8 → ⊥)
        → UnspokenAnswer contents absence fault refused config router gives.0 × ((gives.0).status ≡ n) × (hub1 ≡ hub0)
    unspoken_at n s zero six seven four eight =
        let same = answered n s four in
        elim gives.1 [
          | inl (unspoken, hub) ↦ (unspoken, same, hub)
          | inr (peer, loads, (end, out, lines, unfailed, does, is)) ↦ absurd (served_not n zero six seven four eight end (sym (ap (λ (b : Answer). b.status) is) ∙ same))
        ]

    pub spoken_unread : status ≡ 3 → absence ⊎ fault
    spoken_unread s =
        let at = unspoken_at 3 s (λ e. omega (arith, e)) (λ e. omega (arith, e)) (λ e. omega (arith, e)) (λ e. omega (arith, e)) (λ e. omega (arith, e)) in
        unspoken_unread gives.0 at.0 at.1

    pub spoken_unasked : (status ≡ 2) ⊎ (status ≡ 3) → hub1 ≡ hub0
    spoken_unasked (inl s) =
        (unspoken_at 2 s (λ e. omega (arith, e)) (λ e. omega (arith, e)) (λ e. omega (arith, e)) (λ e. omega (arith, e)) (λ e. omega (arith, e))).2
    spoken_unasked (inr s) =
        (unspoken_at 3 s (λ e. omega (arith, e)) (λ e. omega (arith, e)) (λ e. omega (arith, e)) (λ e. omega (arith, e)) (λ e. omega (arith, e))).2

    pub spoken_meant : status ≡ 1 → ⊥
    spoken_meant s =
        let at = unspoken_at 1 s (λ e. omega (arith, e)) (λ e. omega (arith, e)) (λ e. omega (arith, e)) (λ e. omega (arith, e)) (λ e. omega (arith, e)) in
        unspoken_status gives.0 at.0 1 (λ e. omega (arith, e)) (λ e. omega (arith, e)) (λ e. omega (arith, e)) at.1

    -- ---- where the files are told

    module _ (held : Contents) (told : contents ≡ Some held) where
      abbrev IsOurs : ℕ → Type 0
      IsOurs n = IsLoadedStatus config (loaded_peer (held 0) config router) (IsPeerStatus (λ p. IsServeStatus)) n

      here : (made : PeerLoad) → PeerLoads contents absence fault refused config router made → PeerLoads (Some held) absence fault refused config router made
      here made loads = subst (λ (c : Option Contents). PeerLoads c absence fault refused config router made) told loads

      end_told : (end : Drove) → StatusFor (number_served end) IsServeStatus fault
      end_told drove.Done = inl (inl refl)
      end_told drove.HubFault = inl (inr (inl refl))
      end_told drove.Spent = inl (inr (inr refl))
      end_told drove.WriteFault = inr (inl refl)
      end_told drove.Memory = inr (inr (inl refl))

      answer_told : (a : Answer) → RepliesSpeak may contents absence fault refused config router events hub0 hub1 a → StatusFor a.status IsOurs fault
      answer_told a (inl (inl memory, hub)) = inr (inr (inl (ap (λ (b : Answer). b.status) memory)))
      answer_told a (inl (inr (inl (why, loads, is)), hub)) =
          subst (λ (b : Answer). StatusFor b.status IsOurs fault) (sym is)
          (refusal_told held absence fault (by_router router) refused config (IsPeerStatus (λ p. IsServeStatus)) why (here (Err why) loads))
      answer_told a (inl (inr (inr (why, loads, is)), hub)) =
          subst (λ (b : Answer). StatusFor b.status IsOurs fault) (sym is)
          (accepted_told held absence fault (by_router router) refused config (IsPeerStatus (λ p. IsServeStatus)) (Err why) (lacks_answer config router why).status (here (Ok (Err why)) loads) (inl (lacks_status config router why)))
      answer_told a (inr (peer, loads, (end, out, lines, unfailed, does, is))) =
          subst (λ (b : Answer). StatusFor b.status IsOurs fault) (sym is)
          (accepted_told held absence fault (by_router router) refused config (IsPeerStatus (λ p. IsServeStatus)) (Ok peer) (number_served end) (here (Ok (Ok peer)) loads) (end_told end))

      pub spoken_told : StatusFor status IsOurs fault
      spoken_told =
          elim (delivered_status status o0 o1 e0 e1 m0 m1 n0 n1 gives.0 gives.2) [
            | inl same ↦ subst (λ n. StatusFor n IsOurs fault) (sym same) (answer_told gives.0 gives.1)
            | inr four ↦ inr (inl four)
          ]

      -- ---- the command, where each text that a turn gives is accepted

      module _ (each : EachIsAccepted) where
        abbrev Did : Drove → Type 0
        Did end = IsHubSpoken may config router (held 0) events end hub0 hub1 o0 o1 e0 e1

        -- all that happened was answered whole, up to the hub's last call
        did : (peer : LoadedPeer) → loaded_peer (held 0) config router ≡ Ok (Ok peer) → (out lines : List ℕ) → o1 ≡ appended o0 out → (end : Drove) → e1 ≡ appended e0 (lines ++ served_line end)
            → (hs : List Happening) → Ended events hs end → (mid : H) (all : AnswersAll speaks may Hub (speaking_with peer) hs hub0 mid (Some []) (Some out) (Some []) (Some lines))
            → Leads may hub0 (all.told.steps ++ last_call end) hub1 → Did end
        did peer accepted out lines wrote end said hs ended mid all leads = record {
          peer = peer;
          happened = hs;
          accepted = accepted;
          ended = ended;
          steps = all.told.steps;
          went_on = all.told.went_on;
          leads = leads;
          gave = whole_happened speaks Hub (speaking_with peer) hs (story all.told.steps) all.told.deeds;
          told = all.told.deeds;
          out = wrote ∙ ap (λ (o : Option (List ℕ)). appended o0 (unwrap_or o [])) all.out;
          err = said ∙ ap (λ (o : Option (List ℕ)). appended e0 (unwrap_or o [] ++ served_line end)) all.err;
          texts = texts_accepted each (speaking_with peer) hs;
        }

        did_by : (peer : LoadedPeer) → loaded_peer (held 0) config router ≡ Ok (Ok peer) → (out lines : List ℕ) → o1 ≡ appended o0 out → (end : Drove) → e1 ≡ appended e0 (lines ++ served_line end)
            → IsItsEnd end → Does may events peer hub0 hub1 out lines end → Did end
        did_by peer accepted out lines wrote drove.Done said its (hs, mid, few, all, last) =
            did peer accepted out lines wrote drove.Done said hs few mid all (next all.told.steps mid (turned turns.Done) hub1 all.told.leads last)
        did_by peer accepted out lines wrote drove.HubFault said its (hs, mid, few, all, last) =
            did peer accepted out lines wrote drove.HubFault said hs few mid all (next all.told.steps mid (turned turns.Failed) hub1 all.told.leads last)
        did_by peer accepted out lines wrote drove.Spent said its (hs, is, all) =
            did peer accepted out lines wrote drove.Spent said hs is hub1 all (subst (λ (l : List HubStep). Leads may hub0 l hub1) (sym (append-nil all.told.steps)) all.told.leads)
        did_by peer accepted out lines wrote drove.WriteFault said its does = absurd its
        did_by peer accepted out lines wrote drove.Memory said its does = absurd its

        pub spoken_right : (end : Drove) → IsItsEnd end → status ≡ number_served end → Did end
        spoken_right end its s =
            let same = answered (number_served end) s (its_end_not_four end its) in
            let whole : (o1 ≡ appended o0 (gives.0).out) × (e1 ≡ appended e0 (gives.0).err) = elim gives.2 [ inl all ↦ (all.1, all.2) | inr front ↦ absurd (its_end_not_four end its (sym s ∙ front.0)) ] in
            elim gives.1 [
              | inl (unspoken, hub) ↦ absurd (unspoken_status gives.0 unspoken (number_served end) (λ e. its_end_not_refused 2 (inl refl) end its e) (λ e. its_end_not_refused 3 (inr (inl refl)) end its e) (λ e. its_end_not_refused 8 (inr (inr refl)) end its e) same)
              | inr (peer, loads, (last, out, lines, unfailed, does, is)) ↦
                  let one : last ≡ end = same_end last end (sym (ap (λ (b : Answer). b.status) is) ∙ same) in
                  did_by peer ((here (Ok (Ok peer)) loads).told held refl) out lines (whole.0 ∙ ap (λ (b : Answer). appended o0 b.out) is) end
                  (whole.1 ∙ ap (λ (b : Answer). appended e0 b.err) is ∙ ap (λ (d : Drove). appended e0 (lines ++ served_line d)) one) its
                  (subst (λ (d : Drove). Does may events peer hub0 hub1 out lines d) one does)
            ]
