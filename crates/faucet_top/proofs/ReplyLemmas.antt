-- From what a run over a recording wrote to the reply that was given.
use Rattle.std.proofs.Common.{◌≡◌, ◌≢◌, ℕ, ◌≤◌, ◌⊎◌, inl, inr, List, [], ◌++◌, take, Option, Some, None, Ok, Err, refl, sym, ap, subst, ◌∙◌, arith}
use Rattle.std.proofs.lemmas.List.{append-nil}
use Rattle.fg_outside.specs.Contents.{Contents}
use Rattle.fg_outside.specs.Counts.{Rose}
use Rattle.fg_outside.specs.Wrote.{appended, AppendsFront}
use Rattle.fg_outside.specs.declared.hub.Happening.{Happening}
use Rattle.fg_outside.proofs.CountLemmas.{Rose-later, Rose-since}
use Rattle.fg_outside.proofs.SinkLemmas.{appended-append, appended-nil, AppendsFront-whole, AppendsFront-first, AppendsFront-second}
use Rattle.conf_types.specs.Configuration.{Configuration}
use Rattle.conf_gather.specs.declared.refused.LoadRefused.{LoadRefused}
use Rattle.conf_load.specs.Loaded.{loaded}
use Rattle.gauge_conf.specs.declared.gauge.GaugeConf.{GaugeConf}
use Rattle.gauge_load.specs.Loaded.{gauge_of}
use Rattle.gauge_poll.specs.Monitoring.{begun}
use Rattle.command_line.specs.declared.meaning.Job.{Job}
use Rattle.command_line.specs.declared.meaning.Job.TheVariants.{Bgp, Gauge, Replay}
use Rattle.ctl_world.specs.World.{first}
use Rattle.hub_drive.specs.declared.replay.Replayed.{Replayed}
use Rattle.hub_drive.specs.declared.replay.Replayed.TheVariants as replayed
use Rattle.hub_drive.specs.declared.sayings.Outlet.{Outlet}
use Rattle.hub_drive.specs.declared.sayings.Outlet.TheVariants as outlets
use Rattle.hub_drive.specs.Driven.{WholeButLast}
use Rattle.hub_drive.specs.Driving.{lines_of, out_of}
use Rattle.hub_drive.specs.Machine.{Workings, behind as run_behind}
use Rattle.hub_drive.specs.Replay.{Replays, WritesFront}
use Rattle.hub_drive.proofs.Stories.{fronts_but_last, none_begun}
use Rattle.ctl_drive.specs.Controller.{controller}
use Rattle.gauge_drive.specs.Gauge.{monitor}
use Rattle.bgp_load.specs.declared.found.LoadedPeer.{LoadedPeer}
use Rattle.bgp_load.specs.declared.found.PeerLacks.{PeerLacks}
use Rattle.bgp_load.specs.Peers.{loaded_peer}
use Rattle.bgp_drive.specs.Speech.{speaks}
use Rattle.ctl_serve.proofs.Serving.{front_of_nothing}
use Rattle.faucet_top.specs.declared.deliver.Status.{Status}
use Rattle.faucet_top.specs.declared.deliver.Status.TheVariants as statuses
use Rattle.faucet_top.specs.Answer.{Answer, lacks_answer, out_of_memory, refusal, last_line}
use Rattle.faucet_top.specs.Ends.{Ends, status_after}
use Rattle.faucet_top.specs.Given.{GaugeLoads, Loads, PeerLoads, GoesByFile, BreaksOff, Delivers, Gives, GivesBgp, GivesRun, RepliesJob, RepliesRun, speaking_with}
use Rattle.faucet_top.specs.Status.{number_of_status}
use Rattle.faucet_top.proofs.CheckLemmas.{accepted_loads, line_delivered}
use Rattle.faucet_top.proofs.ReplayLemmas.{by_router, number_after, ends_differ}

-- ---- what is written on two streams, by what would be on empty ones

pub AppendsFront-all : (old : Option (List ℕ)) (piece : List ℕ) → AppendsFront old (appended old piece) piece
AppendsFront-all old piece = subst (λ (l : List ℕ). AppendsFront old (appended old piece) l) (append-nil piece) (AppendsFront-whole old piece [])

module _ {S : Type 0} (works : Workings S) (outlet : Outlet) (w : S) (story : List Happening) where
  -- the whole answer, on empty streams
  pub whole_on_empty : WholeButLast works outlet w story (Some []) (Some (out_of works outlet w story)) (Some []) (Some (lines_of works w story))
  whole_on_empty = none_begun works outlet w story (Some []) (Some (out_of works outlet w story)) (Some []) (Some (lines_of works w story)) refl refl

  -- a front of the answer, as it would be on empty streams
  pub record OnEmpty (o0 o1 e0 e1 : Option (List ℕ)) : Type 0 where
    pub out : List ℕ
    pub lines : List ℕ
    pub but_last : WholeButLast works outlet w story (Some []) (Some out) (Some []) (Some lines)
    pub out_front : AppendsFront (Some []) (Some out) (out_of works outlet w story)
    pub lines_front : AppendsFront (Some []) (Some lines) (lines_of works w story)
    pub wrote : o1 ≡ appended o0 out
    pub said : e1 ≡ appended e0 lines

  pub on_empty : (o0 o1 e0 e1 : Option (List ℕ)) → WholeButLast works outlet w story o0 o1 e0 e1 → OnEmpty o0 o1 e0 e1
  on_empty o0 o1 e0 e1 part =
      -- the whole of all turns but the last, and of that the front that was written
      let before = part.before in
      let v : S = run_behind works w before in
      let records = out_of works outlet w before in
      let said = lines_of works w before in
      let more = take part.out.count (out_of works outlet v part.last) in
      let more_said = take part.err.count (lines_of works v part.last) in
      let but_last : WholeButLast works outlet w story (Some []) (Some (records ++ more)) (Some []) (Some (said ++ more_said)) = record {
        before = before;
        last = part.last;
        parts = part.parts;
        one = part.one;
        out = record { count = part.out.count; within = part.out.within; front = refl };
        err = record { count = part.err.count; within = part.err.within; front = refl };
      } in
      let fronts = fronts_but_last works outlet w story (Some []) (Some (records ++ more)) (Some []) (Some (said ++ more_said)) but_last in
      record {
        out = records ++ more;
        lines = said ++ more_said;
        but_last = but_last;
        out_front = fronts.0;
        lines_front = fronts.1;
        wrote = part.out.front ∙ appended-append o0 records more;
        said = part.err.front ∙ appended-append e0 said more_said;
      }

module _ {S : Type 0} (works : Workings S) (outlet : Outlet) (w : S) (contents : Option Contents) (name : List ℕ) (absence fault : Type 0) (o0 o1 e0 e1 : Option (List ℕ)) where
  -- a run that ends so writes this on empty streams
  abbrev Writes : (out lines : List ℕ) → Replayed → Type 0
  Writes out lines end = Replays works outlet contents name absence fault w (Some []) (Some out) (Some []) (Some lines) end

  abbrev WritesThat : Replayed → Type 0
  WritesThat end = (out : List ℕ) × (lines : List ℕ) × Writes out lines end × (o1 ≡ appended o0 out) × (e1 ≡ appended e0 lines)

  wrote_that : (end : Replayed) → end ≢ replayed.WriteFault → Replays works outlet contents name absence fault w o0 o1 e0 e1 end → WritesThat end
  wrote_that (replayed.Read refused) unfailed (story, writes, few, told) =
      (out_of works outlet w story, lines_of works w story, (story, record { out = refl; err = refl }, few, told), writes.out, writes.err)
  wrote_that replayed.Unread unfailed (story, writes, so_far, cause) =
      (out_of works outlet w story, lines_of works w story, (story, record { out = refl; err = refl }, so_far, cause), writes.out, writes.err)
  wrote_that replayed.Spent unfailed (story, writes, so_far, most) =
      (out_of works outlet w story, lines_of works w story, (story, record { out = refl; err = refl }, so_far, most), writes.out, writes.err)
  wrote_that replayed.WriteFault unfailed replays = absurd (unfailed refl)
  wrote_that replayed.Memory unfailed (story, writes, so_far) =
      let some = on_empty works outlet w story o0 o1 e0 e1 writes.but_last in
      (some.out, some.lines, (story, record { out = some.out_front; err = some.lines_front; but_last = some.but_last }, so_far), some.wrote, some.said)

  abbrev WritesFrontOfThat : Type 0
  WritesFrontOfThat = (out : List ℕ) × (lines : List ℕ) × Writes out lines replayed.Memory × AppendsFront o0 o1 out × AppendsFront e0 e1 lines

  -- a write failed: what was written is a front of what there is where memory runs out behind the whole
  wrote_front : Replays works outlet contents name absence fault w o0 o1 e0 e1 replayed.WriteFault → WritesFrontOfThat
  wrote_front (story, writes, so_far) =
      let out = out_of works outlet w story in
      let lines = lines_of works w story in
      let whole : WritesFront works outlet w story (Some []) (Some out) (Some []) (Some lines) = record {
        out = AppendsFront-all (Some []) out;
        err = AppendsFront-all (Some []) lines;
        but_last = whole_on_empty works outlet w story;
      } in
      (out, lines, (story, whole, so_far), writes.out, writes.err)

-- ---- with the line behind

module _ (o0 o1 e0 e1 e2 : Option (List ℕ)) (m0 m1 n0 n1 n2 : ℕ) (out lines : List ℕ) where
  pub line_behind : (last : List ℕ) (status ended : Status) → o1 ≡ appended o0 out → e1 ≡ appended e0 lines → m1 ≡ m0 → n1 ≡ n0 → Ends status last e1 e2 n1 n2 ended
      → Delivers (record { out = out; err = lines ++ last; status = number_of_status status }) (number_of_status ended) o0 o1 e0 e2 m0 m1 n0 n2
  line_behind last status ended wrote said outs errs (inl whole) =
      inl (ap number_of_status whole.0, wrote, whole.1 ∙ ap (λ e. appended e last) said ∙ appended-append e0 lines last, outs, whole.2 ∙ errs)
  line_behind last status ended wrote said outs errs (inr front) = inr (
    ap number_of_status front.0,
    subst (λ (o : Option (List ℕ)). AppendsFront o0 o out) (sym wrote) (AppendsFront-all o0 out),
    AppendsFront-second e0 e1 e2 lines last said front.1,
    inr (rw errs at front.2),
  )

  pub nothing_behind : (more : List ℕ) (status : ℕ) (ended : Status) → AppendsFront o0 o1 out → AppendsFront e0 e1 lines → Rose m0 m1 ⊎ Rose n0 n1 → n1 ≤ n2
      → Ends statuses.WriteFault [] e1 e2 n1 n2 ended → BreaksOff (record { out = out; err = lines ++ more; status = status }) (number_of_status ended) o0 o1 e0 e2 m0 m1 n0 n2
  nothing_behind more status ended front line_front rose le ends =
      let four : ended ≡ statuses.WriteFault = elim ends [ inl whole ↦ whole.0 | inr cut ↦ cut.0 ] in
      let same : e2 ≡ e1 = elim ends [ inl whole ↦ whole.1 ∙ appended-nil e1 | inr cut ↦ front_of_nothing e1 e2 cut.1 ] in (
        ap number_of_status four,
        front,
        subst (λ (e : Option (List ℕ)). AppendsFront e0 e (lines ++ more)) (sym same) (AppendsFront-first e0 e1 lines more line_front),
        elim rose [ inl r ↦ inl r | inr r ↦ inr (Rose-later n0 n1 n2 r le) ],
      )

-- ---- the reply

write_fault_or_not : (end : Replayed) → (end ≡ replayed.WriteFault) ⊎ (end ≢ replayed.WriteFault)
write_fault_or_not (replayed.Read None) = inr (ends_differ (replayed.Read None) replayed.WriteFault (λ e. omega arith))
write_fault_or_not (replayed.Read (Some refused)) = inr (ends_differ (replayed.Read (Some refused)) replayed.WriteFault (λ e. omega arith))
write_fault_or_not replayed.Unread = inr (ends_differ replayed.Unread replayed.WriteFault (λ e. omega arith))
write_fault_or_not replayed.Spent = inr (ends_differ replayed.Spent replayed.WriteFault (λ e. omega arith))
write_fault_or_not replayed.WriteFault = inl refl
write_fault_or_not replayed.Memory = inr (ends_differ replayed.Memory replayed.WriteFault (λ e. omega arith))

-- a replay whose write failed goes by the file as one whose memory ran out does
file_at_front : (contents : Option Contents) (name : List ℕ) (fault : Type 0) → GoesByFile contents name fault replayed.WriteFault → GoesByFile contents name fault replayed.Memory
file_at_front contents name fault by_file = record {
  missing = λ none. absurd (ends_differ replayed.WriteFault replayed.Unread (λ e. omega arith) (by_file.missing none));
  there = λ bytes is ends. absurd (ends_differ replayed.Memory replayed.Unread (λ e. omega arith) ends);
}

module _ {S : Type 0} (works : Workings S) (outlet : Outlet) (w : S) (contents : Option Contents) (absence fault : Type 0) (o0 o1 e0 e1 e2 : Option (List ℕ)) (m0 m1 n0 n1 n2 : ℕ) (recording : List ℕ) (end : Replayed) (ended : Status)
    (le_n : n1 ≤ n2) (by_file : GoesByFile contents recording fault end) (ends : Ends (status_after end) (last_line recording end) e1 e2 n1 n2 ended) where
  abbrev RunGiven : Type 0
  RunGiven = GivesRun works outlet contents absence fault recording w (number_of_status ended) o0 o1 e0 e2 m0 m1 n0 n2

  whole_given : end ≢ replayed.WriteFault → WritesThat works outlet w contents recording absence fault o0 o1 e0 e1 end → m1 ≡ m0 → n1 ≡ n0 → RunGiven
  whole_given unfailed (out, lines, writes, wrote, said) outs errs = (
    record { out = out; err = lines ++ last_line recording end; status = number_after end },
    inl (end, out, lines, unfailed, writes, by_file, refl),
    line_behind o0 o1 e0 e1 e2 m0 m1 n0 n1 n2 out lines (last_line recording end) (status_after end) ended wrote said outs errs ends,
  )

  front_given : end ≡ replayed.WriteFault → WritesFrontOfThat works outlet w contents recording absence fault o0 o1 e0 e1 → Rose m0 m1 ⊎ Rose n0 n1 → RunGiven
  front_given is (out, lines, writes, front, line_front) rose = (
    record { out = out; err = lines ++ out_of_memory.err; status = 8 },
    inl (
      replayed.Memory,
      out,
      lines,
      ends_differ replayed.Memory replayed.WriteFault (λ e. omega arith),
      writes,
      file_at_front contents recording fault (subst (λ (r : Replayed). GoesByFile contents recording fault r) is by_file),
      refl,
    ),
    inr (nothing_behind o0 o1 e0 e1 e2 m0 m1 n0 n1 n2 out lines out_of_memory.err 8 ended front line_front rose le_n
        (subst (λ (r : Replayed). Ends (status_after r) (last_line recording r) e1 e2 n1 n2 ended) is ends)),
  )

  pub run_given : Replays works outlet contents recording absence fault w o0 o1 e0 e1 end → (end ≡ replayed.WriteFault → Rose m0 m1 ⊎ Rose n0 n1)
      → (end ≢ replayed.WriteFault → (m1 ≡ m0) × (n1 ≡ n0)) → RunGiven
  run_given replays failed kept =
      elim (write_fault_or_not end) [
        | inl is ↦ front_given is
            (wrote_front works outlet w contents recording absence fault o0 o1 e0 e1 (subst (λ (r : Replayed). Replays works outlet contents recording absence fault w o0 o1 e0 e1 r) is replays)) (failed is)
        | inr unfailed ↦ whole_given unfailed (wrote_that works outlet w contents recording absence fault o0 o1 e0 e1 end unfailed replays) (kept unfailed).0 (kept unfailed).1
      ]

-- memory ran out before the run began
pub memory_run : {S : Type 0} (works : Workings S) (outlet : Outlet) (w : S) (contents : Option Contents) (absence fault : Type 0) (o e0 e1 : Option (List ℕ)) (m n0 n1 : ℕ) (recording : List ℕ) (ended : Status)
    → Ends statuses.Memory out_of_memory.err e0 e1 n0 n1 ended → GivesRun works outlet contents absence fault recording w (number_of_status ended) o o e0 e1 m m n0 n1
memory_run works outlet w contents absence fault o e0 e1 m n0 n1 recording ended ends = (out_of_memory, inr refl, line_delivered [] o o e0 e1 m m n0 n1 out_of_memory statuses.Memory ended refl refl ends)

-- ---- by what the file gave

-- what was counted by a part of a call was counted by the whole
module _ {S : Type 0} (works : Workings S) (outlet : Outlet) (w : S) (contents : Option Contents) (name : List ℕ) (a0 a1 a2 f0 f1 f2 : ℕ) (le_a : a0 ≤ a1) (le_f : f0 ≤ f1) where
  replays_since : (o0 o1 e0 e1 : Option (List ℕ)) (end : Replayed) → Replays works outlet contents name (Rose a1 a2) (Rose f1 f2) w o0 o1 e0 e1 end → Replays works outlet contents name (Rose a0 a2) (Rose f0 f2) w o0 o1 e0 e1 end
  replays_since o0 o1 e0 e1 (replayed.Read refused) replays = replays
  replays_since o0 o1 e0 e1 replayed.Unread (story, writes, so_far, cause) =
      (story, writes, so_far, elim cause [ inl rose ↦ inl (Rose-since a0 a1 a2 le_a rose) | inr rose ↦ inr (Rose-since f0 f1 f2 le_f rose) ])
  replays_since o0 o1 e0 e1 replayed.Spent replays = replays
  replays_since o0 o1 e0 e1 replayed.WriteFault replays = replays
  replays_since o0 o1 e0 e1 replayed.Memory replays = replays

  file_since : (end : Replayed) → GoesByFile contents name (Rose f1 f2) end → GoesByFile contents name (Rose f0 f2) end
  file_since end by_file = record { missing = by_file.missing; there = λ bytes is ends. Rose-since f0 f1 f2 le_f (by_file.there bytes is ends) }

  pub run_since : (a : Answer) → RepliesRun works outlet contents (Rose a1 a2) (Rose f1 f2) name w a → RepliesRun works outlet contents (Rose a0 a2) (Rose f0 f2) name w a
  run_since a (end, out, lines, unfailed, replays, by_file, is) = (end, out, lines, unfailed, replays_since (Some []) (Some out) (Some []) (Some lines) end replays, file_since end by_file, is)

module _ (contents : Option Contents) (a0 a1 a2 f0 f1 f2 : ℕ) (le_a : a0 ≤ a1) (le_f : f0 ≤ f1) (refused : List ℕ) (status : ℕ) (o0 o1 e0 e1 : Option (List ℕ)) (m0 m1 n0 n1 : ℕ) (config recording : List ℕ) where
  -- the reply to a run is that to a job that is so replied to
  job_given : {S : Type 0} (works : Workings S) (outlet : Outlet) (w : S) (job : Job)
      → ((a : Answer) → RepliesRun works outlet contents (Rose a0 a2) (Rose f0 f2) recording w a → RepliesJob (Some job) contents (Rose a0 a2) (Rose f0 f2) refused a)
      → GivesRun works outlet contents (Rose a1 a2) (Rose f1 f2) recording w status o0 o1 e0 e1 m0 m1 n0 n1
      → Gives (Some job) contents (Rose a0 a2) (Rose f0 f2) refused status o0 o1 e0 e1 m0 m1 n0 n1
  job_given works outlet w job by (a, inl replies, delivers) = (a, inl (by a (run_since works outlet w contents recording a0 a1 a2 f0 f1 f2 le_a le_f a replies)), delivers)
  job_given works outlet w job by (a, inr memory, delivers) = (a, inr memory, delivers)

  pub replay_given : (conf : Configuration) → ((held : Contents) → contents ≡ Some held → loaded (held 0) config ≡ Ok conf)
      → GivesRun controller outlets.Records contents (Rose a1 a2) (Rose f1 f2) recording (first conf) status o0 o1 e0 e1 m0 m1 n0 n1
      → Gives (Some (Replay config recording)) contents (Rose a0 a2) (Rose f0 f2) refused status o0 o1 e0 e1 m0 m1 n0 n1
  replay_given conf told gives =
      job_given controller outlets.Records (first conf) (Replay config recording)
      (λ a replies. (Ok conf, accepted_loads loaded contents (Rose a0 a2) (Rose f0 f2) refused config conf told, replies)) gives

  pub gauge_given : (conf : GaugeConf) → ((held : Contents) → contents ≡ Some held → gauge_of (held 0) config ≡ Ok conf)
      → GivesRun monitor outlets.Nowhere contents (Rose a1 a2) (Rose f1 f2) recording (begun conf) status o0 o1 e0 e1 m0 m1 n0 n1
      → Gives (Some (Gauge config recording)) contents (Rose a0 a2) (Rose f0 f2) refused status o0 o1 e0 e1 m0 m1 n0 n1
  gauge_given conf told gives =
      job_given monitor outlets.Nowhere (begun conf) (Gauge config recording)
      (λ a replies. (Ok conf, accepted_loads gauge_of contents (Rose a0 a2) (Rose f0 f2) refused config conf told, replies)) gives

  pub bgp_given : (router : List ℕ) (peer : LoadedPeer) → ((held : Contents) → contents ≡ Some held → loaded_peer (held 0) config router ≡ Ok (Ok peer))
      → GivesRun speaks outlets.Nowhere contents (Rose a1 a2) (Rose f1 f2) recording (speaking_with peer) status o0 o1 e0 e1 m0 m1 n0 n1
      → GivesBgp contents (Rose a0 a2) (Rose f0 f2) refused config router recording status o0 o1 e0 e1 m0 m1 n0 n1
  bgp_given router peer told gives =
      job_given speaks outlets.Nowhere (speaking_with peer) (Bgp config router recording)
      (λ a replies. (Ok (Ok peer), accepted_loads (by_router router) contents (Rose a0 a2) (Rose f0 f2) refused config (Ok peer) told, replies)) gives

module _ (contents : Option Contents) (absence fault : Type 0) (refused : List ℕ) (o0 o1 e0 e1 : Option (List ℕ)) (m0 m1 n0 n1 : ℕ) (config router recording : List ℕ) (status : ℕ) where
  -- the configuration was refused, or has no peer, and that was the whole reply
  pub bgp_refusal_given : (why : LoadRefused) → Delivers (refusal config why) status o0 o1 e0 e1 m0 m1 n0 n1 → PeerLoads contents absence fault refused config router (Err why)
      → GivesBgp contents absence fault refused config router recording status o0 o1 e0 e1 m0 m1 n0 n1
  bgp_refusal_given why delivers loads = (refusal config why, inl (Err why, loads, refl), delivers)

  pub bgp_lacks_given : (why : PeerLacks) → Delivers (lacks_answer config router why) status o0 o1 e0 e1 m0 m1 n0 n1 → PeerLoads contents absence fault refused config router (Ok (Err why))
      → GivesBgp contents absence fault refused config router recording status o0 o1 e0 e1 m0 m1 n0 n1
  bgp_lacks_given why delivers loads = (lacks_answer config router why, inl (Ok (Err why), loads, refl), delivers)

module _ (contents : Option Contents) (absence fault : Type 0) (refused : List ℕ) (o0 o1 e0 e1 : Option (List ℕ)) (m0 m1 n0 n1 : ℕ) (config recording : List ℕ) (why : LoadRefused) (status : ℕ) (delivers : Delivers (refusal config why) status o0 o1 e0 e1 m0 m1 n0 n1) where
  -- the configuration was refused, and that was the whole reply
  pub refusal_given : Loads contents absence fault refused config (Err why) → Gives (Some (Replay config recording)) contents absence fault refused status o0 o1 e0 e1 m0 m1 n0 n1
  refusal_given loads = (refusal config why, inl (Err why, loads, refl), delivers)

  pub gauge_refusal_given : GaugeLoads contents absence fault refused config (Err why) → Gives (Some (Gauge config recording)) contents absence fault refused status o0 o1 e0 e1 m0 m1 n0 n1
  gauge_refusal_given loads = (refusal config why, inl (Err why, loads, refl), delivers)
