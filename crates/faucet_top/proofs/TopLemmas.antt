-- From the reply that was given to what each status says.
use Rattle.std.proofs.Common.{◌≡◌, ℕ, ◌⊎◌, inl, inr, List, [], ◌∷◌, ◌++◌, map, Option, Some, None, unwrap_or, Result, Ok, Err, refl, sym, ap, subst, ◌∙◌, arith}
use Rattle.std.specs.List.{AllByRecursion, flat_map}
use Rattle.std.proofs.lemmas.List.{append_assoc}
use Rattle.fg_outside.specs.Contents.{Contents}
use Rattle.fg_outside.specs.Counts.{Rose}
use Rattle.fg_outside.specs.Wrote.{appended}
use Rattle.fg_outside.specs.declared.hub.Happening.{Happening}
use Rattle.conf_types.specs.Configuration.{Configuration}
use Rattle.conf_types.specs.Valid.{IsValid}
use Rattle.conf_gather.specs.declared.refused.LoadRefused.{LoadRefused}
use Rattle.conf_gather.specs.declared.refused.LoadRefused.TheVariants.{Read, Yaml, Conf, IncludeTwice, IncludeDepth, Absent, Memory}
use Rattle.conf_gather.specs.Gathered.{Held}
use Rattle.conf_load.specs.Loaded.{loaded}
use Rattle.command_line.specs.declared.meaning.Job.{Job}
use Rattle.command_line.specs.declared.meaning.Job.TheVariants.{Bench, Check, Gauge, GaugeServe, Plan, Replay, Serve, Trace, Walk, Bgp, BgpServe}
use Rattle.opening_batch.specs.Opened.{Opens}
use Rattle.opening_batch.specs.Opening.{opening_of}
use Rattle.law_stories.specs.Right.{IsRight}
use Rattle.bench_story.specs.Measured.{measured}
use Rattle.bench_story.specs.Setup.{configuration}
use Rattle.gauge_poll.specs.Monitoring.{Monitor, lines_of as gauge_lines}
use Rattle.recording.specs.declared.refused.RecordRefused.{RecordRefused}
use Rattle.hub_drive.specs.declared.sayings.Outlet.TheVariants as outlets
use Rattle.hub_drive.specs.Driving.{out_of}
use Rattle.gauge_drive.specs.Gauge.{joined, monitor}
use Rattle.trace_story.specs.declared.showing.How.{How}
use Rattle.trace_story.specs.declared.showing.How.TheVariants as hows
use Rattle.trace_story.specs.declared.showing.Shown.{Shown}
use Rattle.trace_story.specs.declared.showing.Shown.TheVariants.{Lines, NotReady}
use Rattle.faucet_top.specs.declared.deliver.Status.{Status}
use Rattle.faucet_top.specs.declared.deliver.Status.TheVariants as statuses
use Rattle.faucet_top.specs.Answer.{Answer, Load, bench_answer, usage, out_of_memory, refusal, behind_bytes, json_line, check_step, check_answer, planned, plan_answer, job_answer, shown_answer}
use Rattle.faucet_top.specs.Ends.{Ends}
use Rattle.faucet_top.specs.Follow.{IsCutShort, IsFollowed, Traced, job_for, traced_by}
use Rattle.faucet_top.specs.Given.{Loads, RepliesJob, RepliesLoaded, Replies, AnswersSoFar, Delivers, Gives, Checks, StatusFor, IsStatusOf, AreAccepted, IsMeasured, IsOpened, IsReplayed, IsWatched, IsSpoken}
use Rattle.faucet_top.specs.Status.{number_of_status}
use Rattle.faucet_top.proofs.CheckLemmas.{line_delivered}
use Rattle.faucet_top.proofs.FollowLemmas.{follow_cut, follow_inner, follow_shown, follow_told, follow_unread}
use Rattle.faucet_top.proofs.RefusalLemmas.{IsInner, refusal_inner, refusal_undone, refusal_unread}
use Rattle.faucet_top.proofs.ReplayLemmas.{EachIsAccepted, gauge_done, gauge_inner, gauge_refused, gauge_told, gauge_unread, replay_inner, replay_unread, replay_told, replay_done, replay_refused, bgp_inner, bgp_unread, bgp_told, bgp_done, bgp_refused}

abbrev pub File : Type 0
File = List ℕ × Load

-- ---- the statuses of the answers

check_inner : (files : List File) → IsInner (check_answer files).status
check_inner [] = (λ e. omega arith, λ e. omega arith, λ e. omega arith)
check_inner ((name, Ok conf) ∷ files) = check_inner files
check_inner ((name, Err why) ∷ files) = refusal_inner name why

plan_inner : (config dp : List ℕ) (made : Result (Option (List ℕ)) LoadRefused) → IsInner (plan_answer config dp made).status
plan_inner config dp (Ok (Some batch)) = (λ e. omega arith, λ e. omega arith, λ e. omega arith)
plan_inner config dp (Ok None) = (λ e. omega arith, λ e. omega arith, λ e. omega arith)
plan_inner config dp (Err why) = refusal_inner config why

module _ (contents : Option Contents) (absence fault : Type 0) (refused : List ℕ) where
  abbrev LoadsFile : File → Type 0
  LoadsFile file = Loads contents absence fault refused file.0 file.1

  check_unread : (files : List File) → AllByRecursion LoadsFile files → (check_answer files).status ≡ 3 → absence ⊎ fault
  check_unread [] all s = absurd (omega (arith, s))
  check_unread ((name, Ok conf) ∷ files) all s = check_unread files all.1 s
  check_unread ((name, Err why) ∷ files) all s = refusal_unread loaded contents absence fault refused name name why all.0 s

  plan_unread : (config dp : List ℕ) (made : Load) → Loads contents absence fault refused config made → (plan_answer config dp (planned dp made)).status ≡ 3 → absence ⊎ fault
  plan_unread config dp (Err why) loads s = refusal_unread loaded contents absence fault refused config config why loads s
  plan_unread config dp (Ok conf) loads s = absurd (found (opening_of conf dp) s)
    where
      found : (batch : Option (List ℕ)) → (plan_answer config dp (Ok batch)).status ≡ 3 → ⊥
      found (Some batch) s = omega (arith, s)
      found None s = omega (arith, s)

  job_inner : (job : Option Job) (a : Answer) → RepliesJob job contents absence fault refused a → ((a.status ≡ 1) → job ≡ None) × (a.status ≡ 4 → ⊥) × (a.status ≡ 6 → ⊥)
  job_inner None a is =
      let at = ap (λ (b : Answer). b.status) is in
      (λ s. refl, λ s. omega (arith, at, s), λ s. omega (arith, at, s))
  job_inner (Some (Check names)) a reply =
      let at = ap (λ (b : Answer). b.status) reply.2 in
      (λ s. absurd ((check_inner reply.0).0 (sym at ∙ s)), λ s. (check_inner reply.0).1 (sym at ∙ s), λ s. (check_inner reply.0).2 (sym at ∙ s))
  job_inner (Some (Plan config dp)) a reply =
      let at = ap (λ (b : Answer). b.status) reply.2 in
      let inner = plan_inner config dp (planned dp reply.0) in
      (λ s. absurd (inner.0 (sym at ∙ s)), λ s. inner.1 (sym at ∙ s), λ s. inner.2 (sym at ∙ s))
  job_inner (Some (Replay config recording)) a reply =
      let inner = replay_inner contents absence fault config recording reply.0 a reply.2 in
      (λ s. absurd (inner.0 s), inner.1, inner.2)
  job_inner (Some (Serve config events reload_ms listen)) a reply = absurd reply
  job_inner (Some (Gauge config recording)) a reply =
      let inner = gauge_inner contents absence fault config recording reply.0 a reply.2 in
      (λ s. absurd (inner.0 s), inner.1, inner.2)
  job_inner (Some (GaugeServe config events listen)) a reply = absurd reply
  job_inner (Some (Bench hosts)) a is =
      let at = ap (λ (b : Answer). b.status) is in
      (λ s. absurd (omega (arith, at, s)), λ s. omega (arith, at, s), λ s. omega (arith, at, s))
  job_inner (Some (Trace config recording dp port frame)) a reply =
      let inner = follow_inner hows.Trace contents absence fault (traced_by config recording dp port frame) reply.0 a reply.2 in
      (λ s. absurd (inner.0 s), inner.1, inner.2)
  job_inner (Some (Walk config recording dp port frame)) a reply =
      let inner = follow_inner hows.Walk contents absence fault (traced_by config recording dp port frame) reply.0 a reply.2 in
      (λ s. absurd (inner.0 s), inner.1, inner.2)
  job_inner (Some (Bgp config router recording)) a reply =
      let inner = bgp_inner contents absence fault config router recording reply.0 a reply.2 in
      (λ s. absurd (inner.0 s), inner.1, inner.2)
  job_inner (Some (BgpServe config router events listen)) a reply = absurd reply

  job_unread : (job : Option Job) (a : Answer) → RepliesJob job contents absence fault refused a → a.status ≡ 3 → absence ⊎ fault
  job_unread None a is s = let at = ap (λ (b : Answer). b.status) is in absurd (omega (arith, at, s))
  job_unread (Some (Check names)) a reply s = check_unread reply.0 (reply.1).1 (sym (ap (λ (b : Answer). b.status) reply.2) ∙ s)
  job_unread (Some (Plan config dp)) a reply s = plan_unread config dp reply.0 reply.1 (sym (ap (λ (b : Answer). b.status) reply.2) ∙ s)
  job_unread (Some (Replay config recording)) a reply s = replay_unread contents absence fault refused config recording reply.0 a reply.1 reply.2 s
  job_unread (Some (Serve config events reload_ms listen)) a reply s = absurd reply
  job_unread (Some (Gauge config recording)) a reply s = gauge_unread contents absence fault refused config recording reply.0 a reply.1 reply.2 s
  job_unread (Some (GaugeServe config events listen)) a reply s = absurd reply
  job_unread (Some (Bench hosts)) a is s = let at = ap (λ (b : Answer). b.status) is in absurd (omega (arith, at, s))
  job_unread (Some (Trace config recording dp port frame)) a reply s = follow_unread hows.Trace contents absence fault (traced_by config recording dp port frame) refused reply.0 a reply.1 reply.2 s
  job_unread (Some (Walk config recording dp port frame)) a reply s = follow_unread hows.Walk contents absence fault (traced_by config recording dp port frame) refused reply.0 a reply.1 reply.2 s
  job_unread (Some (Bgp config router recording)) a reply s = bgp_unread contents absence fault refused config router recording reply.0 a reply.1 reply.2 s
  job_unread (Some (BgpServe config router events listen)) a reply s = absurd reply

-- ---- what is replied, where the files are told

module _ (held : Contents) (absence fault : Type 0) (refused : List ℕ) where
  abbrev given : List ℕ → Load
  given name = loaded (held 0) name

  abbrev IsLoaded : File → Type 0
  IsLoaded file = Loads (Some held) absence fault refused file.0 file.1

  abbrev named : List File → List File
  named files = map (λ name. (name, given name)) (map (λ file. file.0) files)

  same : (a b : Answer) → a ≡ b → AnswersSoFar a b fault
  same a b is = inl is

  -- the refusal that the files give is told; the others end the run
  refused_told : (config name : List ℕ) (why : LoadRefused) → Loads (Some held) absence fault refused name (Err why) → (whole : Load → Answer) → ((e : LoadRefused) → whole (Err e) ≡ refusal config e)
      → AnswersSoFar (refusal config why) (whole (given name)) fault
  refused_told config name (Read file) loads whole by = inr ((whole (given name)).out, refl, inr (refl, loads.unread file refl))
  refused_told config name Memory loads whole by = inr ((whole (given name)).out, refl, inl refl)
  refused_told config name (Yaml file at) loads whole by = inl (sym (ap whole (loads.told held refl) ∙ by (Yaml file at)))
  refused_told config name (Conf at) loads whole by = inl (sym (ap whole (loads.told held refl) ∙ by (Conf at)))
  refused_told config name (IncludeTwice file) loads whole by = inl (sym (ap whole (loads.told held refl) ∙ by (IncludeTwice file)))
  refused_told config name (IncludeDepth file) loads whole by = inl (sym (ap whole (loads.told held refl) ∙ by (IncludeDepth file)))
  refused_told config name (Absent file) loads whole by = inl (sym (ap whole (loads.told held refl) ∙ by (Absent file)))

  behind_told : (bytes : List ℕ) (a b : Answer) → AnswersSoFar a b fault → AnswersSoFar (behind_bytes bytes a) (behind_bytes bytes b) fault
  behind_told bytes a b (inl is) = inl (ap (behind_bytes bytes) is)
  behind_told bytes a b (inr ends) = inr (ends.0, ap (λ more. bytes ++ more) ends.1 ∙ sym (append_assoc bytes a.out ends.0), ends.2)

  check_told : (files : List File) → AllByRecursion IsLoaded files → AnswersSoFar (check_answer files) (check_answer (named files)) fault
  check_told [] all = inl refl
  check_told ((name, Ok conf) ∷ files) all =
      subst (λ (l : Load). AnswersSoFar (behind_bytes (json_line conf) (check_answer files)) (check_step name l (check_answer (named files))) fault)
      (sym ((all.0).told held refl))
      (behind_told (json_line conf) (check_answer files) (check_answer (named files)) (check_told files all.1))
  check_told ((name, Err why) ∷ files) all = refused_told name name why all.0 (λ l. check_step name l (check_answer (named files))) (λ e. refl)

  plan_told : (config dp : List ℕ) (made : Load) → Loads (Some held) absence fault refused config made → AnswersSoFar (plan_answer config dp (planned dp made)) (plan_answer config dp (planned dp (given config))) fault
  plan_told config dp (Ok conf) loads = inl (sym (ap (λ (l : Load). plan_answer config dp (planned dp l)) (loads.told held refl)))
  plan_told config dp (Err why) loads = refused_told config config why loads (λ l. plan_answer config dp (planned dp l)) (λ e. refl)

  check_reply_told : (names : List (List ℕ)) (a : Answer) → RepliesJob (Some (Check names)) (Some held) absence fault refused a
      → AnswersSoFar a (check_answer (map (λ name. (name, given name)) names)) fault
  check_reply_told names a reply =
      subst (λ (ns : List (List ℕ)). AnswersSoFar a (check_answer (map (λ name. (name, given name)) ns)) fault) (reply.1).0
      (subst (λ (b : Answer). AnswersSoFar b (check_answer (named reply.0)) fault) (sym reply.2) (check_told reply.0 (reply.1).1))

  plan_reply_told : (config dp : List ℕ) (a : Answer) → RepliesJob (Some (Plan config dp)) (Some held) absence fault refused a
      → AnswersSoFar a (plan_answer config dp (planned dp (given config))) fault
  plan_reply_told config dp a reply =
      subst (λ (b : Answer). AnswersSoFar b (plan_answer config dp (planned dp (given config))) fault) (sym reply.2) (plan_told config dp reply.0 reply.1)

  -- an answer that a job has is this one
  is_whole : (a x whole : Answer) → Some x ≡ Some whole → AnswersSoFar a x fault → AnswersSoFar a whole fault
  is_whole a x whole is told = subst (λ (b : Answer). AnswersSoFar a b fault) (ap (λ (o : Option Answer). unwrap_or o usage) is) told

  job_told : (job : Option Job) (a whole : Answer) → job_answer job given ≡ Some whole → RepliesJob job (Some held) absence fault refused a → AnswersSoFar a whole fault
  job_told None a whole is reply = is_whole a usage whole is (inl reply)
  job_told (Some (Check names)) a whole is reply = is_whole a (check_answer (map (λ name. (name, given name)) names)) whole is (check_reply_told names a reply)
  job_told (Some (Plan config dp)) a whole is reply = is_whole a (plan_answer config dp (planned dp (given config))) whole is (plan_reply_told config dp a reply)
  job_told (Some (Replay config recording)) a whole is reply = absurd cc
  job_told (Some (Serve config events reload_ms listen)) a whole is reply = absurd reply
  job_told (Some (Gauge config recording)) a whole is reply = absurd cc
  job_told (Some (GaugeServe config events listen)) a whole is reply = absurd reply
  job_told (Some (Bench hosts)) a whole is reply = is_whole a (bench_answer (measured hosts)) whole is (inl reply)
  job_told (Some (Trace config recording dp port frame)) a whole is reply = absurd cc
  job_told (Some (Walk config recording dp port frame)) a whole is reply = absurd cc
  job_told (Some (Bgp config router recording)) a whole is reply = absurd cc
  job_told (Some (BgpServe config router events listen)) a whole is reply = absurd reply

  pub told_replied : (job : Option Job) (a whole : Answer) → job_answer job given ≡ Some whole → Replies job (Some held) absence fault refused a → AnswersSoFar a whole fault
  told_replied job a whole is (inl reply) = job_told job a whole is reply
  told_replied job a whole is (inr memory) = inr (whole.out, ap (λ (b : Answer). b.out ++ whole.out) (sym memory), inl (ap (λ (b : Answer). b.status) memory))

  status_told : (a b : Answer) → AnswersSoFar a b fault → StatusFor a.status (λ n. n ≡ b.status) fault
  status_told a b (inl is) = inl (ap (λ (c : Answer). c.status) is)
  status_told a b (inr (more, front, inl out)) = inr (inr (inl out))
  status_told a b (inr (more, front, inr failed)) = inr (inr (inr failed))

  job_status : (job : Option Job) (a : Answer) → RepliesJob job (Some held) absence fault refused a → StatusFor a.status (IsStatusOf job (held 0)) fault
  job_status None a is = inl (ap (λ (b : Answer). b.status) is)
  job_status (Some (Check names)) a reply = status_told a (check_answer (map (λ name. (name, given name)) names)) (check_reply_told names a reply)
  job_status (Some (Plan config dp)) a reply = status_told a (plan_answer config dp (planned dp (given config))) (plan_reply_told config dp a reply)
  job_status (Some (Replay config recording)) a reply = replay_told held absence fault refused config recording a reply.0 reply.1 reply.2
  job_status (Some (Serve config events reload_ms listen)) a reply = absurd reply
  job_status (Some (Gauge config recording)) a reply = gauge_told held absence fault refused config recording a reply.0 reply.1 reply.2
  job_status (Some (GaugeServe config events listen)) a reply = absurd reply
  job_status (Some (Bench hosts)) a is = inl (ap (λ (b : Answer). b.status) is)
  job_status (Some (Trace config recording dp port frame)) a reply = follow_told hows.Trace held absence fault (traced_by config recording dp port frame) refused reply.0 a reply.1 reply.2
  job_status (Some (Walk config recording dp port frame)) a reply = follow_told hows.Walk held absence fault (traced_by config recording dp port frame) refused reply.0 a reply.1 reply.2
  job_status (Some (Bgp config router recording)) a reply = bgp_told held absence fault refused config router recording a reply.0 reply.1 reply.2
  job_status (Some (BgpServe config router events listen)) a reply = absurd reply

  reply_status : (job : Option Job) (a : Answer) → Replies job (Some held) absence fault refused a → StatusFor a.status (IsStatusOf job (held 0)) fault
  reply_status job a (inl reply) = job_status job a reply
  reply_status job a (inr memory) = inr (inr (inl (ap (λ (b : Answer). b.status) memory)))

  -- ---- the commands

  accepted_all : (files : List File) → AllByRecursion IsLoaded files → (check_answer files).status ≡ 0
      → (confs : List Configuration) × (map given (map (λ file. file.0) files) ≡ map Ok confs) × ((check_answer files).out ≡ flat_map json_line confs)
  accepted_all [] all s = ([], refl, refl)
  accepted_all ((name, Ok conf) ∷ files) all s =
      let more = accepted_all files all.1 s in
      (conf ∷ more.0, rw ((all.0).told held refl, more.1) refl, ap (λ l. json_line conf ++ l) more.2)
  accepted_all ((name, Err why) ∷ files) all s = absurd (refusal_undone name why s)

  check_accepted : (names : List (List ℕ)) (a : Answer) (before after : Option (List ℕ)) → RepliesJob (Some (Check names)) (Some held) absence fault refused a → a.status ≡ 0 → after ≡ appended before a.out
      → AreAccepted names (held 0) before after
  check_accepted names a before after reply s wrote =
      let all = accepted_all reply.0 (reply.1).1 (sym (ap (λ (b : Answer). b.status) reply.2) ∙ s) in
      record {
        confs = all.0;
        accepted = ap (map given) (sym (reply.1).0) ∙ all.1;
        lines = wrote ∙ ap (λ l. appended before l) (ap (λ (b : Answer). b.out) reply.2 ∙ all.2);
      }

  module _ (valid : (held : Held) (name : List ℕ) (conf : Configuration) → loaded held name ≡ Ok conf → IsValid conf)
      (opens : (conf : Configuration) (dp batch : List ℕ) → IsValid conf → opening_of conf dp ≡ Some batch → Opens conf dp batch) where
    plan_opened : (config dp : List ℕ) (made : Load) (before after : Option (List ℕ)) → Loads (Some held) absence fault refused config made
        → (plan_answer config dp (planned dp made)).status ≡ 0 → after ≡ appended before (plan_answer config dp (planned dp made)).out → IsOpened config dp (held 0) before after
    plan_opened config dp (Ok conf) before after loads s wrote = found (opening_of conf dp) refl s wrote
      where
        found : (batch : Option (List ℕ)) → opening_of conf dp ≡ batch → (plan_answer config dp (Ok batch)).status ≡ 0 → after ≡ appended before (plan_answer config dp (Ok batch)).out → IsOpened config dp (held 0) before after
        found (Some batch) is s wrote =
            let accepted = loads.told held refl in
            record { conf = conf; batch = batch; accepted = accepted; written = wrote; opens = opens conf dp batch (valid (held 0) config conf accepted) is }
        found None is s wrote = absurd (omega (arith, s))
    plan_opened config dp (Err why) before after loads s wrote = absurd (refusal_undone config why s)

    job_opened : (config dp : List ℕ) (a : Answer) (before after : Option (List ℕ)) → RepliesJob (Some (Plan config dp)) (Some held) absence fault refused a → a.status ≡ 0 → after ≡ appended before a.out
        → IsOpened config dp (held 0) before after
    job_opened config dp a before after reply s wrote =
        plan_opened config dp reply.0 before after reply.1 (sym (ap (λ (b : Answer). b.status) reply.2) ∙ s) (wrote ∙ ap (λ (b : Answer). appended before b.out) reply.2)

-- ---- what a status says, where a reply was delivered

module _ (job : Option Job) (contents : Option Contents) (absence fault : Type 0) (refused : List ℕ) (status : ℕ) (o0 o1 e0 e1 : Option (List ℕ)) (m0 m1 n0 n1 : ℕ)
    (gives : Gives job contents absence fault refused status o0 o1 e0 e1 m0 m1 n0 n1) where
  a : Answer
  a = gives.0

  ended : (status ≡ (gives.0).status) ⊎ (status ≡ 4)
  ended = elim gives.2 [ inl whole ↦ inl whole.0 | inr front ↦ inr front.0 ]

  -- at a status other than 4 the reply was written whole
  at : (n : ℕ) → status ≡ n → (n ≡ 4 → ⊥) → ((gives.0).status ≡ n) × (o1 ≡ appended o0 (gives.0).out) × (e1 ≡ appended e0 (gives.0).err)
  at n s other = elim gives.2 [ inl whole ↦ (sym whole.0 ∙ s, whole.1, whole.2) | inr front ↦ absurd (other (sym s ∙ front.0)) ]

  memory_status : (gives.0) ≡ out_of_memory → (gives.0).status ≡ 8
  memory_status is = ap (λ (b : Answer). b.status) is

  pub kept : (status ≡ 4 → ⊥) → (m1 ≡ m0) × (n1 ≡ n0)
  kept other = elim gives.2 [ inl whole ↦ (whole.3, whole.4) | inr front ↦ absurd (other front.0) ]

  pub write_fault : status ≡ 4 → Rose m0 m1 ⊎ Rose n0 n1
  write_fault s =
      elim gives.2 [
        | inr front ↦ front.3
        | inl whole ↦ elim gives.1 [
          | inl reply ↦ absurd ((job_inner contents absence fault refused job gives.0 reply).1 (sym whole.0 ∙ s))
          | inr out ↦ let eight = memory_status out in absurd (omega (arith, eight, whole.0, s))
        ]
      ]

  pub no_hub : status ≡ 6 → ⊥
  no_hub s =
      let six = (at 6 s (λ e. omega (arith, e))).0 in
      elim gives.1 [
        | inl reply ↦ (job_inner contents absence fault refused job gives.0 reply).2 six
        | inr out ↦ let eight = memory_status out in omega (arith, eight, six)
      ]

  pub usage_only : status ≡ 1 → job ≡ None
  usage_only s =
      let one = (at 1 s (λ e. omega (arith, e))).0 in
      elim gives.1 [
        | inl reply ↦ (job_inner contents absence fault refused job gives.0 reply).0 one
        | inr out ↦ let eight = memory_status out in absurd (omega (arith, eight, one))
      ]

  pub unread_only : status ≡ 3 → absence ⊎ fault
  unread_only s =
      let three = (at 3 s (λ e. omega (arith, e))).0 in
      elim gives.1 [
        | inl reply ↦ job_unread contents absence fault refused job gives.0 reply three
        | inr out ↦ let eight = memory_status out in absurd (omega (arith, eight, three))
      ]

  pub no_meaning : job ≡ None → (status ≡ 1) ⊎ ((status ≡ 4) ⊎ (status ≡ 8))
  no_meaning none =
      elim ended [
        | inr four ↦ inr (inl four)
        | inl same ↦ elim gives.1 [
          | inl reply ↦ inl (same ∙ ap (λ (b : Answer). b.status) (subst (λ (j : Option Job). RepliesJob j contents absence fault refused gives.0) none reply))
          | inr out ↦ inr (inr (same ∙ memory_status out))
        ]
      ]

  told_reply : (held : Contents) → contents ≡ Some held → Replies job (Some held) absence fault refused gives.0
  told_reply held told = subst (λ (c : Option Contents). Replies job c absence fault refused gives.0) told gives.1

  pub told : (held : Contents) → contents ≡ Some held → StatusFor status (IsStatusOf job (held 0)) fault
  told held is =
      elim ended [
        | inr four ↦ inr (inl four)
        | inl same ↦ subst (λ n. StatusFor n (IsStatusOf job (held 0)) fault) (sym same) (reply_status held absence fault refused job gives.0 (told_reply held is))
      ]

  -- at a status other than 8 memory hasn't run out
  job_reply : (held : Contents) → contents ≡ Some held → (n : ℕ) → (gives.0).status ≡ n → (n ≡ 8 → ⊥) → (j : Option Job) → job ≡ j → RepliesJob j (Some held) absence fault refused gives.0
  job_reply held is n s other j same =
      elim (told_reply held is) [
        | inl reply ↦ subst (λ (k : Option Job). RepliesJob k (Some held) absence fault refused gives.0) same reply
        | inr out ↦ absurd (other (sym s ∙ memory_status out))
      ]

  done_reply : (held : Contents) → contents ≡ Some held → (gives.0).status ≡ 0 → (j : Option Job) → job ≡ j → RepliesJob j (Some held) absence fault refused gives.0
  done_reply held is none j same = job_reply held is 0 none (λ e. omega arith) j same

  pub checked : (names : List (List ℕ)) (held : Contents) → job ≡ Some (Check names) → contents ≡ Some held → status ≡ 0 → AreAccepted names (held 0) o0 o1
  checked names held is told s =
      let done = at 0 s (λ e. omega (arith, e)) in
      check_accepted held absence fault refused names gives.0 o0 o1 (done_reply held told done.0 (Some (Check names)) is) done.0 done.1

  pub opened : ((held : Held) (name : List ℕ) (conf : Configuration) → loaded held name ≡ Ok conf → IsValid conf)
      → ((conf : Configuration) (dp batch : List ℕ) → IsValid conf → opening_of conf dp ≡ Some batch → Opens conf dp batch)
      → (config dp : List ℕ) (held : Contents) → job ≡ Some (Plan config dp) → contents ≡ Some held → status ≡ 0 → IsOpened config dp (held 0) o0 o1
  opened valid opens config dp held is told s =
      let done = at 0 s (λ e. omega (arith, e)) in
      job_opened held absence fault refused valid opens config dp gives.0 o0 o1 (done_reply held told done.0 (Some (Plan config dp)) is) done.0 done.1

  module _ (valid : (held : Held) (name : List ℕ) (conf : Configuration) → loaded held name ≡ Ok conf → IsValid conf)
      (right : (conf : Configuration) (story : List Happening) → IsValid conf → IsRight conf story) where
    pub replayed : (config recording : List ℕ) (held : Contents) → job ≡ Some (Replay config recording) → contents ≡ Some held → status ≡ 0
        → IsReplayed config recording None (held 0) o0 o1 e0 e1
    replayed config recording held is told s =
        let done = at 0 s (λ e. omega (arith, e)) in
        let reply = done_reply held told done.0 (Some (Replay config recording)) is in
        replay_done held absence fault refused config recording o0 o1 e0 e1 gives.0 done.1 done.2 valid right reply.0 reply.1 reply.2 done.0

    pub refused_record : (config recording : List ℕ) (held : Contents) → job ≡ Some (Replay config recording) → contents ≡ Some held → status ≡ 5
        → (why : RecordRefused) × IsReplayed config recording (Some why) (held 0) o0 o1 e0 e1
    refused_record config recording held is told s =
        let five = at 5 s (λ e. omega (arith, e)) in
        let reply = job_reply held told 5 five.0 (λ e. omega arith) (Some (Replay config recording)) is in
        replay_refused held absence fault refused config recording o0 o1 e0 e1 gives.0 five.1 five.2 valid right reply.0 reply.1 reply.2 five.0

  module _ (lines_are : (k : Monitor) (story : List Happening) → out_of monitor outlets.Nowhere k story ≡ joined (gauge_lines k story)) where
    pub watched : (config recording : List ℕ) (held : Contents) → job ≡ Some (Gauge config recording) → contents ≡ Some held → status ≡ 0
        → IsWatched config recording None (held 0) o0 o1 e0 e1
    watched config recording held is told s =
        let done = at 0 s (λ e. omega (arith, e)) in
        let reply = done_reply held told done.0 (Some (Gauge config recording)) is in
        gauge_done held absence fault refused config recording o0 o1 e0 e1 gives.0 done.1 done.2 lines_are reply.0 reply.1 reply.2 done.0

    pub watched_to : (config recording : List ℕ) (held : Contents) → job ≡ Some (Gauge config recording) → contents ≡ Some held → status ≡ 5
        → (why : RecordRefused) × IsWatched config recording (Some why) (held 0) o0 o1 e0 e1
    watched_to config recording held is told s =
        let five = at 5 s (λ e. omega (arith, e)) in
        let reply = job_reply held told 5 five.0 (λ e. omega arith) (Some (Gauge config recording)) is in
        gauge_refused held absence fault refused config recording o0 o1 e0 e1 gives.0 five.1 five.2 lines_are reply.0 reply.1 reply.2 five.0

  pub spoken : EachIsAccepted → (config router recording : List ℕ) (held : Contents) → job ≡ Some (Bgp config router recording) → contents ≡ Some held → status ≡ 0
      → IsSpoken config router recording None (held 0) o0 o1 e0 e1
  spoken each config router recording held is told s =
      let done = at 0 s (λ e. omega (arith, e)) in
      let reply = done_reply held told done.0 (Some (Bgp config router recording)) is in
      bgp_done held absence fault refused config router recording o0 o1 e0 e1 gives.0 done.1 done.2 each reply.0 reply.1 reply.2 done.0

  pub spoken_to : EachIsAccepted → (config router recording : List ℕ) (held : Contents) → job ≡ Some (Bgp config router recording) → contents ≡ Some held → status ≡ 5
      → (why : RecordRefused) × IsSpoken config router recording (Some why) (held 0) o0 o1 e0 e1
  spoken_to each config router recording held is told s =
      let five = at 5 s (λ e. omega (arith, e)) in
      let reply = job_reply held told 5 five.0 (λ e. omega arith) (Some (Bgp config router recording)) is in
      bgp_refused held absence fault refused config router recording o0 o1 e0 e1 gives.0 five.1 five.2 each reply.0 reply.1 reply.2 five.0

  pub story_measured : ((conf : Configuration) (story : List Happening) → IsValid conf → IsRight conf story) → IsValid configuration
      → (hosts : ℕ) → job ≡ Some (Bench hosts) → status ≡ 0 → IsMeasured hosts o0 o1
  story_measured right valid hosts is s =
      let done = at 0 s (λ e. omega (arith, e)) in
      elim gives.1 [
        | inl reply ↦ let same : gives.0 ≡ bench_answer (measured hosts) = subst (λ (j : Option Job). RepliesJob j contents absence fault refused gives.0) is reply in
            record { written = done.1 ∙ ap (λ (b : Answer). appended o0 b.out) same; right = λ front is_front. right configuration front valid }
        | inr out ↦ let eight = memory_status out in absurd (omega (arith, eight, done.0))
      ]

  -- the reply to a job that follows a frame
  loaded_reply : (how : How) (traced : Traced) (held : Contents) (b : Answer) → RepliesJob (Some (job_for how traced)) (Some held) absence fault refused b
      → RepliesLoaded how (Some held) absence fault refused traced b
  loaded_reply hows.Trace traced held b reply = reply
  loaded_reply hows.Walk traced held b reply = reply

  module _ (valid : (held : Held) (name : List ℕ) (conf : Configuration) → loaded held name ≡ Ok conf → IsValid conf)
      (right : (conf : Configuration) (story : List Happening) → IsValid conf → IsRight conf story)
      (how : How) (traced : Traced) (held : Contents) (is : job ≡ Some (job_for how traced)) (is_told : contents ≡ Some held) where
    pub frame_followed : status ≡ 0 → (lines : List ℕ) × IsFollowed how traced (held 0) (Lines lines) o0 o1 e0 e1
    frame_followed s =
        let done = at 0 s (λ e. omega (arith, e)) in
        let reply = loaded_reply how traced held gives.0 (done_reply held is_told done.0 (Some (job_for how traced)) is) in
        lines_shown (follow_shown how held absence fault traced valid right refused o0 o1 e0 e1 gives.0 0 reply done.0 (inl refl) done.1 done.2)
      where
        lines_shown : (s : Shown) × ((shown_answer traced.config s).status ≡ 0) × IsFollowed how traced (held 0) s o0 o1 e0 e1 → (lines : List ℕ) × IsFollowed how traced (held 0) (Lines lines) o0 o1 e0 e1
        lines_shown (Lines lines, at, followed) = (lines, followed)
        lines_shown (NotReady name, at, followed) = absurd (omega (arith, at))

    pub frame_waits : status ≡ 9 → (name : List ℕ) × IsFollowed how traced (held 0) (NotReady name) o0 o1 e0 e1
    frame_waits s =
        let nine = at 9 s (λ e. omega (arith, e)) in
        let reply = loaded_reply how traced held gives.0 (job_reply held is_told 9 nine.0 (λ e. omega arith) (Some (job_for how traced)) is) in
        name_shown (follow_shown how held absence fault traced valid right refused o0 o1 e0 e1 gives.0 9 reply nine.0 (inr refl) nine.1 nine.2)
      where
        name_shown : (s : Shown) × ((shown_answer traced.config s).status ≡ 9) × IsFollowed how traced (held 0) s o0 o1 e0 e1 → (name : List ℕ) × IsFollowed how traced (held 0) (NotReady name) o0 o1 e0 e1
        name_shown (Lines lines, at, followed) = absurd (omega (arith, at))
        name_shown (NotReady name, at, followed) = (name, followed)

    pub frame_cut : status ≡ 5 → (why : RecordRefused) × IsCutShort traced why (held 0) o0 o1 e0 e1
    frame_cut s =
        let five = at 5 s (λ e. omega (arith, e)) in
        let reply = loaded_reply how traced held gives.0 (job_reply held is_told 5 five.0 (λ e. omega arith) (Some (job_for how traced)) is) in
        follow_cut how held absence fault traced valid right refused o0 o1 e0 e1 gives.0 reply five.0 five.1 five.2

-- ---- the reply that was given

module _ (contents : Option Contents) (absence fault : Type 0) (refused : List ℕ) (o0 o1 e0 e1 : Option (List ℕ)) (m0 m1 n0 n1 : ℕ) where
  -- the line of usage was the whole reply
  pub usage_given : (job : Option Job) (ended : Status) → job ≡ None → Ends statuses.Usage usage.err e0 e1 n0 n1 ended
      → Gives job contents absence fault refused (number_of_status ended) o0 o0 e0 e1 m0 m0 n0 n1
  usage_given job ended none ends = (
    usage,
    inl (subst (λ (j : Option Job). RepliesJob j contents absence fault refused usage) (sym none) refl),
    line_delivered [] o0 o0 e0 e1 m0 m0 n0 n1 usage statuses.Usage ended refl refl ends,
  )

  pub plan_given : (status : ℕ) (config dp : List ℕ) (made : Result (Option (List ℕ)) LoadRefused) → ((load : Load) × Loads contents absence fault refused config load × (made ≡ planned dp load))
      → Delivers (plan_answer config dp made) status o0 o1 e0 e1 m0 m1 n0 n1 → Gives (Some (Plan config dp)) contents absence fault refused status o0 o1 e0 e1 m0 m1 n0 n1
  plan_given status config dp made load delivers = (plan_answer config dp made, inl (load.0, load.1, ap (plan_answer config dp) load.2), delivers)

  pub check_given : (status : ℕ) (names : List (List ℕ)) → Checks contents absence fault refused names status o0 o1 e0 e1 m0 m1 n0 n1
      → Gives (Some (Check names)) contents absence fault refused status o0 o1 e0 e1 m0 m1 n0 n1
  check_given status names checks = (check_answer checks.0, inl (checks.0, checks.1, refl), checks.2)
