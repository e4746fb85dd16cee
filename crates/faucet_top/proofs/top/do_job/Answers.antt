use Rattle.std.proofs.Common.{◌≡◌, Some, ap, ◌∙◌, arith}
use Rattle.std.proofs.lemmas.Grind.{common_steps}
use Rattle.command_line.specs.declared.meaning.Job.{Job}
use Rattle.command_line.specs.declared.meaning.Job.TheVariants.{Check, Gauge, Plan, Replay}
use Rattle.conf_gather.specs.declared.refused.LoadRefused.TheVariants.{Read}
use Rattle.conf_load.specs.Loaded.{loaded}
use Rattle.gauge_load.specs.Loaded.{gauge_of}
use Rattle.ctl_world.specs.World.{first}
use Rattle.gauge_poll.specs.Monitoring.{begun}
use Rattle.faucet_top.specs.Status.{number_of_status}
use Rattle.faucet_top.proofs.CheckLemmas.{refused, refused_loads}
use Rattle.faucet_top.proofs.ReadLemmas.{no_read_planned, no_read_refused, refusal_named, refused_by}
use Rattle.faucet_top.proofs.ReplyLemmas.{gauge_given, gauge_refusal_given, refusal_given, replay_given}
use Rattle.faucet_top.proofs.TopLemmas.{check_given, plan_given}
use Rattle.faucet_top.proofs.top.do_job.Goals as goal

pub returns-in-Check-clause-gives : goal.returns-in-Check-clause-gives
returns-in-Check-clause-gives g c =
    let is : c.args.job.now ≡ Check c.in-Check.names = grind (arith, common_steps) in
    rw is (check_given (g.F.Files.contents c.args.files) _ _ _ _ _ _ _ _ _ _ _ (number_of_status c.check_files-status.result) c.in-Check.names (rw c.as_slice.ensures at c.check_files-status.ensures.checked))

pub returns-in-Plan-clause-gives : goal.returns-in-Plan-clause-gives
returns-in-Plan-clause-gives g c =
    let is : c.args.job.now ≡ Plan c.in-Plan.config c.in-Plan.dp = grind (arith, common_steps) in
    rw is (plan_given (g.F.Files.contents c.args.files) _ _ _ _ _ _ _ _ _ _ _ (number_of_status c.deliver_plan-status.result) c.in-Plan.config c.in-Plan.dp c.make_plan-made.result
    (rw (c.as_str.ensures, c.as_str-in-Plan.ensures) at c.make_plan-made.ensures.made) (rw (c.as_str-in-Plan-2.ensures, c.as_str-in-Plan-3.ensures) at c.deliver_plan-status.ensures.answer))

pub returns-in-Plan-clause-no_read_fault : goal.returns-in-Plan-clause-no_read_fault
returns-in-Plan-clause-no_read_fault g c = λ unread written below.
    c.make_plan-made.ensures.no_read_fault (no_read_planned _ _ c.make_plan-made.result c.deliver_plan-status.result _ _ _ _ _ _ _ _ c.deliver_plan-status.ensures.answer unread written)

pub returns-in-Ok-clause-gives : goal.returns-in-Ok-clause-gives
returns-in-Ok-clause-gives g c =
    let is : c.args.job.now ≡ Replay c.in-Replay.config c.in-Replay.recording = grind (arith, common_steps) in
    let did = c.run_recording.ensures in
    rw is (replay_given (g.F.Files.contents c.args.files) _ _ _ _ _ _ c.in-Ok.ensures.files.counted_absences c.in-Ok.ensures.files.counted_faults _ _ _ _ _ _ _ _ _ _ c.in-Replay.config c.in-Replay.recording c.in-Ok.conf
    (rw c.as_str-in-Replay.ensures at c.in-Ok.ensures.told)
    (rw c.in-Ok.ensures.files.same_contents at (did.gives (first c.in-Ok.conf) c.new-machine.ensures)))

pub returns-in-Ok-clause-no_read_fault : goal.returns-in-Ok-clause-no_read_fault
returns-in-Ok-clause-no_read_fault g c = λ unread written below.
    let kept = c.in-Ok.ensures.files.no_fault (λ file is. absurd cc) in
    c.run_recording.ensures.no_read_fault unread written (rw kept below) ∙ kept

pub returns-in-Err-clause-gives : goal.returns-in-Err-clause-gives
returns-in-Err-clause-gives g c =
    let is : c.args.job.now ≡ Replay c.in-Replay.config c.in-Replay.recording = grind (arith, common_steps) in
    rw is (refusal_given (g.F.Files.contents c.args.files) _ _ _ (g.O.Sink.wrote c.args.out.now) (g.O.Sink.wrote c.args.out.now) _ _ (g.O.Sink.faults c.args.out.now) (g.O.Sink.faults c.args.out.now) _ _ c.in-Replay.config c.in-Replay.recording c.in-Err.why _
    (refused c.in-Replay.config (g.O.Sink.wrote c.args.out.now) (g.O.Sink.wrote c.args.out.now) _ _ (g.O.Sink.faults c.args.out.now) (g.O.Sink.faults c.args.out.now) _ _ c.in-Err.why c.deliver_refusal.result (rw c.as_str-in-Err.ensures at c.deliver_refusal.ensures.ends))
    (refused_loads loaded _ _ _ _ _ _ _ c.in-Err.why (rw c.as_str-in-Replay.ensures at c.in-Err.ensures.told) c.in-Err.ensures.files))

pub returns-in-Err-clause-no_read_fault : goal.returns-in-Err-clause-no_read_fault
returns-in-Err-clause-no_read_fault g c = λ unread written below.
    c.in-Err.ensures.files.no_fault (λ file is. no_read_refused _ _ _ _ _ c.deliver_refusal.result unread written c.in-Err.why c.deliver_refusal.ensures.ends file (refused_by c.in-Err.why (Read file) is))

pub returns-in-Ok-load_gauge-clause-gives : goal.returns-in-Ok-load_gauge-clause-gives
returns-in-Ok-load_gauge-clause-gives g c =
    let is : c.args.job.now ≡ Gauge c.in-Gauge.config c.in-Gauge.recording = grind (arith, common_steps) in
    let did = c.run_recording-in-Ok-load_gauge.ensures in
    rw is (gauge_given (g.F.Files.contents c.args.files) _ _ _ _ _ _ c.in-Ok-load_gauge.ensures.files.counted_absences c.in-Ok-load_gauge.ensures.files.counted_faults _ _ _ _ _ _ _ _ _ _ c.in-Gauge.config c.in-Gauge.recording c.in-Ok-load_gauge.conf
    (rw c.as_str-in-Gauge.ensures at c.in-Ok-load_gauge.ensures.told)
    (rw c.in-Ok-load_gauge.ensures.files.same_contents at (did.gives (begun c.in-Ok-load_gauge.conf) c.new-machine-in-Ok-load_gauge.ensures)))

pub returns-in-Ok-load_gauge-clause-no_read_fault : goal.returns-in-Ok-load_gauge-clause-no_read_fault
returns-in-Ok-load_gauge-clause-no_read_fault g c = λ unread written below.
    let kept = c.in-Ok-load_gauge.ensures.files.no_fault (λ file is. absurd cc) in
    c.run_recording-in-Ok-load_gauge.ensures.no_read_fault unread written (rw kept below) ∙ kept

pub returns-in-Err-load_gauge-clause-gives : goal.returns-in-Err-load_gauge-clause-gives
returns-in-Err-load_gauge-clause-gives g c =
    let is : c.args.job.now ≡ Gauge c.in-Gauge.config c.in-Gauge.recording = grind (arith, common_steps) in
    rw is (gauge_refusal_given (g.F.Files.contents c.args.files) _ _ _ (g.O.Sink.wrote c.args.out.now) (g.O.Sink.wrote c.args.out.now) _ _ (g.O.Sink.faults c.args.out.now) (g.O.Sink.faults c.args.out.now) _ _ c.in-Gauge.config c.in-Gauge.recording c.in-Err-load_gauge.why _
    (refused c.in-Gauge.config (g.O.Sink.wrote c.args.out.now) (g.O.Sink.wrote c.args.out.now) _ _ (g.O.Sink.faults c.args.out.now) (g.O.Sink.faults c.args.out.now) _ _ c.in-Err-load_gauge.why c.deliver_refusal-in-Err-load_gauge.result (rw c.as_str-in-Err-load_gauge.ensures at c.deliver_refusal-in-Err-load_gauge.ensures.ends))
    (refused_loads gauge_of _ _ _ _ _ _ _ c.in-Err-load_gauge.why (rw c.as_str-in-Gauge.ensures at c.in-Err-load_gauge.ensures.told) c.in-Err-load_gauge.ensures.files))

pub returns-in-Err-load_gauge-clause-no_read_fault : goal.returns-in-Err-load_gauge-clause-no_read_fault
returns-in-Err-load_gauge-clause-no_read_fault g c = λ unread written below.
    c.in-Err-load_gauge.ensures.files.no_fault (λ file is. no_read_refused _ _ _ _ _ c.deliver_refusal-in-Err-load_gauge.result unread written c.in-Err-load_gauge.why c.deliver_refusal-in-Err-load_gauge.ensures.ends file (refused_by c.in-Err-load_gauge.why (Read file) is))

pub returns-in-Bench-clause-gives : goal.returns-in-Bench-clause-gives
returns-in-Bench-clause-gives g c =
    rw c.in-Bench.is c.measure_story-status.ensures.gives

pub unreachable-requires : goal.unreachable-requires
unreachable-requires g c = c.requires.local.0 c.in-Serve.config c.in-Serve.events c.in-Serve.reload_ms c.in-Serve.listen (ap (λ (j : Job). Some j) c.in-Serve.is)

pub unreachable-requires-in-GaugeServe : goal.unreachable-requires-in-GaugeServe
unreachable-requires-in-GaugeServe g c = c.requires.local.1 c.in-GaugeServe.config c.in-GaugeServe.events c.in-GaugeServe.listen (ap (λ (j : Job). Some j) c.in-GaugeServe.is)

pub returns-in-Bench-clause-named : goal.returns-in-Bench-clause-named
returns-in-Bench-clause-named g c = λ reads. absurd (rw c.in-Bench.is at reads)

pub returns-in-Check-clause-named : goal.returns-in-Check-clause-named
returns-in-Check-clause-named g c = λ reads.
    let is : c.args.job.now ≡ Check c.in-Check.names = grind (arith, common_steps) in
    absurd (rw is at reads)

pub returns-in-Plan-clause-named : goal.returns-in-Plan-clause-named
returns-in-Plan-clause-named g c = λ reads.
    let is : c.args.job.now ≡ Plan c.in-Plan.config c.in-Plan.dp = grind (arith, common_steps) in
    absurd (rw is at reads)

pub returns-in-Ok-clause-named : goal.returns-in-Ok-clause-named
returns-in-Ok-clause-named g c = λ reads unread below.
    let kept = c.in-Ok.ensures.files.no_fault (λ file is. absurd cc) in
    c.run_recording.ensures.named (first c.in-Ok.conf) c.new-machine.ensures unread (rw kept below)

pub returns-in-Err-clause-named : goal.returns-in-Err-clause-named
returns-in-Err-clause-named g c = λ reads unread below.
    refusal_named loaded _ _ _ _ c.in-Replay.config _ _ _ _ c.deliver_refusal.result unread c.in-Err.why
    (refused_loads loaded _ _ _ _ _ _ _ c.in-Err.why (rw c.as_str-in-Replay.ensures at c.in-Err.ensures.told) c.in-Err.ensures.files) (rw c.as_str-in-Err.ensures at c.deliver_refusal.ensures.ends)

pub returns-in-Ok-load_gauge-clause-named : goal.returns-in-Ok-load_gauge-clause-named
returns-in-Ok-load_gauge-clause-named g c = λ reads unread below.
    let kept = c.in-Ok-load_gauge.ensures.files.no_fault (λ file is. absurd cc) in
    c.run_recording-in-Ok-load_gauge.ensures.named (begun c.in-Ok-load_gauge.conf) c.new-machine-in-Ok-load_gauge.ensures unread (rw kept below)

pub returns-in-Err-load_gauge-clause-named : goal.returns-in-Err-load_gauge-clause-named
returns-in-Err-load_gauge-clause-named g c = λ reads unread below.
    refusal_named gauge_of _ _ _ _ c.in-Gauge.config _ _ _ _ c.deliver_refusal-in-Err-load_gauge.result unread c.in-Err-load_gauge.why
    (refused_loads gauge_of _ _ _ _ _ _ _ c.in-Err-load_gauge.why (rw c.as_str-in-Gauge.ensures at c.in-Err-load_gauge.ensures.told) c.in-Err-load_gauge.ensures.files) (rw c.as_str-in-Err-load_gauge.ensures at c.deliver_refusal-in-Err-load_gauge.ensures.ends)

pub follow_frame-requires : goal.follow_frame-requires
follow_frame-requires g c = record { typed = rw c.in-Trace.is at c.requires.frame }

pub follow_frame-requires-in-Walk : goal.follow_frame-requires-in-Walk
follow_frame-requires-in-Walk g c = record { typed = rw c.in-Walk.is at c.requires.frame }

pub returns-in-Trace-clause-gives : goal.returns-in-Trace-clause-gives
returns-in-Trace-clause-gives g c = rw c.in-Trace.is c.follow_frame.ensures.gives

pub returns-in-Walk-clause-gives : goal.returns-in-Walk-clause-gives
returns-in-Walk-clause-gives g c = rw c.in-Walk.is c.follow_frame-in-Walk.ensures.gives

pub unreachable-requires-in-BgpServe : goal.unreachable-requires-in-BgpServe
unreachable-requires-in-BgpServe g c = c.requires.local.2 c.in-BgpServe.config c.in-BgpServe.router c.in-BgpServe.events c.in-BgpServe.listen (ap (λ (j : Job). Some j) c.in-BgpServe.is)

pub returns-in-Bgp-clause-gives : goal.returns-in-Bgp-clause-gives
returns-in-Bgp-clause-gives g c = rw c.in-Bgp.is (rw (c.as_str-config.ensures, c.as_str-router.ensures) at c.speak_on_recording.ensures.gives)
