use Rattle.std.proofs.Common.{◌≡◌, true, false, arith}
use Rattle.std.proofs.lemmas.Grind.{common_steps}
use Rattle.ctl_world.specs.World.{first}
use Rattle.ctl_core.specs.Story.{behind}
use Rattle.ctl_drive.specs.Controller.{StandsFor}
use Rattle.trace_story.specs.Followed.{is_whole}
use Rattle.trace_story.specs.Shown.{shown}
use Rattle.trace_story.proofs.Behind.{ended_back, ends, showed, showed_back, whole}
use Rattle.trace_story.proofs.following.follow.Goals as goal

pub returns-then-not-is_whole-clause-follows : goal.returns-then-not-is_whole-clause-follows
returns-then-not-is_whole-clause-follows g c =
    let other : is_whole c.run_still-replayed.result.0 ≡ false = grind (arith, common_steps) in
    ends (g.F.Files.contents c.args.files) c.args.recording.now _ _ c.args.conf (λ w. StandsFor c.run_still-replayed.new.machine w) c.run_still-replayed.result.0 other
    (rw c.in-Ok-copy.ensures at (c.run_still-replayed.ensures.ended (first c.args.conf) c.in-Ok.ensures))

pub returns-then-not-is_whole-clause-back : goal.returns-then-not-is_whole-clause-back
returns-then-not-is_whole-clause-back g c =
    ended_back g.F.Files.contents g.F.Files.faults g.F.Files.absences g.F.Files.refused c.args.recording.now c.args.files c.run_still-replayed.result.1 c.run_still-replayed.result.0
    (rw c.in-Ok-copy.ensures at c.run_still-replayed.ensures.back)

pub returns-clause-follows : goal.returns-clause-follows
returns-clause-follows g c =
    let is : is_whole c.run_still-replayed.result.0 ≡ true = grind (arith, common_steps) in
    showed (g.F.Files.contents c.args.files) c.args.recording.now _ _ c.args.conf (λ w. StandsFor c.run_still-replayed.new.machine w) c.args.how c.args.dp.now c.args.port c.args.packet.now c.run_still-replayed.result.0 is
    (rw c.in-Ok-copy.ensures at (c.run_still-replayed.ensures.ended (first c.args.conf) c.in-Ok.ensures)) c.show_behind-followed.result
    (λ w stands. rw c.as_str.ensures at (c.show_behind-followed.ensures w stands))

pub returns-clause-back : goal.returns-clause-back
returns-clause-back g c =
    let is : is_whole c.run_still-replayed.result.0 ≡ true = grind (arith, common_steps) in
    let known = whole (g.F.Files.contents c.args.files) c.args.recording.now _ _ c.args.conf (λ w. StandsFor c.run_still-replayed.new.machine w) c.run_still-replayed.result.0 is
    (rw c.in-Ok-copy.ensures at (c.run_still-replayed.ensures.ended (first c.args.conf) c.in-Ok.ensures)) in
    showed_back g.F.Files.contents g.F.Files.faults g.F.Files.absences g.F.Files.refused c.args.recording.now c.args.files c.run_still-replayed.result.1 c.run_still-replayed.result.0
    (shown c.args.how (behind (first c.args.conf) known.0) c.args.dp.now c.args.port c.args.packet.now) c.show_behind-followed.result is
    (rw c.as_str.ensures at (c.show_behind-followed.ensures (behind (first c.args.conf) known.0) known.2)) (rw c.in-Ok-copy.ensures at c.run_still-replayed.ensures.back)
