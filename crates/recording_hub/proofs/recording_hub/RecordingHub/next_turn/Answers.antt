use Rattle.std.proofs.Common.{refl, ap, arith}
use Rattle.fg_outside.specs.declared.hub.Turn.TheVariants.{Done, Happened, Memory}
use Rattle.fg_outside.specs.HubStep.{turned}
use Rattle.fg_outside.proofs.LineLemmas.{on_err}
use Rattle.recording_hub.specs.RecordingHub.{hub_in, in_vain, lost}
use Rattle.recording_hub.proofs.Going.{counts_failed, counts_hub, counts_on, counts_same, goes_by, goes_still, rests_still}
use Rattle.recording_hub.proofs.recording_hub.RecordingHub.next_turn.Goals as goal

pub returns-then-is_broken-clause-along : goal.returns-then-is_broken-clause-along
returns-then-is_broken-clause-along g c = goes_still g.H.Hub.may c.args.self.now c.fail.new.self (ap hub_in c.fail.ensures.counted)

pub returns-then-is_broken-clause-faults : goal.returns-then-is_broken-clause-faults
returns-then-is_broken-clause-faults g c = counts_on g.H.Hub.faults c.args.self.now c.fail.new.self c.args.self.now.hub (ap hub_in c.fail.ensures.counted) (omega arith) c.fail.ensures.rises

pub returns-then-is_broken-2-clause-along : goal.returns-then-is_broken-2-clause-along
returns-then-is_broken-2-clause-along g c = goes_by g.H.Hub.may c.args.self.now c.fail-then-is_broken-2.new.self (turned c.turn.result) c.turn.new.self (ap hub_in c.fail-then-is_broken-2.ensures.counted) c.turn.ensures.step

pub returns-then-is_broken-2-clause-faults : goal.returns-then-is_broken-2-clause-faults
returns-then-is_broken-2-clause-faults g c = counts_on g.H.Hub.faults c.args.self.now c.fail-then-is_broken-2.new.self c.turn.new.self (ap hub_in c.fail-then-is_broken-2.ensures.counted) c.turn.ensures.faults c.fail-then-is_broken-2.ensures.rises

pub returns-in_err-note-in-Happened-clause-along : goal.returns-in_err-note-in-Happened-clause-along
returns-in_err-note-in-Happened-clause-along g c = goes_by g.H.Hub.may c.args.self.now _ (turned c.turn.result) c.turn.new.self refl c.turn.ensures.step

pub returns-else-is_broken-2-clause-along : goal.returns-else-is_broken-2-clause-along
returns-else-is_broken-2-clause-along g c = goes_by g.H.Hub.may c.args.self.now _ (turned c.turn.result) c.turn.new.self refl c.turn.ensures.step

pub returns-in-Done-clause-along : goal.returns-in-Done-clause-along
returns-in-Done-clause-along g c = goes_by g.H.Hub.may c.args.self.now _ (turned c.turn.result) c.turn.new.self refl c.turn.ensures.step

pub returns-in-Failed-clause-along : goal.returns-in-Failed-clause-along
returns-in-Failed-clause-along g c = goes_by g.H.Hub.may c.args.self.now _ (turned c.turn.result) c.turn.new.self refl c.turn.ensures.step

pub returns-in-Memory-clause-along : goal.returns-in-Memory-clause-along
returns-in-Memory-clause-along g c = goes_by g.H.Hub.may c.args.self.now _ (turned c.turn.result) c.turn.new.self refl c.turn.ensures.step

pub returns-in_err-note-in-Happened-clause-asked : goal.returns-in_err-note-in-Happened-clause-asked
returns-in_err-note-in-Happened-clause-asked g c = on_err _ (lost c.in-Happened.it c.in-Happened.ensures.step)

pub returns-in-Memory-clause-asked : goal.returns-in-Memory-clause-asked
returns-in-Memory-clause-asked g c = in_vain c.in-Memory.ensures.step

pub returns-in-Memory-clause-rests : goal.returns-in-Memory-clause-rests
returns-in-Memory-clause-rests g c = rests_still g.S.Sink.wrote c.args.self.now.recorder

pub returns-then-is_broken-clause-counts : goal.returns-then-is_broken-clause-counts
returns-then-is_broken-clause-counts g c =
    counts_failed g.H.Hub.faults g.S.Sink.faults c.args.self.now c.fail.new.self (turned c.fail.result) (ap (λ h. g.H.Hub.faults (hub_in h)) c.fail.ensures.counted) (grind arith)
    (omega (arith, ap (λ h. g.S.Sink.faults h.recorder.sink) c.fail.ensures.counted))

pub returns-then-is_broken-2-clause-counts : goal.returns-then-is_broken-2-clause-counts
returns-then-is_broken-2-clause-counts g c =
    counts_failed g.H.Hub.faults g.S.Sink.faults c.args.self.now c.fail-then-is_broken-2.new.self (turned c.fail-then-is_broken-2.result) (grind arith) (grind arith) (grind arith)

pub returns-else-is_broken-2-clause-counts : goal.returns-else-is_broken-2-clause-counts
returns-else-is_broken-2-clause-counts g c =
    counts_same g.H.Hub.faults g.S.Sink.faults c.args.self.now _ (turned (Happened c.in-Happened.it)) (grind arith) refl c.in_ok-note-in-Happened.ensures.faults

pub returns-in-Done-clause-counts : goal.returns-in-Done-clause-counts
returns-in-Done-clause-counts g c = counts_same g.H.Hub.faults g.S.Sink.faults c.args.self.now _ (turned Done) (grind arith) refl (omega arith)

pub returns-in-Failed-clause-counts : goal.returns-in-Failed-clause-counts
returns-in-Failed-clause-counts g c = counts_hub g.H.Hub.faults g.S.Sink.faults c.args.self.now _ c.turn.ensures.faults (grind arith) refl (omega arith)

pub returns-in_err-note-in-Happened-clause-memory : goal.returns-in_err-note-in-Happened-clause-memory
returns-in_err-note-in-Happened-clause-memory g c = on_err _ (counts_same g.H.Hub.faults g.S.Sink.faults c.args.self.now _ (turned Memory) (grind arith) refl c.note.ensures.faults)

pub returns-in-Memory-clause-memory : goal.returns-in-Memory-clause-memory
returns-in-Memory-clause-memory g c = counts_same g.H.Hub.faults g.S.Sink.faults c.args.self.now _ (turned Memory) (grind arith) refl (omega arith)
