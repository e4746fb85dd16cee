use Rattle.std.proofs.Common.{◌≡◌, [], Some, None, refl, ◌∙◌, ap}
use Rattle.fg_outside.specs.Steps.{stay}
use Rattle.fg_outside.proofs.StepLemmas.{Went-append}
use Rattle.recording.specs.declared.reader.Reader.{Reader}
use Rattle.recording.specs.Reader.{source_of}
use Rattle.recording.specs.Script.{source_in}
use Rattle.recording.proofs.Keeping.{Keeps-same, Keeps-then}
use Rattle.recording.proofs.Stepping.{own_passed, own_some, read_none, read_some, step_then, stays_spent}
use Rattle.recording.proofs.script_hub.ScriptHubHub.turn.Goals as goal

none_is_no_answer : {T : Type 0} {x : T} → None ≡ Some x → ⊥
none_is_no_answer h = cc

pub returns-then-self-clause-step : goal.returns-then-self-clause-step
returns-then-self-clause-step g c = stays_spent g.S.Source.left g.S.Source.may c.args.self.now c.if-self.true

pub loop-turn-init : goal.loop-turn-init
loop-turn-init g c = record {
  keeps = Keeps-same g.S.Source.left c.args.self.now;
  running = c.if-self.false;
  faults = refl;
  source = stay;
}

pub returns-in-Some-clause-step : goal.returns-in-Some-clause-step
returns-in-Some-clause-step g c =
    let left = g.S.Source.left in
    let may = g.S.Source.may in
    let start = c.loop-turn.self in
    let own = c.in-Some.ensures in
    step_then left may c.args.self.now start c.tell_own.new.self c.in-Some.turn c.loop-turn.invariant.keeps c.loop-turn.invariant.source
    (own_some left may start c.tell_own.new.self c.in-Some.turn c.loop-turn.invariant.running own.nothing own.told own.reader)

pub returns-in-Some-read_on-clause-step : goal.returns-in-Some-read_on-clause-step
returns-in-Some-read_on-clause-step g c =
    let left = g.S.Source.left in
    let may = g.S.Source.may in
    let mid = c.tell_own.new.self in
    let own = c.in-None.ensures in
    let on = own_passed left may c.args.self.now c.loop-turn.self mid c.loop-turn.invariant.keeps c.loop-turn.invariant.source c.loop-turn.invariant.running own.nothing own.told own.reader in
    step_then left may c.args.self.now mid c.read_on.new.self c.in-Some-read_on.turn on.keeps on.source
    (read_some left may mid c.read_on.new.self c.in-Some-read_on.turn own.gone on.running c.in-Some-read_on.ensures.step c.in-Some-read_on.ensures.source)

pub loop-turn-preserved : goal.loop-turn-preserved
loop-turn-preserved g c =
    let left = g.S.Source.left in
    let may = g.S.Source.may in
    let mid = c.tell_own.new.self in
    let own = c.in-None.ensures in
    let on = own_passed left may c.args.self.now c.loop-turn.self mid c.loop-turn.invariant.keeps c.loop-turn.invariant.source c.loop-turn.invariant.running own.nothing own.told own.reader in
    let read = read_none left may mid c.read_on.new.self own.gone on.running c.in-None-read_on.ensures.step in
    record {
      keeps = Keeps-then left c.args.self.now mid c.read_on.new.self [] on.keeps read.keeps;
      running = read.running;
      faults =
          c.in-None-read_on.ensures.no_fault (λ failed. none_is_no_answer failed)
          ∙ ap (λ (rd : Reader g.row.S.Denot). g.S.Source.faults (source_of rd)) own.reader
          ∙ c.loop-turn.invariant.faults;
      source = Went-append may (source_in c.args.self.now) (source_in mid) on.source (source_in c.read_on.new.self) c.in-None-read_on.ensures.source;
    }
