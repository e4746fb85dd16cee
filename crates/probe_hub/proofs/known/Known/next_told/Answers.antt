use Rattle.std.proofs.Common.{Option, refl, sym, ap, ◌∙◌}
use Rattle.probe_hub.specs.declared.known.Rest.{Rest}
use Rattle.probe_hub.specs.Known.{after_heard}
use Rattle.probe_hub.proofs.Knowing.{tells_due, tells_nothing, tells_rest}
use Rattle.probe_hub.proofs.Places.{both}
use Rattle.probe_hub.proofs.known.Known.next_told.Goals as goal

pub returns-in-Some : goal.returns-in-Some
returns-in-Some c = tells_due c.args.self.now c.take_due.new.self c.in-Some.conn c.in-Some.notice c.in_ok-piece.piece c.in-Some.ensures c.in_ok-piece.ensures

pub returns-in_ok-piece-in-Some-take : goal.returns-in_ok-piece-in-Some-take
returns-in_ok-piece-in-Some-take c =
    let k = c.args.self.now in
    let rest = c.in-Some-take.rest in
    tells_rest k _ c.in_default.ensures rest _ _ (sym c.in-Some-take.ensures.value)
    (c.in_ok-piece-in-Some-take.ensures ∙ ap (λ (r : Option Rest). after_heard rest.conn rest.bytes (record k { conns = c.take_due.new.self; rest = r })) c.take.ensures.after)

pub returns-in-None : goal.returns-in-None
returns-in-None c =
    let k = c.args.self.now in
    both (ap (λ (r : Option Rest). record k { conns = c.take_due.new.self; rest = r }) c.take.ensures.after) refl ∙ tells_nothing k _ c.in_default.ensures (sym c.in-None.ensures.value)
