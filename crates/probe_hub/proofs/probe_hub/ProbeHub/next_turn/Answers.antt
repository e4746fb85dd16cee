use Rattle.std.proofs.Common.{inl, inr, refl, sym, ap, ◌∙◌, subst}
use Rattle.fg_outside.specs.HubStep.{turned}
use Rattle.fg_outside.proofs.LineLemmas.{on_err}
use Rattle.probe_hub.specs.declared.known.Known.{Known}
use Rattle.probe_hub.specs.Known.{after, next_told, probes}
use Rattle.probe_hub.specs.ProbeHub.{nothing, in_vain, lost}
use Rattle.probe_hub.specs.Says.{SaysPart}
use Rattle.probe_hub.proofs.Going.{goes_by, goes_saying, goes_saying_part, goes_still, none_told}
use Rattle.probe_hub.proofs.Places.{both}
use Rattle.probe_hub.proofs.probe_hub.ProbeHub.next_turn.Goals as goal

-- ---- memory ran out before the hub was asked

pub returns-in_err-take_in-clause-lost : goal.returns-in_err-take_in-clause-lost
returns-in_err-take_in-clause-lost g c = on_err _ (nothing refl)

pub returns-in_err-take_in-clause-along : goal.returns-in_err-take_in-clause-along
returns-in_err-take_in-clause-along g c = goes_still g.H.Hub.may c.args.self.now _ refl refl

pub returns-in_err-it-clause-lost : goal.returns-in_err-it-clause-lost
returns-in_err-it-clause-lost g c = on_err _ (nothing refl)

pub returns-in_err-it-clause-along : goal.returns-in_err-it-clause-along
returns-in_err-it-clause-along g c = goes_still g.H.Hub.may c.args.self.now _ refl refl

-- ---- something is to be told first

pub returns-in-Some-clause-does : goal.returns-in-Some-clause-does
returns-in-Some-clause-does g c = inl (record { told = both refl (sym c.in-Some.is) ∙ c.in_ok-it.ensures ∙ ap next_told c.in_ok-take_in.ensures; hub = refl; reader = refl })

pub returns-in-Some-clause-along : goal.returns-in-Some-clause-along
returns-in-Some-clause-along g c = goes_still g.H.Hub.may c.args.self.now _ refl refl

-- ---- what happens at the hub

pub returns-in_err-pass_on-in-Happened-clause-lost : goal.returns-in_err-pass_on-in-Happened-clause-lost
returns-in_err-pass_on-in-Happened-clause-lost g c =
    let none = none_told c.args.self.now.known c.take_in.new.self c.next_told.new.self c.in_ok-take_in.ensures (both refl (sym c.in_default.is) ∙ c.in_ok-it.ensures) in
    on_err _
    (lost c.in-Happened.it c.turn.new.self c.in-Happened.ensures.step
    (subst (λ (k : Known). SaysPart g.H.Hub.may c.turn.new.self (probes (after (g.R.ReadsLinks.links_of c.args.self.now.reader) c.in-Happened.it k).0) c.pass_on.new.self.hub) none.1
    c.in_err-pass_on-in-Happened.ensures.err))

pub returns-in_err-pass_on-in-Happened-clause-along : goal.returns-in_err-pass_on-in-Happened-clause-along
returns-in_err-pass_on-in-Happened-clause-along g c =
    goes_saying_part g.H.Hub.may c.args.self.now c.pass_on.new.self c.turn.new.self (turned c.turn.result) _ c.turn.ensures.step c.in_err-pass_on-in-Happened.ensures.err c.pass_on.ensures.reader

pub returns-in_ok-pass_on-in-Happened-clause-does : goal.returns-in_ok-pass_on-in-Happened-clause-does
returns-in_ok-pass_on-in-Happened-clause-does g c =
    let none = none_told c.args.self.now.known c.take_in.new.self c.next_told.new.self c.in_ok-take_in.ensures (both refl (sym c.in_default.is) ∙ c.in_ok-it.ensures) in
    let passes = c.in_ok-pass_on-in-Happened.ensures.ok in
    inr (record {
      has_told = none.0;
      it = c.in-Happened.it;
      mid = c.turn.new.self;
      hub = c.in-Happened.ensures.step;
      known = passes.known ∙ ap (λ (k : Known). after (g.R.ReadsLinks.links_of c.args.self.now.reader) c.in-Happened.it k) none.1;
      says = passes.says;
      reader = passes.reader;
    })

pub returns-in_ok-pass_on-in-Happened-clause-along : goal.returns-in_ok-pass_on-in-Happened-clause-along
returns-in_ok-pass_on-in-Happened-clause-along g c =
    let passes = c.in_ok-pass_on-in-Happened.ensures.ok in
    goes_saying g.H.Hub.may c.args.self.now c.pass_on.new.self c.turn.new.self (turned c.turn.result) _ c.turn.ensures.step passes.says passes.reader

-- ---- other answers of the hub

pub returns-in-Done-clause-does : goal.returns-in-Done-clause-does
returns-in-Done-clause-does g c =
    let none = none_told c.args.self.now.known c.take_in.new.self c.next_told.new.self c.in_ok-take_in.ensures (both refl (sym c.in_default.is) ∙ c.in_ok-it.ensures) in
    record { has_told = none.0; hub = c.in-Done.ensures.step; known = none.1; reader = refl }

pub returns-in-Done-clause-along : goal.returns-in-Done-clause-along
returns-in-Done-clause-along g c = goes_by g.H.Hub.may c.args.self.now _ (turned c.turn.result) c.turn.ensures.step refl

pub returns-in-Failed-clause-does : goal.returns-in-Failed-clause-does
returns-in-Failed-clause-does g c =
    let none = none_told c.args.self.now.known c.take_in.new.self c.next_told.new.self c.in_ok-take_in.ensures (both refl (sym c.in_default.is) ∙ c.in_ok-it.ensures) in
    record { has_told = none.0; hub = c.in-Failed.ensures.step; known = none.1; reader = refl }

pub returns-in-Failed-clause-along : goal.returns-in-Failed-clause-along
returns-in-Failed-clause-along g c = goes_by g.H.Hub.may c.args.self.now _ (turned c.turn.result) c.turn.ensures.step refl

pub returns-in-Memory-clause-lost : goal.returns-in-Memory-clause-lost
returns-in-Memory-clause-lost g c = in_vain c.in-Memory.ensures.step

pub returns-in-Memory-clause-along : goal.returns-in-Memory-clause-along
returns-in-Memory-clause-along g c = goes_by g.H.Hub.may c.args.self.now _ (turned c.turn.result) c.turn.ensures.step refl
