use Rattle.std.proofs.Common.{rules, ◌≡◌, ℕ, List, Option, length, refl, sym, subst, inr}
use Rattle.fg_outside.specs.declared.hub.Turn.{Turn}
use Rattle.link_hub.specs.Hub.{ServesLink, Hears, read_len}
use Rattle.link_hub.proofs.HubLemmas.{hears_from, waits_from, ends_at_end, ends_by_fault}
use Rattle.link_hub.proofs.hub.LinkHub.serve.Goals as goal

pub returns-in-Some-clause-serves : goal.returns-in-Some-clause-serves
returns-in-Some-clause-serves g c =
    let took = c.in_ok-took.took in
    let room = length c.in-Ok.piece.items in
    let full : room ≡ read_len = search rules in
    let items = c.serve_at.new.piece.items in
    let new = record c.args.self.now { live = c.serve_at.new.lives } in (
      refl,
      subst (λ (l : List ℕ). Hears g.P.L.Link c.args.conn l c.args.self.now new) (sym c.from-piece.ensures)
          (hears_from g.P.L.Link g.P.Poller c.args.conn c.in-Some.field-0 took room items c.args.self.now c.serve_at.new.lives c.in-Some.is full (c.in_ok-took.ensures.some took refl)),
    )

pub returns-in-NotYet-clause-serves : goal.returns-in-NotYet-clause-serves
returns-in-NotYet-clause-serves g c =
    let took = c.in_ok-took.took in
    inr (waits_from g.P.L.Link g.P.Poller c.args.conn took _ _ c.args.self.now c.serve_at.new.lives c.quiet.new.self c.in-NotYet.is (c.in_ok-took.ensures.some took refl)
    (record { told = c.quiet.ensures.told; ahead = c.quiet.ensures.ahead }))

pub returns-in-End-clause-serves : goal.returns-in-End-clause-serves
returns-in-End-clause-serves g c =
    let took = c.in_ok-took.took in
    subst (λ (t : Option Turn). ServesLink g.P.L.Link g.P.Poller c.args.conn c.args.self.now t c.end.new.self) (sym c.end.ensures.told)
    (refl, ends_at_end g.P.L.Link g.P.Poller c.args.conn took _ _ c.args.self.now c.serve_at.new.lives c.end.new.self c.in-End.is (c.in_ok-took.ensures.some took refl) c.end.ensures.goes)

pub returns-in-Failed-clause-serves : goal.returns-in-Failed-clause-serves
returns-in-Failed-clause-serves g c =
    let took = c.in_ok-took.took in
    subst (λ (t : Option Turn). ServesLink g.P.L.Link g.P.Poller c.args.conn c.args.self.now t c.end-in-Failed.new.self) (sym c.end-in-Failed.ensures.told)
    (refl, ends_by_fault g.P.L.Link g.P.Poller c.args.conn took _ _ c.args.self.now c.serve_at.new.lives c.end-in-Failed.new.self c.in-Failed.is (c.in_ok-took.ensures.some took refl) c.end-in-Failed.ensures.goes)
