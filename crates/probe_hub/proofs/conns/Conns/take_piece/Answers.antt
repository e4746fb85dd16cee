use Rattle.std.proofs.Common.{◌≡◌, ℕ, List, set, sym, ap, ◌∙◌}
use Rattle.std.proofs.lemmas.Result.{IfOk-weaker}
use Rattle.probe_hub.specs.declared.conn.Conn.{Conn}
use Rattle.probe_hub.specs.Conn.{came}
use Rattle.probe_hub.specs.Conns.{came_on, given_on, has_number}
use Rattle.probe_hub.proofs.Places.{both, came_at, is_there, none_set, none_there, set_there}
use Rattle.probe_hub.proofs.conns.Conns.take_piece.Goals as goal

pub returns-in-Some : goal.returns-in-Some
returns-in-Some c =
    let links = c.args.links.now in
    let moment = c.args.moment in
    let number = c.args.number in
    let piece = c.args.piece.now in
    let conns = c.args.self.now in
    let at = c.in-Some.at in
    let one : Conn = c.index_mut.result.now in
    let new : List Conn = set c.self.inside.conns.items at c.take_piece.new.self in
    let there = is_there (has_number number) _ _ _ c.as_slice.ensures.value c.self.view_is at one c.in-Some.ensures.place c.in-Some.ensures.within c.index_mut.ensures.value in
    let written = set_there (has_number number) _ _ _ c.as_slice.ensures.value c.self.view_is at one c.in-Some.ensures.place c.in-Some.ensures.within c.index_mut.ensures.value (λ (d : Conn). (came links moment piece d).0) in
    IfOk-weaker c.take_piece.result (λ given. (c.take_piece.new.self, given) ≡ came links moment piece one) (λ given. (new, given) ≡ came_on links moment number piece conns)
    (λ given is. came_at links moment number piece conns one there new c.take_piece.new.self given is (ap (set c.self.inside.conns.items at) (ap (λ (r : Conn × ℕ). r.0) is) ∙ written))
    c.take_piece.ensures.came

pub returns-in-None : goal.returns-in-None
returns-in-None c =
    let links = c.args.links.now in
    let none = none_there (has_number c.args.number) _ _ _ c.as_slice.ensures.value c.self.view_is c.in-None.ensures.place in
    both (none_set (has_number c.args.number) _ _ _ c.as_slice.ensures.value c.self.view_is c.in-None.ensures.place (λ (d : Conn). (came links c.args.moment c.args.piece.now d).0))
    (sym (ap (given_on links c.args.moment c.args.piece.now) none))
