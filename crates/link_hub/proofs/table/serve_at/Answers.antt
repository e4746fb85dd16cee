use Rattle.std.proofs.Common.{Some, length, sym, subst}
use Rattle.fg_links.specs.declared.link.Took.{Took}
use Rattle.link_hub.specs.Links.{Serves}
use Rattle.link_hub.proofs.HubLemmas.{some_inner, some_of}
use Rattle.link_hub.proofs.MapLemmas.{set_by}
use Rattle.link_hub.proofs.table.serve_at.Goals as goal

pub returns-clause-some : goal.returns-clause-some
returns-clause-some g c = λ answer is.
    let was = c.in_ok-live.live.now in
    let now = c.serve.new.self in
    let found = sym c.in_ok-live.ensures.value in
    record {
      was = was;
      is = now;
      found = found;
      serves = subst (λ (t : Took). Serves g.L.Link t (length c.args.piece.now.items) c.serve.new.piece.items was now) (some_inner c.serve.result answer is) c.serve.ensures;
      set = set_by c.args.conn (Some now) c.args.lives.now _ ((c.get_mut.follows.holds now).3 (some_of _ was found));
    }
