use Rattle.std.proofs.Common.{rules, Some, refl, sym, ◌∙◌}
use Rattle.link_hub.proofs.HubLemmas.{on_ok}
use Rattle.link_hub.proofs.MapLemmas.{set_by}
use Rattle.link_hub.proofs.hub.LinkHub.open.Goals as goal

pub returns-clause-takes : goal.returns-clause-takes
returns-clause-takes g c = record {
  number = search rules;
  room = search rules;
  live = c.new.result;
  fresh = c.new.ensures;
  set =
      set_by c.in_ok-conn.conn (Some c.new.result) c.args.self.now.live c.insert.new.self
      (on_ok c.insert.result (sym c.is_err.ensures.value ∙ c.if-is_err.false) c.insert.ensures.updates);
  rest = refl;
}
