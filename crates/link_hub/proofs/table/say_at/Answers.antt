use Rattle.std.proofs.Common.{Some, Ok, sym}
use Rattle.link_hub.specs.Links.{Says}
use Rattle.link_hub.proofs.HubLemmas.{if_ok_at, some_inner, some_of}
use Rattle.link_hub.proofs.MapLemmas.{set_by}
use Rattle.link_hub.proofs.table.say_at.Goals as goal

pub returns-clause-some : goal.returns-clause-some
returns-clause-some g c = λ end is.
    let was = c.in_ok-live.live.now in
    let now = c.say.new.self in
    let found = sym c.in_ok-live.ensures.value in
    record {
      was = was;
      is = now;
      found = found;
      says = if_ok_at (λ e. Says g.L.Link c.args.piece.now was e now) c.say.result end (some_inner c.say.result (Ok end) is) c.say.ensures.said;
      set = set_by c.args.conn (Some now) c.args.lives.now _ ((c.get_mut.follows.holds now).3 (some_of _ was found));
    }
