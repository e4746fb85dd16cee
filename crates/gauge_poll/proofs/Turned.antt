-- A turn begins with nothing said and no lines.
use Rattle.std.proofs.Common.{◌≡◌, ℕ, List, [], ap, ◌∙◌}
use Rattle.ctl_world.specs.declared.said.Said.{Said as Told}
use Rattle.ctl_world.specs.World.{World}
use Rattle.gauge_poll.specs.declared.gauge.Gauge.{Gauge}
use Rattle.gauge_poll.specs.Monitoring.{Monitor}
use Rattle.gauge_poll.specs.StandsFor.{KeepsAll, StandsFor}

pub started : (g : Gauge) (m : Monitor) → StandsFor g m → (said : List Told) (lines : List (List ℕ)) → said ≡ [] → lines ≡ []
    → KeepsAll (record g.kept { known = record g.kept.known { world = record g.kept.known.world { said = said } }; lines = lines })
    (record m { said = record m.said { world = record m.said.world { said = [] } }; lines = [] })
started g m stands said lines none empty = record {
  watchers = stands.watchers;
  said = record {
    world = ap (λ s. record g.kept.known.world { said = s }) none ∙ ap (λ (w : World). record w { said = [] }) stands.said.world;
    polls = stands.said.polls;
    waits = stands.said.waits;
  };
  lines = empty;
}
