use Rattle.std.proofs.Common.{refl}
use Rattle.probe_hub.proofs.Quiet.{equal, quiet_set}
use Rattle.probe_hub.proofs.laws.without_watched_links_both_stories_are_equal.Goals as goal

pub returns-clause-equal : goal.returns-clause-equal
returns-clause-equal c = λ read from to hub user none quiet way. (equal read none from quiet hub user to way).0

pub returns-clause-first : goal.returns-clause-first
returns-clause-first c = record { unwatched = tt; calm = tt; rest = refl }

pub returns-clause-set : goal.returns-clause-set
returns-clause-set c = quiet_set
