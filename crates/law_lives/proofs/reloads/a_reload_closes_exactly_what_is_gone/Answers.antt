use Rattle.conf_types.specs.Configuration.{Configuration}
use Rattle.ctl_world.specs.World.{first}
use Rattle.ctl_core.proofs.Stands.{Stands}
use Rattle.law_stories.proofs.StoryOrdered.{keeps_order}
use Rattle.law_lives.specs.Gone.{ClosesTheGone}
use Rattle.law_lives.proofs.Each.{each_turn}
use Rattle.law_lives.proofs.Gone.{closes_gone}
use Rattle.law_lives.proofs.reloads.a_reload_closes_exactly_what_is_gone.Goals as goal

abbrev Any : Configuration → Type 0
Any conf = Unit {0}

pub returns : goal.returns
returns c =
    let laws = c.what_the_laws_rest_on.ensures in
    λ conf story. each_turn (Stands Any) (keeps_order laws.numbers laws.keys Any (λ text next is. tt)) ClosesTheGone (λ t before behind. closes_gone t.what t.before before.1.0) (first conf) story (tt, (tt, tt))
