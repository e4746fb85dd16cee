use Rattle.ctl_world.specs.World.{first}
use Rattle.law_stories.proofs.StorySound.{first_stands, keeps_sound}
use Rattle.law_lives.specs.Reloads.{KeepsItsHosts}
use Rattle.law_lives.proofs.Reloaded.{turned_kept}
use Rattle.law_lives.proofs.Each.{each_turn}
use Rattle.law_lives.proofs.Walks.{Stands, keeps_stands}
use Rattle.law_lives.proofs.hosts.hosts_stay_over_a_reload_but_for_a_cause.Goals as goal

pub returns : goal.returns
returns c =
    let laws = c.what_the_laws_rest_on.ensures in
    λ conf story valid.
    each_turn Stands (keeps_stands (keeps_sound laws)) KeepsItsHosts (λ t before behind. turned_kept t.before before.0.1 before.1 t.what) (first conf) story
    (first_stands laws conf valid, tt)
