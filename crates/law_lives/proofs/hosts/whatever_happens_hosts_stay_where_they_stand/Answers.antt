use Rattle.ctl_world.specs.World.{first}
use Rattle.law_stories.proofs.StorySound.{first_stands, keeps_sound}
use Rattle.law_lives.specs.Hosts.{KnowsItsHosts}
use Rattle.law_lives.proofs.Turned.{turned_hosts}
use Rattle.law_lives.proofs.Each.{each_turn}
use Rattle.law_lives.proofs.Walks.{Stands, keeps_stands}
use Rattle.law_lives.proofs.hosts.whatever_happens_hosts_stay_where_they_stand.Goals as goal

pub returns : goal.returns
returns c =
    let laws = c.what_the_laws_rest_on.ensures in
    λ conf story valid.
    each_turn Stands (keeps_stands (keeps_sound laws)) KnowsItsHosts (λ t before behind. turned_hosts t.before before.0.1 before.1 t.what behind.0.1) (first conf) story
    (first_stands laws conf valid, tt)
