use Rattle.std.proofs.Common.{ℕ}
use Rattle.ctl_world.specs.World.{first}
use Rattle.law_stories.proofs.StorySound.{first_stands, keeps_sound}
use Rattle.law_lives.proofs.Each.{each_turn}
use Rattle.law_lives.specs.Same.{KeepsAllHosts}
use Rattle.law_lives.proofs.ReloadsReloaded.{turned_all}
use Rattle.law_lives.proofs.Timely.{StandsTimely, keeps_timely}
use Rattle.law_lives.proofs.reloads.all_hosts_stay_over_a_reload_of_the_same.Goals as goal

pub returns : goal.returns
returns c =
    let laws = c.what_the_laws_rest_on.ensures in
    λ conf story valid.
    each_turn StandsTimely (keeps_timely (keeps_sound laws)) KeepsAllHosts (λ t before behind. turned_all t.before before t.what) (first conf) story
    ((first_stands laws conf valid, tt), λ early. tt)
