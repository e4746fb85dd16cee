use Rattle.ctl_world.specs.World.{first}
use Rattle.law_stories.proofs.StorySound.{first_stands, keeps_sound}
use Rattle.law_lives.specs.Hosts.{KnowsTheHeard}
use Rattle.law_lives.proofs.Heard.{frame_known}
use Rattle.law_lives.proofs.Each.{each_frame}
use Rattle.law_lives.proofs.Walks.{Stands, keeps_stands}
use Rattle.law_lives.proofs.hosts.whatever_is_heard_its_host_is_known.Goals as goal

pub returns : goal.returns
returns c =
    let laws = c.what_the_laws_rest_on.ensures in
    λ conf story valid.
    each_frame Stands (keeps_stands (keeps_sound laws)) KnowsTheHeard (λ f before behind. frame_known f.before before.0.1 before.1 f.on f.says behind.0.1) (first conf) story
    (first_stands laws conf valid, tt)
