use Rattle.ctl_core.specs.Story.{behind}
use Rattle.ctl_world.specs.World.{first}
use Rattle.law_stories.specs.Settlings.{said_in}
use Rattle.law_stories.proofs.Described.{story_described}
use Rattle.law_stories.proofs.StoryIds.{story_ids}
use Rattle.law_stories.proofs.StoryOpen.{story_on_open}
use Rattle.law_stories.proofs.StoryParts.{held_of, story_cold, story_least, story_noted, story_one_batch}
use Rattle.law_stories.proofs.whatever_happens_is_right.Goals as goal

pub returns : goal.returns
returns c =
    let laws = c.what_the_laws_rest_on.ensures in
    λ conf story valid. record {
      sound = c.whatever_happens_what_is_known_is_sound.ensures.sound conf story valid;
      cold_tables = story_cold laws conf story valid;
      description = story_described laws c.a_cold_start_sends_each_packet_as_described.ensures conf story valid;
      nothing_waits = λ dp conn runs is. c.after_each_turn_nothing_waits.ensures conf story dp runs conn is;
      noted = story_noted laws conf story valid;
      held = held_of (behind (first conf) story) (said_in (first conf) story) (λ dp conn runs is. c.after_each_turn_nothing_waits.ensures conf story dp runs conn is) (story_noted laws conf story valid);
      one_batch = story_one_batch laws conf story valid;
      least_batch = story_least laws conf story valid;
      ids = story_ids conf story;
      sayable = story_on_open (first conf) story;
    }
