-- Behind a story what is known is sound, and its configuration valid.
use Rattle.std.proofs.Common.{◌≡◌, List, [], ◌∷◌, Result, Ok, Err, refl, subst}
use Rattle.net_base.specs.declared.numbers.DpId.{DpId}
use Rattle.fg_outside.specs.declared.hub.Happening.{Happening}
use Rattle.yaml_subset.specs.declared.fault.YamlFault.{YamlFault}
use Rattle.yaml_tree.specs.declared.tree.Tree.{Tree}
use Rattle.yaml_subset.specs.Reading.{read_of}
use Rattle.conf_types.specs.Configuration.{Configuration}
use Rattle.conf_types.specs.Valid.{IsValid}
use Rattle.conf_shape.specs.declared.refused.ConfFault.{ConfFault}
use Rattle.conf_check.specs.Accepted.{conf_of}
use Rattle.neighbour_resolve.specs.Asks.{in_order}
use Rattle.ctl_world.specs.Ends.{ended}
use Rattle.ctl_world.specs.World.{IsSound, World, first, running}
use Rattle.ctl_world.proofs.SoundEnds.{ended_sound}
use Rattle.ctl_core.specs.Settlings.{ask_all, batch, batches, settle}
use Rattle.ctl_core.specs.Hearing.{hear_frame}
use Rattle.ctl_core.specs.Reloading.{accepted, of_text, of_tree, reload}
use Rattle.ctl_core.specs.Story.{behind}
use Rattle.ctl_life.specs.Life.{open_conn}
use Rattle.ctl_core.specs.Turns.{pass}
use Rattle.ctl_core.proofs.SoundFrames.{heard_sound, read_sound}
use Rattle.ctl_core.proofs.SoundReloads.{reload_sound}
use Rattle.ctl_core.proofs.SoundTurns.{feed_sound, open_sound, pass_sound}
use Rattle.law_stories.specs.Grounds.{Grounds}
use Rattle.law_stories.proofs.StoryOrdered.{keeps_order}
use Rattle.ctl_core.proofs.Stands.{Stands}
use Rattle.law_stories.proofs.StoryTurns.{Keeps, behind_kept}

-- it is sound, of a valid configuration, with its connections in order
abbrev pub StandsSound : World → Type 0
StandsSound w = Stands IsValid w × IsSound w

module _ (laws : Grounds) where
  batches_sound : (dps : List DpId) (w : World) → IsSound w → IsSound (batches dps w)
  batches_sound [] w sound = sound
  batches_sound (dp ∷ dps) w sound = batches_sound dps (batch dp w) (laws.batch w dp sound)

  pub settle_sound : (w : World) → IsSound w → IsSound (settle w)
  settle_sound w sound = batches_sound (in_order (running (ask_all w))) (ask_all w) (laws.asks w sound)

  tree_valid : (t : Tree) (read : Result Configuration ConfFault) → conf_of t ≡ read → (next : Configuration) → of_tree read ≡ Ok next → IsValid next
  tree_valid t (Ok conf) gives next is = let same : conf ≡ next = cc in subst IsValid same (laws.valid t conf gives)
  tree_valid t (Err fault) gives next is = absurd (cc)

  pub text_valid : (read : Result Tree YamlFault) (next : Configuration) → of_text read ≡ Ok next → IsValid next
  text_valid (Ok t) next is = tree_valid t (conf_of t) refl next is
  text_valid (Err fault) next is = absurd (cc)

  order : Keeps (Stands IsValid)
  order = keeps_order laws.numbers laws.keys IsValid (λ text next is. text_valid (read_of text) next is)

  pub keeps_sound : Keeps StandsSound
  keeps_sound = record {
    unsaid = λ w holds. (holds.0, record { valid = holds.1.valid; hosts = holds.1.hosts; neighbours = holds.1.neighbours });
    opens = λ number w shut holds. (order.opens number w shut holds.0, settle_sound (open_conn number w) (open_sound number w holds.1));
    feeds = λ number piece w holds. (order.feeds number piece w holds.0, feed_sound number piece w holds.1);
    reads = λ number w holds. (order.reads number w holds.0, read_sound number w holds.1);
    hears = λ said number w holds. (order.hears said number w holds.0, settle_sound (hear_frame said number w) (heard_sound said number w holds.0.0 holds.1));
    ends = λ cause number w holds. (order.ends cause number w holds.0, settle_sound (ended cause number w) (ended_sound cause number w holds.0.0 holds.1));
    passes = λ moment w holds. (order.passes moment w holds.0, settle_sound (pass moment w) (pass_sound moment w holds.0.0 holds.1));
    reloads = λ text w holds. (order.reloads text w holds.0, settle_sound (reload (accepted text) w) (reload_sound laws.valid text w holds.0.0 holds.1));
  }

  pub first_stands : (conf : Configuration) → IsValid conf → StandsSound (first conf)
  first_stands conf valid = ((valid, (tt, tt)), laws.first conf valid)

  pub story_sound : (conf : Configuration) (story : List Happening) → IsValid conf → IsValid (behind (first conf) story).conf × IsSound (behind (first conf) story)
  story_sound conf story valid = let holds = behind_kept StandsSound keeps_sound (first conf) story (first_stands conf valid) in (holds.0.0, holds.1)
