-- A reload leaves a world sound.
use Rattle.std.proofs.Common.{◌≡◌, ℕ, List, Result, Ok, Err, refl, subst}
use Rattle.yaml_subset.specs.declared.fault.YamlFault.{YamlFault}
use Rattle.yaml_tree.specs.declared.tree.Tree.{Tree}
use Rattle.yaml_subset.specs.Reading.{read_of}
use Rattle.conf_types.specs.Configuration.{Configuration}
use Rattle.conf_types.specs.Valid.{IsValid}
use Rattle.conf_shape.specs.declared.refused.ConfFault.{ConfFault}
use Rattle.conf_check.specs.Accepted.{conf_of}
use Rattle.ctl_world.specs.World.{IsSound, World}
use Rattle.ctl_world.proofs.SoundKept.{kept_sound}
use Rattle.ctl_core.specs.Reloading.{accepted, of_text, of_tree, reload}
use Rattle.ctl_core.proofs.SoundSteps.{Holds}
use Rattle.ctl_core.proofs.SoundTurns.{sound_steps}
use Rattle.ctl_core.proofs.Walk.{reload_kept}

module _ (of_document : (t : Tree) (conf : Configuration) → conf_of t ≡ Ok conf → IsValid conf) where
  of_tree_valid : (t : Tree) (read : Result Configuration ConfFault) → conf_of t ≡ read → (next : Configuration) → of_tree read ≡ Ok next → IsValid next
  of_tree_valid t (Ok conf) gives next is = let same : conf ≡ next = cc in subst IsValid same (of_document t conf gives)
  of_tree_valid t (Err fault) gives next is = absurd (cc)

  of_text_valid : (read : Result Tree YamlFault) (next : Configuration) → of_text read ≡ Ok next → IsValid next
  of_text_valid (Ok t) next is = of_tree_valid t (conf_of t) refl next is
  of_text_valid (Err fault) next is = absurd (cc)

  pub reload_sound : (text : List ℕ) (w : World) → IsValid w.conf → IsSound w → IsSound (reload (accepted text) w)
  reload_sound text w valid sound =
      (reload_kept Holds sound_steps (accepted text)
      (λ next v is holds. let good : IsValid next = of_text_valid (read_of text) next is in (good, kept_sound next v holds.1 good)) w (valid, sound)).1
