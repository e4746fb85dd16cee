use Rattle.std.proofs.Common.{[], ◌∷◌}
use Rattle.ctl_world.specs.declared.said.Said.TheVariants as said
use Rattle.ctl_world.proofs.SoundChanges.{added_sound, ask_sound, say_sound}
use Rattle.ctl_world.proofs.laws.what_is_said_leaves_it_sound.Goals as goal

pub returns : goal.returns
returns c = record {
  say = say_sound;
  ask = ask_sound;
  repeat = λ number m xid. added_sound (said.Message number m xid ∷ []);
  added = added_sound;
}
