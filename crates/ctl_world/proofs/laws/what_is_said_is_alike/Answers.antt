use Rattle.std.proofs.Common.{[], ◌∷◌}
use Rattle.ctl_world.specs.declared.said.Said.TheVariants as said
use Rattle.ctl_world.proofs.Faces.{added_alike, change_alike, say_alike}
use Rattle.ctl_world.proofs.laws.what_is_said_is_alike.Goals as goal

pub returns : goal.returns
returns c = record {
  change = λ number w f same. change_alike f same number w;
  say = say_alike;
  repeat = λ number m xid. added_alike (said.Message number m xid ∷ []);
  added = added_alike;
}
