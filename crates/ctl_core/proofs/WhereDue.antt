-- What a settling that may be left out takes, behind a step that told what may differ.
use Rattle.std.proofs.Common.{◌≡◌, ◌<◌, false, List, sym, subst}
use Rattle.std.specs.List.{AllByRecursion}
use Rattle.conf_types.specs.Configuration.{Configuration}
use Rattle.conf_types.specs.State.{IsValidState}
use Rattle.ctl_world.specs.Alike.{IsAlike}
use Rattle.ctl_world.specs.World.{IsSound, World}
use Rattle.ctl_settle.specs.declared.plans.Held.{Held}
use Rattle.ctl_settle.specs.Plans.{AreHeld, Fit}
use Rattle.ctl_settle.specs.Rest.{AreInOrder, IsAtRest, IsBound, RestsUntil}
use Rattle.ctl_settle.specs.Touched.{AllFollow}
use Rattle.ctl_settle.proofs.Until.{are_bounded}
use Rattle.ctl_core.specs.declared.found.Found.{Found}
use Rattle.ctl_core.specs.declared.known.Known.{Known}
use Rattle.ctl_core.specs.Found.{Bounds, IsStill, Tells, ends_of, is_touched, may_differ}
use Rattle.ctl_core.specs.Known.{HasSettled}
use Rattle.ctl_core.proofs.Still.{still_held, still_rests, still_until}
use Rattle.ctl_core.proofs.Telling.{tells_bounds, tells_follow, tells_still}

abbrev pub MaySettle : Known → World → Found → Type 0
MaySettle k v found = record {
  sound : IsSound v;
  in_order : AreInOrder v;
  fit : Fit v.conns k.plans;
  follow : AllFollow v (may_differ v.conf found) k.plans;
  bounds : Bounds (ends_of found) k.until v;
  held : is_touched found ≡ false → AreHeld v k.plans;
  states : is_touched found ≡ false → AllByRecursion (λ h. IsValidState v.conf h.plan.state) k.plans;
  rests : is_touched found ≡ false → v.moment.0 < k.until → RestsUntil k.until v;
  until : is_touched found ≡ false → v.moment.0 < k.until → IsBound v k.until;
}

pub may_settle : ((u x : World) (held : List Held) → IsAlike u x → AreHeld x held → AreHeld u held) → ((u x : World) → IsAlike u x → IsAtRest x → IsAtRest u)
    → (k : Known) (v : World) (found : Found) → HasSettled k → Tells k.world v found → IsSound v → AreInOrder v → Fit v.conns k.plans → MaySettle k v found
may_settle plans rest k v found settled tells sound order fit =
    let w : World = k.world in
    let still : is_touched found ≡ false → IsStill w v = λ none. tells_still w v found none settled.sound tells in
    record {
      sound = sound;
      in_order = order;
      fit = fit;
      follow = tells_follow w v found settled.sound tells k.plans settled.follow;
      bounds = tells_bounds w v found settled.sound tells k.until (are_bounded w k.until settled.until.least);
      held = λ none. still_held w v (still none) plans k.plans settled.held;
      states = λ none. subst (λ (conf : Configuration). AllByRecursion (λ h. IsValidState conf h.plan.state) k.plans) (sym (still none).alike.conf) settled.states;
      rests = λ none early. still_rests w v (still none) rest k.until settled.until settled.rests early;
      until = λ none early. still_until w v (still none) rest k.until settled.until settled.rests early;
    }
