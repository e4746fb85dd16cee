-- Over a reload with the configuration that is in force all hosts stay.
use Rattle.std.proofs.Common.{◌≡◌, ℕ, ◌<◌, List, [], Result, Ok, refl, ap, ◌∙◌}
use Rattle.std.specs.List.{AllByRecursion}
use Rattle.fg_outside.specs.declared.hub.Happening.{Happening}
use Rattle.fg_outside.specs.declared.hub.Happening.TheVariants as happenings
use Rattle.conf_types.specs.declared.state.HostRec.{HostRec}
use Rattle.conf_types.specs.Configuration.{Configuration}
use Rattle.conf_types.specs.Lists.{EachBefore}
use Rattle.host_learn.specs.Kept.{kept}
use Rattle.ctl_world.specs.declared.conns.Conn.{Conn}
use Rattle.ctl_world.specs.World.{IsSound, World, now, ups_of}
use Rattle.ctl_core.specs.Settlings.{settle}
use Rattle.ctl_core.specs.Reloading.{accepted, close_each, reload, renew, strays}
use Rattle.ctl_core.specs.Turns.{turn}
use Rattle.law_lives.proofs.Speaking.{Speaks, settle_stays, wanted_stays}
use Rattle.law_lives.specs.Same.{KeepsAllBy}
use Rattle.law_lives.proofs.ReloadsKept.{all_kept}
use Rattle.law_lives.proofs.Strays.{Left, shut_left, ups_same}
use Rattle.law_lives.proofs.Timely.{IsYoung, StandsTimely}

module _ (w : World) (sound : IsSound w) (ordered : EachBefore (λ (a b : Conn). a.number < b.number) w.conns) (young : AllByRecursion (IsYoung w.conf w.moment.0) w.hosts.hosts) where
  abbrev shut : World
  shut = close_each (strays w.conf w.conns) w

  abbrev Leaves : World → Type 0
  Leaves v = (v.hosts ≡ (renew w.conf shut).hosts)

  leaving : Speaks Leaves
  leaving = record { changes = λ f is number v same. same; says = λ number m xid v at same. same; meets = λ neighbours v same. same }

  left : Left w sound shut
  left = shut_left w sound ordered

  reloaded : (settle (reload (Ok w.conf) w)).hosts ≡ w.hosts
  reloaded =
      settle_stays Leaves leaving (reload (Ok w.conf) w) (wanted_stays Leaves leaving (renew w.conf shut) refl)
      ∙ (λ i. kept w.conf (ups_same w.conf shut.conns w.conns left.same i) ((left.moment i).0) (left.hosts i))
      ∙ ap (λ (hosts : List HostRec). record w.hosts { hosts = hosts }) (all_kept w.conf (now w) sound.valid w.hosts.limit sound.hosts w.moment.0 young)

unsaid : (w : World) → IsSound w → IsSound (record w { said = [] })
unsaid w sound = record { valid = sound.valid; hosts = sound.hosts; neighbours = sound.neighbours }

pub turned_all : (w : World) → StandsTimely w → (h : Happening) → KeepsAllBy h w (turn h w)
turned_all w both (happenings.Reload text) = λ is early.
    let v : World = record w { said = [] } in
    ap (λ (read : Result Configuration (List ℕ)). (settle (reload read v)).hosts) is ∙ reloaded v (unsaid w both.0.0.1) both.0.0.0.1.0 (both.1 early)
turned_all w both (happenings.Opened number) = tt
turned_all w both (happenings.Heard number piece) = tt
turned_all w both (happenings.Closed number cause) = tt
turned_all w both (happenings.Moment moment) = tt
