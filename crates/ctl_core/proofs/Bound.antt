-- What a settling counts, behind a step, is within what it allows.
use Rattle.std.proofs.Common.{◌≡◌, ℕ, ◌≤◌, true, Some, None, List, [], ◌∷◌, ◌++◌, refl, sym, ap, subst, ◌∙◌, arith}
use Rattle.std.specs.List.{AllByRecursion}
use Rattle.cold_start.specs.Counts.{RisesAtMost}
use Rattle.conf_types.specs.declared.change.Change.{Change}
use Rattle.conf_types.specs.Changes.{AreNamed}
use Rattle.conf_types.specs.Configuration.{Configuration}
use Rattle.conf_types.specs.State.{IsValidState}
use Rattle.law_names.specs.Differing.{differs}
use Rattle.ctl_world.specs.World.{IsSound, World, now}
use Rattle.ctl_settle.specs.declared.plans.Held.{Held}
use Rattle.ctl_settle.specs.Asked.{IsLost, all_asked, with_asked}
use Rattle.ctl_settle.specs.Counted.{counted}
use Rattle.ctl_settle.specs.Names.{Names}
use Rattle.ctl_settle.specs.Plans.{Fit}
use Rattle.ctl_settle.specs.Rest.{AreInOrder}
use Rattle.ctl_settle.specs.Settling.{ask_all}
use Rattle.ctl_settle.specs.Touched.{Follows, MayDiffer}
use Rattle.ctl_settle.proofs.Taking.{asks_fit}
use Rattle.ctl_settle.proofs.Waiting.{asks_ordered}
use Rattle.ctl_core.specs.declared.known.Known.{Known}
use Rattle.ctl_core.specs.Allowed.{allowed_anew, settling}
use Rattle.ctl_core.specs.declared.found.Found.TheVariants.{Named}
use Rattle.ctl_core.specs.Behind.{behind}
use Rattle.ctl_core.specs.Known.{HasSettled}
use Rattle.ctl_core.specs.Told as exact
use Rattle.ctl_core.specs.Told.{IsExact}
use Rattle.ctl_core.proofs.Exact.{behind_differs}
use Rattle.ctl_core.proofs.Allowing.{AreOf, anew_within, named_within}
use Rattle.ctl_core.proofs.Spent.{AreOld}
use Rattle.ctl_core.proofs.StillDiffers.{all_differ}

-- every change differs between what was known and what is
abbrev pub AllDiffer : World → World → List Change → Type 0
AllDiffer was w changes = AllByRecursion (λ c. differs was.conf (now was) (now w) c ≡ true) changes

both : (was : World) (held : List Held) → AllByRecursion (λ h. Follows was.conf (now was) (Some []) h.plan) held → AllByRecursion (λ h. IsValidState was.conf h.plan.state) held → AreOf was held
both was [] follow states = tt
both was (h ∷ hs) follow states = (record { valid = states.0; named = follow.0.1 }, both was hs follow.1 states.1)

module _ (given : (u : World) → IsSound u → AllByRecursion (IsLost u (ask_all u)) (all_asked u)) (named : (u : World) → IsSound u → Names u (ask_all u) (all_asked u))
    (k : Known) (settled : HasSettled k) (w : World) (conf : w.conf ≡ k.world.conf) (sound : IsSound w) (order : AreInOrder w) (fit : Fit w.conns k.plans)
    (old : AreOld k.world.neighbours.neighbours w.neighbours.neighbours) where
  abbrev was : World
  was = k.world

  abbrev is : World
  is = ask_all w

  pub settling_within : (changes : List Change) → AllDiffer was w changes → counted is (with_asked w (Some changes)) k.plans ≤ settling was w
  settling_within changes all =
      let names = named w sound in
      let conf_is : is.conf ≡ was.conf = names.conf ∙ conf in
      let lost : AreNamed was.conf (now w) (now is) (all_asked w) = subst (λ (c : Configuration). AreNamed c (now w) (now is) (all_asked w)) conf names.named in
      let differ = all_differ was w is settled.sound sound old was.conf lost (given w sound) changes all in
      named_within was is conf_is settled.sound.valid (changes ++ all_asked w)
      (subst (λ (cf : Configuration). AllByRecursion (λ c. differs cf (now was) (now is) c ≡ true) (changes ++ all_asked w)) (sym conf_is) differ)
      k.plans settled.held (asks_fit k.plans w fit) (both was k.plans settled.follow settled.states) (asks_ordered w order.numbers order.keys).0

  -- by what was told
  pub rises_within : (may : MayDiffer) (changes : List Change) → may ≡ Some changes → AllDiffer was w changes → (a b : ℕ) → RisesAtMost (counted is (with_asked w may) k.plans) a b → RisesAtMost (settling was w) a b
  rises_within may changes told all a b most =
      let e = ap (λ (m : MayDiffer). counted is (with_asked w m) k.plans) told in
      let within = settling_within changes all in
      omega (arith, most, e, within)

  pub rises_exactly : (may : MayDiffer) → exact.AllDiffer was w may → (a b : ℕ) → RisesAtMost (counted is (with_asked w may) k.plans) a b → RisesAtMost (settling was w) a b
  rises_exactly None all a b most = absurd all
  rises_exactly (Some changes) all a b most = rises_within (Some changes) changes refl all a b most

-- where anything may differ
pub anew_settling : (held : List Held) (w : World) → AreInOrder w → Fit w.conns held → counted (ask_all w) (with_asked w None) held ≤ allowed_anew (ask_all w)
anew_settling held w order fit = anew_within (ask_all w) held (asks_fit held w fit) (asks_ordered w order.numbers order.keys).0

-- what is compared behind a step is exact
pub behind_exact : (w v : World) → v.conf ≡ w.conf → IsExact w v (Named (Some (behind v.conf (now w) (now v))))
behind_exact w v conf = λ sound left. (conf, subst (λ (cf : Configuration). AllDiffer w v (behind cf (now w) (now v))) (sym conf) (behind_differs w.conf (now w) (now v) sound.valid (subst (λ (cf : Configuration). IsValidState cf (now v)) conf left.valid)))
