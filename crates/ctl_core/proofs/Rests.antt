-- What rests, and stays settled, where nothing changes that a settling looks at.
use Rattle.std.proofs.Common.{◌≡◌, ℕ, ◌<◌, ◌^◌, ◌-◌, max, List, [], Some, ◌∷◌, refl, inl, inr, sym, ap, ◌∙◌, subst, arith}
use Rattle.std.specs.List.{AllByRecursion}
use Rattle.net_base.specs.declared.numbers.Moment.{Moment}
use Rattle.ctl_world.specs.declared.conns.Conn.{Conn}
use Rattle.conf_types.specs.Configuration.{Configuration}
use Rattle.conf_types.specs.State.{IsValidState, State}
use Rattle.ctl_world.specs.Alike.{IsAlike, face}
use Rattle.ctl_world.specs.Connections.{with_fed}
use Rattle.ctl_world.specs.World.{IsSound, World, first}
use Rattle.ctl_settle.specs.declared.plans.Held.{Held}
use Rattle.ctl_settle.specs.Plans.{AreCurrent, AreHeld}
use Rattle.ctl_settle.specs.Rest.{AreInOrder, IsAtRest, IsBound, NoneIsOver, RestsUntil, rests_until}
use Rattle.ctl_settle.specs.Settling.{settle}
use Rattle.ctl_settle.specs.Touched.{AllFollow}
use Rattle.ctl_settle.proofs.Following.{alike_names, named_follow}
use Rattle.ctl_settle.proofs.Until.{end_alike, until_stays}
use Rattle.ctl_core.specs.declared.known.Known.{Known}
use Rattle.ctl_core.specs.Known.{HasSettled, IsEarly}
use Rattle.ctl_life.specs.Silence.{show}
use Rattle.ctl_core.specs.Turns.{age}

-- bytes that come are nothing that a settling looks at
pub fed_face : (piece : List ℕ) (moment : Moment) (c : Conn) → face (with_fed piece moment c) ≡ face c
fed_face [] moment c = refl
fed_face (byte ∷ piece) moment c = refl

-- a settling before the moment is left out
pub left_out : ((w : World) → IsAtRest w → settle w ≡ w) → (until : ℕ) (w : World) → RestsUntil until w → w.moment.0 < until → w ≡ settle w
left_out same until w rests less = sym (same w (rests w.moment.0 (omega arith) less).0)

-- what looks the same has the same bounds
pub bound_alike : (v w : World) (until : ℕ) → IsAlike v w → IsBound w until → IsBound v until
bound_alike v w until alike bound =
    let same = end_alike v w alike in
    record {
      least = omega (arith, bound.least, same);
      ahead = elim bound.ahead [ inl ahead ↦ inl (subst (λ (m : Moment). m.0 < until) (sym alike.moment) ahead) | inr is ↦ inr (is ∙ sym same) ];
    }

-- a settling isn't due before the first moment at which one is, nor is the bound past then
pub is_early : (k : Known) → HasSettled k → k.world.moment.0 < rests_until k.world → IsEarly k
is_early k settled less = elim settled.until.ahead [ inl ahead ↦ ahead | inr is ↦ omega (arith, less, is) ]

-- what looks the same is settled as well
pub still_settled : ((until : ℕ) (v w : World) → IsAlike v w → RestsUntil until w → RestsUntil until v) → ((v w : World) (held : List Held) → IsAlike v w → AreHeld w held → AreHeld v held)
    → (k : Known) (v : World) → HasSettled k → IsSound v → AreInOrder v → IsAlike v k.world → HasSettled (record k { world = v })
still_settled rests plans k v settled sound order alike = record {
  sound = sound;
  in_order = order;
  held = plans v k.world k.plans alike settled.held;
  follow = named_follow k.world v [] (alike_names v k.world alike) k.plans settled.follow;
  states = subst (λ (conf : Configuration). AllByRecursion (λ h. IsValidState conf h.plan.state) k.plans) (sym alike.conf) settled.states;
  rests = rests k.until v k.world alike settled.rests;
  until = bound_alike v k.world k.until alike settled.until;
}

-- plans that were brought up to what is known and is sound
pub current_states : (w : World) → IsSound w → (held : List Held) → AreCurrent w held → AllByRecursion (λ h. IsValidState w.conf h.plan.state) held
current_states w sound [] all = tt
current_states w sound (h ∷ hs) all = (subst (λ (s : State). IsValidState w.conf s) (sym all.0.1) sound.valid, current_states w sound hs all.1)

-- ---- the clock

shown_rests : (until moment : ℕ) (w : World) → RestsUntil until w → RestsUntil until (show moment w)
shown_rests until moment w rests = λ m later less. rests m (omega (arith, later)) less

module _ (rest : (v w : World) → IsAlike v w → IsAtRest w → IsAtRest v) (over : (v w : World) → IsAlike v w → NoneIsOver w → NoneIsOver v)
    (rests_alike : (until : ℕ) (v w : World) → IsAlike v w → RestsUntil until w → RestsUntil until v) (same : (w : World) → IsAtRest w → settle w ≡ w)
    (k : Known) (settled : HasSettled k) (moment : ℕ) (v : World) (alike : IsAlike v (show moment k.world)) where
  pub moment_rests : RestsUntil k.until v
  moment_rests = rests_alike k.until v (show moment k.world) alike (shown_rests k.until moment k.world settled.rests)

  module _ (less : v.moment.0 < k.until) where
    before : max k.world.moment.0 moment < k.until
    before = subst (λ (n : ℕ). n < k.until) (ap (λ m. m.0) alike.moment) less

    shown : IsAtRest (show moment k.world) × NoneIsOver (show moment k.world)
    shown = settled.rests (max k.world.moment.0 moment) (omega arith) before

    -- the same moment is a bound
    pub moment_until : IsBound v k.until
    moment_until =
        let same : rests_until v ≡ rests_until k.world =
        end_alike v (show moment k.world) alike ∙ until_stays k.world (max k.world.moment.0 moment) (omega arith) (omega (arith, before, settled.until.least)) in
        record { least = omega (arith, same, settled.until.least); ahead = inl less }

    -- no host's time is over
    pub none_ages : age v ≡ v
    none_ages = let none = over v (show moment k.world) alike shown.1 in λ i. record v { hosts = record v.hosts { hosts = none i } }

    pub moment_passes : v ≡ settle (age v)
    moment_passes = sym (ap settle none_ages ∙ same v (rest v (show moment k.world) alike shown.0))

-- ---- before anything happened

-- nothing is due, and nothing runs
first_rests : (until : ℕ) (conf : Configuration) → RestsUntil until (first conf)
first_rests until conf = λ m later before. (record { asks = refl; batches = λ dp runs c some. absurd (cc) }, refl)

-- nothing runs, and no plan is kept
first_held : (conf : Configuration) → AreHeld (first conf) []
first_held conf = record { fit = λ n. tt; there = λ dp runs c at. absurd (cc); shut = λ n none. refl }

pub first_settled : (w : World) (conf : Configuration) (held : List Held) → w ≡ first conf → held ≡ [] → IsSound (first conf) → HasSettled (record { world = w; plans = held; until = 2 ^ 64 - 1 })
first_settled w conf held is none sound = record {
  sound = subst IsSound (sym is) sound;
  in_order = subst AreInOrder (sym is) (record { numbers = tt; keys = tt });
  held = subst (λ (v : World). AreHeld v held) (sym is) (subst (AreHeld (first conf)) (sym none) (first_held conf));
  follow = subst (λ (hs : List Held). AllFollow w (Some []) hs) (sym none) tt;
  states = subst (λ (hs : List Held). AllByRecursion (λ h. IsValidState w.conf h.plan.state) hs) (sym none) tt;
  rests = subst (RestsUntil (2 ^ 64 - 1)) (sym is) (first_rests (2 ^ 64 - 1) conf);
  until = let same : 2 ^ 64 - 1 ≡ rests_until w = ap rests_until (sym is) in record { least = omega (arith, same); ahead = inr same };
}

-- what was said is nothing that a settling looks at
pub unsaid_settled : (k : Known) → HasSettled k → HasSettled (record k { world = record k.world { said = [] } })
unsaid_settled k settled = record {
  sound = record { valid = settled.sound.valid; hosts = settled.sound.hosts; neighbours = settled.sound.neighbours };
  in_order = record { numbers = settled.in_order.numbers; keys = settled.in_order.keys };
  held = record { fit = settled.held.fit; there = settled.held.there; shut = settled.held.shut };
  follow = settled.follow;
  states = settled.states;
  rests = λ m later before.
      let at = settled.rests m later before in
      (record { asks = at.0.asks; batches = at.0.batches }, at.1);
  until = record { least = settled.until.least; ahead = settled.until.ahead };
}
