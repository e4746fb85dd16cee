-- One neighbour more that is due, and none.
use Rattle.std.proofs.Common.{◌≡◌, ℕ, suc, ◌+◌, ◌-◌, ◌<◌, Some, None, List, [], ◌∷◌, ◌++◌, append-nil, append_assoc, refl, inl, inr, sym, ap, ◌∙◌, arith}
use Rattle.std.specs.Option.{option_map, option_map_or}
use Rattle.std.proofs.lemmas.Bool.{cases_Bool}
use Rattle.conf_types.specs.declared.change.Change.{Change}
use Rattle.conf_types.specs.declared.state.NeighRec.{NeighRec}
use Rattle.conf_types.specs.Configuration.{Configuration}
use Rattle.neighbour_resolve.specs.declared.neighbour.Due.{Due}
use Rattle.neighbour_resolve.specs.Due.{after_due, is_due, due_said, said_of}
use Rattle.ctl_world.specs.World.{World}
use Rattle.ctl_settle.specs.Asked.{asked, lost}
use Rattle.ctl_settle.specs.Settling.{ask_due, say_due, take_due}
use Rattle.ctl_settle.specs.Touched.{MayDiffer}

none_after : (conf : Configuration) (moment : ℕ) (neighbours : List NeighRec) → due_said conf moment neighbours ≡ None → after_due conf moment neighbours ≡ neighbours
none_after conf moment [] none = refl
none_after conf moment (n ∷ more) none =
    elim (cases_Bool (is_due moment n)) [
      | inl here ↦ let e : Some (said_of conf moment n) ≡ None = rw here at none in absurd (cc)
      | inr other ↦ rw other (ap (λ ns. n ∷ ns) (none_after conf moment more (rw other at none)))
    ]

module _ (most i : ℕ) (w : World) (within : i < most) where
  one_more : ask_due (most - i) w ≡ option_map_or (λ due. ask_due (most - (i + 1)) (say_due due (take_due w))) (due_said w.conf w.moment.0 w.neighbours.neighbours) w
  one_more = let e : most - i ≡ suc (most - (i + 1)) = omega arith in ap (λ (k : ℕ). ask_due k w) e

  pub due_some : (due : Due) → due_said w.conf w.moment.0 w.neighbours.neighbours ≡ Some due → ask_due (most - i) w ≡ ask_due (most - (i + 1)) (say_due due (take_due w))
  due_some due some = one_more ∙ ap (λ o. option_map_or (λ due. ask_due (most - (i + 1)) (say_due due (take_due w))) o w) some

  pub due_none : due_said w.conf w.moment.0 w.neighbours.neighbours ≡ None → ask_due (most - i) w ≡ take_due w
  due_none none =
      one_more ∙ ap (λ o. option_map_or (λ due. ask_due (most - (i + 1)) (say_due due (take_due w))) o w) none
      ∙ ap (λ (ns : List NeighRec). record w { neighbours = record w.neighbours { neighbours = ns } }) (sym (none_after w.conf w.moment.0 w.neighbours.neighbours none))

  -- ---- what they touch

  one_touched : asked (most - i) w ≡ option_map_or (λ due. lost w due ++ asked (most - (i + 1)) (say_due due (take_due w))) (due_said w.conf w.moment.0 w.neighbours.neighbours) []
  one_touched = let e : most - i ≡ suc (most - (i + 1)) = omega arith in ap (λ (k : ℕ). asked k w) e

  pub touched_some : (due : Due) → due_said w.conf w.moment.0 w.neighbours.neighbours ≡ Some due → asked (most - i) w ≡ lost w due ++ asked (most - (i + 1)) (say_due due (take_due w))
  touched_some due some = one_touched ∙ ap (λ o. option_map_or (λ due. lost w due ++ asked (most - (i + 1)) (say_due due (take_due w))) o []) some

  pub touched_none : due_said w.conf w.moment.0 w.neighbours.neighbours ≡ None → asked (most - i) w ≡ []
  touched_none none = one_touched ∙ ap (λ o. option_map_or (λ due. lost w due ++ asked (most - (i + 1)) (say_due due (take_due w))) o []) none

-- with changes behind those that may differ, and more behind them
abbrev pub with_more : List Change → MayDiffer → MayDiffer
with_more changes may = option_map (λ first. first ++ changes) may

pub more_and_more : (xs ys : List Change) (may : MayDiffer) → with_more ys (with_more xs may) ≡ with_more (xs ++ ys) may
more_and_more xs ys None = refl
more_and_more xs ys (Some first) = ap Some (append_assoc first xs ys)

pub no_more : (may : MayDiffer) → with_more [] may ≡ may
no_more None = refl
no_more (Some first) = ap Some (append-nil first)

pub none_taken : (w : World) → due_said w.conf w.moment.0 w.neighbours.neighbours ≡ None → take_due w ≡ w
none_taken w none = ap (λ (ns : List NeighRec). record w { neighbours = record w.neighbours { neighbours = ns } }) (none_after w.conf w.moment.0 w.neighbours.neighbours none)
