-- What is kept of each unit, as units are taken out and added.
use Rattle.std.proofs.Common.{◌≡◌, ◌∙◌, ◌⊎◌, inl, inr, Bool, true, false, List, [], ◌∷◌, map, refl, sym, ap, subst, arith}
use Rattle.std.specs.Prelude.{Contains, if◌then◌else◌}
use Rattle.std.specs.List.{AllByRecursion}
use Rattle.std.specs.Cmp.{Equal-is}
use Rattle.std.specs.Ordering.{is_eq}
use Rattle.std.proofs.lemmas.Cmp.{tied_itself}
use Rattle.of_match.specs.declared.entry.Command.TheVariants.{DeleteStrict}
use Rattle.of_match.specs.declared.entry.Entry.{Entry}
use Rattle.of_match.specs.declared.entry.Key.{Key}
use Rattle.of_match.specs.FlowTables.{IsInKeyOrder}
use Rattle.conf_types.specs.declared.datapath.Dp.{Dp}
use Rattle.conf_types.specs.Configuration.{Configuration}
use Rattle.conf_types.specs.State.{State}
use Rattle.plan_units.specs.declared.unit.Unit.{Unit as PlanUnit}
use Rattle.plan_units.specs.Order.{unit_cmp, unit_total, exact_units}
use Rattle.plan_units.specs.Units.{entries}
use Rattle.cold_start.proofs.Permuted.{order_after_all}
use Rattle.law_runs.specs.Members.{head_of, tail_of}
use Rattle.warm_plan.specs.Units.{put}
use Rattle.warm_plan.specs.Parts.{keys_of, parts_without, without, without_units, parts_with}
use Rattle.warm_plan.proofs.Commands.{of_cons, without_in, of_without}

-- ---- one unit

pub same_unit : (u w : PlanUnit) → is_eq (unit_cmp u w) ≡ true → u ≡ w
same_unit u w is = exact_units u w ((Equal-is (unit_cmp u w)).0 is)

module _ {A : Type 0} (kept : PlanUnit → A) (u : PlanUnit) (it : A) where
  pub put_here : put kept u it u ≡ it
  put_here = ap (λ o. if is_eq o then it else kept u) (tied_itself unit_total u)

  -- what holds of what is put, and of what was there, of one unit
  pub put_at : (P : A → Type 0) (w : PlanUnit) → (u ≡ w → P it) → P (kept w) → P (put kept u it w)
  put_at P w here other = by (is_eq (unit_cmp u w)) refl
    where
      by : (b : Bool) → is_eq (unit_cmp u w) ≡ b → P (if b then it else kept w)
      by true is = here (same_unit u w is)
      by false is = other

  -- and so it is of all
  pub put_all : (P : PlanUnit → A → Type 0) → P u it → ((w : PlanUnit) → P w (kept w)) → (w : PlanUnit) → P w (put kept u it w)
  put_all P here others w = put_at (P w) w (λ same. subst (λ (x : PlanUnit). P x it) same here) (others w)

  pub put_other : (w : PlanUnit) → (u ≡ w → ⊥) → put kept u it w ≡ kept w
  put_other w other = by (is_eq (unit_cmp u w)) refl
    where
      by : (b : Bool) → is_eq (unit_cmp u w) ≡ b → (if b then it else kept w) ≡ kept w
      by true is = absurd (other (same_unit u w is))
      by false is = refl

-- ---- units that are taken out

pub without_all : (P : PlanUnit → List Key → Type 0) → ((u : PlanUnit) → P u []) → (us : List PlanUnit) (parts : PlanUnit → List Key) → ((u : PlanUnit) → P u (parts u)) → (u : PlanUnit) → P u (parts_without parts us u)
without_all P none [] parts all u = all u
without_all P none (v ∷ us) parts all u = without_all P none us (put parts v []) (put_all parts v [] P (none v) all) u

pub without_others : (us : List PlanUnit) (parts : PlanUnit → List Key) (u : PlanUnit) → (Contains us u → ⊥) → parts_without parts us u ≡ parts u
without_others [] parts u out = refl
without_others (v ∷ us) parts u out =
    without_others us (put parts v []) u (λ c. out (tail_of v us u c)) ∙ put_other parts v [] u (λ same. out (subst (Contains (v ∷ us)) same (head_of v us)))

abbrev pub HasNone : List Key → Entry → Type 0
HasNone keys e = AllByRecursion (λ k. e.key ≡ k → ⊥) keys

-- an entry stays where its key isn't kept of a unit that is taken out
pub units_stay : (us : List PlanUnit) (parts : PlanUnit → List Key) (t : List Entry) (e : Entry) → Contains t e → ((u : PlanUnit) → Contains us u → HasNone (parts u) e) → Contains (without_units parts t us) e
units_stay [] parts t e c none = c
units_stay (v ∷ us) parts t e c none =
    units_stay us (put parts v []) (without t (parts v)) e (without_in (parts v) t e c (none v (head_of v us)))
    (λ u there. by u there (is_eq (unit_cmp v u)))
  where
    by : (u : PlanUnit) → Contains us u → (b : Bool) → HasNone (if b then [] else parts u) e
    by u there true = tt
    by u there false = none u (tail_of v us u there)

-- and only there
pub units_left : (us : List PlanUnit) (parts : PlanUnit → List Key) (t : List Entry) (e : Entry) → Contains (without_units parts t us) e → Contains t e × ((u : PlanUnit) → Contains us u → HasNone (parts u) e)
units_left [] parts t e c = (c, λ u there. none u there)
  where
    none : (u : PlanUnit) → Contains [] u → HasNone (parts u) e
    none u (k, lt, is) = absurd (omega (arith, lt))
units_left (v ∷ us) parts t e c =
    let more = units_left us (put parts v []) (without t (parts v)) e c in
    let here = of_without (parts v) t e more.0 in
    (here.0, λ u there. by more.1 here.1 u (of_cons v us u there))
  where
    other : (u : PlanUnit) → HasNone (parts v) e → HasNone (put parts v [] u) e → HasNone (parts u) e
    other u first rest = at (is_eq (unit_cmp v u)) refl rest
      where
        at : (b : Bool) → is_eq (unit_cmp v u) ≡ b → HasNone (if b then [] else parts u) e → HasNone (parts u) e
        at true is none = subst (λ (w : PlanUnit). HasNone (parts w) e) (same_unit v u is) first
        at false is none = none

    by : ((u : PlanUnit) → Contains us u → HasNone (put parts v [] u) e) → HasNone (parts v) e → (u : PlanUnit) → (v ≡ u) ⊎ Contains us u → HasNone (parts u) e
    by rest first u (inl same) = subst (λ (w : PlanUnit). HasNone (parts w) e) same first
    by rest first u (inr there) = other u first (rest u there)

pub units_order : (us : List PlanUnit) (parts : PlanUnit → List Key) (t : List Entry) → IsInKeyOrder t → IsInKeyOrder (without_units parts t us)
units_order [] parts t order = order
units_order (v ∷ us) parts t order = units_order us (put parts v []) (without t (parts v)) (order_after_all t (map DeleteStrict (parts v)) order)

-- ---- units that are added

module _ (conf : Configuration) (now : State) (d : Dp) where
  abbrev its : PlanUnit → List Key
  its u = keys_of (entries conf now d u)

  pub with_all : (P : PlanUnit → List Key → Type 0) → ((u : PlanUnit) → P u (its u)) → (us : List PlanUnit) (parts : PlanUnit → List Key) → ((u : PlanUnit) → P u (parts u)) → (u : PlanUnit) → P u (parts_with conf now d parts us u)
  with_all P made [] parts all u = all u
  with_all P made (v ∷ us) parts all u = with_all P made us (put parts v (its v)) (put_all parts v (its v) P (made v) all) u

  pub with_others : (us : List PlanUnit) (parts : PlanUnit → List Key) (u : PlanUnit) → (Contains us u → ⊥) → parts_with conf now d parts us u ≡ parts u
  with_others [] parts u out = refl
  with_others (v ∷ us) parts u out =
      with_others us (put parts v (its v)) u (λ c. out (tail_of v us u c)) ∙ put_other parts v (its v) u (λ same. out (subst (Contains (v ∷ us)) same (head_of v us)))

  -- once its own keys are there they stay
  with_kept : (us : List PlanUnit) (parts : PlanUnit → List Key) (u : PlanUnit) → parts u ≡ its u → parts_with conf now d parts us u ≡ its u
  with_kept [] parts u is = is
  with_kept (v ∷ us) parts u is = with_kept us (put parts v (its v)) u (by (is_eq (unit_cmp v u)) refl)
    where
      by : (b : Bool) → is_eq (unit_cmp v u) ≡ b → (if b then its v else parts u) ≡ its u
      by true same = ap its (same_unit v u same)
      by false same = is

  pub with_own : (us : List PlanUnit) (parts : PlanUnit → List Key) (u : PlanUnit) → Contains us u → parts_with conf now d parts us u ≡ its u
  with_own [] parts u (k, lt, is) = absurd (omega (arith, lt))
  with_own (v ∷ us) parts u c = elim (of_cons v us u c) [
    | inl same ↦ with_kept us (put parts v (its v)) u (ap (put parts v (its v)) (sym same) ∙ put_here parts v (its v) ∙ ap its same)
    | inr more ↦ with_own us (put parts v (its v)) u more
  ]
