-- The cold start as tables, from the plan.
use Rattle.std.proofs.Common.{◌≡◌, List, [], ◌∷◌, map, IsPermutation, ◌∙◌}
use Rattle.std.specs.Prelude.{Contains}
use Rattle.std.specs.List.{AllByRecursion}
use Rattle.std.proofs.lemmas.List.Sorted.{IsPermutation-sym, Contains-permutation}
use Rattle.of_match.specs.declared.entry.Command.TheVariants.{Add, DeleteAll}
use Rattle.of_match.specs.declared.entry.Entry.{Entry}
use Rattle.of_match.specs.FlowTables.{IsInKeyOrder}
use Rattle.of_match.specs.Settled.{SettlesInTurn}
use Rattle.conf_types.specs.declared.datapath.Dp.{Dp}
use Rattle.conf_types.specs.Configuration.{Configuration}
use Rattle.conf_types.specs.State.{State}
use Rattle.law_runs.specs.Members.{of_all, all_by}
use Rattle.plan_base.specs.Accepted.{IsFlowEntry}
use Rattle.plan_units.specs.Laws.{IsSetting}
use Rattle.plan_units.specs.Units.{plan}
use Rattle.cold_start.specs.Cold.{cold}
use Rattle.cold_start.proofs.Accepted.{plan_is_accepted}
use Rattle.cold_start.proofs.Distinct.{plan_differs}
use Rattle.cold_start.proofs.Opened.{opened}
use Rattle.cold_start.proofs.Permuted.{order_after_all, added_permuted}
use Rattle.cold_start.proofs.Sorted.{added, ordered_distinct}

module _ (conf : Configuration) (now : State) (d : Dp) where
  pub cold_order : IsInKeyOrder (cold conf now d)
  unfolding cold
  cold_order = order_after_all [] (map Add (plan conf now d)) tt

  pub cold_opened : (held settled : List Entry) → SettlesInTurn held ((DeleteAll ∷ []) ∷ map Add (cold conf now d) ∷ []) settled → settled ≡ cold conf now d
  cold_opened held settled turn = opened (cold conf now d) (ordered_distinct (cold conf now d) cold_order) held settled turn ∙ added [] (cold conf now d) cold_order

  module _ (s : IsSetting conf now d) where
    pub cold_same : IsPermutation (plan conf now d) (cold conf now d)
    unfolding cold
    cold_same = added_permuted [] (plan conf now d) (plan_differs conf now d s)

    back : (e : Entry) → Contains (cold conf now d) e → Contains (plan conf now d) e
    back e c = Contains-permutation (cold conf now d) (plan conf now d) e (IsPermutation-sym (plan conf now d) (cold conf now d) cold_same) c

    pub cold_is_accepted : AllByRecursion IsFlowEntry (cold conf now d)
    cold_is_accepted = all_by IsFlowEntry (cold conf now d) (λ e c. of_all IsFlowEntry (plan conf now d) (plan_is_accepted conf now d s) e (back e c))
