-- What holds behind the asks of a settling, and of the plans that are brought up then.
use Rattle.std.proofs.Common.{◌≡◌, true, List, sym, subst, ◌∙◌}
use Rattle.std.specs.List.{AllByRecursion}
use Rattle.net_base.specs.declared.numbers.DpId.{DpId}
use Rattle.conf_types.specs.State.{is_running}
use Rattle.neighbour_resolve.specs.Asks.{in_order}
use Rattle.neighbour_resolve.proofs.Order.{order_same}
use Rattle.ctl_world.specs.World.{World, running}
use Rattle.ctl_settle.specs.declared.plans.Held.{Held}
use Rattle.ctl_settle.specs.Plans.{AreBrought, Fit, brought}
use Rattle.ctl_settle.specs.Rest.{AreInOrder}
use Rattle.ctl_settle.specs.Settling.{ask_all}
use Rattle.ctl_settle.proofs.Fitting.{all_brought}
use Rattle.ctl_settle.proofs.Settled.{all_run}
use Rattle.ctl_settle.proofs.Taking.{asks_fit}
use Rattle.ctl_settle.proofs.Waiting.{asks_ordered}

module _ (w v : World) (asked : v ≡ ask_all w) (order : AreInOrder w) where
  pub asked_in_order : AreInOrder v
  asked_in_order = let both = asks_ordered w order.numbers order.keys in subst AreInOrder (sym asked) (record { numbers = both.0; keys = both.1 })

  pub asked_brought : (held left : List Held) → Fit w.conns held → left ≡ brought v held → AreBrought v left
  asked_brought held left fit is =
      subst (λ hs. AreBrought v hs) (sym is) (all_brought v held asked_in_order.numbers (subst (λ (u : World). Fit u.conns held) (sym asked) (asks_fit held w fit)))

-- the datapaths that run, by identifier, run
pub all_in_order : (w : World) (dps : List DpId) → dps ≡ in_order (running w) → AllByRecursion (λ dp. is_running (running w) dp ≡ true) dps
all_in_order w dps is =
    subst (λ ids. AllByRecursion (λ (dp : DpId). is_running (running w) dp ≡ true) ids) (sym is)
    (all_run (running w) (in_order (running w)) (λ dp runs. sym (order_same (running w) dp) ∙ runs))
