use Rattle.std.proofs.Common.{◌≤◌, length, subst, sym, ◌∙◌}
use Rattle.conf_types.specs.Configuration.{Configuration}
use Rattle.conf_limits.proofs.Gateways.{few_dps}
use Rattle.conf_limits.proofs.limits.find_passed_limit.Goals as goal

pub routing_limits-requires-clause-few : goal.routing_limits-requires-clause-few
routing_limits-requires-clause-few c =
    subst (λ (k : Configuration). length k.dps ≤ 64) c.in_ok-acls.ensures (few_dps (length c.in_ok-acls.acls.dps) _ (sym c.in_ok-found.ensures ∙ c.in_default.is))
