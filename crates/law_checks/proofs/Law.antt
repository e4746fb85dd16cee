-- What breaks no rule is valid.
use Rattle.std.specs.Prelude.{◌≡◌, []}
use Rattle.conf_types.specs.Valid.{IsValid}
use Rattle.conf_shape.specs.declared.raw.RawConf.{RawConf}
use Rattle.conf_resolve.specs.InOrder.{ordered}
use Rattle.conf_resolve.specs.InRange.{IsInRange}
use Rattle.conf_resolve.specs.Resolved.{resolved}
use Rattle.conf_rules.specs.Rules.{faults}
use Rattle.law_checks.proofs.Acls.{acls_valid}
use Rattle.law_checks.proofs.Datapaths.{datapaths_valid}
use Rattle.law_checks.proofs.Limits.{limits_valid}
use Rattle.law_checks.proofs.Links.{mirrors_valid, stacks_valid}
use Rattle.law_checks.proofs.Routers.{routing_valid}
use Rattle.law_checks.proofs.Unbroken.{unbroken}
use Rattle.law_checks.proofs.Vlans.{vlans_valid}

pub law : (raw : RawConf) → IsInRange raw → faults (ordered raw) (resolved (ordered raw)) ≡ [] → IsValid (resolved (ordered raw))
law raw range none = let whole = unbroken (ordered raw) (resolved (ordered raw)) none in record {
  vlans = vlans_valid raw range whole;
  datapaths = datapaths_valid raw range whole;
  acls = acls_valid raw range whole;
  mirrors = mirrors_valid (ordered raw) whole.mirrors;
  stacks = stacks_valid (ordered raw) whole.stacks;
  routing = routing_valid raw range whole;
  limits = limits_valid (ordered raw) whole.limits;
}
