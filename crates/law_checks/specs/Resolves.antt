-- The names of a raw configuration that stand for something.
use Rattle.std.specs.Prelude.{◌≡◌, [], IsTrue, IfSome, is_some}
use Rattle.std.specs.List.{AllByRecursion}
use Rattle.conf_shape.specs.declared.raw.RawDp.{RawDp}
use Rattle.conf_shape.specs.declared.raw.RawPort.{RawPort}
use Rattle.conf_resolve.specs.declared.ordered.OrderedConf.{OrderedConf}
use Rattle.conf_resolve.specs.Resolved.{items_of, number_named, far_end}
use Rattle.conf_rules.specs.Names.{unknown_vlans}

-- of an interface: the mirrored ports are interfaces of its datapath, and the far end is one of another
pub record PortResolves (o : OrderedConf) (d : RawDp) (p : RawPort) : Type 0 where
  pub mirrored : AllByRecursion (λ name. IsTrue (is_some (number_named d name))) (items_of p.mirror)
  pub far_end : IfSome p.stack (λ end. IsTrue (is_some (far_end o.dps end)))

pub record Resolves (o : OrderedConf) : Type 0 where
  pub vlans : unknown_vlans o ≡ []
  pub ports : AllByRecursion (λ d. AllByRecursion (PortResolves o d) d.ports) o.dps
