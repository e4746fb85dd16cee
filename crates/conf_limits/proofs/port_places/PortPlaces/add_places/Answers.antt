use Rattle.std.proofs.Common.{rules}
use Rattle.conf_types.specs.declared.acl.PortRef.{PortRef}
use Rattle.conf_types.specs.Attached.{is_named}
use Rattle.conf_limits.specs.PortPlaces.{stands_at}
use Rattle.conf_limits.proofs.PortPlaces.{named_more}
use Rattle.conf_limits.proofs.port_places.PortPlaces.add_places.Goals as goal

pub loop-name-preserved : goal.loop-name-preserved
loop-name-preserved c = λ at.
    named_more (λ (name : PortRef). stands_at 0 c.args.self.now.dp.now.ports (is_named name) at) c.args.names.now c.loop-name.name-index at c.name-item.result _ _ _ _ c.loop-name-test.true c.name-item.is (c.loop-name.invariant at) (c.places.ensures at) (search rules)
