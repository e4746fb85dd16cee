use Rattle.law_rules.proofs.PortLimits.{dp_ids, vids, port_numbers, router_vids}
use Rattle.law_rules.proofs.limits.parts_are_counted_by_their_numbers.Goals as goal

pub returns-clause-dps : goal.returns-clause-dps
returns-clause-dps c = λ conf told. dp_ids conf told

pub returns-clause-vlans : goal.returns-clause-vlans
returns-clause-vlans c = λ conf told. vids conf told

pub returns-clause-ports : goal.returns-clause-ports
returns-clause-ports c = λ conf told d i. port_numbers conf told d i

pub returns-clause-router_vlans : goal.returns-clause-router_vlans
returns-clause-router_vlans c = λ conf told r i. router_vids conf told r i
