use Rattle.std.proofs.Common.{◌≡◌, [], take, drop}
use Rattle.bgp_messages.specs.Attributes.{attributes_fault}
use Rattle.bgp_messages.proofs.attribute.attributes_fault.Given as goal

abbrev pub invariant-loop-i : goal.invariant-loop-i
invariant-loop-i l = attributes_fault l.is_path (take l.i l.attributes) (drop l.i l.attributes) ≡ attributes_fault l.is_path [] l.attributes
