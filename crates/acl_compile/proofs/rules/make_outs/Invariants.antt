use Rattle.std.proofs.Common.{◌≡◌, map, take}
use Rattle.plan_base.specs.Actions.{out}
use Rattle.acl_compile.proofs.rules.make_outs.Given as goal

-- by the ports so far
abbrev pub invariant-loop-port : goal.invariant-loop-port
invariant-loop-port l = l.actions ≡ map out (take l.port-index l.ports)
