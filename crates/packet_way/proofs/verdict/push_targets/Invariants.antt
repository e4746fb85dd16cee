use Rattle.std.proofs.Common.{◌≡◌, ◌++◌, ◌&&◌, ◌==◌, not, take, filter}
use Rattle.packet_way.specs.Leaving.{copies}
use Rattle.packet_way.specs.Verdict.{names_port}
use Rattle.packet_way.proofs.verdict.push_targets.Given as goal

-- what is sent so far is that for the ports so far
abbrev pub invariant-loop-target : goal.invariant-loop-target
invariant-loop-target l = l.out ≡ l.fn.out ++ copies (filter (λ q. q.enabled && names_port l.rule q && not (q.no == l.port)) (take l.target-index l.target-items)) l.packet
