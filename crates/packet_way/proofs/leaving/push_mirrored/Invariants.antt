use Rattle.std.proofs.Common.{◌≡◌, ◌++◌, ◌&&◌, take, filter}
use Rattle.conf_types.specs.Membership.{is_mirror_of}
use Rattle.packet_way.specs.Leaving.{copies}
use Rattle.packet_way.proofs.leaving.push_mirrored.Given as goal

-- what is sent so far is that for the mirrors so far
abbrev pub invariant-loop-mirror : goal.invariant-loop-mirror
invariant-loop-mirror l = l.out ≡ l.fn.out ++ copies (filter (λ m. m.enabled && is_mirror_of m l.port) (take l.mirror-index l.mirror-items)) l.packet
