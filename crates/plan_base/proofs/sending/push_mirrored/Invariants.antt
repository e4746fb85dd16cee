use Rattle.std.proofs.Common.{◌≡◌, ◌++◌, ◌&&◌, take, filter}
use Rattle.conf_types.specs.Membership.{is_mirror_of}
use Rattle.plan_base.specs.Sending.{outs}
use Rattle.plan_base.proofs.sending.push_mirrored.Given as goal

-- copies by the mirrors among the interfaces so far
abbrev pub invariant-loop-mirror : goal.invariant-loop-mirror
invariant-loop-mirror l = l.actions ≡ l.fn.actions ++ outs (filter (λ m. m.enabled && is_mirror_of m l.port) (take l.mirror-index l.mirror-items))
