use Rattle.std.proofs.Common.{◌≡◌, ℕ, count_by, take}
use Rattle.conf_types.specs.Membership.{is_mirror_of}
use Rattle.conf_limits.specs.Mirrors.{times}
use Rattle.conf_limits.proofs.mirrored.count_mirrors.Given as goal

-- those so far are counted
abbrev pub invariant-loop-port : goal.invariant-loop-port
invariant-loop-port l = (n : ℕ) → times l.counts n ≡ count_by (λ m. is_mirror_of m n) (take l.port-index l.ports)
