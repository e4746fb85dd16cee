use Rattle.std.proofs.Common.{sym, true≢false, ◌∙◌}
use Rattle.conf_types.specs.State.{IsSameHost}
use Rattle.state_check.proofs.Before.{each_before, each_first}
use Rattle.state_check.proofs.hosts.+have_own_keys.Goals as goal

pub returns-then-has_own_key : goal.returns-then-has_own_key
returns-then-has_own_key t c = (
  λ more. each_before (λ a b. IsSameHost c.args.conf.now a b → ⊥) c.args.hosts.now c.host-item.result c.in-len1-up.len_at_least c.host-item.is (c.has_own_key.ensures.0 c.if-has_own_key.true) (c.have_own_keys.ensures.0 more),
  λ all. c.have_own_keys.ensures.1 (each_first (λ a b. IsSameHost c.args.conf.now a b → ⊥) c.args.hosts.now c.host-item.result c.in-len1-up.len_at_least c.host-item.is all).1,
)

pub returns-else-has_own_key : goal.returns-else-has_own_key
returns-else-has_own_key t c = (
  λ yes. absurd (true≢false (sym yes ∙ c.if-has_own_key.false)),
  λ all. c.has_own_key.ensures.1 (each_first (λ a b. IsSameHost c.args.conf.now a b → ⊥) c.args.hosts.now c.host-item.result c.in-len1-up.len_at_least c.host-item.is all).0,
)
