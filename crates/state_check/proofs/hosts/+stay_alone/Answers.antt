use Rattle.std.proofs.Common.{◌≡◌, true, sym, true≢false, ◌∙◌}
use Rattle.conf_types.specs.State.{is_permanent, is_host_at}
use Rattle.state_check.proofs.Before.{each_before, each_first}
use Rattle.state_check.proofs.hosts.+stay_alone.Goals as goal

pub returns-then-stays_alone : goal.returns-then-stays_alone
returns-then-stays_alone t c = (
  λ more. each_before (λ a b. is_permanent c.args.conf.now a ≡ true → is_host_at a.dp a.port b ≡ true → a.vid ≡ b.vid → ⊥) c.args.hosts.now c.host-item.result c.in-len1-up.len_at_least c.host-item.is (c.stays_alone.ensures.0 c.if-stays_alone.true) (c.stay_alone.ensures.0 more),
  λ all. c.stay_alone.ensures.1 (each_first (λ a b. is_permanent c.args.conf.now a ≡ true → is_host_at a.dp a.port b ≡ true → a.vid ≡ b.vid → ⊥) c.args.hosts.now c.host-item.result c.in-len1-up.len_at_least c.host-item.is all).1,
)

pub returns-else-stays_alone : goal.returns-else-stays_alone
returns-else-stays_alone t c = (
  λ yes. absurd (true≢false (sym yes ∙ c.if-stays_alone.false)),
  λ all. c.stays_alone.ensures.1 (each_first (λ a b. is_permanent c.args.conf.now a ≡ true → is_host_at a.dp a.port b ≡ true → a.vid ≡ b.vid → ⊥) c.args.hosts.now c.host-item.result c.in-len1-up.len_at_least c.host-item.is all).0,
)
