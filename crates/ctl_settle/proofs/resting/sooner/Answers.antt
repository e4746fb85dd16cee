use Rattle.std.proofs.Common.{◌≡◌, ◌≤◌, ℕ, true, false, ap, ◌∙◌, arith, if◌then◌else◌}
use Rattle.conf_types.specs.declared.state.HostRec.{HostRec}
use Rattle.conf_types.specs.Configuration.{Configuration}
use Rattle.conf_types.specs.State.{forgotten_at, is_fresh, is_permanent, stale_at}
use Rattle.neighbour_resolve.specs.Due.{never}
use Rattle.ctl_settle.specs.Rest.{host_until}
use Rattle.ctl_settle.proofs.resting.sooner.Goals as goal

-- no host's moment comes before it turns stale
not_before : (conf : Configuration) (moment : ℕ) (h : HostRec) (least : ℕ) → least ≤ never → least ≤ stale_at conf h.dp h.learned.0 → least ≤ host_until conf moment h
not_before conf moment h least most before =
    elim (is_permanent conf h) as (λ b. least ≤ (if b then never else if is_fresh conf moment h then stale_at conf h.dp h.learned.0 else forgotten_at conf h.dp h.learned.0)) [
      | true ↦ most
      | false ↦ elim (is_fresh conf moment h) as (λ b. least ≤ (if b then stale_at conf h.dp h.learned.0 else forgotten_at conf h.dp h.learned.0)) [ true ↦ before | false ↦ omega (arith, before) ]
    ]

pub returns-then-least-stale : goal.returns-then-least-stale
returns-then-least-stale c =
    let most : c.args.least ≤ never = omega (arith, c.ranges.least.fits) in
    let before : c.args.least ≤ stale_at c.args.conf.now c.args.host.now.dp c.args.host.now.learned.0 = omega (arith, c.if-least-stale.true, c.stale_at-stale.ensures) in
    let within = not_before c.args.conf.now c.args.now.0 c.args.host.now c.args.least most before in
    omega (arith, within)
