use Rattle.std.proofs.Common.{◌≡◌, ◌||◌, ◌&&◌, ◌<◌, ◌≤◌, ℕ, Bool, true, false, not, nat_le, refl, sym, ap, ◌∙◌, arith}
use Rattle.std.proofs.lemmas.Bool.{lt-ltb}
use Rattle.std.proofs.lemmas.Bool.Decides.{nat_tests}
use Rattle.conf_types.specs.declared.state.HostRec.{HostRec}
use Rattle.conf_types.specs.Configuration.{Configuration}
use Rattle.conf_types.specs.State.{forgotten_at, is_fresh, is_permanent, is_to_forget, stale_at}
use Rattle.ctl_settle.specs.Names.{is_other}
use Rattle.ctl_core.specs.Turning.{turns}
use Rattle.ctl_core.proofs.turned.turns.Goals as goal

le_false : (a b : ℕ) → b < a → nat_le a b ≡ false
le_false a b less = grind (arith, nat_tests)

always : (b : Bool) → (b || true) ≡ true
always true = refl
always false = refl

never : (b : Bool) → (b && false) ≡ false
never true = refl
never false = refl

-- a host that turns stale behind both moments doesn't turn between them
stays : (conf : Configuration) (before moment : ℕ) (h : HostRec) → before < stale_at conf h.dp h.learned.0 → moment < stale_at conf h.dp h.learned.0 → turns conf before moment h ≡ false
stays conf before moment h early late =
    let first : is_fresh conf before h ≡ true = ap (λ b. is_permanent conf h || b) (lt-ltb before (stale_at conf h.dp h.learned.0) early) ∙ always (is_permanent conf h) in
    let then : is_fresh conf moment h ≡ true = ap (λ b. is_permanent conf h || b) (lt-ltb moment (stale_at conf h.dp h.learned.0) late) ∙ always (is_permanent conf h) in
    let longer : stale_at conf h.dp h.learned.0 ≤ forgotten_at conf h.dp h.learned.0 = omega arith in
    let behind : moment < forgotten_at conf h.dp h.learned.0 = omega (arith, late, longer) in
    let kept : is_to_forget conf moment h ≡ false = ap (λ b. not (is_permanent conf h) && b) (le_false (forgotten_at conf h.dp h.learned.0) moment behind) ∙ never (not (is_permanent conf h)) in
    ap (λ b. is_other b (is_fresh conf moment h) || is_to_forget conf moment h) first ∙ ap (λ b. is_other true b || is_to_forget conf moment h) then ∙ kept

pub returns-then-latest-stale : goal.returns-then-latest-stale
returns-then-latest-stale c =
    let conf = c.args.conf.now in
    let h = c.args.host.now in
    let early : c.args.before.0 < stale_at conf h.dp h.learned.0 = omega (arith, c.if-latest-stale.true, c.max-latest.ensures, c.stale_at-stale.ensures) in
    let late : c.args.moment.0 < stale_at conf h.dp h.learned.0 = omega (arith, c.if-latest-stale.true, c.max-latest.ensures, c.stale_at-stale.ensures) in
    sym (stays conf c.args.before.0 c.args.moment.0 h early late)
