use Rattle.std.proofs.Common.{◌≡◌, sym, ap, subst, ◌∙◌}
use Rattle.std.specs.Prelude.{min}
use Rattle.ctl_settle.specs.Rest.{RestsUntil, neighbours_until, rests_until}
use Rattle.ctl_settle.proofs.Until.{rests_so_long}
use Rattle.ctl_settle.proofs.resting.rests_until.Goals as goal

pub returns : goal.returns
returns c =
    let w = c.args.world.now in
    let hosts = c.hosts_until.ensures in
    let neighbours = c.neighbours_until.ensures ∙ ap neighbours_until c.list.ensures.value in
    let least : c.min.result ≡ rests_until w = c.min.ensures ∙ (λ i. min (hosts i) (neighbours i)) in
    record { exact = least; rests = λ rests. subst (λ moment. RestsUntil moment w) (sym least) (rests_so_long w rests) }
