use Rattle.std.proofs.Common.{rules, ◌≡◌, ℕ, ◌==◌, ◌||◌, ◌∙◌, ap}
use Rattle.std.specs.BTreeSet.{contains}
use Rattle.std.specs.Ordering.{nat_cmp}
use Rattle.conf_resolve.proofs.Found.{next_port}
use Rattle.conf_resolve.proofs.named_ports.NamedPorts.of.Goals as goal

pub loop-port-preserved : goal.loop-port-preserved
loop-port-preserved c =
    let number : c.from.result ≡ c.port-item.result.no = search rules in
    next_port c.args.dp.now.ports c.as_slice-port-items.result.now c.loop-port.port-index c.port-item.result c.loop-port.numbers c.see_number.new.seen c.loop-port.names c.add_first.new.values
    c.as_slice-port-items.ensures c.loop-port-test.true c.port-item.is c.loop-port.invariant
    (λ n. c.in_ok-see_number.ensures.is n ∙ ap (λ (m : ℕ). contains nat_cmp c.loop-port.numbers n || m == n) number) c.in_ok-add_first.ensures
