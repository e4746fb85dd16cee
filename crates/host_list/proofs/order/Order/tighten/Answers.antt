use Rattle.std.proofs.Common.{sym, subst}
use Rattle.host_list.specs.Order.{IsIndexed}
use Rattle.host_list.proofs.Indexed.{tight}
use Rattle.host_list.proofs.order.Order.tighten.Goals as goal

pub invariant_of-self : goal.invariant_of-self
invariant_of-self c =
    let o = c.self.inside in
    subst (λ s. IsIndexed o.next o.hosts.entries o.addresses o.counts s) (sym c.tighten.ensures)
    (tight o.next o.hosts.entries o.addresses o.counts o.shelves.items c.self.invariant c.args.conf.now c.args.now.0)
