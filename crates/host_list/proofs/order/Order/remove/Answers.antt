use Rattle.std.proofs.Common.{◌≡◌, sym, ap, ◌∙◌, subst, if◌then◌else◌}
use Rattle.host_list.specs.declared.addresses.Address.{Address}
use Rattle.host_list.specs.Addresses.{entries_at, is_address, off_place}
use Rattle.host_list.specs.Order.{IsIndexed}
use Rattle.host_list.proofs.Entries.{taken}
use Rattle.host_list.proofs.Indexed.{part, without}
use Rattle.host_list.proofs.order.Order.remove.Goals as goal

pub returns-in_default-clause-left : goal.returns-in_default-clause-left
returns-in_default-clause-left c = c.remove.ensures.entries ∙ taken c.args.place c.self.inside.hosts.entries c.self.invariant.rising ∙ ap (off_place c.args.place) c.self.view_is

pub count_out-requires : goal.count_out-requires
count_out-requires c =
    let o = c.self.inside in
    part o.next o.hosts.entries o.addresses o.counts o.shelves.items c.self.invariant c.args.place c.in-Some.host (sym c.remove.ensures.value ∙ c.in-Some.is)

pub invariant_of-self-2 : goal.invariant_of-self-2
invariant_of-self-2 c =
    let o = c.self.inside in
    let left = c.remove.ensures.entries ∙ taken c.args.place o.hosts.entries c.self.invariant.rising in
    let ats = subst (λ a. (q : Address) → entries_at c.take.new.addresses q ≡ (if is_address a q then off_place c.args.place (entries_at o.addresses q) else entries_at o.addresses q)) c.address_of.ensures c.take.ensures in
    subst (λ es. IsIndexed o.next es c.take.new.addresses c.count_out.new.counts o.shelves.items) (sym left)
    (without o.next o.hosts.entries o.addresses o.counts o.shelves.items c.self.invariant c.args.place c.in-Some.host (sym c.remove.ensures.value ∙ c.in-Some.is) c.take.new.addresses c.count_out.new.counts ats c.count_out.ensures)

pub returns-clause-left : goal.returns-clause-left
returns-clause-left c = c.remove.ensures.entries ∙ taken c.args.place c.self.inside.hosts.entries c.self.invariant.rising ∙ ap (off_place c.args.place) c.self.view_is
