use Rattle.std.proofs.Common.{◌≡◌, rules, sym, ap, ◌∙◌, subst, if◌then◌else◌}
use Rattle.std.specs.Option.{option_copied_mut}
use Rattle.conf_types.specs.declared.state.HostRec.{HostRec}
use Rattle.host_list.specs.declared.addresses.Address.{Address}
use Rattle.host_list.specs.Addresses.{entries_at, heard_at, is_address}
use Rattle.host_list.specs.Order.{IsIndexed}
use Rattle.host_list.proofs.Entries.{heard, heard_other, none_there}
use Rattle.host_list.proofs.Indexed.{again}
use Rattle.host_list.proofs.order.Order.refresh.Goals as goal

pub returns-in_default : goal.returns-in_default
returns-in_default c =
    let o = c.self.inside in
    let n = c.args.place in
    let none = sym c.get_mut.ensures.value ∙ ap option_copied_mut c.in_default.is in
    let kept : c.get_mut.follows.lender-at-none.entries ≡ o.hosts.entries = search rules in
    kept ∙ sym (heard_other n c.args.moment o.hosts.entries (none_there n o.hosts.entries none)) ∙ ap (heard_at n c.args.moment) c.self.view_is

pub invariant_of-self-2 : goal.invariant_of-self-2
invariant_of-self-2 c =
    let o = c.self.inside in
    let n = c.args.place in
    let m = c.args.moment in
    let host = c.in-Some.host.now in
    let new : HostRec = record host { learned = m } in
    let found = sym c.get_mut.ensures.value ∙ ap option_copied_mut c.in-Some.is in
    let written = (c.get_mut.follows.holds new).0 ∙ heard n m o.hosts.entries host c.self.invariant.rising found in
    let ats = subst (λ a. (q : Address) → entries_at c.refresh.new.addresses q ≡ (if is_address a q then heard_at n m (entries_at o.addresses q) else entries_at o.addresses q)) c.address_of-address.ensures c.refresh.ensures in
    subst (λ es. IsIndexed o.next es c.refresh.new.addresses o.counts c.hear.new.shelves.items) (sym written)
    (subst (λ s. IsIndexed o.next (heard_at n m o.hosts.entries) c.refresh.new.addresses o.counts s) (sym c.hear.ensures)
    (again o.next o.hosts.entries o.addresses o.counts o.shelves.items c.self.invariant n host m found c.refresh.new.addresses ats))

pub returns : goal.returns
returns c =
    let found = sym c.get_mut.ensures.value ∙ ap option_copied_mut c.in-Some.is in
    (c.get_mut.follows.holds (record c.in-Some.host.now { learned = c.args.moment })).0
    ∙ heard c.args.place c.args.moment c.self.inside.hosts.entries c.in-Some.host.now c.self.invariant.rising found
    ∙ ap (heard_at c.args.place c.args.moment) c.self.view_is
