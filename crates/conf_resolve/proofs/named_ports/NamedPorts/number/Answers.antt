use Rattle.std.proofs.Common.{rules, ◌≡◌, true, false, ap, sym, ◌∙◌}
use Rattle.std.specs.BTreeMap.{get_by_text}
use Rattle.std.specs.BTreeSet.{contains}
use Rattle.std.specs.Ordering.{nat_cmp}
use Rattle.conf_types.specs.declared.acl.PortRef.TheVariants.{Name}
use Rattle.conf_shape.specs.declared.raw.RawDp.{RawDp}
use Rattle.conf_resolve.specs.Resolved.{number_named}
use Rattle.conf_resolve.proofs.Found.{number_by}
use Rattle.conf_resolve.proofs.named_ports.NamedPorts.number.Goals as goal

pub returns-then-contains : goal.returns-then-contains
returns-then-contains c =
    let number : c.from.result ≡ c.in-No.no = search rules in
    number_by c.self.inside.dp.now c.args.self.now c.self.inside.numbers c.self.inside.names c.in-No.no true c.self.invariant c.self.view_is
    (ap (contains nat_cmp c.self.inside.numbers) (sym number) ∙ sym c.contains.ensures ∙ c.if-contains.true)
    ∙ ap (number_named c.args.self.now) (sym c.in-No.is)

pub returns-else-contains : goal.returns-else-contains
returns-else-contains c =
    let number : c.from.result ≡ c.in-No.no = search rules in
    number_by c.self.inside.dp.now c.args.self.now c.self.inside.numbers c.self.inside.names c.in-No.no false c.self.invariant c.self.view_is
    (ap (contains nat_cmp c.self.inside.numbers) (sym number) ∙ sym c.contains.ensures ∙ c.if-contains.false)
    ∙ ap (number_named c.args.self.now) (sym c.in-No.is)

pub returns-in-Name : goal.returns-in-Name
returns-in-Name c =
    c.copied.ensures ∙ c.get-in-Name.ensures.value ∙ ap (get_by_text c.self.inside.names) c.as_str.ensures ∙ c.self.invariant.named.first c.in-Name.name
    ∙ ap (λ (d : RawDp). number_named d (Name c.in-Name.name)) c.self.view_is
    ∙ ap (number_named c.args.self.now) (sym c.in-Name.is)
