use Rattle.std.proofs.Common.{◌≡◌, rules, sym, ap, ◌∙◌, refl}
use Rattle.std.specs.Option.{option_copied_mut}
use Rattle.host_list.specs.Addresses.{entries_at, heard_at}
use Rattle.host_list.proofs.AtAddress.{absent}
use Rattle.host_list.proofs.addresses.refresh.Goals as goal

pub returns-in_default : goal.returns-in_default
returns-in_default c = λ q.
    let none = sym c.get_mut.ensures.value ∙ ap option_copied_mut c.in_default.is in
    let kept : entries_at c.get_mut.follows.lender-at-none q ≡ entries_at c.args.addresses.now q = search rules in
    kept ∙ absent c.args.addresses.now c.args.address.now none (heard_at c.args.place c.args.moment) refl q
