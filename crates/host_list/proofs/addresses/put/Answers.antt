use Rattle.std.proofs.Common.{rules, ◌≡◌, sym, ap, ◌∙◌}
use Rattle.std.specs.Option.{option_copied_mut}
use Rattle.host_list.specs.declared.addresses.Address.{Address}
use Rattle.host_list.specs.Addresses.{entries_at}
use Rattle.host_list.proofs.AtAddress.{more, rewritten}
use Rattle.host_list.proofs.addresses.put.Goals as goal

pub returns-in_ok-add-in-Some-clause-ok : goal.returns-in_ok-add-in-Some-clause-ok
returns-in_ok-add-in-Some-clause-ok c =
    let here = sym c.get_mut.ensures.value ∙ ap option_copied_mut c.in-Some.is in
    let up = (c.get_mut.follows.holds c.add.new.standing).3 (search rules) in
    more c.args.addresses.now c.args.address (c.get_mut.follows.lender c.add.new.standing) c.in-Some.standing.now c.add.new.standing c.args.entry here up c.in_ok-add-in-Some.ensures.ok

pub returns-in_err-add-in-Some-clause-err : goal.returns-in_err-add-in-Some-clause-err
returns-in_err-add-in-Some-clause-err c =
    let here = sym c.get_mut.ensures.value ∙ ap option_copied_mut c.in-Some.is in
    let up = (c.get_mut.follows.holds c.add.new.standing).3 (search rules) in
    let kept : (q : Address) → entries_at (c.get_mut.follows.lender c.add.new.standing) q ≡ entries_at c.args.addresses.now q = rewritten c.args.addresses.now c.args.address (c.get_mut.follows.lender c.add.new.standing) c.in-Some.standing.now c.add.new.standing here up c.in_err-add-in-Some.ensures.err in
    search (rules, kept)
