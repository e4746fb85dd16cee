use Rattle.std.proofs.Common.{rules, ◌≡◌, ◌==◌, false, not}
use Rattle.std.specs.List.{list_any}
use Rattle.host_list.specs.Addresses.{Entry, entries_at, off_place}
use Rattle.host_list.proofs.AtAddress.{gone}
use Rattle.host_list.proofs.Lists.{filter_none}
use Rattle.host_list.proofs.addresses.take.Goals as goal

pub returns-else-has_others : goal.returns-else-has_others
returns-else-has_others c = λ q.
    let stays = λ (e : Entry). not (e.0 == c.args.place) in
    let here = entries_at c.args.addresses.now c.args.address.now in
    let none : list_any stays here ≡ false = search rules in
    gone c.args.addresses.now c.args.address.now c.swap_remove.new.self c.swap_remove.ensures.updates (off_place c.args.place) (filter_none stays here none) q
