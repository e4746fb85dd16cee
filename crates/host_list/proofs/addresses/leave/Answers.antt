use Rattle.std.proofs.Common.{not, rules, ◌==◌, sym, ap, ◌∙◌}
use Rattle.std.proofs.lemmas.Fn.{filter_same}
use Rattle.host_list.specs.Addresses.{Entry, entries_of, off_place}
use Rattle.host_list.proofs.addresses.leave.Goals as goal

pub returns-in-Several : goal.returns-in-Several
returns-in-Several c =
    c.narrow.ensures ∙ filter_same _ (λ (e : Entry). not (e.0 == c.args.place)) _ (λ x b f' k. (search rules, search rules)) _ _ c.retain.ensures.filtered ∙ ap (λ s. off_place c.args.place (entries_of s)) (sym c.in-Several.is)
