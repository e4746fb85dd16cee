use Rattle.std.proofs.Common.{◌==◌, ◌∙◌, List, sym, ap}
use Rattle.std.specs.List.{find}
use Rattle.std.specs.Option.{option_copied}
use Rattle.vlan_compile.specs.declared.learned.Asked.{Asked}
use Rattle.vlan_compile.proofs.CountLemmas.{answered}
use Rattle.vlan_compile.proofs.learned.is_of_group.Goals as goal

-- an answer from before is right
pub returns-in-Some-clause-right : goal.returns-in-Some-clause-right
returns-in-Some-clause-right c =
    let same = λ (xs : List Asked). find (λ (a : Asked). a.dp.0 == c.args.dp.0) xs in
    answered c.args.conf.now c.args.group c.args.dp c.args.asked.now c.in-Some.answer.now c.requires
    (ap same (sym c.as_slice.ensures) ∙ sym c.asked_before.ensures ∙ ap option_copied c.in-Some.is)
