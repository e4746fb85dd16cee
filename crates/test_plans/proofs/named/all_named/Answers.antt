use Rattle.std.proofs.Common.{◌≡◌, ◌∙◌, ◌++◌, List, sym, ap, subst}
use Rattle.packet_way.specs.Present.{state_of}
use Rattle.conf_types.specs.declared.change.Change.{Change}
use Rattle.conf_types.specs.Changes.{AreNamed}
use Rattle.test_plans.specs.Named.{names}
use Rattle.test_plans.proofs.Naming.{all_are_named}
use Rattle.test_plans.proofs.named.all_named.Goals as goal

pub returns : goal.returns
returns c =
    let conf = c.args.conf.now in
    let old = state_of c.args.old.now in
    let new = state_of c.args.new.now in
    let made = c.in_ok-name_state-2.ensures ∙ ap (λ (l : List Change). l ++ names conf new) (c.in_ok-name_state.ensures ∙ ap (λ (l : List Change). l ++ names conf old) c.new-made.ensures) in
    subst (AreNamed conf old new) (sym made) (all_are_named conf old new)
