use Rattle.std.specs.Prelude.{◌≡◌, true, []}
use Rattle.law_runs.specs.Members.{all_by, all_filtered, of_all}
use Rattle.ctl_world.specs.World.{World, now}
use Rattle.ctl_core.specs.Turns.{turn}
use Rattle.conf_types.specs.declared.change.Change.{Change}
use Rattle.law_names.specs.Differing.{differs}
use Rattle.law_changes.specs.Turns.{changes_of, touched}
use Rattle.law_names.proofs.Joined.{exact_named}
use Rattle.law_changes.proofs.Turned.{turn_named}
use Rattle.law_changes.proofs.laws.what_a_turn_changes_is_named.Goals as goal

pub returns-clause-conf : goal.returns-clause-conf
returns-clause-conf c = λ h w valid stays. (turn_named h w valid stays).conf

pub returns-clause-named : goal.returns-clause-named
returns-clause-named c = λ h w valid stays.
    let clear : World = record w { said = [] } in
    exact_named w.conf (now w) (now (turn h w)) (touched h clear) (turn_named h w valid stays).named

pub returns-clause-exact : goal.returns-clause-exact
returns-clause-exact c = λ h w x within.
    let clear : World = record w { said = [] } in
    let differ = differs w.conf (now w) (now (turn h w)) in
    of_all (λ (y : Change). differ y ≡ true) (changes_of h w)
    (all_filtered (λ (y : Change). differ y ≡ true) differ (touched h clear) (all_by (λ (y : Change). differ y ≡ true → differ y ≡ true) (touched h clear) (λ y inside is. is))) x within
