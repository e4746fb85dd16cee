use Rattle.std.proofs.Common.{◌≡◌, ◌++◌, ◌∷◌, ℕ, List, Some, None, Bor, false, arith, ap, sym, ◌∙◌}
use Rattle.std.specs.Option.{option_map}
use Rattle.std.specs.Path.{rsplit_once}
use Rattle.std.proofs.lemmas.Grind.{common_steps}
use Rattle.std.proofs.lemmas.Result.{IfOk-weaker}
use Rattle.conf_gather.specs.WholeName.{begins_with_slash}
use Rattle.conf_gather.proofs.NameLemmas.{split_at_last, in_its_folder}
use Rattle.conf_gather.proofs.names.whole_name.Goals as goal

pub returns-in_ok-append-in-Some-2 : goal.returns-in_ok-append-in-Some-2
returns-in_ok-append-in-Some-2 c =
    let split = split_at_last 47 c.args.including.now _ c.rsplit_once.ensures.cases (omega arith) in
    let other : begins_with_slash c.args.written.now ≡ false = grind (arith, common_steps) in
    let parts : Some (c.in-Some.folder.now, c.in-Some.field-0-1.now) ≡ rsplit_once 47 c.args.including.now = ap (option_map (λ (x : Bor (List ℕ) × Bor (List ℕ)). (x.0.now, x.1.now))) (sym c.in-Some.is) ∙ split in
    let is : c.append-in-Some.new.self ≡ c.in-Some.folder.now ++ 47 ∷ c.args.written.now = grind (arith, common_steps) in
    in_its_folder c.args.including.now c.args.written.now c.append-in-Some.new.self _ other parts is

pub returns-in-None : goal.returns-in-None
returns-in-None c =
    let split = split_at_last 47 c.args.including.now _ c.rsplit_once.ensures.cases (omega arith) in
    let other : begins_with_slash c.args.written.now ≡ false = grind (arith, common_steps) in
    let parts : None ≡ rsplit_once 47 c.args.including.now = ap (option_map (λ (x : Bor (List ℕ) × Bor (List ℕ)). (x.0.now, x.1.now))) (sym c.in-None.is) ∙ split in
    IfOk-weaker c.from_str-in-None.result _ _ (λ name is. in_its_folder c.args.including.now c.args.written.now name None other parts is) c.from_str-in-None.ensures
