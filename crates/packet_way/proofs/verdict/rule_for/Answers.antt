use Rattle.std.proofs.Common.{◌∙◌, ℕ, Bool, List, [], find, sym, ap, take_all}
use Rattle.std.specs.List.{flat_map}
use Rattle.std.specs.Option.{option_copied, option_map_or}
use Rattle.of_match.specs.Hit.{hits}
use Rattle.of_match.specs.declared.packet.Packet.{Packet}
use Rattle.conf_types.specs.declared.acl.Rule.{Rule}
use Rattle.conf_types.specs.Attached.{acl_named}
use Rattle.conf_types.specs.Configuration.{Configuration}
use Rattle.packet_way.proofs.Found.{found_at, none_so_far}
use Rattle.packet_way.proofs.verdict.rule_for.Goals as goal

abbrev hit : ℕ → Packet → Rule → Bool
hit port packet = λ rule. hits rule.fields port packet

abbrev rules : Configuration → List ℕ → List Rule
rules conf = λ name. option_map_or (λ acl. acl.rules) (acl_named conf.acls name) []

pub loop-name-preserved : goal.loop-name-preserved
loop-name-preserved c = none_so_far (hit c.args.port c.args.packet.now) (rules c.args.conf.now) c.as_slice-name-items.result.now c.loop-name.name-index c.name-item.result c.loop-name-test.true c.name-item.is c.loop-name.invariant (sym c.find_in.ensures ∙ ap option_copied c.in_default.is)

pub returns-in-Some : goal.returns-in-Some
returns-in-Some c =
    let test = hit c.args.port c.args.packet.now in
    let f = rules c.args.conf.now in
    sym (found_at test f c.as_slice-name-items.result.now c.loop-name.name-index c.name-item.result c.in-Some.rule.now c.loop-name-test.true c.name-item.is c.loop-name.invariant (sym c.find_in.ensures ∙ ap option_copied c.in-Some.is))
    ∙ ap (λ (names : List (List ℕ)). find test (flat_map f names)) c.as_slice-name-items.ensures

pub returns : goal.returns
returns c =
    let test = hit c.args.port c.args.packet.now in
    let f = rules c.args.conf.now in
    sym c.loop-name.invariant ∙ ap (λ (names : List (List ℕ)). find test (flat_map f names)) (take_all _ _ c.loop-name-test.false ∙ c.as_slice-name-items.ensures)
