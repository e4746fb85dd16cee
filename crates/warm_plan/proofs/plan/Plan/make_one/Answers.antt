use Rattle.std.proofs.Common.{◌∙◌, List, [], map, ap}
use Rattle.std.specs.Option.{option_map_or}
use Rattle.of_match.specs.declared.entry.Command.TheVariants.{Add}
use Rattle.of_match.specs.declared.entry.Entry.{Entry}
use Rattle.of_match.specs.declared.entry.Key.{Key}
use Rattle.of_match.specs.Settled.{after_all}
use Rattle.conf_types.specs.declared.datapath.Dp.{Dp}
use Rattle.packet_way.specs.Present.{state_of}
use Rattle.plan_units.specs.Units.{entries}
use Rattle.warm_plan.specs.Parts.{keys_of, keys_at}
use Rattle.warm_plan.specs.Units.{put}
use Rattle.warm_plan.proofs.plan.Plan.make_one.Goals as goal

pub returns-clause-parts : goal.returns-clause-parts
returns-clause-parts g c = λ w.
    let unit = c.args.unit in
    let made = c.in_ok-made.ensures.entries ∙ ap (λ o. option_map_or (λ (d : Dp). entries c.args.making.now.conf.now (state_of c.args.making.now.learned.now) d unit) o []) c.requires.dp in
    c.in_ok-put_keys.ensures w ∙ ap (λ (ks : List Key). put (keys_at c.args.self.now.parts) unit ks w) (c.in_ok-keys.ensures ∙ ap keys_of (c.as_slice.ensures ∙ made))

pub returns-clause-wanted : goal.returns-clause-wanted
returns-clause-wanted g c =
    let made = c.in_ok-made.ensures.entries ∙ ap (λ o. option_map_or (λ (d : Dp). entries c.args.making.now.conf.now (state_of c.args.making.now.learned.now) d c.args.unit) o []) c.requires.dp in
    c.in_ok-add_all.ensures.tables ∙ ap (λ (es : List Entry). after_all c.args.self.now.wanted (map Add es)) made
