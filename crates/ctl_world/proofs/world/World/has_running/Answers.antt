use Rattle.std.proofs.Common.{false, sym, ap, ◌∙◌}
use Rattle.std.specs.Option.{option_map_or}
use Rattle.ctl_world.specs.World.{is_at_work}
use Rattle.ctl_world.proofs.Present.{runs_at}
use Rattle.ctl_world.proofs.world.World.has_running.Goals as goal

-- src/now.rt:148:5
pub returns-in-Some : goal.returns-in-Some
returns-in-Some c =
    let w = c.args.self.now in
    c.is_at_work.ensures ∙ sym (runs_at w.conns c.args.dp w.conf.dps c.a_configuration_is_valid.ensures.datapaths.ids ∙ ap (λ o. option_map_or (is_at_work w.conns) o false) (sym c.in-Some.ensures.found))

-- src/now.rt:148:5
pub returns-in-None : goal.returns-in-None
returns-in-None c =
    let w = c.args.self.now in
    sym (runs_at w.conns c.args.dp w.conf.dps c.a_configuration_is_valid.ensures.datapaths.ids ∙ ap (λ o. option_map_or (is_at_work w.conns) o false) (sym c.in-None.ensures.found))
