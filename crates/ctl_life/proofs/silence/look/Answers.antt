use Rattle.std.proofs.Common.{refl, sym, ap, subst, ◌∙◌}
use Rattle.std.proofs.lemmas.Result.{IfOk-weaker, on_ok_weaker}
use Rattle.std.specs.Option.{option_map_or}
use Rattle.switch_session.specs.declared.quiet.Quiet.TheVariants.{Well}
use Rattle.switch_session.specs.Connections.{due_at}
use Rattle.ctl_world.specs.declared.conns.Conn.{Conn}
use Rattle.ctl_world.specs.Alike.{IsAlike}
use Rattle.ctl_world.specs.Connections.{conn_with, with_looked}
use Rattle.ctl_world.specs.World.{World}
use Rattle.ctl_life.specs.Silence.{closes, stir}
use Rattle.ctl_life.proofs.FallsSilent.{closes_silent, shut_not_silent}
use Rattle.ctl_life.proofs.Looks.{look_not, look_open}
use Rattle.ctl_life.proofs.silence.look.Goals as goal

pub returns-then-not-is_open-clause-looked : goal.returns-then-not-is_open-clause-looked
returns-then-not-is_open-clause-looked c = sym (look_not c.args.conn c.args.world.now (sym c.if-not-is_open.ensures))

pub returns-then-not-is_open-clause-told : goal.returns-then-not-is_open-clause-told
returns-then-not-is_open-clause-told c = sym (shut_not_silent c.args.conn c.args.world.now (sym c.if-not-is_open.ensures))

pub returns-clause-looked : goal.returns-clause-looked
returns-clause-looked c =
    let w = c.args.world.now in
    on_ok_weaker c.stir.result (λ is. is
    ∙ ap (λ q. stir q c.args.conn (record w { conns = c.look-quiet.new.self })) c.look-quiet.ensures.due
    ∙ ap (λ cs. stir (option_map_or (λ (k : Conn). due_at k.session w.moment) (conn_with w.conns c.args.conn) Well) c.args.conn (record w { conns = cs })) c.look-quiet.ensures.noted
    ∙ look_open c.args.conn w (sym c.if-not-is_open.ensures)) c.stir.ensures.stirred

pub returns-clause-alike : goal.returns-clause-alike
returns-clause-alike c =
    let w : World = c.args.world.now in
    let left : World = record w { conns = c.look-quiet.new.self } in
    let looked : IsAlike left w =
    subst (λ cs. IsAlike (record w { conns = cs }) w) (sym c.look-quiet.ensures.noted) (c.what_is_said_is_alike.ensures.change c.args.conn w (with_looked w.moment) (λ k. refl)) in
    IfOk-weaker c.stir.result _ _ (λ closed alike none. c.alike_worlds_run_alike.ensures.through c.stir.new.world left w (alike none) looked) c.stir.ensures.alike

pub returns-clause-told : goal.returns-clause-told
returns-clause-told c =
    let w : World = c.args.world.now in
    IfOk-weaker c.stir.result _ _ (λ closed is. is ∙ ap closes c.look-quiet.ensures.due ∙ closes_silent w.moment (conn_with w.conns c.args.conn)) c.stir.ensures.told
