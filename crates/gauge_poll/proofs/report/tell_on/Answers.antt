use Rattle.std.proofs.Common.{◌≡◌, ◌++◌, Option, Some, None, List, ℕ, [], option_and_then, sym, ap, ◌∙◌}
use Rattle.std.specs.Option.{option_copied, option_map_or}
use Rattle.conf_types.specs.declared.datapath.Dp.{Dp}
use Rattle.ctl_world.specs.Connections.{conn_with}
use Rattle.ctl_world.specs.World.{World}
use Rattle.gauge_poll.specs.Lines.{told_lines}
use Rattle.gauge_poll.specs.Monitoring.{dp_on, waits_on}
use Rattle.gauge_poll.proofs.Columns.{none_behind}
use Rattle.gauge_poll.proofs.report.tell_on.Goals as goal

pub returns-in-None-clause-lines : goal.returns-in-None-clause-lines
returns-in-None-clause-lines c = λ s keeps there.
    let number = c.args.conn in
    let lines : List (List ℕ) = c.args.lines.now in
    let none : None ≡ option_and_then (dp_on s.world) (conn_with s.world.conns number) =
    sym (ap option_copied c.in-None.is) ∙ c.dp_on.ensures ∙ ap (λ (w : World). option_and_then (dp_on w) (conn_with w.conns number)) keeps.world in
    sym (none_behind lines) ∙ ap (λ (o : Option Dp). lines ++ option_map_or (told_lines 0 c.args.watchers.now s number c.args.told.now c.args.xid) o []) none

pub returns-in-None-clause-waits : goal.returns-in-None-clause-waits
returns-in-None-clause-waits c = λ s keeps there x p open_.
    let number = c.args.conn in
    let none : None ≡ option_and_then (dp_on s.world) (conn_with s.world.conns number) =
    sym (ap option_copied c.in-None.is) ∙ c.dp_on.ensures ∙ ap (λ (w : World). option_and_then (dp_on w) (conn_with w.conns number)) keeps.world in
    keeps.waits x p open_ ∙ ap (λ (o : Option Dp). waits_on c.args.watchers.now c.args.told.now c.args.xid number o s x p) none

pub returns-clause-lines : goal.returns-clause-lines
returns-clause-lines c = λ s keeps there.
    let number = c.args.conn in
    let d : Dp = c.in-Some.dp.now in
    let found : Some d ≡ option_and_then (dp_on s.world) (conn_with s.world.conns number) =
    sym (ap option_copied c.in-Some.is) ∙ c.dp_on.ensures ∙ ap (λ (w : World). option_and_then (dp_on w) (conn_with w.conns number)) keeps.world in
    c.in_ok-tell_all.ensures.lines s (record {
      moment = ap (λ (w : World). w.moment) keeps.world;
      polls = λ place. keeps.polls number place there;
      waits = λ place. keeps.waits number place there;
    })
    ∙ ap (λ (o : Option Dp). c.args.lines.now ++ option_map_or (told_lines 0 c.args.watchers.now s number c.args.told.now c.args.xid) o []) found

pub returns-clause-waits : goal.returns-clause-waits
returns-clause-waits c = λ s keeps there x p open_.
    let number = c.args.conn in
    let d : Dp = c.in-Some.dp.now in
    let found : Some d ≡ option_and_then (dp_on s.world) (conn_with s.world.conns number) =
    sym (ap option_copied c.in-Some.is) ∙ c.dp_on.ensures ∙ ap (λ (w : World). option_and_then (dp_on w) (conn_with w.conns number)) keeps.world in
    c.in_ok-tell_all.ensures.waits s (record {
      moment = ap (λ (w : World). w.moment) keeps.world;
      polls = λ place. keeps.polls number place there;
      waits = λ place. keeps.waits number place there;
    }) x p (keeps.waits x p open_)
    ∙ ap (λ (o : Option Dp). waits_on c.args.watchers.now c.args.told.now c.args.xid number o s x p) found
