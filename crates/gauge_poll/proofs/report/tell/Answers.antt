use Rattle.std.proofs.Common.{◌≡◌, ◌++◌, true, List, [], option_and_then, sym, ap, ◌∙◌}
use Rattle.std.specs.Option.{option_map_or}
use Rattle.ctl_world.specs.Connections.{conn_with, is_open}
use Rattle.ctl_world.specs.World.{World}
use Rattle.gauge_conf.specs.declared.gauge.Watcher.{Watcher}
use Rattle.gauge_poll.specs.declared.known.Kept.{Kept}
use Rattle.gauge_poll.specs.declared.parts.Parts.{Parts}
use Rattle.gauge_poll.specs.Lines.{told_lines}
use Rattle.gauge_poll.specs.Monitoring.{dp_on, waits_on}
use Rattle.gauge_poll.specs.Newest.{waits_of}
use Rattle.gauge_poll.specs.StandsFor.{Keeps, with_parts}
use Rattle.gauge_poll.proofs.report.tell.Goals as goal

pub returns : goal.returns
returns c = λ m all there.
    let number = c.args.conn in
    let xid = c.args.xid in
    let told = c.args.told.now in
    let k : Kept = c.args.kept.now in
    let there_too : is_open m.said.world.conns number ≡ true = ap (λ (w : World). is_open w.conns number) (sym all.said.world) ∙ there in
    let keeps : Keeps (with_parts k.known c.replace-parts.result) m.said = record {
      world = all.said.world;
      polls = all.said.polls;
      waits = λ x p open_. ap (λ (q : Parts). waits_of q x p) c.replace-parts.ensures.value ∙ all.said.waits x p open_;
    } in
    let same = c.as_slice.ensures ∙ all.watchers in
    record {
      watchers = all.watchers;
      said = record {
        world = all.said.world;
        polls = all.said.polls;
        waits = λ x p open_. c.in_ok-tell_on.ensures.waits m.said keeps there_too x p open_
            ∙ ap (λ (ws : List Watcher). waits_on ws told xid number (option_and_then (dp_on m.said.world) (conn_with m.said.world.conns number)) m.said x p) same;
      };
      lines = c.in_ok-tell_on.ensures.lines m.said keeps there_too
          ∙ (λ i. all.lines i ++ option_map_or (told_lines 0 (same i) m.said number told xid) (option_and_then (dp_on m.said.world) (conn_with m.said.world.conns number)) []);
    }
