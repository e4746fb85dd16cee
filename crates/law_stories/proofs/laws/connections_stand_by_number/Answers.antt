use Rattle.std.proofs.Common.{List}
use Rattle.fg_outside.specs.declared.hub.Happening.{Happening}
use Rattle.conf_types.specs.Configuration.{Configuration}
use Rattle.ctl_world.specs.Ends.{ended}
use Rattle.ctl_world.specs.World.{first}
use Rattle.ctl_core.specs.Settlings.{AreInOrder}
use Rattle.ctl_core.specs.Hearing.{hear_frame}
use Rattle.ctl_core.specs.Reloading.{accepted, reload}
use Rattle.ctl_core.specs.Story.{behind}
use Rattle.ctl_life.specs.Life.{open_conn}
use Rattle.ctl_core.specs.Turns.{pass}
use Rattle.law_stories.proofs.StoryTurns.{Keeps, behind_kept}
use Rattle.law_stories.proofs.laws.connections_stand_by_number.Goals as goal

pub returns : goal.returns
returns c =
    let law = c.what_happens_keeps_connections_in_order.ensures in
    let keeps : Keeps AreInOrder = record {
      unsaid = λ w order. record { numbers = order.numbers; keys = order.keys };
      opens = λ number w shut order. law.settled (open_conn number w) (law.opened number w shut order);
      feeds = law.fed;
      reads = law.read;
      hears = λ said number w order. law.settled (hear_frame said number w) (law.heard said number w order);
      ends = λ cause number w order. law.settled (ended cause number w) (law.ended cause number w order);
      passes = λ moment w order. law.settled (pass moment w) (law.passed moment w order);
      reloads = λ text w order. law.settled (reload (accepted text) w) (law.reloaded text w order);
    } in
    let kept : (conf : Configuration) (story : List Happening) → AreInOrder (behind (first conf) story) =
    λ conf story. behind_kept AreInOrder keeps (first conf) story (record { numbers = tt; keys = tt }) in
    record { numbers = λ conf story. (kept conf story).numbers; keys = λ conf story. (kept conf story).keys }
