-- Behind a story nothing waits: no neighbour is due, and each running datapath has a barrier outstanding, or the entries
-- that it is to have.
use Rattle.std.proofs.Common.{◌≡◌, ℕ, List, refl}
use Rattle.fg_outside.specs.declared.hub.Happening.{Happening}
use Rattle.conf_types.specs.Configuration.{Configuration}
use Rattle.ctl_world.specs.declared.conns.Conn.{Conn}
use Rattle.ctl_world.specs.Alike.{IsAlike, face}
use Rattle.ctl_world.specs.Connections.{change, with_fed}
use Rattle.ctl_world.specs.Ends.{ended}
use Rattle.ctl_world.specs.Frames.{with_read}
use Rattle.ctl_world.specs.World.{World, first}
use Rattle.ctl_core.specs.Settlings.{AreInOrder, IsAtRest, settle}
use Rattle.ctl_life.specs.Life.{read, feed, open_conn}
use Rattle.ctl_core.specs.Hearing.{hear_frame}
use Rattle.ctl_core.specs.Reloading.{accepted, reload}
use Rattle.ctl_core.specs.Story.{behind}
use Rattle.ctl_core.specs.Turns.{pass}
use Rattle.ctl_core.proofs.InOrder.{ended_in_order, fed_in_order, heard_in_order, opened_in_order, passed_in_order, read_in_order, reloaded_in_order}
use Rattle.ctl_core.proofs.Rests.{fed_face}
use Rattle.law_stories.proofs.StoryTurns.{Keeps, behind_kept}

abbrev Rests : World → Type 0
Rests w = AreInOrder w × IsAtRest w

module _ (rests : (w : World) → AreInOrder w → IsAtRest (settle w)) (in_order : (w : World) → AreInOrder w → AreInOrder (settle w))
    (changed : (number : ℕ) (w : World) (f : Conn → Conn) → ((c : Conn) → face (f c) ≡ face c) → IsAlike (record w { conns = change number f w.conns }) w)
    (alike : (v w : World) → IsAlike v w → IsAtRest w → IsAtRest v) where
  settled : (w : World) → AreInOrder w → Rests (settle w)
  settled w order = (in_order w order, rests w order)

  keeps_rest : Keeps Rests
  keeps_rest = record {
    unsaid = λ w holds. (record { numbers = holds.0.numbers; keys = holds.0.keys }, record { asks = holds.1.asks; batches = holds.1.batches });
    opens = λ number w shut holds. settled (open_conn number w) (opened_in_order number w shut holds.0);
    feeds = λ number piece w holds. (fed_in_order number piece w holds.0, alike (feed number piece w) w (changed number w (with_fed piece w.moment) (fed_face piece w.moment)) holds.1);
    reads = λ number w holds. (read_in_order number w holds.0, alike (read number w) w (changed number w with_read (λ c. refl)) holds.1);
    hears = λ said number w holds. settled (hear_frame said number w) (heard_in_order said number w holds.0);
    ends = λ cause number w holds. settled (ended cause number w) (ended_in_order cause number w holds.0);
    passes = λ moment w holds. settled (pass moment w) (passed_in_order moment w holds.0);
    reloads = λ text w holds. settled (reload (accepted text) w) (reloaded_in_order text w holds.0);
  }

  first_rests : (conf : Configuration) → Rests (first conf)
  first_rests conf = (record { numbers = tt; keys = tt }, record { asks = refl; batches = λ dp runs c at. absurd (cc) })

  pub story_rests : (conf : Configuration) (story : List Happening) → IsAtRest (behind (first conf) story)
  story_rests conf story = (behind_kept Rests keeps_rest (first conf) story (first_rests conf)).1
