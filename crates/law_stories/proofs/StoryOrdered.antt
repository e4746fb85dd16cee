-- Behind a story the connections stand by number, and the entries of each in key order.
use Rattle.std.proofs.Common.{◌≡◌, ℕ, List, Ok}
use Rattle.conf_types.specs.Configuration.{Configuration}
use Rattle.ctl_world.specs.Ends.{ended}
use Rattle.ctl_world.specs.World.{World}
use Rattle.ctl_core.specs.Settlings.{settle}
use Rattle.ctl_core.proofs.Settlings.{AreByNumber, AreInKeyOrder}
use Rattle.ctl_core.specs.Hearing.{hear_frame}
use Rattle.ctl_core.specs.Reloading.{accepted, reload}
use Rattle.ctl_life.specs.Life.{open_conn}
use Rattle.ctl_core.specs.Turns.{pass}
use Rattle.ctl_core.proofs.Stands.{Stands, ended_stands, feed_stands, heard_stands, open_stands, pass_stands, read_stands, reload_stands, settle_stands}
use Rattle.law_stories.proofs.StoryTurns.{Keeps}

module _ (numbers : (w : World) → AreByNumber w.conns → AreInKeyOrder w.conns → AreByNumber (settle w).conns)
    (keys : (w : World) → AreByNumber w.conns → AreInKeyOrder w.conns → AreInKeyOrder (settle w).conns) where
  settled : (P : Configuration → Type 0) (w : World) → Stands P w → Stands P (settle w)
  settled P = settle_stands P (λ w ordered. (numbers w ordered.0 ordered.1, keys w ordered.0 ordered.1))

  pub keeps_order : (P : Configuration → Type 0) → ((text : List ℕ) (next : Configuration) → accepted text ≡ Ok next → P next) → Keeps (Stands P)
  keeps_order P valid = record {
    unsaid = λ w stands. stands;
    opens = λ number w shut stands. settled P (open_conn number w) (open_stands P number w shut stands);
    feeds = λ number piece w stands. feed_stands P number piece w stands;
    reads = λ number w stands. read_stands P number w stands;
    hears = λ said number w stands. settled P (hear_frame said number w) (heard_stands P said number w stands);
    ends = λ cause number w stands. settled P (ended cause number w) (ended_stands P cause number w stands);
    passes = λ moment w stands. settled P (pass moment w) (pass_stands P moment w stands);
    reloads = λ text w stands. settled P (reload (accepted text) w) (reload_stands P (accepted text) (valid text) w stands);
  }
