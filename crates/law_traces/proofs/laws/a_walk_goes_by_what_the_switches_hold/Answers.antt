use Rattle.packet_way.proofs.Stacked.{is_stack}
use Rattle.ctl_core.specs.Story.{behind}
use Rattle.ctl_world.specs.World.{first, ups}
use Rattle.law_traces.proofs.Walks.{node_of_dp, walk_held}
use Rattle.law_traces.proofs.laws.a_walk_goes_by_what_the_switches_hold.Goals as goal

pub returns : goal.returns
returns c = λ conf story d valid is none k port p.
    let w = behind (first conf) story in
    let w_valid = c.whatever_happens_what_is_known_is_sound.ensures.valid conf story valid in
    walk_held w (is_stack w.conf w_valid (ups w)) d (node_of_dp w.conf.dps d.id d is)
    (λ id ready. c.a_ready_datapath_was_sent_its_cold_start.ensures conf story id valid ready) none k port p
