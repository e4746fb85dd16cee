use Rattle.std.proofs.Common.{◌++◌, ◌∷◌, [], ap, ◌∙◌}
use Rattle.of13_codec.specs.declared.message.Message.{Message}
use Rattle.ctl_world.specs.declared.said.Said.TheVariants as told
use Rattle.gauge_poll.proofs.Keeping.{none_polled, polled}
use Rattle.gauge_poll.proofs.polling.poll_conn.Goals as goal

pub returns-in-None : goal.returns-in-None
returns-in-None c = λ s keeps. none_polled c.args.kind c.args.place c.args.conn c.args.known.now s keeps c.next_xid.new.self c.next_xid.ensures.noted c.in-None.ensures.xid

pub returns : goal.returns
returns c = λ s keeps.
    let pushed = c.in_ok-push.ensures.ok ∙ ap (λ (m : Message). c.args.known.now.world.said ++ told.Message c.args.conn m c.in-Some.xid ∷ []) c.in_ok-message.ensures in
    polled c.args.kind c.args.place c.args.conn c.args.known.now s keeps c.next_xid.new.self c.next_xid.ensures.noted c.in-Some.xid c.push.new.self c.note.new.self c.take.new.self c.in-Some.ensures.xid pushed
    c.in_ok-note.ensures c.in_ok-take.ensures.left
