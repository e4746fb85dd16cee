use Rattle.std.proofs.Common.{◌≡◌, Some, sym, ap, ◌∙◌}
use Rattle.std.specs.Option.{option_copied}
use Rattle.std.proofs.lemmas.Result.{on_ok_weaker}
use Rattle.ctl_world.specs.Connections.{conn_of}
use Rattle.gauge_poll.proofs.Keeping.{is_there, no_conn, passed_dp, polled_dp}
use Rattle.gauge_poll.proofs.polling.poll_dp.Goals as goal

pub returns-in-None : goal.returns-in-None
returns-in-None c = λ s keeps. no_conn c.args.watcher.now c.args.place c.args.dp c.args.known.now s keeps (sym c.of.ensures ∙ ap option_copied c.in-None.is)

pub returns-then-is_due : goal.returns-then-is_due
returns-then-is_due c =
    let w = c.args.watcher.now in
    let k = c.args.known.now in
    let d = c.in-Some.found.now in
    let of : conn_of k.world.conns c.args.dp ≡ Some d = sym c.of.ensures ∙ ap option_copied c.in-Some.is in
    on_ok_weaker c.poll_conn.result
    (λ does s keeps. polled_dp w c.args.place c.args.dp k s keeps d of (sym (c.is_due.ensures s keeps (is_there w c.args.place c.args.dp k s keeps d of)) ∙ c.if-is_due.true) c.poll_conn.new.known (does s keeps))
    c.poll_conn.ensures

pub returns : goal.returns
returns c = λ s keeps.
    let w = c.args.watcher.now in
    let k = c.args.known.now in
    let d = c.in-Some.found.now in
    let of : conn_of k.world.conns c.args.dp ≡ Some d = sym c.of.ensures ∙ ap option_copied c.in-Some.is in
    passed_dp w c.args.place c.args.dp k s keeps d of (sym (c.is_due.ensures s keeps (is_there w c.args.place c.args.dp k s keeps d of)) ∙ c.if-is_due.false)
