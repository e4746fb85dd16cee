use Rattle.std.proofs.Common.{◌≡◌, ◌==◌, ◌&&◌, ◌++◌, false, Option, Some, slice_get, refl, sym, ap, ◌∙◌, if◌then◌else◌}
use Rattle.std.specs.Option.{option_map_or}
use Rattle.std.proofs.lemmas.Option.{slice_get-get_or}
use Rattle.net_base.specs.declared.numbers.Moment.{Moment}
use Rattle.gauge_conf.specs.declared.gauge.Watcher.{Watcher}
use Rattle.gauge_poll.specs.declared.parts.Waiting.{Waiting}
use Rattle.gauge_poll.specs.declared.poll.Poll.{Poll}
use Rattle.gauge_poll.specs.Lines.{is_counted, lines_for, waiting_for}
use Rattle.gauge_poll.specs.Newest.{waits_of}
use Rattle.gauge_poll.specs.Telling.{answers}
use Rattle.gauge_poll.proofs.Gathering.{at_end, at_first, at_place, one_more, told_end, told_more}
use Rattle.gauge_poll.proofs.report.tell_all.Goals as goal

pub loop-place-init : goal.loop-place-init
loop-place-init c = (
  λ s lends. refl,
  λ s lends x p. let r = c.args.report.now in at_first c.args.watchers.now s r.conn r.told.now r.xid (waits_of c.args.parts.now) x p,
)

pub loop-place-preserved : goal.loop-place-preserved
loop-place-preserved c =
    let r = c.args.report.now in
    let ws = c.args.watchers.now in
    let told = r.told.now in
    let d = r.dp.now in
    let i = c.loop-place.place in
    let w : Watcher = c.index-watchers-place.result in
    let old = waits_of c.args.parts.now in
    let at : slice_get ws i ≡ Some w = slice_get-get_or ws i w c.loop-place-test.true ∙ ap Some (sym c.index-watchers-place.is) in (
      λ s lends.
          let was = c.is_of-counted.ensures ∙ ap (λ (o : Option Poll). option_map_or (λ (p : Poll). (p.xid == r.xid) && answers p.kind told) o false) (lends.polls i) in
          told_more ws s r.conn told r.xid d _ c.loop-place.lines c.put_lines_for.new.lines c.put_blocks_for.new.lines i w c.is_of-counted.result (waits_of c.loop-place.parts r.conn i)
          c.loop-place-test.true c.index-watchers-place.is was
          (c.loop-place.invariant.1 s lends r.conn i ∙ at_place ws s r.conn told r.xid old i r.conn ∙ lends.waits i)
          (c.loop-place.invariant.0 s lends)
          (c.in_ok-put_lines_for.ensures ∙ ap (λ (t : Moment). c.loop-place.lines ++ lines_for w c.is_of-counted.result t told d) lends.moment)
          c.in_ok-put_blocks_for.ensures.lines,
      λ s lends.
          let was = c.is_of-counted.ensures ∙ ap (λ (o : Option Poll). option_map_or (λ (p : Poll). (p.xid == r.xid) && answers p.kind told) o false) (lends.polls i) in
          one_more ws s r.conn told r.xid old (waits_of c.put_blocks_for.new.parts) (waits_of c.loop-place.parts) i w c.is_of-counted.result at was
          (c.loop-place.invariant.1 s lends) c.in_ok-put_blocks_for.ensures.waits,
    )

pub returns-clause-lines : goal.returns-clause-lines
returns-clause-lines c = λ s lends.
    let r = c.args.report.now in
    told_end c.args.watchers.now s r.conn r.told.now r.xid r.dp.now _ c.loop-place.lines c.loop-place.place c.loop-place-test.false (c.loop-place.invariant.0 s lends)

pub returns-clause-waits : goal.returns-clause-waits
returns-clause-waits c = λ s lends x p same.
    let r = c.args.report.now in
    let ws = c.args.watchers.now in
    let told = r.told.now in
    c.loop-place.invariant.1 s lends x p
    ∙ at_end ws s r.conn told r.xid (waits_of c.args.parts.now) c.loop-place.place c.loop-place-test.false x p
    ∙ ap (λ (one : Waiting). if r.conn == x then option_map_or (λ (v : Watcher). waiting_for v (is_counted x p told r.xid s.polls) told one) (slice_get ws p) one else one) same
