use Rattle.std.proofs.Common.{sym, ap, ◌∙◌}
use Rattle.watch_hub.specs.Watch.{hub_in}
use Rattle.ctl_world.specs.World.{first}
use Rattle.ctl_recorded.specs.RecordedRun.{ended_by}
use Rattle.ctl_recorded.proofs.Beneath.{faults_rise, sink_faults_rise}
use Rattle.ctl_recorded.proofs.Ending.{by_write_fault, hub_fault, no_hub_fault, not_by_write_fault, nothing_out}
use Rattle.ctl_recorded.proofs.Lost.{WStep}
use Rattle.ctl_recorded.proofs.Serving.{serves_recorded}
use Rattle.ctl_recorded.proofs.run.serve_recorded.Goals as goal

pub returns-clause-serves : goal.returns-clause-serves
returns-clause-serves g c = λ name text every begun.
    rw (c.into_parts-hub_after.ensures.hub, c.into_parts-hub_after.ensures.files, c.into_parts-watch_after.ensures.hub, c.into_parts-watch_after.ensures.sink, c.ended_by-end.ensures, c.has_failed.ensures, ← c.new-recorded.ensures.hub, ← c.new-recorded.ensures.sink)
    (serves_recorded g.H.Hub.may g.F.Files.contents g.F.Files.faults g.F.Files.absences (λ watch. g.H.Hub.faults (hub_in watch)) g.S.Sink.wrote g.S.Sink.faults
    c.a_watch_is_spent_only_where_it_says_so.ensures c.what_holds_of_its_calls_holds_of_its_hubs.ensures c.a_way_to_want_of_memory_tells_the_watched_story.ensures c.a_way_is_recorded.ensures
    c.new-recorded.result c.drive-drove.new.hub c.new-recorded.ensures.begun name text every c.args.service.most (rw c.new-recorded.ensures.hub begun) c.args.service.conf (g.O.Sink.wrote c.args.out.now) (g.O.Sink.wrote c.drive-drove.new.out) (g.E.Sink.wrote c.args.err.now) (g.E.Sink.wrote c.drive-drove.new.err)
    c.drive-drove.result (c.drive-drove.ensures.drove (first c.args.service.conf) c.new-machine.ensures))

pub returns-clause-out : goal.returns-clause-out
returns-clause-out g c =
    let way = c.drive-drove.ensures.goes in
    nothing_out (WStep g.H.Hub.may g.F.Files.contents g.F.Files.faults g.F.Files.absences) (λ watch. g.H.Hub.faults (hub_in watch)) g.S.Sink.wrote g.S.Sink.faults c.new-recorded.result c.drive-drove.new.hub c.new-recorded.ensures.begun c.a_whole_recording_counts_the_hubs_faults.ensures way.0 way.1 c.args.service.most (first c.args.service.conf) (g.O.Sink.wrote c.args.out.now) (g.O.Sink.wrote c.drive-drove.new.out) (g.E.Sink.wrote c.args.err.now) (g.E.Sink.wrote c.drive-drove.new.err) c.drive-drove.result (c.drive-drove.ensures.drove (first c.args.service.conf) c.new-machine.ensures)

pub returns-clause-hub_fault : goal.returns-clause-hub_fault
returns-clause-hub_fault g c = λ is.
    let way = c.drive-drove.ensures.goes in
    rw (c.into_parts-hub_after.ensures.hub, c.into_parts-watch_after.ensures.hub, ← c.new-recorded.ensures.hub)
    (hub_fault (WStep g.H.Hub.may g.F.Files.contents g.F.Files.faults g.F.Files.absences) (λ watch. g.H.Hub.faults (hub_in watch)) g.S.Sink.wrote g.S.Sink.faults c.new-recorded.result c.drive-drove.new.hub c.new-recorded.ensures.begun c.a_whole_recording_counts_the_hubs_faults.ensures way.0 way.1 c.drive-drove.result (ap (λ b. ended_by c.drive-drove.result b) (sym c.has_failed.ensures) ∙ sym c.ended_by-end.ensures ∙ is) c.drive-drove.ensures.hub_fault)

pub returns-clause-no_hub_fault : goal.returns-clause-no_hub_fault
returns-clause-no_hub_fault g c = λ other.
    let way = c.drive-drove.ensures.goes in
    rw (c.into_parts-hub_after.ensures.hub, c.into_parts-watch_after.ensures.hub, ← c.new-recorded.ensures.hub)
    (no_hub_fault (WStep g.H.Hub.may g.F.Files.contents g.F.Files.faults g.F.Files.absences) (λ watch. g.H.Hub.faults (hub_in watch)) g.S.Sink.wrote g.S.Sink.faults c.new-recorded.result c.drive-drove.new.hub c.new-recorded.ensures.begun c.a_whole_recording_counts_the_hubs_faults.ensures way.0 way.1 c.args.service.most (first c.args.service.conf) (g.O.Sink.wrote c.args.out.now) (g.O.Sink.wrote c.drive-drove.new.out) (g.E.Sink.wrote c.args.err.now) (g.E.Sink.wrote c.drive-drove.new.err) c.drive-drove.result
    (λ is. other (c.ended_by-end.ensures ∙ ap (λ b. ended_by c.drive-drove.result b) c.has_failed.ensures ∙ is)) (c.drive-drove.ensures.drove (first c.args.service.conf) c.new-machine.ensures) c.drive-drove.ensures.no_hub_fault)

pub returns-clause-write_fault : goal.returns-clause-write_fault
returns-clause-write_fault g c = λ is.
    c.drive-drove.ensures.write_fault (by_write_fault c.drive-drove.result c.has_failed.result (sym c.ended_by-end.ensures ∙ is))

pub returns-clause-no_write_fault : goal.returns-clause-no_write_fault
returns-clause-no_write_fault g c = λ other.
    c.drive-drove.ensures.no_write_fault (not_by_write_fault c.drive-drove.result c.has_failed.result (λ is. other (c.ended_by-end.ensures ∙ is)))

pub returns-clause-hub_faults : goal.returns-clause-hub_faults
returns-clause-hub_faults g c =
    let way = c.drive-drove.ensures.goes in
    rw (c.into_parts-hub_after.ensures.hub, c.into_parts-watch_after.ensures.hub, ← c.new-recorded.ensures.hub)
    (faults_rise (WStep g.H.Hub.may g.F.Files.contents g.F.Files.faults g.F.Files.absences) (λ watch. g.H.Hub.faults (hub_in watch)) g.S.Sink.wrote g.S.Sink.faults c.new-recorded.result way.0 c.drive-drove.new.hub way.1)

pub returns-clause-sink_faults : goal.returns-clause-sink_faults
returns-clause-sink_faults g c =
    let way = c.drive-drove.ensures.goes in
    rw (c.into_parts-watch_after.ensures.sink, ← c.new-recorded.ensures.sink)
    (sink_faults_rise (WStep g.H.Hub.may g.F.Files.contents g.F.Files.faults g.F.Files.absences) (λ watch. g.H.Hub.faults (hub_in watch)) g.S.Sink.wrote g.S.Sink.faults c.new-recorded.result way.0 c.drive-drove.new.hub way.1)

pub returns-clause-files_faults : goal.returns-clause-files_faults
returns-clause-files_faults g c =
    let way = c.drive-drove.ensures.goes in
    let watch_way = c.the_hub_goes_along.ensures c.new-recorded.result c.drive-drove.new.hub way.0 way.1 in
    rw (c.into_parts-hub_after.ensures.files, c.into_parts-watch_after.ensures.hub, ← c.new-recorded.ensures.hub)
    (c.the_counts_of_its_files_stand.ensures.faults _ _ watch_way.0 watch_way.1)

pub returns-clause-absences : goal.returns-clause-absences
returns-clause-absences g c =
    let way = c.drive-drove.ensures.goes in
    let watch_way = c.the_hub_goes_along.ensures c.new-recorded.result c.drive-drove.new.hub way.0 way.1 in
    rw (c.into_parts-hub_after.ensures.files, c.into_parts-watch_after.ensures.hub, ← c.new-recorded.ensures.hub)
    (c.the_counts_of_its_files_stand.ensures.absences _ _ watch_way.0 watch_way.1)
