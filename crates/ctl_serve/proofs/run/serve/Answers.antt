use Rattle.ctl_world.specs.World.{first}
use Rattle.ctl_serve.proofs.Serving.{nothing_out, serves}
use Rattle.ctl_serve.proofs.run.serve.Goals as goal

pub returns-clause-serves : goal.returns-clause-serves
returns-clause-serves g c = λ name text every begun.
    rw (c.into_parts-hub_after.ensures.hub, c.into_parts-hub_after.ensures.files)
    (serves g.H.Hub.may g.F.Files.contents g.F.Files.faults g.F.Files.absences c.a_watch_is_spent_only_where_it_says_so.ensures c.what_holds_of_its_calls_holds_of_its_hubs.ensures c.a_way_to_want_of_memory_tells_the_watched_story.ensures
    c.args.watch c.drive-drove.new.hub name text every c.args.most begun c.args.conf (g.O.Sink.wrote c.args.out.now) (g.O.Sink.wrote c.drive-drove.new.out) (g.E.Sink.wrote c.args.err.now) (g.E.Sink.wrote c.drive-drove.new.err)
    c.drive-drove.result (c.drive-drove.ensures.drove (first c.args.conf) c.new-machine.ensures))

pub returns-clause-out : goal.returns-clause-out
returns-clause-out g c =
    nothing_out g.H.Hub.may g.F.Files.contents g.F.Files.faults g.F.Files.absences c.args.watch c.drive-drove.new.hub c.args.most (first c.args.conf) (g.O.Sink.wrote c.args.out.now) (g.O.Sink.wrote c.drive-drove.new.out) (g.E.Sink.wrote c.args.err.now) (g.E.Sink.wrote c.drive-drove.new.err)
    c.drive-drove.result (c.drive-drove.ensures.drove (first c.args.conf) c.new-machine.ensures)

pub returns-clause-hub_fault : goal.returns-clause-hub_fault
returns-clause-hub_fault g c = λ failed. rw c.into_parts-hub_after.ensures.hub (c.drive-drove.ensures.hub_fault failed)

pub returns-clause-no_hub_fault : goal.returns-clause-no_hub_fault
returns-clause-no_hub_fault g c = λ other. rw c.into_parts-hub_after.ensures.hub (c.drive-drove.ensures.no_hub_fault other)

pub returns-clause-hub_faults : goal.returns-clause-hub_faults
returns-clause-hub_faults g c = rw c.into_parts-hub_after.ensures.hub c.drive-drove.ensures.hub_faults

pub returns-clause-files_faults : goal.returns-clause-files_faults
returns-clause-files_faults g c =
    let way = c.drive-drove.ensures.goes in
    rw c.into_parts-hub_after.ensures.files (c.the_counts_of_its_files_stand.ensures.faults c.args.watch c.drive-drove.new.hub way.0 way.1)

pub returns-clause-absences : goal.returns-clause-absences
returns-clause-absences g c =
    let way = c.drive-drove.ensures.goes in
    rw c.into_parts-hub_after.ensures.files (c.the_counts_of_its_files_stand.ensures.absences c.args.watch c.drive-drove.new.hub way.0 way.1)
