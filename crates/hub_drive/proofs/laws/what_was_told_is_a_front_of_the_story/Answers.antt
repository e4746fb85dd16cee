use Rattle.hub_drive.proofs.Deeds.{front_closed, front_happened}
use Rattle.hub_drive.proofs.laws.what_was_told_is_a_front_of_the_story.Goals as goal

pub returns : goal.returns
returns g c = record {
  happened = front_happened g.M.Machine.runs.works c.args.outlet;
  closed = front_closed g.M.Machine.runs.works c.args.outlet;
}
