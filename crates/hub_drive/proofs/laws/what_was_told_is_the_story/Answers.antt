use Rattle.hub_drive.proofs.Deeds.{whole_closed, whole_happened}
use Rattle.hub_drive.proofs.laws.what_was_told_is_the_story.Goals as goal

pub returns : goal.returns
returns g c = record {
  happened = whole_happened g.M.Machine.runs.works c.args.outlet;
  closed = whole_closed g.M.Machine.runs.works c.args.outlet;
}
