use Rattle.std.proofs.Common.{refl}
use Rattle.stack_paths.specs.Chosen.{hop_of, hop_link, leads_nearer, distance_of, least_below, is_walk, is_tree_port, uplink_of, root_of}
use Rattle.law_rows.proofs.rows.known_destinations.Goals as goal

pub returns : goal.returns
unfolding hop_of hop_link leads_nearer distance_of least_below is_walk is_tree_port uplink_of root_of
returns c = record {
  native = refl;
  tagged = refl;
  hairpin = refl;
  elsewhere = refl;
}
