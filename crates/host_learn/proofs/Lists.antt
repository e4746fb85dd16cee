-- What holds of each item, of a part, and of one item more.
pub use Rattle.host_list.proofs.Lists.{all_both, all_map, all_part, all_push, before_part, filter_all, filter_part, found_passes}
