use Rattle.std.proofs.Common.{refl}
use Rattle.net_base.specs.AddressReading.{pair_at, next_at, spelled_mac, number_of, number_up_to, ip4_of, net4_of}
use Rattle.law_rules.proofs.keys.masks_are_those_that_are_written.Goals as goal

pub returns : goal.returns
unfolding pair_at next_at spelled_mac number_of number_up_to ip4_of net4_of
returns c = record {
  ethernet = λ t is. rw is refl;
  network = λ t is. rw is refl;
  host = λ t is. rw is refl;
  no_bit = λ t is. rw is refl;
  no_length = λ t is. rw is refl;
}
