use Rattle.std.proofs.Common.{refl}
use Rattle.pkt_view.specs.Checksum.{internet_checksum, ones_complement, words}
use Rattle.pkt_view.specs.Frame.{parts, tag_count, upper_parts}
use Rattle.pkt_view.specs.Numbers.{number, number_at}
use Rattle.pkt_view.specs.Replies.{carries_icmp6, checksum6, is_echo6_request, message6}
use Rattle.neighbour_resolve.specs.Discovery.{carries_discovery, is_discovery}
use Rattle.neighbour_resolve.proofs.worked.a_gateway_is_solicited_and_solicits.Goals as goal

pub returns : goal.returns
unfolding internet_checksum ones_complement words parts tag_count upper_parts number number_at carries_icmp6 checksum6 is_echo6_request message6 carries_discovery is_discovery
returns c = record {
  answered = λ fit. refl;
  heard = λ fit. refl;
  passed_on = λ fit. refl;
  not_heard = λ fit. refl;
  asked = λ fit. refl;
}
