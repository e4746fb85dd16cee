use Rattle.pkt_view.proofs.UpperLaws.{arp_is_read, ipv4_is_read, ipv6_is_read, upper_stands_there}
use Rattle.pkt_view.proofs.laws.what_is_read_behind_the_type_stands_there.Goals as goal

pub returns : goal.returns
returns c = record { there = upper_stands_there; arp = arp_is_read; ipv4 = ipv4_is_read; ipv6 = ipv6_is_read }
