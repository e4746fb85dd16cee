use Rattle.pkt_view.proofs.PortLaws.{next_there, tcp_in_ipv6, udp_in_ipv6, plain_message, targeted_is_read, icmp_in_ipv6}
use Rattle.pkt_view.proofs.laws.what_is_read_behind_an_ipv6_header_stands_there.Goals as goal

pub returns : goal.returns
returns c = record { there = next_there; tcp = tcp_in_ipv6; udp = udp_in_ipv6; plain = plain_message; targeted = targeted_is_read; other = icmp_in_ipv6 }
