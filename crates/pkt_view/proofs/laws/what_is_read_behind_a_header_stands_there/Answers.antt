use Rattle.pkt_view.proofs.PortLaws.{l4_there, tcp_is_read, udp_is_read, icmp_is_read}
use Rattle.pkt_view.proofs.laws.what_is_read_behind_a_header_stands_there.Goals as goal

pub returns : goal.returns
returns c = record { there = l4_there; tcp = tcp_is_read; udp = udp_is_read; icmp = icmp_is_read }
