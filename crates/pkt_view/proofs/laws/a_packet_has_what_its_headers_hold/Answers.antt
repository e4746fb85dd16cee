use Rattle.pkt_view.proofs.FieldLaws.{ipv4_fields, ipv4_rest, ipv6_fields, ipv6_rest, arp_rest}
use Rattle.pkt_view.proofs.laws.a_packet_has_what_its_headers_hold.Goals as goal

pub returns : goal.returns
returns c = record { ipv4 = ipv4_fields; ipv4_rest = ipv4_rest; ipv6 = ipv6_fields; ipv6_rest = ipv6_rest; arp_rest = arp_rest }
