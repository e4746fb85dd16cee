use Rattle.conf_shape.proofs.Written.{document_right, below_right, datapaths_right, interfaces_right, vlans_right}
use Rattle.conf_shape.proofs.laws.maps_of_a_right_document_are_right.Goals as goal

pub returns : goal.returns
returns c = record {
  document = document_right;
  below = below_right;
  datapaths = datapaths_right;
  interfaces = interfaces_right;
  vlans = vlans_right;
}
