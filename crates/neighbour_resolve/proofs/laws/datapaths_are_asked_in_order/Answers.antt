use Rattle.neighbour_resolve.proofs.Order.{order_already, order_ascends, order_same}
use Rattle.neighbour_resolve.proofs.laws.datapaths_are_asked_in_order.Goals as goal

pub returns : goal.returns
returns c = record {
  ascends = order_ascends;
  same = order_same;
  already = order_already;
}
