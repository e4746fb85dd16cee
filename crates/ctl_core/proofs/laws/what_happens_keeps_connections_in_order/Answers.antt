use Rattle.ctl_core.proofs.InOrder.{closed_in_order, ended_in_order, fed_in_order, heard_in_order, opened_in_order, passed_in_order, read_in_order, reloaded_in_order}
use Rattle.ctl_core.proofs.laws.what_happens_keeps_connections_in_order.Goals as goal

pub returns : goal.returns
returns c = record {
  opened = opened_in_order;
  fed = fed_in_order;
  read = read_in_order;
  heard = heard_in_order;
  closed = closed_in_order;
  ended = ended_in_order;
  passed = passed_in_order;
  reloaded = reloaded_in_order;
  settled = λ w order. record {
    numbers = c.a_settling_leaves_nothing_waiting.ensures.numbers w order.numbers order.keys;
    keys = c.a_settling_leaves_nothing_waiting.ensures.keys w order.numbers order.keys;
  };
}
