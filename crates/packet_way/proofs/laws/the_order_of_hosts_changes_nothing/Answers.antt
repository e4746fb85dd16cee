use Rattle.packet_way.proofs.Orders.{sends_same}
use Rattle.packet_way.proofs.laws.the_order_of_hosts_changes_nothing.Goals as goal

pub returns : goal.returns
returns c = λ conf now hosts id port p valid moved. sends_same conf now hosts valid moved id port p
