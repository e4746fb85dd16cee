use Rattle.std.proofs.Common.{length}
use Rattle.test_hosts.proofs.plain.+with_room.Given as goal

abbrev pub decreases-with_room : goal.decreases-with_room
decreases-with_room l = length l.hosts.now
