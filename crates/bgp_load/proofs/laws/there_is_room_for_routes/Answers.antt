use Rattle.bgp_load.proofs.Room.{loaded_room}
use Rattle.bgp_load.proofs.laws.there_is_room_for_routes.Goals as goal

pub returns : goal.returns
returns c = λ held name router found vlan routes e few. loaded_room c.a_gathered_tree_is_sound.ensures held name router found vlan routes e few
