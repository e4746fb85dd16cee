use Rattle.std.proofs.Common.{sym}
use Rattle.ctl_world.proofs.Places.{is_there, none_there}
use Rattle.ctl_world.proofs.conns.Conns.get.Goals as goal

pub returns-in-Some : goal.returns-in-Some
returns-in-Some c = sym (is_there _ _ _ _ c.as_slice.ensures.value c.self.view_is _ _ c.in-Some.ensures.place c.in-Some.ensures.within c.index.ensures)

pub returns-in-None : goal.returns-in-None
returns-in-None c = sym (none_there _ _ _ _ c.as_slice.ensures.value c.self.view_is c.in-None.ensures.place)
