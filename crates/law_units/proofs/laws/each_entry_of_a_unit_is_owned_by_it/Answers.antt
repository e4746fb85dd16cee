use Rattle.law_units.proofs.Owned.{owned}
use Rattle.law_units.proofs.laws.each_entry_of_a_unit_is_owned_by_it.Goals as goal

pub returns : goal.returns
returns c = λ conf now d addresses u. owned c.a_mac_is_its_value.ensures.back conf now d addresses u
