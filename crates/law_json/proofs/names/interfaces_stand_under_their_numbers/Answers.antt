use Rattle.law_json.proofs.Named.{port_leads}
use Rattle.law_json.proofs.names.interfaces_stand_under_their_numbers.Goals as goal

pub returns : goal.returns
returns c = port_leads
