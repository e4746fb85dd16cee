use Rattle.law_json.proofs.Named.{dp_leads}
use Rattle.law_json.proofs.names.datapaths_stand_under_their_names.Goals as goal

pub returns : goal.returns
returns c = dp_leads
