use Rattle.law_json.proofs.Named.{vlan_leads, route_shown}
use Rattle.law_json.proofs.names.vlans_stand_under_their_numbers.Goals as goal

pub returns : goal.returns
returns c = record { vlans = vlan_leads; routes = route_shown }
