use Rattle.law_json.proofs.Named.{acl_leads, router_leads}
use Rattle.law_json.proofs.names.acls_and_routers_stand_under_their_names.Goals as goal

pub returns : goal.returns
returns c = record { acls = acl_leads; routers = router_leads }
