use Rattle.law_gleaning.proofs.Gleaned.{none_else, wanted}
use Rattle.law_gleaning.proofs.what_is_gleaned_is_where_routing_leads.Goals as goal

pub returns : goal.returns
returns c = record {
  wanted = λ w d vid v frame ip setting is_vlan own to leads. wanted w d vid v frame ip setting is_vlan to own leads;
  none_else = λ w d vid v frame ip setting is_vlan to nowhere. none_else w d vid v frame ip setting is_vlan to nowhere;
}
