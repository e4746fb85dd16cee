use Rattle.std.proofs.Common.{refl}
use Rattle.std.specs.Fmt.{digits}
use Rattle.conf_json.specs.Json.{escaped, quoted, list, with_member, braces}
use Rattle.conf_json.specs.Text.{with_number, port_text, dp_text, vlan_text, json_text}
use Rattle.conf_json.proofs.worked.quick_start_has_its_line.Goals as goal

pub returns : goal.returns
unfolding digits json_text dp_text port_text vlan_text with_number escaped quoted list with_member braces
returns c = refl
