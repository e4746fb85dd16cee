-- What ACLs do with a packet. The first rule that hits it decides; a packet that no rule hits is denied.
use Rattle.std.specs.Prelude.{ℕ, ◌==◌, ◌&&◌, ◌||◌, not, Bool, false, Option, List, [], length, filter}
use Rattle.std.specs.List.{find, list_any}
use Rattle.std.specs.Option.{option_map_or}
use Rattle.of_match.specs.Hit.{hits}
use Rattle.of_match.specs.declared.packet.Packet.{Packet}
use Rattle.of_match.specs.declared.packet.Sent.{Sent}
use Rattle.conf_types.specs.declared.acl.Rule.{Rule}
use Rattle.conf_types.specs.declared.datapath.Dp.{Dp}
use Rattle.conf_types.specs.declared.datapath.Port.{Port}
use Rattle.conf_types.specs.Attached.{rules_of, is_named}
use Rattle.conf_types.specs.Configuration.{Configuration}
use Rattle.packet_way.specs.Leaving.{copies}

-- the rule that decides
abbrev pub rule_for : Configuration → List (List ℕ) → ℕ → Packet → Option Rule
rule_for conf acls port p = find (λ rule. hits rule.fields port p) (rules_of conf acls)

-- the rule names the interface as a mirror or as an output
abbrev pub names_port : Rule → Port → Bool
names_port rule q = list_any (λ name. is_named name q) rule.mirror || list_any (λ name. is_named name q) rule.output

-- the interfaces that a rule sends packets to: those that it names and that are enabled, each once, but
-- not the one that they came in by
abbrev pub targets : Dp → ℕ → Rule → List Port
targets d port rule = filter (λ q. q.enabled && names_port rule q && not (q.no == port)) d.ports

-- what ACLs send of a packet, as it is
abbrev pub acl_sends : Configuration → Dp → List (List ℕ) → ℕ → Packet → List Sent
acl_sends conf d acls port p = option_map_or (λ rule. copies (targets d port rule) p) (rule_for conf acls port p) []

-- the packet goes on: the rule allows it, or there are no ACLs
abbrev pub is_allowed : Configuration → List (List ℕ) → ℕ → Packet → Bool
is_allowed conf acls port p = length acls == 0 || option_map_or (λ rule. rule.allow) (rule_for conf acls port p) false
