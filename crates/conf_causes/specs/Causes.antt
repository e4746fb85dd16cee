-- The names of what can be wrong with a configuration.
use Rattle.std.specs.Prelude.{ℕ, List, ◌++◌, codes}
use Rattle.std.specs.Fmt.{decimal}
use Rattle.conf_shape.specs.declared.refused.ConfCause.{ConfCause}
use Rattle.conf_shape.specs.declared.refused.ConfCause.TheVariants.{UnknownKey, LeftOut, Missing, WrongType, OutOfRange, BadText, Unresolved, Duplicate, Conflict, TooMany}
use Rattle.conf_shape.specs.declared.refused.ConfFault.{ConfFault}
use Rattle.conf_shape.specs.declared.refused.LimitName.{LimitName}
use Rattle.conf_shape.specs.declared.refused.LimitName.TheVariants.{Dps, Ports, Vlans, Mirrors, Special, Rules, AclEntries, AclOutputs, Members, Vips, RouterVlans, Routes, Gateways, RouteItems}

abbrev pub limit_text : LimitName → List ℕ
limit_text Dps = codes "Dps"
limit_text Ports = codes "Ports"
limit_text Vlans = codes "Vlans"
limit_text Mirrors = codes "Mirrors"
limit_text Special = codes "Special"
limit_text Rules = codes "Rules"
limit_text AclEntries = codes "AclEntries"
limit_text AclOutputs = codes "AclOutputs"
limit_text Members = codes "Members"
limit_text Vips = codes "Vips"
limit_text RouterVlans = codes "RouterVlans"
limit_text Routes = codes "Routes"
limit_text Gateways = codes "Gateways"
limit_text RouteItems = codes "RouteItems"

-- a conflict has the number of its rule behind it, and what is too many the name of the limit
abbrev pub conf_cause_text : ConfCause → List ℕ
conf_cause_text UnknownKey = codes "UnknownKey"
conf_cause_text LeftOut = codes "LeftOut"
conf_cause_text Missing = codes "Missing"
conf_cause_text WrongType = codes "WrongType"
conf_cause_text OutOfRange = codes "OutOfRange"
conf_cause_text BadText = codes "BadText"
conf_cause_text Unresolved = codes "Unresolved"
conf_cause_text Duplicate = codes "Duplicate"
conf_cause_text (Conflict rule) = codes "Conflict " ++ decimal rule
conf_cause_text (TooMany limit) = codes "TooMany " ++ limit_text limit

-- the name alone
abbrev pub cause_name : ConfCause → List ℕ
cause_name (Conflict rule) = codes "Conflict "
cause_name (TooMany limit) = codes "TooMany "
cause_name other = conf_cause_text other

-- where and why a configuration is refused
abbrev pub fault_text : ConfFault → List ℕ
fault_text fault = fault.path ++ codes ": " ++ conf_cause_text fault.cause
