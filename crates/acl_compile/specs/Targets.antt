-- The ports that a rule of an ACL sends packets to.
use Rattle.std.specs.Prelude.{ℕ, ◌==◌, ◌&&◌, ◌++◌, not, Bool, Option, Some, None, List, [], ◌∷◌, filter, if◌then◌else◌}
use Rattle.std.specs.List.{filter_map}
use Rattle.std.specs.Option.{option_and_then}
use Rattle.conf_types.specs.declared.acl.PortRef.{PortRef}
use Rattle.conf_types.specs.declared.acl.Rule.{Rule}
use Rattle.conf_types.specs.declared.datapath.Dp.{Dp}
use Rattle.conf_types.specs.declared.datapath.Port.{Port}
use Rattle.conf_types.specs.Attached.{port_named, names_in}
use Rattle.conf_types.specs.Lists.{is_among}
use Rattle.acl_compile.specs.declared.place.Place.{Place}
use Rattle.acl_compile.specs.declared.place.Place.TheVariants.{AtPort, AtVlan}

-- rules send by enabled interfaces; those of a port not back by it. What a VLAN's rules send back, no
-- switch sends (OpenFlow 1.3, 7.2.5, OFPAT_OUTPUT to the ingress port).
abbrev pub may_go : Place → Port → Bool
may_go (AtPort number) q = q.enabled && not (q.no == number)
may_go (AtVlan vid) q = q.enabled

-- the port that a rule names, where packets may go to it
abbrev pub target : Place → Dp → PortRef → Option ℕ
target at d name = option_and_then (λ q. if may_go at q then Some q.no else None) (port_named d name)

-- each number once, at its first place
abbrev pub once : List ℕ → List ℕ
once [] = []
once (n ∷ more) = n ∷ filter (λ m. not (m == n)) (once more)

-- the mirrors and then the outputs of the rule, in the order of the text; a port that is named twice gets
-- one packet
abbrev pub targets : Place → Dp → Rule → List ℕ
targets at d rule = once (filter_map (target at d) (names_in rule))

-- ---- the same, one after the other

-- a number is added at the end, unless it is there
abbrev pub with_one : List ℕ → ℕ → List ℕ
with_one ns n = if is_among ns n then ns else ns ++ n ∷ []
