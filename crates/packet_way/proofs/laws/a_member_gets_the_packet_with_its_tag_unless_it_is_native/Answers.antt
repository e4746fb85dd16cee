use Rattle.std.proofs.Common.{◌≡◌, ℕ, ◌&&◌, Bool, true, false, cond, refl, subst, inl}
use Rattle.conf_types.specs.declared.datapath.Port.{Port}
use Rattle.conf_types.specs.declared.datapath.Member.{Member}
use Rattle.conf_types.specs.declared.datapath.Member.TheVariants.{Native, Tagged, Stack}
use Rattle.conf_types.specs.declared.datapath.Member.TheVariants as member_case
use Rattle.conf_types.specs.Membership.{is_edge, is_stack, is_native_in, is_tagged_in, member_of}
use Rattle.packet_way.specs.Leaving.{without_tag}
use Rattle.packet_way.proofs.Members.{all_sent_as, in_ports, stack_has_no_native}
use Rattle.packet_way.proofs.Ports.{edge_mirrors_none, no_mirror}
use Rattle.packet_way.proofs.laws.a_member_gets_the_packet_with_its_tag_unless_it_is_native.Goals as goal

-- what the kind of membership says of an interface
abbrev Says : Port → ℕ → Member → Type 0
Says q vid Native = (is_edge q ≡ true) × (is_native_in q vid ≡ true)
Says q vid Tagged = (is_edge q ≡ true) × (is_native_in q vid ≡ false)
Says q vid Stack = is_stack q ≡ true
Says q vid member_case.None = Unit {0}

by_tests : (q : Port) (vid : ℕ) (stack edge native tagged : Bool) → is_stack q ≡ stack → is_edge q ≡ edge → is_native_in q vid ≡ native
    → Says q vid (cond stack Stack (cond (edge && native) Native (cond (edge && tagged) Tagged member_case.None)))
by_tests q vid true edge native tagged s e n = s
by_tests q vid false true true tagged s e n = (e, n)
by_tests q vid false true false true s e n = (e, n)
by_tests q vid false true false false s e n = tt
by_tests q vid false false native tagged s e n = tt

says : (q : Port) (vid : ℕ) (m : Member) → member_of q vid ≡ m → Says q vid m
says q vid m is = subst (Says q vid) is (by_tests q vid (is_stack q) (is_edge q) (is_native_in q vid) (is_tagged_in q vid) refl refl refl)

pub returns-clause-native : goal.returns-clause-native
returns-clause-native c = λ conf now id d v port p q valid dp_is here is.
    let known = says q v.vid Native is in
    all_sent_as conf valid id d dp_is q here (edge_mirrors_none q known.0) now v port p (without_tag p) (rw known.1 refl)

pub returns-clause-tagged : goal.returns-clause-tagged
returns-clause-tagged c = λ conf now id d v port p q valid dp_is here is.
    let known = says q v.vid Tagged is in
    all_sent_as conf valid id d dp_is q here (edge_mirrors_none q known.0) now v port p p (rw known.1 refl)

pub returns-clause-stack : goal.returns-clause-stack
returns-clause-stack c = λ conf now id d v port p q valid dp_is here is.
    let known = says q v.vid Stack is in
    let mirrors_none = no_mirror conf valid id d dp_is q (in_ports conf valid id d dp_is q here) (inl known) in
    all_sent_as conf valid id d dp_is q here mirrors_none now v port p p (rw (stack_has_no_native conf valid id d dp_is q here v.vid known) refl)
