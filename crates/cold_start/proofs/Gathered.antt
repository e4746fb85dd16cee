-- The entries of a plan, gathered one kind of member behind the other.
use Rattle.std.proofs.Common.{◌≡◌, List, [], ◌++◌, map, Some, ap, ◌∙◌}
use Rattle.std.specs.Option.{option_map_or}
use Rattle.net_base.specs.declared.numbers.DpId.{DpId}
use Rattle.of_match.specs.declared.entry.Command.TheVariants.{Add}
use Rattle.of_match.specs.Settled.{after_all}
use Rattle.cold_start.specs.Cold.{cold, cold_at}
use Rattle.std.specs.List.{flat_map}
use Rattle.std.proofs.lemmas.List.{append_assoc}
use Rattle.of_match.specs.declared.entry.Entry.{Entry}
use Rattle.conf_types.specs.declared.datapath.Dp.{Dp}
use Rattle.conf_types.specs.Configuration.{Configuration, dp_with}
use Rattle.conf_types.specs.State.{State}
use Rattle.packet_way.specs.Known.{stack_of}
use Rattle.plan_units.specs.Fixed.{fixed}
use Rattle.plan_units.specs.Units.{hosts_of, plan}
use Rattle.route_compile.specs.Routes.{fib}
use Rattle.cold_start.specs.Members.{port_by, vlan_by, host_by}

joined : (f p v h r : List Entry) → (((f ++ p) ++ v) ++ h) ++ r ≡ f ++ (p ++ (v ++ (h ++ r)))
joined f p v h r = append_assoc ((f ++ p) ++ v) h r ∙ append_assoc (f ++ p) v (h ++ r) ∙ append_assoc f p (v ++ (h ++ r))

pub gathered : (conf : Configuration) (now : State) (d : Dp) (a0 a1 a2 a3 a4 : List Entry)
    → a0 ≡ fixed conf d
    → a1 ≡ a0 ++ flat_map (port_by conf d now.hosts) d.ports
    → a2 ≡ a1 ++ flat_map (vlan_by conf d (stack_of conf now.ups)) conf.vlans
    → a3 ≡ a2 ++ flat_map (host_by conf d now.moment (stack_of conf now.ups)) (hosts_of conf now d)
    → a4 ≡ a3 ++ flat_map (fib conf now.neighbours d) conf.vlans
    → a4 ≡ plan conf now d
gathered conf now d a0 a1 a2 a3 a4 e0 e1 e2 e3 e4 =
    let p = flat_map (port_by conf d now.hosts) d.ports in
    let v = flat_map (vlan_by conf d (stack_of conf now.ups)) conf.vlans in
    let h = flat_map (host_by conf d now.moment (stack_of conf now.ups)) (hosts_of conf now d) in
    let r = flat_map (fib conf now.neighbours d) conf.vlans in
    e4 ∙ ap (λ l. l ++ r) (e3 ∙ ap (λ l. l ++ h) (e2 ∙ ap (λ l. l ++ v) (e1 ∙ ap (λ l. l ++ p) e0))) ∙ joined (fixed conf d) p v h r

-- what is held once all of these are added is the cold start
pub tabled : (conf : Configuration) (now : State) (id : DpId) (d : Dp) (es : List Entry) → Some d ≡ dp_with conf.dps id → es ≡ plan conf now d
    → after_all [] (map Add es) ≡ cold_at conf now id
unfolding cold
tabled conf now id d es is all = ap (λ l. after_all [] (map Add l)) all ∙ ap (λ o. option_map_or (cold conf now) o []) is
