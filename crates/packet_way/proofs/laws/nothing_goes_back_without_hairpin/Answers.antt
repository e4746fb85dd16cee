use Rattle.std.proofs.Common.{◌≡◌, ◌≢◌, ◌==◌, true, false, not, [], ◌∷◌, All, Some, ⊎_elim, sym, subst, arith, ap, ◌∙◌}
use Rattle.std.specs.Prelude.{Contains}
use Rattle.std.proofs.lemmas.Bool.{both_ways, eqb-false, or_cases, not-true}
use Rattle.std.proofs.lemmas.List.Elements.{All-nil}
use Rattle.of_match.specs.declared.packet.Packet.{Packet}
use Rattle.of_match.specs.declared.packet.Sent.{Sent}
use Rattle.conf_types.specs.declared.datapath.Dp.{Dp}
use Rattle.conf_types.specs.declared.datapath.Port.{Port}
use Rattle.conf_types.specs.Configuration.{Configuration, dp_with, port_with}
use Rattle.conf_types.specs.Lists.{is_among}
use Rattle.conf_types.specs.Membership.{is_mirror_of}
use Rattle.conf_types.specs.State.{State}
use Rattle.conf_types.specs.Valid.{IsValid}
use Rattle.net_base.specs.declared.numbers.DpId.{DpId}
use Rattle.of_match.specs.declared.action.TheConstants.{CONTROLLER}
use Rattle.packet_way.specs.Description.{from_port}
use Rattle.packet_way.specs.Leaving.{to_controller}
use Rattle.packet_way.proofs.Ports.{at_port, port_within, port_number, port_of, only_port, no_mirror}
use Rattle.packet_way.proofs.Sites.{Each, each_joins, alone, Sites, from_port_all}
use Rattle.packet_way.proofs.Taking.{sends_at, taken}
use Rattle.packet_way.proofs.laws.nothing_goes_back_without_hairpin.Goals as goal

module _ (conf : Configuration) (now : State) (valid : IsValid conf) (id : DpId) (d : Dp) (dp_is : dp_with conf.dps id ≡ Some d) (i : Port) (here : port_with d.ports i.no ≡ Some i) (in_ports : Contains d.ports i)
    (no_hairpin : i.hairpin ≡ false) (mirrors_none : i.mirror ≡ []) where
  abbrev IsElsewhere : Sent → Type 0
  IsElsewhere s = s.port ≢ i.no

  same : (q : Port) → Contains d.ports q → q.no ≡ i.no → q ≡ i
  same q c e = only_port conf valid id d dp_is i.no i q here c e

  elsewhere : Sites (Each IsElsewhere) (each_joins IsElsewhere) conf now d i.no
  elsewhere = record {
    target = λ q x c enabled other. alone IsElsewhere q.no x (eqb-false q.no i.no other);
    mirror = λ m n x c enabled is. alone IsElsewhere m.no x (λ e. both_ways (is_mirror_of m n) (ap (λ ns. is_among ns n) (ap (λ (q : Port). q.mirror) (same m c e) ∙ mirrors_none)) is);
    out = λ v q x c may reached. alone IsElsewhere q.no x (λ e. ⊎_elim
        (λ (other : not (q.no == i.no) ≡ true). eqb-false q.no i.no (not-true (q.no == i.no) other) e)
        (λ (back : q.hairpin ≡ true). both_ways q.hairpin (ap (λ (r : Port). r.hairpin) (same q c e) ∙ no_hairpin) back)
        (or_cases (not (q.no == i.no)) q.hairpin may));
    hop = λ b n x is other. alone IsElsewhere n x (eqb-false n i.no other);
  }

  no_controller : (x : Packet) → All IsElsewhere (to_controller x)
  no_controller x = alone IsElsewhere CONTROLLER x (λ e. let most = (port_of conf valid id d dp_is i in_ports).number.most in omega (arith, e, most))

  all_elsewhere : (p : Packet) → All IsElsewhere (from_port conf now d p i)
  all_elsewhere p = from_port_all (Each IsElsewhere) (each_joins IsElsewhere) conf now d i elsewhere p 0 0 (λ x single. no_controller x) (λ v x c vips. no_controller x) (λ x. no_controller x)

pub returns : goal.returns
returns c = λ conf now id port i p valid is no_hairpin.
    let at = at_port conf id port i is in
    let number : i.no ≡ port = port_number conf id port i at in
    let here = subst (λ n. port_with at.dp.ports n ≡ Some i) (sym number) at.port_is in
    let within = port_within conf id port i at in
    subst (λ sends. All (λ s. s.port ≢ port) sends) (sym (sends_at conf now p id port i at))
    (subst (λ n. All (λ s. s.port ≢ n) (from_port conf now at.dp p i)) number
    (taken conf now p at.dp i (All (λ s. s.port ≢ i.no)) (All-nil (λ s. s.port ≢ i.no))
    (λ takes. all_elsewhere conf now valid id at.dp at.dp_is i here within no_hairpin (no_mirror conf valid id at.dp at.dp_is i within takes) p)))
