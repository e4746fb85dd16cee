-- What actions send that give a packet out by ports and by those that mirror them.
use Rattle.std.specs.Prelude.{◌≡◌, ◌⊎◌, ℕ, ◌+◌, ◌^◌, ◌<◌, ◌≤◌, ◌==◌, ◌&&◌, not, Bool, true, false, List, [], ◌∷◌, ◌++◌, length, Some, Contains, is_none, is_some, if◌then◌else◌}
use Rattle.std.specs.List.{AllByRecursion}
use Rattle.std.specs.Option.{option_map_or}
use Rattle.std.proofs.Common.{ne_eqb, refl, sym, ap, ◌∙◌, subst, arith, true≢false, eqb-true, inl, inr}
use Rattle.std.proofs.lemmas.Bool.{and_parts}
use Rattle.net_base.specs.Numbers.{IsPortNo}
use Rattle.of_match.specs.declared.action.Action.{Action}
use Rattle.of_match.specs.declared.action.TheConstants.{IN_PORT, CONTROLLER}
use Rattle.of_match.specs.declared.packet.Packet.{Packet}
use Rattle.of_match.specs.Act.{act_sends, act_left, sends_of, left_by, output}
use Rattle.conf_types.specs.declared.datapath.Dp.{Dp}
use Rattle.conf_types.specs.declared.datapath.Port.{Port}
use Rattle.conf_types.specs.Configuration.{Configuration, dp_with, port_with}
use Rattle.conf_types.specs.Lists.{is_among}
use Rattle.conf_types.specs.Membership.{is_stack, is_edge, is_accepting, is_mirror_of, mirrors_of}
use Rattle.conf_types.specs.Valid.{IsValid, IsMirror}
use Rattle.packet_way.specs.Leaving.{copies, without_tag}
use Rattle.plan_base.specs.Actions.{pop_tag}
use Rattle.plan_base.specs.Sending.{outs, mirrored, copied}
use Rattle.law_runs.specs.Members.{of_all, all_by, all_filtered}
use Rattle.plan_units.specs.Facts.{found, port_number, port_in, port_is, one_port}

-- an interface's number stands for no reserved port (OpenFlow 1.3, 7.2.1)
pub no_ingress : (number : ℕ) → IsPortNo number → (number == IN_PORT) ≡ false
no_ingress number is = ne_eqb number IN_PORT (λ e. let most = is.most in omega (arith, e, most))

pub no_controller : (number : ℕ) → IsPortNo number → (CONTROLLER == number) ≡ false
no_controller number is = ne_eqb CONTROLLER number (λ e. let most = is.most in omega (arith, e, most))

-- ---- copies

-- a packet that came in by this number goes out by the interface
pub record GoesOut (port : ℕ) (q : Port) : Type 0 where
  pub by_number : (q.no == IN_PORT) ≡ false
  pub elsewhere : (q.no == port) ≡ false

pub outs_send : (port : ℕ) (p : Packet) (qs : List Port) → AllByRecursion (GoesOut port) qs → act_sends (outs qs) port p ≡ copies qs p
outs_send port p [] all = refl
outs_send port p (q ∷ qs) all =
    let g = all.0 in
    let first : output q.no port p ≡ record { port = q.no; packet = p } ∷ [] = rw g.by_number (rw g.elsewhere refl) in
    ap (λ l. l ++ act_sends (outs qs) port p) first ∙ ap (λ l. record { port = q.no; packet = p } ∷ l) (outs_send port p qs all.1)

pub outs_leave : (qs : List Port) (p : Packet) → act_left (outs qs) p ≡ Some p
outs_leave [] p = refl
outs_leave (q ∷ qs) p = outs_leave qs p

-- the packet loses its outermost tag where the VLAN is native
pub popped_first : (native : Bool) (actions : List Action) (port : ℕ) (p : Packet)
    → act_sends ((if native then pop_tag ∷ [] else []) ++ actions) port p ≡ act_sends actions port (if native then without_tag p else p)
popped_first true actions port p = refl
popped_first false actions port p = refl

module _ (conf : Configuration) (valid : IsValid conf) (d : Dp) (is_dp : dp_with conf.dps d.id ≡ Some d) where
  -- an interface that mirrors others
  is_mirror : (m : Port) → Contains d.ports m → (m.mirror ≡ [] → ⊥) → IsMirror d m
  is_mirror m c mirrors = of_all (λ (p : Port). (p.mirror ≡ [] → ⊥) → IsMirror d p) d.ports (of_all (λ (e : Dp). AllByRecursion (λ (p : Port). (p.mirror ≡ [] → ⊥) → IsMirror e p) e.ports) conf.dps valid.mirrors.each d (found (λ e. e.id.0 == d.id.0) conf.dps d is_dp).within) m c mirrors

  some_mirror : (m : Port) (n : ℕ) → is_mirror_of m n ≡ true → m.mirror ≡ [] → ⊥
  some_mirror m n is none = true≢false (sym is ∙ ap (λ (xs : List ℕ). is_among xs n) none)

  -- a port that takes packets in mirrors none
  takes_none : (m : Port) → Contains d.ports m → (m.mirror ≡ [] → ⊥) → (is_stack m ≡ true) ⊎ (is_accepting m ≡ true) → ⊥
  takes_none m c mirrors (inl stack) =
      let is = is_mirror m c mirrors in
      true≢false (sym (and_parts m.enabled (is_some m.stack) stack).1 ∙ ap (λ o. is_some o) is.no_stack)
  takes_none m c mirrors (inr accepting) =
      let edge = (and_parts (is_edge m) (not m.output_only) accepting).0 in
      let none = (and_parts (m.enabled && is_none m.stack) (length m.mirror == 0) edge).1 in
      mirrors (empty m.mirror (eqb-true (length m.mirror) 0 none))
    where
      empty : (xs : List ℕ) → length xs ≡ 0 → xs ≡ []
      empty [] is = refl
      empty (x ∷ xs) is = absurd (omega (arith, is))

  -- so a packet goes out by each mirror of a port
  pub mirrors_go_out : (port : ℕ) (i : Port) → port_with d.ports port ≡ Some i → (is_stack i ≡ true) ⊎ (is_accepting i ≡ true) → (n : ℕ) → AllByRecursion (GoesOut port) (mirrors_of d n)
  mirrors_go_out port i is_port takes_in n =
      all_filtered (GoesOut port) (λ m. m.enabled && is_mirror_of m n) d.ports (all_by (λ m. (m.enabled && is_mirror_of m n) ≡ true → GoesOut port m) d.ports each)
    where
      each : (m : Port) → Contains d.ports m → (m.enabled && is_mirror_of m n) ≡ true → GoesOut port m
      each m c is =
          let mirrors = some_mirror m n (and_parts m.enabled (is_mirror_of m n) is).1 in
          record {
            by_number = no_ingress m.no (port_number conf valid d is_dp m c);
            elsewhere = ne_eqb m.no port (λ e.
                let same : m ≡ i = one_port conf valid d is_dp m i c (port_in conf valid d is_dp port i is_port) (e ∙ sym (port_is conf valid d is_dp port i is_port)) in
                takes_none m c mirrors (subst (λ x. (is_stack x ≡ true) ⊎ (is_accepting x ≡ true)) (sym same) takes_in));
          }

  -- by a port, and by those that mirror it
  pub copied_sends : (port : ℕ) (i : Port) → port_with d.ports port ≡ Some i → (is_stack i ≡ true) ⊎ (is_accepting i ≡ true) → (q : Port) (by : Action) (p : Packet) → left_by by p ≡ Some p → sends_of by port p ≡ record { port = q.no; packet = p } ∷ []
      → act_sends (copied d q.no by) port p ≡ copies (q ∷ mirrors_of d q.no) p
  copied_sends port i is_port takes_in q by p left sends =
      ap (λ o. sends_of by port p ++ option_map_or (act_sends (mirrored d q.no) port) o []) left ∙ ap (λ l. l ++ act_sends (mirrored d q.no) port p) sends
      ∙ ap (λ l. record { port = q.no; packet = p } ∷ l) (outs_send port p (mirrors_of d q.no) (mirrors_go_out port i is_port takes_in q.no))
