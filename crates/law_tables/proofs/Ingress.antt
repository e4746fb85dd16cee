-- The interface that a packet came in by, ends of stack links, and the hosts of the datapath's group.
use Rattle.std.proofs.Common.{◌≡◌, ℕ, ◌^◌, ◌<◌, ◌==◌, ◌&&◌, not, true, false, length, Option, Some, None, refl, sym, subst, arith, true≢false}
use Rattle.std.specs.Prelude.{Contains, IsSomeAnd, is_none, is_some, option_and_then}
use Rattle.std.proofs.lemmas.Bool.{and_parts}
use Rattle.net_base.specs.Address.{IsSixBytes}
use Rattle.net_base.specs.Numbers.{IsPortNo}
use Rattle.of_match.specs.declared.action.TheConstants.{CONTROLLER}
use Rattle.conf_types.specs.declared.datapath.Dp.{Dp}
use Rattle.conf_types.specs.declared.datapath.Port.{Port}
use Rattle.conf_types.specs.declared.datapath.StackEnd.{StackEnd}
use Rattle.conf_types.specs.declared.state.HostRec.{HostRec}
use Rattle.conf_types.specs.Configuration.{Configuration, port_with, port_at}
use Rattle.conf_types.specs.Groups.{group_of}
use Rattle.conf_types.specs.Membership.{is_stack, is_edge, is_accepting}
use Rattle.conf_types.specs.State.{State, IsHost, IsSameHost}
use Rattle.law_runs.specs.Members.{all_filtered, all_by, of_all}
use Rattle.plan_units.specs.Copies.{no_controller}
use Rattle.plan_units.specs.Facts.{port_in, port_is, port_number, apart_or_one}
use Rattle.plan_units.specs.Laws.{IsSetting, IsPort}
use Rattle.plan_units.specs.PortVlans.{Place, host_place}
use Rattle.plan_units.specs.Units.{hosts_of, is_of_group}

-- an end of a stack link is no edge port
pub edge_apart : (i : Port) → is_stack i ≡ true → is_edge i ≡ true → ⊥
edge_apart i stack edge = both i.stack (and_parts i.enabled (is_some i.stack) stack).1 (and_parts i.enabled (is_none i.stack) (and_parts (i.enabled && is_none i.stack) (length i.mirror == 0) edge).0).1
  where
    both : (o : Option StackEnd) → is_some o ≡ true → is_none o ≡ true → ⊥
    both None some none = true≢false (sym some)
    both (Some far) some none = true≢false (sym none)

pub stack_apart : (i : Port) → is_stack i ≡ true → is_accepting i ≡ true → ⊥
stack_apart i stack accepting = edge_apart i stack (and_parts (is_edge i) (not i.output_only) accepting).0

-- an interface of the datapath, with the number that the packet came in by
pub record Entered (d : Dp) (port : ℕ) (i : Port) : Type 0 where
  pub within : Contains d.ports i
  pub is : i.no ≡ port
  pub number : IsPortNo i.no
  pub fits : port < 2 ^ 32
  pub no_controller : (CONTROLLER == port) ≡ false

-- an end of a stack link, with its number
pub record IsEnd (d : Dp) (number : ℕ) : Type 0 where
  pub port : Port
  pub is_port : port_with d.ports number ≡ Some port
  pub is : is_stack port ≡ true

module _ (conf : Configuration) (now : State) (d : Dp) (setting : IsSetting conf now d) where
  pub entered : (port : ℕ) (i : Port) → IsPort d port i → Entered d port i
  entered port i is_port =
      let within = port_in conf setting.valid d setting.is_dp port i is_port in
      let is = port_is conf setting.valid d setting.is_dp port i is_port in
      let number = port_number conf setting.valid d setting.is_dp i within in
      let most = number.most in
      record {
        within = within;
        is = is;
        number = number;
        fits = omega (arith, most, is);
        no_controller = subst (λ n. (CONTROLLER == n) ≡ false) is (no_controller i.no number);
      }

  pub end_of : (number : ℕ) → IsSomeAnd (port_at conf d.id number) (λ q. is_stack q ≡ true) → IsEnd d number
  end_of number is = by (port_with d.ports number) refl (subst (λ (o : Option Dp). IsSomeAnd (option_and_then (λ (e : Dp). port_with e.ports number) o) (λ q. is_stack q ≡ true)) setting.is_dp is)
    where
      by : (o : Option Port) → port_with d.ports number ≡ o → IsSomeAnd o (λ q. is_stack q ≡ true) → IsEnd d number
      by None e end = absurd end
      by (Some q) e end = record { port = q; is_port = e; is = end }

  pub end_number : (number : ℕ) → IsEnd d number → IsPortNo number
  end_number number end = let came = entered number end.port end.is_port in subst IsPortNo came.is came.number

  pub in_group : (h : HostRec) → Contains (hosts_of conf now d) h → Contains now.hosts h
  in_group h c = of_all (Contains now.hosts) (hosts_of conf now d) (all_filtered (Contains now.hosts) (is_of_group conf d) now.hosts (all_by (λ x. is_of_group conf d x ≡ true → Contains now.hosts x) now.hosts (λ x c is. c))) h c

  pub place : (h : HostRec) → Contains now.hosts h → Place conf setting.valid h
  place h c = host_place conf setting.valid now h (of_all (IsHost conf now) now.hosts setting.state.hosts h c)

  pub six_of : (h : HostRec) → Contains now.hosts h → IsSixBytes h.mac.0
  six_of h c = of_all (λ (x : HostRec). IsSixBytes x.mac.0) now.hosts setting.addresses.hosts h c

  -- of two hosts of the datapath's group with one VLAN and one address both are one
  pub one_host : (g h : HostRec) → Contains now.hosts g → Contains now.hosts h → (group_of conf g.dp).0 ≡ (group_of conf h.dp).0 → g.vid ≡ h.vid → g.mac.0 ≡ h.mac.0 → g ≡ h
  one_host g h cg ch groups vids macs =
      apart_or_one (λ a b. IsSameHost conf a b → ⊥) now.hosts setting.state.host_keys g h cg ch
      (λ apart. apart (record { groups = groups; vlans = vids; macs = macs })) (λ apart. apart (record { groups = sym groups; vlans = sym vids; macs = sym macs }))
