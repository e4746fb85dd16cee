-- Interfaces of a valid configuration.
use Rattle.std.proofs.Common.{◌≡◌, ◌⊎◌, ℕ, ◌<◌, ◌==◌, ◌&&◌, true, false, not, cond, Some, None, List, [], ◌∷◌, length, find, refl, inl, inr, sym, ap, ◌∙◌, arith, is_some, is_none}
use Rattle.std.specs.Prelude.{Contains, IfSome, option_and_then}
use Rattle.std.specs.List.{AllByRecursion}
use Rattle.std.proofs.lemmas.Bool.{eqb-true, eq-eqb, both_ways, and_parts, and_right, false_from_ne_true}
use Rattle.stack_paths.proofs.Finite.{contains_cons}
use Rattle.net_base.specs.declared.numbers.DpId.{DpId}
pub use Rattle.conf_types.proofs.Found.{of_all, found, finds}
use Rattle.conf_types.specs.declared.datapath.Dp.{Dp}
use Rattle.conf_types.specs.declared.datapath.Port.{Port}
use Rattle.conf_types.specs.declared.datapath.StackEnd.{StackEnd}
use Rattle.conf_types.specs.Configuration.{Configuration, dp_with, port_with, port_at}
use Rattle.conf_types.specs.Lists.{EachBefore}
use Rattle.conf_types.specs.Membership.{is_edge, is_stack, is_accepting}
use Rattle.conf_types.specs.Valid.{IsValid, IsDatapath, IsPort, IsMirror, IsStackPort}

-- ---- what is found in a list

module _ {X : Type 0} (key : X → ℕ) where
  -- of those that rise by a number only one has it
  pub only_found : (xs : List X) (n : ℕ) (x y : X) → EachBefore (λ a b. key a < key b) xs → find (λ a. key a == n) xs ≡ Some x → Contains xs y → key y ≡ n → y ≡ x
  only_found [] n x y rises is c same = absurd cc
  only_found (z ∷ zs) n x y rises is c same =
      elim (key z == n) as (λ b. (key z == n) ≡ b → cond b (Some z) (find (λ a. key a == n) zs) ≡ Some x → y ≡ x) [
        | true ↦ λ passes e.
            let here : z ≡ x = cc in
            elim (contains_cons z y zs c) [
              | inl first ↦ sym first ∙ here
              | inr more ↦ absurd (let less = of_all (λ b. key z < key b) zs y rises.0 more in let eq = eqb-true (key z) n passes in omega (arith, less, eq, same))
            ]
        | false ↦ λ fails e.
            elim (contains_cons z y zs c) [
              | inl first ↦ absurd (both_ways (key z == n) fails (eq-eqb (key z) n (ap key first ∙ same)))
              | inr more ↦ only_found zs n x y rises.1 e more same
            ]
      ] refl is

empty : {X : Type 0} (xs : List X) → length xs ≡ 0 → xs ≡ []
empty [] e = refl
empty (x ∷ xs) e = absurd (omega arith)

-- ---- interfaces

pub edge_mirrors_none : (i : Port) → is_edge i ≡ true → i.mirror ≡ []
edge_mirrors_none i is = empty i.mirror (eqb-true (length i.mirror) 0 (and_parts (i.enabled && is_none i.stack) (length i.mirror == 0) is).1)

pub edge_is_no_stack : (i : Port) → is_edge i ≡ true → is_stack i ≡ false
edge_is_no_stack i is =
    elim i.stack as (λ o. is_none o ≡ true → (i.enabled && is_some o) ≡ false) [
      | None ↦ λ e. and_right i.enabled false refl
      | Some far ↦ λ e. absurd (both_ways false refl e)
    ] (and_parts i.enabled (is_none i.stack) (and_parts (i.enabled && is_none i.stack) (length i.mirror == 0) is).0).1

pub accepting_is_no_stack : (i : Port) → is_accepting i ≡ true → is_stack i ≡ false
accepting_is_no_stack i is = edge_is_no_stack i (and_parts (is_edge i) (not i.output_only) is).0

pub record At (conf : Configuration) (id : DpId) (number : ℕ) (i : Port) : Type 0 where
  pub dp : Dp
  pub dp_is : dp_with conf.dps id ≡ Some dp
  pub port_is : port_with dp.ports number ≡ Some i

pub at_port : (conf : Configuration) (id : DpId) (number : ℕ) (i : Port) → port_at conf id number ≡ Some i → At conf id number i
at_port conf id number i is =
    elim (dp_with conf.dps id) as (λ o. dp_with conf.dps id ≡ o → option_and_then (λ (d : Dp). port_with d.ports number) o ≡ Some i → At conf id number i) [
      | None ↦ λ none e. absurd cc
      | Some d ↦ λ some e. record { dp = d; dp_is = some; port_is = e }
    ] refl is

pub port_within : (conf : Configuration) (id : DpId) (number : ℕ) (i : Port) (at : At conf id number i) → Contains at.dp.ports i
port_within conf id number i at = (found (λ (p : Port). p.no == number) at.dp.ports i at.port_is).0

pub port_number : (conf : Configuration) (id : DpId) (number : ℕ) (i : Port) (at : At conf id number i) → i.no ≡ number
port_number conf id number i at = eqb-true i.no number (found (λ (p : Port). p.no == number) at.dp.ports i at.port_is).1

module _ (conf : Configuration) (valid : IsValid conf) where
  pub datapath_of : (d : Dp) → Contains conf.dps d → IsDatapath conf d
  datapath_of d c = of_all (IsDatapath conf) conf.dps d valid.datapaths.each c

  stack_is : (d : Dp) → Contains conf.dps d → (i : Port) → Contains d.ports i → IfSome i.stack (IsStackPort conf d i)
  stack_is d within i c = of_all (λ p. IfSome p.stack (IsStackPort conf d p)) d.ports i (of_all (λ e. AllByRecursion (λ p. IfSome p.stack (IsStackPort conf e p)) e.ports) conf.dps d valid.stacks.each within) c

module _ (conf : Configuration) (valid : IsValid conf) (id : DpId) (d : Dp) (here : dp_with conf.dps id ≡ Some d) where
  pub within : Contains conf.dps d
  within = (found (λ (e : Dp). e.id.0 == id.0) conf.dps d here).0

  pub datapath : IsDatapath conf d
  datapath = datapath_of conf valid d within

  pub port_of : (i : Port) → Contains d.ports i → IsPort conf i
  port_of i c = of_all (IsPort conf) d.ports i datapath.ports c

  -- two interfaces with one number are one
  pub only_port : (number : ℕ) (i q : Port) → port_with d.ports number ≡ Some i → Contains d.ports q → q.no ≡ number → q ≡ i
  only_port number i q is c same = only_found (λ (p : Port). p.no) d.ports number i q datapath.in_order is c same

  pub mirror_is : (i : Port) → Contains d.ports i → (i.mirror ≡ [] → ⊥) → IsMirror d i
  mirror_is i c = of_all (λ p. (p.mirror ≡ [] → ⊥) → IsMirror d p) d.ports i (of_all (λ e. AllByRecursion (λ p. (p.mirror ≡ [] → ⊥) → IsMirror e p) e.ports) conf.dps d valid.mirrors.each within) c

  -- an enabled end of a stack link has a far end
  pub stack_port : (i : Port) → Contains d.ports i → is_stack i ≡ true → (far : StackEnd) × (i.stack ≡ Some far) × IsStackPort conf d i far
  stack_port i c is =
      elim i.stack as (λ o. i.stack ≡ o → (i.enabled && is_some o) ≡ true → IfSome o (IsStackPort conf d i) → (far : StackEnd) × (i.stack ≡ Some far) × IsStackPort conf d i far) [
        | None ↦ λ none e h. absurd (both_ways (i.enabled && false) (and_right i.enabled false refl) e)
        | Some far ↦ λ some e h. (far, some, h)
      ] refl is (stack_is conf valid d within i c)

  -- an interface that takes packets in mirrors none
  pub no_mirror : (i : Port) → Contains d.ports i → (is_stack i ≡ true) ⊎ (is_accepting i ≡ true) → i.mirror ≡ []
  no_mirror i c (inl is) = (stack_port i c is).2.no_mirror
  no_mirror i c (inr is) = edge_mirrors_none i (and_parts (is_edge i) (not i.output_only) is).0

  pub takes_output_only : (i : Port) → Contains d.ports i → i.output_only ≡ true → (is_stack i ≡ false) × (is_accepting i ≡ false)
  takes_output_only i c only = (false_from_ne_true (is_stack i) (λ is. both_ways i.output_only (stack_port i c is).2.takes_packets only), rw only (and_right (is_edge i) false refl))

  pub takes_mirror : (i : Port) → Contains d.ports i → (i.mirror ≡ [] → ⊥) → (is_stack i ≡ false) × (is_accepting i ≡ false)
  takes_mirror i c mirrors = (false_from_ne_true (is_stack i) (λ is. mirrors (no_mirror i c (inl is))), false_from_ne_true (is_accepting i) (λ is. mirrors (no_mirror i c (inr is))))
