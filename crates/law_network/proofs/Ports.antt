-- Ports of datapaths and the links that begin at them.
use Rattle.std.proofs.Common.{◌≡◌, ℕ, ◌<◌, ◌==◌, ◌&&◌, Bool, true, false, cond, Option, Some, None, List, [], ◌∷◌, map, count_by, is_some, refl, inl, inr, sym, ap, ◌∙◌, subst, arith}
use Rattle.std.specs.Prelude.{Contains, option_and_then}
use Rattle.std.specs.Option.{option_map_or}
use Rattle.std.proofs.lemmas.Bool.{and_from, both_ways, eqb-true, eq-eqb, ne_eqb}
use Rattle.std.proofs.lemmas.Option.{none-some}
use Rattle.net_base.specs.Numbers.{IsPortNo}
use Rattle.net_base.specs.declared.numbers.DpId.{DpId}
use Rattle.of_match.specs.declared.action.TheConstants.{CONTROLLER}
use Rattle.stack_paths.specs.Chosen.{is_tree_port}
use Rattle.stack_paths.specs.Stack.{Stack, IsStack, HasLink}
use Rattle.stack_paths.proofs.Finite.{contains_cons}
use Rattle.conf_types.specs.declared.datapath.Dp.{Dp}
use Rattle.conf_types.specs.declared.datapath.Port.{Port}
use Rattle.conf_types.specs.declared.datapath.StackEnd.{StackEnd}
use Rattle.conf_types.specs.declared.state.UpRec.{UpRec}
use Rattle.conf_types.specs.Configuration.{Configuration, dp_with, port_with}
use Rattle.conf_types.specs.Lists.{EachBefore}
use Rattle.conf_types.specs.Membership.{is_edge, is_stack}
use Rattle.conf_types.specs.Valid.{IsValid, IsStackPort}
use Rattle.packet_way.specs.Known.{stack_of}
use Rattle.packet_way.proofs.Ends.{IsEnd, link_is, tree_end, end_number}
use Rattle.packet_way.proofs.Members.{end_is}
use Rattle.packet_way.proofs.Ports.{of_all, found, finds, datapath, edge_is_no_stack, mirror_is, stack_port}
use Rattle.packet_way.proofs.Stacked.{is_stack as datapaths_are_stack}
use Rattle.law_trees.specs.Ways.{IsNoEnd, HaveTreePorts}
use Rattle.law_trees.proofs.Totals.{total, total_is, total_none, total_mapped}

-- of those that rise by a number one has it
pub one_has : {X : Type 0} (key : X → ℕ) (xs : List X) → EachBefore (λ a b. key a < key b) xs → (x : X) → Contains xs x → total (λ y. cond (key y == key x) 1 0) xs ≡ 1
one_has key [] rises x c = absurd (omega (arith, c.1))
one_has key (y ∷ ys) rises x c =
    elim (contains_cons y x ys c) [
      | inl first ↦
          let yes : (key y == key x) ≡ true = eq-eqb (key y) (key x) (ap key first) in
          let none = total_none (λ z. cond (key z == key x) 1 0) ys (λ z d.
          let less = of_all (λ b. key y < key b) ys z rises.0 d in
          let same : key y ≡ key x = ap key first in
          ap (λ b. cond b 1 0) (ne_eqb (key z) (key x) (λ e. omega (arith, less, same, e)))) in
          rw yes (omega (arith, none))
      | inr later ↦
          let less = of_all (λ b. key y < key b) ys x rises.0 later in
          let no_one : (key y == key x) ≡ false = ne_eqb (key y) (key x) (λ e. omega (arith, less, e)) in
          let rest = one_has key ys rises.1 x later in
          rw no_one (omega (arith, rest))
    ]

-- the numbers of the ports of a datapath
abbrev pub ports_of : Configuration → DpId → List ℕ
ports_of conf id = option_map_or (λ (d : Dp). map (λ (q : Port). q.no) d.ports) (dp_with conf.dps id) []

module _ (conf : Configuration) (valid : IsValid conf) (ups : List UpRec) where
  abbrev pub stack : Stack
  stack = stack_of conf ups

  pub is : IsStack stack
  is = datapaths_are_stack conf valid ups

  -- a link begins at an enabled end of a stack link
  pub link_end : (id : DpId) (n : ℕ) (e : DpId) (q : ℕ) → HasLink stack id n e q → IsEnd conf id n
  link_end id n e q (l, c, inl j) = let up = link_is conf valid ups l c in moved l.a l.a_port id n j.0 j.1 (record { port = up.near; here = up.near_here; is = and_from up.near.enabled (is_some up.near.stack) up.near_on (ap is_some up.near_stack) })
    where
      moved : (a : DpId) (m : ℕ) (b : DpId) (n : ℕ) → a ≡ b → m ≡ n → IsEnd conf a m → IsEnd conf b n
      moved a m b n ab mn end = subst (λ x. IsEnd conf x n) ab (subst (λ k. IsEnd conf a k) mn end)
  link_end id n e q (l, c, inr j) = let up = link_is conf valid ups l c in moved l.b l.b_port id n j.0 j.1 (record { port = up.far; here = up.far_here; is = and_from up.far.enabled (is_some up.far.stack) up.far_on (ap is_some up.far_stack) })
    where
      moved : (a : DpId) (m : ℕ) (b : DpId) (n : ℕ) → a ≡ b → m ≡ n → IsEnd conf a m → IsEnd conf b n
      moved a m b n ab mn end = subst (λ x. IsEnd conf x n) ab (subst (λ k. IsEnd conf a k) mn end)

  pub link_number : (id : DpId) (n : ℕ) (e : DpId) (q : ℕ) → HasLink stack id n e q → IsPortNo n
  link_number id n e q link = end_number conf valid id n (link_end id n e q link)

  -- none begins at the port that stands for the controller
  pub controller_free : (id : DpId) → IsNoEnd stack id CONTROLLER
  controller_free id e q link = let most = (link_number id CONTROLLER e q link).most in omega (arith, most)

  module _ (d : Dp) (dp_is : dp_with conf.dps d.id ≡ Some d) where
    pub own : (q : Port) → Contains d.ports q → port_with d.ports q.no ≡ Some q
    own q c = finds (λ (r : Port). r.no) (λ a b. a.no < b.no) (λ a b less same. omega (arith, less, same)) d.ports q (datapath conf valid d.id d dp_is).in_order c

    -- nor at a port that is no end of a stack link
    pub port_free : (q : Port) → Contains d.ports q → is_stack q ≡ false → IsNoEnd stack d.id q.no
    port_free q c none e r link = both_ways (is_stack q) none (end_is conf valid d.id d dp_is q.no q (link_end d.id q.no e r link) (own q c))

    pub edge_free : (q : Port) → Contains d.ports q → is_edge q ≡ true → IsNoEnd stack d.id q.no
    edge_free q c edge = port_free q c (edge_is_no_stack q edge)

    pub mirror_free : (q : Port) → Contains d.ports q → (q.mirror ≡ [] → ⊥) → IsNoEnd stack d.id q.no
    mirror_free q c mirrors = port_free q c (ap (λ o. q.enabled && is_some o) (mirror_is conf valid d.id d dp_is q c mirrors).no_stack ∙ by q.enabled)
      where
        by : (b : Bool) → (b && false) ≡ false
        by true = refl
        by false = refl

    -- a tree port is an enabled end of a stack link
    pub tree_stack : (q : Port) → Contains d.ports q → is_tree_port stack d.id q.no ≡ true → is_stack q ≡ true
    tree_stack q c tree = end_is conf valid d.id d dp_is q.no q (tree_end conf valid ups d.id q.no tree) (own q c)

    pub stack_is_port : (q : Port) → Contains d.ports q → is_stack q ≡ true → (far : StackEnd) × (q.stack ≡ Some far) × IsStackPort conf d q far
    stack_is_port q c s = stack_port conf valid d.id d dp_is q c s

    -- the port of an end
    pub end_port : (n : ℕ) → IsEnd conf d.id n → (q : Port) × Contains d.ports q × (q.no ≡ n) × (is_stack q ≡ true)
    end_port n end =
        let found_at : port_with d.ports n ≡ Some end.port = sym (ap (λ (o : Option Dp). option_and_then (λ (e : Dp). port_with e.ports n) o) dp_is) ∙ end.here in
        let f = found (λ (p : Port). p.no == n) d.ports end.port found_at in
        (end.port, f.0, eqb-true end.port.no n f.1, end.is)

  -- the ports of a datapath are all its tree ports, each once
  pub have : HaveTreePorts stack (ports_of conf)
  have id n tree =
      let end = tree_end conf valid ups id n tree in
      by (dp_with conf.dps id) refl end
    where
      at : (d : Dp) → dp_with conf.dps d.id ≡ Some d → IsEnd conf d.id n → count_by (λ (p : ℕ). p == n) (map (λ (q : Port). q.no) d.ports) ≡ 1
      at d dp_is end =
          let q = end_port d dp_is n end in
          let no_is : q.0.no ≡ n = q.2 in
          total_is (λ (p : ℕ). cond (p == n) 1 0) (map (λ (q : Port). q.no) d.ports)
          ∙ total_mapped (λ (p : ℕ). cond (p == n) 1 0) (λ (q : Port). q.no) d.ports
          ∙ subst (λ m. total (λ (r : Port). cond (r.no == m) 1 0) d.ports ≡ 1) no_is (one_has (λ (r : Port). r.no) d.ports (datapath conf valid d.id d dp_is).in_order q.0 q.1)

      by : (o : Option Dp) → dp_with conf.dps id ≡ o → IsEnd conf id n → count_by (λ (p : ℕ). p == n) (option_map_or (λ (d : Dp). map (λ (q : Port). q.no) d.ports) o []) ≡ 1
      by None none end =
          let lost : option_and_then (λ (d : Dp). port_with d.ports n) None ≡ Some end.port = ap (λ (o : Option Dp). option_and_then (λ (d : Dp). port_with d.ports n) o) (sym none) ∙ end.here in
          absurd (none-some end.port lost)
      by (Some d) some end =
          let made : ℕ → DpId = λ k. record { 0 = k } in
          let same : d.id ≡ id = ap made (eqb-true d.id.0 id.0 (found (λ (e : Dp). e.id.0 == id.0) conf.dps d some).1) in
          at d (subst (λ x. dp_with conf.dps x ≡ Some d) (sym same) some) (subst (λ x. IsEnd conf x n) (sym same) end)
