-- The datapaths of a valid configuration with the stack links that are up are a stack.
use Rattle.std.proofs.Common.{◌≡◌, ◌∙◌, ℕ, ◌==◌, Option, Some, List, [], ◌∷◌, map, inl, inr, sym, ap, subst, arith}
use Rattle.std.specs.Prelude.{Contains}
use Rattle.std.specs.List.{AllByRecursion}
use Rattle.std.specs.Option.{option_map}
use Rattle.std.proofs.lemmas.List.{length-map}
use Rattle.std.proofs.lemmas.List.Elements.{All-weaker, All-contains_itself}
use Rattle.std.proofs.lemmas.Option.{same_Some, slice_get-map, slice_get-get_or}
use Rattle.stack_paths.proofs.ChosenWalks.{same_dp}
use Rattle.stack_paths.specs.Stack.{Stack, IsStack, IsNode, ArePortsApart}
use Rattle.net_base.specs.declared.numbers.DpId.{DpId}
use Rattle.net_base.specs.declared.stack.Node.{Node}
use Rattle.net_base.specs.declared.stack.StackLink.{StackLink}
use Rattle.conf_types.proofs.Found.{before_at}
use Rattle.conf_types.proofs.LinksUp.{begin_apart}
use Rattle.conf_types.proofs.Listed.{weaker}
use Rattle.conf_types.specs.declared.datapath.Dp.{Dp}
use Rattle.conf_types.specs.declared.datapath.Port.{Port}
use Rattle.conf_types.specs.declared.datapath.StackEnd.{StackEnd}
use Rattle.conf_types.specs.declared.state.UpRec.{UpRec}
use Rattle.conf_types.specs.Configuration.{Configuration, port_at}
use Rattle.conf_types.specs.Links.{links}
use Rattle.conf_types.specs.Lists.{EachBefore}
use Rattle.conf_types.specs.Valid.{IsValid}
use Rattle.packet_way.specs.Known.{node_of, stack_of}
use Rattle.packet_way.proofs.Ends.{IsLink, link_is}
use Rattle.packet_way.proofs.Ports.{found, at_port}

-- ---- lists of which each stands so to those behind it

of_map : {X Y : Type 0} (S : X → X → Type 0) (R : Y → Y → Type 0) (f : X → Y) (xs : List X) → EachBefore S xs → ((x z : X) → S x z → R (f x) (f z)) → EachBefore R (map f xs)
of_map S R f [] before h = tt
of_map {X = X} S R f (x ∷ xs) before h = (all_mapped xs before.0, of_map S R f xs before.1 h)
  where
    all_mapped : (ys : List X) → AllByRecursion (S x) ys → AllByRecursion (R (f x)) (map f ys)
    all_mapped [] all = tt
    all_mapped (y ∷ ys) all = (h x y all.0, all_mapped ys all.1)

-- ---- links

module _ (conf : Configuration) where
  same_place : (a b : DpId) (m n : ℕ) (p q : Port) → a ≡ b → m ≡ n → port_at conf a m ≡ Some p → port_at conf b n ≡ Some q → p ≡ q
  same_place a b m n p q ab mn at_a at_b = same_Some p q (sym at_a ∙ ap (λ x. port_at conf x m) ab ∙ ap (λ k. port_at conf b k) mn ∙ at_b)

  -- the far ends of an interface that is two are one
  same_far : (p q : Port) (a b : DpId) (m n : ℕ) → p ≡ q → p.stack ≡ Some (record { dp = a; port = m }) → q.stack ≡ Some (record { dp = b; port = n }) → (a ≡ b) × (m ≡ n)
  same_far p q a b m n pq at_p at_q =
      let same = same_Some (record { dp = a; port = m }) (record { dp = b; port = n }) (sym at_p ∙ ap (λ (r : Port). r.stack) pq ∙ at_q) in
      (ap (λ (e : StackEnd). e.dp) same, ap (λ (e : StackEnd). e.port) same)

  -- links that begin at different interfaces have no end in common
  apart : (l m : StackLink) → IsLink conf l → IsLink conf m → (l.a ≡ m.a → l.a_port ≡ m.a_port → ⊥) → ArePortsApart l m
  apart l m is_l is_m begins d p (inl e) (inl f) = begins (e.0 ∙ sym f.0) (e.1 ∙ sym f.1)
  apart l m is_l is_m begins d p (inl e) (inr f) =
      let fars = same_far is_l.near is_m.far l.b m.a l.b_port m.a_port (same_place l.a m.b l.a_port m.b_port is_l.near is_m.far (e.0 ∙ sym f.0) (e.1 ∙ sym f.1) is_l.near_here is_m.far_here) is_l.near_stack is_m.far_stack in
      let first = is_l.less in
      let second = is_m.less in
      let meet = ap (λ (x : DpId). x.0) fars.0 in
      let around = ap (λ (x : DpId). x.0) (e.0 ∙ sym f.0) in
      omega (arith, first, second, meet, around)
  apart l m is_l is_m begins d p (inr e) (inl f) =
      let fars = same_far is_l.far is_m.near l.a m.b l.a_port m.b_port (same_place l.b m.a l.b_port m.a_port is_l.far is_m.near (e.0 ∙ sym f.0) (e.1 ∙ sym f.1) is_l.far_here is_m.near_here) is_l.far_stack is_m.near_stack in
      let first = is_l.less in
      let second = is_m.less in
      let meet = ap (λ (x : DpId). x.0) fars.0 in
      let around = ap (λ (x : DpId). x.0) (e.0 ∙ sym f.0) in
      omega (arith, first, second, meet, around)
  apart l m is_l is_m begins d p (inr e) (inr f) =
      let fars = same_far is_l.far is_m.far l.a m.a l.a_port m.a_port (same_place l.b m.b l.b_port m.b_port is_l.far is_m.far (e.0 ∙ sym f.0) (e.1 ∙ sym f.1) is_l.far_here is_m.far_here) is_l.far_stack is_m.far_stack in
      begins fars.0 fars.1

module _ (conf : Configuration) (valid : IsValid conf) (ups : List UpRec) where
  abbrev stack : Stack
  stack = stack_of conf ups

  node_at : (d : Dp) → Contains conf.dps d → IsNode stack d.id
  node_at d c = (
    c.0,
    slice_get-map (λ (node : Node). node.id) (map node_of conf.dps) c.0
        ∙ ap (λ (o : Option Node). option_map (λ (node : Node). node.id) o) (slice_get-map node_of conf.dps c.0)
        ∙ ap (λ (o : Option Dp). option_map (λ (node : Node). node.id) (option_map node_of o)) (slice_get-get_or conf.dps c.0 d c.1 ∙ ap Some c.2),
  )

  node_of_port : (id : DpId) (n : ℕ) (p : Port) → port_at conf id n ≡ Some p → IsNode stack id
  node_of_port id n p is =
      let at = at_port conf id n p is in
      let dp = found (λ (e : Dp). e.id.0 == id.0) conf.dps at.dp at.dp_is in
      subst (IsNode stack) (same_dp at.dp.id id dp.1) (node_at at.dp dp.0)

  pub is_stack : IsStack stack
  is_stack = record {
    at_most_64 = let few = valid.limits.dps in let same = length-map conf.dps node_of in omega (arith, few, same);
    distinct = before_at (λ m n. m.id ≡ n.id → ⊥) (map node_of conf.dps) (of_map (λ (d e : Dp). d.id.0 ≡ e.id.0 → ⊥) (λ (m n : Node). m.id ≡ n.id → ⊥) node_of conf.dps valid.datapaths.ids (λ d e other same. other (ap (λ (x : DpId). x.0) same)));
    between_two = All-weaker (Contains (links conf ups)) (λ l. IsNode stack l.a × IsNode stack l.b × (l.a ≡ l.b → ⊥)) (λ l c.
        let is = link_is conf valid ups l c in
        (node_of_port l.a l.a_port is.near is.near_here, node_of_port l.b l.b_port is.far is.far_here, λ same. let less = is.less in let eq = ap (λ (x : DpId). x.0) same in omega (arith, less, eq))) (links conf ups) (All-contains_itself (links conf ups));
    ports_apart = before_at ArePortsApart (links conf ups) (weaker (IsLink conf) (λ l m. l.a ≡ m.a → l.a_port ≡ m.a_port → ⊥) ArePortsApart (λ l m is_l is_m begin. apart conf l m is_l is_m begin) (links conf ups) (link_is conf valid ups) (begin_apart conf ups valid));
  }
