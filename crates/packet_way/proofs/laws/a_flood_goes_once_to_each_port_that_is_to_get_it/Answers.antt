use Rattle.std.proofs.Common.{◌≡◌, ◌∙◌, ℕ, ◌+◌, ◌<◌, ◌≤◌, ◌==◌, ◌&&◌, ◌||◌, Bool, true, false, cond, List, [], ◌∷◌, count_by, filter, Some, inl, inr, refl, sym, ap, arith}
use Rattle.std.specs.Prelude.{Contains}
use Rattle.std.specs.List.{flat_map}
use Rattle.std.proofs.lemmas.Bool.{both_ways, eq-eqb, ne_eqb, and_parts, and_left, or_from, false_from_ne_true}
use Rattle.std.proofs.lemmas.List.Sums.{sum_by-append, sum_by-cons}
use Rattle.stack_paths.proofs.Finite.{contains_cons}
use Rattle.stack_paths.specs.Chosen.{is_tree_port}
use Rattle.net_base.specs.Address.{is_group}
use Rattle.net_base.specs.declared.numbers.DpId.{DpId}
use Rattle.of_match.specs.declared.packet.Packet.{Packet}
use Rattle.of_match.specs.declared.packet.Sent.{Sent}
use Rattle.conf_types.specs.declared.datapath.Dp.{Dp}
use Rattle.conf_types.specs.declared.datapath.Port.{Port}
use Rattle.conf_types.specs.Configuration.{Configuration, dp_with, port_with}
use Rattle.conf_types.specs.Lists.{EachBefore, is_among}
use Rattle.conf_types.specs.Membership.{is_stack, is_edge_member, is_mirror_of, mirrors_of}
use Rattle.conf_types.specs.Valid.{IsValid}
use Rattle.packet_way.specs.Flood.{is_flooded, gets_flood, flooded}
use Rattle.packet_way.specs.Known.{stack_of}
use Rattle.packet_way.specs.Leaving.{sent, copies, as_sent, delivered}
use Rattle.packet_way.proofs.Ends.{tree_end}
use Rattle.packet_way.proofs.Members.{end_is, in_ports}
use Rattle.packet_way.proofs.Ports.{of_all, only_port, datapath, edge_is_no_stack}
use Rattle.packet_way.proofs.Sites.{Few, few, goes_elsewhere, copied, joined}
use Rattle.packet_way.proofs.laws.a_flood_goes_once_to_each_port_that_is_to_get_it.Goals as goal

module _ (conf : Configuration) (valid : IsValid conf) (id : DpId) (d : Dp) (dp_is : dp_with conf.dps id ≡ Some d) (q : Port) (here : port_with d.ports q.no ≡ Some q) (mirrors_none : q.mirror ≡ []) (vid : ℕ) (p : Packet) where
  abbrev count : List Sent → ℕ
  count xs = count_by (λ s. s.port == q.no) xs

  -- it is no copy of a mirror
  no_copy : (n : ℕ) (x : Packet) → count (copies (mirrors_of d n) x) ≤ 0
  no_copy n x = copied (Few q.no) (few q.no) (λ m. m.enabled && is_mirror_of m n) x d.ports (λ m c is.
      goes_elsewhere q.no m.no x (λ e. both_ways (is_mirror_of m n) (ap (λ ns. is_among ns n) (ap (λ (r : Port). r.mirror) (only_port conf valid id d dp_is q.no q m here c e) ∙ mirrors_none)) (and_parts m.enabled (is_mirror_of m n) is).1))

  count_of : (r : Port) → count (delivered d vid p r) ≡ cond (r.no == q.no) 1 0
  count_of r =
      let rest = no_copy r.no (as_sent r vid p) in
      let all : count (delivered d vid p r) ≡ cond (r.no == q.no) 1 0 + count (copies (mirrors_of d r.no) (as_sent r vid p)) = sum_by-cons (λ s. cond (s.port == q.no) 1 0) (sent r.no (as_sent r vid p)) (copies (mirrors_of d r.no) (as_sent r vid p)) in
      omega (arith, all, rest)

  count_other : (r : Port) → (r.no ≡ q.no → ⊥) → count (delivered d vid p r) ≤ 0
  count_other r other = let is = count_of r in let none : ◌≡◌ {A = ℕ} (cond (r.no == q.no) 1 0) 0 = rw (ne_eqb r.no q.no other) refl in omega (arith, is, none)

  module _ (t : Port → Bool) where
    none_of : (rs : List Port) → ((r : Port) → Contains rs r → r.no ≡ q.no → ⊥) → count (flat_map (delivered d vid p) (filter t rs)) ≤ 0
    none_of rs others = joined (Few q.no) (few q.no) t (delivered d vid p) rs (λ r c is. count_other r (others r c))

    once : (rs : List Port) → EachBefore (λ a b. a.no < b.no) rs → Contains rs q → count (flat_map (delivered d vid p) (filter t rs)) ≡ cond (t q) 1 0
    once [] rises c = absurd (omega (arith, c.1))
    once (r ∷ rs) rises c =
        elim (contains_cons r q rs c) [
          | inl first ↦ at_first first (t r) refl
          | inr more ↦ at_more more (once rs rises.1 more) (t r) refl
        ]
      where
        of_first : List Sent
        of_first = delivered d vid p r

        others : r ≡ q → (s : Port) → Contains rs s → s.no ≡ q.no → ⊥
        others first s c' e = let less = of_all (λ b. r.no < b.no) rs s rises.0 c' in let eq = ap (λ (x : Port). x.no) first in omega (arith, less, eq, e)

        at_first : r ≡ q → (b : Bool) → t r ≡ b → count (flat_map (delivered d vid p) (cond b (r ∷ filter t rs) (filter t rs))) ≡ cond (t q) 1 0
        at_first first true is =
            let both = sum_by-append (λ s. cond (s.port == q.no) 1 0) (delivered d vid p r) (flat_map (delivered d vid p) (filter t rs)) in
            let one : count (delivered d vid p r) ≡ 1 = count_of r ∙ ap (λ (b : Bool). cond b 1 0) (eq-eqb r.no q.no (ap (λ (x : Port). x.no) first)) in
            let rest = none_of rs (others first) in
            let end : ◌≡◌ {A = ℕ} (cond (t q) 1 0) 1 = ap (λ (b : Bool). cond b 1 0) (ap t (sym first) ∙ is) in
            omega (arith, both, one, rest, end)
        at_first first false is =
            let rest = none_of rs (others first) in
            let end : ◌≡◌ {A = ℕ} (cond (t q) 1 0) 0 = ap (λ (b : Bool). cond b 1 0) (ap t (sym first) ∙ is) in
            omega (arith, rest, end)

        at_more : Contains rs q → count (flat_map (delivered d vid p) (filter t rs)) ≡ cond (t q) 1 0 → (b : Bool) → t r ≡ b → count (flat_map (delivered d vid p) (cond b (r ∷ filter t rs) (filter t rs))) ≡ cond (t q) 1 0
        at_more more rest true is =
            let both = sum_by-append (λ s. cond (s.port == q.no) 1 0) (delivered d vid p r) (flat_map (delivered d vid p) (filter t rs)) in
            let less = of_all (λ b. r.no < b.no) rs q rises.0 more in
            let none = count_other r (λ e. omega (arith, less, e)) in
            omega (arith, both, none, rest)
        at_more more rest false is = rest

pub returns-clause-once : goal.returns-clause-once
unfolding flooded
returns-clause-once c = λ conf ups id d v port p q valid dp_is here mirrors_none.
    let t = gets_flood (stack_of conf ups) d port v p in
    elim (is_group p.dst || v.unicast_flood) as (λ b. count_by (λ s. s.port == q.no) (cond b (flat_map (delivered d v.vid p) (filter t d.ports)) []) ≡ cond (b && t q) 1 0) [
      | true ↦ once conf valid id d dp_is q here mirrors_none v.vid p t d.ports (datapath conf valid id d dp_is).in_order (in_ports conf valid id d dp_is q here)
      | false ↦ refl
    ]

pub returns-clause-outside : goal.returns-clause-outside
returns-clause-outside c = λ conf ups id d v port p q valid dp_is here edge outside.
    let tree : is_tree_port (stack_of conf ups) d.id q.no ≡ false = false_from_ne_true (is_tree_port (stack_of conf ups) d.id q.no) (λ is. both_ways (is_stack q) (edge_is_no_stack q edge) (end_is conf valid id d dp_is q.no q (tree_end conf valid ups d.id q.no is) here)) in
    and_left (is_flooded (stack_of conf ups) d v p q) _ (or_from (is_edge_member q v.vid && (is_group p.dst || q.unicast_flood)) (is_tree_port (stack_of conf ups) d.id q.no) (and_left (is_edge_member q v.vid) _ outside) tree)
