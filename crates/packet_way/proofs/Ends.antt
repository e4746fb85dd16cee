-- Next hops and tree ports are enabled ends of stack links.
use Rattle.std.proofs.Common.{◌≡◌, ◌∙◌, ℕ, ◌<◌, ◌==◌, ◌&&◌, Bool, true, false, cond, Some, None, List, [], ◌∷◌, filter, refl, inl, inr, ap, subst, is_some}
use Rattle.std.specs.Prelude.{Contains}
use Rattle.std.specs.Option.{option_and_then, option_map, option_map_or}
use Rattle.std.proofs.lemmas.Bool.{eqb-true, and_parts, and_from, or_cases}
use Rattle.std.proofs.lemmas.List.Elements.{All-contains, All-contains_itself, All-filter, filter_passes}
use Rattle.std.proofs.lemmas.Option.{same_Some, none-some}
use Rattle.stack_paths.proofs.ChosenWalks.{same_dp, any_found}
use Rattle.stack_paths.proofs.Finite.{contains_here, contains_there}
use Rattle.stack_paths.proofs.LawLemmas.{steps_sound}
use Rattle.stack_paths.specs.Chosen.{Step, steps, is_same_dp, first_in, hop_of, hop_link, leads_nearer, is_chosen_before, is_tree_port, uplink_of, root_of, is_end_of}
use Rattle.net_base.specs.Numbers.{IsPortNo}
use Rattle.net_base.specs.declared.numbers.DpId.{DpId}
use Rattle.net_base.specs.declared.stack.Node.{Node}
use Rattle.net_base.specs.declared.stack.StackLink.{StackLink}
use Rattle.conf_types.proofs.LinksUp.{listed_is_up, listed_begins_at_the_lesser, end_found}
use Rattle.conf_types.specs.declared.datapath.Port.{Port}
use Rattle.conf_types.specs.declared.state.UpRec.{UpRec}
use Rattle.conf_types.specs.Configuration.{Configuration, port_at}
use Rattle.conf_types.specs.Links.{links, first_end, last_end}
use Rattle.conf_types.specs.Membership.{is_stack}
use Rattle.conf_types.specs.Valid.{IsValid}
use Rattle.packet_way.specs.Known.{stack_of}
use Rattle.packet_way.proofs.Ports.{at_port, port_within, port_number, port_of}

-- ---- what lists are made of

in_filter : {X : Type 0} (t : X → Bool) (xs : List X) (x : X) → Contains (filter t xs) x → Contains xs x × (t x ≡ true)
in_filter t xs x c = (All-contains (Contains xs) (filter t xs) x (All-filter t (Contains xs) xs (All-contains_itself xs)) c, All-contains (λ y. t y ≡ true) (filter t xs) x (filter_passes t xs) c)

-- the first in an order is one of them
in_first : {X : Type 0} (before : X → X → Bool) (xs : List X) (x : X) → first_in before xs ≡ Some x → Contains xs x
in_first before [] x is = absurd (none-some x is)
in_first {X = X} before (y ∷ ys) x is =
    elim (first_in before ys) as (λ o. first_in before ys ≡ o → Some (option_map_or (λ (z : X). cond (before z y) z y) o y) ≡ Some x → Contains (y ∷ ys) x) [
      | None ↦ λ none e. subst (Contains (y ∷ ys)) (same_Some y x e) (contains_here y ys)
      | Some z ↦ λ some e. elim (before z y) as (λ b. Some (cond b z y) ≡ Some x → Contains (y ∷ ys) x) [
        | true ↦ λ e'. contains_there y x ys (in_first before ys x (some ∙ e'))
        | false ↦ λ e'. subst (Contains (y ∷ ys)) (same_Some y x e') (contains_here y ys)
      ] e
    ] refl is

-- ---- ends of links

-- an interface of the configuration is an enabled end of a stack link
pub record IsEnd (conf : Configuration) (id : DpId) (number : ℕ) : Type 0 where
  pub port : Port
  pub here : port_at conf id number ≡ Some port
  pub is : is_stack port ≡ true

-- a link joins two enabled interfaces that point at each other, and begins on the datapath with the
-- lesser identifier
pub record IsLink (conf : Configuration) (l : StackLink) : Type 0 where
  pub near : Port
  pub near_here : port_at conf l.a l.a_port ≡ Some near
  pub near_on : near.enabled ≡ true
  pub near_stack : near.stack ≡ Some (record { dp = l.b; port = l.b_port })
  pub far : Port
  pub far_here : port_at conf l.b l.b_port ≡ Some far
  pub far_on : far.enabled ≡ true
  pub far_stack : far.stack ≡ Some (record { dp = l.a; port = l.a_port })
  pub less : l.a.0 < l.b.0

module _ (conf : Configuration) (valid : IsValid conf) (ups : List UpRec) where
  -- a link of the configuration joins two enabled interfaces that point at each other
  pub link_is : (l : StackLink) → Contains (links conf ups) l → IsLink conf l
  link_is l c =
      let up = listed_is_up conf ups valid l c in
      record {
        near = up.forth.port;
        near_here = end_found conf ups valid (first_end l) (last_end l) up.forth;
        near_on = up.forth.enabled;
        near_stack = up.forth.leads;
        far = up.back.port;
        far_here = end_found conf ups valid (last_end l) (first_end l) up.back;
        far_on = up.back.enabled;
        far_stack = up.back.leads;
        less = listed_begins_at_the_lesser conf ups valid l c;
      }

  -- so both are ends
  link_ends : (l : StackLink) → Contains (links conf ups) l → IsEnd conf l.a l.a_port × IsEnd conf l.b l.b_port
  link_ends l c =
      let is = link_is l c in
      (record { port = is.near; here = is.near_here; is = and_from is.near.enabled (is_some is.near.stack) is.near_on (ap is_some is.near_stack) }, record { port = is.far; here = is.far_here; is = and_from is.far.enabled (is_some is.far.stack) is.far_on (ap is_some is.far_stack) })

  -- and both of a link in one direction
  step_ends : (t : Step) → Contains (steps (links conf ups)) t → IsEnd conf t.near t.port × IsEnd conf t.far t.far_port
  step_ends t c =
      let from = steps_sound (links conf ups) t c in
      let l : StackLink = from.0 in
      let ends = link_ends l from.1 in
      elim from.2 [
        | inl j ↦ (moved l.a l.a_port t.near t.port j.0 j.1 ends.0, moved l.b l.b_port t.far t.far_port j.2 j.3 ends.1)
        | inr j ↦ (moved l.b l.b_port t.near t.port j.0 j.1 ends.1, moved l.a l.a_port t.far t.far_port j.2 j.3 ends.0)
      ]
    where
      moved : (a : DpId) (m : ℕ) (b : DpId) (n : ℕ) → a ≡ b → m ≡ n → IsEnd conf a m → IsEnd conf b n
      moved a m b n ab mn end = subst (λ x. IsEnd conf x n) ab (subst (λ k. IsEnd conf a k) mn end)

  hop_link_ends : (a b : DpId) (t : Step) → hop_link (stack_of conf ups) a b ≡ Some t → (t.near ≡ a) × (IsEnd conf t.near t.port × IsEnd conf t.far t.far_port)
  unfolding hop_link leads_nearer
  hop_link_ends a b t is =
      let s = stack_of conf ups in
      let inside = in_filter (leads_nearer s a b) (steps s.links) t (in_first (is_chosen_before s) (filter (leads_nearer s a b) (steps s.links)) t is) in
      (same_dp t.near a (and_parts (is_same_dp t.near a) _ inside.1).0, step_ends t inside.0)

  pub hop_end : (a b : DpId) (n : ℕ) → hop_of (stack_of conf ups) a b ≡ Some n → IsEnd conf a n
  unfolding hop_of
  hop_end a b n is =
      elim (hop_link (stack_of conf ups) a b) as (λ o. hop_link (stack_of conf ups) a b ≡ o → option_map (λ (t : Step). t.port) o ≡ Some n → IsEnd conf a n) [
        | None ↦ λ none e. absurd (none-some n e)
        | Some t ↦ λ some e.
            let ends = hop_link_ends a b t some in
            subst (λ x. IsEnd conf x n) ends.0 (subst (λ k. IsEnd conf t.near k) (same_Some t.port n e) ends.1.0)
      ] refl is

  pub tree_end : (d : DpId) (n : ℕ) → is_tree_port (stack_of conf ups) d n ≡ true → IsEnd conf d n
  unfolding is_tree_port uplink_of
  tree_end d n is =
      let s = stack_of conf ups in
      let of = any_found (λ (node : Node). option_map_or (is_end_of d n) (uplink_of s node.id) false) s.nodes is in
      let node : Node = of.0 in
      elim (root_of s node.id) as (λ o. option_map_or (is_end_of d n) (option_and_then (λ (root : Node). hop_link s node.id root.id) o) false ≡ true → IsEnd conf d n) [
        | None ↦ λ e. absurd cc
        | Some root ↦ λ e. by_link node root e
      ] of.2
    where
      here : (a : DpId) (m : ℕ) → is_same_dp a d && m == n ≡ true → IsEnd conf a m → IsEnd conf d n
      here a m e end =
          let both = and_parts (is_same_dp a d) (m == n) e in
          subst (λ x. IsEnd conf x n) (same_dp a d both.0) (subst (λ k. IsEnd conf a k) (eqb-true m n both.1) end)

      by_link : (node root : Node) → option_map_or (is_end_of d n) (hop_link (stack_of conf ups) node.id root.id) false ≡ true → IsEnd conf d n
      by_link node root e =
          elim (hop_link (stack_of conf ups) node.id root.id) as (λ o. hop_link (stack_of conf ups) node.id root.id ≡ o → option_map_or (is_end_of d n) o false ≡ true → IsEnd conf d n) [
            | None ↦ λ none e'. absurd cc
            | Some t ↦ λ some e'.
                let ends = (hop_link_ends node.id root.id t some).1 in
                elim (or_cases (is_same_dp t.near d && t.port == n) (is_same_dp t.far d && t.far_port == n) e') [
                  | inl first ↦ here t.near t.port first ends.0
                  | inr second ↦ here t.far t.far_port second ends.1
                ]
          ] refl e

-- the number of such an interface is that of a physical port
pub end_number : (conf : Configuration) → IsValid conf → (id : DpId) (n : ℕ) → IsEnd conf id n → IsPortNo n
end_number conf valid id n end =
    let at = at_port conf id n end.port end.here in
    subst IsPortNo (port_number conf id n end.port at) (port_of conf valid id at.dp at.dp_is end.port (port_within conf id n end.port at)).number
