-- What is taken is accepted.
use Rattle.std.proofs.Common.{◌≡◌, Bool, true, false, cond, List, [], ◌∷◌, ◌++◌, fold, refl, ap, ◌∙◌}
use Rattle.yaml_tree.specs.declared.tree.Key.{Key}
use Rattle.yaml_tree.specs.declared.tree.Tree.{Tree}
use Rattle.bgp_routes.specs.declared.routes.BgpRoute.{BgpRoute}
use Rattle.bgp_texts.specs.Trees.{with_routes, has_vlan}
use Rattle.bgp_texts.specs.Taking.{is_accepted, take_one, with_taken, tree_of}

with_some : (vlan : Key) (t : Tree) (taken : List BgpRoute) (route : BgpRoute) → with_taken vlan (taken ++ route ∷ []) t ≡ with_routes vlan (taken ++ route ∷ []) t
with_some vlan t [] route = refl
with_some vlan t (r ∷ taken) route = refl

one_more : (vlan : Key) (t : Tree) (taken : List BgpRoute) (route : BgpRoute) → is_accepted (with_taken vlan taken t) ≡ true → is_accepted (with_taken vlan (take_one vlan t taken route) t) ≡ true
one_more vlan t taken route h = by (is_accepted (with_routes vlan (taken ++ route ∷ []) t)) refl
  where
    by : (b : Bool) → is_accepted (with_routes vlan (taken ++ route ∷ []) t) ≡ b → is_accepted (with_taken vlan (cond b (taken ++ route ∷ []) taken) t) ≡ true
    by true e = ap is_accepted (with_some vlan t taken route) ∙ e
    by false e = h

all_taken : (vlan : Key) (t : Tree) (taken routes : List BgpRoute) → is_accepted (with_taken vlan taken t) ≡ true → is_accepted (with_taken vlan (fold (take_one vlan t) taken routes) t) ≡ true
all_taken vlan t taken [] h = h
all_taken vlan t taken (r ∷ routes) h = all_taken vlan t (take_one vlan t taken r) routes (one_more vlan t taken r h)

pub accepted_too : (vlan : Key) (t : Tree) (routes : List BgpRoute) → is_accepted t ≡ true → is_accepted (tree_of vlan t routes) ≡ true
accepted_too vlan t routes h = by (has_vlan vlan t)
  where
    by : (b : Bool) → is_accepted (with_taken vlan (cond b (fold (take_one vlan t) [] routes) []) t) ≡ true
    by true = all_taken vlan t [] routes h
    by false = h
