-- Which routes a configuration takes, and its text with them.
use Rattle.std.specs.Prelude.{◌≡◌, ℕ, Bool, false, if◌then◌else◌, List, [], ◌∷◌, ◌++◌, fold, Option, Some, None, Result, is_ok, Ok, Err}
use Rattle.yaml_tree.specs.declared.tree.Key.{Key}
use Rattle.yaml_tree.specs.declared.tree.Tree.{Tree}
use Rattle.yaml_subset.specs.declared.fault.YamlFault.{YamlFault}
use Rattle.yaml_subset.specs.Grammar.{Reads}
use Rattle.yaml_subset.specs.Printed.{printed}
use Rattle.yaml_subset.specs.Reading.{read_of}
use Rattle.conf_types.specs.Configuration.{Configuration}
use Rattle.conf_check.specs.Accepted.{conf_of}
use Rattle.bgp_routes.specs.declared.routes.BgpRoute.{BgpRoute}
use Rattle.bgp_texts.specs.Trees.{with_routes, has_vlan}

-- a document gives a configuration
abbrev pub is_accepted : Tree → Bool
is_accepted t = is_ok (conf_of t)

-- a route is taken where the document with it, and with those taken before it, is accepted
abbrev pub take_one : Key → Tree → List BgpRoute → BgpRoute → List BgpRoute
take_one vlan t taken route = if is_accepted (with_routes vlan (taken ++ route ∷ []) t) then taken ++ route ∷ [] else taken

-- one by one; a VLAN that isn't there takes none
abbrev pub taken_of : Key → Tree → List BgpRoute → List BgpRoute
taken_of vlan t routes = if has_vlan vlan t then fold (take_one vlan t) [] routes else []

-- where none is taken, the document stays as it was
abbrev pub with_taken : Key → List BgpRoute → Tree → Tree
with_taken vlan [] t = t
with_taken vlan (r ∷ rs) t = with_routes vlan (r ∷ rs) t

abbrev pub tree_of : Key → Tree → List BgpRoute → Tree
tree_of vlan t routes = with_taken vlan (taken_of vlan t routes) t

-- the text, in its one canonical form
abbrev pub text_of : Key → Tree → List BgpRoute → List ℕ
text_of vlan t routes = printed (tree_of vlan t routes)

-- the text, where it gives a configuration
abbrev pub gives : Result Tree YamlFault → Bool
gives (Ok t) = is_accepted t
gives (Err fault) = false

abbrev pub text_given : Key → Tree → List BgpRoute → Option (List ℕ)
text_given vlan t routes = let text = text_of vlan t routes in if gives (read_of text) then Some text else None

-- a text gives a configuration
pub record IsAccepted (text : List ℕ) : Type 0 where
  pub tree : Tree
  pub conf : Configuration
  pub reads : Reads text tree
  pub gives : conf_of tree ≡ Ok conf
