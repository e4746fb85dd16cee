-- A route as an item of the list `routes`.
use Rattle.std.specs.Prelude.{ℕ, List, [], ◌∷◌, codes, map}
use Rattle.net_base.specs.Address.{ip4_text, net4_text}
use Rattle.yaml_tree.specs.declared.tree.Key.TheVariants as keys
use Rattle.yaml_tree.specs.declared.tree.Pair.{Pair}
use Rattle.yaml_tree.specs.declared.tree.Tree.{Tree}
use Rattle.yaml_tree.specs.declared.tree.Tree.TheVariants as tree
use Rattle.bgp_routes.specs.declared.routes.BgpRoute.{BgpRoute}

abbrev pub entry : (name : List ℕ) → Tree → Pair
entry name value = record { key = keys.Text name; value = value }

-- the network, and the gateway to it
abbrev pub route_entries : BgpRoute → List Pair
route_entries r = entry (codes "ip_dst") (tree.Text (net4_text r.dst.ip.0 r.dst.len)) ∷ entry (codes "ip_gw") (tree.Text (ip4_text r.gw.0)) ∷ []

abbrev pub route_item : BgpRoute → Tree
route_item r = tree.Map (entry (codes "route") (tree.Map (route_entries r)) ∷ [])

abbrev pub route_items : List BgpRoute → List Tree
route_items routes = map route_item routes
