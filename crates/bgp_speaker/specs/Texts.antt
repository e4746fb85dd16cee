-- The texts of a document with routes: which one is made of routes, and whether it is another than the last.
use Rattle.std.specs.Prelude.{ℕ, if◌then◌else◌, List, Option, Some, None, unwrap_or}
use Rattle.std.specs.Str.{bytes_eq}
use Rattle.yaml_tree.specs.declared.tree.Key.{Key}
use Rattle.yaml_tree.specs.declared.tree.Tree.{Tree}
use Rattle.yaml_subset.specs.Printed.{printed}
use Rattle.bgp_routes.specs.declared.routes.BgpRoute.{BgpRoute}
use Rattle.bgp_texts.specs.Taking.{text_given}

-- the document, the key of the VLAN whose routes are longer, where the document has one, and the last text
pub record Kept : Type 0 where
  pub vlan : Option Key
  pub tree : Tree
  pub last : List ℕ

-- the first last one is the document's own
abbrev pub begun : Option Key → Tree → Kept
begun vlan t = record { vlan = vlan; tree = t; last = printed t }

-- the text with these routes, where it gives a configuration; there is none where the document hasn't the VLAN
abbrev pub text_for : Option Key → Tree → List BgpRoute → Option (List ℕ)
text_for None t routes = None
text_for (Some vlan) t routes = text_given vlan t routes

-- a text is new where it isn't the last one
abbrev pub news : (last : List ℕ) → Option (List ℕ) → Option (List ℕ)
news last None = None
news last (Some text) = if bytes_eq text last then None else Some text

abbrev pub new_text : Kept → List BgpRoute → Option (List ℕ)
new_text k routes = news k.last (text_for k.vlan k.tree routes)

-- a new one is the last one from then on
abbrev pub followed : Kept → List BgpRoute → Kept
followed k routes = record { vlan = k.vlan; tree = k.tree; last = unwrap_or (new_text k routes) k.last }
