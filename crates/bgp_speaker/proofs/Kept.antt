-- What is kept of texts stays where the routes that were looked at last come again.
use Rattle.std.proofs.Common.{◌≡◌, ℕ, Bool, true, ◌&&◌, ◌==◌, List, [], ◌∷◌, Option, Some, None, refl, sym, ap, ap₂, ◌∙◌, eqb-true}
use Rattle.std.specs.Prelude.{if◌then◌else◌, unwrap_or}
use Rattle.std.proofs.lemmas.Bool.{and_parts}
use Rattle.std.proofs.lemmas.Slice.Eq.{bytes_eq-Decides}
use Rattle.bgp_messages.proofs.PrefixLaws.{net_same}
use Rattle.yaml_tree.specs.declared.tree.Key.{Key}
use Rattle.yaml_tree.specs.declared.tree.Tree.{Tree}
use Rattle.bgp_routes.specs.declared.routes.BgpRoute.{BgpRoute}
use Rattle.bgp_speaker.specs.Same.{is_same, are_same}
use Rattle.bgp_speaker.specs.Texts.{Kept, followed, new_text, news, text_for}

-- ---- the same routes

route_same : (r s : BgpRoute) → is_same r s ≡ true → r ≡ s
route_same r s is =
    let one = and_parts (r.dst.ip.0 == s.dst.ip.0) (r.dst.len == s.dst.len && r.gw.0 == s.gw.0) is in
    let two = and_parts (r.dst.len == s.dst.len) (r.gw.0 == s.gw.0) one.1 in
    let dst = net_same r.dst s.dst (eqb-true r.dst.ip.0 s.dst.ip.0 one.0) (eqb-true r.dst.len s.dst.len two.0) in
    let gw : r.gw.0 ≡ s.gw.0 = eqb-true r.gw.0 s.gw.0 two.1 in
    λ i. record { dst = dst i; gw = record { 0 = gw i } }

pub routes_same : (rs ss : List BgpRoute) → are_same rs ss ≡ true → rs ≡ ss
routes_same [] [] is = refl
routes_same [] (s ∷ ss) is = absurd cc
routes_same (r ∷ rs) [] is = absurd cc
routes_same (r ∷ rs) (s ∷ ss) is =
    let both = and_parts (is_same r s) (are_same rs ss) is in
    ap₂ (λ (x : BgpRoute) (xs : List BgpRoute). x ∷ xs) (route_same r s both.0) (routes_same rs ss both.1)

-- ---- what the last text is

-- the text of these routes, where there is one, is the last one
abbrev pub IsLast : Option Key → Tree → List ℕ → List BgpRoute → Type 0
IsLast vlan t last routes = (text : List ℕ) → text_for vlan t routes ≡ Some text → text ≡ last

no_news : (last : List ℕ) (o : Option (List ℕ)) → ((text : List ℕ) → o ≡ Some text → text ≡ last) → news last o ≡ None
no_news last None h = refl
no_news last (Some text) h = ap (λ (b : Bool). if b then None else Some text) ((bytes_eq-Decides text last).1 (h text refl))

-- the same routes give no new text
pub same_again : (vlan : Option Key) (t : Tree) (last : List ℕ) (routes before : List BgpRoute) → are_same routes before ≡ true → IsLast vlan t last before → news last (text_for vlan t routes) ≡ None
same_again vlan t last routes before is kept = ap (λ rs. news last (text_for vlan t rs)) (routes_same routes before is) ∙ no_news last (text_for vlan t before) kept

-- where no text is new, what is kept stays
pub kept_same : (k : Kept) (routes : List BgpRoute) → new_text k routes ≡ None → k ≡ followed k routes
kept_same k routes e = ap (λ (o : Option (List ℕ)). record { vlan = k.vlan; tree = k.tree; last = unwrap_or o k.last }) (sym e)

-- the same routes come again
pub none_new : (k : Kept) (vlan : Option Key) (t : Tree) (last : List ℕ) (routes here before : List BgpRoute) (same : Bool)
    → ◌≡◌ {A = Kept} (record { vlan = vlan; tree = t; last = last }) k → here ≡ before → IsLast vlan t last before → same ≡ are_same routes here → same ≡ true → new_text k routes ≡ None
none_new k vlan t last routes here before same view at kept is holds =
    ap (λ (it : Kept). new_text it routes) (sym view)
    ∙ same_again vlan t last routes before (ap (λ (rs : List BgpRoute). are_same routes rs) (sym at) ∙ sym is ∙ holds) kept
