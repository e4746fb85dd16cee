-- Whether routes are the same, one by one.
use Rattle.std.specs.Prelude.{Bool, true, false, ◌==◌, ◌&&◌, List, [], ◌∷◌}
use Rattle.bgp_routes.specs.declared.routes.BgpRoute.{BgpRoute}

abbrev pub is_same : BgpRoute → BgpRoute → Bool
is_same r s = r.dst.ip.0 == s.dst.ip.0 && (r.dst.len == s.dst.len && r.gw.0 == s.gw.0)

abbrev pub are_same : List BgpRoute → List BgpRoute → Bool
are_same [] [] = true
are_same [] (s ∷ ss) = false
are_same (r ∷ rs) [] = false
are_same (r ∷ rs) (s ∷ ss) = is_same r s && are_same rs ss
