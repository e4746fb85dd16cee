-- A list gives at most as many links as it is long.
use Rattle.std.proofs.Common.{◌≤◌, List, [], ◌∷◌, length, arith}
use Rattle.fg_links.specs.declared.next.MemNext.{MemNext}
use Rattle.fg_links.specs.declared.next.MemNext.TheVariants.{New, Ready, Moment}
use Rattle.fg_links.specs.Nexts.{links_in}

pub links_in_le : {L : Type 0} (list : List (MemNext L)) → links_in list ≤ length list
links_in_le [] = omega arith
links_in_le (New link ∷ rest) = omega (arith, links_in_le rest)
links_in_le (Ready link ∷ rest) = omega (arith, links_in_le rest)
links_in_le (Moment moment ∷ rest) = omega (arith, links_in_le rest)
