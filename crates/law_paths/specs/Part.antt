-- Parts of stacks that no link leads out of.
use Rattle.std.specs.Prelude.{◌≡◌, Bool, List, filter}
use Rattle.std.specs.List.{AllByRecursion}
use Rattle.net_base.specs.declared.numbers.DpId.{DpId}
use Rattle.net_base.specs.declared.stack.StackLink.{StackLink}
use Rattle.stack_paths.specs.Stack.{Stack}

-- each link has both ends in the part, or none
abbrev pub IsClosed : (DpId → Bool) → List StackLink → Type 0
IsClosed is_in links = AllByRecursion (λ l. is_in l.a ≡ is_in l.b) links

-- the links of a part
abbrev pub links_in : (DpId → Bool) → List StackLink → List StackLink
links_in is_in links = filter (λ l. is_in l.a) links

-- two stacks of the same datapaths have the same links in the part, in the same order
pub record AreAlikeIn (is_in : DpId → Bool) (s t : Stack) : Type 0 where
  pub nodes : s.nodes ≡ t.nodes
  pub closed : IsClosed is_in s.links
  pub closed_too : IsClosed is_in t.links
  pub links : links_in is_in s.links ≡ links_in is_in t.links
