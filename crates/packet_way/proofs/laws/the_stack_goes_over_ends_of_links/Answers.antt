use Rattle.std.proofs.Common.{◌≡◌, ℕ, true, Option, sym, subst}
use Rattle.std.specs.Prelude.{IsSomeAnd}
use Rattle.net_base.specs.declared.numbers.DpId.{DpId}
use Rattle.conf_types.specs.declared.datapath.Port.{Port}
use Rattle.conf_types.specs.Configuration.{Configuration, port_at}
use Rattle.conf_types.specs.Membership.{is_stack}
use Rattle.packet_way.proofs.Ends.{IsEnd, hop_end, tree_end}
use Rattle.packet_way.proofs.laws.the_stack_goes_over_ends_of_links.Goals as goal

is_there : (conf : Configuration) (id : DpId) (number : ℕ) → IsEnd conf id number → IsSomeAnd (port_at conf id number) (λ q. is_stack q ≡ true)
is_there conf id number end = subst (λ (o : Option Port). IsSomeAnd o (λ q. is_stack q ≡ true)) (sym end.here) end.is

pub returns-clause-hops : goal.returns-clause-hops
returns-clause-hops c = λ conf ups id to hop valid is. is_there conf id hop (hop_end conf valid ups id to hop is)

pub returns-clause-tree : goal.returns-clause-tree
returns-clause-tree c = λ conf ups id number valid is. is_there conf id number (tree_end conf valid ups id number is)
