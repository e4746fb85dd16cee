use Rattle.std.proofs.Common.{ℕ, ◌==◌, [], length, ap, ◌∙◌, arith}
use Rattle.std.specs.BTreeMap.{is_at}
use Rattle.std.specs.Map.{lookup}
use Rattle.std.specs.Option.{option_map_or}
use Rattle.std.specs.Ordering.{nat_cmp}
use Rattle.std.specs.declared.alloc.Global.{Global}
use Rattle.std.specs.declared.vec.Vec.{Vec}
use Rattle.conf_types.specs.declared.datapath.Port.{Port}
use Rattle.conf_types.specs.Lists.{is_among}
use Rattle.conf_limits.proofs.PortPlaces.{no_places, places_more}
use Rattle.conf_limits.proofs.port_places.numbers_of.Goals as goal

pub loop-i-init : goal.loop-i-init
loop-i-init c = λ n at.
    ap (λ es. is_among (option_map_or (λ (xs : Vec ℕ Global). xs.items) (lookup (is_at (nat_cmp n)) es) []) at) c.new-numbers.ensures.empty
    ∙ no_places c.args.ports.now (length c.args.ports.now) (λ (p : Port). p.no == n) at (omega arith)

pub loop-i-preserved : goal.loop-i-preserved
loop-i-preserved c = λ n at.
    places_more c.args.ports.now c.loop-i.i _ at c.index-ports-i.result (λ (p : Port). p.no == n) _ _ (omega arith) (omega arith) c.index-ports-i.is (c.loop-i.invariant n at) (c.in_ok-add_number.ensures n)
