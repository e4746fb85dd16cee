use Rattle.std.proofs.Common.{ℕ, [], length, string_bytes, ap, ◌∙◌, arith}
use Rattle.std.specs.BTreeMap.{is_at}
use Rattle.std.specs.Cmp.Lexicographic.{slice_cmp}
use Rattle.std.specs.Map.{lookup}
use Rattle.std.specs.Option.{option_map_or}
use Rattle.std.specs.Ordering.{nat_cmp}
use Rattle.std.specs.declared.alloc.Global.{Global}
use Rattle.std.specs.declared.vec.Vec.{Vec}
use Rattle.conf_types.specs.declared.datapath.Port.{Port}
use Rattle.conf_types.specs.Lists.{is_among, is_same}
use Rattle.conf_limits.proofs.PortPlaces.{no_places, places_more}
use Rattle.conf_limits.proofs.port_places.names_of.Goals as goal

pub loop-i-init : goal.loop-i-init
loop-i-init c = λ t at.
    ap (λ es. is_among (option_map_or (λ (xs : Vec ℕ Global). xs.items) (lookup (is_at (λ k. slice_cmp nat_cmp t (string_bytes k))) es) []) at) c.new-names.ensures.empty
    ∙ no_places c.args.ports.now (length c.args.ports.now) (λ (p : Port). is_same p.name t) at (omega arith)

pub loop-i-preserved : goal.loop-i-preserved
loop-i-preserved c = λ t at.
    places_more c.args.ports.now c.loop-i.i _ at c.index-ports-i.result (λ (p : Port). is_same p.name t) _ _ (omega arith) (omega arith) c.index-ports-i.is (c.loop-i.invariant t at) (c.in_ok-add_name.ensures t)
