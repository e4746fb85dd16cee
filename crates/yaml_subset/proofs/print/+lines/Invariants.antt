use Rattle.std.proofs.Common.{◌≡◌, ◌++◌, drop, map}
use Rattle.yaml_subset.specs.Printed.{piece_of, pair_piece, item_lines, pair_lines}
use Rattle.yaml_subset.proofs.print.+lines.Given as goal

-- what is left completes the lines
abbrev pub invariant-print_items-loop-item : goal.invariant-print_items-loop-item
invariant-print_items-loop-item l = l.out ++ item_lines l.indent (map piece_of (drop l.item-index l.items)) ≡ l.fn.out ++ item_lines l.indent (map piece_of l.items)

abbrev pub invariant-print_pairs-loop-pair : goal.invariant-print_pairs-loop-pair
invariant-print_pairs-loop-pair l = l.out ++ pair_lines l.indent (map pair_piece (drop l.pair-index l.pairs)) ≡ l.fn.out ++ pair_lines l.indent (map pair_piece l.pairs)
