use Rattle.std.proofs.Common.{◌≡◌, length, map, ap, arith, List, ℕ, Bor}
use Rattle.std.proofs.lemmas.List.{length-map}
use Rattle.std.specs.Str.Lines.{lines}
use Rattle.yaml_subset.proofs.LineLaws.{lines_at_most}
use Rattle.yaml_subset.proofs.reading.read_text.Goals as goal

pub read_lines-requires : goal.read_lines-requires
read_lines-requires c =
    let items = c.in_ok-lines.lines.items in
    let same : length (map (λ (x : Bor (List ℕ)). x.now) items) ≡ length (lines c.args.text.now) = ap length c.in_ok-lines.ensures in
    let counted : length (map (λ (x : Bor (List ℕ)). x.now) items) ≡ length items = length-map items (λ (x : Bor (List ℕ)). x.now) in
    let few = lines_at_most c.args.text.now in
    let all : length c.as_slice.result.now ≡ length items = ap length c.as_slice.ensures.value in
    omega (arith, c.requires)
