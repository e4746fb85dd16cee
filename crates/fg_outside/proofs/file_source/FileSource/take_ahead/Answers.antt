use Rattle.std.proofs.Common.{ℕ, ◌-◌, List, take, drop, sym, ◌∙◌, ap, arith, length-take}
use Rattle.fg_outside.specs.Contents.{told_now}
use Rattle.fg_outside.specs.Left.{prepended}
use Rattle.fg_outside.specs.FileSource.{left_of}
use Rattle.fg_outside.proofs.SourceLemmas.{left_of-take, part_behind}
use Rattle.fg_outside.proofs.file_source.FileSource.take_ahead.Goals as goal

pub returns-clause-took : goal.returns-clause-took
returns-clause-took g c =
    let source = c.args.self.now in
    let is_told = told_now (g.F.Files.contents source.files) source.name in
    let n = c.copy_front-count.result in
    let ahead = take (source.end - source.start) (drop source.start source.ahead) in
    left_of-take ahead source.place is_told n
    ∙ ap (λ (l : List ℕ). prepended l (left_of (drop n ahead) source.place is_told)) (sym c.copy_front-count.ensures.front)
    ∙ ap (λ (l : List ℕ). prepended (take n c.copy_front-count.new.buf) (left_of l source.place is_told)) (part_behind source.ahead source.start source.end n (omega (arith, c.copy_front-count.ensures.count, length-take (source.end - source.start) (drop source.start source.ahead))))
