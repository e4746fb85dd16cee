use Rattle.std.proofs.Common.{◌≡◌, ℕ, ◌+◌, ◌-◌, List, take, drop, Option, Some, unwrap_or, sym, ◌∙◌, ap, subst, arith}
use Rattle.fg_outside.specs.Contents.{Contents, ReadsAt, told_now}
use Rattle.fg_outside.specs.FileSource.{left_of}
use Rattle.fg_outside.proofs.SourceLemmas.{left_of-read}
use Rattle.fg_outside.proofs.file_source.FileSource.read_ahead.Goals as goal

pub returns-in-Some-clause-left : goal.returns-in-Some-clause-left
returns-in-Some-clause-left g c =
    let source = c.args.self.now in
    let is_told = told_now (g.F.Files.contents source.files) source.name in
    let buf = c.read_at.new.buf in
    let n = c.in-Some.n in
    let all : n - 0 ≡ n = omega arith in
    let none : 0 ≡ source.end - source.start = omega (arith, c.requires) in
    ap (λ (held : Option Contents). left_of (take (n - 0) buf) (source.place + n) (told_now held source.name)) c.read_at.ensures.contents
    ∙ ap (λ k. left_of (take k buf) (source.place + n) is_told) all
    ∙ left_of-read is_told buf source.place n (λ file here.
    let found = c.in_ok-read_at.ensures.present file (subst (λ (name : List ℕ). told_now (g.F.Files.contents source.files) name ≡ Some (Some file)) (sym c.as_str-name.ensures) here) in
    let same : found.0 ≡ n = ap (λ (o : Option ℕ). unwrap_or o 0) (sym found.1 ∙ c.in-Some.is) in
    subst (λ k. ReadsAt file source.place buf k) same found.2)
    ∙ ap (λ k. left_of (take k (drop source.start source.ahead)) source.place is_told) none
