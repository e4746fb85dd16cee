use Rattle.std.proofs.Common.{◌≡◌, ℕ, ◌+◌, ◌-◌, List, ◌++◌, length, take, drop, Some, sym, ◌∙◌, ap, arith, length-drop}
use Rattle.std.proofs.lemmas.List.{take_all}
use Rattle.fg_outside.proofs.SourceLemmas.{next_bytes}
use Rattle.fg_outside.proofs.mem_source.SourceInMemorySource.read.Goals as goal

pub returns-clause-took : goal.returns-clause-took
returns-clause-took g c =
    let source = c.args.self.now in
    let bytes = c.as_slice.result.now in
    let n = c.copy_front-count.result in
    let rest : take (length bytes - source.at) (drop source.at bytes) ≡ drop source.at bytes = take_all _ _ (omega (arith, length-drop source.at bytes)) in
    let front : take n c.copy_front-count.new.buf ≡ take n (drop source.at source.bytes) =
    c.copy_front-count.ensures.front
    ∙ ap (λ (l : List ℕ). take n l) rest
    ∙ ap (λ (l : List ℕ). take n (drop source.at l)) c.as_slice.ensures
    in
    ap (λ (l : List ℕ). Some l) (sym (next_bytes source.bytes source.at n))
    ∙ ap (λ (l : List ℕ). Some (l ++ drop (source.at + n) source.bytes)) (sym front)
