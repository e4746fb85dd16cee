use Rattle.std.proofs.Common.{◌≡◌, ℕ, Option, Some, List, ◌++◌, arith, take, length, sym, ◌∙◌, ap, subst, unwrap_or}
use Rattle.std.proofs.lemmas.Grind.{common_steps}
use Rattle.fg_outside.specs.Contents.{Contents, ReadsAt, told_now}
use Rattle.fg_outside.proofs.FileLemmas.{front-append}
use Rattle.fg_outside.proofs.files.read_whole.Goals as goal

-- what a read put behind the bytes so far
piece_read : (file old buf : List ℕ) (n from : ℕ) (got : Option ℕ) → from ≡ length old → (m : ℕ) × (got ≡ Some m) × ReadsAt file from buf m → got ≡ Some n → ReadsAt file (length old) buf n
piece_read file old buf n from got start found is =
    let same : found.0 ≡ n = ap (λ (o : Option ℕ). unwrap_or o 0) (sym found.1 ∙ is) in
    subst (λ k. ReadsAt file k buf n) start (subst (λ k. ReadsAt file from buf k) same found.2)

-- so the bytes are a front of the file again
grown : (file old buf new : List ℕ) (n : ℕ) → new ≡ old ++ take n buf → old ≡ take (length old) file → ReadsAt file (length old) buf n → new ≡ take (length new) file
grown file old buf new n is front read = subst (λ (l : List ℕ). l ≡ take (length l) file) (sym is) (front-append file old (take n buf) n front read.bytes read.within)

pub returns-in-Some-eq0-clause-present : goal.returns-in-Some-eq0-clause-present
returns-in-Some-eq0-clause-present g c = λ file holds.
    let front : c.loop-bytes.bytes ≡ take (length c.loop-bytes.bytes) file = c.loop-bytes.invariant.front file holds in
    let found = c.in_ok-read_at.ensures.present file (ap (λ (held : Option Contents). told_now held c.args.name.now) c.loop-bytes.invariant.contents ∙ holds) in
    grind (arith, common_steps, front, found)

pub returns-then-len-most-clause-present : goal.returns-then-len-most-clause-present
returns-then-len-most-clause-present g c = λ file holds.
    let found = c.in_ok-read_at.ensures.present file (ap (λ (held : Option Contents). told_now held c.args.name.now) c.loop-bytes.invariant.contents ∙ holds) in
    let read = piece_read file c.loop-bytes.bytes c.read_at.new.buf c.in-Some.n c.len-from.result _ c.len-from.ensures found c.in-Some.is in
    let front = grown file c.loop-bytes.bytes c.read_at.new.buf c.append.new.self c.in-Some.n c.in_ok-append-in-Some.ensures.ok (c.loop-bytes.invariant.front file holds) read in
    subst (λ k. c.append.new.self ≡ take k file) (sym c.len.ensures ∙ c.if-len-most.true) front

pub loop-bytes-preserved : goal.loop-bytes-preserved
loop-bytes-preserved g c = record {
  most = grind (arith, common_steps);
  front = λ file holds.
      let found = c.in_ok-read_at.ensures.present file (ap (λ (held : Option Contents). told_now held c.args.name.now) c.loop-bytes.invariant.contents ∙ holds) in
      let read = piece_read file c.loop-bytes.bytes c.read_at.new.buf c.in-Some.n c.len-from.result _ c.len-from.ensures found c.in-Some.is in
      grown file c.loop-bytes.bytes c.read_at.new.buf c.append.new.self c.in-Some.n c.in_ok-append-in-Some.ensures.ok (c.loop-bytes.invariant.front file holds) read;
  contents = c.read_at.ensures.contents ∙ c.loop-bytes.invariant.contents;
  faults = grind (arith, common_steps);
  absences = grind (arith, common_steps);
  refused = grind (arith, common_steps);
}
