use Rattle.std.proofs.Common.{◌≡◌, ◌++◌, Some, ◌∙◌, ap, length-append, arith, subst}
use Rattle.recording.specs.declared.refused.RecordCause.TheVariants.{Cut}
use Rattle.recording.specs.Reader.{place_of, IsReadTo}
use Rattle.recording.proofs.Refusals.{cut_body}
use Rattle.recording.proofs.reader.Reader.read_body.Goals as goal

pub returns-then-len-clause-refuses : goal.returns-then-len-clause-refuses
returns-then-len-clause-refuses g c = λ cause is_cause.
    let old = c.args.self.now in
    let h = c.requires.header in
    let body = c.grow.new.bytes in
    let end = c.in_ok-grow.ensures.end (omega arith) in
    let same : Cut ≡ cause = cc in
    record {
      why = λ bytes e.
          cut_body (place_of old) old.head body (g.S.Source.left c.grow.new.source) h.number h.whole h.accepted (omega (arith, h.len)) end bytes e
          ∙ ap (λ k. Some k) same;
      begun = omega (arith, length-append old.head body, h.whole);
      read = subst (λ k. IsReadTo k (old.head ++ body) (g.S.Source.left c.grow.new.source)) same end;
    }
