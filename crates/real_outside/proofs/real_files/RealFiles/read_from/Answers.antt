use Rattle.std.proofs.Common.{◌+◌, ◌-◌, ◌^◌, min, refl, ◌∙◌, ap}
use Rattle.real_outside.proofs.real_files.RealFiles.read_from.Goals as goal

pub returns-clause-went : goal.returns-clause-went
returns-clause-went g c =
    let ready = c.in_ok-open.ensures.ready in
    record {
      opened = c.in_ok-open.open;
      after = c.read.new.self;
      ready = rw c.take.ensures.value at ready;
      stays = refl;
      named = c.read.ensures.name ∙ ready.named;
      place = c.in_ok-n.ensures.place ∙ ap (λ p. min (p + c.in_ok-n.n) (2 ^ 64 - 1)) ready.placed;
      bytes = c.in_ok-n.ensures.bytes;
    }
