use Rattle.std.proofs.Common.{◌≡◌, ◌+◌, length, None}
use Rattle.of_wire.specs.Reading.{many}
use Rattle.of13_codec.specs.Decoding.{hello_step, short}
use Rattle.of_wire.proofs.Many.{Left}
use Rattle.of13_codec.proofs.hello.read_elements.Given as goal

abbrev pub invariant-loop-rest : goal.invariant-loop-rest
invariant-loop-rest l = record {
  place : l.place + length l.rest ≡ 8 + length l.body;
  left : Left (hello_step (short l.body)) (many (hello_step (short l.body)) (length l.body) None 8 l.body) l.bitmap l.place l.rest;
}

abbrev pub decreases-loop-rest : goal.decreases-loop-rest
decreases-loop-rest l = length l.rest
