use Rattle.std.proofs.Common.{◌≡◌, length, None, Ok, refl, sym, ◌∙◌, ap, subst, arith}
use Rattle.std.proofs.lemmas.Result.{err_from_is_err_and}
use Rattle.of_wire.specs.Reading.{Fails, many}
use Rattle.of13_codec.specs.Decoding.{hello_step, short}
use Rattle.of_wire.proofs.Many.{starts, goes, ends, is_done, is_some, is_none}
use Rattle.of13_codec.proofs.hello.read_elements.Goals as goal

pub loop-rest-init : goal.loop-rest-init
loop-rest-init c = record {
  place = refl;
  left = starts (hello_step (short c.args.body.now)) None 8 c.args.body.now;
}

pub loop-rest-preserved : goal.loop-rest-preserved
loop-rest-preserved c =
    let body = c.args.body.now in
    let h : hello_step (short body) c.loop-rest.bitmap c.loop-rest.place c.loop-rest.rest.now ≡ Ok (c.in_ok-next.next, c.in_ok-next.taken) =
    ap (λ past. hello_step past c.loop-rest.bitmap c.loop-rest.place c.loop-rest.rest.now) (sym c.short-past.ensures) ∙ c.in_ok-next.ensures.exact in
    record {
      place = omega (arith, c.loop-rest.invariant.place, c.split_at.ensures.back_len);
      left = rw c.split_at.ensures.back (goes (hello_step (short body)) (many (hello_step (short body)) (length body) None 8 body) c.loop-rest.bitmap c.loop-rest.place c.loop-rest.rest.now (c.in_ok-next.next, c.in_ok-next.taken)
          (is_some c.loop-rest.rest.now c.loop-rest-test.ensures) (omega (arith, c.in_ok-next.ensures.taken.0)) h c.loop-rest.invariant.left);
    }

pub returns-in_err-next-clause-exact : goal.returns-in_err-next-clause-exact
returns-in_err-next-clause-exact c =
    let body = c.args.body.now in
    let p = err_from_is_err_and c.from_residual.result c.from_residual.ensures.1 in
    let h : Fails c.in_err-next.field-0.0 (hello_step (short body) c.loop-rest.bitmap c.loop-rest.place c.loop-rest.rest.now) =
    subst (λ past. Fails c.in_err-next.field-0.0 (hello_step past c.loop-rest.bitmap c.loop-rest.place c.loop-rest.rest.now)) c.short-past.ensures c.in_err-next.ensures.exact in
    rw (p.1, p.2) (ends (hello_step (short body)) (many (hello_step (short body)) (length body) None 8 body) c.loop-rest.bitmap c.loop-rest.place c.loop-rest.rest.now c.in_err-next.field-0.0
    (is_some c.loop-rest.rest.now c.loop-rest-test.ensures) h c.loop-rest.invariant.left)

pub returns-clause-exact : goal.returns-clause-exact
returns-clause-exact c = is_done (hello_step (short c.args.body.now)) (many (hello_step (short c.args.body.now)) (length c.args.body.now) None 8 c.args.body.now) c.loop-rest.bitmap c.loop-rest.place c.loop-rest.rest.now (is_none c.loop-rest.rest.now c.loop-rest-test.ensures) c.loop-rest.invariant.left
