use Rattle.std.proofs.Common.{length, position, ap, ◌∙◌, arith}
use Rattle.std.proofs.lemmas.Result.{IfOk-weaker}
use Rattle.probe_hub.specs.Probing.{is_last_of}
use Rattle.probe_hub.proofs.Last.{push_again, set_again}
use Rattle.probe_hub.proofs.probing.Probing.note.Goals as goal

pub returns-in-Some : goal.returns-in-Some
returns-in-Some c =
    let end = c.args.end.now in
    let lasts = c.args.self.now.last in
    let here = c.in-Some.ensures.place ∙ ap (position (is_last_of end.dp end.port)) c.as_slice.ensures in
    ap (λ l. record c.args.self.now { last = l }) (c.set.ensures ∙ set_again c.args.moment end lasts c.in-Some.at here (omega (arith, ap length c.as_slice.ensures, c.in-Some.ensures.within)))

pub returns-in-None : goal.returns-in-None
returns-in-None c =
    let end = c.args.end.now in
    let lasts = c.args.self.now.last in
    let none = c.in-None.ensures.place ∙ ap (position (is_last_of end.dp end.port)) c.as_slice.ensures in
    IfOk-weaker c.push.result _ _ (λ done is. ap (λ l. record c.args.self.now { last = l }) (is ∙ push_again c.args.moment end lasts none)) c.push.ensures.ok
