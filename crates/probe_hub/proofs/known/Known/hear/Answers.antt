use Rattle.std.proofs.Common.{◌≡◌, ◌<◌, ℕ, List, Some, length, take, drop, ap, ◌∙◌, arith}
use Rattle.std.proofs.lemmas.Result.{IfOk-weaker}
use Rattle.probe_hub.specs.declared.known.Known.{Known}
use Rattle.probe_hub.specs.Conns.{came_on}
use Rattle.probe_hub.specs.Known.{after_heard}
use Rattle.probe_hub.proofs.Knowing.{given_cut, given_whole}
use Rattle.probe_hub.proofs.known.Known.hear.Goals as goal

pub returns-then-given-len : goal.returns-then-given-len
returns-then-given-len c =
    let k = c.args.self.now in
    let come = c.in_ok-given.ensures ∙ ap (λ (l : List ℕ). came_on k.links k.moment c.args.conn l k.conns) c.as_slice.ensures in
    given_whole k c.args.conn c.args.piece c.take_piece.new.self c.in_ok-given.given come (omega (arith, c.len.ensures, c.if-given-len.true))

pub returns : goal.returns
returns c =
    let k = c.args.self.now in
    let number = c.args.conn in
    let piece = c.args.piece in
    let conns = c.take_piece.new.self in
    let given = c.in_ok-given.given in
    let bytes = c.in_ok-bytes.bytes in
    let new : Known = record k { conns = conns; rest = Some (record { conn = number; bytes = bytes }) } in
    let come = c.in_ok-given.ensures ∙ ap (λ (l : List ℕ). came_on k.links k.moment number l k.conns) c.as_slice.ensures in
    let behind = c.in_ok-bytes.ensures ∙ c.split_at.ensures.back ∙ ap (drop given) c.as_slice-2.ensures in
    let front = c.split_at.ensures.front ∙ ap (take given) c.as_slice-2.ensures in
    let within : given < length piece = omega (arith, c.len.ensures, c.if-given-len.false) in
    IfOk-weaker c.from_slice-2.result (λ first. first ≡ c.split_at.result.0.now) (λ first. (new, first) ≡ after_heard number piece k)
    (λ first is. given_cut k number piece conns given come bytes first behind (is ∙ front) within) c.from_slice-2.ensures
