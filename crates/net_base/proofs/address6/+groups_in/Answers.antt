use Rattle.std.proofs.Common.{ℕ, ◌∙◌, Some, ap}
use Rattle.net_base.proofs.Sums.{first_unread, rest_unread, both_read}
use Rattle.net_base.proofs.address6.+groups_in.Goals as goal

pub returns-in_err-group-in-Some-clause-read : goal.returns-in_err-group-in-Some-clause-read
returns-in_err-group-in-Some-clause-read t c =
    c.from_residual-in_err-group-in-Some.ensures
    ∙ first_unread c.args.most c.args.bytes.now c.in-Some.first.now c.in-Some.rest.now c.if-most-eq0.false c.in-Some.ensures c.in_err-group-in-Some.ensures

pub returns-in_err-others-in-Some-clause-read : goal.returns-in_err-others-in-Some-clause-read
returns-in_err-others-in-Some-clause-read t c =
    c.from_residual-in_err-others-in-Some.ensures
    ∙ rest_unread c.args.most c.args.bytes.now c.in-Some.first.now c.in-Some.rest.now c.if-most-eq0.false c.in-Some.ensures c.in_ok-group-in-Some.group c.in_ok-group-in-Some.ensures
    c.in_err-others-in-Some.ensures.read

pub returns-in_ok-others-in-Some-clause-read : goal.returns-in_ok-others-in-Some-clause-read
returns-in_ok-others-in-Some-clause-read t c =
    ap (λ (sum : ℕ × ℕ). Some sum) c.in_front-in-Some.ensures.value
    ∙ both_read c.args.most c.args.bytes.now c.in-Some.first.now c.in-Some.rest.now c.if-most-eq0.false c.in-Some.ensures c.in_ok-group-in-Some.group c.in_ok-group-in-Some.ensures
    c.in_ok-others-in-Some.others c.in_ok-others-in-Some.ensures.read
