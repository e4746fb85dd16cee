use Rattle.std.proofs.Common.{◌++◌, List, ◌∷◌, [], filter, not, rules, ap, ◌∙◌}
use Rattle.std.proofs.lemmas.Fn.{filter_same}
use Rattle.conf_types.specs.declared.state.HostRec.{HostRec}
use Rattle.host_learn.specs.Learning.{is_heard}
use Rattle.test_hosts.proofs.plain.move_last.Goals as goal

pub returns-clause-ok : goal.returns-clause-ok
returns-clause-ok c =
    let others = λ (host : HostRec). not (is_heard c.args.conf.now c.args.heard host) in
    let kept = filter_same _ others _ (λ x b f' k. (search rules, search rules)) _ _ c.retain.ensures.filtered in
    c.in_ok-push.ensures.items ∙ ap (λ (hosts : List HostRec). hosts ++ c.args.heard ∷ []) (kept ∙ ap (filter others) c.reserve.ensures.items)
