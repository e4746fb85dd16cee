use Rattle.std.proofs.Common.{length, min, ap, sym, ◌∙◌}
use Rattle.std.proofs.lemmas.List.Concat.{length-flat_map}
use Rattle.conf_limits.specs.Sizes.{named_rules}
use Rattle.conf_limits.proofs.Capped.{capped-sum}
use Rattle.conf_limits.proofs.acl_sizes.rules_len.Goals as goal

pub returns : goal.returns
returns c =
    c.add_rules.ensures
    ∙ capped-sum c.args.cap (λ name. length (named_rules c.args.acls.now name)) c.args.names.now
    ∙ ap (min c.args.cap) (sym (length-flat_map (named_rules c.args.acls.now) c.args.names.now))
