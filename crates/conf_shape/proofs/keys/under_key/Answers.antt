use Rattle.std.proofs.Common.{◌≡◌, Result, IfOk, subst}
use Rattle.std.proofs.lemmas.Result.{on_ok_weaker}
use Rattle.conf_shape.specs.declared.kinds.Kind.{Kind}
use Rattle.conf_shape.specs.declared.refused.ConfCause.{ConfCause}
use Rattle.conf_shape.specs.Sections.{map_keys}
use Rattle.conf_shape.proofs.SeenNames.{of_names, once_under}
use Rattle.conf_shape.proofs.keys.under_key.Goals as goal

pub returns-in-Datapaths-clause-kind : goal.returns-in-Datapaths-clause-kind
returns-in-Datapaths-clause-kind c =
    subst (λ (found : Result Kind ConfCause). IfOk c.named_once.result (λ kind. kind ≡ found)) (once_under c.args.map c.in-Datapaths.is (map_keys c.args.earlier.now) c.args.key.now)
    (c.named_once.ensures.kind (map_keys c.args.earlier.now) (c.requires (of_names c.args.map c.in-Datapaths.is)))

pub returns-in-Datapaths-clause-more : goal.returns-in-Datapaths-clause-more
returns-in-Datapaths-clause-more c =
    on_ok_weaker c.named_once.result (λ has of_names. has) (c.named_once.ensures.more (map_keys c.args.earlier.now) (c.requires (of_names c.args.map c.in-Datapaths.is)))
