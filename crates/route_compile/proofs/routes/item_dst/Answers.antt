use Rattle.std.proofs.Common.{ap, ◌∙◌}
use Rattle.conf_types.specs.Families.{family_of, ip_value, len_of}
use Rattle.plan_base.specs.Fields.{ip_dst}
use Rattle.plan_base.proofs.Families.{is_row, is_family}
use Rattle.route_compile.proofs.Numbers.{cut_prefix}
use Rattle.route_compile.proofs.routes.item_dst.Goals as goal

pub returns : goal.returns
returns c =
    let item = c.args.item.now in
    let some = (is_row (family_of item.ip) (is_family item.ip)).some_bits in
    c.ip_dst.ensures
    ∙ ap (λ a. ip_dst (family_of a) (ip_value a) (len_of c.net.result)) c.net.ensures.ip
    ∙ ap (ip_dst (family_of item.ip) (ip_value item.ip)) c.net.ensures.len
    ∙ cut_prefix (family_of item.ip) some (ip_value item.ip) item.len
