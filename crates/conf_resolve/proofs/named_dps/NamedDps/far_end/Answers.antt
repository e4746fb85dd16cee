use Rattle.std.proofs.Common.{Some, None, ap, ◌∙◌}
use Rattle.std.specs.Option.{option_map}
use Rattle.conf_shape.specs.declared.raw.RawDp.{RawDp}
use Rattle.conf_resolve.proofs.Found.{far_end_found}
use Rattle.conf_resolve.proofs.named_dps.NamedDps.far_end.Goals as goal

pub returns-in_err-ports : goal.returns-in_err-ports
returns-in_err-ports c =
    c.from_residual.ensures
    ∙ far_end_found c.self.inside.dps.now c.args.self.now c.self.inside.names c.args.end.now c.as_str.result.now None c.self.invariant c.self.view_is c.in_err-ports.ensures.value c.as_str.ensures

pub returns-in_err-port : goal.returns-in_err-port
returns-in_err-port c =
    let d = c.in_ok-ports.ports.now in
    c.from_residual-in_err-port.ensures
    ∙ ap (option_map (λ number. record { dp = d.id; port = number })) c.in_err-port.ensures
    ∙ far_end_found c.self.inside.dps.now c.args.self.now c.self.inside.names c.args.end.now c.as_str.result.now (Some d) c.self.invariant c.self.view_is c.in_ok-ports.ensures.value c.as_str.ensures

pub returns : goal.returns
returns c =
    let d = c.in_ok-ports.ports.now in
    ap (λ (e : RawDp). Some (record { dp = e.id; port = c.in_ok-port.port })) c.dp.ensures
    ∙ ap (option_map (λ number. record { dp = d.id; port = number })) c.in_ok-port.ensures
    ∙ far_end_found c.self.inside.dps.now c.args.self.now c.self.inside.names c.args.end.now c.as_str.result.now (Some d) c.self.invariant c.self.view_is c.in_ok-ports.ensures.value c.as_str.ensures
