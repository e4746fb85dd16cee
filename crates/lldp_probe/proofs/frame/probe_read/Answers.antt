use Rattle.std.proofs.Common.{◌∙◌, sym, subst, arith}
use Rattle.net_base.specs.Numbers.{IsPortNo}
use Rattle.of_wire.proofs.Grammars.{AreBytes}
use Rattle.lldp_probe.specs.declared.frame.Probe.{Probe}
use Rattle.lldp_probe.specs.Probes.{SpellsProbe}
use Rattle.lldp_probe.proofs.Spelled.{laid_out_spells, spelled_is_laid_out}
use Rattle.lldp_probe.proofs.frame.probe_read.Goals as goal

-- src/frame.rt:90:9
pub returns-then-not-is_laid_out-clause-none : goal.returns-then-not-is_laid_out-clause-none
returns-then-not-is_laid_out-clause-none c = λ none probe port s.
    let t = spelled_is_laid_out probe c.args.frame.now s in absurd (cc (c.is_laid_out.ensures.no t.out, c.if-not-is_laid_out.true))

-- src/frame.rt:92:16
pub returns-in_err-port-clause-none : goal.returns-in_err-port-clause-none
returns-in_err-port-clause-none c = λ none probe port s.
    let t = spelled_is_laid_out probe c.args.frame.now s in
    absurd (cc (c.in_err-port.ensures.range.1 (subst IsPortNo (sym t.port ∙ sym c.u32_at.ensures) port)))

-- src/frame.rt:85:1
pub returns-clause-some : goal.returns-clause-some
returns-clause-some c =
    let bytes : AreBytes c.args.frame.now = record { small = λ i. omega (arith, c.type_inv.frame i) } in
    subst (λ (p : Probe). SpellsProbe p c.args.frame.now) (cc (c.u64_at.ensures, c.u32_at.ensures, c.in_ok-port.ensures.value))
    (laid_out_spells c.args.frame.now bytes (c.is_laid_out.ensures.yes (cc c.if-not-is_laid_out.false)))
