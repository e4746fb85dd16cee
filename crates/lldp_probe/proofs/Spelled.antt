-- A frame that is laid out as a probe spells one, and one that spells a probe is laid out so.
use Rattle.std.proofs.Common.{◌≡◌, ℕ, List, refl, sym, ◌∙◌, arith}
use Rattle.of_wire.specs.Numbers.{number_in}
use Rattle.of_wire.proofs.Grammars.{AreBytes, number_then, ignored_then, number_again, ignored_again}
use Rattle.lldp_probe.specs.declared.frame.Probe.{Probe}
use Rattle.lldp_probe.specs.Probes.{Anything, IsLaidOut, SpellsProbe, chassis, lldp, nearest_bridges, port_of_chassis, time_to_live}

pub laid_out_spells : (frame : List ℕ) → AreBytes frame → IsLaidOut frame → SpellsProbe (record { dp = record { 0 = number_in 17 8 frame }; port = number_in 28 4 frame }) frame
laid_out_spells frame h s =
    number_then 0 6 nearest_bridges _ frame h (omega (arith, s.long)) s.group (
    ignored_then 6 6 _ frame (omega (arith, s.long)) (
    number_then 12 2 lldp _ frame h (omega (arith, s.long)) s.kind (
    number_then 14 3 chassis _ frame h (omega (arith, s.long)) s.chassis (
    number_then 17 8 (number_in 17 8 frame) _ frame h (omega (arith, s.long)) refl (
    number_then 25 3 port_of_chassis _ frame h (omega (arith, s.long)) s.port (
    number_then 28 4 (number_in 28 4 frame) _ frame h (omega (arith, s.long)) refl (
    number_then 32 2 time_to_live _ frame h (omega (arith, s.long)) s.ttl (
    ignored_then 34 2 Anything frame (omega (arith, s.long)) tt))))))))

pub record Told (probe : Probe) (frame : List ℕ) : Type 0 where
  pub out : IsLaidOut frame
  pub dp : number_in 17 8 frame ≡ probe.dp.0
  pub port : number_in 28 4 frame ≡ probe.port

pub spelled_is_laid_out : (probe : Probe) (frame : List ℕ) → SpellsProbe probe frame → Told probe frame
spelled_is_laid_out probe frame s =
    let a = number_again 0 6 nearest_bridges _ frame s in
    let b = ignored_again 6 6 _ frame a.behind in
    let c = number_again 12 2 lldp _ frame b.1 in
    let d = number_again 14 3 chassis _ frame c.behind in
    let e = number_again 17 8 probe.dp.0 _ frame d.behind in
    let f = number_again 25 3 port_of_chassis _ frame e.behind in
    let g = number_again 28 4 probe.port _ frame f.behind in
    let i = number_again 32 2 time_to_live _ frame g.behind in
    let j = ignored_again 34 2 Anything frame i.behind in
    record {
      out = record {
        long = omega (arith, a.size, b.0, c.size, d.size, e.size, f.size, g.size, i.size, j.0);
        group = a.value;
        kind = c.value;
        chassis = d.value;
        port = f.value;
        ttl = i.value;
      };
      dp = e.value;
      port = g.value;
    }

pub one_probe : (a b : Probe) (frame : List ℕ) → SpellsProbe a frame → SpellsProbe b frame → a ≡ b
one_probe a b frame s t =
    let x = spelled_is_laid_out a frame s in
    let y = spelled_is_laid_out b frame t in
    let dps : a.dp.0 ≡ b.dp.0 = sym x.dp ∙ y.dp in
    let ports : a.port ≡ b.port = sym x.port ∙ y.port in
    λ i. record { dp = record { 0 = dps i }; port = ports i }
