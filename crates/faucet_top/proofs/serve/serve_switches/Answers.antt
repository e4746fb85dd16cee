use Rattle.std.proofs.Common.{inl, inr, Ok, Err, refl}
use Rattle.conf_gather.specs.declared.refused.LoadRefused.TheVariants.{Memory}
use Rattle.conf_load.specs.Loaded.{loaded}
use Rattle.faucet_top.proofs.CheckLemmas.{accepted_loads, refused, refused_loads}
use Rattle.faucet_top.proofs.ServeLemmas.{serves_since, serves_until, told_alone, told_text}
use Rattle.faucet_top.proofs.serve.serve_switches.Goals as goal

pub returns-in-Err-clause-replies : goal.returns-in-Err-clause-replies
returns-in-Err-clause-replies g c =
    let why = c.in-Err.why in
    inl (
      _,
      inr (why, refused_loads loaded _ _ _ _ _ _ _ why (told_alone (g.F.Files.contents c.args.files) c.args.config.now (Err why) (rw c.as_str.ensures at c.in-Err.ensures.told)) c.in-Err.ensures.files, refl),
      refused c.args.config.now (g.O.Sink.wrote c.args.out.now) (g.O.Sink.wrote c.args.out.now) _ _ (g.O.Sink.faults c.args.out.now) (g.O.Sink.faults c.args.out.now) _ _ why c.deliver_refusal-status.result (rw c.as_str-in-Err.ensures at c.deliver_refusal-status.ensures.ends),
      refl,
      c.in-Err.ensures.files.same_contents,
    )

pub returns-in_default-clause-replies : goal.returns-in_default-clause-replies
returns-in_default-clause-replies g c =
    inl (
      _,
      inl refl,
      refused c.args.config.now (g.O.Sink.wrote c.args.out.now) (g.O.Sink.wrote c.args.out.now) _ _ (g.O.Sink.faults c.args.out.now) (g.O.Sink.faults c.args.out.now) _ _ Memory c.deliver_out_of_memory.result c.deliver_out_of_memory.ensures.ends,
      refl,
      c.in-Ok.ensures.files.same_contents,
    )

pub returns-clause-replies : goal.returns-clause-replies
returns-clause-replies g c =
    let did = c.serve-drove.ensures in
    let told = rw c.as_str.ensures at c.in-Ok.ensures.told in
    let begun = c.new-watch.ensures.begun in
    inr (
      c.in-Ok.loaded.0,
      c.in-Ok.loaded.1,
      accepted_loads loaded _ _ _ _ _ c.in-Ok.loaded.0 (told_alone (g.F.Files.contents c.args.files) c.args.config.now (Ok c.in-Ok.loaded) told),
      λ held is. told_text (held 0) c.args.config.now c.in-Ok.loaded (told held is),
      c.serve-drove.result.0,
      serves_until g.H.Hub.may g.F.Files.contents g.F.Files.faults c.args.config.now c.in-Ok.loaded.1 c.args.pace.reload_ms c.args.pace.events c.in-Ok.loaded.0 c.args.hub _ c.args.files _ _ _ _ _ _ _ _ _ _ _ c.deliver_served.result
          c.serve-drove.result.0
          (serves_since g.H.Hub.may g.F.Files.contents g.F.Files.faults c.args.config.now c.in-Ok.loaded.1 c.args.pace.reload_ms c.args.hub _ c.args.files _ _ c.in-Ok.ensures.files.same_contents (c.in-Ok.ensures.files.no_fault (λ file is. absurd cc)) c.args.pace.events c.in-Ok.loaded.0 _ _ c.serve-drove.result.0
          (rw (c.new-watch.ensures.hub, c.new-watch.ensures.files, c.in-Ok-copy.ensures) at (did.serves _ _ _ begun))) did.out c.deliver_served.ensures.ends did.write_fault did.no_write_fault c.deliver_served.ensures.faults,
    )
