use Rattle.std.proofs.Common.{◌≡◌, Option, Some, None, Err, IsErrOf, refl, sym, ◌∙◌, ap}
use Rattle.std.proofs.lemmas.Option.{same_Some}
use Rattle.recording.specs.declared.refused.RecordCause.{RecordCause}
use Rattle.recording.specs.declared.reader.Stop.{Stop}
use Rattle.recording.specs.declared.reader.Stop.TheVariants.{Refused, Memory}
use Rattle.recording.specs.Reader.{refused_of}
use Rattle.recording.proofs.script_hub.ScriptHub.read_on.Goals as goal

not_memory : {T : Type 0} (stop : Stop) (cause : RecordCause) → stop ≡ Refused cause → IsErrOf {T = T} (Err stop) Memory → ⊥
not_memory stop cause is memory = cc

not_none : {T : Type 0} (found : Option T) (x : T) → found ≡ Some x → found ≡ None → ⊥
not_none found x is none = cc

pub returns-in-Err-Refused-clause-step : goal.returns-in-Err-Refused-clause-step
returns-in-Err-Refused-clause-step g c =
    let k = c.in-Err-Refused.field-0-0 in
    let stop = c.in-Err-Refused.field-0 in
    let is : stop ≡ Refused k = c.in-Err-Refused.field-0-is in
    let next = c.in-Err-Refused.ensures in
    let known : refused_of c.next.new.self ≡ Some k = next.refused k (ap (λ s. Err s) is) in (
      record {
        same = next.kept (not_memory stop k is);
        place = next.place (not_memory stop k is);
        refuses = λ cause before now. next.refuses cause (ap (λ s. Err s) (is ∙ ap (λ j. Refused j) (same_Some k cause (sym known ∙ now)))) before;
        stays = next.stays;
        waiting = refl;
        live = refl;
        spent = refl;
      },
      λ none. absurd (not_none (refused_of c.next.new.self) k known none),
    )
