-- Reading flow entries one behind the other, as the loop does.
use Rattle.std.proofs.Common.{◌≡◌, ℕ, ◌+◌, ◌<◌, List, [], ◌∷◌, ◌++◌, length, take, drop, Some, None, Ok, Err, refl, sym, ap, ◌∙◌, arith}
use Rattle.of_wire.specs.declared.fault.PartCause.{PartCause}
use Rattle.of_wire.specs.declared.fault.PartRefused.TheVariants.{At}
use Rattle.of_wire.specs.Answers.{fault_at}
use Rattle.of_wire.proofs.Many.{Way, way_starts, way_goes, ends, is_done}
use Rattle.flow_stats.specs.declared.flow.Flow.{Flow}
use Rattle.flow_stats.specs.Parts.{flow_fault, flow_len, told_place}
use Rattle.flow_stats.specs.Reading.{flow_in, flow_step, flows_at}
use Rattle.flow_stats.proofs.Entries.{is_sound}

abbrev pub OnWay : (bytes : List ℕ) → List Flow → ℕ → List ℕ → Type 0
OnWay bytes flows here rest = Way flow_step (flows_at bytes) 8 bytes flows here rest

pub begins : (bytes : List ℕ) → OnWay bytes [] 8 bytes
unfolding flows_at
begins bytes = way_starts flow_step [] 8 bytes

pub goes : (bytes : List ℕ) (flows : List Flow) (here : ℕ) (rest : List ℕ) → 0 < length rest → flow_fault rest ≡ None → OnWay bytes flows here rest
    → OnWay bytes (flows ++ flow_in (take (flow_len rest) rest) ∷ []) (here + flow_len rest) (drop (flow_len rest) rest)
unfolding flow_step
goes bytes flows here rest some sound way =
    let s = is_sound rest sound in
    way_goes flow_step (flows_at bytes) 8 bytes flows here rest (flows ++ flow_in (take (flow_len rest) rest) ∷ [], flow_len rest) some (omega (arith, s.least)) s.within (rw sound refl) way

pub fails : (bytes : List ℕ) (flows : List Flow) (here : ℕ) (rest : List ℕ) (cause : PartCause) (at : ℕ) → 0 < length rest → flow_fault rest ≡ Some cause → at ≡ told_place here → OnWay bytes flows here rest
    → flows_at bytes ≡ Err (fault_at at cause)
unfolding flow_step
fails bytes flows here rest cause at some fault is way =
    ends flow_step (flows_at bytes) flows here rest (At (fault_at (told_place here) cause)) some (rw fault refl) way.left ∙ ap (λ k. Err (fault_at k cause)) (sym is)

pub done : (bytes : List ℕ) (flows : List Flow) (here : ℕ) (rest : List ℕ) → length rest ≡ 0 → OnWay bytes flows here rest → flows_at bytes ≡ Ok flows
done bytes flows here rest none way = is_done flow_step (flows_at bytes) flows here rest none way.left
