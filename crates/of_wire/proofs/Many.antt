-- Reading parts one behind the other, as a loop does.
use Rattle.std.proofs.Common.{◌≡◌, ℕ, suc, ◌+◌, ◌-◌, ◌≤◌, ◌<◌, true, false, eqb, List, length, drop, Result, Ok, Err, refl, sym, ap, ◌∙◌, arith}
use Rattle.std.proofs.lemmas.Bool.{eqb-false, eqb-true}
use Rattle.std.proofs.lemmas.List.{length-drop}
use Rattle.of_wire.specs.declared.fault.PartFault.{PartFault}
use Rattle.of_wire.specs.declared.fault.PartRefused.{PartRefused}
use Rattle.of_wire.specs.declared.fault.PartRefused.TheVariants.{At, Memory}
use Rattle.of_wire.specs.Answers.{Fails}
use Rattle.of_wire.specs.Reading.{many}
use Rattle.of_wire.proofs.Joining.{one_more, no_more}

-- what is still to be read gives what reading all gives
pub record Left {S : Type 0} (step : S → ℕ → List ℕ → Result (S × ℕ) PartFault) (total : Result S PartFault) (s : S) (at : ℕ) (rest : List ℕ) : Type 0 where
  pub steps : ℕ
  pub enough : length rest ≤ steps
  pub same : many step steps s at rest ≡ total

pub starts : {S : Type 0} (step : S → ℕ → List ℕ → Result (S × ℕ) PartFault) (s : S) (at : ℕ) (bytes : List ℕ) → Left step (many step (length bytes) s at bytes) s at bytes
starts step s at bytes = record { steps = length bytes; enough = omega arith; same = refl }

pub goes : {S : Type 0} (step : S → ℕ → List ℕ → Result (S × ℕ) PartFault) (total : Result S PartFault) (s : S) (at : ℕ) (rest : List ℕ) (x : S × ℕ) → 0 < length rest → 1 ≤ x.1 → step s at rest ≡ Ok x
    → Left step total s at rest → Left step total x.0 (at + x.1) (drop x.1 rest)
goes step total s at rest x lt some h left =
    let k = left.steps - 1 in
    let e : left.steps ≡ suc k = omega (arith, left.enough) in
    let one : many step left.steps s at rest ≡ many step k x.0 (at + x.1) (drop x.1 rest) = ap (λ n. many step n s at rest) e ∙ one_more step k s at rest (λ e. omega (arith, lt)) ∙ rw h refl in
    record { steps = k; enough = omega (arith, length-drop x.1 rest, left.enough); same = sym one ∙ left.same }

pub ends : {S : Type 0} (step : S → ℕ → List ℕ → Result (S × ℕ) PartFault) (total : Result S PartFault) (s : S) (at : ℕ) (rest : List ℕ) (e : PartRefused) → 0 < length rest → Fails e (step s at rest)
    → Left step total s at rest → Fails e total
ends step total s at rest Memory lt h left = tt
ends step total s at rest (At f) lt h left =
    let k = left.steps - 1 in
    let e : left.steps ≡ suc k = omega (arith, left.enough) in
    let one : many step left.steps s at rest ≡ Err f = ap (λ n. many step n s at rest) e ∙ one_more step k s at rest (λ e. omega (arith, lt)) ∙ rw h refl in
    sym left.same ∙ one

pub is_done : {S : Type 0} (step : S → ℕ → List ℕ → Result (S × ℕ) PartFault) (total : Result S PartFault) (s : S) (at : ℕ) (rest : List ℕ) → length rest ≡ 0
    → Left step total s at rest → total ≡ Ok s
is_done step total s at rest e left = sym left.same ∙ no_more step left.steps s at rest e

-- where a loop over the parts of bytes stands
pub record Way {S : Type 0} (step : S → ℕ → List ℕ → Result (S × ℕ) PartFault) (total : Result S PartFault) (at : ℕ) (bytes : List ℕ) (s : S) (here : ℕ) (rest : List ℕ) : Type 0 where
  pub place : here + length rest ≡ at + length bytes
  pub within : length rest ≤ length bytes
  pub left : Left step total s here rest

pub way_starts : {S : Type 0} (step : S → ℕ → List ℕ → Result (S × ℕ) PartFault) (s : S) (at : ℕ) (bytes : List ℕ) → Way step (many step (length bytes) s at bytes) at bytes s at bytes
way_starts step s at bytes = record { place = refl; within = omega arith; left = starts step s at bytes }

pub way_goes : {S : Type 0} (step : S → ℕ → List ℕ → Result (S × ℕ) PartFault) (total : Result S PartFault) (at : ℕ) (bytes : List ℕ) (s : S) (here : ℕ) (rest : List ℕ) (x : S × ℕ) → 0 < length rest → 1 ≤ x.1 → x.1 ≤ length rest → step s here rest ≡ Ok x
    → Way step total at bytes s here rest → Way step total at bytes x.0 (here + x.1) (drop x.1 rest)
way_goes step total at bytes s here rest x lt some fits h way = record {
  place = omega (arith, length-drop x.1 rest, way.place);
  within = omega (arith, length-drop x.1 rest, way.within);
  left = goes step total s here rest x lt some h way.left;
}

pub is_some : (rest : List ℕ) → false ≡ eqb (length rest) 0 → 0 < length rest
is_some rest e =
    let ne : length rest ≡ 0 → ⊥ = eqb-false (length rest) 0 (sym e) in
    omega (arith, ne)

pub is_none : (rest : List ℕ) → true ≡ eqb (length rest) 0 → length rest ≡ 0
is_none rest e = eqb-true (length rest) 0 (sym e)
