use Rattle.std.proofs.Common.{◌≡◌, ℕ, ◌+◌, ◌&&◌, List, Some, None, drop, slice_index, sym, ap, ◌∙◌, arith, length-drop}
use Rattle.std.proofs.lemmas.List.{take_rest}
use Rattle.neighbour_resolve.specs.Discovery.{first_len, may_stand, options_tell}
use Rattle.neighbour_resolve.proofs.Options.{and_before, all_told, first_there, is_none, not_told, one_more}
use Rattle.neighbour_resolve.proofs.discovery.options_tell.Goals as goal
use Rattle.neighbour_resolve.proofs.discovery.options_tell.Goals.{then-own, else-own}

pub returns-in_default : goal.returns-in_default
returns-in_default c =
    let asked = c.args.asked in
    let mac = c.args.mac.0 in
    let options = c.args.options.now in
    let at = c.loop-at.at in
    let none : first_len (drop at options) ≡ None = sym (c.first_len.ensures ∙ ap first_len (take_rest options at)) ∙ is_none c.first_len.result c.in_default.not-Some in
    not_told asked mac options at c.loop-at.own (options_tell asked mac options 0) (omega arith) none c.loop-at.invariant.told

pub loop-at-preserved : goal.loop-at-preserved
loop-at-preserved c =
    let asked = c.args.asked in
    let mac = c.args.mac.0 in
    let options = c.args.options.now in
    let at = c.loop-at.at in
    let len = c.in-Some.len in
    let rest = drop at options in
    let found : first_len rest ≡ Some len = sym (c.first_len.ensures ∙ ap first_len (take_rest options at)) ∙ c.in-Some.is in
    let first = may_stand asked mac (slice_index rest 0) (drop 2 rest) in
    let size = first_there asked mac rest len found in
    let own : c.if-own.own ≡ (c.loop-at.own && first) =
    elim c.if-own.branch [
      | then-own w ↦ w.own-is ∙ w.may_stand-own.ensures ∙ ap (λ (l : List ℕ). may_stand asked mac (slice_index l 0) (drop 2 l)) (take_rest options at) ∙ sym (ap (λ b. b && first) w.if-own.true)
      | else-own w ↦ w.own-is ∙ w.if-own.false ∙ sym (ap (λ b. b && first) w.if-own.false)
    ] in
    record {
      within = omega (arith, size.2, length-drop at options, c.loop-at.invariant.within);
      told = ap (λ b. and_before asked mac b (options_tell asked mac (drop (at + len) options) 0)) own ∙ one_more asked mac options at len c.loop-at.own (options_tell asked mac options 0) found c.loop-at.invariant.told;
    }
