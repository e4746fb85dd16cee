-- The first ports of numbers and names, and what is wrong with them.
use Rattle.std.proofs.Common.{◌≡◌, ℕ, ◌+◌, ◌<◌, ◌≤◌, Bool, true, false, cond, List, ◌∷◌, drop, length, get_or, Option, Some, None, is_some, refl, sym, ap, ◌∙◌}
use Rattle.conf_shape.specs.declared.refused.ConfCause.TheVariants.{Unresolved, Conflict}
use Rattle.std.specs.Option.{option_map, option_map_or}
use Rattle.conf_types.specs.declared.datapath.Port.{Port}
use Rattle.conf_types.specs.declared.acl.PortRef.{PortRef}
use Rattle.conf_types.specs.declared.datapath.Dp.{Dp}
use Rattle.conf_types.specs.Attached.{is_named, port_named}
use Rattle.conf_names.specs.Ends.{end_among, end_cause}
use Rattle.conf_rules.specs.Ports.{wrong_target}
use Rattle.conf_rules.proofs.First.{drop-past, next}

-- of none
pub no_ends : (test : Port → Bool) (ps : List Port) (i : ℕ) → length ps ≤ i → None ≡ end_among test (drop i ps)
no_ends test ps i past = sym (ap (end_among test) (drop-past ps i past))

-- of one more, before the others
pub ends_more : (test : Port → Bool) (ps : List Port) (k i : ℕ) (p : Port) (before after : Option Bool) → k ≡ i + 1 → i < length ps → p ≡ get_or ps i p
    → before ≡ end_among test (drop k ps) → after ≡ cond (test p) (Some (is_some p.stack)) before → after ≡ end_among test (drop i ps)
ends_more test ps k i p before after behind less is so_far further =
    further
    ∙ by (test p) refl
    ∙ sym (ap (end_among test) (next ps ps i p refl less is ∙ ap (λ (j : ℕ). p ∷ drop j ps) (sym behind)))
  where
    by : (b : Bool) → test p ≡ b → cond (test p) (Some (is_some p.stack)) before ≡ end_among test (p ∷ drop k ps)
    by true h = rw h refl
    by false h = rw h so_far

-- what is wrong with the port that is named
pub end-cause : (name : PortRef) (d : Dp) → end_cause (end_among (is_named name) d.ports) ≡ wrong_target name d
end-cause name d = by (port_named d name)
  where
    by : (port : Option Port) → end_cause (option_map (λ p. is_some p.stack) port) ≡ option_map_or (λ p. cond (is_some p.stack) (Some (Conflict 8)) None) port (Some Unresolved)
    by None = refl
    by (Some p) = refl
