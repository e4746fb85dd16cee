-- The order of units, by which they are kept.
use Rattle.std.specs.Prelude.{◌≡◌, ℕ, refl}
use Rattle.std.proofs.Common.{ap, sym, true≢false}
use Rattle.std.specs.declared.cmp.Ordering.{Ordering}
use Rattle.std.specs.declared.cmp.Ordering.TheVariants.{Less, Equal, Greater}
use Rattle.std.specs.Ordering.{nat_cmp, ordering_then, is_eq}
use Rattle.std.specs.Cmp.{IsTotalOrder}
use Rattle.std.specs.Cmp.Lexicographic.{slice_cmp}
use Rattle.std.proofs.lemmas.Map.Lookups.{CmpEqualImpliesEq, exact_unsigned, exact_bytes}
use Rattle.net_base.specs.declared.address.Mac.{Mac}
use Rattle.plan_units.specs.declared.unit.Unit.{Unit as PlanUnit}
use Rattle.plan_units.specs.declared.unit.Unit.TheVariants as unit
use Rattle.plan_units.specs.contracts.unit.UnitOrd.TheImpl as unit_ord
use Rattle.plan_units.specs.contracts.unit.UnitOrd.TheImpl.Laws as unit_laws

abbrev pub unit_cmp : PlanUnit → PlanUnit → Ordering
unit_cmp = (unit_ord.ghosts).cmp

pub unit_total : IsTotalOrder unit_cmp
unit_total = unit_laws.total-law

-- ---- equal where it answers Equal

both_equal : (p q : Ordering) → ordering_then p q ≡ Equal → (p ≡ Equal) × (q ≡ Equal)
both_equal Less q e = absurd (true≢false (sym (ap is_eq e)))
both_equal Equal q e = (refl, e)
both_equal Greater q e = absurd (true≢false (sym (ap is_eq e)))

pub exact_units : CmpEqualImpliesEq unit_cmp
exact_units unit.Dp unit.Dp e = refl
exact_units (unit.Port a) (unit.Port b) e = ap unit.Port (exact_unsigned a b e)
exact_units (unit.Vlan a) (unit.Vlan b) e = ap unit.Vlan (exact_unsigned a b e)
exact_units (unit.Host a m) (unit.Host b n) e =
    let both = both_equal (nat_cmp a b) (slice_cmp nat_cmp m.0 n.0) e in
    λ i. unit.Host (exact_unsigned a b both.0 i) (record { 0 = exact_bytes m.0 n.0 both.1 i })
exact_units (unit.Route a) (unit.Route b) e = ap unit.Route (exact_unsigned a b e)
exact_units a b e = absurd (true≢false (sym (ap is_eq e)))
