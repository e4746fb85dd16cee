-- Interfaces as they are written, with what they stand for.
use Rattle.std.specs.Prelude.{◌≡◌, List, [], ◌∷◌, map}
use Rattle.std.specs.List.{flat_map, zip}
use Rattle.std.proofs.Common.{inl, inr, refl, sym, ap, ◌∙◌, subst}
use Rattle.conf_types.specs.declared.datapath.Dp.{Dp}
use Rattle.conf_types.specs.declared.datapath.Port.{Port}
use Rattle.conf_types.specs.Configuration.{Configuration}
use Rattle.conf_shape.specs.declared.raw.RawPort.{RawPort}
use Rattle.conf_shape.specs.declared.raw.RawDp.{RawDp}
use Rattle.conf_resolve.specs.declared.ordered.OrderedConf.{OrderedConf}
use Rattle.conf_resolve.specs.Resolved.{dp_of, port_of, resolved}
use Rattle.conf_rules.specs.Places.{dps_of, Interface, interfaces_of, interfaces}
use Rattle.law_checks.proofs.Kept.{all_empty, of_zipped}
use Rattle.law_checks.proofs.Members.{IsIn, in_flat, in_zipped, of_flat}

module _ (o : OrderedConf) where
  abbrev conf : Configuration
  conf = resolved o

  abbrev pub at : RawDp → RawPort → Interface
  at d p = record { raw_dp = d; dp = dp_of o d; raw = p; port = port_of o d p }

  -- each that is written is one
  pub is_interface : (d : RawDp) → IsIn o.dps d → (p : RawPort) → IsIn d.ports p → IsIn (interfaces o conf) (at d p)
  is_interface d cd p cp =
      in_flat interfaces_of (zip o.dps (map (dp_of o) o.dps)) (d, dp_of o d) (at d p) (in_zipped (dp_of o) o.dps d cd)
      (in_flat (λ (q : RawPort × Port). record { raw_dp = d; dp = dp_of o d; raw = q.0; port = q.1 } ∷ []) (zip d.ports (map (port_of o d) d.ports)) (p, port_of o d p) (at d p) (in_zipped (port_of o d) d.ports p cp) (inl refl))

  -- an interface is written on a datapath that is
  pub of_interfaces : (i : Interface) → IsIn (interfaces o conf) i → (d : RawDp) × IsIn o.dps d × (p : RawPort) × IsIn d.ports p × (at d p ≡ i)
  of_interfaces i ci =
      let m = of_flat interfaces_of (dps_of o conf) i ci in
      let z = of_zipped (dp_of o) o.dps m.0 m.1 in
      let d : RawDp = m.0.0 in
      let here : IsIn (interfaces_of (d, dp_of o d)) i = subst (λ (e : Dp). IsIn (interfaces_of (d, e)) i) (sym z.1) m.2 in
      let n = of_flat (λ (q : RawPort × Port). record { raw_dp = d; dp = dp_of o d; raw = q.0; port = q.1 } ∷ []) (zip d.ports (map (port_of o d) d.ports)) i here in
      let y = of_zipped (port_of o d) d.ports n.0 n.1 in
      let made : Port → Interface = λ q. record { raw_dp = d; dp = dp_of o d; raw = n.0.0; port = q } in
      (d, z.0, n.0.0, y.0, ap made y.1 ∙ alone (made n.0.1) i n.2)
    where
      alone : (i j : Interface) → IsIn (i ∷ []) j → i ≡ j
      alone i j (inl e) = e
      alone i j (inr k) = absurd k

  -- what holds of each interface as it is written holds of all
  pub all_interfaces : {C : Type 0} (f : Interface → List C) → ((d : RawDp) → IsIn o.dps d → (p : RawPort) → IsIn d.ports p → f (at d p) ≡ []) → flat_map f (interfaces o conf) ≡ []
  all_interfaces f h = all_empty f (interfaces o conf) (λ i ci.
      let w = of_interfaces i ci in
      subst (λ i. f i ≡ []) w.4 (h w.0 w.1 w.2 w.3))
