-- The ports that are found once serve for each entry of a VLAN's floods.
use Rattle.std.proofs.Common.{◌≡◌, ◌==◌, ◌&&◌, ◌||◌, not, Bool, true, false, cond, None, List, [], ◌∷◌, ◌++◌, map, filter, refl, ap, sym, ◌∙◌}
use Rattle.std.specs.List.{flat_map}
use Rattle.std.proofs.lemmas.List.Folds.{flat_map-map}
use Rattle.of_match.specs.declared.action.Action.{Action}
use Rattle.of_match.specs.declared.entry.Entry.{Entry}
use Rattle.stack_paths.specs.Chosen.{is_tree_port}
use Rattle.stack_paths.specs.Stack.{Stack}
use Rattle.conf_types.specs.declared.datapath.Dp.{Dp}
use Rattle.conf_types.specs.declared.datapath.Port.{Port}
use Rattle.conf_types.specs.declared.vlan.Vlan.{Vlan}
use Rattle.conf_types.specs.Membership.{is_native_in, is_edge_member}
use Rattle.plan_base.specs.declared.table.Table.TheVariants as table
use Rattle.plan_base.specs.Entries.{leads_to, entry}
use Rattle.plan_base.specs.Sending.{copied}
use Rattle.vlan_compile.specs.declared.flood.Flood.{Flood}
use Rattle.vlan_compile.specs.declared.flood.Flood.TheVariants.{Group, Unicast}
use Rattle.vlan_compile.specs.declared.flood.Ingress.{Ingress}
use Rattle.vlan_compile.specs.declared.flood.Ingress.TheVariants.{Any, At}
use Rattle.vlan_compile.specs.declared.targets.Target.{Target}
use Rattle.vlan_compile.specs.Floods.{is_in, is_flooded, may_get, flooded, by_port, by_each, popped, flood_actions, flood_priority, from_fields, to_fields, flood_entry, is_apart, has_flooded, floods_to, floods}
use Rattle.vlan_compile.specs.Targets.{target, targets, targets_on, is_on_side, is_reached, by_target, by_targets, target_actions, target_entry, target_floods}
use Rattle.vlan_compile.proofs.Mapped.{map_same}

-- what is kept by one test and then sends by a second sends like what is kept by a third and a fourth
same_sent : {X Y : Type 0} (a b c m k : X → Bool) (f : X → List Y)
    → ((x : X) → c x ≡ true → a x ≡ true) → ((x : X) → a x ≡ true → k x ≡ (c x && m x))
    → (xs : List X)
    → flat_map (λ x. cond (k x) (f x) []) (filter (λ x. a x && b x) xs) ≡ flat_map f (filter b (filter (λ x. c x && m x) xs))
same_sent a b c m k f within same [] = refl
same_sent {X = X} {Y = Y} a b c m k f within same (x ∷ xs) =
    step (a x) (b x) (c x) (m x) refl refl refl refl (same_sent a b c m k f within same xs)
  where
    step : (A B C M : Bool) → a x ≡ A → b x ≡ B → c x ≡ C → m x ≡ M
        → flat_map (λ x. cond (k x) (f x) []) (filter (λ x. a x && b x) xs) ≡ flat_map f (filter b (filter (λ x. c x && m x) xs))
        → flat_map (λ x. cond (k x) (f x) []) (cond (A && B) (x ∷ filter (λ x. a x && b x) xs) (filter (λ x. a x && b x) xs))
        ≡ flat_map f (filter b (cond (C && M) (x ∷ filter (λ x. c x && m x) xs) (filter (λ x. c x && m x) xs)))
    step true true true true p q r s h = rw (same x p, r, s, q) (ap (λ ys. f x ++ ys) h)
    step true true true false p q r s h = rw (same x p, r, s) h
    step true true false M p q r s h = rw (same x p, r) h
    step true false true true p q r s h = rw q h
    step true false true false p q r s h = h
    step true false false M p q r s h = h
    step false B true M p q r s h = let e : true ≡ false = sym (within x r) ∙ p in cc
    step false B false M p q r s h = h

module _ (stack : Stack) (d : Dp) (v : Vlan) where
  wider : (e u t : Bool) → ((e && u) || t) ≡ true → ((e && true) || t) ≡ true
  wider true u t h = refl
  wider false u t h = h

  within : (flood : Flood) (q : Port) → is_flooded stack d v flood q ≡ true → is_flooded stack d v Group q ≡ true
  within Group q h = h
  within Unicast q h = wider (is_edge_member q v.vid) q.unicast_flood (is_tree_port stack d.id q.no) h

  and_true : (b : Bool) → b ≡ (b && true)
  and_true true = refl
  and_true false = refl

  reached : (flood : Flood) (from : Ingress) (q : Port) → is_flooded stack d v Group q ≡ true → is_reached flood from (target stack d v q) ≡ (is_flooded stack d v flood q && may_get from q)
  reached Group Any q h = sym (ap (λ b. b && true) h)
  reached Group (At ingress) q h = sym (ap (λ b. b && may_get (At ingress) q) h)
  reached Unicast Any q h = and_true (is_flooded stack d v Unicast q)
  reached Unicast (At ingress) q h = refl

  -- one side's targets send like its ports
  sent_on : (flood : Flood) (from : Ingress) (native : Bool) → by_targets flood from (targets_on stack d v native) ≡ by_each d from (filter (is_on_side native v.vid) (flooded stack d v flood from))
  sent_on flood from native =
      flat_map-map (by_target flood from) (target stack d v) (filter (λ q. is_flooded stack d v Group q && is_on_side native v.vid q) d.ports)
      ∙ same_sent (is_flooded stack d v Group) (is_on_side native v.vid) (is_flooded stack d v flood) (may_get from) (λ q. is_reached flood from (target stack d v q)) (λ q. copied d q.no (by_port from q.no)) (within flood) (reached flood from) d.ports

  actions_are : (flood : Flood) (from : Ingress) → target_actions v flood from (targets stack d v) ≡ flood_actions stack d v flood from
  actions_are flood from =
      ap (λ tagged. cond (is_in flood v) (tagged ++ popped (by_targets flood from (targets_on stack d v true))) []) (sent_on flood from false)
      ∙ ap (λ native. cond (is_in flood v) (by_each d from (filter (is_on_side false v.vid) (flooded stack d v flood from)) ++ popped native) []) (sent_on flood from true)

  entry_is : (flood : Flood) (from : Ingress) → target_entry v flood from (targets stack d v) ≡ flood_entry stack d v flood from
  entry_is flood from =
      ap (λ actions. entry table.Flood (flood_priority flood from) (from_fields from ++ to_fields flood v.vid) (leads_to actions None)) (actions_are flood from)

  entries_are : (flood : Flood) → target_floods stack d v flood (targets stack d v) ≡ floods_to stack d v flood
  entries_are flood =
      ap (λ e. (cond (has_flooded stack d v) (e ∷ []) []) ++ map (λ (i : Port). target_entry v flood (At i.no) (targets stack d v)) (filter (is_apart d v) d.ports)) (entry_is flood Any)
      ∙ ap (λ es. (cond (has_flooded stack d v) (flood_entry stack d v flood Any ∷ []) []) ++ es) (map_same (λ (i : Port). target_entry v flood (At i.no) (targets stack d v)) (λ (i : Port). flood_entry stack d v flood (At i.no)) (λ (i : Port). entry_is flood (At i.no)) (filter (is_apart d v) d.ports))

-- all entries of the VLAN
pub floods_are : (stack : Stack) (d : Dp) (v : Vlan) → target_floods stack d v Unicast (targets stack d v) ++ target_floods stack d v Group (targets stack d v) ≡ floods d v stack
floods_are stack d v =
    ap (λ es. es ++ target_floods stack d v Group (targets stack d v)) (entries_are stack d v Unicast)
    ∙ ap (λ es. floods_to stack d v Unicast ++ es) (entries_are stack d v Group)
