-- What the code finds by the groups that it has asked for is what the configuration says.
use Rattle.std.proofs.Common.{◌≡◌, ◌==◌, ◌&&◌, ◌||◌, Bool, true, false, cond, Option, Some, None, List, [], ◌∷◌, find, filter, map, refl, ap, ◌∙◌}
use Rattle.std.specs.List.{list_any, filter_map}
use Rattle.std.specs.Option.{option_map}
use Rattle.net_base.specs.declared.numbers.DpId.{DpId}
use Rattle.conf_types.specs.declared.datapath.Dp.{Dp}
use Rattle.conf_types.specs.declared.state.NeighRec.{NeighRec}
use Rattle.conf_types.specs.Configuration.{Configuration, dp_with}
use Rattle.conf_types.specs.Groups.{group_of}
use Rattle.conf_types.specs.Networks.{is_neighbour_address}
use Rattle.conf_types.specs.Routing.{vips_of}
use Rattle.neighbour_resolve.specs.declared.kept.GroupRow.{GroupRow}
use Rattle.neighbour_resolve.specs.Kept.{kept_neighbours, last_of_each, may_stay, regrouped}
use Rattle.neighbour_resolve.specs.Regroup.{group_row, may_stay_by, regrouped_by}

-- what is found after each item has become another
find_map : {A B : Type 0} (p : B → Bool) (f : A → B) (xs : List A) → find p (map f xs) ≡ option_map f (find (λ x. p (f x)) xs)
find_map p f [] = refl
find_map p f (x ∷ xs) =
    elim (p (f x)) as (λ b. cond b (Some (f x)) (find p (map f xs)) ≡ option_map f (cond b (Some x) (find (λ x. p (f x)) xs))) [
      | true ↦ refl
      | false ↦ find_map p f xs
    ]

any_map : {A B : Type 0} (p : B → Bool) (f : A → B) (xs : List A) → list_any p (map f xs) ≡ list_any (λ x. p (f x)) xs
any_map p f [] = refl
any_map p f (x ∷ xs) = ap (λ b. p (f x) || b) (any_map p f xs)

filter_map_same : {A B : Type 0} (f g : A → Option B) → ((x : A) → f x ≡ g x) → (xs : List A) → filter_map f xs ≡ filter_map g xs
filter_map_same f g same xs = ap (λ h. filter_map h xs) (λ i x. same x i)

filter_same : {A : Type 0} (p q : A → Bool) → ((x : A) → p x ≡ q x) → (xs : List A) → filter p xs ≡ filter q xs
filter_same p q same xs = ap (λ h. filter h xs) (λ i x. same x i)

module _ (conf : Configuration) where
  of_map : (n : NeighRec) (o : Option Dp) → option_map (λ (row : GroupRow). record n { group = row.group }) (option_map (group_row conf) o) ≡ option_map (λ (d : Dp). record n { group = group_of conf d.id }) o
  of_map n (Some d) = refl
  of_map n None = refl

  row_found : (n : NeighRec) → regrouped_by (map (group_row conf) conf.dps) n ≡ regrouped conf n
  row_found n =
      ap (option_map (λ (row : GroupRow). record n { group = row.group })) (find_map (λ (row : GroupRow). row.dp.0 == n.group.0) (group_row conf) conf.dps)
      ∙ of_map n (dp_with conf.dps n.group)

  stays_same : (running : List DpId) (n : NeighRec) → may_stay_by conf (map (group_of conf) running) n ≡ may_stay conf running n
  stays_same running n =
      ap (λ b. is_neighbour_address (vips_of conf n.vid) n.ip && b) (any_map (λ (group : DpId). group.0 == n.group.0) (group_of conf) running)

  pub kept_same : (running : List DpId) (ns : List NeighRec)
      → last_of_each (filter (may_stay_by conf (map (group_of conf) running)) (filter_map (regrouped_by (map (group_row conf) conf.dps)) ns)) ≡ kept_neighbours conf running ns
  kept_same running ns =
      ap (λ kept. last_of_each (filter (may_stay_by conf (map (group_of conf) running)) kept)) (filter_map_same (regrouped_by (map (group_row conf) conf.dps)) (regrouped conf) row_found ns)
      ∙ ap last_of_each (filter_same (may_stay_by conf (map (group_of conf) running)) (may_stay conf running) (stays_same running) (filter_map (regrouped conf) ns))
