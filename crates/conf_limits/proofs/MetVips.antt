-- The VIPs that were met so far, and what they say of a VIP.
use Rattle.std.proofs.Common.{◌≡◌, ℕ, ◌+◌, ◌<◌, ◌==◌, ◌&&◌, Bool, true, false, List, [], ◌∷◌, ◌++◌, take, length, get_or, append-nil, if◌then◌else◌, refl, sym, ap, ◌∙◌}
use Rattle.std.specs.HashMap.{HashMap}
use Rattle.std.specs.List.{flat_map, list_any}
use Rattle.std.specs.declared.alloc.Global.{Global}
use Rattle.std.specs.declared.vec.Vec.{Vec}
use Rattle.std.proofs.lemmas.Grind.{flat_map-append}
use Rattle.conf_types.specs.declared.address.Net.{Net}
use Rattle.conf_types.specs.declared.vlan.Vlan.{Vlan}
use Rattle.conf_types.specs.Configuration.{Configuration}
use Rattle.conf_types.specs.Lists.{is_among}
use Rattle.conf_limits.specs.MetVips.{met_vips, vips_with, HasVips}
use Rattle.conf_rules.specs.Routing.{are_routed}
use Rattle.conf_rules.proofs.Earlier.{taken}
use Rattle.conf_limits.proofs.Exchanged.{any-same, exchanged}
use Rattle.conf_rules.proofs.First.{any-joined}

-- a VIP of a VLAN with the identifier
any-with : (p : Net → Bool) (vlans : List Vlan) (n : ℕ) → list_any p (vips_with vlans n) ≡ list_any (λ w. w.vid == n && list_any p w.vips) vlans
any-with p vlans n =
    any-joined p (λ (w : Vlan). if w.vid == n then w.vips else []) vlans
    ∙ any-same (λ w. list_any p (if w.vid == n then w.vips else [])) (λ w. w.vid == n && list_any p w.vips) (λ w. chosen (w.vid == n) w.vips) vlans
  where
    chosen : (b : Bool) (vips : List Net) → list_any p (if b then vips else []) ≡ (b && list_any p vips)
    chosen true vips = refl
    chosen false vips = refl

module _ {S : Type 0} (met : HashMap ℕ (Vec Net Global) S) where
  -- one of a VLAN that packets are routed to
  pub met_earlier : (conf : Configuration) (vids : List ℕ) (vlans : List Vlan) (vid : ℕ) (p : Net → Bool) → HasVips met vlans → ((n : ℕ) → is_among vids n ≡ are_routed conf n vid)
      → list_any (λ n. list_any p (met_vips met n)) vids ≡ list_any (λ w. are_routed conf w.vid vid && list_any p w.vips) vlans
  met_earlier conf vids vlans vid p has routed =
      any-same (λ n. list_any p (met_vips met n)) (λ n. list_any (λ w. w.vid == n && list_any p w.vips) vlans) (λ n. ap (list_any p) (has n) ∙ any-with p vlans n) vids
      ∙ exchanged (λ w. w.vid) (λ w. list_any p w.vips) (λ n. are_routed conf n vid) vids vlans routed

  -- of a VLAN more
  pub vips_more : (more : HashMap ℕ (Vec Net Global) S) (xs ys : List Vlan) (i : ℕ) (v : Vlan) (vips : List Net) → ys ≡ xs → i < length ys → v ≡ get_or ys i v → vips ≡ v.vips
      → HasVips met (take i xs) → ((n : ℕ) → met_vips more n ≡ met_vips met n ++ (if v.vid == n then vips else [])) → HasVips more (take (i + 1) xs)
  vips_more more xs ys i v vips e lt is same has grown = λ n.
      let with : Vlan → List Net = λ w. if w.vid == n then w.vips else [] in
      grown n
      ∙ ap (λ (t : List Net). met_vips met n ++ (if v.vid == n then t else [])) same
      ∙ ap (λ t. t ++ with v) (has n)
      ∙ ap (λ t. vips_with (take i xs) n ++ t) (sym (append-nil (with v)))
      ∙ sym (flat_map-append with (take i xs) (v ∷ []))
      ∙ ap (flat_map with) (sym (taken xs ys i v e lt is))
