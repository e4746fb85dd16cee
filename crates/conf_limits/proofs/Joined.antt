-- The routers that identifiers lead to, as routers are added one at a time.
use Rattle.std.proofs.Common.{◌≡◌, ℕ, ◌+◌, ◌<◌, ◌==◌, ◌&&◌, ◌||◌, Bool, true, false, Option, List, [], ◌∷◌, ◌++◌, take, length, get_or, if◌then◌else◌, refl, sym, ap, ◌∙◌}
use Rattle.std.specs.HashMap.{HashMap}
use Rattle.std.specs.List.{list_any}
use Rattle.std.specs.Option.{option_map_or}
use Rattle.std.specs.declared.alloc.Global.{Global}
use Rattle.std.specs.declared.vec.Vec.{Vec}
use Rattle.std.proofs.lemmas.List.Folds.{list_any-append}
use Rattle.std.proofs.lemmas.Option.{slice_get_read}
use Rattle.conf_types.specs.declared.vlan.Router.{Router}
use Rattle.conf_types.specs.Lists.{is_among}
use Rattle.conf_limits.specs.Joined.{places_at, has_at, LeadToRouters}
use Rattle.conf_rules.proofs.Earlier.{any_more}

-- one more, where it counts
any-last : (p : ℕ → Bool) (places : List ℕ) (at : ℕ) (b : Bool) → list_any p (places ++ (if b then at ∷ [] else [])) ≡ (list_any p places || (b && p at))
any-last p places at b = list_any-append p places (if b then at ∷ [] else []) ∙ ap (λ t. list_any p places || t) (chosen b)
  where
    bare : (c : Bool) → (c || false) ≡ c
    bare true = refl
    bare false = refl

    chosen : (b : Bool) → list_any p (if b then at ∷ [] else []) ≡ (b && p at)
    chosen true = bare (p at)
    chosen false = refl

gathered : (a b c d : Bool) → ((a || (b && d)) || (c && d)) ≡ (a || ((b || c) && d))
gathered true b c d = refl
gathered false true true true = refl
gathered false true true false = refl
gathered false true false true = refl
gathered false true false false = refl
gathered false false c d = refl

swapped : (a b : Bool) → (a && b) ≡ (b && a)
swapped true true = refl
swapped true false = refl
swapped false true = refl
swapped false false = refl

-- an identifier more leads to the place
pub place_more : (p : ℕ → Bool) (before so_far after : List ℕ) (vids ws : List ℕ) (k v at n : ℕ) → ws ≡ vids → k < length ws → v ≡ get_or ws k v
    → list_any p so_far ≡ (list_any p before || (is_among (take k vids) n && p at)) → after ≡ so_far ++ (if v == n then at ∷ [] else [])
    → list_any p after ≡ (list_any p before || (is_among (take (k + 1) vids) n && p at))
place_more p before so_far after vids ws k v at n e less is held grown =
    ap (list_any p) grown
    ∙ any-last p so_far at (v == n)
    ∙ ap (λ t. t || ((v == n) && p at)) held
    ∙ gathered (list_any p before) (is_among (take k vids) n) (v == n) (p at)
    ∙ ap (λ t. list_any p before || (t && p at)) (sym (any_more (λ x. x == n) vids ws k v e less is))

-- the router at a place
pub at_place : (all rs : List Router) (i : ℕ) (r : Router) (n : ℕ) → rs ≡ all → i < length rs → r ≡ get_or rs i r → has_at rs n i ≡ is_among r.vlans n
at_place all rs i r n e less is = ap (λ (o : Option Router). option_map_or (λ (s : Router). is_among s.vlans n) o false) (slice_get_read rs (length rs) i r refl less is)

-- a router more
pub router_more : {S : Type 0} (before after : HashMap ℕ (Vec ℕ Global) S) (rs : List Router) (i : ℕ) (r : Router) (vids : List ℕ) → i < length rs → r ≡ get_or rs i r → vids ≡ r.vlans
    → LeadToRouters before rs (take i rs)
    → ((p : ℕ → Bool) (n : ℕ) → list_any p (places_at after n) ≡ (list_any p (places_at before n) || (is_among vids n && p i)))
    → LeadToRouters after rs (take (i + 1) rs)
router_more before after rs i r vids less is same held grown = λ n m.
    let has : Router → Bool = λ s. is_among s.vlans m && is_among s.vlans n in
    grown (has_at rs m) n
    ∙ ap (λ t. t || (is_among vids n && has_at rs m i)) (held n m)
    ∙ ap (λ (ns : List ℕ). list_any has (take i rs) || (is_among ns n && has_at rs m i)) same
    ∙ ap (λ t. list_any has (take i rs) || (is_among r.vlans n && t)) (at_place rs rs i r m refl less is)
    ∙ ap (λ t. list_any has (take i rs) || t) (swapped (is_among r.vlans n) (is_among r.vlans m))
    ∙ sym (any_more has rs rs i r refl less is)
