-- Whether the VLAN of an interface is among those before it, by a table of their numbers.
use Rattle.std.proofs.Common.{◌≡◌, ℕ, ◌+◌, ◌<◌, ◌==◌, ◌||◌, Bool, false, List, [], ◌∷◌, take, drop, length, get_or, Option, Some, None, refl, sym, ap, ◌∙◌}
use Rattle.std.specs.Prelude.{IfSome}
use Rattle.std.specs.List.{list_any, flat_map, enumerate_from}
use Rattle.std.specs.Option.{option_map_or}
use Rattle.std.proofs.Math.Bool.{or_assoc}
use Rattle.conf_shape.specs.declared.refused.ConfCause.TheVariants.{Duplicate}
use Rattle.conf_shape.specs.declared.refused.ConfFault.{ConfFault}
use Rattle.conf_rules.specs.Names.{is_same_vid, vid_again}
use Rattle.conf_rules.specs.Places.{first, fault_if, nth, with_earlier}
use Rattle.conf_rules.proofs.Earlier.{any_more, walked_each_behind}
use Rattle.conf_rules.proofs.First.{Steps}

-- the table has the numbers of the native VLAN and of these
abbrev pub HasVids : List Bool → Option ℕ → List (Option ℕ) → Type 0
HasVids seen native vids = (n : ℕ) → n < 4096 → get_or seen n false ≡ (is_same_vid native (Some n) || list_any (λ vid. is_same_vid vid (Some n)) vids)

no_vid : (vid : Option ℕ) → is_same_vid vid None ≡ false
no_vid None = refl
no_vid (Some n) = refl

no_vids : (vids : List (Option ℕ)) → list_any (λ vid. is_same_vid vid None) vids ≡ false
no_vids [] = refl
no_vids (vid ∷ vids) = ap (λ b. b || list_any (λ other. is_same_vid other None) vids) (no_vid vid) ∙ no_vids vids

-- what is looked up
pub vid_seen : (seen : List Bool) (native : Option ℕ) (vids : List (Option ℕ)) (vid : Option ℕ) (was : Bool) → HasVids seen native vids
    → IfSome vid (λ n. n < 4096) → was ≡ option_map_or (λ n. get_or seen n false) vid false
    → was ≡ (is_same_vid native vid || list_any (λ other. is_same_vid other vid) vids)
vid_seen seen native vids (Some n) was has within is = is ∙ has n within
vid_seen seen native vids None was has within is =
    is ∙ sym (ap (λ b. b || list_any (λ other. is_same_vid other None) vids) (no_vid native) ∙ no_vids vids)

-- one more
pub vids_more : (seen more : List Bool) (native : Option ℕ) (xs ys : List (Option ℕ)) (i : ℕ) (vid : Option ℕ) → ys ≡ xs → i < length ys → vid ≡ get_or ys i vid
    → HasVids seen native (take i xs) → ((n : ℕ) → n < 4096 → get_or more n false ≡ (get_or seen n false || option_map_or (λ m. m == n) vid false))
    → HasVids more native (take (i + 1) xs)
vids_more seen more native xs ys i vid e lt is has grown = λ n below.
    grown n below
    ∙ ap (λ b. b || is_same_vid vid (Some n)) (has n below)
    ∙ or_assoc (is_same_vid native (Some n)) (list_any (λ other. is_same_vid other (Some n)) (take i xs)) (is_same_vid vid (Some n))
    ∙ ap (λ b. is_same_vid native (Some n) || b) (sym (any_more (λ other. is_same_vid other (Some n)) xs ys i vid e lt is))

-- a step over these at a place, each with those before it
pub walked_tagged : (site : List (List ℕ)) (native : Option ℕ) (vids : List (Option ℕ)) (i : ℕ) (vid : Option ℕ) (seen : List Bool) (was : Bool) (all : Option ConfFault)
    → i < length vids → vid ≡ get_or vids i vid → HasVids seen native (take i vids) → IfSome vid (λ n. n < 4096) → was ≡ option_map_or (λ n. get_or seen n false) vid false
    → first (flat_map (vid_again native) (flat_map (λ item. (nth site item.0, item.1) ∷ []) (enumerate_from i (with_earlier (take i vids) (drop i vids))))) ≡ all
    → Steps (fault_if was Duplicate (nth site i)) (first (flat_map (vid_again native) (flat_map (λ item. (nth site item.0, item.1) ∷ []) (enumerate_from (i + 1) (with_earlier (take (i + 1) vids) (drop (i + 1) vids)))))) all
walked_tagged site native vids i vid seen was all lt is has within said so_far =
    let again : was ≡ (is_same_vid native vid || list_any (λ other. is_same_vid other vid) (take i vids)) = vid_seen seen native (take i vids) vid was has within said in
    let here = ap (λ b. first (fault_if b Duplicate (nth site i))) (sym again) in
    let step = walked_each_behind site (vid_again native) vids vids i vid all refl lt is so_far in
    (λ none. step.0 (here ∙ none), λ y some. step.1 y (here ∙ some))
