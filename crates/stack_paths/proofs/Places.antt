use Rattle.std.proofs.Common.{◌≡◌, ℕ, zero, suc, [], ◌∷◌, ◌<◌, ◌≤◌, List, length, get_or, Some, None, Option, sym, refl, ap, ◌∙◌, arith, ⊎_elim}
use Rattle.std.specs.Prelude.{slice_get, MatchOption}
use Rattle.std.specs.Option.{option_map}
use Rattle.std.proofs.lemmas.List.{length-map}
use Rattle.std.proofs.lemmas.Bool.{cases_lt}
use Rattle.std.proofs.lemmas.Option.{slice_get-map, slice_get_read, slice_get_within, slice_get-get_or, same_Some}
use Rattle.net_base.specs.declared.stack.Node.{Node}
use Rattle.net_base.specs.declared.numbers.DpId.{DpId}
use Rattle.stack_paths.specs.Stack.{Stack, ids, IsAt, IsStack}

-- the identifier at a place that was read
pub ids-read : (nodes : List Node) (i : ℕ) (m : Node) → i < length nodes → m ≡ get_or nodes i m → slice_get (ids nodes) i ≡ Some m.id
ids-read nodes i m within is =
    slice_get-map (λ (n : Node). n.id) nodes i ∙ ap (λ o. option_map (λ (n : Node). n.id) o) (slice_get_read nodes (length nodes) i m refl within is)

pub ids-within : (nodes : List Node) (i : ℕ) (d : DpId) → slice_get (ids nodes) i ≡ Some d → i < length nodes
ids-within nodes i d e = omega (arith, slice_get_within (ids nodes) i d e, length-map nodes (λ (n : Node). n.id))

-- and at any default
pub ids-get_or : (nodes : List Node) (i : ℕ) → i < length nodes → (d : DpId) → slice_get (ids nodes) i ≡ Some d → (x : Node) → (get_or nodes i x).id.0 ≡ d.0
ids-get_or nodes i within d e x =
    let read = slice_get-map (λ (n : Node). n.id) nodes i ∙ ap (λ o. option_map (λ (n : Node). n.id) o) (slice_get-get_or nodes i x within) in
    ap (λ (n : DpId). n.0) (same_Some (get_or nodes i x).id d (sym read ∙ e))

-- a place that has the datapath, where one was sought
pub found : (nodes : List Node) (d : DpId) (o : Option ℕ) → MatchOption o ((i : ℕ) → slice_get (ids nodes) i ≡ Some d → ⊥) (λ i. slice_get (ids nodes) i ≡ Some d) → (i : ℕ) → slice_get (ids nodes) i ≡ Some d → (j : ℕ) × (o ≡ Some j) × (slice_get (ids nodes) j ≡ Some d)
found nodes d (Some j) h i e = (j, refl, h)
found nodes d None h i e = absurd (h i e)

-- the identifier at a place, at any default
pub ids-at : (nodes : List Node) (i : ℕ) (d : DpId) → slice_get (ids nodes) i ≡ Some d → (x : Node) → (get_or nodes i x).id ≡ d
ids-at nodes i d e x =
    let within : i < length nodes = ids-within nodes i d e in
    let read = slice_get-map (λ (n : Node). n.id) nodes i ∙ ap (λ o. option_map (λ (n : Node). n.id) o) (slice_get-get_or nodes i x within) in
    same_Some (get_or nodes i x).id d (sym read ∙ e)

-- the identifier of the node at a place
pub ids-node : (nodes : List Node) (i : ℕ) (m : Node) → slice_get nodes i ≡ Some m → slice_get (ids nodes) i ≡ Some m.id
ids-node nodes i m e = slice_get-map (λ (n : Node). n.id) nodes i ∙ ap (λ o. option_map (λ (n : Node). n.id) o) e

-- two datapaths at one place are the same
pub at_same : (s : Stack) (i : ℕ) (d e : DpId) → IsAt s i d → IsAt s i e → d ≡ e
at_same s i d e at_d at_e = same_Some d e (sym at_d ∙ at_e)

-- a datapath has one place
pub place_same : (s : Stack) → IsStack s → (i j : ℕ) (d : DpId) → IsAt s i d → IsAt s j d → i ≡ j
place_same s is i j d at_i at_j =
    let x : Node = record { id = d; priority = None } in
    let id_i = ids-at s.nodes i d at_i x in
    let id_j = ids-at s.nodes j d at_j x in
    ⊎_elim (λ (lt : i < j). absurd (is.distinct i j x lt (ids-within s.nodes j d at_j) (id_i ∙ sym id_j)))
    (λ (ge : j ≤ i). ⊎_elim (λ (gt : j < i). absurd (is.distinct j i x gt (ids-within s.nodes i d at_i) (id_j ∙ sym id_i)))
    (λ (le : i ≤ j). omega (arith, ge, le)) (cases_lt j i)) (cases_lt i j)

-- each place below the number of nodes has a datapath
pub id_there : (nodes : List Node) (i : ℕ) → i < length nodes → (d : DpId) × (slice_get (ids nodes) i ≡ Some d)
id_there [] i within = absurd (omega (arith, within))
id_there (m ∷ nodes) zero within = (m.id, refl)
id_there (m ∷ nodes) (suc i) within = id_there nodes i (omega (arith, within))
