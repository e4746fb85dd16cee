-- Next hops that are followed, and floods along the ports of trees, with no word of packets.
use Rattle.std.specs.Prelude.{◌≡◌, ℕ, zero, suc, ◌==◌, ◌&&◌, not, Bool, Option, true, List, [], ◌∷◌, count_by, filter}
use Rattle.std.specs.List.{find, flat_map}
use Rattle.std.specs.Option.{option_map_or}
use Rattle.net_base.specs.declared.numbers.DpId.{DpId}
use Rattle.stack_paths.specs.Chosen.{Step, steps, is_same_dp, is_tree_port}
use Rattle.stack_paths.specs.Stack.{Stack, HasLink, IsDistance, IsHop}

-- the next hops from a lead to b behind n links, each of which leads one link nearer
abbrev pub Leads : Stack → DpId → DpId → ℕ → Type 0
Leads s a b zero = a ≡ b
Leads s a b (suc n) = (p : ℕ) × (e : DpId) × (q : ℕ) × IsHop s a b p e q × IsDistance s e b n × Leads s e b n

-- no link begins at the port
abbrev pub IsNoEnd : Stack → DpId → ℕ → Type 0
IsNoEnd s d port = (e : DpId) (q : ℕ) → HasLink s d port e q → ⊥

-- the link that begins at a port
abbrev pub step_at : Stack → DpId → ℕ → Option Step
step_at s d port = find (λ t. is_same_dp t.near d && t.port == port) (steps s.links)

-- lists of the ports of each datapath, in which each port of a tree stands once
abbrev pub HaveTreePorts : Stack → (DpId → List ℕ) → Type 0
HaveTreePorts s ports = (d : DpId) (port : ℕ) → is_tree_port s d port ≡ true → count_by (λ p. p == port) (ports d) ≡ 1

-- by which ports a flood leaves that came by a port: by each other port of the tree
abbrev pub is_onward : Stack → DpId → ℕ → ℕ → Bool
is_onward s d port p = is_tree_port s d p && not (p == port)

-- the datapaths that a flood comes to, the first of them by a port, with at most k in a row
unfoldable pub reached : Stack → (DpId → List ℕ) → ℕ → DpId → ℕ → List DpId
reached s ports zero d port = []
reached s ports (suc k) d port =
    d ∷ flat_map (λ p. option_map_or (λ t. reached s ports k t.far t.far_port) (step_at s d p) []) (filter (is_onward s d port) (ports d))
