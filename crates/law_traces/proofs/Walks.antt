-- A walk through cold starts is one through what the switches hold.
use Rattle.std.proofs.Common.{◌≡◌, ◌==◌, inl, inr, ◌&&◌, ◌++◌, ℕ, zero, suc, Bool, true, false, not, ◌<◌, List, [], ◌∷◌, length, get_or, Option, Some, None, find, unwrap_or, refl, sym, ap, subst, ◌∙◌, arith, true≢false}
use Rattle.std.specs.Prelude.{Contains, cond, map, slice_get}
use Rattle.std.specs.List.{flat_map}
use Rattle.std.specs.Option.{option_and_then, option_map, option_map_or}
use Rattle.std.proofs.lemmas.Bool.{eqb-true}
use Rattle.std.proofs.lemmas.Option.{none-some, same_Some}
use Rattle.net_base.specs.declared.numbers.DpId.{DpId}
use Rattle.net_base.specs.declared.stack.StackLink.{StackLink}
use Rattle.of_match.specs.declared.entry.Entry.{Entry}
use Rattle.of_match.specs.declared.packet.Packet.{Packet}
use Rattle.of_match.specs.declared.packet.Sent.{Sent}
use Rattle.of_match.specs.Pipeline.{first_run}
use Rattle.stack_paths.specs.Stack.{Stack, HasLink, IsJoined, IsNode, IsStack, Joins, Walk, ids}
use Rattle.stack_paths.proofs.Finite.{contains_cons, contains_here, contains_there}
use Rattle.stack_paths.proofs.LawLemmas.{joined_trans}
use Rattle.stack_paths.proofs.Walks.{link_ends, walk_end}
use Rattle.conf_types.specs.declared.datapath.Dp.{Dp}
use Rattle.conf_types.specs.declared.datapath.StackEnd.{StackEnd}
use Rattle.conf_types.specs.Configuration.{Configuration, dp_with}
use Rattle.conf_types.specs.Links.{links}
use Rattle.conf_types.specs.State.{State}
use Rattle.packet_way.specs.Known.{node_of, stack_of}
use Rattle.cold_start.specs.Cold.{cold_at}
use Rattle.net_walk.specs.declared.arrival.Arrival.{Arrival}
use Rattle.net_walk.specs.Arrivals.{arrivals, arrived, far_end, going_on}
use Rattle.ctl_world.specs.World.{World, now, ups}
use Rattle.ctl_core.specs.Story.{tables_of}
use Rattle.law_traces.specs.Held.{held_by, walk_by}
use Rattle.trace_story.specs.Ready.{is_joined, is_ready, unready}
use Rattle.law_traces.proofs.Joined.{far_link, joined_by_walk}

same_flat : {X A : Type 0} (f g : X → List A) (xs : List X) → ((x : X) → f x ≡ g x) → flat_map f xs ≡ flat_map g xs
same_flat f g [] same = refl
same_flat {A = A} f g (x ∷ xs) same = ap (λ (l : List A). l ++ flat_map f xs) (same x) ∙ ap (λ (l : List A). g x ++ l) (same_flat f g xs same)

-- over datapaths that are joined to one
module _ (conf : Configuration) (now : State) (held : DpId → List Entry) (from : DpId)
    (cold : (id : DpId) → IsJoined (stack_of conf now.ups) from id → cold_at conf now id ≡ held id) where
  -- one link further
  joined_on : (id : DpId) (port : ℕ) (far : StackEnd) → IsJoined (stack_of conf now.ups) from id → far_end (links conf now.ups) id port ≡ Some far → (n : ℕ) → Walk (stack_of conf now.ups) far.dp far.dp n → IsJoined (stack_of conf now.ups) from far.dp
  joined_on id port far joined leads n stays =
      let link = far_link id port (links conf now.ups) far leads in
      joined_trans (stack_of conf now.ups) joined.0 from id far.dp joined.1 (suc n, (far.dp, port, far.port, (link.0, link.1, link.2), stays))

  module _ (end_there : (id : DpId) (port : ℕ) (far : StackEnd) → far_end (links conf now.ups) id port ≡ Some far → IsNode (stack_of conf now.ups) far.dp) where
    pub same_walk : (k : ℕ) (id : DpId) (port : ℕ) (p : Packet) → IsJoined (stack_of conf now.ups) from id
        → arrivals conf now k id port p ≡ walk_by held conf (links conf now.ups) k id port p
    unfolding arrivals walk_by
    same_walk zero id port p joined = refl
    same_walk (suc k) id port p joined =
        same_flat (going_on conf (links conf now.ups) (λ e q y. arrivals conf now k e q y) id) (going_on conf (links conf now.ups) (λ e q y. walk_by held conf (links conf now.ups) k e q y) id) (first_run (cold_at conf now id) port p)
        (λ s. step s (far_end (links conf now.ups) id s.port) refl (λ e q y on. same_walk k e q y on))
        ∙ ap (λ (entries : List Entry). flat_map (going_on conf (links conf now.ups) (λ e q y. walk_by held conf (links conf now.ups) k e q y) id) (first_run entries port p)) (cold id joined)
      where
        step : (s : Sent) (far : Option StackEnd) → far_end (links conf now.ups) id s.port ≡ far
            → ((e : DpId) (q : ℕ) (y : Packet) → IsJoined (stack_of conf now.ups) from e → arrivals conf now k e q y ≡ walk_by held conf (links conf now.ups) k e q y)
            → option_map_or (λ there. arrivals conf now k there.dp there.port s.packet) far (arrived conf id s) ≡ option_map_or (λ there. walk_by held conf (links conf now.ups) k there.dp there.port s.packet) far (arrived conf id s)
        step s None leads further = refl
        step s (Some there) leads further = further there.dp there.port s.packet (joined_on id s.port there joined leads zero (end_there id s.port there leads, refl))

-- none of a list passes a test
none_passes : {X : Type 0} (test : X → Bool) (xs : List X) → find test xs ≡ None → (x : X) → Contains xs x → test x ≡ false
none_passes test [] none x c = absurd (none_in c)
  where
    none_in : Contains [] x → ⊥
    none_in (i, lt, is) = omega (arith, lt)
none_passes test (y ∷ ys) none x c = by (test y) refl none (λ none c. none_passes test ys none x c)
  where
    by : (here : Bool) → test y ≡ here → cond here (Some y) (find test ys) ≡ None → (find test ys ≡ None → Contains ys x → test x ≡ false) → test x ≡ false
    by true here none later = absurd cc
    by false here none later = elim (contains_cons y x ys c) [
      | inl same ↦ subst (λ z. test z ≡ false) same here
      | inr among ↦ later none among
    ]

pub all_ready : {X : Type 0} (joined ready : X → Bool) (xs : List X) → find (λ x. joined x && not (ready x)) xs ≡ None → (x : X) → Contains xs x → joined x ≡ true → ready x ≡ true
all_ready joined ready xs none x c is = by (ready x) refl
  where
    by : (b : Bool) → ready x ≡ b → ready x ≡ true
    by true e = e
    by false e = absurd (true≢false (sym (rw (is, e) refl) ∙ none_passes (λ y. joined y && not (ready y)) xs none x c))

-- ---- behind a story

dp_of_node : (dps : List Dp) (id : DpId) (i : ℕ) → slice_get (ids (map node_of dps)) i ≡ Some id → (d : Dp) × Contains dps d × (d.id ≡ id)
dp_of_node [] id i is = absurd (none-some id is)
dp_of_node (d ∷ dps) id zero is = (d, contains_here d dps, same_Some d.id id is)
dp_of_node (d ∷ dps) id (suc i) is = let rest = dp_of_node dps id i is in (rest.0, contains_there d rest.0 dps rest.1, rest.2)

module _ (w : World) (stack : IsStack (stack_of w.conf (ups w))) (d : Dp) (node : IsNode (stack_of w.conf (ups w)) d.id)
    (cold : (id : DpId) → is_ready w id ≡ true → tables_of w id ≡ Some (cold_at w.conf (now w) id)) where
  -- what a datapath of the part was sent
  part_cold : unready w d.id ≡ None → (id : DpId) → IsJoined (stack_of w.conf (ups w)) d.id id → cold_at w.conf (now w) id ≡ held_by w id
  part_cold none id joined =
      let end = walk_end (stack_of w.conf (ups w)) stack joined.0 d.id id joined.1 in
      let e = dp_of_node w.conf.dps id end.0 end.1 in
      let here : is_joined (stack_of w.conf (ups w)) d.id (e.0).id ≡ true = subst (λ x. is_joined (stack_of w.conf (ups w)) d.id x ≡ true) (sym e.2) (joined_by_walk (stack_of w.conf (ups w)) stack d.id id node joined) in
      let ready = all_ready (λ (f : Dp). is_joined (stack_of w.conf (ups w)) d.id f.id) (λ (f : Dp). is_ready w f.id) w.conf.dps none e.0 e.1 here in
      sym (ap (λ (tables : Option (List Entry)). unwrap_or tables []) (cold id (subst (λ x. is_ready w x ≡ true) e.2 ready)))

  end_there : (id : DpId) (port : ℕ) (far : StackEnd) → far_end (links w.conf (ups w)) id port ≡ Some far → IsNode (stack_of w.conf (ups w)) far.dp
  end_there id port far leads =
      let link = far_link id port (links w.conf (ups w)) far leads in
      (link_ends (stack_of w.conf (ups w)) stack id port far.dp far.port (link.0, link.1, link.2)).1

  pub walk_held : unready w d.id ≡ None → (k port : ℕ) (p : Packet)
      → arrivals w.conf (now w) k d.id port p ≡ walk_by (held_by w) w.conf (links w.conf (ups w)) k d.id port p
  walk_held none k port p =
      same_walk w.conf (now w) (held_by w) d.id (part_cold none) end_there k d.id port p (zero, (node, refl))

-- a datapath that is found stands among the nodes
pub node_of_dp : (dps : List Dp) (id : DpId) (d : Dp) → dp_with dps id ≡ Some d → (i : ℕ) × (slice_get (ids (map node_of dps)) i ≡ Some id)
node_of_dp [] id d is = absurd (none-some d is)
node_of_dp (e ∷ dps) id d is = by (e.id.0 == id.0) refl is (λ is. node_of_dp dps id d is)
  where
    by : (here : Bool) → (e.id.0 == id.0) ≡ here → cond here (Some e) (dp_with dps id) ≡ Some d
        → (dp_with dps id ≡ Some d → (i : ℕ) × (slice_get (ids (map node_of dps)) i ≡ Some id)) → (i : ℕ) × (slice_get (ids (map node_of (e ∷ dps))) i ≡ Some id)
    by true here is later = (zero, ap (λ (n : ℕ). let x : DpId = record { 0 = n } in Some x) (eqb-true e.id.0 id.0 here))
    by false here is later = let rest = later is in (suc rest.0, rest.1)
