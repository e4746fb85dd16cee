-- A document that isn't too long has room for the routes of a peer.
use Rattle.std.proofs.Common.{◌≡◌, ◌≤◌, ◌+◌, ◌*◌, nat_le, ℕ, suc, Bool, true, false, List, [], ◌∷◌, ◌++◌, length, map, fold, Option, Some, None, Result, Ok, Err, refl, sym, ap, subst, ◌∙◌, arith, length-append, leb-true, zero-add}
use Rattle.std.specs.Prelude.{codes, if◌then◌else◌}
use Rattle.std.specs.Option.{option_map_or}
use Rattle.std.proofs.lemmas.Bool.{cond-true, cond-false}
use Rattle.yaml_tree.specs.declared.tree.Key.{Key}
use Rattle.yaml_tree.specs.declared.tree.Key.TheVariants as keys
use Rattle.yaml_tree.specs.declared.tree.Pair.{Pair}
use Rattle.yaml_tree.specs.declared.tree.Tree.{Tree, out-Tree, roll-Tree, roll-out-Tree}
use Rattle.yaml_tree.specs.declared.tree.Tree.TheOpen.{Tree-F}
use Rattle.yaml_tree.specs.declared.tree.Tree.TheOpen as open_tree
use Rattle.yaml_tree.specs.declared.tree.Tree.TheVariants as trees
use Rattle.yaml_subset.specs.Entries.{key_eq}
use Rattle.yaml_subset.specs.Levels.{levels}
use Rattle.yaml_subset.specs.Printed.{text_scalar, printed}
use Rattle.yaml_subset.specs.ReadBack.{is_sound, entries_sound, entry_sound}
use Rattle.yaml_subset.proofs.PrintedTrees.{sound_map}
use Rattle.conf_types.specs.declared.peer.BgpConf.{BgpConf}
use Rattle.conf_types.specs.declared.vlan.Router.{Router}
use Rattle.conf_types.specs.Configuration.{Configuration}
use Rattle.conf_shape.specs.Reads.{entries_in, entries_of, items_of}
use Rattle.conf_gather.specs.declared.refused.LoadRefused.{LoadRefused}
use Rattle.conf_gather.specs.Gathered.{Held, gathered}
use Rattle.conf_gather.specs.Gives.{◌>>=◌}
use Rattle.conf_gather.proofs.SoundLemmas.{same_key}
use Rattle.conf_load.specs.Loaded.{checked}
use Rattle.bgp_routes.specs.declared.routes.BgpRoute.{BgpRoute}
use Rattle.bgp_texts.specs.Items.{entry, route_items}
use Rattle.bgp_texts.specs.Taking.{is_accepted, take_one, taken_of, with_taken, text_of}
use Rattle.bgp_texts.specs.Trees.{vlan_key, is_routes, longer, has_routes, with_items, in_vlan, is_vlans, in_vlans, with_routes, has_vlan}
use Rattle.bgp_load.specs.declared.found.LoadedPeer.{LoadedPeer}
use Rattle.bgp_load.specs.declared.found.PeerLacks.TheVariants as lacks
use Rattle.bgp_load.specs.Peers.{FoundPeer, most_bytes, router_named, peering_of, found_at, found_in, with_room, peer_of, loaded_peer}
use Rattle.bgp_load.proofs.Lengths.{entries_len, items_len, behind_len, deeper, entry_len, behind_map, behind_list, entries_within, items_within, items_joined, entry_last, value_longer, printed_map, printed_entries}
use Rattle.bgp_load.proofs.GrownEntries.{named, entries_grown}
use Rattle.bgp_load.proofs.RouteTexts.{at_routes, items_most}

-- ---- the entries of a sound tree are sound

entries_in_sound : (t : Tree) (x : Tree-F Tree Pair) → t ≡ roll-Tree x → is_sound t ≡ true → entries_sound [] (map entry_sound (entries_in x)) ≡ true
entries_in_sound t open_tree.Null is h = refl
entries_in_sound t (open_tree.Bool b) is h = refl
entries_in_sound t (open_tree.Int n) is h = refl
entries_in_sound t (open_tree.Text text) is h = refl
entries_in_sound t (open_tree.List items) is h = refl
entries_in_sound t (open_tree.Map pairs) is h = sym (sound_map pairs) ∙ sym (ap is_sound (is ∙ trees.rolls-Map pairs)) ∙ h

sound_within : (t : Tree) → is_sound t ≡ true → entries_sound [] (map entry_sound (entries_of t)) ≡ true
sound_within t h = entries_in_sound t (out-Tree t) (sym (roll-out-Tree t)) h

-- ---- a list of routes, a VLAN and the document with these items more

module _ (indent : List ℕ) (items : List Tree) where
  longer_same : (p : Pair) → is_routes p ≡ false → longer items p ≡ p
  longer_same p h = cond-false (is_routes p) (record { key = p.key; value = trees.List (items_of p.value ++ items) }) p h

  longer_more : (p : Pair) → is_sound p.value ≡ true → is_routes p ≡ true → entry_len indent (longer items p) ≤ entry_len indent p + (4 + items_len (deeper indent) items)
  longer_more p sound h =
      let q : Pair = record { key = p.key; value = trees.List (items_of p.value ++ items) } in
      subst (λ (r : Pair). entry_len indent r ≤ entry_len indent p + (4 + items_len (deeper indent) items)) (sym (cond-true (is_routes p) q p h))
      (value_longer indent p q (4 + items_len (deeper indent) items) refl
      (sum (behind_len indent q.value) (items_len (deeper indent) (items_of p.value ++ items)) (items_len (deeper indent) (items_of p.value)) (items_len (deeper indent) items) (behind_len indent p.value)
      (behind_list indent (items_of p.value ++ items)) (items_joined (deeper indent) (items_of p.value) items) (items_within indent p.value)))
    where
      sum : (a b c d e : ℕ) → a ≤ 4 + b → b ≡ c + d → c ≤ e → a ≤ e + (4 + d)
      sum a b c d e f g h = omega arith

  routes_len : length (text_scalar (codes "routes")) ≡ 6
  unfolding text_scalar
  routes_len = refl

  pub items_more : (ps : List Pair) → entries_sound [] (map entry_sound ps) ≡ true → entries_len indent (with_items items ps) ≤ entries_len indent ps + (length indent + (11 + items_len (deeper indent) items))
  items_more ps sound = by (has_routes ps)
    where
      made : Pair
      made = entry (codes "routes") (trees.List items)

      wider : (a b c d : ℕ) → a ≤ b + (4 + c) → a ≤ b + (d + (11 + c))
      wider a b c d h = omega arith

      last : (a b c d i k : ℕ) → a ≡ b + c → c ≡ i + (k + suc d) → k ≡ 6 → d ≤ 4 + items_len (deeper indent) items → a ≤ b + (i + (11 + items_len (deeper indent) items))
      last a b c d i k e f g h = omega arith

      by : (b : Bool) → entries_len indent (if b then map (longer items) ps else ps ++ made ∷ []) ≤ entries_len indent ps + (length indent + (11 + items_len (deeper indent) items))
      by true =
          wider (entries_len indent (map (longer items) ps)) (entries_len indent ps) (items_len (deeper indent) items) (length indent)
          (entries_grown is_routes (longer items) (keys.Text (codes "routes")) indent (4 + items_len (deeper indent) items) (λ p h. named (codes "routes") p.key h) longer_same longer_more [] ps sound)
      by false =
          last (entries_len indent (ps ++ made ∷ [])) (entries_len indent ps) (entry_len indent made) (behind_len indent made.value) (length indent) (length (text_scalar (codes "routes")))
          (entry_last indent ps made) refl routes_len (behind_list indent items)

-- the value of an entry is a map of other entries, which are no longer than so
map_longer : (indent : List ℕ) (p : Pair) (qs : List Pair) (n : ℕ) → entries_len (deeper indent) qs ≤ entries_len (deeper indent) (entries_of p.value) + n
    → entry_len indent (record { key = p.key; value = trees.Map qs }) ≤ entry_len indent p + (4 + n)
map_longer indent p qs n more =
    value_longer indent p (record { key = p.key; value = trees.Map qs }) (4 + n) refl
    (sum (behind_len indent (trees.Map qs)) (entries_len (deeper indent) qs) (entries_len (deeper indent) (entries_of p.value)) (behind_len indent p.value) (behind_map indent qs) more (entries_within indent p.value))
  where
    sum : (a b c d : ℕ) → a ≤ 4 + b → b ≤ c + n → c ≤ d → a ≤ d + (4 + n)
    sum a b c d e f g = omega arith

so_much : (a b m n : ℕ) → m ≡ n → a ≤ b + m → a ≤ b + n
so_much a b m n e h = omega arith

module _ (vlan : Key) (items : List Tree) where
  abbrev more_items : ℕ
  more_items = items_len at_routes items

  vlan_longer : (p : Pair) → is_sound p.value ≡ true → key_eq p.key vlan ≡ true → entry_len (deeper []) (in_vlan vlan items p) ≤ entry_len (deeper []) p + (19 + more_items)
  vlan_longer p sound h =
      let qs = with_items items (entries_of p.value) in
      subst (λ (r : Pair). entry_len (deeper []) r ≤ entry_len (deeper []) p + (19 + more_items)) (sym (cond-true (key_eq p.key vlan) (record { key = p.key; value = trees.Map qs }) p h))
      (so_much (entry_len (deeper []) (record { key = p.key; value = trees.Map qs })) (entry_len (deeper []) p) (4 + (length (deeper (deeper [])) + (11 + more_items))) (19 + more_items) (sum more_items)
      (map_longer (deeper []) p qs (length (deeper (deeper [])) + (11 + more_items)) (items_more (deeper (deeper [])) items (entries_of p.value) (sound_within p.value sound))))
    where
      sum : (k : ℕ) → 4 + (length (deeper (deeper [])) + (11 + k)) ≡ 19 + k
      sum k = let four : length (deeper (deeper [])) ≡ 4 = refl in omega (arith, four)

  vlans_longer : (p : Pair) → is_sound p.value ≡ true → is_vlans p ≡ true → entry_len [] (in_vlans vlan items p) ≤ entry_len [] p + (23 + more_items)
  vlans_longer p sound h =
      let qs = map (in_vlan vlan items) (entries_of p.value) in
      subst (λ (r : Pair). entry_len [] r ≤ entry_len [] p + (23 + more_items)) (sym (cond-true (is_vlans p) (record { key = p.key; value = trees.Map qs }) p h))
      (so_much (entry_len [] (record { key = p.key; value = trees.Map qs })) (entry_len [] p) (4 + (19 + more_items)) (23 + more_items) (sum more_items) (map_longer [] p qs (19 + more_items)
      (entries_grown (λ q. key_eq q.key vlan) (in_vlan vlan items) vlan (deeper []) (19 + more_items) (λ q e. same_key q.key vlan e)
      (λ q e. cond-false (key_eq q.key vlan) (record { key = q.key; value = trees.Map (with_items items (entries_of q.value)) }) q e) vlan_longer [] (entries_of p.value) (sound_within p.value sound))))
    where
      sum : (k : ℕ) → 4 + (19 + k) ≡ 23 + k
      sum k = omega arith

  pub document_longer : (t : Tree) → is_sound t ≡ true → length (printed (trees.Map (map (in_vlans vlan items) (entries_of t)))) ≤ length (printed t) + (26 + more_items)
  document_longer t sound =
      let qs = map (in_vlans vlan items) (entries_of t) in
      sum (length (printed (trees.Map qs))) (entries_len [] qs) (entries_len [] (entries_of t)) (length (printed t)) (printed_map qs)
      (entries_grown is_vlans (in_vlans vlan items) (keys.Text (codes "vlans")) [] (23 + more_items) (λ p h. named (codes "vlans") p.key h)
      (λ p h. cond-false (is_vlans p) (record { key = p.key; value = trees.Map (map (in_vlan vlan items) (entries_of p.value)) }) p h) vlans_longer [] (entries_of t) (sound_within t sound))
      (printed_entries t)
    where
      sum : (a b c d : ℕ) → a ≤ 3 + b → b ≤ c + (23 + more_items) → c ≤ d → a ≤ d + (26 + more_items)
      sum a b c d e f g = omega arith

-- ---- the routes that are taken

module _ (vlan : Key) (t : Tree) where
  one_taken : (taken : List BgpRoute) (r : BgpRoute) → length (take_one vlan t taken r) ≤ suc (length taken)
  one_taken taken r = by (is_accepted (with_routes vlan (taken ++ r ∷ []) t))
    where
      more : (a n : ℕ) → a ≡ n + 1 → a ≤ suc n
      more a n e = omega arith

      less : (n : ℕ) → n ≤ suc n
      less n = omega arith

      by : (b : Bool) → length (if b then taken ++ r ∷ [] else taken) ≤ suc (length taken)
      by true = more (length (taken ++ r ∷ [])) (length taken) (length-append taken (r ∷ []))
      by false = less (length taken)

  all_taken : (taken routes : List BgpRoute) → length (fold (take_one vlan t) taken routes) ≤ length taken + length routes
  all_taken taken [] = least (length taken)
    where
      least : (n : ℕ) → n ≤ n + 0
      least n = omega arith
  all_taken taken (r ∷ routes) =
      sum (length (fold (take_one vlan t) (take_one vlan t taken r) routes)) (length (take_one vlan t taken r)) (length taken) (length routes) (all_taken (take_one vlan t taken r) routes) (one_taken taken r)
    where
      sum : (a b c d : ℕ) → a ≤ b + d → b ≤ suc c → a ≤ c + suc d
      sum a b c d e f = omega arith

  few_taken : (routes : List BgpRoute) → length (taken_of vlan t routes) ≤ length routes
  few_taken routes = by (has_vlan vlan t)
    where
      none : (n : ℕ) → 0 ≤ n
      none n = omega arith

      by : (b : Bool) → length (if b then fold (take_one vlan t) [] routes else []) ≤ length routes
      by true = subst (λ n. length (fold (take_one vlan t) [] routes) ≤ n) (zero-add (length routes)) (all_taken [] routes)
      by false = none (length routes)

  with_taken_room : (taken : List BgpRoute) → is_sound t ≡ true → length (printed t) ≤ most_bytes → length taken ≤ 1024 → length (printed (with_taken vlan taken t)) ≤ 1048576
  with_taken_room [] sound short few = wider (length (printed t)) short
    where
      wider : (n : ℕ) → n ≤ 900000 → n ≤ 1048576
      wider n h = omega arith
  with_taken_room (r ∷ rs) sound short few =
      sum (length (printed (with_routes vlan (r ∷ rs) t))) (length (printed t)) (items_len at_routes (route_items (r ∷ rs))) (length (r ∷ rs))
      (document_longer vlan (route_items (r ∷ rs)) t sound) (items_most (r ∷ rs)) short few
    where
      sum : (a b c d : ℕ) → a ≤ b + (26 + c) → c ≤ 135 * d → b ≤ 900000 → d ≤ 1024 → a ≤ 1048576
      sum a b c d e f g h = omega arith

  pub room_for_routes : (routes : List BgpRoute) → is_sound t ≡ true → length (printed t) ≤ most_bytes → length routes ≤ 1024 → length (text_of vlan t routes) ≤ 1048576
  room_for_routes routes sound short few = with_taken_room (taken_of vlan t routes) sound short (fewer (length (taken_of vlan t routes)) (length routes) (few_taken routes) few)
    where
      fewer : (a b : ℕ) → a ≤ b → b ≤ 1024 → a ≤ 1024
      fewer a b e f = omega arith

-- ---- what is loaded

-- the peer's document is this one, and isn't too long
abbrev pub IsRoomy : Tree → LoadedPeer → Type 0
IsRoomy t found = (t ≡ found.tree) × (length (printed t) ≤ most_bytes)

same_tree : (a b : LoadedPeer) → ◌≡◌ {A = FoundPeer} (Ok a) (Ok b) → a.tree ≡ b.tree
same_tree a b e = let same : a ≡ b = cc in ap (λ (l : LoadedPeer). l.tree) same

roomy_with : (t : Tree) (b : BgpConf) (found : LoadedPeer) → with_room t b ≡ Ok found → IsRoomy t found
roomy_with t b found = by (nat_le (length (printed t)) most_bytes) refl
  where
    made : LoadedPeer
    made = record { peering = peering_of b; vlan = vlan_key b.vlan t; tree = t }

    by : (c : Bool) → nat_le (length (printed t)) most_bytes ≡ c → (if c then Ok made else Err lacks.Room) ≡ Ok found → IsRoomy t found
    by true h e = (same_tree made found e, leb-true (length (printed t)) most_bytes h)
    by false h e = absurd cc

roomy_at : (t : Tree) (router : Option Router) (found : LoadedPeer) → found_at t router ≡ Ok found → IsRoomy t found
roomy_at t None found e = absurd cc
roomy_at t (Some r) found e = by r.bgp e
  where
    by : (bgp : Option BgpConf) → option_map_or (with_room t) bgp (Err lacks.Peer) ≡ Ok found → IsRoomy t found
    by None e = absurd cc
    by (Some b) e = roomy_with t b found e

roomy_in : (t : Tree) (router : List ℕ) (found : LoadedPeer) → peer_of router t ≡ Ok (Ok found) → IsRoomy t found
roomy_in t router found = by (checked t)
  where
    inside : (a b : FoundPeer) → ◌≡◌ {A = Result FoundPeer LoadRefused} (Ok a) (Ok b) → a ≡ b
    inside a b e = cc

    by : (c : Result Configuration LoadRefused) → (c >>= λ conf. Ok (found_in router t conf)) ≡ Ok (Ok found) → IsRoomy t found
    by (Ok conf) e = roomy_at t (router_named conf router) found (inside (found_in router t conf) (Ok found) e)
    by (Err refused) e = absurd cc

pub loaded_room : (sound : (held : Held) (name : List ℕ) (t : Tree) → gathered held name ≡ Ok t → (is_sound t ≡ true) × (levels t ≤ 32))
    → (held : Held) (name router : List ℕ) (found : LoadedPeer) (vlan : Key) (routes : List BgpRoute) → loaded_peer held name router ≡ Ok (Ok found) → length routes ≤ 1024
    → length (text_of vlan found.tree routes) ≤ 1048576
loaded_room sound held name router found vlan routes e few = by (gathered held name) refl e
  where
    by : (g : Result Tree LoadRefused) → gathered held name ≡ g → g >>= peer_of router ≡ Ok (Ok found) → length (text_of vlan found.tree routes) ≤ 1048576
    by (Ok t) is e =
        let roomy = roomy_in t router found e in
        subst (λ (u : Tree). length (text_of vlan u routes) ≤ 1048576) roomy.0 (room_for_routes vlan t routes (sound held name t is).0 roomy.1 few)
    by (Err refused) is e = absurd cc
