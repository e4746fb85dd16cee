-- What a part of a stack doesn't see: links elsewhere.
use Rattle.std.proofs.Common.{◌≡◌, ℕ, zero, suc, Bool, true, false, cond, ◌==◌, ◌&&◌, ◌||◌, if◌then◌else◌, List, [], ◌∷◌, filter, length, Option, Some, None, refl, sym, ap, ◌∙◌, true≢false, eqb-true}
use Rattle.std.specs.Prelude.{IfSome, is_some}
use Rattle.std.specs.List.{AllByRecursion, list_any}
use Rattle.std.specs.Option.{option_and_then, option_map, option_map_or, option_or}
use Rattle.std.proofs.lemmas.Bool.{and_parts, and_left, or_from, false_from_ne_true}
use Rattle.net_base.specs.declared.numbers.DpId.{DpId}
use Rattle.net_base.specs.declared.stack.Node.{Node}
use Rattle.net_base.specs.declared.stack.StackLink.{StackLink}
use Rattle.stack_paths.specs.Chosen.{Step, forth, back, steps, is_same_dp, is_walk, least_below, distance_of, first_in, is_one_more, leads_nearer, is_chosen_before, hop_link, hop_of, is_root_before, root_of, uplink_of, is_end_of, is_tree_port}
use Rattle.stack_paths.specs.Stack.{Stack}
use Rattle.law_paths.specs.Part.{IsClosed, links_in, AreAlikeIn}

-- ---- lists and tests

any_kept : {A : Type 0} (p q : A → Bool) → ((x : A) → q x ≡ true → p x ≡ true) → (xs : List A) → list_any q (filter p xs) ≡ list_any q xs
any_kept p q implies [] = refl
any_kept {A = A} p q implies (x ∷ xs) = by (p x) (q x) refl refl (any_kept p q implies xs)
  where
    by : (b c : Bool) → p x ≡ b → q x ≡ c → list_any q (filter p xs) ≡ list_any q xs → list_any q (cond b (x ∷ filter p xs) (filter p xs)) ≡ (q x || list_any q xs)
    by true c is tests more = ap (λ r. q x || r) more
    by false false is tests more = more ∙ ap (λ r. r || list_any q xs) (sym tests)
    by false true is tests more = absurd (true≢false (sym (implies x tests) ∙ is))

kept_kept : {A : Type 0} (p q : A → Bool) → ((x : A) → q x ≡ true → p x ≡ true) → (xs : List A) → filter q (filter p xs) ≡ filter q xs
kept_kept p q implies [] = refl
kept_kept {A = A} p q implies (x ∷ xs) = by (p x) (q x) refl refl (kept_kept p q implies xs)
  where
    by : (b c : Bool) → p x ≡ b → q x ≡ c → filter q (filter p xs) ≡ filter q xs → filter q (cond b (x ∷ filter p xs) (filter p xs)) ≡ cond (q x) (x ∷ filter q xs) (filter q xs)
    by true c is tests more = ap (λ r. cond (q x) (x ∷ r) r) more
    by false false is tests more = more ∙ ap (λ r. cond r (x ∷ filter q xs) (filter q xs)) (sym tests)
    by false true is tests more = absurd (true≢false (sym (implies x tests) ∙ is))

any_same : {A : Type 0} (p q : A → Bool) (xs : List A) → AllByRecursion (λ x. p x ≡ q x) xs → list_any p xs ≡ list_any q xs
any_same p q [] all = refl
any_same p q (x ∷ xs) all = ap (λ b. b || list_any p xs) all.0 ∙ ap (λ b. q x || b) (any_same p q xs all.1)

kept_same : {A : Type 0} (p q : A → Bool) (xs : List A) → AllByRecursion (λ x. p x ≡ q x) xs → filter p xs ≡ filter q xs
kept_same p q [] all = refl
kept_same p q (x ∷ xs) all = ap (λ b. cond b (x ∷ filter p xs) (filter p xs)) all.0 ∙ ap (λ l. cond (q x) (x ∷ l) l) (kept_same p q xs all.1)

all_from : {A : Type 0} {P Q : A → Type 0} → ((x : A) → P x → Q x) → (xs : List A) → AllByRecursion P xs → AllByRecursion Q xs
all_from h [] all = tt
all_from h (x ∷ xs) all = (h x all.0, all_from h xs all.1)

of_each : {A : Type 0} {P : A → Type 0} → ((x : A) → P x) → (xs : List A) → AllByRecursion P xs
of_each h [] = tt
of_each h (x ∷ xs) = (h x, of_each h xs)

all_kept : {A : Type 0} (P : A → Type 0) (p : A → Bool) (xs : List A) → AllByRecursion (λ x. p x ≡ true → P x) xs → AllByRecursion P (filter p xs)
all_kept P p [] all = tt
all_kept P p (x ∷ xs) all = by (p x) refl (all_kept P p xs all.1)
  where
    by : (b : Bool) → p x ≡ b → AllByRecursion P (filter p xs) → AllByRecursion P (cond b (x ∷ filter p xs) (filter p xs))
    by true is more = (all.0 is, more)
    by false is more = more

-- what follows from one that passes
from_any : {A C : Type 0} (q : A → Bool) (P : A → Type 0) (xs : List A) → AllByRecursion P xs → ((x : A) → q x ≡ true → P x → C) → list_any q xs ≡ true → C
from_any q P [] all h is = absurd (true≢false (sym is))
from_any {A = A} {C = C} q P (x ∷ xs) all h is = by (q x) refl (from_any q P xs all.1 h) is
  where
    by : (b : Bool) → q x ≡ b → (list_any q xs ≡ true → C) → (b || list_any q xs) ≡ true → C
    by true tests more passes = h x tests all.0
    by false tests more passes = more passes

-- what goes first is one of the list
first_has : {X : Type 0} (before : X → X → Bool) (P : X → Type 0) (xs : List X) → AllByRecursion P xs → IfSome (first_in before xs) P
first_has before P [] all = tt
first_has {X = X} before P (x ∷ xs) all = by (first_in before xs) (first_has before P xs all.1)
  where
    either : (b : Bool) (y : X) → P y → P (if b then y else x)
    either true y is = is
    either false y is = all.0

    by : (o : Option X) → IfSome o P → P (option_map_or (λ y. if before y x then y else x) o x)
    by None is = all.0
    by (Some y) is = either (before y x) y is

module _ (is_in : DpId → Bool) where
  -- ---- links, one way

  abbrev starts_in : Step → Bool
  starts_in x = is_in x.near

  abbrev Stays : Step → Type 0
  Stays x = is_in x.near ≡ is_in x.far

  stay : (ls : List StackLink) → IsClosed is_in ls → AllByRecursion Stays (steps ls)
  stay [] closed = tt
  stay (l ∷ ls) closed = (closed.0, (sym closed.0, stay ls closed.1))

  steps_in : (ls : List StackLink) → IsClosed is_in ls → filter starts_in (steps ls) ≡ steps (links_in is_in ls)
  steps_in [] closed = refl
  steps_in (l ∷ ls) closed =
      ap (λ b. cond (is_in l.a) (forth l ∷ cond b (back l ∷ rest) rest) (cond b (back l ∷ rest) rest)) (sym closed.0) ∙ by (is_in l.a) (steps_in ls closed.1)
    where
      rest : List Step
      rest = filter starts_in (steps ls)

      by : (b : Bool) → rest ≡ steps (links_in is_in ls) → cond b (forth l ∷ cond b (back l ∷ rest) rest) (cond b (back l ∷ rest) rest) ≡ steps (cond b (l ∷ links_in is_in ls) (links_in is_in ls))
      by true more = ap (λ r. forth l ∷ back l ∷ r) more
      by false more = more

  same_in : (x a : DpId) → is_same_dp x a ≡ true → is_in x ≡ is_in a
  same_in x a is = let same : x.0 ≡ a.0 = eqb-true x.0 a.0 is in λ i. is_in (record { 0 = same i })

  -- ---- one stack

  module _ (s : Stack) (closed : IsClosed is_in s.links) where
    -- a walk doesn't leave the part
    walk_stays : (n : ℕ) (a b : DpId) → is_walk s a b n ≡ true → is_in a ≡ is_in b
    unfolding is_walk
    walk_stays zero a b is = same_in a b (and_parts _ _ is).0
    walk_stays (suc n) a b is =
        from_any (λ x. is_same_dp x.near a && is_walk s x.far b n) Stays (steps s.links) (stay s.links closed)
        (λ x passes stays. let p = and_parts _ _ passes in sym (same_in x.near a p.0) ∙ stays ∙ walk_stays n x.far b p.1) is

    -- nor does an uplink
    record IsFrom (a : DpId) (x : Step) : Type 0 where
      near : is_in x.near ≡ is_in a
      far : is_in x.far ≡ is_in a

    hop_stays : (a b : DpId) → IfSome (hop_link s a b) (IsFrom a)
    unfolding hop_link leads_nearer
    hop_stays a b =
        first_has (is_chosen_before s) (IsFrom a) (filter (leads_nearer s a b) (steps s.links))
        (all_kept (IsFrom a) (leads_nearer s a b) (steps s.links)
        (all_from {P = Stays} {Q = λ x. leads_nearer s a b x ≡ true → IsFrom a x} (λ x stays nearer. let near = same_in x.near a (and_parts _ _ nearer).0 in record { near = near; far = sym stays ∙ near }) (steps s.links) (stay s.links closed)))

    uplink_stays : (d : DpId) → IfSome (uplink_of s d) (IsFrom d)
    unfolding uplink_of
    uplink_stays d = by (root_of s d)
      where
        by : (o : Option Node) → IfSome (option_and_then (λ root. hop_link s d root.id) o) (IsFrom d)
        by None = tt
        by (Some root) = hop_stays d root.id

    -- so no port of the part is an end of an uplink from elsewhere
    not_here : (x d : DpId) (b : Bool) → is_in x ≡ false → is_in d ≡ true → (is_same_dp x d && b) ≡ false
    not_here x d b out is = and_left (is_same_dp x d) b (false_from_ne_true (is_same_dp x d) (λ same. true≢false (sym is ∙ sym (same_in x d same) ∙ out)))

    no_end : (d : DpId) (p : ℕ) (e : DpId) → is_in d ≡ true → is_in e ≡ false → option_map_or (is_end_of d p) (uplink_of s e) false ≡ false
    no_end d p e is out = by (uplink_of s e) (uplink_stays e)
      where
        by : (o : Option Step) → IfSome o (IsFrom e) → option_map_or (is_end_of d p) o false ≡ false
        by None from = refl
        by (Some x) from = or_from _ _ (not_here x.near d (x.port == p) (from.near ∙ out) is) (not_here x.far d (x.far_port == p) (from.far ∙ out) is)

  -- ---- two stacks of the same datapaths

  module _ (nodes : List Node) (ls ms : List StackLink) (closed : IsClosed is_in ls) (closed_too : IsClosed is_in ms) (same : links_in is_in ls ≡ links_in is_in ms) where
    abbrev s : Stack
    s = record { nodes = nodes; links = ls }

    abbrev t : Stack
    t = record { nodes = nodes; links = ms }

    abbrev within : List Step
    within = filter starts_in (steps ls)

    both : filter starts_in (steps ms) ≡ within
    both = steps_in ms closed_too ∙ ap steps (sym same) ∙ sym (steps_in ls closed)

    lead_in : AllByRecursion (λ x. is_in x.far ≡ true) within
    lead_in = all_kept (λ x. is_in x.far ≡ true) starts_in (steps ls) (all_from {P = Stays} {Q = λ x. is_in x.near ≡ true → is_in x.far ≡ true} (λ x stays near. sym stays ∙ near) (steps ls) (stay ls closed))

    abbrev InPart : (Step → Bool) → Type 0
    InPart q = (x : Step) → q x ≡ true → is_in x.near ≡ true

    module _ (q r : Step → Bool) (q_in : InPart q) (r_in : InPart r) (agree : (x : Step) → is_in x.far ≡ true → q x ≡ r x) where
      agree_all : AllByRecursion (λ x. q x ≡ r x) within
      agree_all = all_from {P = λ x. is_in x.far ≡ true} {Q = λ x. q x ≡ r x} agree within lead_in

      any_here : list_any q (steps ls) ≡ list_any r (steps ms)
      any_here = sym (any_kept starts_in q q_in (steps ls)) ∙ any_same q r within agree_all ∙ ap (list_any r) (sym both) ∙ any_kept starts_in r r_in (steps ms)

      kept_here : filter q (steps ls) ≡ filter r (steps ms)
      kept_here = sym (kept_kept starts_in q q_in (steps ls)) ∙ kept_same q r within agree_all ∙ ap (filter r) (sym both) ∙ kept_kept starts_in r r_in (steps ms)

    starts : (x : Step) (a : DpId) (b : Bool) → is_in a ≡ true → (is_same_dp x.near a && b) ≡ true → is_in x.near ≡ true
    starts x a b is passes = same_in x.near a (and_parts _ _ passes).0 ∙ is

    -- distances

    walk_from : (n : ℕ) (a b : DpId) → is_in a ≡ true → is_walk s a b n ≡ is_walk t a b n
    unfolding is_walk
    walk_from zero a b is = refl
    walk_from (suc n) a b is =
        any_here (λ x. is_same_dp x.near a && is_walk s x.far b n) (λ x. is_same_dp x.near a && is_walk t x.far b n) (λ x. starts x a (is_walk s x.far b n) is) (λ x. starts x a (is_walk t x.far b n) is)
        (λ x far. ap (λ w. is_same_dp x.near a && w) (walk_from n x.far b far))

    walk_to : (n : ℕ) (a b : DpId) → is_in b ≡ true → is_walk s a b n ≡ is_walk t a b n
    walk_to n a b is = by (is_in a) refl
      where
        none : (u : Stack) → IsClosed is_in u.links → is_in a ≡ false → is_walk u a b n ≡ false
        none u shut out = false_from_ne_true (is_walk u a b n) (λ walks. true≢false (sym is ∙ sym (walk_stays u shut n a b walks) ∙ out))

        by : (c : Bool) → is_in a ≡ c → is_walk s a b n ≡ is_walk t a b n
        by true here = walk_from n a b here
        by false out = none s closed out ∙ sym (none t closed_too out)

    least_same : (f g : ℕ → Bool) → ((n : ℕ) → f n ≡ g n) → (n : ℕ) → least_below f n ≡ least_below g n
    unfolding least_below
    least_same f g h zero = refl
    least_same f g h (suc n) = ap (λ o. option_or o (if f n then Some n else None)) (least_same f g h n) ∙ ap (λ b. option_or (least_below g n) (if b then Some n else None)) (h n)

    distance_from : (a b : DpId) → is_in a ≡ true → distance_of s a b ≡ distance_of t a b
    unfolding distance_of
    distance_from a b is = least_same (is_walk s a b) (is_walk t a b) (λ n. walk_from n a b is) (length nodes)

    distance_to : (a b : DpId) → is_in b ≡ true → distance_of s a b ≡ distance_of t a b
    unfolding distance_of
    distance_to a b is = least_same (is_walk s a b) (is_walk t a b) (λ n. walk_to n a b is) (length nodes)

    -- next hops

    link_same : (a b : DpId) → is_in a ≡ true → hop_link s a b ≡ hop_link t a b
    unfolding hop_link leads_nearer
    link_same a b is =
        ap (first_in (is_chosen_before s))
        (kept_here (leads_nearer s a b) (leads_nearer t a b) (λ x. starts x a _ is) (λ x. starts x a _ is)
        (λ x far. ap (λ o. is_same_dp x.near a && is_one_more o (distance_of s x.far b)) (distance_from a b is) ∙ ap (λ o. is_same_dp x.near a && is_one_more (distance_of t a b) o) (distance_from x.far b far)))

    hop_same : (a b : DpId) → is_in a ≡ true → hop_of s a b ≡ hop_of t a b
    unfolding hop_of
    hop_same a b is = ap (option_map (λ x. x.port)) (link_same a b is)

    -- tree ports

    root_same : (d : DpId) → is_in d ≡ true → root_of s d ≡ root_of t d
    unfolding root_of
    root_same d is =
        ap (first_in (is_root_before s))
        (kept_same (λ node. is_some (distance_of s node.id d)) (λ node. is_some (distance_of t node.id d)) nodes (of_each (λ node. ap (λ o. is_some o) (distance_to node.id d is)) nodes))

    uplink_same : (d : DpId) → is_in d ≡ true → uplink_of s d ≡ uplink_of t d
    unfolding uplink_of
    uplink_same d is = ap (option_and_then (λ root. hop_link s d root.id)) (root_same d is) ∙ by (root_of t d)
      where
        by : (o : Option Node) → option_and_then (λ root. hop_link s d root.id) o ≡ option_and_then (λ root. hop_link t d root.id) o
        by None = refl
        by (Some root) = link_same d root.id is

    tree_same : (d : DpId) (p : ℕ) → is_in d ≡ true → is_tree_port s d p ≡ is_tree_port t d p
    unfolding is_tree_port
    tree_same d p is =
        any_same (λ node. option_map_or (is_end_of d p) (uplink_of s node.id) false) (λ node. option_map_or (is_end_of d p) (uplink_of t node.id) false) nodes (of_each (λ node. by node.id (is_in node.id) refl) nodes)
      where
        by : (e : DpId) (b : Bool) → is_in e ≡ b → option_map_or (is_end_of d p) (uplink_of s e) false ≡ option_map_or (is_end_of d p) (uplink_of t e) false
        by e true here = ap (λ o. option_map_or (is_end_of d p) o false) (uplink_same e here)
        by e false out = no_end s closed d p e is out ∙ sym (no_end t closed_too d p e is out)

  -- ---- with the same datapaths told by an equation

  module _ (s t : Stack) (alike : AreAlikeIn is_in s t) where
    abbrev over : {X : Type 0} → (Stack → X) → Type 0
    over f = f (record { nodes = s.nodes; links = t.links }) ≡ f t

    moved : {X : Type 0} (f : Stack → X) → over f
    moved f = ap (λ ns. f (record { nodes = ns; links = t.links })) alike.nodes

    pub distances : (a b : DpId) → is_in a ≡ true → distance_of s a b ≡ distance_of t a b
    distances a b is = distance_from s.nodes s.links t.links alike.closed alike.closed_too alike.links a b is ∙ moved (λ u. distance_of u a b)

    pub hops : (a b : DpId) → is_in a ≡ true → hop_of s a b ≡ hop_of t a b
    hops a b is = hop_same s.nodes s.links t.links alike.closed alike.closed_too alike.links a b is ∙ moved (λ u. hop_of u a b)

    pub trees : (d : DpId) (p : ℕ) → is_in d ≡ true → is_tree_port s d p ≡ is_tree_port t d p
    trees d p is = tree_same s.nodes s.links t.links alike.closed alike.closed_too alike.links d p is ∙ moved (λ u. is_tree_port u d p)
