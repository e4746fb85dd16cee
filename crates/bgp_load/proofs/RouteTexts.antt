-- How long a route is printed as an item of the list `routes`.
use Rattle.std.proofs.Common.{◌≡◌, ◌≤◌, ◌<◌, ◌+◌, ◌*◌, ◌/◌, ◌%◌, ◌^◌, ◌==◌, nat_lt, ℕ, suc, Bool, true, false, List, [], ◌∷◌, ◌++◌, length, refl, sym, ap, ◌∙◌, arith, length-append, zero-add, ne_eqb, ltb-true}
use Rattle.std.specs.Prelude.{codes, if◌then◌else◌}
use Rattle.std.specs.Char.{is_ascii_control, digit_char}
use Rattle.std.proofs.lemmas.Bool.Decides.{nat_tests}
use Rattle.net_base.specs.Address.{decimal, ip4_text, net4_text}
use Rattle.yaml_tree.specs.declared.tree.Tree.TheVariants as trees
use Rattle.yaml_subset.specs.Printed.{escaped, all_escaped, stays_plain, text_scalar}
use Rattle.bgp_routes.specs.declared.routes.BgpRoute.{BgpRoute}
use Rattle.bgp_texts.specs.Items.{entry, route_entries, route_item, route_items}
use Rattle.bgp_load.proofs.Lengths.{entries_len, items_len, behind_len, deeper, entry_len, behind_map, behind_text, item_first, entry_first}

-- ---- characters between double quotes

abbrev pub escaped_len : List ℕ → ℕ
escaped_len text = length (all_escaped text)

record Few (text : List ℕ) : Type 0 where
  pub least : 1 ≤ length text
  pub most : length text ≤ 6

few : (text : List ℕ) (n : ℕ) → length text ≡ n → 1 ≤ n → n ≤ 6 → Few text
few text n is least most = record { least = omega (arith, is, least); most = omega (arith, is, most) }

by_tests : (b : ℕ) (t1 t2 t3 t4 t5 t6 : Bool)
    → Few (if t1 then codes "\\\\" else if t2 then codes "\\\"" else if t3 then codes "\\n" else if t4 then codes "\\t" else if t5 then codes "\\r"
    else if t6 then codes "\\u00" ++ digit_char (b / 16) ∷ digit_char (b % 16) ∷ [] else b ∷ [])
by_tests b true t2 t3 t4 t5 t6 = few _ 2 refl (omega arith) (omega arith)
by_tests b false true t3 t4 t5 t6 = few _ 2 refl (omega arith) (omega arith)
by_tests b false false true t4 t5 t6 = few _ 2 refl (omega arith) (omega arith)
by_tests b false false false true t5 t6 = few _ 2 refl (omega arith) (omega arith)
by_tests b false false false false true t6 = few _ 2 refl (omega arith) (omega arith)
by_tests b false false false false false true = few _ 6 refl (omega arith) (omega arith)
by_tests b false false false false false false = few _ 1 refl (omega arith) (omega arith)

escaped_few : (b : ℕ) → Few (escaped b)
escaped_few b = by_tests b (b == 92) (b == 34) (b == 10) (b == 9) (b == 13) (is_ascii_control b)

digit_is : (d : ℕ) → d < 10 → escaped (48 + d) ≡ (48 + d) ∷ []
digit_is d h = rw (
  ne_eqb (48 + d) 92 (λ p. absurd (omega arith)),
  ne_eqb (48 + d) 34 (λ p. absurd (omega arith)),
  ne_eqb (48 + d) 10 (λ p. absurd (omega arith)),
  ne_eqb (48 + d) 9 (λ p. absurd (omega arith)),
  ne_eqb (48 + d) 13 (λ p. absurd (omega arith)),
  no_control d h,
) refl
  where
    no_control : (d : ℕ) → d < 10 → is_ascii_control (48 + d) ≡ false
    no_control d h = grind (arith, nat_tests)

escaped_cons : (b : ℕ) (bs : List ℕ) → escaped_len (b ∷ bs) ≡ length (escaped b) + escaped_len bs
escaped_cons b bs = length-append (escaped b) (all_escaped bs)

escaped_joined : (xs ys : List ℕ) → escaped_len (xs ++ ys) ≡ escaped_len xs + escaped_len ys
escaped_joined [] ys = sym (zero-add (escaped_len ys))
escaped_joined (x ∷ xs) ys =
    let whole : escaped_len ((x ∷ xs) ++ ys) ≡ length (escaped x) + escaped_len (xs ++ ys) = escaped_cons x (xs ++ ys) in
    let front : escaped_len (x ∷ xs) ≡ length (escaped x) + escaped_len xs = escaped_cons x xs in
    moved (length (escaped x)) (escaped_len xs) (escaped_len ys) (escaped_len (xs ++ ys)) (escaped_len (x ∷ xs)) (escaped_len ((x ∷ xs) ++ ys)) (escaped_joined xs ys) front whole
  where
    moved : (a b c d e f : ℕ) → d ≡ b + c → e ≡ a + b → f ≡ a + d → f ≡ e + c
    moved a b c d e f h i j = omega arith

no_longer : (text : List ℕ) → length text ≤ escaped_len text
no_longer [] = zero_least
  where
    zero_least : 0 ≤ 0
    zero_least = omega arith
no_longer (b ∷ bs) = grown (length (escaped b)) (length bs) (escaped_len bs) (escaped_len (b ∷ bs)) (escaped_cons b bs) (escaped_few b).least (no_longer bs)
  where
    grown : (a m n k : ℕ) → k ≡ a + n → 1 ≤ a → m ≤ n → suc m ≤ k
    grown a m n k e h i = omega arith

text_most : (text : List ℕ) (n : ℕ) → escaped_len text ≤ n → length (text_scalar text) ≤ n + 2
unfolding text_scalar
text_most text n h = by (stays_plain text)
  where
    plain : (m k : ℕ) → m ≤ k → k ≤ n → m ≤ n + 2
    plain m k a b = omega arith

    quoted : (k m : ℕ) → k ≤ n → m ≡ k + 1 → suc m ≤ n + 2
    quoted k m a e = omega arith

    by : (b : Bool) → length (if b then text else 34 ∷ (all_escaped text ++ 34 ∷ [])) ≤ n + 2
    by true = plain (length text) (escaped_len text) (no_longer text) h
    by false = quoted (escaped_len text) (length (all_escaped text ++ 34 ∷ [])) h (length-append (all_escaped text) (34 ∷ []))

-- ---- addresses

any_one : (b : ℕ) → escaped_len (b ∷ []) ≤ 6
any_one b = sum (length (escaped b)) (escaped_len (b ∷ [])) (escaped_cons b []) (escaped_few b).most
  where
    sum : (a n : ℕ) → n ≡ a + 0 → a ≤ 6 → n ≤ 6
    sum a n e h = omega arith

digit_one : (d : ℕ) (bs : List ℕ) → d < 10 → escaped_len ((48 + d) ∷ bs) ≡ 1 + escaped_len bs
digit_one d bs h = escaped_cons (48 + d) bs ∙ ap (λ (text : List ℕ). length text + escaped_len bs) (digit_is d h)

three_digits : (n : ℕ) → n < 1000 → escaped_len (decimal n) ≤ 3
three_digits n short = by (nat_lt n 10) (nat_lt n 100) refl refl
  where
    by : (b c : Bool) → nat_lt n 10 ≡ b → nat_lt n 100 ≡ c
        → escaped_len (if b then (48 + n) ∷ [] else if c then (48 + n / 10) ∷ (48 + n % 10) ∷ [] else (48 + n / 100) ∷ (48 + n / 10 % 10) ∷ (48 + n % 10) ∷ []) ≤ 3
    by true c e f = let below = ltb-true n 10 e in omega (arith, digit_one n [] below)
    by false true e f =
        let below = ltb-true n 100 f in
        omega (arith, digit_one (n / 10) ((48 + n % 10) ∷ []) (omega arith), digit_one (n % 10) [] (omega arith))
    by false false e f =
        omega (arith, digit_one (n / 100) ((48 + n / 10 % 10) ∷ (48 + n % 10) ∷ []) (omega arith), digit_one (n / 10 % 10) ((48 + n % 10) ∷ []) (omega arith), digit_one (n % 10) [] (omega arith))

any_number : (n : ℕ) → escaped_len (decimal n) ≤ 18
any_number n = by (nat_lt n 10) (nat_lt n 100)
  where
    more : (a b k : ℕ) (x : ℕ) → x ≡ a + b → a ≤ 6 → b ≤ k → x ≤ 6 + k
    more a b k x e h i = omega arith

    cons : (b : ℕ) (bs : List ℕ) (k : ℕ) → escaped_len bs ≤ k → escaped_len (b ∷ bs) ≤ 6 + k
    cons b bs k h = more (length (escaped b)) (escaped_len bs) k (escaped_len (b ∷ bs)) (escaped_cons b bs) (escaped_few b).most h

    wider : (a m : ℕ) → a ≤ m → m ≤ 18 → a ≤ 18
    wider a m h i = omega arith

    by : (b c : Bool) → escaped_len (if b then (48 + n) ∷ [] else if c then (48 + n / 10) ∷ (48 + n % 10) ∷ [] else (48 + n / 100) ∷ (48 + n / 10 % 10) ∷ (48 + n % 10) ∷ []) ≤ 18
    by true c = wider _ 6 (any_one (48 + n)) (omega arith)
    by false true = wider _ 12 (cons (48 + n / 10) ((48 + n % 10) ∷ []) 6 (any_one (48 + n % 10))) (omega arith)
    by false false = cons (48 + n / 100) ((48 + n / 10 % 10) ∷ (48 + n % 10) ∷ []) 12 (cons (48 + n / 10 % 10) ((48 + n % 10) ∷ []) 6 (any_one (48 + n % 10)))

-- a part, a dot or a slash, and what stands behind
parted : (part behind : List ℕ) (mark m n : ℕ) → length (escaped mark) ≡ 1 → escaped_len part ≤ m → escaped_len behind ≤ n → escaped_len (part ++ mark ∷ behind) ≤ m + (1 + n)
parted part behind mark m n one h i =
    sum (escaped_len part) (length (escaped mark)) (escaped_len behind) (escaped_len (mark ∷ behind)) (escaped_len (part ++ mark ∷ behind)) (escaped_joined part (mark ∷ behind)) (escaped_cons mark behind) one h i
  where
    sum : (a b c d e : ℕ) → e ≡ a + d → d ≡ b + c → b ≡ 1 → a ≤ m → c ≤ n → e ≤ m + (1 + n)
    sum a b c d e f g k l o = omega arith

ip4_most : (ip : ℕ) → escaped_len (ip4_text ip) ≤ 30
ip4_most ip =
    parted (decimal (ip / 2 ^ 24)) _ 46 18 11 refl (any_number (ip / 2 ^ 24))
    (parted (decimal (ip / 2 ^ 16 % 256)) _ 46 3 7 refl (byte (ip / 2 ^ 16))
    (parted (decimal (ip / 2 ^ 8 % 256)) _ 46 3 3 refl (byte (ip / 2 ^ 8)) (byte ip)))
  where
    byte : (n : ℕ) → escaped_len (decimal (n % 256)) ≤ 3
    byte n = three_digits (n % 256) (omega arith)

net4_most : (ip len : ℕ) → len ≤ 32 → escaped_len (net4_text ip len) ≤ 34
net4_most ip len short = parted (ip4_text ip) (decimal len) 47 30 3 refl (ip4_most ip) (three_digits len (omega arith))

-- ---- a route

key_lens : (length (text_scalar (codes "route")) ≡ 5) × (length (text_scalar (codes "ip_dst")) ≡ 6) × (length (text_scalar (codes "ip_gw")) ≡ 5)
unfolding text_scalar
key_lens = (refl, refl, refl)

abbrev pub at_routes : List ℕ
at_routes = deeper (deeper (deeper []))

scalar_most : (indent text : List ℕ) (n : ℕ) → escaped_len text ≤ n → behind_len indent (trees.Text text) ≤ n + 4
scalar_most indent text n h = sum (length (text_scalar text)) (behind_len indent (trees.Text text)) (behind_text indent text) (text_most text n h)
  where
    sum : (a b : ℕ) → b ≡ suc (a + 1) → a ≤ n + 2 → b ≤ n + 4
    sum a b e i = omega arith

entries_most : (r : BgpRoute) → entries_len (deeper (deeper at_routes)) (route_entries r) ≤ 106
entries_most r =
    let indent = deeper (deeper at_routes) in
    let dst = entry (codes "ip_dst") (trees.Text (net4_text r.dst.ip.0 r.dst.len)) in
    let gw = entry (codes "ip_gw") (trees.Text (ip4_text r.gw.0)) in
    sum (entries_len indent (route_entries r)) (entry_len indent dst) (entry_len indent gw) (entries_len indent (gw ∷ []))
    (behind_len indent dst.value) (behind_len indent gw.value) (length (text_scalar (codes "ip_dst"))) (length (text_scalar (codes "ip_gw")))
    (entry_first indent dst (gw ∷ [])) (entry_first indent gw []) refl refl key_lens.1 key_lens.2
    (scalar_most indent (net4_text r.dst.ip.0 r.dst.len) 34 (net4_most r.dst.ip.0 r.dst.len r.dst.short)) (scalar_most indent (ip4_text r.gw.0) 30 (ip4_most r.gw.0))
  where
    sum : (all dst gw rest a b k l : ℕ) → all ≡ dst + rest → rest ≡ gw + 0 → dst ≡ 10 + (k + suc a) → gw ≡ 10 + (l + suc b) → k ≡ 6 → l ≡ 5 → a ≤ 38 → b ≤ 34 → all ≤ 106
    sum all dst gw rest a b k l e f g h i j m n = omega arith

item_most : (r : BgpRoute) → behind_len at_routes (route_item r) ≤ 128
item_most r =
    let inner = trees.Map (route_entries r) in
    let outer = entry (codes "route") inner in
    sum (behind_len at_routes (route_item r)) (entries_len (deeper at_routes) (outer ∷ [])) (entry_len (deeper at_routes) outer) (behind_len (deeper at_routes) inner) (length (text_scalar (codes "route")))
    (entries_len (deeper (deeper at_routes)) (route_entries r))
    (behind_map at_routes (outer ∷ [])) (entry_first (deeper at_routes) outer []) refl key_lens.0 (behind_map (deeper at_routes) (route_entries r)) (entries_most r)
  where
    sum : (all entries one below k inside : ℕ) → all ≤ 4 + entries → entries ≡ one + 0 → one ≡ 8 + (k + suc below) → k ≡ 5 → below ≤ 4 + inside → inside ≤ 106 → all ≤ 128
    sum all entries one below k inside e f g h i j = omega arith

pub items_most : (routes : List BgpRoute) → items_len at_routes (route_items routes) ≤ 135 * length routes
items_most [] = least
  where
    least : 0 ≤ 135 * 0
    least = omega arith
items_most (r ∷ routes) =
    sum (items_len at_routes (route_items (r ∷ routes))) (behind_len at_routes (route_item r)) (items_len at_routes (route_items routes)) (length routes)
    (item_first at_routes (route_item r) (route_items routes)) (item_most r) (items_most routes)
  where
    sum : (all one rest n : ℕ) → all ≡ (6 + suc one) + rest → one ≤ 128 → rest ≤ 135 * n → all ≤ 135 * suc n
    sum all one rest n e h i = omega arith
