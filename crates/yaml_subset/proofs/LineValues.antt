-- Values that stand on one line, as the grammar has them and as they are read.
use Rattle.std.proofs.Common.{◌≡◌, ◌⊎◌, inl, inr, ℕ, ◌==◌, Bool, true, false, cond, not, ◌||◌, ◌&&◌, List, [], ◌∷◌, drop, Result, Ok, Err, refl, sym, ◌∙◌, ap, subst, arith}
use Rattle.std.proofs.lemmas.Bool.Decides.{nat_tests}
use Rattle.yaml_subset.specs.declared.fault.YamlCause.{YamlCause}
use Rattle.yaml_subset.specs.declared.fault.YamlCause.TheVariants.{Tab, DuplicateKey}
use Rattle.yaml_subset.specs.declared.stack.Frame.{Frame}
use Rattle.yaml_subset.specs.declared.scalars.Scanned.{Scanned}
use Rattle.yaml_subset.specs.declared.blocks.Place.{Place}
use Rattle.yaml_subset.specs.declared.blocks.State.{State}
use Rattle.yaml_tree.specs.declared.tree.Tree.{Tree}
use Rattle.yaml_tree.specs.declared.tree.Key.{Key}
use Rattle.yaml_tree.specs.declared.tree.Pair.{Pair}
use Rattle.yaml_subset.specs.Characters.{begins, at_gap, marks, next_part, line_end}
use Rattle.yaml_subset.specs.Scalars.{scan, key_of, value_at, scalar_from}
use Rattle.yaml_subset.specs.Entries.{has_key}
use Rattle.yaml_subset.specs.Flow.{entry_key, key_fault, opens, flow_value}
use Rattle.yaml_subset.specs.Blocks.{levels_in, line_value, block_value, value_alone, scalar_alone, first_key, key_or_value, content}
use Rattle.yaml_subset.specs.Gives.{◌>>=◌}
use Rattle.yaml_subset.proofs.BlockLaws.{content_value}
use Rattle.yaml_subset.specs.FlowFaults.{IsNewKey}

-- what is read has each of its parts
pub bind_ok : {A B : Type 0} (r : Result A YamlCause) (f : A → Result B YamlCause) (y : B) → (r >>= f) ≡ Ok y → (x : A) × (r ≡ Ok x) × (f x ≡ Ok y)
bind_ok (Ok x) f y h = (x, refl, h)
bind_ok (Err c) f y h = absurd cc

abbrev pub IsRefused : {A : Type 0} → Result A YamlCause → Type 0
IsRefused r = (c : YamlCause) × (r ≡ Err c)

pub never_both : {A : Type 0} (r : Result A YamlCause) (x : A) → IsRefused r → r ≡ Ok x → ⊥
never_both r x w h = let e = w.1 in cc

pub same : (x c : ℕ) → x == c ≡ true → x ≡ c
same x c h = grind (arith, nat_tests)

-- a scalar does not begin as an item does
pub no_dash : (rest : List ℕ) → marks 45 rest ≡ true → IsRefused (scan false rest)
unfolding scan
no_dash [] h = absurd cc
no_dash (x ∷ xs) h = subst (λ (y : ℕ). y == 45 && at_gap xs ≡ true → IsRefused (scan false (y ∷ xs))) (sym (same x 45 (first (x == 45) (at_gap xs) h))) (at_dash xs) h
  where
    first : (a b : Bool) → a && b ≡ true → a ≡ true
    first true b h = refl
    first false b h = h

    at_dash : (cs : List ℕ) → at_gap cs ≡ true → IsRefused (scan false (45 ∷ cs))
    at_dash cs g = rw g (_, refl)

-- nor as a flow list or map does
pub no_bracket : (flow : Bool) (rest : List ℕ) → opens rest ≡ true → IsRefused (scan flow rest)
unfolding scan
no_bracket flow [] h = absurd cc
no_bracket flow (x ∷ xs) h = by_test (x == 91) (x == 123) refl refl h
  where
    by_test : (a b : Bool) → x == 91 ≡ a → x == 123 ≡ b → a || b ≡ true → IsRefused (scan flow (x ∷ xs))
    by_test true b e f h = subst (λ (y : ℕ). IsRefused (scan flow (y ∷ xs))) (sym (same x 91 e)) (_, refl)
    by_test false true e f h = subst (λ (y : ℕ). IsRefused (scan flow (y ∷ xs))) (sym (same x 123 f)) (_, refl)
    by_test false false e f h = absurd cc

-- a key that is read behind some entries
pub key_found : (flow : Bool) (before : List Pair) (rest : List ℕ) (k : Key) (after : List ℕ) → entry_key flow before rest ≡ Ok (k, after) → IsNewKey flow before rest k after
unfolding entry_key
key_found flow before rest k after h = by_mark (marks 58 s.0.1) refl s.2
  where
    entry : Key → List ℕ → Result (Key × List ℕ) YamlCause
    entry j xs = Ok (j, xs)

    both : Key → List ℕ → Key × List ℕ
    both j xs = (j, xs)

    fresh : List ℕ → Key → Bool → Result (Key × List ℕ) YamlCause
    fresh xs j b = cond b (Err DuplicateKey) (entry j (drop 1 xs))

    marked : Scanned → List ℕ → Bool → Result (Key × List ℕ) YamlCause
    marked s xs b = cond b (key_of s >>= λ j. fresh xs j (has_key before j)) (Err (key_fault flow s xs))

    s : (s : Scanned × List ℕ) × (scan flow rest ≡ Ok s) × (marked s.0 s.1 (marks 58 s.1) ≡ Ok (k, after))
    s = bind_ok (scan flow rest) (λ s. marked s.0 s.1 (marks 58 s.1)) (k, after) h

    by_fresh : marks 58 s.0.1 ≡ true → (j : Key) → key_of s.0.0 ≡ Ok j → (b : Bool) → has_key before j ≡ b → fresh s.0.1 j b ≡ entry k after → IsNewKey flow before rest k after
    by_fresh m j e true g q = absurd cc
    by_fresh m j e false g q =
        let pair : both j (drop 1 s.0.1) ≡ both k after = cc in
        let key : j ≡ k = ap (λ x. x.0) pair in
        record { scanned = s.0.0; colon_at = s.0.1; scalar = s.1; colon = m; key = e ∙ ap Ok key; first = ap (has_key before) (sym key) ∙ g; behind = sym (ap (λ x. x.1) pair) }

    by_mark : (b : Bool) → marks 58 s.0.1 ≡ b → marked s.0.0 s.0.1 (marks 58 s.0.1) ≡ entry k after → IsNewKey flow before rest k after
    by_mark true m q =
        let q' : (key_of s.0.0 >>= λ j. fresh s.0.1 j (has_key before j)) ≡ entry k after = rw m at q in
        let d = bind_ok (key_of s.0.0) (λ j. fresh s.0.1 j (has_key before j)) (k, after) q' in
        by_fresh m d.0 d.1 (has_key before d.0) refl d.2
    by_mark false m q =
        let q' : Err (key_fault flow s.0.0 s.0.1) ≡ entry k after = rw m at q in
        absurd cc

-- where a colon follows, the line has not ended
pub no_end : (rest : List ℕ) → begins 58 rest ≡ true → IsRefused (line_end rest)
unfolding line_end next_part
no_end [] h = absurd cc
no_end (x ∷ xs) h = subst (λ (y : ℕ). IsRefused (line_end (y ∷ xs))) (sym (same x 58 h)) (_, refl)

pub false_unless : (b : Bool) → (b ≡ true → ⊥) → b ≡ false
false_unless true h = absurd (h refl)
false_unless false h = refl

-- what a value on one line is, as a flow list or map or as a scalar
pub flow_parts : (n : ℕ) (part : List ℕ) (v : Tree) → opens part ≡ true → block_value n part ≡ Ok v → (flow_value n part >>= line_value) ≡ Ok v
unfolding block_value
flow_parts n part v o h = rw o at h

pub record IsScalar (part : List ℕ) (v : Tree) : Type 0 where
  pub scanned : Scanned
  pub after : List ℕ
  pub scan : scan false part ≡ Ok (scanned, after)
  pub value : value_at scanned after ≡ Ok v
  pub end : line_end after ≡ Ok tt

pub line_value_ok : (w v : Tree) (after : List ℕ) → line_value (w, after) ≡ Ok v → (w ≡ v) × (line_end after ≡ Ok tt)
line_value_ok w v after h =
    let e = bind_ok (line_end after) (λ _. Ok w) v h in
    let ok : Ok w ≡ Ok v = e.2 in
    (cc, e.1)

pub scalar_parts : (n : ℕ) (part : List ℕ) (v : Tree) → opens part ≡ false → block_value n part ≡ Ok v → IsScalar part v
unfolding block_value scalar_from
scalar_parts n part v o h =
    let h1 : (scalar_from false part >>= line_value) ≡ Ok v = rw o at h in
    let e1 = bind_ok (scalar_from false part) line_value v h1 in
    let e2 = bind_ok (scan false part) (λ s. value_at s.0 s.1 >>= λ v. Ok (v, s.1)) e1.0 e1.1 in
    let e3 = bind_ok (value_at e2.0.0 e2.0.1) (λ v. Ok (v, e2.0.1)) e1.0 e2.2 in
    let e4 : e1.0 ≡ (e3.0, e2.0.1) = cc in
    let e5 = line_value_ok e3.0 v e2.0.1 (subst (λ x. line_value x ≡ Ok v) e4 e1.2) in
    record { scanned = e2.0.0; after = e2.0.1; scan = e2.1; value = e3.1 ∙ ap Ok e5.0; end = e5.1 }

pub scalar_value_on_line : (n : ℕ) (part : List ℕ) (v : Tree) → opens part ≡ false → IsScalar part v → block_value n part ≡ Ok v
unfolding block_value scalar_from
scalar_value_on_line n part v o s = rw (o, s.scan, s.value, s.end) refl

pub no_mark_at_end : (after : List ℕ) → line_end after ≡ Ok tt → begins 58 after ≡ false
no_mark_at_end after h = false_unless (begins 58 after) (λ b. never_both (line_end after) tt (no_end after b) h)

pub marks_begins : (c : ℕ) (xs : List ℕ) → begins c xs ≡ false → marks c xs ≡ false
marks_begins c [] h = refl
marks_begins c (x ∷ xs) h = rw h refl

pub value_no_dash : (n : ℕ) (part : List ℕ) (v : Tree) → block_value n part ≡ Ok v → marks 45 part ≡ false
value_no_dash n part v h = by_opens (opens part) refl
  where
    open_no_dash : (xs : List ℕ) → opens xs ≡ true → marks 45 xs ≡ true → ⊥
    open_no_dash [] o m = cc
    open_no_dash (x ∷ xs) o m = grind (arith, nat_tests)

    by_opens : (b : Bool) → opens part ≡ b → marks 45 part ≡ false
    by_opens true o = false_unless (marks 45 part) (λ m. open_no_dash part o m)
    by_opens false o = let s = scalar_parts n part v o h in false_unless (marks 45 part) (λ m. never_both (scan false part) (s.scanned, s.after) (no_dash part m) s.scan)

and_false : (p x y : Bool) → x ≡ false → not p && (x && y) ≡ false
and_false true x y h = refl
and_false false x y h = rw h refl

pub alone_read : (scanned : Scanned) (after : List ℕ) (v : Tree) → value_at scanned after ≡ Ok v → line_end after ≡ Ok tt → begins 58 after ≡ false
    → scalar_alone scanned after ≡ Ok v
unfolding scalar_alone
alone_read scanned after v value end b = rw (and_false scanned.plain (begins 58 after) (begins 9 (drop 1 after)) b, value, end) refl

-- a value on one line is read as such, wherever one may stand
pub value_read : (n : ℕ) (place : Place) (frames : List Frame) (column : ℕ) (part : List ℕ) (v : Tree) → levels_in frames ≡ n → block_value n part ≡ Ok v
    → content n place frames column part ≡ value_alone place frames column v
unfolding key_or_value
value_read n place frames column part v e h = content_value n place frames column part (value_no_dash n part v h) ∙ by_opens (opens part) refl
  where
    by_opens : (b : Bool) → opens part ≡ b → key_or_value place frames column part ≡ value_alone place frames column v
    by_opens true o =
        let f = bind_ok (flow_value n part) line_value v (flow_parts n part v o h) in
        let f1 : flow_value (levels_in frames) part ≡ Ok f.0 = rw e f.1 in
        rw (o, f1, f.2) refl
    by_opens false o =
        let s = scalar_parts n part v o h in
        let b = no_mark_at_end s.after s.end in
        rw (o, s.scan, marks_begins 58 s.after b, alone_read s.scanned s.after v s.value s.end b) refl

-- a first key, and what follows it
pub record IsKey (frames : List Frame) (column : ℕ) (part : List ℕ) (next : State → Result State YamlCause) (end : State) : Type 0 where
  pub scanned : Scanned
  pub after : List ℕ
  pub scan : scan false part ≡ Ok (scanned, after)
  pub colon : marks 58 after ≡ true
  pub runs : (first_key frames column scanned after >>= next) ≡ Ok end

-- a value, and what follows it
pub record IsValue (n : ℕ) (place : Place) (frames : List Frame) (column : ℕ) (part : List ℕ) (next : State → Result State YamlCause) (end : State) : Type 0 where
  pub value : Tree
  pub is : block_value n part ≡ Ok value
  pub runs : (value_alone place frames column value >>= next) ≡ Ok end

pub alone_parts : (scanned : Scanned) (after : List ℕ) (v : Tree) → scalar_alone scanned after ≡ Ok v → (value_at scanned after ≡ Ok v) × (line_end after ≡ Ok tt)
unfolding scalar_alone
alone_parts scanned after v h = by_test (not scanned.plain && (begins 58 after && begins 9 (drop 1 after))) h
  where
    by_test : (b : Bool) → cond b (Err Tab) (value_at scanned after >>= λ w. line_value (w, after)) ≡ Ok v → (value_at scanned after ≡ Ok v) × (line_end after ≡ Ok tt)
    by_test true e = absurd cc
    by_test false e =
        let b = bind_ok (value_at scanned after) (λ w. line_value (w, after)) v e in
        let l = line_value_ok b.0 v after b.2 in
        (b.1 ∙ ap Ok l.0, l.1)

-- what is no item is a value on one line, or a map's first key
pub value_split : (n : ℕ) (place : Place) (frames : List Frame) (column : ℕ) (part : List ℕ) (next : State → Result State YamlCause) (end : State)
    → levels_in frames ≡ n → (key_or_value place frames column part >>= next) ≡ Ok end
    → IsValue n place frames column part next end ⊎ IsKey frames column part next end
unfolding key_or_value block_value
value_split n place frames column part next end e h = by_opens (opens part) refl h
  where
    alone : Tree → Result State YamlCause
    alone v = value_alone place frames column v

    flow : Result State YamlCause
    flow = flow_value (levels_in frames) part >>= λ read. line_value read >>= λ v. value_alone place frames column v

    by_mark : Scanned → List ℕ → Bool → Result State YamlCause
    by_mark s after b = cond b (first_key frames column s after) (scalar_alone s after >>= λ v. value_alone place frames column v)

    scalar : Result State YamlCause
    scalar = scan false part >>= λ s. by_mark s.0 s.1 (marks 58 s.1)

    of_mark : (o : opens part ≡ false) (s : Scanned) (after : List ℕ) → scan false part ≡ Ok (s, after) → (b : Bool) → marks 58 after ≡ b → (by_mark s after b >>= next) ≡ Ok end
        → IsValue n place frames column part next end ⊎ IsKey frames column part next end
    of_mark o s after k true m g = inr (record { scanned = s; after = after; scan = k; colon = m; runs = g })
    of_mark o s after k false m g =
        let b = bind_ok (scalar_alone s after >>= λ v. value_alone place frames column v) next end g in
        let a = bind_ok (scalar_alone s after) (λ v. value_alone place frames column v) b.0 b.1 in
        let p = alone_parts s after a.0 a.1 in
        inl (record {
          value = a.0;
          is = scalar_value_on_line n part a.0 o (record { scanned = s; after = after; scan = k; value = p.0; end = p.1 });
          runs = rw a.2 b.2;
        })

    by_opens : (b : Bool) → opens part ≡ b → (cond b flow scalar >>= next) ≡ Ok end → IsValue n place frames column part next end ⊎ IsKey frames column part next end
    by_opens true o g =
        let b = bind_ok flow next end g in
        let f = bind_ok (flow_value (levels_in frames) part) (λ read. line_value read >>= λ v. value_alone place frames column v) b.0 b.1 in
        let l = bind_ok (line_value f.0) (λ v. value_alone place frames column v) b.0 f.2 in
        let f1 : flow_value n part ≡ Ok f.0 = ap (λ k. flow_value k part) (sym e) ∙ f.1 in
        inl (record { value = l.0; is = rw (o, f1) l.1; runs = rw l.2 b.2 })
    by_opens false o g =
        let b = bind_ok scalar next end g in
        let s = bind_ok (scan false part) (λ s. by_mark s.0 s.1 (marks 58 s.1)) b.0 b.1 in
        of_mark o s.0.0 s.0.1 s.1 (marks 58 s.0.1) refl (rw s.2 b.2)
