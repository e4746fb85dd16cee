-- Reading tells the first fault of a key, of a flow list or map, and of a value on one line.
use Rattle.std.proofs.Common.{◌≡◌, ◌⊎◌, inl, inr, ℕ, ◌+◌, ◌-◌, ◌==◌, Bool, true, false, cond, not, ◌||◌, ◌&&◌, List, [], ◌∷◌, length, drop, Result, Ok, Err, refl, sym, ap, subst, arith}
use Rattle.std.specs.List.{list_all}
use Rattle.yaml_subset.specs.declared.fault.YamlForm.TheVariants.{LongFlow, Wide}
use Rattle.yaml_subset.specs.declared.fault.YamlCause.{YamlCause}
use Rattle.yaml_subset.specs.declared.fault.YamlCause.TheVariants.{Tab, LeftOut, DuplicateKey, Syntax}
use Rattle.yaml_subset.specs.declared.scalars.Scanned.{Scanned}
use Rattle.yaml_tree.specs.declared.tree.Tree.{Tree}
use Rattle.yaml_tree.specs.declared.tree.Key.{Key}
use Rattle.yaml_tree.specs.declared.tree.Pair.{Pair}
use Rattle.yaml_subset.specs.Characters.{is_empty, begins, skip, is_kept, marks, next_part}
use Rattle.yaml_subset.specs.Scalars.{is_wide, scan, key_of}
use Rattle.yaml_subset.specs.Entries.{has_key}
use Rattle.yaml_subset.specs.Flow.{at_opening, behind_item, parted, colon_fault, key_fault, entry_key, line_ends, colon_and_tab}
use Rattle.yaml_subset.specs.Gives.{◌>>=◌}
use Rattle.yaml_subset.specs.FirstFault.{cause_number, Tells}
use Rattle.yaml_subset.specs.ScalarFaults.{NextFault, ScanFault}
use Rattle.yaml_subset.specs.FlowFaults.{InPart, BehindValue, ColonFault, colon_past_end, tab_for_colon, tab_behind_colon, no_colon, NoNewKey, no_key, key_again, KeyFault, in_key, wide_alone, behind_key, at_key, IsNewKey, SeparatorFault, separator_open, tab_for_separator, no_separator, StartFault, start_open, in_start, PartedFault}
use Rattle.yaml_subset.proofs.ScalarFaults.{next_tells, scan_tells}
use Rattle.yaml_subset.proofs.FirstFaults.{tells_map, and_parts}
use Rattle.yaml_subset.proofs.FaultsBehind.{tells_as, tells_then, tells_shift, tells_one, Later, first_same}
use Rattle.yaml_subset.proofs.LineValues.{same}

-- a part behind spaces
pub tells_part : {Y : Type 0} (fresh : Bool) (rest : List ℕ) (In : List ℕ → ℕ → YamlCause → Type 0) (f : List ℕ → Result Y YamlCause)
    → ((part : List ℕ) → next_part fresh rest ≡ Ok part → Tells (In part) (f part)) → Tells (InPart fresh rest In) (next_part fresh rest >>= f)
tells_part fresh rest In f next =
    let shift : List ℕ → ℕ = λ part. length rest - length part in
    tells_as (λ at c. NextFault fresh rest at c ⊎ Later (next_part fresh rest) shift In at c) (InPart fresh rest In) (next_part fresh rest >>= f)
    (λ at c w. elim w [ inl h ↦ inl h | inr l ↦ inr (record { part = l.0; is = l.1; inside = l.2; place = l.3; fault = l.4 }) ])
    (λ at c w. elim w [ inl h ↦ inl h | inr b ↦ inr (b.part, b.is, b.inside, b.place, b.fault) ])
    (tells_then (NextFault fresh rest) (next_part fresh rest) shift In f (next_tells fresh rest) next)

-- what follows a value
pub tells_value : {V Y : Type 0} (Value : List ℕ → V → List ℕ → Type 0) (Wrong : ℕ → YamlCause → Type 0) (rest : List ℕ) (r : Result (V × List ℕ) YamlCause) (In : V → List ℕ → ℕ → YamlCause → Type 0) (f : V × List ℕ → Result Y YamlCause)
    → ((v : V) (after : List ℕ) → Value rest v after → r ≡ Ok (v, after)) → ((v : V) (after : List ℕ) → r ≡ Ok (v, after) → Value rest v after)
    → Tells Wrong r → ((v : V) (after : List ℕ) → r ≡ Ok (v, after) → Tells (In v after) (f (v, after)))
    → Tells (λ at c. Wrong at c ⊎ BehindValue Value rest In at c) (r >>= f)
tells_value {V = V} Value Wrong rest r In f reads found here next =
    let shift : V × List ℕ → ℕ = λ x. length rest - length x.1 in
    let Then : V × List ℕ → ℕ → YamlCause → Type 0 = λ x. In x.0 x.1 in
    tells_as (λ at c. Wrong at c ⊎ Later r shift Then at c) (λ at c. Wrong at c ⊎ BehindValue Value rest In at c) (r >>= f)
    (λ at c w. elim w [ inl h ↦ inl h | inr l ↦ inr (record { value = l.0.0; after = l.0.1; is = found l.0.0 l.0.1 l.1; inside = l.2; place = l.3; fault = l.4 }) ])
    (λ at c w. elim w [ inl h ↦ inl h | inr b ↦ inr ((b.value, b.after), reads b.value b.after b.is, b.inside, b.place, b.fault) ])
    (tells_then Wrong r shift Then f here (λ x e. next x.0 x.1 e))

-- ---- keys

pub clash : (b : Bool) → b ≡ true → b ≡ false → ⊥
clash b t f = cc

key_err : (r : Result Key YamlCause) (c d : YamlCause) → r ≡ Err c → r ≡ Err d → d ≡ c
key_err r c d p q = cc

key_both : (r : Result Key YamlCause) (c : YamlCause) (k : Key) → r ≡ Err c → r ≡ Ok k → ⊥
key_both r c k p q = cc

key_one : (r : Result Key YamlCause) (k l : Key) → r ≡ Ok k → r ≡ Ok l → l ≡ k
key_one r k l p q = cc

pub no_true : false ≡ true → ⊥
no_true e = cc

ends_no_tab : (s : Scanned) (after : List ℕ) → line_ends s after ≡ true → s.plain ≡ false → begins 9 after ≡ true → ⊥
ends_no_tab s [] l p t = no_true t
ends_no_tab s (x ∷ xs) l p t = let h : false && (begins 35 (skip (x ∷ xs)) && list_all is_kept (skip (x ∷ xs))) ≡ true = rw p at l in no_true h

ends_no_colon : (s : Scanned) (after : List ℕ) → line_ends s after ≡ true → colon_and_tab s after ≡ true → ⊥
ends_no_colon s after l t = by_plain s.plain after refl l t
  where
    by_plain : (p : Bool) (xs : List ℕ) → s.plain ≡ p → is_empty xs || p && (begins 35 (skip xs) && list_all is_kept (skip xs)) ≡ true → not p && (begins 58 xs && begins 9 (drop 1 xs)) ≡ true → ⊥
    by_plain true xs e l t = no_true t
    by_plain false [] e l t = no_true t
    by_plain false (x ∷ xs) e l t = no_true l

not_tab : (p t : Bool) → p ≡ false → t ≡ true → not p && t ≡ true
not_tab p t e f = rw (e, f) refl

quoted_tab : (p t : Bool) → not p && t ≡ true → (p ≡ false) × (t ≡ true)
quoted_tab true t h = absurd (no_true h)
quoted_tab false t h = (refl, h)

-- what follows where a colon has to stand
pub colon_tells : (X : Type 0) (flow : Bool) (s : Scanned) (after : List ℕ) → Tells {X = X} (ColonFault flow s after) (Err (colon_fault flow s after))
colon_tells X flow s after = by_tests (flow && line_ends s after) (not s.plain && begins 9 after) (colon_and_tab s after) refl refl refl
  where
    by_tests : (l t k : Bool) → flow && line_ends s after ≡ l → not s.plain && begins 9 after ≡ t → colon_and_tab s after ≡ k
        → Tells {X = X} (ColonFault flow s after) (Err (cond l (LeftOut LongFlow) (cond (t || k) Tab Syntax)))
    by_tests true t k el et ek = (
      length after,
      record {
        there = let w = and_parts flow (line_ends s after) el in colon_past_end w.0 w.1 refl refl;
        least = λ at c w. elim w [
          | colon_past_end f l p d ↦ first_same (length after) at (LeftOut LongFlow) c p d
          | tab_for_colon q b p d ↦ absurd (ends_no_tab s after (and_parts flow (line_ends s after) el).1 q b)
          | tab_behind_colon g p d ↦ absurd (ends_no_colon s after (and_parts flow (line_ends s after) el).1 g)
          | no_colon l g p d ↦ absurd (clash (flow && line_ends s after) el l)
        ];
      },
    )
    by_tests false true k el et ek = (
      0,
      record {
        there = let w = quoted_tab s.plain (begins 9 after) et in tab_for_colon w.0 w.1 refl refl;
        least = λ at c w. elim w [
          | colon_past_end f l p d ↦ absurd (clash (flow && line_ends s after) (rw (f, l) refl) el)
          | tab_for_colon q b p d ↦ first_same 0 at Tab c p d
          | tab_behind_colon g p d ↦ inl (omega (arith, p))
          | no_colon l g p d ↦ inr (sym p, let n : cause_number c ≡ 18 = ap cause_number d in omega (arith, n))
        ];
      },
    )
    by_tests false false true el et ek = (
      1,
      record {
        there = tab_behind_colon ek refl refl;
        least = λ at c w. elim w [
          | colon_past_end f l p d ↦ absurd (clash (flow && line_ends s after) (rw (f, l) refl) el)
          | tab_for_colon q b p d ↦ absurd (clash (not s.plain && begins 9 after) (not_tab s.plain (begins 9 after) q b) et)
          | tab_behind_colon g p d ↦ first_same 1 at Tab c p d
          | no_colon l g p d ↦ absurd (clash (colon_and_tab s after) ek g)
        ];
      },
    )
    by_tests false false false el et ek = (
      0,
      record {
        there = no_colon el ek refl refl;
        least = λ at c w. elim w [
          | colon_past_end f l p d ↦ absurd (clash (flow && line_ends s after) (rw (f, l) refl) el)
          | tab_for_colon q b p d ↦ absurd (clash (not s.plain && begins 9 after) (not_tab s.plain (begins 9 after) q b) et)
          | tab_behind_colon g p d ↦ absurd (clash (colon_and_tab s after) g ek)
          | no_colon l g p d ↦ first_same 0 at Syntax c p d
        ];
      },
    )

abbrev AtKey : List Pair → Scanned → ℕ → YamlCause → Type 0
AtKey before s at c = (at ≡ 0) × NoNewKey before s c

pub new_key_tells : {X : Type 0} (before : List Pair) (s : Scanned) (f : Key → X) → Tells (AtKey before s) (key_of s >>= λ k. cond (has_key before k) (Err DuplicateKey) (Ok (f k)))
new_key_tells {X = X} before s f = by_key (key_of s) refl
  where
    by_test : (k : Key) → key_of s ≡ Ok k → (b : Bool) → has_key before k ≡ b → Tells {X = X} (AtKey before s) (cond b (Err DuplicateKey) (Ok (f k)))
    by_test k q true h = (
      0,
      record {
        there = (refl, key_again k q h refl);
        least = λ at c w. elim w.1 [
          | no_key p ↦ absurd (key_both (key_of s) c k p q)
          | key_again l p g d ↦ first_same 0 at DuplicateKey c w.0 d
        ];
      },
    )
    by_test k q false h = λ at c w. elim w.1 [
      | no_key p ↦ key_both (key_of s) c k p q
      | key_again l p g d ↦ clash (has_key before k) (subst (λ m. has_key before m ≡ true) (key_one (key_of s) k l q p) g) h
    ]

    by_key : (r : Result Key YamlCause) → key_of s ≡ r → Tells (AtKey before s) (r >>= λ k. cond (has_key before k) (Err DuplicateKey) (Ok (f k)))
    by_key (Err e) q = (
      0,
      record {
        there = (refl, no_key q);
        least = λ at c w. elim w.1 [
          | no_key p ↦ first_same 0 at e c w.0 (key_err (key_of s) e c q p)
          | key_again l p g d ↦ absurd (key_both (key_of s) e l q p)
        ];
      },
    )
    by_key (Ok k) q = by_test k q (has_key before k) refl

-- a key, with its colon, behind these entries
pub key_tells : (flow : Bool) (before : List Pair) (rest : List ℕ) → Tells (KeyFault flow before rest) (entry_key flow before rest)
unfolding entry_key
key_tells flow before rest =
    tells_as (λ at c. ScanFault flow rest at c ⊎ Later (scan flow rest) none Then at c) (KeyFault flow before rest) (entry_key flow before rest)
    (λ at c w. elim w [ inl h ↦ in_key h | inr l ↦ to at c l.0 l.1 l.2 l.3 l.4 ])
    (λ at c w. elim w [
      | in_key h ↦ inl h
      | wide_alone s after e m g p d ↦ inr ((s, after), e, at, omega arith, inl (m, inl (g, p, d)))
      | behind_key b ↦ inr ((b.value, b.after), b.is, at, omega arith, inl (b.fault.0, inr (b.fault.1, (b.inside, b.place, b.fault.2))))
      | at_key s after e m p n ↦ inr ((s, after), e, at, omega arith, inr (m, (p, n)))
    ])
    (tells_then (ScanFault flow rest) (scan flow rest) none Then (λ s. cond (marks 58 s.1) (key_of s.0 >>= λ k. cond (has_key before k) (Err DuplicateKey) (Ok (k, drop 1 s.1))) (Err (key_fault flow s.0 s.1))) (scan_tells flow rest) (λ s e. by_mark s (marks 58 s.1) refl))
  where
    none : Scanned × List ℕ → ℕ
    none s = 0

    Behind_ : Scanned × List ℕ → ℕ → YamlCause → Type 0
    Behind_ s at c = (i : ℕ) × (at ≡ (length rest - length s.1) + i) × ColonFault flow s.0 s.1 i c

    -- no colon follows
    NoColon : Scanned × List ℕ → ℕ → YamlCause → Type 0
    NoColon s at c = ((is_wide s.0 ≡ true) × (at ≡ 0) × (c ≡ LeftOut Wide)) ⊎ ((is_wide s.0 ≡ false) × Behind_ s at c)

    Then : Scanned × List ℕ → ℕ → YamlCause → Type 0
    Then s at c = ((marks 58 s.1 ≡ false) × NoColon s at c) ⊎ ((marks 58 s.1 ≡ true) × AtKey before s.0 at c)

    wide : Result (Key × List ℕ) YamlCause
    wide = Err (LeftOut Wide)

    other : Scanned × List ℕ → Result (Key × List ℕ) YamlCause
    other s = Err (colon_fault flow s.0 s.1)

    refused : Scanned × List ℕ → Result (Key × List ℕ) YamlCause
    refused s = Err (key_fault flow s.0 s.1)

    refused_tells : (s : Scanned × List ℕ) (b : Bool) → is_wide s.0 ≡ b → Tells {X = Key × List ℕ} (NoColon s) (Err (cond b (LeftOut Wide) (colon_fault flow s.0 s.1)))
    refused_tells s true g =
        tells_as (λ at c. (at ≡ 0) × (c ≡ LeftOut Wide)) (NoColon s) wide (λ at c w. inl (g, w.0, w.1))
        (λ at c w. elim w [ inl v ↦ (v.1, v.2) | inr v ↦ absurd (clash (is_wide s.0) g v.0) ])
        (tells_one (Key × List ℕ) 0 (LeftOut Wide))
    refused_tells s false g =
        tells_as (Behind_ s) (NoColon s) (other s) (λ at c w. inr (g, w))
        (λ at c w. elim w [ inl v ↦ absurd (clash (is_wide s.0) v.0 g) | inr v ↦ v.1 ])
        (tells_shift (length rest - length s.1) (ColonFault flow s.0 s.1) (other s) (colon_tells (Key × List ℕ) flow s.0 s.1))

    to : (at : ℕ) (c : YamlCause) (s : Scanned × List ℕ) → scan flow rest ≡ Ok s → (i : ℕ) → at ≡ 0 + i → Then s i c → KeyFault flow before rest at c
    to at c s e i p (inl w) = elim w.1 [
      | inl v ↦ wide_alone s.0 s.1 e w.0 v.0 (omega (arith, p, v.1)) v.2
      | inr v ↦ behind_key (record { value = s.0; after = s.1; is = e; inside = v.1.0; place = omega (arith, p, v.1.1); fault = (w.0, v.0, v.1.2) })
    ]
    to at c s e i p (inr w) = at_key s.0 s.1 e w.0 (omega (arith, p, w.1.0)) w.1.1

    by_mark : (s : Scanned × List ℕ) (b : Bool) → marks 58 s.1 ≡ b → Tells {X = Key × List ℕ} (Then s) (cond b (key_of s.0 >>= λ k. cond (has_key before k) (Err DuplicateKey) (Ok (k, drop 1 s.1))) (Err (key_fault flow s.0 s.1)))
    by_mark s true m =
        tells_as (AtKey before s.0) (Then s) (key_of s.0 >>= λ k. cond (has_key before k) (Err DuplicateKey) (Ok (k, drop 1 s.1)))
        (λ at c w. inr (m, w)) (λ at c w. elim w [ inl v ↦ absurd (clash (marks 58 s.1) m v.0) | inr v ↦ v.1 ])
        (new_key_tells before s.0 (λ k. (k, drop 1 s.1)))
    by_mark s false m =
        tells_as (NoColon s) (Then s) (refused s)
        (λ at c w. inl (m, w)) (λ at c w. elim w [ inl v ↦ v.1 | inr v ↦ absurd (clash (marks 58 s.1) v.0 m) ])
        (refused_tells s (is_wide s.0) refl)

pub key_reads : (flow : Bool) (before : List Pair) (rest : List ℕ) (k : Key) (after : List ℕ) → IsNewKey flow before rest k after → entry_key flow before rest ≡ Ok (k, after)
unfolding entry_key
key_reads flow before rest k after w = rw (w.scalar, w.colon, w.key, w.first) (ap (λ xs. Ok (k, xs)) (sym w.behind))

-- ---- the parts of flow lists and maps

nine_comma : (c : ℕ) → c == 9 ≡ true → c == 44 ≡ true → ⊥
nine_comma c p q = omega (arith, same c 9 p, same c 44 q)

pub separator_tells : (closing : ℕ) (part : List ℕ) → Tells (SeparatorFault closing part) (behind_item closing part)
separator_tells closing [] = (
  0,
  record {
    there = separator_open (refl, refl, refl);
    least = λ at c w. elim w [
      | separator_open o ↦ first_same 0 at (LeftOut LongFlow) c o.1 o.2
      | tab_for_separator b n p d ↦ absurd (no_true b)
      | no_separator e n m p d ↦ absurd (no_true (sym e))
    ];
  },
)
separator_tells closing (x ∷ xs) = by_tests (x == closing) (x == 44) (x == 9) refl refl refl
  where
    by_tests : (a b t : Bool) → x == closing ≡ a → x == 44 ≡ b → x == 9 ≡ t → Tells {X = Bool × List ℕ} (SeparatorFault closing (x ∷ xs)) (cond a (Ok (true, xs)) (cond b (Ok (false, xs)) (Err (cond t Tab Syntax))))
    by_tests true b t ea eb et = λ at c w. elim w [
      | separator_open o ↦ no_true (ap is_empty o.0)
      | tab_for_separator h n p d ↦ clash (x == closing) ea n
      | no_separator e n m p d ↦ clash (x == closing) ea n
    ]
    by_tests false true t ea eb et = λ at c w. elim w [
      | separator_open o ↦ no_true (ap is_empty o.0)
      | tab_for_separator h n p d ↦ nine_comma x h eb
      | no_separator e n m p d ↦ clash (x == 44) eb m
    ]
    by_tests false false true ea eb et = (
      0,
      record {
        there = tab_for_separator et ea refl refl;
        least = λ at c w. elim w [
          | separator_open o ↦ absurd (no_true (ap is_empty o.0))
          | tab_for_separator h n p d ↦ first_same 0 at Tab c p d
          | no_separator e n m p d ↦ inr (sym p, let n : cause_number c ≡ 18 = ap cause_number d in omega (arith, n))
        ];
      },
    )
    by_tests false false false ea eb et = (
      0,
      record {
        there = no_separator refl ea eb refl refl;
        least = λ at c w. elim w [
          | separator_open o ↦ absurd (no_true (ap is_empty o.0))
          | tab_for_separator h n p d ↦ absurd (clash (x == 9) h et)
          | no_separator e n m p d ↦ first_same 0 at Syntax c p d
        ];
      },
    )

pub start_tells : {Y : Type 0} (closing : ℕ) (In : List ℕ → ℕ → YamlCause → Type 0) (part : List ℕ) (g : Bool × List ℕ → Result Y YamlCause) → ((xs : List ℕ) → (y : Y) × (g (true, xs) ≡ Ok y))
    → (is_empty part ≡ false → begins closing part ≡ false → Tells (In part) (g (false, part))) → Tells (StartFault closing In part) (at_opening closing part >>= g)
start_tells closing In [] g done next = (
  0,
  record {
    there = start_open (refl, refl, refl);
    least = λ at c w. elim w [
      | start_open o ↦ first_same 0 at (LeftOut LongFlow) c o.1 o.2
      | in_start e n f ↦ absurd (no_true (sym e))
    ];
  },
)
start_tells {Y = Y} closing In (x ∷ xs) g done next = by_test (x == closing) refl
  where
    by_test : (b : Bool) → x == closing ≡ b → Tells (StartFault closing In (x ∷ xs)) (cond b (Ok (true, xs)) (Ok (false, x ∷ xs)) >>= g)
    by_test true e = subst (Tells (StartFault closing In (x ∷ xs))) (sym (done xs).1) (λ at c w. elim w [
      | start_open o ↦ no_true (ap is_empty o.0)
      | in_start s n f ↦ clash (x == closing) e n
    ])
    by_test false e =
        tells_as (In (x ∷ xs)) (StartFault closing In (x ∷ xs)) (g (false, x ∷ xs)) (λ at c f. in_start refl e f)
        (λ at c w. elim w [ start_open o ↦ absurd (no_true (ap is_empty o.0)) | in_start s n f ↦ f ]) (next refl e)

pub parted_tells : {Z : Type 0} (closing : ℕ) (Value : List ℕ → Tree → List ℕ → Type 0) (Wrong : List ℕ → ℕ → YamlCause → Type 0) (start : List ℕ) (r : Result (Tree × List ℕ) YamlCause) (k : Tree × List ℕ → Bool × List ℕ → Z)
    → ((v : Tree) (after : List ℕ) → Value start v after → r ≡ Ok (v, after)) → ((v : Tree) (after : List ℕ) → r ≡ Ok (v, after) → Value start v after) → Tells (Wrong start) r
    → Tells (PartedFault closing Value Wrong start) (r >>= λ item. parted closing item.1 >>= λ part. Ok (k item part))
unfolding parted
parted_tells closing Value Wrong start r k reads found tells =
    tells_value Value (Wrong start) start r (λ v after. InPart false after (SeparatorFault closing)) (λ item. parted closing item.1 >>= λ part. Ok (k item part)) reads found tells
    (λ v after e. tells_map (InPart false after (SeparatorFault closing)) (parted closing after) (k (v, after)) (tells_part false after (SeparatorFault closing) (behind_item closing) (λ part q. separator_tells closing part)))
