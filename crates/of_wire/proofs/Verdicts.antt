-- What reading says of the faults that stand in the bytes: part by part, and one part behind the other.
use Rattle.std.proofs.Common.{◌≡◌, ℕ, zero, suc, ◌+◌, ◌≤◌, ◌<◌, List, [], ◌∷◌, ◌++◌, length, take, drop, Result, Ok, Err, refl, sym, ap, ◌∙◌, subst, arith, append_assoc, inl, inr, ◌⊎◌}
use Rattle.std.proofs.lemmas.Bool.{cases_eq}
use Rattle.std.proofs.lemmas.List.{length-append, append-nil, nil_from_length, drop_at, take_at}
use Rattle.of_wire.specs.declared.fault.PartFault.{PartFault}
use Rattle.of_wire.specs.declared.fault.PartCause.{PartCause}
use Rattle.of_wire.specs.Answers.{fault_at}
use Rattle.of_wire.specs.Reading.{◌>>=◌, many}
use Rattle.of_wire.specs.Grammar.{Joined}
use Rattle.of_wire.specs.Faults.{ComesFirst, Behind, FaultOf, EndsIn, CutsOff}
use Rattle.of_wire.proofs.Grammars.{AreBytes, bytes_back}
use Rattle.of_wire.proofs.Chosen.{one_answer}
use Rattle.of_wire.proofs.Joining.{Part, Parts, IsRead, one_more, no_more}

-- ---- the three ways in which reading ends

-- a value that is spelled, and no fault stands there
pub record Passed {X : Type 0} (Spelled : X → Type 0) (own : ℕ → PartCause → Type 0) (ends : Type 0) (r : Result X PartFault) : Type 0 where
  pub value : X
  pub is : r ≡ Ok value
  pub spelled : Spelled value
  pub none : (p : ℕ) (c : PartCause) → own p c → ⊥
  pub whole : ends → ⊥

-- the first fault that stands there
pub record Failed {X : Type 0} (own : ℕ → PartCause → Type 0) (cut : Type 0) (at size : ℕ) (r : Result X PartFault) : Type 0 where
  pub place : ℕ
  pub cause : PartCause
  pub is : r ≡ Err (fault_at (at + place) cause)
  pub there : own place cause
  pub least : (q : ℕ) (d : PartCause) → own q d → ComesFirst place cause q d
  pub inside : place < size
  pub uncut : cut → ⊥

-- no fault stands there but an early end
pub record Ended {X : Type 0} (own : ℕ → PartCause → Type 0) (cut : Type 0) (past : PartFault) (r : Result X PartFault) : Type 0 where
  pub is : r ≡ Err past
  pub none : (p : ℕ) (c : PartCause) → own p c → ⊥
  pub early : cut

abbrev pub Verdict : {X : Type 0} → (Spelled : X → Type 0) → PartFault → (at size : ℕ) → (own : ℕ → PartCause → Type 0) → (cut ends : Type 0) → Result X PartFault → Type 0
Verdict Spelled past at size own cut ends r = Passed Spelled own ends r ⊎ (Failed own cut at size r ⊎ Ended own cut past r)

-- ---- the first of the parts, and those behind it

pub record Next {A : Type 0} (spells : List A → A → List ℕ → Type 0) (holds : ℕ → List A → List ℕ → Type 0) (before : List A) (bytes : List ℕ) : Type 0 where
  pub part : A
  pub first : List ℕ
  pub rest : List ℕ
  pub whole : bytes ≡ first ++ rest
  pub spelled : spells before part first
  pub later : Behind spells (λ n. holds (length first + n)) (before ++ part ∷ []) rest

split_parts : {A : Type 0} (spells : List A → A → List ℕ → Type 0) (holds : ℕ → List A → List ℕ → Type 0) (before : List A) (bytes : List ℕ) (parts : List A) (front rest : List ℕ)
    → bytes ≡ front ++ rest → Joined spells before parts front → holds (length front) (before ++ parts) rest → holds 0 before bytes ⊎ Next spells holds before bytes
split_parts spells holds before bytes [] front rest whole spelled there =
    let none : rest ≡ bytes = sym (whole ∙ ap (λ f. f ++ rest) spelled) in
    let a : holds 0 (before ++ []) rest = subst (λ f. holds (length f) (before ++ []) rest) spelled there in
    let b : holds 0 before rest = subst (λ l. holds 0 l rest) (append-nil before) a in
    inl (subst (λ l. holds 0 before l) none b)
split_parts spells holds before bytes (x ∷ xs) front rest whole spelled there =
    let len : length front ≡ length spelled.first + length spelled.rest = ap length spelled.whole ∙ length-append spelled.first spelled.rest in
    let a : holds (length spelled.first + length spelled.rest) (before ++ x ∷ xs) rest = subst (λ n. holds n (before ++ x ∷ xs) rest) len there in
    inr (record {
      part = x;
      first = spelled.first;
      rest = spelled.rest ++ rest;
      whole = whole ∙ ap (λ f. f ++ rest) spelled.whole ∙ append_assoc spelled.first spelled.rest rest;
      spelled = spelled.in_front;
      later = record {
        parts = xs;
        front = spelled.rest;
        rest = rest;
        whole = refl;
        spelled = spelled.behind;
        there = subst (λ l. holds (length spelled.first + length spelled.rest) l rest) (sym (append_assoc before (x ∷ []) xs)) a;
      };
    })

pub split : {A : Type 0} (spells : List A → A → List ℕ → Type 0) (holds : ℕ → List A → List ℕ → Type 0) (before : List A) (bytes : List ℕ)
    → Behind spells holds before bytes → holds 0 before bytes ⊎ Next spells holds before bytes
split spells holds before bytes b = split_parts spells holds before bytes b.parts b.front b.rest b.whole b.spelled b.there

pub here : {A : Type 0} (spells : List A → A → List ℕ → Type 0) (holds : ℕ → List A → List ℕ → Type 0) (before : List A) (bytes : List ℕ) → holds 0 before bytes → Behind spells holds before bytes
here spells holds before bytes h = record {
  parts = [];
  front = [];
  rest = bytes;
  whole = refl;
  spelled = refl;
  there = subst (λ l. holds 0 l bytes) (sym (append-nil before)) h;
}

pub behind : {A : Type 0} (spells : List A → A → List ℕ → Type 0) (holds : ℕ → List A → List ℕ → Type 0) (before : List A) (bytes : List ℕ) (part : A) (first rest : List ℕ)
    → bytes ≡ first ++ rest → spells before part first → Behind spells (λ n. holds (length first + n)) (before ++ part ∷ []) rest → Behind spells holds before bytes
behind spells holds before bytes part first rest whole spelled b =
    let len : length (first ++ b.front) ≡ length first + length b.front = length-append first b.front in
    let a : holds (length (first ++ b.front)) ((before ++ part ∷ []) ++ b.parts) b.rest = subst (λ n. holds n ((before ++ part ∷ []) ++ b.parts) b.rest) (sym len) b.there in
    record {
      parts = part ∷ b.parts;
      front = first ++ b.front;
      rest = b.rest;
      whole = whole ∙ ap (λ r. first ++ r) b.whole ∙ sym (append_assoc first b.front b.rest);
      spelled = record { first = first; rest = b.front; whole = refl; in_front = spelled; behind = b.spelled };
      there = subst (λ l. holds (length (first ++ b.front)) l b.rest) (append_assoc before (part ∷ []) b.parts) a;
    }

-- the order of faults stays where both stand further on
pub comes_first_after : (w p q r : ℕ) (c d : PartCause) → q ≡ w + r → ComesFirst p c r d → ComesFirst (w + p) c q d
comes_first_after w p q r c d e f = elim f [
  | inl lt ↦ inl (omega (arith, e, lt))
  | inr same ↦ inr (omega (arith, e, same.0), same.1)
]

-- where a part is cut off, the bytes end in it
pub cut_ends : {A : Type 0} (spells : List A → A → List ℕ → Type 0) (early : List ℕ → Type 0) (wrong : List A → List ℕ → ℕ → PartCause → Type 0) (before : List A) (bytes : List ℕ)
    → Behind spells (CutsOff early wrong) before bytes → Behind spells (EndsIn early) before bytes
cut_ends spells early wrong before bytes b =
    let c = b.there in
    record { parts = b.parts; front = b.front; rest = b.rest; whole = b.whole; spelled = b.spelled; there = (c.0, c.1) }

-- ---- what is known of one step

pub record Steps {A S : Type 0} (spells : List A → A → List ℕ → Type 0) (view : List A → S) (step : S → ℕ → List ℕ → Result (S × ℕ) PartFault) (past : PartFault)
    (early : List ℕ → Type 0) (wrong : List A → List ℕ → ℕ → PartCause → Type 0) : Type 0 where
  pub verdict : (before : List A) (at : ℕ) (bytes : List ℕ) → AreBytes bytes → 0 < length bytes
      → Verdict (Part spells view before bytes) past at (length bytes) (wrong before bytes) (CutsOff early wrong 0 before bytes) (early bytes) (step (view before) at bytes)
  pub complete : (before : List A) (part : A) (at : ℕ) (first rest : List ℕ) → spells before part first → IsRead view step before part at first rest
  pub same : (before : List A) (x y : A) (bytes : List ℕ) → spells before x bytes → spells before y bytes → x ≡ y
  pub some : (before : List A) (bytes : List ℕ) (p : ℕ) (c : PartCause) → wrong before bytes p c → 0 < length bytes

not_both : {X : Type 0} (r : Result X PartFault) (x : X) (e : PartFault) → r ≡ Ok x → r ≡ Err e → ⊥
not_both r x e p q = cc

module _ {A S : Type 0} (spells : List A → A → List ℕ → Type 0) (view : List A → S) (step : S → ℕ → List ℕ → Result (S × ℕ) PartFault) (past : PartFault)
    (early : List ℕ → Type 0) (wrong : List A → List ℕ → ℕ → PartCause → Type 0) (k : Steps spells view step past early wrong) where
  -- behind no bytes, and where the step refuses, there is no part that is spelled
  at_end : (holds : ℕ → List A → List ℕ → Type 0) (before : List A) (bytes : List ℕ) → length bytes ≡ 0 → Behind spells holds before bytes → holds 0 before bytes
  at_end holds before bytes e b = elim (split spells holds before bytes b) [
    | inl h ↦ h
    | inr n ↦
        let r = k.complete before n.part 0 n.first n.rest n.spelled in
        absurd (omega (arith, e, ap length n.whole, length-append n.first n.rest, r.some))
  ]

  at_refusal : (holds : ℕ → List A → List ℕ → Type 0) (before : List A) (at : ℕ) (bytes : List ℕ) (e : PartFault) → step (view before) at bytes ≡ Err e → Behind spells holds before bytes → holds 0 before bytes
  at_refusal holds before at bytes e is b = elim (split spells holds before bytes b) [
    | inl h ↦ h
    | inr n ↦
        let r = k.complete before n.part at n.first n.rest n.spelled in
        absurd (not_both (step (view before) at bytes) _ e (ap (step (view before) at) n.whole ∙ r.read) is)
  ]

  -- behind a part that is read stand the parts that follow it
  after : (holds : ℕ → List A → List ℕ → Type 0) (before : List A) (at : ℕ) (bytes : List ℕ) (y : S × ℕ) → step (view before) at bytes ≡ Ok y → (p : Part spells view before bytes y) → Behind spells holds before bytes
      → holds 0 before bytes ⊎ Behind spells (λ n. holds (y.1 + n)) (before ++ p.part ∷ []) p.parts.rest
  after holds before at bytes y is p b = elim (split spells holds before bytes b) [
    | inl h ↦ inl h
    | inr n ↦
        let r = k.complete before n.part at n.first n.rest n.spelled in
        let same : y ≡ (view (before ++ n.part ∷ []), length n.first) = one_answer (step (view before) at bytes) y _ is (ap (step (view before) at) n.whole ∙ r.read) in
        let len : length n.first ≡ y.1 = sym (ap (λ (z : S × ℕ). z.1) same) in
        let t = p.parts in
        let firsts : t.first ≡ n.first = sym (take_at t.first t.rest y.1 p.size) ∙ ap (take y.1) (sym t.whole ∙ n.whole) ∙ take_at n.first n.rest y.1 len in
        let rests : n.rest ≡ t.rest = sym (drop_at n.first n.rest y.1 len) ∙ ap (drop y.1) (sym n.whole ∙ t.whole) ∙ drop_at t.first t.rest y.1 p.size in
        let part : n.part ≡ p.part = k.same before n.part p.part n.first n.spelled (subst (λ l. spells before p.part l) firsts t.in_front) in
        let a : Behind spells (λ m. holds (y.1 + m)) (before ++ n.part ∷ []) n.rest = subst (λ w. Behind spells (λ m. holds (w + m)) (before ++ n.part ∷ []) n.rest) len n.later in
        let c : Behind spells (λ m. holds (y.1 + m)) (before ++ p.part ∷ []) n.rest = subst (λ x. Behind spells (λ m. holds (y.1 + m)) (before ++ x ∷ []) n.rest) part a in
        inr (subst (λ l. Behind spells (λ m. holds (y.1 + m)) (before ++ p.part ∷ []) l) rests c)
  ]

  before_it : (holds : ℕ → List A → List ℕ → Type 0) (before : List A) (bytes : List ℕ) (y : S × ℕ) → (p : Part spells view before bytes y)
      → Behind spells (λ n. holds (y.1 + n)) (before ++ p.part ∷ []) p.parts.rest → Behind spells holds before bytes
  before_it holds before bytes y p b =
      let t = p.parts in
      behind spells holds before bytes p.part t.first t.rest t.whole t.in_front
      (subst (λ w. Behind spells (λ m. holds (w + m)) (before ++ p.part ∷ []) t.rest) (sym p.size) b)

  moves : (steps : ℕ) (before : List A) (at : ℕ) (bytes : List ℕ) (y : S × ℕ) → (length bytes ≡ 0 → ⊥) → step (view before) at bytes ≡ Ok y → (p : Part spells view before bytes y)
      → many step (suc steps) (view before) at bytes ≡ many step steps (view (before ++ p.part ∷ [])) (at + y.1) p.parts.rest
  moves steps before at bytes y ne is p =
      let t = p.parts in
      let left : drop y.1 bytes ≡ t.rest = ap (drop y.1) t.whole ∙ drop_at t.first t.rest y.1 p.size in
      one_more step steps (view before) at bytes ne
      ∙ ap (λ (q : Result (S × ℕ) PartFault). q >>= (λ (x : S × ℕ). many step steps x.0 (at + x.1) (drop x.1 bytes))) is
      ∙ ap (λ v. many step steps v (at + y.1) (drop y.1 bytes)) p.seen
      ∙ ap (λ l. many step steps (view (before ++ p.part ∷ [])) (at + y.1) l) left

  stops : (steps : ℕ) (before : List A) (at : ℕ) (bytes : List ℕ) (e : PartFault) → (length bytes ≡ 0 → ⊥) → step (view before) at bytes ≡ Err e → many step (suc steps) (view before) at bytes ≡ Err e
  stops steps before at bytes e ne is =
      one_more step steps (view before) at bytes ne
      ∙ ap (λ (q : Result (S × ℕ) PartFault). q >>= (λ (x : S × ℕ). many step steps x.0 (at + x.1) (drop x.1 bytes))) is

  abbrev Own : List A → List ℕ → ℕ → PartCause → Type 0
  Own before bytes p c = Behind spells (FaultOf wrong p c) before bytes

  abbrev Cut : List A → List ℕ → Type 0
  Cut before bytes = Behind spells (CutsOff early wrong) before bytes

  abbrev Ends : List A → List ℕ → Type 0
  Ends before bytes = Behind spells (EndsIn early) before bytes

  own_here : (before : List A) (bytes : List ℕ) (p : ℕ) (c : PartCause) → FaultOf wrong p c 0 before bytes → wrong before bytes p c
  own_here before bytes p c f = let e : f.inside ≡ p = omega (arith, f.is_at) in subst (λ n. wrong before bytes n c) e f.fault

  here_own : (before : List A) (bytes : List ℕ) (p : ℕ) (c : PartCause) → wrong before bytes p c → Own before bytes p c
  here_own before bytes p c w = here spells (FaultOf wrong p c) before bytes (record { inside = p; is_at = omega arith; fault = w })

  record Later (w : ℕ) (before : List A) (bytes : List ℕ) (q : ℕ) (d : PartCause) : Type 0 where
    pub place : ℕ
    pub is_at : q ≡ w + place
    pub there : Own before bytes place d

  own_after : (w : ℕ) (before : List A) (bytes : List ℕ) (q : ℕ) (d : PartCause) → Behind spells (λ n. FaultOf wrong q d (w + n)) before bytes → Later w before bytes q d
  own_after w before bytes q d b =
      let t = b.there in
      record {
        place = length b.front + t.inside;
        is_at = omega (arith, t.is_at);
        there = record { parts = b.parts; front = b.front; rest = b.rest; whole = b.whole; spelled = b.spelled; there = record { inside = t.inside; is_at = refl; fault = t.fault } };
      }

  own_before : (w : ℕ) (before : List A) (bytes : List ℕ) (q : ℕ) (d : PartCause) → Own before bytes q d → Behind spells (λ n. FaultOf wrong (w + q) d (w + n)) before bytes
  own_before w before bytes q d b =
      let t = b.there in
      record { parts = b.parts; front = b.front; rest = b.rest; whole = b.whole; spelled = b.spelled; there = record { inside = t.inside; is_at = omega (arith, t.is_at); fault = t.fault } }

  nothing : (steps : ℕ) (before : List A) (at : ℕ) (bytes : List ℕ) → length bytes ≡ 0
      → Verdict (Parts spells view before bytes) past at (length bytes) (Own before bytes) (Cut before bytes) (Ends before bytes) (many step steps (view before) at bytes)
  nothing steps before at bytes e = inl (record {
    value = view before;
    is = no_more step steps (view before) at bytes e;
    spelled = record { all = []; joined = nil_from_length bytes e; seen = ap view (sym (append-nil before)) };
    none = λ p c b. (let w = own_here before bytes p c (at_end (FaultOf wrong p c) before bytes e b) in absurd (omega (arith, e, k.some before bytes p c w)));
    whole = λ b. (let w = at_end (EndsIn early) before bytes e b in absurd (omega (arith, e, w.0)));
  })

  failed : (steps : ℕ) (before : List A) (at : ℕ) (bytes : List ℕ) → (length bytes ≡ 0 → ⊥) → Failed (wrong before bytes) (CutsOff early wrong 0 before bytes) at (length bytes) (step (view before) at bytes)
      → Failed (Own before bytes) (Cut before bytes) at (length bytes) (many step (suc steps) (view before) at bytes)
  failed steps before at bytes ne f = record {
    place = f.place;
    cause = f.cause;
    is = stops steps before at bytes _ ne f.is;
    there = here_own before bytes f.place f.cause f.there;
    least = λ q d b. f.least q d (own_here before bytes q d (at_refusal (FaultOf wrong q d) before at bytes _ f.is b));
    inside = f.inside;
    uncut = λ b. f.uncut (at_refusal (CutsOff early wrong) before at bytes _ f.is b);
  }

  ended : (steps : ℕ) (before : List A) (at : ℕ) (bytes : List ℕ) → (length bytes ≡ 0 → ⊥) → Ended (wrong before bytes) (CutsOff early wrong 0 before bytes) past (step (view before) at bytes)
      → Ended (Own before bytes) (Cut before bytes) past (many step (suc steps) (view before) at bytes)
  ended steps before at bytes ne f = record {
    is = stops steps before at bytes _ ne f.is;
    none = λ q d b. f.none q d (own_here before bytes q d (at_refusal (FaultOf wrong q d) before at bytes _ f.is b));
    early = here spells (CutsOff early wrong) before bytes f.early;
  }

  -- a part that is read, and what reading says of the bytes behind it
  go_on : (steps : ℕ) (before : List A) (at : ℕ) (bytes : List ℕ) → (length bytes ≡ 0 → ⊥) → (s : Passed (Part spells view before bytes) (wrong before bytes) (early bytes) (step (view before) at bytes)) → (p : Part spells view before bytes s.value)
      → Verdict (Parts spells view (before ++ p.part ∷ []) p.parts.rest) past (at + s.value.1) (length p.parts.rest) (Own (before ++ p.part ∷ []) p.parts.rest) (Cut (before ++ p.part ∷ []) p.parts.rest) (Ends (before ++ p.part ∷ []) p.parts.rest) (many step steps (view (before ++ p.part ∷ [])) (at + s.value.1) p.parts.rest)
      → Verdict (Parts spells view before bytes) past at (length bytes) (Own before bytes) (Cut before bytes) (Ends before bytes) (many step (suc steps) (view before) at bytes)
  go_on steps before at bytes ne s p v =
      let t = p.parts in
      let w = s.value.1 in
      let more = before ++ p.part ∷ [] in
      let size : length bytes ≡ w + length t.rest = omega (arith, ap length t.whole, length-append t.first t.rest, p.size) in
      let on = moves steps before at bytes s.value ne s.is p in
      let none_here : (q : ℕ) (d : PartCause) → Own before bytes q d → Behind spells (λ n. FaultOf wrong q d (w + n)) more t.rest = λ q d b.
      elim (after (FaultOf wrong q d) before at bytes s.value s.is p b) [ inl h ↦ absurd (s.none q d (own_here before bytes q d h)) | inr l ↦ l ] in
      let ends_later : Ends before bytes → Ends more t.rest = λ b. elim (after (EndsIn early) before at bytes s.value s.is p b) [ inl h ↦ absurd (s.whole h.1) | inr l ↦ l ] in
      let cut_later : Cut before bytes → Cut more t.rest = λ b. elim (after (CutsOff early wrong) before at bytes s.value s.is p b) [ inl h ↦ absurd (s.whole h.1) | inr l ↦ l ] in
      elim v [
        | inl r ↦ inl (record {
          value = r.value;
          is = on ∙ r.is;
          spelled =
              (let l = r.spelled in record {
                all = p.part ∷ l.all;
                joined = record { first = t.first; rest = t.rest; whole = t.whole; in_front = t.in_front; behind = l.joined };
                seen = l.seen ∙ ap view (append_assoc before (p.part ∷ []) l.all);
              });
          none = λ q d b. (let l = own_after w more t.rest q d (none_here q d b) in r.none l.place d l.there);
          whole = λ b. r.whole (ends_later b);
        })
        | inr (inl f) ↦ inr (inl (record {
          place = w + f.place;
          cause = f.cause;
          is = on ∙ f.is ∙ ap (λ n. Err (fault_at n f.cause)) (omega arith);
          there = before_it (FaultOf wrong (w + f.place) f.cause) before bytes s.value p (own_before w more t.rest f.place f.cause f.there);
          least = λ q d b. (let l = own_after w more t.rest q d (none_here q d b) in comes_first_after w f.place q l.place f.cause d l.is_at (f.least l.place d l.there));
          inside = omega (arith, f.inside);
          uncut = λ b. f.uncut (cut_later b);
        }))
        | inr (inr e) ↦ inr (inr (record {
          is = on ∙ e.is;
          none = λ q d b. (let l = own_after w more t.rest q d (none_here q d b) in e.none l.place d l.there);
          early = before_it (CutsOff early wrong) before bytes s.value p e.early;
        }))
      ]

  pub many_verdict : (steps : ℕ) (before : List A) (at : ℕ) (bytes : List ℕ) → AreBytes bytes → length bytes ≤ steps
      → Verdict (Parts spells view before bytes) past at (length bytes) (λ p c. Behind spells (FaultOf wrong p c) before bytes) (Behind spells (CutsOff early wrong) before bytes) (Behind spells (EndsIn early) before bytes) (many step steps (view before) at bytes)
  many_verdict zero before at bytes h l = nothing zero before at bytes (omega arith)
  many_verdict (suc steps) before at bytes h l = elim (cases_eq (length bytes) 0) [
    | inl e ↦ nothing (suc steps) before at bytes e
    | inr ne ↦ elim (k.verdict before at bytes h (omega (arith, ne))) [
      | inl s ↦
          let p = s.spelled in
          let t = p.parts in
          let hr : AreBytes t.rest = bytes_back t.first t.rest (subst (λ l. AreBytes l) t.whole h) in
          go_on steps before at bytes ne s p (many_verdict steps (before ++ p.part ∷ []) (at + s.value.1) t.rest hr (omega (arith, ap length t.whole, length-append t.first t.rest, p.size, t.behind)))
      | inr (inl f) ↦ inr (inl (failed steps before at bytes ne f))
      | inr (inr e) ↦ inr (inr (ended steps before at bytes ne e))
    ]
  ]
