-- Items of one size, one behind the other, are read exactly where they are spelled, and nothing is
-- wrong with them but an early end.
use Rattle.std.proofs.Common.{◌≡◌, ℕ, ◌+◌, ◌≤◌, ◌<◌, true, false, ltb, List, [], ◌∷◌, ◌++◌, length, take, drop, Result, Ok, Err, refl, sym, ap, ◌∙◌, subst, arith, inl, inr}
use Rattle.std.proofs.lemmas.Bool.{le-ltb, lt-ltb}
use Rattle.std.proofs.lemmas.List.{length-take-le, length-append, take-append-drop}
use Rattle.of_wire.specs.declared.fault.PartFault.{PartFault}
use Rattle.of_wire.specs.declared.fault.PartCause.{PartCause}
use Rattle.of_wire.specs.declared.fault.PartCause.TheVariants.{Short}
use Rattle.of_wire.specs.Causes.{cause_number}
use Rattle.of_wire.specs.Reading.{fault_at}
use Rattle.of_wire.specs.Grammar.{Joined}
use Rattle.of_wire.specs.Faults.{Behind, FaultOf, EndsIn, CutsOff}
use Rattle.of_wire.proofs.Grammars.{AreBytes, bytes_take}
use Rattle.of_wire.specs.declared.fault.PartRefused.TheVariants.{At}
use Rattle.of_wire.proofs.Many.{Left, goes, ends}
use Rattle.of_wire.proofs.Joining.{Part, Parts, IsRead, joined_read}
use Rattle.of_wire.proofs.Verdicts.{Verdict, Steps, many_verdict, cut_ends}
use Rattle.of_wire.proofs.Told.{by_less, Told, told_ok, told_end}
use Rattle.of13_codec.specs.Decoding.{item_step, items_at}
use Rattle.of13_codec.proofs.Says.{Says}

-- what an item is that so many bytes spell, whatever they are
pub record IsItem {A : Type 0} (spells : A → List ℕ → Type 0) (size : ℕ) (of : List ℕ → A) : Type 0 where
  pub some : 1 ≤ size
  pub sound : (xs : List ℕ) → AreBytes xs → length xs ≡ size → spells (of xs) xs
  pub complete : (a : A) (xs : List ℕ) → spells a xs → (of xs ≡ a) × (length xs ≡ size)
  pub front : (xs ys : List ℕ) → length xs ≡ size → of (xs ++ ys) ≡ of xs

abbrev pub EachItem : {A : Type 0} → (A → List ℕ → Type 0) → List A → A → List ℕ → Type 0
EachItem spells before a bytes = spells a bytes

abbrev pub NothingWrong : {A : Type 0} → List A → List ℕ → ℕ → PartCause → Type 0
NothingWrong before rest place cause = ⊥

abbrev pub IsBelow : ℕ → List ℕ → Type 0
IsBelow size bytes = length bytes < size

item_part : {A : Type 0} (spells : A → List ℕ → Type 0) (size : ℕ) (of : List ℕ → A) → IsItem spells size of
    → (before : List A) (bytes : List ℕ) → AreBytes bytes → size ≤ length bytes → Part (EachItem spells) (λ l. l) before bytes (before ++ of bytes ∷ [], size)
item_part spells size of item before bytes h room =
    let xs = take size bytes in
    let len : length xs ≡ size = length-take-le size bytes room in
    let same : of xs ≡ of bytes = sym (item.front xs (drop size bytes) len) ∙ ap of (take-append-drop size bytes) in
    record {
      part = of bytes;
      parts = record { first = xs; rest = drop size bytes; whole = sym (take-append-drop size bytes); in_front = subst (λ a. spells a xs) same (item.sound xs (bytes_take size bytes h) len); behind = item.some };
      size = len;
      seen = refl;
    }

step_complete : {A : Type 0} (spells : A → List ℕ → Type 0) (size : ℕ) (of : List ℕ → A) → IsItem spells size of
    → (past : PartFault) (before : List A) (a : A) (at : ℕ) (first rest : List ℕ) → spells a first → IsRead (λ l. l) (item_step size of past) before a at first rest
unfolding item_step
step_complete spells size of item past before a at first rest s =
    let c = item.complete a first s in
    let len = c.1 in
    let long : ltb (length (first ++ rest)) size ≡ false = le-ltb _ _ (omega (arith, length-append first rest, len)) in
    let same : of (first ++ rest) ≡ a = item.front first rest len ∙ c.0 in
    record { read = rw (long, same, len) refl; some = omega (arith, len, item.some) }

pub items_complete : {A : Type 0} (spells : A → List ℕ → Type 0) (size : ℕ) (of : List ℕ → A) → IsItem spells size of
    → (past : PartFault) (items : List A) (bytes : List ℕ) → Joined (EachItem spells) [] items bytes → items_at size of past bytes ≡ Ok items
unfolding items_at
items_complete spells size of item past items bytes p =
    joined_read (EachItem spells) (λ l. l) (item_step size of past) (step_complete spells size of item past) items (length bytes) [] 16 bytes (omega arith) p

-- ---- the loop

pub loop_ends : {A : Type 0} (size : ℕ) (of : List ℕ → A) (past : PartFault) (total : Result (List A) PartFault) (items : List A) (at : ℕ) (rest : List ℕ) → 0 < length rest → length rest < size
    → Left (item_step size of past) total items at rest → total ≡ Err past
unfolding item_step
loop_ends size of past total items at rest some few left =
    let t : ltb (length rest) size ≡ true = lt-ltb _ _ few in
    ends (item_step size of past) total items at rest (At past) some (rw t refl) left

pub loop_goes : {A : Type 0} (size : ℕ) (of : List ℕ → A) (past : PartFault) (total : Result (List A) PartFault) (items : List A) (at : ℕ) (rest : List ℕ) → 0 < length rest → 0 < size → size ≤ length rest
    → Left (item_step size of past) total items at rest → Left (item_step size of past) total (items ++ of rest ∷ []) (at + size) (drop size rest)
unfolding item_step
loop_goes size of past total items at rest some positive room left =
    let t : ltb (length rest) size ≡ false = le-ltb _ _ room in
    goes (item_step size of past) total items at rest (items ++ of rest ∷ [], size) some (omega arith) (rw t refl) left

-- ---- the first fault

item_told : {A : Type 0} (spells : A → List ℕ → Type 0) (size : ℕ) (of : List ℕ → A) → IsItem spells size of → (past : PartFault) (before : List A) (at : ℕ) (bytes : List ℕ) → AreBytes bytes → 0 < length bytes
    → Told (Part (EachItem spells) (λ l. l) before bytes) past at (NothingWrong before bytes) (IsBelow size bytes) bytes (item_step size of past before at bytes)
unfolding item_step
item_told {A = A} spells size of item past before at bytes h some =
    let own : ℕ → PartCause → Type 0 = NothingWrong before bytes in
    let P = λ (r : Result (List A × ℕ) PartFault). Told (Part (EachItem spells) (λ l. l) before bytes) past at own (IsBelow size bytes) bytes r in
    let y : List A × ℕ = (before ++ of bytes ∷ [], size) in
    by_less P (length bytes) size (Err past) (Ok y)
    (λ few. told_end past at own (IsBelow size bytes) bytes (Err past) refl some few (λ q d f. f))
    (λ room. told_ok past at own (IsBelow size bytes) bytes (Ok y) y refl (item_part spells size of item before bytes h room) (λ q d f. f) (λ few. omega arith))

item_steps : {A : Type 0} (spells : A → List ℕ → Type 0) (size : ℕ) (of : List ℕ → A) → IsItem spells size of → (past : PartFault) → Steps (EachItem spells) (λ l. l) (item_step size of past) past (IsBelow size) NothingWrong
item_steps spells size of item past = record {
  verdict = item_told spells size of item past;
  complete = step_complete spells size of item past;
  same = λ before x y bytes p q. (let a = item.complete x bytes p in let b = item.complete y bytes q in sym a.0 ∙ b.0);
  some = λ before bytes q d f. absurd f;
}

items_told : {A : Type 0} (spells : A → List ℕ → Type 0) (size : ℕ) (of : List ℕ → A) → IsItem spells size of → (past : PartFault) (bytes : List ℕ) → AreBytes bytes
    → Verdict (Parts (EachItem spells) (λ l. l) [] bytes) past 16 (length bytes) (λ q d. Behind (EachItem spells) (FaultOf NothingWrong q d) [] bytes) (Behind (EachItem spells) (CutsOff (IsBelow size) NothingWrong) [] bytes) (Behind (EachItem spells) (EndsIn (IsBelow size)) [] bytes) (items_at size of past bytes)
unfolding items_at
items_told spells size of item past bytes h =
    many_verdict (EachItem spells) (λ l. l) (item_step size of past) past (IsBelow size) NothingWrong (item_steps spells size of item past) (length bytes) [] 16 bytes h (omega arith)

abbrev pub ItemsEnd : {A : Type 0} → (A → List ℕ → Type 0) → ℕ → List ℕ → ℕ → PartCause → Type 0
ItemsEnd spells size bytes place cause = (place ≡ 16 + length bytes) × (cause ≡ Short) × Behind (EachItem spells) (EndsIn (IsBelow size)) [] bytes

-- items of a reply: nothing is wrong with them but an early end
pub items_say : {A : Type 0} (spells : A → List ℕ → Type 0) (size : ℕ) (of : List ℕ → A) → IsItem spells size of → (bytes : List ℕ) → AreBytes bytes
    → Says (λ items. Joined (EachItem spells) [] items bytes) (ItemsEnd spells size bytes) (items_at size of (fault_at (16 + length bytes) Short) bytes)
items_say spells size of item bytes h =
    let past = fault_at (16 + length bytes) Short in
    elim (items_told spells size of item past bytes h) [
      | inl p ↦ subst (λ q. Says (λ items. Joined (EachItem spells) [] items bytes) (ItemsEnd spells size bytes) q) (sym p.is) (let l = p.spelled in subst (λ l. Joined (EachItem spells) [] l bytes) (sym l.seen) l.joined, λ q d e. p.whole e.2)
      | inr (inl f) ↦ (let g = f.there in let x = g.there in absurd (x.fault))
      | inr (inr f) ↦ subst (λ q. Says (λ items. Joined (EachItem spells) [] items bytes) (ItemsEnd spells size bytes) q) (sym f.is) (record {
        there = (refl, refl, cut_ends (EachItem spells) (IsBelow size) NothingWrong [] bytes f.early);
        least = λ q d e. inr (sym e.0, omega (arith, ap cause_number e.1));
      })
    ]
