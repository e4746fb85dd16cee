-- What reading a body says: a message that the body spells, and nothing is wrong with it, or the
-- first fault that stands in it.
use Rattle.std.proofs.Common.{◌≡◌, ℕ, ◌+◌, ◌≤◌, ◌<◌, false, cond, ltb, List, length, Result, Ok, Err, refl, arith, inr}
use Rattle.std.proofs.lemmas.Bool.{le-ltb}
use Rattle.of_wire.specs.declared.fault.PartFault.{PartFault}
use Rattle.of_wire.specs.declared.fault.PartCause.{PartCause}
use Rattle.of_wire.specs.declared.fault.PartCause.TheVariants.{Short, BadLength}
use Rattle.of_wire.specs.declared.fault.PartRefused.{PartRefused}
use Rattle.of_wire.specs.declared.fault.PartRefused.TheVariants.{At}
use Rattle.of_wire.specs.Reading.{◌>>=◌, Gives, fault_at}
use Rattle.of_wire.specs.Faults.{ComesFirst, IsFirst, TellsFirst}
use Rattle.of_wire.proofs.Told.{by_less}
use Rattle.of13_codec.specs.declared.message.Message.{Message}
use Rattle.of13_codec.specs.Messages.{kind_of, version_of}
use Rattle.of13_codec.specs.Decoding.{short, at_least, exactly}
use Rattle.of13_codec.specs.Spelling.{SpellsBody}
use Rattle.of13_codec.specs.Faults.{SizeFault, too_few, too_many, HeadFault, no_head}

-- a body spells a message of a type, in a frame of a version
pub record Is (version kind : ℕ) (body : List ℕ) (m : Message) : Type 0 where
  pub spelled : SpellsBody m body
  pub kind_is : kind_of m ≡ kind
  pub version_is : version_of m ≡ version

abbrev pub Says : {X : Type 0} → (Spelled : X → Type 0) → (Stands : ℕ → PartCause → Type 0) → Result X PartFault → Type 0
Says Spelled Stands (Ok x) = Spelled x × ((q : ℕ) (d : PartCause) → Stands q d → ⊥)
Says Spelled Stands (Err f) = IsFirst Stands f

-- what a part says, and what is read behind it
pub says_bind : {X Y : Type 0} (P : X → Type 0) (Inner : ℕ → PartCause → Type 0) (Spelled : Y → Type 0) (Stands : ℕ → PartCause → Type 0) (r : Result X PartFault) (f : X → Result Y PartFault)
    → Says P Inner r → ((x : X) → r ≡ Ok x → P x → ((q : ℕ) (d : PartCause) → Inner q d → ⊥) → Says Spelled Stands (f x))
    → ((g : PartFault) → r ≡ Err g → IsFirst Inner g → IsFirst Stands g) → Says Spelled Stands (r >>= f)
says_bind P Inner Spelled Stands (Ok x) f s ok err = ok x refl s.0 s.1
says_bind P Inner Spelled Stands (Err g) f s ok err = err g refl s

-- the same faults under another name
pub says_as : {X : Type 0} (Spelled : X → Type 0) (A B : ℕ → PartCause → Type 0) (r : Result X PartFault) → ((q : ℕ) (d : PartCause) → A q d → B q d) → ((q : ℕ) (d : PartCause) → B q d → A q d)
    → Says Spelled A r → Says Spelled B r
says_as Spelled A B (Ok x) to back s = (s.0, λ q d b. s.1 q d (back q d b))
says_as Spelled A B (Err f) to back s = record { there = to f.at f.cause s.there; least = λ q d b. s.least q d (back q d b) }

-- what was read, as a call answers it
abbrev pub answer : {X : Type 0} → Result X PartFault → Result X PartRefused
answer (Ok x) = Ok x
answer (Err f) = Err (At f)

pub gives_answer : {X : Type 0} (r : Result X PartFault) → Gives (λ x. x) (answer r) r
gives_answer (Ok x) = refl
gives_answer (Err f) = refl

pub says_of : {X : Type 0} (Spelled : X → Type 0) (Stands : ℕ → PartCause → Type 0) (r : Result X PartFault) → ((x : X) → r ≡ Ok x → Spelled x) → TellsFirst Stands (answer r) → Says Spelled Stands r
says_of Spelled Stands (Ok x) spelled t = (spelled x refl, t)
says_of Spelled Stands (Err f) spelled t = t

-- ---- bodies with a head

pub head_told : (Spelled : Message → Type 0) (Stands : ℕ → PartCause → Type 0) (size : ℕ) (body : List ℕ) (next : ℕ → Result Message PartFault)
    → (length body < size → Stands (8 + length body) Short) → (length body < size → (q : ℕ) (d : PartCause) → Stands q d → ComesFirst (8 + length body) Short q d)
    → (size ≤ length body → Says Spelled Stands (next size)) → Says Spelled Stands (at_least size body >>= next)
unfolding at_least
head_told Spelled Stands size body next ends least more =
    by_less (λ (r : Result ℕ PartFault). Says Spelled Stands (r >>= next)) (length body) size (Err (short body)) (Ok size)
    (λ few. record { there = ends few; least = least few })
    more

pub only_head : (P : ℕ → PartCause → Type 0) (size : ℕ) (body : List ℕ) → (length body < size → P (8 + length body) Short) → (q : ℕ) (d : PartCause) → HeadFault size body q d → P q d
only_head P size body few q d (no_head l) = few l

pub least_complete : (size : ℕ) (body : List ℕ) → size ≤ length body → at_least size body ≡ Ok size
unfolding at_least
least_complete size body h = rw (le-ltb _ _ h) refl

-- ---- bodies of a fixed size

size_cases : (P : ℕ → PartCause → Type 0) (size : ℕ) (body : List ℕ) → (length body < size → P (8 + length body) Short) → (size < length body → P (8 + size) BadLength)
    → (q : ℕ) (d : PartCause) → SizeFault size body q d → P q d
size_cases P size body few many q d (too_few l) = few l
size_cases P size body few many q d (too_many l) = many l

pub exact_told : (Spelled : Message → Type 0) (size : ℕ) (body : List ℕ) (m : Message) → (length body ≡ size → Spelled m) → Says Spelled (SizeFault size body) (exactly size body >>= λ n. Ok m)
unfolding exactly
exact_told Spelled size body m spelled =
    let Stands = SizeFault size body in
    let next : ℕ → Result Message PartFault = λ n. Ok m in
    let P = λ (r : Result ℕ PartFault). Says Spelled Stands (r >>= next) in
    let long : Result ℕ PartFault = Err (fault_at (8 + size) BadLength) in
    by_less P (length body) size (Err (short body)) (cond (ltb size (length body)) long (Ok size))
    (λ few. record { there = too_few few; least = size_cases (ComesFirst (8 + length body) Short) size body (λ l. inr (refl, omega arith)) (λ l. absurd (omega arith)) })
    (λ least. by_less P size (length body) long (Ok size)
    (λ more. record { there = too_many more; least = size_cases (ComesFirst (8 + size) BadLength) size body (λ l. absurd (omega arith)) (λ l. inr (refl, omega arith)) })
    (λ most. (spelled (omega arith), size_cases (λ q d. ⊥) size body (λ l. omega arith) (λ l. omega arith))))

pub exact_complete : (size : ℕ) (body : List ℕ) → length body ≡ size → exactly size body ≡ Ok size
unfolding exactly
exact_complete size body h =
    let t : ltb (length body) size ≡ false = le-ltb _ _ (omega arith) in
    let s : ltb size (length body) ≡ false = le-ltb _ _ (omega arith) in
    rw (t, s) refl
