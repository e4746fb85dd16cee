-- What reading the body of a HELLO says.
use Rattle.std.proofs.Common.{◌≡◌, ◌≢◌, ℕ, ◌+◌, ◌-◌, ◌≤◌, ◌<◌, ◌&&◌, ◌||◌, cond, eqb, ltb, List, [], length, take, drop, get_or, Option, None, Result, Ok, Err, refl, sym, ap, ◌∙◌, arith, inl, inr, replicate, subst}
use Rattle.std.proofs.lemmas.Bool.{ltb-true, ltb-false, eqb-true, eqb-false, or_cases, or_parts, and_parts, and_cases}
use Rattle.of_wire.specs.declared.fault.PartFault.{PartFault}
use Rattle.of_wire.specs.declared.fault.PartCause.{PartCause}
use Rattle.of_wire.specs.declared.fault.PartCause.TheVariants.{BadLength, BadPad}
use Rattle.of_wire.specs.Numbers.{number_in}
use Rattle.of_wire.specs.Parts.{up_to_8}
use Rattle.of_wire.specs.Grammar.{Zeros}
use Rattle.of_wire.specs.Reading.{◌>>=◌, fault_at, many, padding_at}
use Rattle.of_wire.specs.Faults.{ComesFirst, Behind, FaultOf, EndsIn, CutsOff, PaddedEndsEarly}
use Rattle.of_wire.proofs.Grammars.{AreBytes, number_again, front_again}
use Rattle.of_wire.proofs.Joining.{Part, Parts}
use Rattle.of_wire.proofs.Padding.{padding_sound}
use Rattle.of_wire.proofs.Verdicts.{Verdict, Steps, many_verdict, cut_ends}
use Rattle.of_wire.proofs.Told.{by_less, by_test, Told, told_ok, told_fault, told_end, told_map, told_value, first_of_cause, padding_told, tells_first}
use Rattle.of13_codec.specs.declared.message.Message.TheVariants.{Hello}
use Rattle.of13_codec.specs.Decoding.{short, first_bitmap, element_at, hello_step, hello_at}
use Rattle.of13_codec.specs.Spelling.{Raw, Element, SpellsElement, SpellsHello, bitmap_of}
use Rattle.of13_codec.specs.Faults.{ElementFault, element_length, bitmap_length, element_padding, EachElement, WrongElement, HelloFault}
use Rattle.of13_codec.proofs.Says.{Is, Says, says_bind, answer, gives_answer, says_of}
use Rattle.of13_codec.proofs.HelloLaws.{element_part, step_complete}

some_header : (bytes : List ℕ) (q : ℕ) (d : PartCause) → ElementFault bytes q d → 4 ≤ length bytes
some_header bytes q d (element_length h l) = h
some_header bytes q d (bitmap_length h k l) = h
some_header bytes q d (element_padding l place low high there bit) = omega arith

length_first : (bytes : List ℕ) (q : ℕ) (d : PartCause) → ElementFault bytes q d → ComesFirst 2 BadLength q d
length_first bytes q d (element_length h l) = inr (refl, omega arith)
length_first bytes q d (bitmap_length h k l) = inr (refl, omega arith)
length_first bytes q d (element_padding l place low high there bit) = inl (omega arith)

-- an element whose length is right: what is left is its padding
module _ (bytes : List ℕ) (head : 4 ≤ length bytes) (least : 4 ≤ number_in 2 2 bytes) (bitmap : number_in 0 2 bytes ≡ 1 → 8 ≤ number_in 2 2 bytes) where
  only_padding : (P : ℕ → PartCause → Type 0)
      → ((q : ℕ) → number_in 2 2 bytes ≤ q → q < up_to_8 (number_in 2 2 bytes) → q < length bytes → get_or bytes q 0 ≢ 0 → P q BadPad)
      → (q : ℕ) (d : PartCause) → ElementFault bytes q d → P q d
  only_padding P pad q d (element_length h l) = absurd (omega arith)
  only_padding P pad q d (bitmap_length h k l) = let e = bitmap k in absurd (omega arith)
  only_padding P pad q d (element_padding l place low high there bit) = pad place low high there bit

  padded_told : (past : PartFault) (at : ℕ)
      → Told (λ n. (up_to_8 (number_in 2 2 bytes) ≡ n) × (up_to_8 (number_in 2 2 bytes) ≤ length bytes) × (take (up_to_8 (number_in 2 2 bytes) - number_in 2 2 bytes) (drop (number_in 2 2 bytes) bytes) ≡ replicate (up_to_8 (number_in 2 2 bytes) - number_in 2 2 bytes) 0))
      past at (ElementFault bytes) (PaddedEndsEarly bytes) bytes (padding_at past at (number_in 2 2 bytes) (up_to_8 (number_in 2 2 bytes)) bytes)
  padded_told past at =
      let len = number_in 2 2 bytes in
      let own = ElementFault bytes in
      let early = PaddedEndsEarly bytes in
      let r = padding_at past at len (up_to_8 len) bytes in
      let order : len ≤ up_to_8 len = omega arith in
      elim (padding_told past at len (up_to_8 len) bytes order) [
        | inl z ↦ told_fault past at own early bytes r z.place BadPad z.is z.inside (element_padding least z.place z.least z.most z.inside z.bit)
            (only_padding (ComesFirst z.place BadPad) (λ q low high in_ bit. first_of_cause z.place q BadPad (z.first q low high in_ bit)))
        | inr (inl e) ↦ told_end past at own early bytes r e.is (omega arith) (inr e.few) (only_padding (λ q d. ⊥) e.zeros)
        | inr (inr e) ↦ told_ok past at own early bytes r (up_to_8 len) e.is (padding_sound past at len (up_to_8 len) bytes (up_to_8 len) order e.is) (only_padding (λ q d. ⊥) e.zeros)
            (λ ends. elim ends [ inl lt ↦ omega (arith, lt) | inr lt ↦ omega (arith, lt, e.room) ])
      ]

element_told : (past : PartFault) (before : List Element) (at : ℕ) (bytes : List ℕ) → AreBytes bytes → 0 < length bytes → Told (Part EachElement bitmap_of before bytes) past at (ElementFault bytes) (PaddedEndsEarly bytes) bytes (hello_step past (bitmap_of before) at bytes)
unfolding hello_step element_at
element_told past before at bytes h some =
    let kind = number_in 0 2 bytes in
    let len = number_in 2 2 bytes in
    let own = ElementFault bytes in
    let early = PaddedEndsEarly bytes in
    let P = λ (r : Result (Option ℕ × ℕ) PartFault). Told (Part EachElement bitmap_of before bytes) past at own early bytes r in
    let wrong : Result (Option ℕ × ℕ) PartFault = Err (fault_at (at + 2) BadLength) in
    let small = ltb len 4 || (eqb kind 1 && ltb len 8) in
    let pad = padding_at past at len (up_to_8 len) bytes in
    let make : ℕ → Option ℕ × ℕ = λ taken. (first_bitmap (bitmap_of before) kind bytes, taken) in
    let fails : 4 ≤ length bytes → ElementFault bytes 2 BadLength → P wrong = λ head f. told_fault past at own early bytes wrong 2 BadLength refl (omega arith) f (length_first bytes) in
    by_less P (length bytes) 4 (Err past) (cond small wrong (pad >>= λ taken. Ok (make taken)))
    (λ few. told_end past at own early bytes (Err past) refl some (inl few) (λ q d f. (let l = some_header bytes q d f in omega arith)))
    (λ head. by_test P small wrong (pad >>= λ taken. Ok (make taken))
    (λ t. elim (or_cases (ltb len 4) (eqb kind 1 && ltb len 8) t) [
      | inl l ↦ fails head (element_length head (ltb-true _ _ l))
      | inr b ↦ let p = and_parts (eqb kind 1) (ltb len 8) b in fails head (bitmap_length head (eqb-true _ _ p.0) (ltb-true _ _ p.1))
    ])
    (λ t.
    (let p = or_parts (ltb len 4) (eqb kind 1 && ltb len 8) t in
    let eight : kind ≡ 1 → 8 ≤ len = λ one. elim (and_cases (eqb kind 1) (ltb len 8) p.1) [ inl other ↦ absurd (eqb-false kind 1 other one) | inr large ↦ ltb-false _ _ large ] in
    told_map past at (length bytes) own _ early pad make
    (λ n q. subst (λ k. Part EachElement bitmap_of before bytes (first_bitmap (bitmap_of before) kind bytes, k)) q.0 (element_part before bytes h (ltb-false _ _ p.0) eight q.1 q.2))
    (padded_told bytes head (ltb-false _ _ p.0) eight past at))))

element_is : (e : Element) (bytes : List ℕ) → SpellsElement e bytes → record { kind = number_in 0 2 bytes; content = take (number_in 2 2 bytes - 4) (drop 4 bytes) } ≡ e
element_is e bytes p =
    let a = number_again 0 2 e.kind _ bytes p.parts in
    let b = number_again 2 2 p.len _ bytes a.behind in
    let c = b.behind in
    let d = front_again (Raw (p.len - 4) e.content) (Zeros (up_to_8 p.len - p.len)) 4 (p.len - 4) bytes c c.in_front.0 in
    let content : take (number_in 2 2 bytes - 4) (drop 4 bytes) ≡ e.content = ap (λ n. take (n - 4) (drop 4 bytes)) b.value ∙ d.0.1 in
    λ i. record { kind = a.value i; content = content i }

element_steps : (past : PartFault) → Steps EachElement bitmap_of (hello_step past) past PaddedEndsEarly WrongElement
element_steps past = record {
  verdict = element_told past;
  complete = step_complete past;
  same = λ before x y bytes p q. sym (element_is x bytes p) ∙ element_is y bytes q;
  some = λ before bytes q d f. (let l = some_header bytes q d f in omega arith);
}

elements_told : (body : List ℕ) → AreBytes body
    → Verdict (Parts EachElement bitmap_of [] body) (short body) 8 (length body) (λ q d. Behind EachElement (FaultOf WrongElement q d) [] body) (Behind EachElement (CutsOff PaddedEndsEarly WrongElement) [] body) (Behind EachElement (EndsIn PaddedEndsEarly) [] body) (many (hello_step (short body)) (length body) None 8 body)
elements_told body h = many_verdict EachElement bitmap_of (hello_step (short body)) (short body) PaddedEndsEarly WrongElement (element_steps (short body)) (length body) [] 8 body h (omega arith)

pub hello_told : (version : ℕ) (body : List ℕ) → AreBytes body → Says (Is version 0 body) (HelloFault body) (hello_at version body)
unfolding hello_at
hello_told version body h =
    let step = hello_step (short body) in
    let read = many step (length body) None 8 body in
    let own : ℕ → PartCause → Type 0 = λ q d. Behind EachElement (FaultOf WrongElement q d) [] body in
    says_bind (λ bitmap. SpellsHello bitmap body) (HelloFault body) (Is version 0 body) (HelloFault body) read (λ bitmap. Ok (Hello version bitmap))
    (says_of (λ bitmap. SpellsHello bitmap body) (HelloFault body) read
    (λ bitmap e. (let r = told_value (short body) 8 (length body) own _ _ read bitmap (elements_told body h) e in record { elements = r.all; parts = r.joined; first = r.seen }))
    (tells_first own (Behind EachElement (CutsOff PaddedEndsEarly WrongElement) [] body) (Behind EachElement (EndsIn PaddedEndsEarly) [] body) 8 body (answer read) read (cut_ends EachElement PaddedEndsEarly WrongElement [] body) (gives_answer read) (elements_told body h)))
    (λ bitmap e spelled none. (record { spelled = spelled; kind_is = refl; version_is = refl }, none))
    (λ g e first. first)
