-- What reading double quotes tells is the first fault that stands there.
use Rattle.std.proofs.Common.{◌≡◌, ◌≢◌, ◌⊎◌, inl, inr, ℕ, suc, ◌+◌, ◌*◌, ◌≤◌, ◌<◌, ◌==◌, true, false, cond, ◌&&◌, List, [], ◌∷◌, ◌++◌, length, length-append, append_assoc, append-nil, Result, Ok, Err, refl, sym, ◌∙◌, ap, subst, arith, ne_eqb}
use Rattle.std.specs.List.{list_all}
use Rattle.yaml_subset.specs.declared.fault.YamlForm.TheVariants.{LongQuote}
use Rattle.yaml_subset.specs.declared.fault.YamlCause.{YamlCause}
use Rattle.yaml_subset.specs.declared.fault.YamlCause.TheVariants.{LeftOut, Syntax}
use Rattle.yaml_subset.specs.declared.quoted.Escape.{Escape}
use Rattle.yaml_subset.specs.declared.quoted.Escape.TheVariants.{Outside}
use Rattle.yaml_subset.specs.Gives.{◌>>=◌}
use Rattle.yaml_subset.specs.FirstFault.{cause_number, ComesFirst, Tells}
use Rattle.yaml_subset.specs.Characters.{is_empty, is_kept}
use Rattle.yaml_subset.specs.Quoted.{utf8_bytes, double_step, double_from}
use Rattle.yaml_subset.specs.DoubleQuoted.{ShortEscape, backslash, quote, line_feed, tab, carriage_return, IsEscape, short, low, unicode, IsPiece, character, escape, IsSpelled, spelled_none, spelled_more, BeginsEscape, IsUnfinished}
use Rattle.yaml_subset.specs.ScalarFaults.{PieceFault, double_control, no_escape, double_open, cut_escape, DoubleFault, double_fault}
use Rattle.yaml_subset.proofs.FirstFaults.{tells_err, tells_later, Later, first_of_two, and_parts, never, overlap}
use Rattle.yaml_subset.proofs.DoubleQuotes.{hex_small, Reached, begun, low_begun, low_one, unicode_begun, unicode_one, unicode_two, unicode_three, At, outside, within, no_surrogate, reached_reads, inside_step, reached_inside, escape_reads, closing_read, along}

-- ---- how long a character or an escape is

abbrev escape_size : ℕ → ℕ
escape_size letter = cond (letter == 120) 4 (cond (letter == 117) 6 2)

abbrev piece_size : List ℕ → ℕ
piece_size [] = 0
piece_size (c ∷ []) = 1
piece_size (c ∷ letter ∷ cs) = cond (c == 92) (escape_size letter) 1

abbrev HasSize : List ℕ → List ℕ → Type 0
HasSize piece rest = piece_size (piece ++ rest) ≡ length piece

short_size : (letter byte : ℕ) → ShortEscape letter byte → escape_size letter ≡ 2
short_size letter byte backslash = refl
short_size letter byte quote = refl
short_size letter byte line_feed = refl
short_size letter byte tab = refl
short_size letter byte carriage_return = refl

of_spelling : (spelling piece rest : List ℕ) → piece ≡ spelling → HasSize spelling rest → HasSize piece rest
of_spelling spelling piece rest e h = subst (λ xs. HasSize xs rest) (sym e) h

escape_sized : (piece bytes : List ℕ) → IsEscape piece bytes → (rest : List ℕ) → HasSize piece rest
escape_sized piece bytes (short letter byte s e f) rest = of_spelling (92 ∷ letter ∷ []) piece rest e (short_size letter byte s)
escape_sized piece bytes (low a b m n h k l e f) rest = of_spelling (92 ∷ 120 ∷ a ∷ b ∷ []) piece rest e refl
escape_sized piece bytes (unicode a b c d m n o p h k j i s e f) rest = of_spelling (92 ∷ 117 ∷ a ∷ b ∷ c ∷ d ∷ []) piece rest e refl

piece_sized : (piece bytes : List ℕ) → IsPiece piece bytes → (rest : List ℕ) → HasSize piece rest
piece_sized piece bytes (escape s) rest = escape_sized piece bytes s rest
piece_sized piece bytes (character c n m e f) rest = of_spelling (c ∷ []) piece rest e (one rest)
  where
    one : (rest : List ℕ) → HasSize (c ∷ []) rest
    one [] = refl
    one (x ∷ xs) = ap (λ b. cond b (escape_size x) 1) (ne_eqb c 92 m)

escape_begins : (piece bytes : List ℕ) → IsEscape piece bytes → (more : List ℕ) × (piece ≡ 92 ∷ more)
escape_begins piece bytes (short letter byte s e f) = (letter ∷ [], e)
escape_begins piece bytes (low a b m n h k l e f) = (120 ∷ a ∷ b ∷ [], e)
escape_begins piece bytes (unicode a b c d m n o p h k j i s e f) = (117 ∷ a ∷ b ∷ c ∷ d ∷ [], e)

-- the first byte is no quote
piece_begins : (piece bytes : List ℕ) → IsPiece piece bytes → (c : ℕ) × (more : List ℕ) × (piece ≡ c ∷ more) × (c ≢ 34)
piece_begins piece bytes (character c n m e f) = (c, [], e, n)
piece_begins piece bytes (escape s) = let w = escape_begins piece bytes s in (92, w.0, w.1, λ q. omega (arith, q))

same_front : (xs ys us vs : List ℕ) → xs ++ ys ≡ us ++ vs → length xs ≡ length us → (xs ≡ us) × (ys ≡ vs)
same_front [] ys [] vs e l = (refl, e)
same_front [] ys (u ∷ us) vs e l = absurd (omega arith)
same_front (x ∷ xs) ys [] vs e l = absurd (omega arith)
same_front (x ∷ xs) ys (u ∷ us) vs e l =
    let head : x ≡ u = cc in
    let tail : xs ++ ys ≡ us ++ vs = cc in
    let w = same_front xs ys us vs tail (omega arith) in
    (cc (head, w.0), w.1)

same_piece : (piece bytes piece' bytes' rest rest' : List ℕ) → IsPiece piece bytes → IsPiece piece' bytes' → piece ++ rest ≡ piece' ++ rest' → (piece ≡ piece') × (rest ≡ rest')
same_piece piece bytes piece' bytes' rest rest' p q e =
    same_front piece rest piece' rest' e (sym (piece_sized piece bytes p rest) ∙ ap piece_size e ∙ piece_sized piece' bytes' q rest')

-- no whole character or escape stands at the front of one that is cut
no_piece_in : (front : List ℕ) → IsUnfinished front → (piece bytes rest : List ℕ) → IsPiece piece bytes → front ≡ piece ++ rest → ⊥
no_piece_in front u piece bytes rest p e =
    let whole : List ℕ = (front ++ u.next ∷ []) ++ u.begins.more in
    let behind : List ℕ = (rest ++ u.next ∷ []) ++ u.begins.more in
    let same : whole ≡ piece ++ behind = ap (λ xs. (xs ++ u.next ∷ []) ++ u.begins.more) e ∙ ap (λ xs. xs ++ u.begins.more) (append_assoc piece rest (u.next ∷ [])) ∙ append_assoc piece (rest ++ u.next ∷ []) u.begins.more in
    let size : piece_size whole ≡ length whole = ap piece_size (sym (append-nil whole)) ∙ escape_sized whole u.begins.bytes u.begins.is [] in
    let sizes : length whole ≡ length piece = sym size ∙ ap piece_size same ∙ piece_sized piece bytes p behind in
    let a : length whole ≡ length (front ++ u.next ∷ []) + length u.begins.more = length-append (front ++ u.next ∷ []) u.begins.more in
    let b : length (front ++ u.next ∷ []) ≡ length front + 1 = length-append front (u.next ∷ []) in
    let c : length front ≡ length piece + length rest = ap length e ∙ length-append piece rest in
    omega (arith, sizes, a, b, c)

-- a longer front of an escape begins as it does
begins_so : (front : List ℕ) → IsUnfinished front → (few : List ℕ) (c : ℕ) (rest : List ℕ) → front ≡ few ++ c ∷ rest → BeginsEscape (few ++ c ∷ [])
begins_so front u few c rest e =
    let whole : List ℕ = (front ++ u.next ∷ []) ++ u.begins.more in
    let behind : List ℕ = (rest ++ u.next ∷ []) ++ u.begins.more in
    let same : whole ≡ (few ++ c ∷ []) ++ behind =
    ap (λ xs. (xs ++ u.next ∷ []) ++ u.begins.more) e
    ∙ ap (λ xs. xs ++ u.begins.more) (append_assoc few (c ∷ rest) (u.next ∷ []))
    ∙ append_assoc few (c ∷ rest ++ u.next ∷ []) u.begins.more
    ∙ sym (append_assoc few (c ∷ []) behind) in
    record { more = behind; bytes = u.begins.bytes; is = subst (λ xs. IsEscape xs u.begins.bytes) same u.begins.is }

-- ---- what is reached

reached_front : (state : Escape) (front : List ℕ) → Reached state front → (more : List ℕ) × (front ≡ 92 ∷ more)
reached_front state front begun = ([], refl)
reached_front state front low_begun = (120 ∷ [], refl)
reached_front state front (low_one a m h l) = (120 ∷ a ∷ [], refl)
reached_front state front unicode_begun = (117 ∷ [], refl)
reached_front state front (unicode_one a m h) = (117 ∷ a ∷ [], refl)
reached_front state front (unicode_two a b m n h k q) = (117 ∷ a ∷ b ∷ [], refl)
reached_front state front (unicode_three a b c m n o h k j q) = (117 ∷ a ∷ b ∷ c ∷ [], refl)

ends_so : (front : List ℕ) (next : ℕ) (more bytes : List ℕ) → IsEscape ((front ++ next ∷ []) ++ more) bytes → IsUnfinished front
ends_so front next more bytes is = record { next = next; begins = record { more = more; bytes = bytes; is = is } }

unfinished : (state : Escape) (front : List ℕ) → Reached state front → IsUnfinished front
unfinished state front begun = ends_so (92 ∷ []) 110 [] (10 ∷ []) (short 110 10 line_feed refl refl)
unfinished state front low_begun = ends_so (92 ∷ 120 ∷ []) 48 (48 ∷ []) (utf8_bytes (0 * 16 + 0)) (low 48 48 0 0 refl refl (omega arith) refl refl)
unfinished state front (low_one a m h l) = ends_so (92 ∷ 120 ∷ a ∷ []) 48 [] (utf8_bytes (m * 16 + 0)) (low a 48 m 0 h refl l refl refl)
unfinished state front unicode_begun =
    ends_so (92 ∷ 117 ∷ []) 48 (48 ∷ 48 ∷ 48 ∷ []) (utf8_bytes (((0 * 16 + 0) * 16 + 0) * 16 + 0)) (unicode 48 48 48 48 0 0 0 0 refl refl refl refl (inl (omega arith)) refl refl)
unfinished state front (unicode_one a m h) =
    let s = no_surrogate m 0 0 0 (hex_small a m h) (omega arith) (omega arith) (omega arith) (λ q. omega arith) in
    ends_so (92 ∷ 117 ∷ a ∷ []) 48 (48 ∷ 48 ∷ []) (utf8_bytes (((m * 16 + 0) * 16 + 0) * 16 + 0)) (unicode a 48 48 48 m 0 0 0 h refl refl refl s refl refl)
unfinished state front (unicode_two a b m n h k q) =
    let s = no_surrogate m n 0 0 (hex_small a m h) (hex_small b n k) (omega arith) (omega arith) q in
    ends_so (92 ∷ 117 ∷ a ∷ b ∷ []) 48 (48 ∷ []) (utf8_bytes (((m * 16 + n) * 16 + 0) * 16 + 0)) (unicode a b 48 48 m n 0 0 h k refl refl s refl refl)
unfinished state front (unicode_three a b c m n o h k j q) =
    let s = no_surrogate m n o 0 (hex_small a m h) (hex_small b n k) (hex_small c o j) (omega arith) q in
    ends_so (92 ∷ 117 ∷ a ∷ b ∷ c ∷ []) 48 [] (utf8_bytes (((m * 16 + n) * 16 + o) * 16 + 0)) (unicode a b c 48 m n o 0 h k j refl s refl refl)

-- with a byte that is refused no escape begins
none_begins : (state : Escape) (front : List ℕ) (c : ℕ) → Reached state front → double_step state c ≡ Err Syntax → BeginsEscape (front ++ c ∷ []) → ⊥
none_begins state front c at e b =
    let line : List ℕ = ((front ++ c ∷ []) ++ b.more) ++ 34 ∷ [] in
    let same : line ≡ front ++ (c ∷ (b.more ++ 34 ∷ [])) = ap (λ xs. xs ++ 34 ∷ []) (append_assoc front (c ∷ []) b.more) ∙ append_assoc front (c ∷ b.more) (34 ∷ []) in
    let reads : double_from Outside [] line ≡ Ok (b.bytes, []) = escape_reads ((front ++ c ∷ []) ++ b.more) b.bytes b.is [] (34 ∷ []) ∙ closing_read b.bytes [] in
    let fails : double_from Outside [] line ≡ Err Syntax =
    ap (double_from Outside []) same
    ∙ reached_reads state front at [] (c ∷ (b.more ++ 34 ∷ []))
    ∙ inside_step state c [] (b.more ++ 34 ∷ []) (reached_inside state front at)
    ∙ ap (λ (r : Result (Escape × List ℕ) YamlCause). r >>= (λ (s : Escape × List ℕ). double_from s.0 ([] ++ s.1) (b.more ++ 34 ∷ []))) e in
    cc (reads, fails)

-- ---- which faults stand behind it

-- no fault stands before the end of a front of an escape
module _ (front : List ℕ) (u : IsUnfinished front) (tail : List ℕ) (shape : front ≡ 92 ∷ tail) (rest : List ℕ) where
  piece_late : (r : List ℕ) (at : ℕ) (cause : YamlCause) → PieceFault r at cause → r ≡ front ++ rest → length front ≤ at
  piece_late r at cause (double_control c behind e k) same =
      let line : c ∷ behind ≡ 92 ∷ tail ++ rest = sym e ∙ same ∙ ap (λ xs. xs ++ rest) shape in
      let head : c ≡ 92 = cc in
      never (is_kept c) (ap is_kept head) k
  piece_late r at cause (no_escape few c behind e v n) same = by_overlap (overlap (92 ∷ few) (c ∷ behind) front rest (sym e ∙ same))
    where
      by_overlap : ((ws : List ℕ) × (92 ∷ few ≡ front ++ ws) × (rest ≡ ws ++ c ∷ behind)) ⊎ ((w : ℕ) × (ws : List ℕ) × (front ≡ (92 ∷ few) ++ w ∷ ws) × (c ∷ behind ≡ w ∷ ws ++ rest)) → length front ≤ suc (length few)
      by_overlap (inl (ws, a, b)) = let l : suc (length few) ≡ length front + length ws = ap length a ∙ length-append front ws in omega arith
      by_overlap (inr (w, ws, a, b)) = let head : w ≡ c = cc in absurd (n (begins_so front u (92 ∷ few) c ws (a ∙ ap (λ (x : ℕ). (92 ∷ few) ++ x ∷ ws) head)))
  piece_late r at cause (double_open e) same = let f : r ≡ 92 ∷ tail ++ rest = same ∙ ap (λ xs. xs ++ rest) shape in never (is_empty r) e (ap is_empty f)
  piece_late r at cause (cut_escape few e v) same = let l : length r ≡ length front + length rest = ap length same ∙ length-append front rest in omega arith

  late : (inside : List ℕ) → inside ≡ front ++ rest → (at : ℕ) (cause : YamlCause) → DoubleFault inside at cause → length front ≤ at
  late inside same at cause (double_fault spelling text r s e k d f) = by_spelling spelling text s e
    where
      by_piece : (piece bytes more : List ℕ) → IsPiece piece bytes
          → ((ws : List ℕ) × (piece ≡ front ++ ws) × (rest ≡ ws ++ (more ++ r))) ⊎ ((w : ℕ) × (ws : List ℕ) × (front ≡ piece ++ w ∷ ws) × (more ++ r ≡ w ∷ ws ++ rest)) → length front ≤ length (piece ++ more) + k
      by_piece piece bytes more p (inl (ws, a, b)) =
          let l : length piece ≡ length front + length ws = ap length a ∙ length-append front ws in
          let m : length (piece ++ more) ≡ length piece + length more = length-append piece more in
          omega arith
      by_piece piece bytes more p (inr (w, ws, a, b)) = absurd (no_piece_in front u piece bytes (w ∷ ws) p a)

      by_spelling : (spelling text : List ℕ) → IsSpelled spelling text → inside ≡ spelling ++ r → length front ≤ length spelling + k
      by_spelling spelling text spelled_none g = let l = piece_late r k d f (sym g ∙ same) in omega arith
      by_spelling spelling text (spelled_more piece bytes more others p q) g =
          by_piece piece bytes more p (overlap piece (more ++ r) front rest (sym (append_assoc piece more r) ∙ sym g ∙ same))

-- ---- what is told

abbrev AtEnd : List ℕ → ℕ → YamlCause → Type 0
AtEnd inside at cause = (14 ≤ cause_number cause) × ((18 ≤ cause_number cause) ⊎ (at ≡ length inside))

-- a fault that is no Syntax stands at the line's end
numbered : (inside : List ℕ) (at : ℕ) (cause : YamlCause) → DoubleFault inside at cause → AtEnd inside at cause
numbered inside at cause (double_fault spelling text r s e k d f) = by_fault r k d f (ap length e ∙ length-append spelling r)
  where
    none : (xs : List ℕ) → is_empty xs ≡ true → length xs ≡ 0
    none [] h = refl
    none (x ∷ xs) h = absurd cc

    by_fault : (r : List ℕ) (k : ℕ) (d : YamlCause) → PieceFault r k d → length inside ≡ length spelling + length r → AtEnd inside (length spelling + k) d
    by_fault r k d (double_control c behind g u) l = (omega arith, inl (omega arith))
    by_fault r k d (no_escape few c behind g v n) l = (omega arith, inl (omega arith))
    by_fault r k d (double_open g) l = (omega arith, inr (let z = none r g in omega arith))
    by_fault r k d (cut_escape few g v) l = (omega arith, inr (omega arith))

syntax_first : (inside : List ℕ) (place at : ℕ) (cause : YamlCause) → place ≤ at → place < length inside → AtEnd inside at cause → ComesFirst place Syntax at cause
syntax_first inside place at cause le lt w = elim w.1 [
  | inl n ↦ first_of_two place at Syntax cause le n
  | inr e ↦ inl (omega (arith, e))
]

here : (r : List ℕ) (k : ℕ) (cause : YamlCause) → PieceFault r k cause → DoubleFault r k cause
here r k cause f = let e : length {A = ℕ} [] + k ≡ k = omega arith in subst (λ p. DoubleFault r p cause) e (double_fault [] [] r spelled_none refl k cause f)

cut_told : (state : Escape) (front out : List ℕ) → At state front → Tells {X = List ℕ × List ℕ} (DoubleFault front) (Err (LeftOut LongQuote))
cut_told state front out outside =
    tells_err {X = List ℕ × List ℕ} (DoubleFault []) (Err (LeftOut LongQuote)) 0 (LeftOut LongQuote) refl (here [] 0 (LeftOut LongQuote) (double_open refl))
    (λ at cause f. first_of_two 0 at (LeftOut LongQuote) cause (omega arith) (numbered [] at cause f).0)
cut_told state front out (within s g at) =
    let shape = reached_front state front at in
    let u = unfinished state front at in
    tells_err {X = List ℕ × List ℕ} (DoubleFault front) (Err (LeftOut LongQuote)) (length front) (LeftOut LongQuote) refl
    (here front (length front) (LeftOut LongQuote) (cut_escape shape.0 shape.1 (subst IsUnfinished shape.1 u)))
    (λ p cause f. first_of_two (length front) p (LeftOut LongQuote) cause (late front u shape.0 shape.1 [] front (sym (append-nil front)) p cause f) (numbered front p cause f).0)

closed_told : (after : List ℕ) (at : ℕ) (cause : YamlCause) → DoubleFault (34 ∷ after) at cause → ⊥
closed_told after at cause (double_fault spelling text r s e k d f) = by_spelling spelling text s e
  where
    no_fault : (r : List ℕ) (k : ℕ) (d : YamlCause) → PieceFault r k d → 34 ∷ after ≡ r → ⊥
    no_fault r k d (double_control c behind g u) same = let head : c ≡ 34 = cc in never (is_kept c) (ap is_kept head) u
    no_fault r k d (no_escape few c behind g v n) same = let head : ◌≡◌ {A = ℕ} 34 92 = cc in omega arith
    no_fault r k d (double_open g) same = never (is_empty r) g (ap is_empty (sym same))
    no_fault r k d (cut_escape few g v) same = let head : ◌≡◌ {A = ℕ} 34 92 = cc in omega arith

    by_spelling : (spelling text : List ℕ) → IsSpelled spelling text → 34 ∷ after ≡ spelling ++ r → ⊥
    by_spelling spelling text spelled_none g = no_fault r k d f g
    by_spelling spelling text (spelled_more piece bytes more others p q) g =
        let w = piece_begins piece bytes p in
        let same : 34 ∷ after ≡ w.0 ∷ (w.1 ++ more) ++ r = g ∙ ap (λ xs. (xs ++ more) ++ r) w.2 in
        let head : w.0 ≡ 34 = cc in
        w.3 head

refused_told : (state : Escape) (front : List ℕ) (c : ℕ) (rest out : List ℕ) → Reached state front → double_step state c ≡ Err Syntax → Tells {X = List ℕ × List ℕ} (DoubleFault (front ++ c ∷ rest)) (Err Syntax)
refused_told state front c rest out at e =
    let shape = reached_front state front at in
    let u = unfinished state front at in
    let whole : List ℕ = front ++ c ∷ rest in
    let l : length whole ≡ length front + suc (length rest) = length-append front (c ∷ rest) in
    let n : length front ≡ suc (length shape.0) = ap length shape.1 in
    tells_err {X = List ℕ × List ℕ} (DoubleFault whole) (Err Syntax) (length front) Syntax refl
    (here whole (length front) Syntax (subst (λ p. PieceFault whole p Syntax) (sym n)
    (no_escape shape.0 c rest (ap (λ xs. xs ++ c ∷ rest) shape.1) (subst IsUnfinished shape.1 u) (subst (λ xs. BeginsEscape (xs ++ c ∷ []) → ⊥) shape.1 (none_begins state front c at e)))))
    (λ p cause f. syntax_first whole (length front) p cause (late front u shape.0 shape.1 (c ∷ rest) whole refl p cause f) (omega arith) (numbered whole p cause f))

unkept_told : (c : ℕ) (rest out : List ℕ) → is_kept c ≡ false → Tells {X = List ℕ × List ℕ} (DoubleFault (c ∷ rest)) (Err Syntax)
unkept_told c rest out k =
    tells_err {X = List ℕ × List ℕ} (DoubleFault (c ∷ rest)) (Err Syntax) 0 Syntax refl (here (c ∷ rest) 0 Syntax (double_control c rest refl k))
    (λ at cause f. syntax_first (c ∷ rest) 0 at cause (omega arith) (omega arith) (numbered (c ∷ rest) at cause f))

-- behind a character or an escape
module _ (piece bytes rest : List ℕ) (p : IsPiece piece bytes) (kept : list_all is_kept piece ≡ true) where
  piece_none : (r : List ℕ) (k : ℕ) (d : YamlCause) → PieceFault r k d → r ≡ piece ++ rest → ⊥
  piece_none r k d (double_control c behind g u) same =
      let w = piece_begins piece bytes p in
      let all : is_kept w.0 && list_all is_kept w.1 ≡ true = ap (list_all is_kept) (sym w.2) ∙ kept in
      let both = and_parts (is_kept w.0) (list_all is_kept w.1) all in
      let line : c ∷ behind ≡ w.0 ∷ w.1 ++ rest = sym g ∙ same ∙ ap (λ xs. xs ++ rest) w.2 in
      let head : c ≡ w.0 = cc in
      never (is_kept c) (ap is_kept head ∙ both.0) u
  piece_none r k d (no_escape few c behind g v n) same = by_overlap (overlap (92 ∷ few) (c ∷ behind) piece rest (sym g ∙ same))
    where
      begins_it : (w : ℕ) (ws : List ℕ) → piece ≡ (92 ∷ few) ++ w ∷ ws → w ≡ c → IsPiece piece bytes → ⊥
      begins_it w ws a e (character x m l h f) = let head : x ≡ 92 = cc in l head
      begins_it w ws a e (escape s) =
          n (record { more = ws; bytes = bytes; is = subst (λ xs. IsEscape xs bytes) (a ∙ ap (λ (x : ℕ). (92 ∷ few) ++ x ∷ ws) e ∙ sym (append_assoc (92 ∷ few) (c ∷ []) ws)) s })

      by_overlap : ((ws : List ℕ) × (92 ∷ few ≡ piece ++ ws) × (rest ≡ ws ++ c ∷ behind)) ⊎ ((w : ℕ) × (ws : List ℕ) × (piece ≡ (92 ∷ few) ++ w ∷ ws) × (c ∷ behind ≡ w ∷ ws ++ rest)) → ⊥
      by_overlap (inl (ws, a, b)) = no_piece_in (92 ∷ few) v piece bytes ws p a
      by_overlap (inr (w, ws, a, b)) = let head : w ≡ c = cc in begins_it w ws a head p
  piece_none r k d (double_open g) same =
      let w = piece_begins piece bytes p in
      let line : r ≡ w.0 ∷ w.1 ++ rest = same ∙ ap (λ xs. xs ++ rest) w.2 in
      never (is_empty r) g (ap is_empty line)
  piece_none r k d (cut_escape few g v) same = no_piece_in (92 ∷ few) v piece bytes rest p (sym g ∙ same)

  past : (inside : List ℕ) → inside ≡ piece ++ rest → (at : ℕ) (cause : YamlCause) → DoubleFault inside at cause → Later (length piece) (DoubleFault rest) at cause
  past inside same at cause (double_fault spelling text r s e k d f) = by_spelling spelling text s e
    where
      by_spelling : (spelling text : List ℕ) → IsSpelled spelling text → inside ≡ spelling ++ r → Later (length piece) (DoubleFault rest) (length spelling + k) d
      by_spelling spelling text spelled_none g = absurd (piece_none r k d f (sym g ∙ same))
      by_spelling spelling text (spelled_more first firsts more others q t) g =
          let w = same_piece first firsts piece bytes (more ++ r) rest q p (sym (append_assoc first more r) ∙ sym g ∙ same) in
          let l : length (first ++ more) ≡ length first + length more = length-append first more in
          let m : length first ≡ length piece = ap length w.0 in
          (length more + k, omega arith, double_fault more others r t (sym w.1) k d f)

  before : (at : ℕ) (cause : YamlCause) → DoubleFault rest at cause → DoubleFault (piece ++ rest) (length piece + at) cause
  before at cause (double_fault spelling text r s e k d f) =
      let l : length (piece ++ spelling) ≡ length piece + length spelling = length-append piece spelling in
      let place : length (piece ++ spelling) + k ≡ length piece + (length spelling + k) = omega arith in
      subst (λ x. DoubleFault (piece ++ rest) x d) place
      (double_fault (piece ++ spelling) (bytes ++ text) r (spelled_more piece bytes spelling text p s) (ap (λ xs. piece ++ xs) e ∙ sym (append_assoc piece spelling r)) k d f)

  more_told : (out : List ℕ) (r : Result (List ℕ × List ℕ) YamlCause) → Tells {X = List ℕ × List ℕ} (DoubleFault rest) r → Tells {X = List ℕ × List ℕ} (DoubleFault (piece ++ rest)) r
  more_told out r t = tells_later (length piece) (DoubleFault (piece ++ rest)) (DoubleFault rest) r (past (piece ++ rest) refl) before t

pub double_tells : (inside : List ℕ) → Tells {X = List ℕ × List ℕ} (DoubleFault inside) (double_from Outside [] inside)
double_tells inside =
    along (λ whole r out. Tells {X = List ℕ × List ℕ} (DoubleFault whole) r)
    cut_told
    (λ out after. closed_told after)
    refused_told
    unkept_told
    (λ piece bytes rest out r p kept t. more_told piece bytes rest p kept out r t)
    inside Outside [] [] outside
