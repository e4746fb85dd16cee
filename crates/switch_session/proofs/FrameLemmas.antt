-- Frames at the front of bytes.
use Rattle.std.proofs.Common.{◌≡◌, ℕ, ◌+◌, ◌-◌, ◌<◌, ◌≤◌, List, [], ◌∷◌, ◌++◌, length, take, drop, get_or, refl, sym, ap, ◌∙◌, subst, arith, append_assoc, length-append, length-drop}
use Rattle.std.specs.List.{concat, AllByRecursion}
use Rattle.std.proofs.lemmas.List.{drop-append-le, drop-drop, take-append-drop, append-nil, length-take-le, take_more}
use Rattle.std.proofs.Math.ListN.{get_or-append}
use Rattle.std.proofs.Math.Seq.{take-append_seam, drop-append_seam, take-length}
use Rattle.std.proofs.lemmas.List.Folds.{concat-append}
use Rattle.of_wire.specs.Numbers.{number_in}
use Rattle.switch_session.specs.declared.stream.Frame.{Frame as Lent}
use Rattle.switch_session.specs.declared.stream.Got.{Got}
use Rattle.switch_session.specs.declared.stream.Got.TheVariants.{NotYet, Frame, Bad}
use Rattle.switch_session.specs.Frames.{told_length, IsFrame, IsBegun, IsBad, HasNoFrame, Splits, Cuts, Calls, none, feed, next}

-- what stands behind a header doesn't change the length that it tells
pub told-append : (a b : List ℕ) → 8 ≤ length a → told_length (a ++ b) ≡ told_length a
unfolding number_in
told-append a b h =
    let two : 2 ≤ length a = omega arith in
    let cut : drop 2 (a ++ b) ≡ drop 2 a ++ b = drop-append-le 2 a b two in
    let low : 1 < length (drop 2 a) = omega (arith, length-drop 2 a) in
    let none : 0 < length (drop 2 a) = omega (arith, length-drop 2 a) in
    let e : get_or (drop 2 (a ++ b)) 0 0 ≡ get_or (drop 2 a) 0 0 = ap (λ l. get_or l 0 0) cut ∙ get_or-append (drop 2 a) b 0 0 none in
    let f : get_or (drop 2 (a ++ b)) 1 0 ≡ get_or (drop 2 a) 1 0 = ap (λ l. get_or l 1 0) cut ∙ get_or-append (drop 2 a) b 0 1 low in
    cc

-- a frame at the front, of the length that the header tells
pub front_frame : (bytes : List ℕ) (len : ℕ) → 8 ≤ len → len ≤ length bytes → told_length bytes ≡ len → IsFrame (take len bytes)
front_frame bytes len least most is =
    let here : length (take len bytes) ≡ len = length-take-le len bytes most in
    let header : 8 ≤ length (take len bytes) = omega arith in
    record {
      header = header;
      whole = sym (told-append (take len bytes) (drop len bytes) header) ∙ ap told_length (take-append-drop len bytes) ∙ is ∙ sym here;
    }

-- a frame of that length lies behind what was read, and what is unread then lies behind it; a and b are reads of the items
pub taken_at : (items a b now : List ℕ) (start len : ℕ) → a ≡ items → b ≡ items → drop start items ≡ now
    → let unread = take (length a - start) (drop start a) in 8 ≤ len → len ≤ length unread → told_length unread ≡ len
    → IsFrame (take (start + len - start) (drop start b)) × (now ≡ take (start + len - start) (drop start b) ++ drop (start + len) items)
taken_at items a b now start len p q is least most tells =
    let all : take (length a - start) (drop start a) ≡ drop start a = ap (λ n. take n (drop start a)) (sym (length-drop start a)) ∙ take-length (drop start a) in
    let unread : take (length a - start) (drop start a) ≡ drop start b = all ∙ ap (drop start) (p ∙ sym q) in
    let n : start + len - start ≡ len = omega arith in
    let here : drop start b ≡ now = ap (drop start) q ∙ is in
    let cut : take len (drop start b) ++ drop len (drop start b) ≡ drop start b = take-append-drop len (drop start b) in
    let behind : drop len (drop start b) ≡ drop (start + len) items = drop-drop len start b ∙ ap (drop (start + len)) q in
    rw n (front_frame (drop start b) len least (subst (λ l. len ≤ length l) unread most) (sym (ap told_length unread) ∙ tells), cc)

-- ---- One split of a stream

front_told : (frame rest : List ℕ) → IsFrame frame → told_length (frame ++ rest) ≡ length frame
front_told frame rest is = told-append frame rest is.header ∙ is.whole

same_front : (f g a b : List ℕ) → IsFrame f → IsFrame g → f ++ a ≡ g ++ b → (f ≡ g) × (a ≡ b)
same_front f g a b p q e =
    let long : length f ≡ length g = sym (front_told f a p) ∙ ap told_length e ∙ front_told g b q in (
      sym (take-append_seam f a) ∙ ap (take (length f)) e ∙ ap (λ n. take n (g ++ b)) long ∙ take-append_seam g b,
      sym (drop-append_seam f a) ∙ ap (drop (length f)) e ∙ ap (λ n. drop n (g ++ b)) long ∙ drop-append_seam g b,
    )

one_split : (fs gs : List (List ℕ)) (r q : List ℕ) → concat fs ++ r ≡ concat gs ++ q → AllByRecursion IsFrame fs → AllByRecursion IsFrame gs
    → HasNoFrame r → HasNoFrame q → (fs ≡ gs) × (r ≡ q)
one_split [] [] r q e a b m n = (refl, e)
one_split [] (g ∷ gs) r q e a b m n = absurd (m g (concat gs ++ q) b.0 (e ∙ append_assoc g (concat gs) q))
one_split (f ∷ fs) [] r q e a b m n = absurd (n f (concat fs ++ r) a.0 (sym e ∙ append_assoc f (concat fs) r))
one_split (f ∷ fs) (g ∷ gs) r q e a b m n =
    let same = same_front f g (concat fs ++ r) (concat gs ++ q) a.0 b.0 (sym (append_assoc f (concat fs) r) ∙ e ∙ append_assoc g (concat gs) q) in
    let more = one_split fs gs r q same.1 a.1 b.1 m n in
    (ap (λ x. x ∷ fs) same.0 ∙ ap (λ xs. g ∷ xs) more.0, more.1)

pub splits_once : (stream : List ℕ) (frames others : List (List ℕ)) (rest other : List ℕ) → Splits stream frames rest → Splits stream others other
    → (frames ≡ others) × (rest ≡ other)
splits_once stream frames others rest other s t = one_split frames others rest other (sym s.whole ∙ t.whole) s.each t.each s.ended t.ended

-- ---- Calls of feed and next

calls_whole : (unread : List ℕ) (pieces frames : List (List ℕ)) (rest : List ℕ) → Calls unread pieces frames rest
    → (unread ++ concat pieces ≡ concat frames ++ rest) × AllByRecursion IsFrame frames
calls_whole _ _ _ _ (none unread) = (append-nil unread, tt)
calls_whole _ _ _ _ (feed unread piece pieces frames rest more) =
    let h = calls_whole (unread ++ piece) pieces frames rest more in
    (sym (append_assoc unread piece (concat pieces)) ∙ h.0, h.1)
calls_whole _ _ _ _ (next before frame after pieces frames rest is e more) =
    let h = calls_whole after pieces frames rest more in (
      ap (λ l. l ++ concat pieces) e ∙ append_assoc frame after (concat pieces) ∙ ap (λ l. frame ++ l) h.0 ∙ sym (append_assoc frame (concat frames) rest),
      (is, h.1),
    )

pub calls_split : (pieces frames : List (List ℕ)) (rest : List ℕ) → Calls [] pieces frames rest → HasNoFrame rest → Splits (concat pieces) frames rest
calls_split pieces frames rest c ended =
    let h = calls_whole [] pieces frames rest c in
    record { whole = h.0; each = h.1; ended = ended }

-- less than a frame doesn't begin with one, and neither does a wrong header
pub begun_none : (bytes : List ℕ) → IsBegun bytes → HasNoFrame bytes
begun_none bytes begun frame rest is e =
    let long : length frame ≤ length bytes = omega (arith, ap length e, length-append frame rest) in
    let here : told_length bytes ≡ length frame = ap told_length e ∙ front_told frame rest is in
    let least : 8 ≤ length frame = is.header in
    let more = begun (omega arith) in
    omega (arith, more.1)

pub bad_none : (bytes : List ℕ) → IsBad bytes → HasNoFrame bytes
bad_none bytes bad frame rest is e =
    let here : told_length bytes ≡ length frame = ap told_length e ∙ front_told frame rest is in
    let least : 8 ≤ length frame = is.header in
    omega (arith, bad.small)

-- ---- Reading a stream

all_more : (frames : List (List ℕ)) (frame : List ℕ) → AllByRecursion IsFrame frames → IsFrame frame → AllByRecursion IsFrame (frames ++ frame ∷ [])
all_more [] frame all is = (is, tt)
all_more (f ∷ frames) frame all is = (all.0, all_more frames frame all.1 is)

concat_more : (frames : List (List ℕ)) (frame : List ℕ) → concat (frames ++ frame ∷ []) ≡ concat frames ++ frame
concat_more frames frame = concat-append frames (frame ∷ []) ∙ ap (λ l. concat frames ++ l) (append-nil frame)

-- a frame that was taken, and a copy of it
pub one_more : (frames more : List (List ℕ)) (frame copy before after : List ℕ) → more ≡ frames ++ copy ∷ [] → copy ≡ frame
    → IsFrame frame × (before ≡ frame ++ after)
    → (concat more ++ after ≡ concat frames ++ before) × (AllByRecursion IsFrame frames → AllByRecursion IsFrame more) × (length after < length before)
one_more frames more frame copy before after is same cut =
    let all : more ≡ frames ++ frame ∷ [] = is ∙ ap (λ x. frames ++ x ∷ []) same in
    let least : 8 ≤ length frame = cut.0.header in (
      ap (λ l. concat l ++ after) all ∙ ap (λ l. l ++ after) (concat_more frames frame) ∙ append_assoc (concat frames) frame after ∙ ap (λ l. concat frames ++ l) (sym cut.1),
      λ each. subst (AllByRecursion IsFrame) (sym all) (all_more frames frame each cut.0),
      omega (arith, ap length cut.1, length-append frame after),
    )

pub no_more : (got : Got) (before after : List ℕ) → ((frame : Lent) → got ≡ Frame frame → ⊥) → Cuts got before after
    → (after ≡ before) × HasNoFrame after
no_more NotYet before after not cuts = (cuts.1, begun_none after (subst IsBegun (sym cuts.1) cuts.0))
no_more (Frame frame) before after not cuts = absurd (not frame refl)
no_more Bad before after not cuts = (cuts.1, bad_none after (subst IsBad (sym cuts.1) cuts.0))

pub nothing_yet : (frames : List (List ℕ)) (rest : List ℕ) → frames ≡ [] → rest ≡ []
    → ([] ≡ concat frames ++ rest) × AllByRecursion IsFrame frames × HasNoFrame rest
nothing_yet frames rest e f = (
  sym (ap (λ l. concat l ++ rest) e ∙ f),
  subst (AllByRecursion IsFrame) (sym e) tt,
  subst HasNoFrame (sym f) (begun_none [] (λ h. absurd (omega arith))),
)

-- one more piece
pub piece_more : (pieces : List (List ℕ)) (i : ℕ) (now fed : List ℕ) (frames more : List (List ℕ)) (piece : List ℕ) (rest : List ℕ)
    → i < length pieces → piece ≡ get_or pieces i piece → concat (take i pieces) ≡ concat frames ++ rest → fed ≡ rest ++ piece
    → concat more ++ now ≡ concat frames ++ fed → concat (take (i + 1) pieces) ≡ concat more ++ now
piece_more pieces i now fed frames more piece rest below is so e f =
    ap concat (take_more pieces i piece below) ∙ ap (λ x. concat (take i pieces ++ x ∷ [])) (sym is) ∙ concat_more (take i pieces) piece
    ∙ ap (λ l. l ++ piece) so ∙ append_assoc (concat frames) rest piece ∙ ap (λ l. concat frames ++ l) (sym e) ∙ sym f
