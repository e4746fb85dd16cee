-- Where what came is bytes, each frame that was heard is, and so it spells its message, or none.
use Rattle.std.proofs.Common.{◌≡◌, ◌<◌, ℕ, zero, suc, ◌==◌, Bool, true, false, Option, Some, None, List, [], ◌∷◌, ◌++◌, map, refl, sym, ap, ◌∙◌, subst, arith, append_assoc, eq-eqb, if◌then◌else◌}
use Rattle.std.specs.Prelude.{slice_index}
use Rattle.std.specs.List.{AllByRecursion, concat}
use Rattle.fg_outside.specs.declared.hub.Happening.{Happening}
use Rattle.fg_outside.specs.declared.hub.Happening.TheVariants as happenings
use Rattle.of13_codec.specs.declared.message.Message.{Message}
use Rattle.of_match.proofs.AfterOrder.{all_append}
use Rattle.conf_types.specs.Configuration.{Configuration}
use Rattle.ctl_world.specs.declared.said.Said.TheVariants as said
use Rattle.law_stories.specs.Right.{IsOfBytes}
use Rattle.law_lives.specs.Lives.{Life, Lives, Note, Turn, begins, begun, behind_turn, came, comes, fed, noted, noted_all, none_lives, notes_one, opened, opens, shut, speaks, takes, went}
use Rattle.law_lives.specs.Sessions.{AreRightTurns, EachMayStand}
use Rattle.law_answers.specs.Whole.{EachSpelled, HasItsLives, HasSpelledLives}
use Rattle.law_answers.proofs.Bytes.{AreSmall, all_first}

-- ---- lists

all_last : {A : Type 0} (P : A → Type 0) (xs : List A) (y : A) → AllByRecursion P (xs ++ y ∷ []) → P y
all_last P [] y all = all.0
all_last P (x ∷ xs) y all = all_last P xs y all.1

all_rest : {A : Type 0} (P : A → Type 0) (xs ys : List A) → AllByRecursion P (xs ++ ys) → AllByRecursion P ys
all_rest P [] ys all = all
all_rest P (x ∷ xs) ys all = all_rest P xs ys all.1

all_mapped : {A B : Type 0} (P : B → Type 0) (f : A → B) (xs : List A) → AllByRecursion P (map f xs) → AllByRecursion (λ x. P (f x)) xs
all_mapped P f [] all = tt
all_mapped P f (x ∷ xs) all = (all.0, all_mapped P f xs all.1)

small_at : (bytes : List ℕ) → AreSmall bytes → (i : ℕ) → slice_index bytes i < 256
small_at [] all i = omega arith
small_at (b ∷ bytes) all zero = all.0
small_at (b ∷ bytes) all (suc i) = small_at bytes all.1 i

pieces_small : (frames : List (List ℕ)) (rest : List ℕ) → AreSmall (concat frames ++ rest) → AllByRecursion AreSmall frames
pieces_small [] rest all = tt
pieces_small (f ∷ frames) rest all =
    let whole : AreSmall (f ++ (concat frames ++ rest)) = subst AreSmall (append_assoc f (concat frames) rest) all in
    (all_first (λ byte. byte < 256) f (concat frames ++ rest) whole, pieces_small frames rest (all_rest (λ byte. byte < 256) f (concat frames ++ rest) whole))

-- ---- notes

-- no note adds bytes
noted_bytes : (n : ℕ) (x : Note) (l : Life) → (notes_one n x l).bytes ≡ l.bytes
noted_bytes n (came k frame None) l = elim (k == n) as (λ (b : Bool). (if b then takes frame None l else l).bytes ≡ l.bytes) [ true ↦ refl | false ↦ refl ]
noted_bytes n (came k frame (Some it)) l = elim (k == n) as (λ (b : Bool). (if b then takes frame (Some it) l else l).bytes ≡ l.bytes) [ true ↦ refl | false ↦ refl ]
noted_bytes n (went (said.Message k m xid)) l = elim (k == n) as (λ (b : Bool). (if b then speaks m xid l else l).bytes ≡ l.bytes) [ true ↦ refl | false ↦ refl ]
noted_bytes n (went (said.Closing k cause)) l = elim (k == n) as (λ (b : Bool). (if b then shut l else l).bytes ≡ l.bytes) [ true ↦ refl | false ↦ refl ]
noted_bytes n (went (said.Line text)) l = refl

bytes_kept : (notes : List Note) (lives : Lives) (n : ℕ) → (noted_all notes lives n).bytes ≡ (lives n).bytes
bytes_kept [] lives n = refl
bytes_kept (x ∷ xs) lives n = bytes_kept xs (noted x lives) n ∙ noted_bytes n x (lives n)

-- and none takes frames back
module _ (P : List ℕ → Type 0) where
  more_frames : (said : Option (Message × ℕ)) (frame : List ℕ) (l : Life) → AllByRecursion P (takes frame said l).frames → AllByRecursion P (l.frames ++ frame ∷ [])
  more_frames None frame l all = all
  more_frames (Some it) frame l all = all

  before_frame : (b : Bool) (said : Option (Message × ℕ)) (frame : List ℕ) (l : Life) → AllByRecursion P (if b then takes frame said l else l).frames → AllByRecursion P l.frames
  before_frame true said frame l all = all_first P l.frames (frame ∷ []) (more_frames said frame l all)
  before_frame false said frame l all = all

  before : (n : ℕ) (x : Note) (l : Life) → AllByRecursion P (notes_one n x l).frames → AllByRecursion P l.frames
  before n (came k frame it) l all = before_frame (k == n) it frame l all
  before n (went (said.Message k m xid)) l all = by (k == n) all
    where
      by : (b : Bool) → AllByRecursion P (if b then speaks m xid l else l).frames → AllByRecursion P l.frames
      by true all = all
      by false all = all
  before n (went (said.Closing k cause)) l all = by (k == n) all
    where
      by : (b : Bool) → AllByRecursion P (if b then shut l else l).frames → AllByRecursion P l.frames
      by true all = all
      by false all = all
  before n (went (said.Line text)) l all = all

  before_all : (notes : List Note) (lives : Lives) (n : ℕ) → AllByRecursion P (noted_all notes lives n).frames → AllByRecursion P (lives n).frames
  before_all [] lives n all = all
  before_all (x ∷ xs) lives n all = before n x (lives n) (before_all xs (noted x lives) n all)

  own_frame : (k : ℕ) (frame : List ℕ) (it : Option (Message × ℕ)) (l : Life) → AllByRecursion P (notes_one k (came k frame it) l).frames → P frame
  own_frame k frame it l all =
      all_last P l.frames frame (more_frames it frame l (subst (λ (b : Bool). AllByRecursion P (if b then takes frame it l else l).frames) (eq-eqb k k refl) all))

each_spelled : (notes : List Note) (lives : Lives) → EachMayStand notes lives → ((n : ℕ) → AllByRecursion AreSmall (noted_all notes lives n).frames) → EachSpelled notes
each_spelled [] lives may small = tt
each_spelled (came k frame it ∷ xs) lives may small =
    let mine : AreSmall frame = own_frame AreSmall k frame it (lives k) (before_all AreSmall xs (noted (came k frame it) lives) k (small k)) in
    (may.0.1 (small_at frame mine), each_spelled xs (noted (came k frame it) lives) may.1 small)
each_spelled (went it ∷ xs) lives may small = each_spelled xs (noted (went it) lives) may.1 small

-- ---- turns

opened_small : (l : Life) → AreSmall l.bytes → AreSmall (opens l).bytes
opened_small l small = elim l.is_open as (λ (b : Bool). AreSmall (if b then l else opened l.moment).bytes) [ true ↦ small | false ↦ tt ]

fed_small : (piece : List ℕ) → AreSmall piece → (l : Life) → AreSmall l.bytes → AreSmall (fed piece l).bytes
fed_small [] bytes l small = small
fed_small (byte ∷ piece) bytes l small = all_append (λ b. b < 256) l.bytes (byte ∷ piece) small bytes

comes_small : (piece : List ℕ) → AreSmall piece → (l : Life) → AreSmall l.bytes → AreSmall (comes piece l).bytes
comes_small piece bytes l small = elim l.is_open as (λ (b : Bool). AreSmall (if b then fed piece l else l).bytes) [ true ↦ fed_small piece bytes l small | false ↦ small ]

begun_small : (n : ℕ) (h : Happening) → IsOfBytes h → (l : Life) → AreSmall l.bytes → AreSmall (begins n h l).bytes
begun_small n (happenings.Opened k) is l small = elim (k == n) as (λ (b : Bool). AreSmall (if b then opens l else l).bytes) [ true ↦ opened_small l small | false ↦ small ]
begun_small n (happenings.Heard k piece) is l small = elim (k == n) as (λ (b : Bool). AreSmall (if b then comes piece l else l).bytes) [ true ↦ comes_small piece is l small | false ↦ small ]
begun_small n (happenings.Closed k cause) is l small = elim (k == n) as (λ (b : Bool). AreSmall (if b then shut l else l).bytes) [ true ↦ small | false ↦ small ]
begun_small n (happenings.Moment moment) is l small = small
begun_small n (happenings.Reload text) is l small = small

turns_spelled : (log : List Turn) (lives : Lives) → AllByRecursion (λ (t : Turn). IsOfBytes t.what) log → ((n : ℕ) → AreSmall (lives n).bytes) → AreRightTurns log lives → AllByRecursion (λ (t : Turn). EachSpelled t.notes) log
turns_spelled [] lives bytes small right = tt
turns_spelled (t ∷ ts) lives bytes small right =
    let first : (n : ℕ) → AreSmall (begun t.what lives n).bytes = λ n. begun_small n t.what bytes.0 (lives n) (small n) in
    let behind : (n : ℕ) → AreSmall (behind_turn t lives n).bytes = λ n. subst AreSmall (sym (bytes_kept t.notes (begun t.what lives) n)) (first n) in
    let frames : (n : ℕ) → AllByRecursion AreSmall (behind_turn t lives n).frames =
    λ n. pieces_small (behind_turn t lives n).frames (right.0.each_life n).rest (subst AreSmall (right.0.each_life n).bytes (behind n)) in
    (each_spelled t.notes (begun t.what lives) right.0.each frames, turns_spelled ts (behind_turn t lives) bytes.1 behind right.1)

pub lives_spelled : (conf : Configuration) (story : List Happening) → AllByRecursion IsOfBytes story → HasItsLives conf story → HasSpelledLives conf story
lives_spelled conf story bytes lives =
    let heard = all_mapped IsOfBytes (λ (t : Turn). t.what) lives.0 (subst (AllByRecursion IsOfBytes) (sym lives.1.happened) bytes) in
    (lives, turns_spelled lives.0 none_lives heard (λ n. tt) lives.2)
