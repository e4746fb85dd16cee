-- One flow entry: what is read there is spelled there, and what is spelled is read.
use Rattle.std.proofs.Common.{◌≡◌, ℕ, ◌+◌, ◌-◌, ◌≤◌, Bool, true, false, cond, eqb, ltb, not, ◌||◌, List, ◌++◌, length, take, drop, Option, Some, None, refl, sym, ap, ◌∙◌, arith, eq-eqb, append_assoc}
use Rattle.std.proofs.lemmas.Bool.{ltb-false, le-ltb, eqb-true}
use Rattle.std.proofs.lemmas.List.{length-append, length-drop, length-take-le, take-append-drop, take_at, drop_at, drop-drop}
use Rattle.of_wire.specs.declared.fault.PartCause.{PartCause}
use Rattle.of_wire.specs.Grammar.{Then, ◌▷◌, Number}
use Rattle.of_wire.specs.Numbers.{number_in}
use Rattle.of_wire.specs.Parts.{up_to_8}
use Rattle.of_wire.proofs.Grammars.{AreBytes, bytes_drop, bytes_take, front_then, number_then, ignored_then, number_again, ignored_again, number_of_front, number_of_take, number_at_drop}
use Rattle.flow_stats.specs.declared.flow.Flow.{Flow}
use Rattle.flow_stats.specs.Parts.{Anything, SpellsKey, SpellsFlow, flow_fault, flow_len, match_type, match_len}
use Rattle.flow_stats.specs.Reading.{flow_in}

-- ---- nothing is wrong with a flow entry

pub record Sound (bytes : List ℕ) : Type 0 where
  pub least : 56 ≤ flow_len bytes
  pub within : flow_len bytes ≤ length bytes
  pub kind : match_type bytes ≡ 1
  pub four : 4 ≤ match_len bytes
  pub inside : 48 + up_to_8 (match_len bytes) ≤ flow_len bytes

none_then : {X : Type 0} (b : Bool) (x : X) (rest : Option X) → cond b (Some x) rest ≡ None → (b ≡ false) × (rest ≡ None)
none_then true x rest e = absurd (cc)
none_then false x rest e = (refl, e)

neither : (a b : Bool) → a || b ≡ false → (a ≡ false) × (b ≡ false)
neither true b e = absurd (cc)
neither false b e = (refl, e)

not_false : (b : Bool) → not b ≡ false → b ≡ true
not_false true e = refl
not_false false e = absurd (cc)

pub is_sound : (bytes : List ℕ) → flow_fault bytes ≡ None → Sound bytes
is_sound bytes e =
    let a = none_then _ _ _ e in
    let b = none_then _ _ _ a.1 in
    let c = none_then _ _ _ b.1 in
    let d = none_then _ _ _ c.1 in
    let len = neither _ _ b.0 in
    let key = neither _ _ d.0 in
    record {
      least = ltb-false _ _ len.0;
      within = ltb-false _ _ len.1;
      kind = eqb-true _ _ (not_false _ c.0);
      four = ltb-false _ _ key.0;
      inside = ltb-false _ _ key.1;
    }

pub has_no_fault : (bytes : List ℕ) → 2 ≤ length bytes → Sound bytes → flow_fault bytes ≡ None
has_no_fault bytes two s =
    let a : ltb (length bytes) 2 ≡ false = le-ltb _ _ two in
    let b : ltb (flow_len bytes) 56 ≡ false = le-ltb _ _ s.least in
    let c : ltb (length bytes) (flow_len bytes) ≡ false = le-ltb _ _ s.within in
    let d : eqb (match_type bytes) 1 ≡ true = eq-eqb _ _ s.kind in
    let e : ltb (match_len bytes) 4 ≡ false = le-ltb _ _ s.four in
    let f : ltb (flow_len bytes) (48 + up_to_8 (match_len bytes)) ≡ false = le-ltb _ _ s.inside in
    rw (a, b, c, d, e, f) refl

-- ---- numbers behind others

number_behind : (at n m : ℕ) (xs : List ℕ) → number_in at n (drop m xs) ≡ number_in (m + at) n xs
number_behind at n m xs = number_at_drop at n (drop m xs) ∙ ap (number_in 0 n) (drop-drop at m xs) ∙ sym (number_at_drop (m + at) n xs)

-- ---- what is read is spelled

take_short : (m : ℕ) (a b : List ℕ) → m ≤ length a → take m (a ++ b) ≡ take m a
take_short m a b h =
    let split : a ++ b ≡ take m a ++ (drop m a ++ b) = ap (λ l. l ++ b) (sym (take-append-drop m a)) ∙ append_assoc (take m a) (drop m a) b in
    ap (take m) split ∙ take_at (take m a) (drop m a ++ b) m (length-take-le m a h)

take_twice : (m n : ℕ) (xs : List ℕ) → m ≤ n → n ≤ length xs → take m (take n xs) ≡ take m xs
take_twice m n xs h k =
    let front = take n xs in
    let len : length front ≡ n = length-take-le n xs k in
    let whole : front ++ drop n xs ≡ xs = take-append-drop n xs in
    sym (take_short m front (drop n xs) (omega arith)) ∙ ap (take m) whole

up_more : (n : ℕ) → n ≤ up_to_8 n
up_more n = omega arith

key_sound : (xs : List ℕ) → AreBytes xs → (m : ℕ) → 4 ≤ m → up_to_8 m ≤ length xs → number_in 0 2 xs ≡ 1 → number_in 2 2 xs ≡ m
    → SpellsKey (take m xs) (take (up_to_8 m) xs)
key_sound xs h m four fits kind len =
    let more = up_more m in
    let key = take m xs in
    let size : length key ≡ m = length-take-le m xs (omega arith) in
    let all = take (up_to_8 m) xs in
    let all_size : length all ≡ up_to_8 m = length-take-le (up_to_8 m) xs fits in
    let same : take m all ≡ key = take_twice m (up_to_8 m) xs more fits in
    record {
      content =
          number_then 0 2 1 _ key (bytes_take m xs h) (omega arith) (number_of_take 0 2 m xs (omega arith) (omega arith) ∙ kind)
          (number_then 2 2 (length key) Anything key (bytes_take m xs h) (omega arith) (number_of_take 2 2 m xs (omega arith) (omega arith) ∙ len ∙ sym size) tt);
      padded = record {
        first = key;
        rest = drop m all;
        whole = sym (take-append-drop m all) ∙ ap (λ l. l ++ drop m all) same;
        in_front = refl;
        behind = omega (arith, length-drop m all, all_size, size);
      };
    }

pub flow_sound : (xs : List ℕ) → AreBytes xs → flow_len xs ≡ length xs → Sound xs → SpellsFlow (flow_in xs) xs
flow_sound xs h len s =
    let m = match_len xs in
    let inside = s.inside in
    let behind = length-drop 48 xs in
    number_then 0 2 (length xs) _ xs h (omega (arith, s.least)) len (
    number_then 2 1 (number_in 2 1 xs) _ xs h (omega (arith, s.least)) refl (
    ignored_then 3 9 _ xs (omega (arith, s.least)) (
    number_then 12 2 (number_in 12 2 xs) _ xs h (omega (arith, s.least)) refl (
    ignored_then 14 10 _ xs (omega (arith, s.least)) (
    number_then 24 8 (number_in 24 8 xs) _ xs h (omega (arith, s.least)) refl (
    number_then 32 8 (number_in 32 8 xs) _ xs h (omega (arith, s.least)) refl (
    number_then 40 8 (number_in 40 8 xs) _ xs h (omega (arith, s.least)) refl (
    front_then (SpellsKey (take m (drop 48 xs))) Anything 48 (up_to_8 m) xs
    (key_sound (drop 48 xs) (bytes_drop 48 xs h) m s.four (omega arith) (number_behind 0 2 48 xs ∙ s.kind) (number_behind 2 2 48 xs)) tt))))))))

-- ---- what is spelled is read

pub record ReadKey (key xs : List ℕ) : Type 0 where
  pub kind : number_in 0 2 xs ≡ 1
  pub len : number_in 2 2 xs ≡ length key
  pub four : 4 ≤ length key
  pub there : up_to_8 (length key) ≤ length xs
  pub is : take (length key) xs ≡ key

key_again : (key xs : List ℕ) → Then (SpellsKey key) Anything xs → ReadKey key xs
key_again key xs t =
    let k = t.in_front in
    let p = k.padded in
    let a = number_again 0 2 1 (Number 2 (length key) ▷ Anything) key k.content in
    let b = number_again 2 2 (length key) Anything key a.behind in
    let four : 4 ≤ length key = omega (arith, a.size, b.size) in
    let first : t.first ≡ key ++ p.rest = p.whole ∙ ap (λ l. l ++ p.rest) p.in_front in
    let whole : xs ≡ key ++ (p.rest ++ t.rest) = t.whole ∙ ap (λ l. l ++ t.rest) first ∙ append_assoc key p.rest t.rest in
    let more = up_more (length key) in
    let pad : length p.rest ≡ up_to_8 (length key) - length key = p.behind in
    record {
      kind = ap (number_in 0 2) whole ∙ number_of_front 0 2 key (p.rest ++ t.rest) (omega arith) ∙ a.value;
      len = ap (number_in 2 2) whole ∙ number_of_front 2 2 key (p.rest ++ t.rest) (omega arith) ∙ b.value;
      four = four;
      there = omega (arith, ap length whole, length-append key (p.rest ++ t.rest), length-append p.rest t.rest, pad, more);
      is = ap (take (length key)) whole ∙ take_at key (p.rest ++ t.rest) (length key) refl;
    }

pub record ReadFlow (f : Flow) (xs : List ℕ) : Type 0 where
  pub is : flow_in xs ≡ f
  pub len : flow_len xs ≡ length xs
  pub sound : Sound xs

pub flow_again : (f : Flow) (xs : List ℕ) → SpellsFlow f xs → ReadFlow f xs
flow_again f xs s =
    let a = number_again 0 2 (length xs) _ xs s in
    let b = number_again 2 1 f.table _ xs a.behind in
    let c = ignored_again 3 9 _ xs b.behind in
    let d = number_again 12 2 f.priority _ xs c.1 in
    let e = ignored_again 14 10 _ xs d.behind in
    let g = number_again 24 8 f.cookie _ xs e.1 in
    let h = number_again 32 8 f.packets _ xs g.behind in
    let i = number_again 40 8 f.bytes (SpellsKey f.key ▷ Anything) xs h.behind in
    let k = key_again f.key (drop 48 xs) i.behind in
    let size : length xs ≡ 48 + length (drop 48 xs) = omega (arith, a.size, b.size, c.0, d.size, e.0, g.size, h.size, i.size) in
    let kind : match_type xs ≡ 1 = sym (number_behind 0 2 48 xs) ∙ k.kind in
    let len : match_len xs ≡ length f.key = sym (number_behind 2 2 48 xs) ∙ k.len in
    let key : take (match_len xs) (drop 48 xs) ≡ f.key = ap (λ n. take n (drop 48 xs)) len ∙ k.is in
    let whole : flow_len xs ≡ length xs = a.value in
    record {
      is = λ j. record { table = b.value j; priority = d.value j; cookie = g.value j; packets = h.value j; bytes = i.value j; key = key j };
      len = whole;
      sound = record {
        least = omega (arith, whole, size, k.there, k.four);
        within = omega (arith, whole);
        kind = kind;
        four = omega (arith, len, k.four);
        inside = rw len (omega (arith, whole, size, k.there));
      };
    }

-- ---- at the front of bytes

same_sound : (f rest : List ℕ) → flow_len f ≡ length f → Sound f → Sound (f ++ rest)
same_sound f rest len s =
    let long = s.least in
    let size = length-append f rest in
    let a : flow_len (f ++ rest) ≡ flow_len f = number_of_front 0 2 f rest (omega arith) in
    let b : match_type (f ++ rest) ≡ match_type f = number_of_front 48 2 f rest (omega arith) in
    let c : match_len (f ++ rest) ≡ match_len f = number_of_front 50 2 f rest (omega arith) in
    record {
      least = omega (arith, a, s.least);
      within = omega (arith, a, s.within, size);
      kind = b ∙ s.kind;
      four = omega (arith, c, s.four);
      inside = rw (a, c) s.inside;
    }

pub front_sound : (x : Flow) (f rest : List ℕ) → SpellsFlow x f → flow_fault (f ++ rest) ≡ None
front_sound x f rest s =
    let r = flow_again x f s in
    let long = r.sound.least in
    let whole = r.len in
    has_no_fault (f ++ rest) (omega (arith, length-append f rest)) (same_sound f rest r.len r.sound)

pub front_len : (x : Flow) (f rest : List ℕ) → SpellsFlow x f → flow_len (f ++ rest) ≡ length f
front_len x f rest s =
    let r = flow_again x f s in
    let long = r.sound.least in
    let whole = r.len in
    number_of_front 0 2 f rest (omega arith) ∙ r.len

pub some_bytes : (x : Flow) (f : List ℕ) → SpellsFlow x f → 1 ≤ length f
some_bytes x f s = let r = flow_again x f s in omega (arith, r.len, r.sound.least)

-- bytes begin with one flow entry at most
pub record Same (x y : Flow) (f g a b : List ℕ) : Type 0 where
  pub flow : x ≡ y
  pub front : f ≡ g
  pub rest : a ≡ b

pub flow_alone : (x y : Flow) (f g a b : List ℕ) → SpellsFlow x f → SpellsFlow y g → f ++ a ≡ g ++ b → Same x y f g a b
flow_alone x y f g a b s t e =
    let p = flow_again x f s in
    let q = flow_again y g t in
    let long : length f ≡ length g = sym (front_len x f a s) ∙ ap flow_len e ∙ front_len y g b t in
    let front : f ≡ g = sym (take_at f a (length f) refl) ∙ ap (take (length f)) e ∙ take_at g b (length f) (sym long) in
    let rest : a ≡ b = sym (drop_at f a (length f) refl) ∙ ap (drop (length f)) e ∙ drop_at g b (length f) (sym long) in
    record { flow = sym p.is ∙ ap flow_in front ∙ q.is; front = front; rest = rest }

-- the flow entry at the front, with which nothing is wrong
pub flow_begins : (bytes : List ℕ) → AreBytes bytes → Sound bytes → SpellsFlow (flow_in (take (flow_len bytes) bytes)) (take (flow_len bytes) bytes)
flow_begins bytes h s =
    let n = flow_len bytes in
    let f = take n bytes in
    let long = s.least in
    let size : length f ≡ n = length-take-le n bytes s.within in
    let a : flow_len f ≡ n = number_of_take 0 2 n bytes (omega arith) s.within in
    let b : match_type f ≡ match_type bytes = number_of_take 48 2 n bytes (omega arith) s.within in
    let c : match_len f ≡ match_len bytes = number_of_take 50 2 n bytes (omega arith) s.within in
    flow_sound f (bytes_take n bytes h) (a ∙ sym size)
    (record { least = omega (arith, a, s.least); within = omega (arith, a, size); kind = b ∙ s.kind; four = omega (arith, c, s.four); inside = rw (a, c) s.inside })

-- ---- as the loop goes

pub none_left : (o : Option PartCause) → ((cause : PartCause) → o ≡ Some cause → ⊥) → o ≡ None
none_left None none = refl
none_left (Some cause) none = absurd (none cause refl)

-- the match of the flow entry at the front lies within it
pub key_inside : (bytes : List ℕ) → Sound bytes → 48 + match_len (take (flow_len bytes) bytes) ≤ length (take (flow_len bytes) bytes)
key_inside bytes s =
    let n = flow_len bytes in
    let long = s.least in
    let size : length (take n bytes) ≡ n = length-take-le n bytes s.within in
    let len : match_len (take n bytes) ≡ match_len bytes = number_of_take 50 2 n bytes (omega arith) s.within in
    let more = up_more (match_len bytes) in
    let inside = s.inside in
    omega (arith, size, len, more, inside)
