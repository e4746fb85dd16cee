-- What serde_json prints of a value's parts.
use Rattle.std.proofs.Common.{◌≡◌, ℕ, List, [], ◌∷◌, ◌++◌, Bool, true, false, cond, ◌||◌, ◌==◌, nat_lt, flat_map, if◌then◌else◌, Ordering, Less, Equal, Greater, refl, sym, ap, ◌∙◌, append_assoc, arith}
use Rattle.std.specs.Ordering.{nat_cmp, match_ordering}
use Rattle.std.specs.Cmp.Lexicographic.{slice_cmp}
use Rattle.std.proofs.lemmas.Bool.{or_from, or_parts}
use Rattle.json.specs.Print as printing
use Rattle.serde_json.specs.Data.{Data, array, object as object_of, Items, no_items, item, Members, no_members, member, put}
use Rattle.serde_json.specs.View.{view, items_view}
use Rattle.serde_json.specs.Written.{compact_text, items_text, members_text, has_float, items_have_float, members_have_float}
use Rattle.serde_json.specs.declared.value.Value.{Value}
use Rattle.conf_json.specs.Json.{escape, escaped, quoted, list, with_member, braces}
use Rattle.conf_json.specs.Values.{item_texts, member_texts}

-- ---- strings

-- which escape a byte has, by what is asked of it
by_letter : (q b f n r t : Bool) (x : ℕ) (rest : List ℕ) → (q ≡ true → nat_lt 0 x ≡ true)
    → (if q then escape x else if b then escape 98 else if f then escape 102 else if n then escape 110 else if r then escape 114 else if t then escape 116 else rest)
    ≡ (let letter = cond q x (cond b 98 (cond f 102 (cond n 110 (cond r 114 (cond t 116 0))))) in cond (nat_lt 0 letter) (92 ∷ letter ∷ []) rest)
by_letter true b f n r t x rest h = rw (h refl)
by_letter false true f n r t x rest h = refl
by_letter false false true n r t x rest h = refl
by_letter false false false true r t x rest h = refl
by_letter false false false false true t x rest h = refl
by_letter false false false false false true x rest h = refl
by_letter false false false false false false x rest h = refl

mark_is_no_zero : (x : ℕ) → ((x == 34) || (x == 92)) ≡ true → nat_lt 0 x ≡ true
mark_is_no_zero x h = grind arith

escaped_is : (x : ℕ) → escaped x ≡ printing.escape_byte x
unfolding escaped printing.escape_byte
escaped_is x = by_letter ((x == 34) || (x == 92)) (x == 8) (x == 12) (x == 10) (x == 13) (x == 9) x _ (mark_is_no_zero x)

escaped_all : (text : List ℕ) → flat_map escaped text ≡ printing.escape text
escaped_all [] = refl
escaped_all (x ∷ xs) = rw (escaped_is x, escaped_all xs)

pub quoted_is : (text : List ℕ) → quoted text ≡ printing.quoted text
unfolding quoted
quoted_is text = rw (escaped_all text)

-- ---- lists

later_items : (ds : Items) → items_text true ds ≡ flat_map (λ text. 44 ∷ text) (item_texts ds) ++ 93 ∷ []
later_items no_items = refl
later_items (item d ds) = rw (later_items ds) (ap (λ rest. 44 ∷ rest) (sym (append_assoc (compact_text d) _ _)))

pub array_text : (ds : Items) → compact_text (array ds) ≡ list (item_texts ds)
unfolding list
array_text no_items = refl
array_text (item d ds) = rw (later_items ds) (ap (λ rest. 91 ∷ rest) (sym (append_assoc (compact_text d) _ _)))

pub pushed : (vs : List Value) (v : Value) → item_texts (items_view (vs ++ v ∷ [])) ≡ item_texts (items_view vs) ++ compact_text (view v) ∷ []
pushed [] v = refl
pushed (w ∷ vs) v = ap (λ texts. compact_text (view w) ∷ texts) (pushed vs v)

pub pushed_without : (vs : List Value) (v : Value) → has_float (view v) ≡ false → items_have_float (items_view vs) ≡ false → items_have_float (items_view (vs ++ v ∷ [])) ≡ false
pushed_without [] v new old = or_from _ false new refl
pushed_without (w ∷ vs) v new old =
    let parts = or_parts (has_float (view w)) (items_have_float (items_view vs)) old in
    or_from _ _ parts.0 (pushed_without vs v new parts.1)

-- ---- objects

-- a member's text, and what stands behind it
one_member : (name text rest : List ℕ) → printing.quoted name ++ 58 ∷ (text ++ rest) ≡ (quoted name ++ 58 ∷ text) ++ rest
one_member name text rest = rw (quoted_is name) (sym (append_assoc (printing.quoted name) (58 ∷ text) rest))

later_members : (ms : Members) → members_text true ms ≡ flat_map (λ m. 44 ∷ (quoted m.0 ++ 58 ∷ m.1)) (member_texts ms) ++ 125 ∷ []
later_members no_members = refl
later_members (member name d ms) =
    ap (λ rest. 44 ∷ rest) (ap (λ rest. printing.quoted name ++ 58 ∷ (compact_text d ++ rest)) (later_members ms)
    ∙ one_member name (compact_text d) _ ∙ sym (append_assoc (quoted name ++ 58 ∷ compact_text d) _ _))

pub object_text : (ms : Members) → compact_text (object_of ms) ≡ braces (member_texts ms)
unfolding braces
object_text no_members = refl
object_text (member name d ms) =
    ap (λ rest. 123 ∷ rest) (ap (λ rest. printing.quoted name ++ 58 ∷ (compact_text d ++ rest)) (later_members ms)
    ∙ one_member name (compact_text d) _ ∙ sym (append_assoc (quoted name ++ 58 ∷ compact_text d) _ _))

texts_by_order : (o : Ordering) (a b c : Members) → member_texts (match_ordering o a b c) ≡ match_ordering o (member_texts a) (member_texts b) (member_texts c)
texts_by_order Less a b c = refl
texts_by_order Equal a b c = refl
texts_by_order Greater a b c = refl

pub put_text : (name : List ℕ) (d : Data) (ms : Members) → member_texts (put name d ms) ≡ with_member (member_texts ms) (name, compact_text d)
unfolding with_member
put_text name d no_members = refl
put_text name d (member other e ms) = texts_by_order (slice_cmp nat_cmp name other) _ _ _ ∙ rw (put_text name d ms) refl

without_by_order : (o : Ordering) (a b c : Members) → members_have_float a ≡ false → members_have_float b ≡ false → members_have_float c ≡ false → members_have_float (match_ordering o a b c) ≡ false
without_by_order Less a b c in_a in_b in_c = in_a
without_by_order Equal a b c in_a in_b in_c = in_b
without_by_order Greater a b c in_a in_b in_c = in_c

pub put_without : (name : List ℕ) (d : Data) (ms : Members) → has_float d ≡ false → members_have_float ms ≡ false → members_have_float (put name d ms) ≡ false
put_without name d no_members new old = or_from _ false new refl
put_without name d (member other e ms) new old =
    let parts = or_parts (has_float e) (members_have_float ms) old in
    without_by_order (slice_cmp nat_cmp name other) _ _ _ (or_from _ _ new old) (or_from _ _ new parts.1) (or_from _ _ parts.0 (put_without name d ms new parts.1))
