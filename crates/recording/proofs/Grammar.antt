-- A recording has its records, or a first one that is refused, and never both.
use Rattle.std.proofs.Common.{◌≡◌, ◌⊎◌, ℕ, zero, suc, ◌+◌, ◌-◌, ◌^◌, ◌<◌, ◌≤◌, Bool, true, false, not, nat_lt, if◌then◌else◌, List, [], ◌∷◌, ◌++◌, length, take, drop, Option, Some, None, refl, sym, ◌∙◌, ap, subst, arith, append_assoc, length-append, length-drop, inl, inr}
use Rattle.std.proofs.lemmas.List.{append-nil, take-append-drop, length-take-le}
use Rattle.std.proofs.lemmas.Option.{same_Some}
use Rattle.std.proofs.lemmas.Bool.{ltb-true, ltb-false, le-ltb}
use Rattle.std.proofs.Math.Seq.{take-append_seam, drop-append_seam}
use Rattle.std.specs.Option.{option_or}
use Rattle.recording.specs.declared.kind.RecordKind.{RecordKind}
use Rattle.recording.specs.declared.kind.RecordKind.TheVariants.{Open, Bytes, Close, Reload, Moment}
use Rattle.recording.specs.declared.header.Header.{Header}
use Rattle.recording.specs.declared.record.Record.{Record}
use Rattle.recording.specs.declared.refused.RecordCause.{RecordCause}
use Rattle.recording.specs.declared.refused.RecordCause.TheVariants.{Cut, Many, Length, Falls, Conn}
use Rattle.recording.specs.Kinds.{number_of, kind_of, is_length}
use Rattle.recording.specs.Conns.{is_conn}
use Rattle.recording.specs.Layout.{moment_in, kind_in, conn_in, len_in, HasLayout, Spells}
use Rattle.recording.specs.Recording.{Place, first_place, after, after_all, Follows, AllFollow, AllSpell, Records}
use Rattle.recording.specs.Refused.{kind_refusal, header_refusal, refusal, IsRefused}
use Rattle.recording.specs.HeaderIs.{HeaderIs}
use Rattle.recording.proofs.Refusals.{number_at-front, same_header, refusal-whole}
use Rattle.recording.proofs.Taking.{record_of, taken_spells, taken_follows}

-- ---- bytes spell one record

kind_back : (kind : RecordKind) → kind_of (number_of kind) ≡ Some kind
kind_back Open = refl
kind_back Bytes = refl
kind_back Close = refl
kind_back Reload = refl
kind_back Moment = refl

same_kind : (j k : RecordKind) → number_of j ≡ number_of k → j ≡ k
same_kind j k h = same_Some j k (sym (kind_back j) ∙ ap kind_of h ∙ kind_back k)

same_record : (r q : Record) (bytes : List ℕ) → Spells r bytes → Spells q bytes → r ≡ q
same_record r q bytes a b =
    ap (λ m. let p : Record = record { moment = m; kind = r.kind; conn = r.conn; body = r.body } in p) (sym a.has_moment ∙ b.has_moment)
    ∙ ap (λ k. let p : Record = record { moment = q.moment; kind = k; conn = r.conn; body = r.body } in p) (same_kind r.kind q.kind (sym a.has_kind ∙ b.has_kind))
    ∙ ap (λ n. let p : Record = record { moment = q.moment; kind = q.kind; conn = n; body = r.body } in p) (sym a.has_conn ∙ b.has_conn)
    ∙ ap (λ (l : List ℕ). let p : Record = record { moment = q.moment; kind = q.kind; conn = q.conn; body = l } in p) (sym a.has_body ∙ b.has_body)

layout_length : (m k c : ℕ) (body x y : List ℕ) → HasLayout m k c body x → length x ≡ 17 + len_in (x ++ y)
layout_length m k c body x y a = omega (arith, a.size, a.has_len, number_at-front 4 13 x y (omega (arith, a.size)))

-- two records at the front of the same bytes are the same bytes
pub same_layouts : (m k c : ℕ) (body : List ℕ) (n j d : ℕ) (other x y u v : List ℕ) → HasLayout m k c body x → HasLayout n j d other u → x ++ y ≡ u ++ v → (x ≡ u) × (y ≡ v)
same_layouts m k c body n j d other x y u v a b h =
    let len : length x ≡ length u = layout_length m k c body x y a ∙ ap (λ (l : List ℕ). 17 + len_in l) h ∙ sym (layout_length n j d other u v b) in (
      sym (take-append_seam x y) ∙ ap (λ n. take n (x ++ y)) len ∙ ap (λ (l : List ℕ). take (length u) l) h ∙ take-append_seam u v,
      sym (drop-append_seam x y) ∙ ap (λ n. drop n (x ++ y)) len ∙ ap (λ (l : List ℕ). drop (length u) l) h ∙ drop-append_seam u v,
    )

no_record : (r : Record) (first rest : List ℕ) → Spells r first → [] ≡ first ++ rest → ⊥
no_record r first rest a h = omega (arith, a.size, ap (λ (l : List ℕ). length l) h, length-append first rest)

-- records at the front of bytes that records spell
pub fronts_split : (fs rs : List Record) (front more : List ℕ) → AllSpell fs front → AllSpell rs (front ++ more) → (tail : List Record) × (rs ≡ fs ++ tail) × AllSpell tail more
fronts_split [] rs front more none all = (rs, refl, subst (λ (l : List ℕ). AllSpell rs l) (ap (λ (l : List ℕ). l ++ more) none) all)
fronts_split (f ∷ fs) [] front more (x, y, parts, here, below) all =
    absurd (no_record f x (y ++ more) here (sym (sym (append_assoc x y more) ∙ ap (λ (l : List ℕ). l ++ more) (sym parts) ∙ all)))
fronts_split (f ∷ fs) (r ∷ rs) front more (x, y, parts, here, below) (u, v, parts2, here2, below2) =
    let whole : x ++ (y ++ more) ≡ u ++ v = sym (append_assoc x y more) ∙ ap (λ (l : List ℕ). l ++ more) (sym parts) ∙ parts2 in
    let same = same_layouts f.moment (number_of f.kind) f.conn f.body r.moment (number_of r.kind) r.conn r.body x (y ++ more) u v here here2 whole in
    let first : f ≡ r = same_record f r u (subst (λ (l : List ℕ). Spells f l) same.0 here) here2 in
    let deeper = fronts_split fs rs y more below (subst (λ (l : List ℕ). AllSpell rs l) (sym same.1) below2) in
    (deeper.0, ap (λ (q : Record). q ∷ rs) (sym first) ∙ ap (λ (l : List Record). f ∷ l) deeper.1, deeper.2)

none_left : (tail : List Record) (bytes : List ℕ) → bytes ≡ [] → AllSpell tail bytes → tail ≡ []
none_left [] bytes none all = refl
none_left (t ∷ tail) bytes none (first, rest, parts, here, below) = absurd (no_record t first rest here (sym none ∙ parts))

pub front_records : (front more : List ℕ) (fs rs : List Record) → Records front fs → Records (front ++ more) rs → (tail : List Record) × (rs ≡ fs ++ tail)
front_records front more fs rs a b = let split = fronts_split fs rs front more a.spell b.spell in (split.0, split.1)

pub one_list : (bytes : List ℕ) (rs qs : List Record) → Records bytes rs → Records bytes qs → rs ≡ qs
one_list bytes rs qs a b =
    let split = fronts_split rs qs bytes [] a.spell (subst (λ (l : List ℕ). AllSpell qs l) (sym (append-nil bytes)) b.spell) in
    sym (split.1 ∙ ap (λ (l : List Record). rs ++ l) (none_left split.0 [] refl split.2) ∙ append-nil rs)

-- ---- bytes have records, or a first one that is refused

passes : (numbered short : Bool) (more : Option RecordCause) → (if numbered then (if short then Some Cut else more) else Some Many) ≡ None → (numbered ≡ true) × (short ≡ false) × (more ≡ None)
passes true true more h = cc
passes true false more h = (refl, refl, h)
passes false short more h = cc

neither_of : (a : Option RecordCause) (cut : Bool) → option_or a (if cut then Some Cut else None) ≡ None → (a ≡ None) × (cut ≡ false)
neither_of None true h = cc
neither_of None false h = (refl, refl)
neither_of (Some k) cut h = cc

-- the record at the front of bytes with which nothing is wrong
pub record Front (place : Place) (bytes : List ℕ) : Type 0 where
  pub r : Record
  pub first : List ℕ
  pub rest : List ℕ
  pub parts : bytes ≡ first ++ rest
  pub spells : Spells r first
  pub follows : Follows place r

with_kind : (place : Place) (head more : List ℕ) (kind : Option RecordKind) → kind_of (kind_in head) ≡ kind → place.count + 1 < 2 ^ 64 - 1 → length head ≡ 17 → header_refusal place head kind ≡ None → len_in head ≤ length more → Front place (head ++ more)
with_kind place head more None is number whole accepted long = cc
with_kind place head more (Some kind) is number whole accepted long =
    let len = len_in head in
    let body = take len more in
    let h : Header = record { moment = moment_in head; kind = kind; conn = conn_in head; len = len } in
    let ok : HeaderIs place head h = record {
      whole = whole;
      number = number;
      moment = refl;
      kind = is;
      conn = refl;
      len = refl;
      accepted = ap (λ k. header_refusal place head k) is ∙ accepted;
    } in
    let there : length body ≡ len = length-take-le len more long in
    record {
      r = record_of h body;
      first = head ++ body;
      rest = drop len more;
      parts = ap (λ (l : List ℕ). head ++ l) (sym (take-append-drop len more)) ∙ sym (append_assoc head body (drop len more));
      spells = taken_spells place head body h ok there;
      follows = taken_follows place head body h ok there;
    }

accepted_front : (place : Place) (bytes : List ℕ) → refusal place bytes ≡ None → Front place bytes
accepted_front place bytes h =
    let tests = passes (nat_lt (place.count + 1) (2 ^ 64 - 1)) (nat_lt (length bytes) 17) _ h in
    let number : place.count + 1 < 2 ^ 64 - 1 = ltb-true _ _ tests.0 in
    let long : 17 ≤ length bytes = ltb-false _ _ tests.1 in
    let both = neither_of (header_refusal place bytes (kind_of (kind_in bytes))) (nat_lt (length bytes) (17 + len_in bytes)) tests.2 in
    let whole : 17 + len_in bytes ≤ length bytes = ltb-false _ _ both.1 in
    let head = take 17 bytes in
    let more = drop 17 bytes in
    let same : head ++ more ≡ bytes = take-append-drop 17 bytes in
    let head_len : length head ≡ 17 = length-take-le 17 bytes long in
    let accepted : header_refusal place head (kind_of (kind_in head)) ≡ None =
    sym (same_header place head more head_len) ∙ ap (λ (l : List ℕ). header_refusal place l (kind_of (kind_in l))) same ∙ both.0
    in
    let len : len_in head ≡ len_in bytes = sym (number_at-front 4 13 head more (omega (arith, head_len))) ∙ ap (λ (l : List ℕ). len_in l) same in
    subst (λ (l : List ℕ). Front place l) same (with_kind place head more (kind_of (kind_in head)) refl number head_len accepted (omega (arith, whole, len, length-drop 17 bytes)))

-- how far bytes go from a place
pub record Goes (place : Place) (bytes : List ℕ) : Type 0 where
  pub records : List Record
  pub front : List ℕ
  pub rest : List ℕ
  pub parts : bytes ≡ front ++ rest
  pub spell : AllSpell records front
  pub follow : AllFollow place records
  pub end : (rest ≡ []) ⊎ ((cause : RecordCause) × (0 < length rest) × (refusal (after_all place records) rest ≡ Some cause))

goes_at : (n : ℕ) (again : (place : Place) (bytes : List ℕ) → length bytes ≤ n → Goes place bytes) (place : Place) (b : ℕ) (bytes : List ℕ) (found : Option RecordCause) → refusal place (b ∷ bytes) ≡ found → length (b ∷ bytes) ≤ suc n → Goes place (b ∷ bytes)
goes_at n again place b bytes (Some cause) is le = record {
  records = [];
  front = [];
  rest = b ∷ bytes;
  parts = refl;
  spell = refl;
  follow = tt;
  end = inr (cause, omega arith, is);
}
goes_at n again place b bytes None is le =
    let one = accepted_front place (b ∷ bytes) is in
    let more = again (after place one.r) one.rest (omega (arith, le, one.spells.size, ap (λ (l : List ℕ). length l) one.parts, length-append one.first one.rest)) in
    record {
      records = one.r ∷ more.records;
      front = one.first ++ more.front;
      rest = more.rest;
      parts = one.parts ∙ ap (λ (l : List ℕ). one.first ++ l) more.parts ∙ sym (append_assoc one.first more.front more.rest);
      spell = (one.first, more.front, refl, one.spells, more.spell);
      follow = (one.follows, more.follow);
      end = more.end;
    }

pub goes : (n : ℕ) (place : Place) (bytes : List ℕ) → length bytes ≤ n → Goes place bytes
goes n place [] le = record { records = []; front = []; rest = []; parts = refl; spell = refl; follow = tt; end = inl refl }
goes zero place (b ∷ bytes) le = absurd (omega (arith, le))
goes (suc n) place (b ∷ bytes) le = goes_at n (λ p more h. goes n p more h) place b bytes (refusal place (b ∷ bytes)) refl le

pub records_or_refused : (bytes : List ℕ) → ((records : List Record) × Records bytes records) ⊎ ((records : List Record) × (number : ℕ) × (cause : RecordCause) × IsRefused bytes records number cause)
records_or_refused bytes =
    let all = goes (length bytes) first_place bytes (omega arith) in
    elim all.end [
      | inl none ↦ inl (
        all.records,
        record {
          spell = subst (λ (l : List ℕ). AllSpell all.records l) (sym (all.parts ∙ ap (λ (l : List ℕ). all.front ++ l) none ∙ append-nil all.front)) all.spell;
          follow = all.follow;
        },
      )
      | inr why ↦ inr (
        all.records,
        length all.records + 1,
        why.0,
        record { front = all.front; rest = all.rest; parts = all.parts; spell = all.spell; follow = all.follow; begun = why.1; why = why.2; numbered = refl },
      )
    ]

-- ---- and never both

accepted_by_tests : (place : Place) (bytes : List ℕ) (kind : RecordKind) → is_length kind (len_in bytes) ≡ true → place.moment ≤ moment_in bytes → is_conn kind (conn_in bytes) place.opened ≡ true → kind_refusal place bytes kind ≡ None
accepted_by_tests place bytes kind len moment conn =
    ap (λ b. if not b then Some Length else (if nat_lt (moment_in bytes) place.moment then Some Falls else (if not (is_conn kind (conn_in bytes) place.opened) then Some Conn else None))) len
    ∙ ap (λ b. if b then Some Falls else (if not (is_conn kind (conn_in bytes) place.opened) then Some Conn else None)) (le-ltb _ _ moment)
    ∙ ap (λ b. if not b then Some Conn else None) conn

-- nothing is wrong with a record that follows
pub unrefused : (place : Place) (r : Record) (first more : List ℕ) → Spells r first → Follows place r → refusal place (first ++ more) ≡ None
unrefused place r first more a f =
    let head = take 17 first in
    let body = drop 17 first in
    let long : 17 ≤ length first = omega (arith, a.size) in
    let head_len : length head ≡ 17 = length-take-le 17 first long in
    let same : head ++ body ≡ first = take-append-drop 17 first in
    let moment : moment_in head ≡ r.moment = sym (number_at-front 8 0 head body (omega (arith, head_len))) ∙ ap (λ (l : List ℕ). moment_in l) same ∙ a.has_moment in
    let kind : kind_in head ≡ number_of r.kind = sym (number_at-front 1 8 head body (omega (arith, head_len))) ∙ ap (λ (l : List ℕ). kind_in l) same ∙ a.has_kind in
    let conn : conn_in head ≡ r.conn = sym (number_at-front 4 9 head body (omega (arith, head_len))) ∙ ap (λ (l : List ℕ). conn_in l) same ∙ a.has_conn in
    let len : len_in head ≡ length r.body = sym (number_at-front 4 13 head body (omega (arith, head_len))) ∙ ap (λ (l : List ℕ). len_in l) same ∙ a.has_len in
    let known : kind_of (kind_in head) ≡ Some r.kind = ap kind_of kind ∙ kind_back r.kind in
    let accepted : header_refusal place head (kind_of (kind_in head)) ≡ None =
    ap (λ k. header_refusal place head k) known
    ∙ accepted_by_tests place head r.kind
    (ap (λ n. is_length r.kind n) len ∙ f.len)
    (omega (arith, moment, f.moment))
    (ap (λ n. is_conn r.kind n place.opened) conn ∙ f.conn)
    in
    ap (λ (l : List ℕ). refusal place l) (ap (λ (l : List ℕ). l ++ more) (sym same) ∙ append_assoc head body more)
    ∙ refusal-whole place head (body ++ more) f.number head_len accepted
    ∙ ap (λ b. if b then Some Cut else None) (le-ltb _ _ (omega (arith, len, a.size, length-append body more, length-drop 17 first)))

follows_at : (place : Place) (records : List Record) (t : Record) (tail : List Record) → AllFollow place (records ++ t ∷ tail) → Follows (after_all place records) t
follows_at place [] t tail all = all.0
follows_at place (r ∷ records) t tail all = follows_at (after place r) records t tail all.1

never_refused : (place : Place) (tail : List Record) (rest : List ℕ) (cause : RecordCause) → AllSpell tail rest → ((t : Record) (more : List Record) → tail ≡ t ∷ more → Follows place t) → 0 < length rest → refusal place rest ≡ Some cause → ⊥
never_refused place [] rest cause none follows begun is = omega (arith, begun, ap (λ (l : List ℕ). length l) none)
never_refused place (t ∷ tail) rest cause (first, more, parts, here, below) follows begun is =
    let ok : refusal place rest ≡ None = ap (λ (l : List ℕ). refusal place l) parts ∙ unrefused place t first more here (follows t tail refl) in
    cc

pub not_both : (bytes : List ℕ) (rs qs : List Record) (number : ℕ) (cause : RecordCause) → Records bytes rs → IsRefused bytes qs number cause → ⊥
not_both bytes rs qs number cause a b =
    let split = fronts_split qs rs b.front b.rest b.spell (subst (λ (l : List ℕ). AllSpell rs l) b.parts a.spell) in
    let all : AllFollow first_place (qs ++ split.0) = subst (λ (l : List Record). AllFollow first_place l) split.1 a.follow in
    never_refused (after_all first_place qs) split.0 b.rest cause split.2 (λ t more is. follows_at first_place qs t more (subst (λ (l : List Record). AllFollow first_place (qs ++ l)) is all)) b.begun b.why
