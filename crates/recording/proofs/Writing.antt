-- The bytes of records that are written.
use Rattle.std.proofs.Common.{◌≡◌, ℕ, ◌^◌, ◌<◌, List, [], ◌∷◌, ◌++◌, length, drop, Option, Some, None, refl, sym, ◌∙◌, ap, arith, append_assoc, length-append}
use Rattle.std.proofs.lemmas.List.{append-nil}
use Rattle.std.proofs.Math.Seq.{drop-append_seam}
use Rattle.byteorder.specs.Endian.{big_from}
use Rattle.byteorder.specs.Numbers.{big_number-reads_back, length-bytes_high_first}
use Rattle.recording.specs.Numbers.{number_at}
use Rattle.recording.specs.Layout.{moment_in, kind_in, conn_in, len_in, HasLayout}
use Rattle.recording.specs.declared.written.SwitchError.{SwitchError}
use Rattle.recording.specs.Written.{number, Written, sent, closed, kind_number, error_bytes, body_of, laid, WrittenRecord, written, written_records, IsErrorOk, IsTold, IsWritable, AreWritable}
use Rattle.recording.proofs.Grammar.{same_layouts}

length-number : (len value : ℕ) → length (number len value) ≡ len
unfolding number
length-number len value = length-bytes_high_first len value

kind_again : (before : List ℕ) (kind : ℕ) (rest : List ℕ) → length before ≡ 8 → kind_in (before ++ ((kind ∷ []) ++ rest)) ≡ kind
unfolding number_at
kind_again before kind rest is =
    let behind : drop 8 (before ++ ((kind ∷ []) ++ rest)) ≡ kind ∷ rest =
    ap (λ n. drop n (before ++ ((kind ∷ []) ++ rest))) (sym is) ∙ drop-append_seam before (kind ∷ rest)
    in
    ap (λ (l : List ℕ). big_from 0 1 l) behind ∙ omega arith

-- a number behind other bytes is read again
read_again : (before : List ℕ) (at len value : ℕ) (rest : List ℕ) → length before ≡ at → value < 256 ^ len → number_at len at (before ++ (number len value ++ rest)) ≡ value
unfolding number number_at
read_again before at len value rest is fits =
    let behind : drop at (before ++ (number len value ++ rest)) ≡ number len value ++ rest =
    ap (λ n. drop n (before ++ (number len value ++ rest))) (sym is) ∙ drop-append_seam before (number len value ++ rest)
    in
    ap (λ (l : List ℕ). big_from 0 len l) behind ∙ big_number-reads_back len value rest fits

regroup : (a k c l body : List ℕ) → (((a ++ k) ++ c) ++ l) ++ body ≡ a ++ (k ++ (c ++ (l ++ body)))
regroup a k c l body = simp append_assoc

-- what is written has the layout of what is read
pub laid_layout : (moment kind conn : ℕ) (body : List ℕ) → moment < 2 ^ 64 → conn < 2 ^ 32 → length body < 2 ^ 32 → HasLayout moment kind conn body (laid moment kind conn body)
laid_layout moment kind conn body m c b =
    let a = number 8 moment in
    let k = kind ∷ [] in
    let d = number 4 conn in
    let l = number 4 (length body) in
    let la : length a ≡ 8 = length-number 8 moment in
    let lk : length (a ++ k) ≡ 9 = omega (arith, la, length-append a k) in
    let lc : length ((a ++ k) ++ d) ≡ 13 = omega (arith, lk, length-append (a ++ k) d, length-number 4 conn) in
    let ll : length (((a ++ k) ++ d) ++ l) ≡ 17 = omega (arith, lc, length-append ((a ++ k) ++ d) l, length-number 4 (length body)) in
    let at_conn : (((a ++ k) ++ d) ++ l) ++ body ≡ (a ++ k) ++ (d ++ (l ++ body)) = append_assoc ((a ++ k) ++ d) l body ∙ append_assoc (a ++ k) d (l ++ body) in
    record {
      size = omega (arith, ll, length-append (((a ++ k) ++ d) ++ l) body);
      has_moment = ap (λ (s : List ℕ). moment_in s) (regroup a k d l body) ∙ read_again [] 0 8 moment (k ++ (d ++ (l ++ body))) refl m;
      has_kind = ap (λ (s : List ℕ). kind_in s) (regroup a k d l body) ∙ kind_again a kind (d ++ (l ++ body)) la;
      has_conn = ap (λ (s : List ℕ). conn_in s) at_conn ∙ read_again (a ++ k) 9 4 conn (l ++ body) lk c;
      has_len = ap (λ (s : List ℕ). len_in s) (append_assoc ((a ++ k) ++ d) l body) ∙ read_again ((a ++ k) ++ d) 13 4 (length body) body lc b;
      has_body = ap (λ n. drop n ((((a ++ k) ++ d) ++ l) ++ body)) (sym ll) ∙ drop-append_seam (((a ++ k) ++ d) ++ l) body;
    }

pub written_layout : (r : WrittenRecord) → IsWritable r → HasLayout r.moment (kind_number r.told) r.conn (body_of r.told) (written r)
written_layout r ok = laid_layout r.moment (kind_number r.told) r.conn (body_of r.told) ok.moment ok.conn ok.len

-- ---- different lists have different bytes

pair_back : (k c : ℕ) → k < 2 ^ 16 → c < 2 ^ 16 → (number_at 2 0 (number 2 k ++ number 2 c) ≡ k) × (number_at 2 2 (number 2 k ++ number 2 c) ≡ c)
pair_back k c hk hc = (
  read_again [] 0 2 k (number 2 c) refl hk,
  ap (λ (l : List ℕ). number_at 2 2 (number 2 k ++ l)) (sym (append-nil (number 2 c))) ∙ read_again (number 2 k) 2 2 c [] (length-number 2 k) hc,
)

same_error : (e f : Option SwitchError) → IsErrorOk e → IsErrorOk f → error_bytes e ≡ error_bytes f → e ≡ f
same_error None None a b h = refl
same_error None (Some f) a b h = absurd (omega (arith, ap (λ (l : List ℕ). length l) h, length-append (number 2 f.kind) (number 2 f.code), length-number 2 f.kind))
same_error (Some e) None a b h = absurd (omega (arith, ap (λ (l : List ℕ). length l) h, length-append (number 2 e.kind) (number 2 e.code), length-number 2 e.kind))
same_error (Some e) (Some f) a b h =
    let x = pair_back e.kind e.code a.0 a.1 in
    let y = pair_back f.kind f.code b.0 b.1 in
    let kind : e.kind ≡ f.kind = sym x.0 ∙ ap (λ (l : List ℕ). number_at 2 0 l) h ∙ y.0 in
    let code : e.code ≡ f.code = sym x.1 ∙ ap (λ (l : List ℕ). number_at 2 2 l) h ∙ y.1 in
    ap (λ n. let s : SwitchError = record { kind = n; code = e.code } in Some s) kind
    ∙ ap (λ n. let s : SwitchError = record { kind = f.kind; code = n } in Some s) code

cons_tail : (a b : ℕ) (xs ys : List ℕ) → a ∷ xs ≡ b ∷ ys → (a ≡ b) × (xs ≡ ys)
cons_tail a b xs ys h = (cc, cc)

same_told : (a b : Written) → IsTold a → IsTold b → kind_number a ≡ kind_number b → body_of a ≡ body_of b → a ≡ b
same_told (sent m) (sent n) a b k h = ap (λ (l : List ℕ). sent l) h
same_told (sent m) (closed d f) a b k h = absurd (omega (arith, k))
same_told (closed c e) (sent n) a b k h = absurd (omega (arith, k))
same_told (closed c e) (closed d f) a b k h =
    let both = cons_tail c d (error_bytes e) (error_bytes f) h in
    ap (λ n. closed n e) both.0 ∙ ap (λ (o : Option SwitchError). closed d o) (same_error e f a.1 b.1 both.1)

same_written : (r q : WrittenRecord) → IsWritable r → IsWritable q → written r ≡ written q → r ≡ q
same_written r q a b h =
    let x = written_layout r a in
    let y = written_layout q b in
    let moment : r.moment ≡ q.moment = sym x.has_moment ∙ ap (λ (l : List ℕ). moment_in l) h ∙ y.has_moment in
    let kind : kind_number r.told ≡ kind_number q.told = sym x.has_kind ∙ ap (λ (l : List ℕ). kind_in l) h ∙ y.has_kind in
    let conn : r.conn ≡ q.conn = sym x.has_conn ∙ ap (λ (l : List ℕ). conn_in l) h ∙ y.has_conn in
    let body : body_of r.told ≡ body_of q.told = sym x.has_body ∙ ap (λ (l : List ℕ). drop 17 l) h ∙ y.has_body in
    let told : r.told ≡ q.told = same_told r.told q.told a.told b.told kind body in
    ap (λ n. let w : WrittenRecord = record { moment = n; conn = r.conn; told = r.told } in w) moment
    ∙ ap (λ n. let w : WrittenRecord = record { moment = q.moment; conn = n; told = r.told } in w) conn
    ∙ ap (λ (k : Written). let w : WrittenRecord = record { moment = q.moment; conn = q.conn; told = k } in w) told

none_written : (r : WrittenRecord) (rest : List ℕ) → IsWritable r → [] ≡ written r ++ rest → ⊥
none_written r rest ok h = omega (arith, (written_layout r ok).size, ap (λ (l : List ℕ). length l) h, length-append (written r) rest)

pub same_lists : (rs qs : List WrittenRecord) → AreWritable rs → AreWritable qs → written_records rs ≡ written_records qs → rs ≡ qs
same_lists [] [] a b h = refl
same_lists [] (q ∷ qs) a b h = absurd (none_written q (written_records qs) b.0 h)
same_lists (r ∷ rs) [] a b h = absurd (none_written r (written_records rs) a.0 (sym h))
same_lists (r ∷ rs) (q ∷ qs) a b h =
    let split = same_layouts r.moment (kind_number r.told) r.conn (body_of r.told) q.moment (kind_number q.told) q.conn (body_of q.told) (written r) (written_records rs) (written q) (written_records qs) (written_layout r a.0) (written_layout q b.0) h in
    ap (λ (w : WrittenRecord). w ∷ rs) (same_written r q a.0 b.0 split.0) ∙ ap (λ (l : List WrittenRecord). q ∷ l) (same_lists rs qs a.1 b.1 split.1)
