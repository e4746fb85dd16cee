-- Bytes of numbers, and zeros.
use Rattle.std.proofs.Common.{◌≡◌, ℕ, zero, suc, ◌+◌, ◌-◌, ◌≤◌, [], ◌∷◌, ◌++◌, take, drop, replicate, refl, sym, ap, ◌∙◌, arith, add-zero, add-suc}
use Rattle.std.specs.Int.{bytes_high_first}
use Rattle.byteorder.specs.Numbers.{length-bytes_high_first}
use Rattle.std.proofs.lemmas.List.{take_all, replicate-append-replicate}

-- the lowest n bytes are what is left of more of them
drop-bytes : (n k v : ℕ) → drop k (bytes_high_first (n + k) v) ≡ bytes_high_first n v
drop-bytes n zero v = rw add-zero refl
drop-bytes n (suc k) v = rw add-suc (drop-bytes n k v)

pub low_bytes : (len v : ℕ) → len ≤ 16 → take (16 - (16 - len)) (drop (16 - len) (bytes_high_first 16 v)) ≡ bytes_high_first len v
low_bytes len v h =
    let whole : len + (16 - len) ≡ 16 = omega arith in
    let low : drop (16 - len) (bytes_high_first 16 v) ≡ bytes_high_first len v = ap (λ n. drop (16 - len) (bytes_high_first n v)) (sym whole) ∙ drop-bytes len (16 - len) v in
    ap (take (16 - (16 - len))) low ∙ take_all (16 - (16 - len)) (bytes_high_first len v) (omega (arith, length-bytes_high_first len v))

pub replicate_more : {A : Type 0} (n : ℕ) (a : A) → replicate (n + 1) a ≡ replicate n a ++ a ∷ []
replicate_more n a = sym (replicate-append-replicate n 1 a)
