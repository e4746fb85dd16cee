-- The records of a turn are told by its moment, what is said and the text.
use Rattle.std.proofs.Common.{◌≡◌, ℕ, List, Option, ap, ◌∙◌}
use Rattle.bgp_peer.specs.declared.saying.BgpSaying.{BgpSaying}
use Rattle.bgp_drive.specs.Speech.{records_at}

pub same_records : (m n : ℕ) (xs ys : List BgpSaying) (t u : Option (List ℕ)) → m ≡ n → xs ≡ ys → t ≡ u → records_at m xs t ≡ records_at n ys u
same_records m n xs ys t u a b d =
    ap (λ (k : ℕ). records_at k xs t) a
    ∙ ap (λ (l : List BgpSaying). records_at n l t) b
    ∙ ap (λ (o : Option (List ℕ)). records_at n ys o) d
