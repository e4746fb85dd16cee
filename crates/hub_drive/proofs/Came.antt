-- What comes on connections is bytes.
use Rattle.std.proofs.Common.{ℕ, suc, ◌<◌, List, [], ◌∷◌, ◌++◌, get_or}
use Rattle.std.specs.List.{AllByRecursion}
use Rattle.fg_outside.specs.declared.hub.Happening.{Happening}
use Rattle.hub_drive.specs.Driven.{CameAsBytes}
use Rattle.hub_drive.proofs.Telling.{all_of_both}

pub all_bytes : (bytes : List ℕ) → ((i : ℕ) → get_or bytes i 0 < 256) → AllByRecursion (λ byte. byte < 256) bytes
all_bytes [] small = tt
all_bytes (b ∷ bytes) small = (small 0, all_bytes bytes (λ i. small (suc i)))

-- with one turn more
pub came-push : (hs : List Happening) (h : Happening) → AllByRecursion CameAsBytes hs → CameAsBytes h → AllByRecursion CameAsBytes (hs ++ h ∷ [])
came-push hs h all came = all_of_both CameAsBytes hs (h ∷ []) all (came, tt)
