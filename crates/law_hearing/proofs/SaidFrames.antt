-- What a frame says, by what it spells.
use Rattle.std.proofs.Common.{◌≡◌, ℕ, List, Some, None, Result, Ok, Err, refl, ap}
use Rattle.std.specs.Prelude.{◌↔◌}
use Rattle.of13_codec.specs.declared.message.Message.{Message}
use Rattle.of13_codec.specs.declared.refused.WireRefused.{WireRefused}
use Rattle.of13_codec.specs.Decoding.{decoded}
use Rattle.of13_codec.specs.Spelling.{Spells}
use Rattle.ctl_life.specs.Life.{says_by, says}

abbrev Said : Type 0
Said = Message × ℕ

decoded_so : (r : Result Said WireRefused) (said : Said) → says_by r ≡ Some said → r ≡ Ok said
decoded_so (Ok x) said e = let same : x ≡ said = cc in ap (λ (s : Said). Ok s) same
decoded_so (Err why) said e = absurd cc

module _ (frame : List ℕ) (spelled : (m : Message) (xid : ℕ) → (decoded frame ≡ Ok (m, xid)) ↔ Spells m xid frame) where
  pub said : (m : Message) (xid : ℕ) → (says frame ≡ Some (m, xid)) ↔ Spells m xid frame
  said m xid = (λ e. (spelled m xid).0 (decoded_so (decoded frame) (m, xid) e), λ w. ap says_by ((spelled m xid).1 w))

  spells_none : says frame ≡ None → (m : Message) (xid : ℕ) → Spells m xid frame → ⊥
  spells_none e m xid w = let f : says frame ≡ Some (m, xid) = (said m xid).1 w in cc

  says_none : (r : Result Said WireRefused) → decoded frame ≡ r → ((m : Message) (xid : ℕ) → Spells m xid frame → ⊥) → says_by r ≡ None
  says_none (Ok x) e none = absurd (none x.0 x.1 ((spelled x.0 x.1).0 e))
  says_none (Err why) e none = refl

  pub nothing_said : (says frame ≡ None) ↔ ((m : Message) (xid : ℕ) → Spells m xid frame → ⊥)
  nothing_said = (spells_none, says_none (decoded frame) refl)
