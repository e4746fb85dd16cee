-- The ports of the switch, as they are made.
use Rattle.std.proofs.Common.{◌≡◌, ℕ, ◌+◌, List, [], ◌∷◌, ◌++◌, refl, add-one}
use Rattle.of13_codec.specs.declared.ports.PortDesc.{PortDesc}
use Rattle.bench_story.specs.Switch.{port, ports}

pub ports-none : ports 0 ≡ []
unfolding ports
ports-none = refl

pub ports-more : (n : ℕ) (made : List PortDesc) (next : PortDesc) → made ≡ ports n → next ≡ port (n + 1) → made ++ next ∷ [] ≡ ports (n + 1)
unfolding ports
ports-more n made next so_far is = rw (so_far, is, add-one) refl
