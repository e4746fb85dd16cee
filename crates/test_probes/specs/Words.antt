-- Configurations by their first byte.
use Rattle.std.specs.Prelude.{ℕ, ◌==◌, List, [], ◌∷◌, Option, Some, None, if◌then◌else◌}
use Rattle.probe_hub.specs.declared.links.Links.{Links}
use Rattle.test_probes.specs.declared.words.Words.{Words}

-- 1 where the link is watched, 0 where it isn't
abbrev pub links_of : Words → List ℕ → Option Links
links_of words [] = None
links_of words (byte ∷ text) = if byte == 1 then Some words.watched else (if byte == 0 then Some words.free else None)
