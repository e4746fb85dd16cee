-- What a poller gives.
use Rattle.std.specs.Prelude.{ℕ, ◌+◌, List, [], ◌∷◌}
use Rattle.fg_links.specs.declared.next.Next.{Next}
use Rattle.fg_links.specs.declared.next.Next.TheVariants.{New, Ready, Moment, Stop, Failed}
use Rattle.fg_links.specs.declared.next.MemNext.{MemNext}
use Rattle.fg_links.specs.declared.next.MemNext.TheVariants as mem

-- the answer of a poller with this list ahead of it: the first of the list, or Stop where nothing is left
abbrev pub next_of : {L : Type 0} → List (MemNext L) → Next L
next_of [] = Stop
next_of (mem.New link ∷ rest) = New link
next_of (mem.Ready link ∷ rest) = Ready link
next_of (mem.Moment moment ∷ rest) = Moment moment

-- how many links an answer gives
abbrev pub links_of : {L : Type 0} → Next L → ℕ
links_of (New link) = 1
links_of (Ready link) = 0
links_of (Moment moment) = 0
links_of Stop = 0
links_of Failed = 0

-- how many links a list gives
abbrev pub links_in : {L : Type 0} → List (MemNext L) → ℕ
links_in [] = 0
links_in (mem.New link ∷ rest) = 1 + links_in rest
links_in (mem.Ready link ∷ rest) = links_in rest
links_in (mem.Moment moment ∷ rest) = links_in rest
