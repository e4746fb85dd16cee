-- What callers see of a poller.
use Rattle.std.specs.Prelude.{◌≡◌, ℕ, Bool, List, Option, Some, None, IsSome, option_and_then}
use Rattle.fg_links.specs.declared.next.MemNext.{MemNext}
use Rattle.fg_links.specs.declared.next.Next.{Next}
use Rattle.fg_links.specs.declared.told.Told.{Told}
use Rattle.fg_links.specs.declared.next.Next.TheVariants.{New, Ready, Moment, Stop, Failed}
use Rattle.real_links.specs.declared.mio_link.MioLink.{MioLink}
use Rattle.real_links.specs.declared.mio_poller.MioPoller.{MioPoller}
use Rattle.real_links.specs.Port.{link_at}
use Rattle.real_links.specs.Ticks.{last_of, left_of}

-- it tells nothing of what it will give, and of what it was told
abbrev pub ahead_of : {R : Type 0} → MioPoller R → Option (List (MemNext MioLink))
ahead_of poller = None

abbrev pub told_to : {R : Type 0} → MioPoller R → Option (List Told)
told_to poller = None

-- the last moment that it told; None where it told none
abbrev pub last_moment : {R : Type 0} → MioPoller R → Option ℕ
last_moment poller = option_and_then (λ at. last_of at.ticks) poller.listening

-- whether the link with this number is to be told as ready; None where it isn't open
abbrev pub is_ready : {R : Type 0} → MioPoller R → ℕ → Option Bool
is_ready poller number = option_and_then (λ at. link_at at.port number) poller.listening

-- Which answers there are behind this last moment, and which moment is then the last: first comes a moment, and each further one
-- is 100 ms or more behind the last; it never stops.
abbrev pub Follows : Option ℕ → Next MioLink → Option ℕ → Type 0
Follows before (New link) after = IsSome before × (after ≡ before)
Follows before (Ready link) after = IsSome before × (after ≡ before)
Follows before (Moment moment) after = (left_of before moment ≡ 0) × (after ≡ Some moment)
Follows before Stop after = ⊥
Follows before Failed after = after ≡ before
