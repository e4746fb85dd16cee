-- What happens at a port.
use Rattle.std.specs.Prelude.{◌≡◌, ℕ, Bool, Option, IsSome}
use Rattle.fg_links.specs.declared.next.Next.{Next}
use Rattle.fg_links.specs.declared.next.Next.TheVariants.{New, Ready, Moment, Stop, Failed}
use Rattle.real_links.specs.declared.mio_link.MioLink.{MioLink}
use Rattle.real_links.specs.declared.port.Port.{Port}
use Rattle.real_links.specs.Sources.{ready_at}
use Rattle.real_links.specs.Ticks.{left_of}

-- whether the link with this number is ready; None where it isn't open
abbrev pub link_at : Port → ℕ → Option Bool
link_at port number = ready_at port.sources number

-- What may come, where this is the last moment that was told and this number a further link's, if one is left: a moment exactly
-- where one is due, a connection only with a number, and never an end.
abbrev pub Comes : Option ℕ → Option ℕ → Next MioLink → Type 0
Comes last number (New link) = IsSome last × IsSome number
Comes last number (Ready link) = IsSome last
Comes last number (Moment moment) = left_of last moment ≡ 0
Comes last number Stop = ⊥
Comes last number Failed = ⊥
