-- The clock of a poller.
use Rattle.std.specs.Prelude.{ℕ, ◌-◌, Option, Some, None}
use Rattle.real_links.specs.declared.ticks.Ticks.{Ticks}

-- the last moment that was told, in milliseconds
abbrev pub last_of : Ticks → Option ℕ
last_of ticks = ticks.last

-- how many milliseconds are left until a moment is due: 100 after the last, and at once where none was told
abbrev pub left_of : Option ℕ → ℕ → ℕ
left_of None now = 0
left_of (Some last) now = 100 - (now - last)
