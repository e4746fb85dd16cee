-- What is measured of a story, from what its course tells.
use Rattle.std.proofs.Common.{◌≡◌, ◌∙◌, ℕ, ◌-◌, ◌%◌, ◌^◌, ◌≤◌, List, length, refl, ap, arith}
use Rattle.ctl_life.specs.declared.saying.Saying.{Saying}
use Rattle.ctl_world.specs.World.{World}
use Rattle.bench_story.specs.Counted.{barrier_request, count_of, flow_mod, total}
use Rattle.bench_story.specs.Measured.{behind_opening, measured, said_of}
use Rattle.bench_story.specs.Story.{after, opened, story}
use Rattle.bench_story.proofs.Courses.{more_is_counted, told_after}

opened_said : opened.said ≡ said_of (story 0)
unfolding after
opened_said = (told_after 0).said

difference : (kind hosts all opening : ℕ) → all ≡ count_of kind (after hosts).said → opening ≡ count_of kind opened.said → all - opening ≡ behind_opening kind hosts
difference kind hosts all opening is_all is_opening =
    ap (λ (n : ℕ). n - opening) (is_all ∙ ap (count_of kind) (told_after hosts).said)
    ∙ ap (λ (n : ℕ). count_of kind (said_of (story hosts)) - n) (is_opening ∙ ap (count_of kind) opened_said)

pub no_fewer : (kind hosts all opening : ℕ) → all ≡ count_of kind (after hosts).said → opening ≡ count_of kind opened.said → opening ≤ all
no_fewer kind hosts all opening is_all is_opening = let more = more_is_counted kind hosts in omega (arith, more, is_all, is_opening)

-- hosts, batches, commands and the sum behind so many hosts, with the batches and the commands of the opening
pub all_measured : (hosts known batches commands sum first_batches first_commands : ℕ) → known ≡ length (after hosts).known.hosts.hosts
    → batches ≡ count_of barrier_request (after hosts).said → commands ≡ count_of flow_mod (after hosts).said → sum ≡ total (after hosts).said % 2 ^ 32
    → first_batches ≡ count_of barrier_request opened.said → first_commands ≡ count_of flow_mod opened.said
    → record { hosts = known; batches = batches - first_batches; commands = commands - first_commands; sum = sum } ≡ measured hosts
unfolding measured
all_measured hosts known batches commands sum first_batches first_commands is_known is_batches is_commands is_sum is_first_batches is_first_commands =
    rw (
      is_known ∙ ap (λ (w : World). length w.hosts.hosts) (told_after hosts).known,
      difference barrier_request hosts batches first_batches is_batches is_first_batches,
      difference flow_mod hosts commands first_commands is_commands is_first_commands,
      is_sum ∙ ap (λ (s : List Saying). total s % 2 ^ 32) (told_after hosts).said,
    ) refl
