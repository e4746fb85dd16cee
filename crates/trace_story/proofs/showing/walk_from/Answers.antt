use Rattle.std.proofs.Common.{◌≡◌, ◌&&◌, not, ℕ, List, Option, Some, None, find, ap, ◌∙◌}
use Rattle.std.specs.List.{flat_map}
use Rattle.std.specs.Option.{option_map_or}
use Rattle.net_base.specs.declared.numbers.DpId.{DpId}
use Rattle.of_match.specs.declared.packet.Packet.{Packet}
use Rattle.stack_paths.specs.Stack.{Stack}
use Rattle.conf_types.specs.declared.datapath.Dp.{Dp}
use Rattle.conf_types.specs.Configuration.{Configuration}
use Rattle.packet_way.specs.Known.{stack_of}
use Rattle.net_walk.specs.Arrivals.{arrivals}
use Rattle.ctl_world.specs.World.{World, now, running, ups}
use Rattle.trace_story.specs.declared.showing.Shown.TheVariants.{Lines, NotReady}
use Rattle.trace_story.specs.Ready.{is_joined, is_ready_in, unready}
use Rattle.trace_story.specs.Shown.{arrival_line, walked_from}
use Rattle.trace_story.proofs.showing.walk_from.Goals as goal

-- none that isn't ready was found
none_unready : (w : World) (from : DpId) (known : Option World) (at_work : List DpId) (stack : Stack) (dps : List Dp) → known ≡ Some w → at_work ≡ running w → stack ≡ stack_of w.conf (ups w) → dps ≡ w.conf.dps
    → None ≡ find (λ d. is_joined stack from d.id && not (is_ready_in known at_work d.id)) dps → None ≡ unready w from
none_unready w from known at_work stack dps is runs joins lists none = rw (is, runs, joins, lists) at none

walked : (w : World) (d : Dp) (port : ℕ) (p : Packet) (lines : List ℕ) → None ≡ unready w d.id → lines ≡ flat_map (arrival_line w.conf) (arrivals w.conf (now w) 64 d.id port p) → Lines lines ≡ walked_from w d port p
walked w d port p lines none is =
    ap (λ (l : List ℕ). Lines l) is ∙ ap (λ (o : Option Dp). option_map_or (λ e. NotReady e.name) o (Lines (flat_map (arrival_line w.conf) (arrivals w.conf (now w) 64 d.id port p)))) none

pub walk-requires : goal.walk-requires
walk-requires g c =
    let w = c.requires.known.0 in
    let is = c.requires.known.1 in
    rw (c.conf-conf.ensures w is, c.now-now.ensures w is (c.in_ok-running.ensures w is) (c.in_ok-ups.ensures w is)) (c.is_sound.ensures w is).valid

pub returns : goal.returns
returns g c = λ w is.
    let conf = c.conf-conf.ensures w is in
    let state = c.now-now.ensures w is (c.in_ok-running.ensures w is) (c.in_ok-ups.ensures w is) in
    walked w c.args.dp.now c.args.port c.args.packet.now c.put_arrivals.new.out
    (none_unready w c.args.dp.now.id c.args.core.now c.as_slice-2.result.now c.in_ok-paths.paths c.as_slice-dps.result.now is (c.as_slice-2.ensures ∙ c.in_ok-running.ensures w is)
    (rw (conf, c.as_slice.ensures, c.in_ok-ups.ensures w is) at c.in_ok-paths.ensures) (c.as_slice-dps.ensures ∙ c.dps.ensures.lists ∙ ap (λ (v : Configuration). v.dps) conf) c.in_default.ensures)
    (rw (c.new-lines.ensures, c.as_slice-3.ensures, c.in_ok-arrivals.ensures.arrivals, state, conf) at c.in_ok-put_arrivals.ensures)
