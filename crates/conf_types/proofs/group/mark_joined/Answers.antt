use Rattle.std.proofs.Common.{◌∙◌, ◌<◌, refl, true, false, length, arith, length-set}
use Rattle.std.proofs.lemmas.List.{get_or-set_same}
use Rattle.conf_types.specs.Groups.{of_dps}
use Rattle.conf_types.proofs.Marks.{undone_less, first_joined, none_followed, stays, more_followed, more_joined}
use Rattle.conf_types.proofs.group.mark_joined.Goals as goal

pub loop-k-init : goal.loop-k-init
loop-k-init c =
    let seen = c.args.seen.now in
    record {
      seen_len = length-set seen c.args.at true ∙ c.requires.seen_len;
      done_len = c.requires.done_len;
      start = get_or-set_same seen c.args.at true false (rw c.requires.seen_len c.requires.place);
      followed = λ k j d lt_k lt_j followed leads. none_followed (of_dps c.args.dps.now) c.args.at c.args.done.now c.requires.done_len c.requires.none_done k lt_k followed;
      joined = first_joined (of_dps c.args.dps.now) c.args.at seen c.requires.seen_len c.requires.none_seen;
    }

pub loop-k-smaller : goal.loop-k-smaller
loop-k-smaller c =
    let found = c.in-Some.ensures.found in
    let less = undone_less c.loop-k.done c.in-Some.k (rw (c.loop-k.invariant.done_len, ← c.loop-k.invariant.seen_len) found.0) found.2 in
    omega (arith, less)

pub loop-k-preserved : goal.loop-k-preserved
loop-k-preserved c =
    let conf = of_dps c.args.dps.now in
    let found = c.in-Some.ensures.found in
    let old = c.loop-k.invariant in
    let within : c.in-Some.k < length conf.dps = rw (← old.seen_len) found.0 in
    let dps = c.args.dps.now in
    let next = c.mark_next.new.seen in
    record {
      seen_len = c.mark_next.auto.seen ∙ old.seen_len;
      done_len = length-set c.loop-k.done c.in-Some.k true ∙ old.done_len;
      start = stays conf c.args.at dps refl c.loop-k.seen next c.loop-k.done c.in-Some.k c.index-dps-k.result within c.index-dps-k.is found.1 c.mark_next.ensures c.args.at c.index-dps-k.result c.requires.place old.start;
      followed = more_followed conf c.args.at dps refl c.loop-k.seen next c.loop-k.done c.in-Some.k c.index-dps-k.result within c.index-dps-k.is found.1 c.mark_next.ensures old.followed;
      joined = more_joined conf c.args.at dps refl c.loop-k.seen next c.loop-k.done c.in-Some.k c.index-dps-k.result within c.index-dps-k.is found.1 c.mark_next.ensures old.joined;
    }
