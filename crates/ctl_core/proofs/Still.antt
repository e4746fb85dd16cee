-- What is still as it was but for the moments at which hosts were heard stays settled.
use Rattle.std.proofs.Common.{◌≡◌, ℕ, ◌<◌, ◌≤◌, [], List, ◌∷◌, refl, inl, inr, sym, ap, ◌∙◌, subst, arith}
use Rattle.std.specs.Prelude.{min}
use Rattle.std.specs.List.{fold}
use Rattle.net_base.specs.declared.numbers.DpId.{DpId}
use Rattle.net_base.specs.declared.numbers.Moment.{Moment}
use Rattle.conf_types.specs.declared.state.NeighRec.{NeighRec}
use Rattle.cold_start.specs.Cold.{cold_at}
use Rattle.neighbour_resolve.specs.Due.{never}
use Rattle.neighbour_resolve.specs.Table.{Table as Neighbours}
use Rattle.ctl_world.specs.Alike.{IsAlike}
use Rattle.ctl_world.specs.World.{World}
use Rattle.ctl_world.proofs.Faces.{alike_same, alike_through, same_now}
use Rattle.ctl_settle.specs.declared.plans.Held.{Held}
use Rattle.ctl_settle.specs.Plans.{AreHeld}
use Rattle.ctl_settle.specs.Rest.{IsAtRest, IsBound, RestsUntil, neighbours_until, rests_until}
use Rattle.ctl_settle.specs.Settling.{wanted}
use Rattle.ctl_settle.proofs.Following.{alike_names}
use Rattle.ctl_settle.proofs.Names.{join}
use Rattle.ctl_settle.proofs.Until.{are_bounded, bounds_rest, rests_so_long, same_bounded, shorter_rest}
use Rattle.ctl_core.specs.Found.{IsStill}

wanted_alike : (v w : World) → IsAlike v w → (dp : DpId) → wanted v dp ≡ wanted w dp
wanted_alike v w alike dp = λ i. cold_at (alike.conf i) (same_now v w alike i) dp

-- what looks the same to a settling is still as it was
pub alike_still : (v w : World) → IsAlike v w → IsStill w v
alike_still v w alike = record {
  alike = record { conf = alike.conf; moment = alike.moment; conns = alike.conns; hosts = refl; neighbours = alike.neighbours };
  names = alike_names v w alike;
  leaves = λ until all. same_bounded v w until alike.conf alike.moment alike.hosts all;
  entries = wanted_alike v w alike;
}

pub still_same : (w : World) → IsStill w w
still_same w = alike_still w w (alike_same w)

pub still_behind : (u w v : World) → IsAlike u w → IsStill u v → IsStill w v
still_behind u w v alike still =
    let all : IsAlike (record v { hosts = u.hosts }) w = alike_through (record v { hosts = u.hosts }) u w still.alike alike in
    record {
      alike = record { conf = all.conf; moment = all.moment; conns = all.conns; hosts = refl; neighbours = all.neighbours };
      names = join w u v [] [] (alike_names u w alike) still.names;
      leaves = λ until before. still.leaves until (same_bounded u w until alike.conf alike.moment alike.hosts before);
      entries = λ dp. still.entries dp ∙ wanted_alike u w alike dp;
    }

-- the moment that never comes is the last one
least_first : (first : ℕ) (neighbours : List NeighRec) → fold (λ least (n : NeighRec). min least n.due.0) first neighbours ≤ first
least_first first [] = omega arith
least_first first (n ∷ neighbours) = omega (arith, least_first (min first n.due.0) neighbours)

module _ (w v : World) (still : IsStill w v) where
  -- the hosts are those that were known
  abbrev before : World
  before = record v { hosts = w.hosts }

  as_wanted : (dp : DpId) → wanted before dp ≡ wanted v dp
  as_wanted dp = wanted_alike before w still.alike dp ∙ sym (still.entries dp)

  pub still_held : ((u x : World) (held : List Held) → IsAlike u x → AreHeld x held → AreHeld u held) → (held : List Held) → AreHeld w held → AreHeld v held
  still_held plans held are = let kept = plans before w held still.alike are in record { fit = kept.fit; there = kept.there; shut = kept.shut }

  rest_on : IsAtRest before → IsAtRest v
  rest_on rest = record {
    asks = rest.asks;
    batches = λ dp runs c at. elim (rest.batches dp runs c at) [ inl waits ↦ inl waits | inr has ↦ inr (has ∙ as_wanted dp) ];
  }

  -- before the bound of what rested it rests, and the bound is one of it
  module _ (rest : (u x : World) → IsAlike u x → IsAtRest x → IsAtRest u) (until : ℕ) (bound : IsBound w until) (rests : RestsUntil until w) (early : v.moment.0 < until) where
    was_early : w.moment.0 < until
    was_early = subst (λ (m : Moment). m.0 < until) still.alike.moment early

    at_rest : IsAtRest v
    at_rest = rest_on (rest before w still.alike (rests w.moment.0 (omega arith) was_early).0)

    least : until ≤ rests_until v
    least =
        let same : neighbours_until v.neighbours.neighbours ≡ neighbours_until w.neighbours.neighbours = ap (λ (t : Neighbours). neighbours_until t.neighbours) still.alike.neighbours in
        let most : neighbours_until w.neighbours.neighbours ≤ never = least_first never w.neighbours.neighbours in
        let within : until ≤ neighbours_until w.neighbours.neighbours = omega (arith, bound.least) in
        bounds_rest v until (omega (arith, most, within)) (still.leaves until (are_bounded w until bound.least)) (omega (arith, same, within))

    pub still_rests : RestsUntil until v
    still_rests = shorter_rest v until (rests_until v) least (rests_so_long v at_rest)

    pub still_until : IsBound v until
    still_until = record { least = least; ahead = inl early }
