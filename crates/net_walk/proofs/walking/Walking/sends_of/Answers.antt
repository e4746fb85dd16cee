use Rattle.std.proofs.Common.{◌≡◌, ◌∙◌, [], ◌∷◌, find, refl, sym, ap, subst}
use Rattle.std.specs.Prelude.{All, IfOk}
use Rattle.std.proofs.lemmas.List.Elements.{All-append, All-cons, All-nil}
use Rattle.of_match.specs.Pipeline.{first_run}
use Rattle.packet_way.specs.Present.{state_of}
use Rattle.net_walk.specs.Kept.{IsKept, is_of}
use Rattle.net_walk.proofs.Steps.{kept_is}
use Rattle.net_walk.proofs.Units.{on_err, made_within, made_leaves}
use Rattle.net_walk.proofs.walking.Walking.sends_of.Goals as goal

-- by the cold start that was found
pub returns-in-Some-clause-sents : goal.returns-in-Some-clause-sents
returns-in-Some-clause-sents g c =
    let same = kept_is c.args.self.now.conf.now (state_of c.args.self.now.learned.now) c.args.kept.now c.args.dp c.in-Some.one.now c.requires.kept (ap (find (is_of c.args.dp)) (sym c.as_slice.ensures) ∙ sym c.in-Some.ensures) in
    subst (λ l. IfOk c.run.result (λ sents. sents ≡ first_run l c.args.port c.args.packet.now)) same c.run.ensures.first

-- one more is kept
pub returns-clause-kept : goal.returns-clause-kept
returns-clause-kept g c =
    let kept = IsKept c.args.self.now.conf.now (state_of c.args.self.now.learned.now) in
    subst (All kept) (sym c.in_ok-push.ensures.ok) (All-append kept c.args.kept.now (_ ∷ []) c.requires.kept (All-cons kept _ [] c.in_ok-tables.ensures.tables (All-nil kept)))

-- where memory runs out no more is counted than of the units that are left
pub returns-in_err-tables-clause-most_of_all : goal.returns-in_err-tables-clause-most_of_all
returns-in_err-tables-clause-most_of_all g c = on_err c.from_residual.result (made_within c.args.self.now.conf.now (state_of c.args.self.now.learned.now) c.args.kept.now c.args.dp (ap (find (is_of c.args.dp)) (sym c.as_slice.ensures) ∙ sym c.in_default.ensures) (g.T.Tally.count c.args.units.now) (g.T.Tally.count c.cold.new.units) c.cold.ensures.most)

pub returns-in_err-sents-clause-most_of_all : goal.returns-in_err-sents-clause-most_of_all
returns-in_err-sents-clause-most_of_all g c = on_err c.from_residual-in_err-sents.result (made_within c.args.self.now.conf.now (state_of c.args.self.now.learned.now) c.args.kept.now c.args.dp (ap (find (is_of c.args.dp)) (sym c.as_slice.ensures) ∙ sym c.in_default.ensures) (g.T.Tally.count c.args.units.now) (g.T.Tally.count c.cold.new.units) c.cold.ensures.most)

pub returns-in_err-push-clause-most_of_all : goal.returns-in_err-push-clause-most_of_all
returns-in_err-push-clause-most_of_all g c = on_err c.from_residual-in_err-push.result (made_within c.args.self.now.conf.now (state_of c.args.self.now.learned.now) c.args.kept.now c.args.dp (ap (find (is_of c.args.dp)) (sym c.as_slice.ensures) ∙ sym c.in_default.ensures) (g.T.Tally.count c.args.units.now) (g.T.Tally.count c.cold.new.units) c.cold.ensures.most)

-- those of the datapath are counted, and left no more
pub returns-clause-most : goal.returns-clause-most
returns-clause-most g c = made_leaves c.args.self.now.conf.now (state_of c.args.self.now.learned.now) c.args.kept.now c.args.dp (ap (find (is_of c.args.dp)) (sym c.as_slice.ensures) ∙ sym c.in_default.ensures) (g.T.Tally.count c.args.units.now) (g.T.Tally.count c.cold.new.units) c.cold.ensures.most _ refl c.push.new.self c.in_ok-push.ensures.ok
