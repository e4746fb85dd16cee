use Rattle.std.proofs.Common.{◌∙◌, ap, take}
use Rattle.neighbour_resolve.proofs.Places.{changed, left, said_ask, said_gone, take-remove}
use Rattle.neighbour_resolve.proofs.table.take_at.Goals as goal

pub returns-in-Some-clause-said : goal.returns-in-Some-clause-said
returns-in-Some-clause-said c =
    said_ask c.args.conf.now c.args.now.0 c.args.neighbours.now.items c.args.at c.index.result.now c.requires.place c.requires.within c.index.ensures c.in-Some.next c.in-Some.ensures

pub returns-in-Some-clause-list : goal.returns-in-Some-clause-list
returns-in-Some-clause-list c =
    changed c.args.conf.now c.args.now.0 c.args.neighbours.now.items c.args.at c.index.result.now c.requires.place c.requires.within c.index.ensures c.in-Some.next c.in-Some.ensures

pub returns-in-None-clause-said : goal.returns-in-None-clause-said
returns-in-None-clause-said c =
    said_gone c.args.conf.now c.args.now.0 c.args.neighbours.now.items c.args.at c.index.result.now c.requires.place c.requires.within c.index.ensures c.in-None.ensures

pub returns-in-None-clause-list : goal.returns-in-None-clause-list
returns-in-None-clause-list c =
    c.remove.ensures.items ∙ left c.args.conf.now c.args.now.0 c.args.neighbours.now.items c.args.at c.index.result.now c.requires.place c.requires.within c.index.ensures c.in-None.ensures

pub returns-in-None-clause-before : goal.returns-in-None-clause-before
returns-in-None-clause-before c = ap (take c.args.at) c.remove.ensures.items ∙ take-remove c.args.neighbours.now.items c.args.at c.requires.within
