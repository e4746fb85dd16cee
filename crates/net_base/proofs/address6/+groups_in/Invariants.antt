use Rattle.net_base.proofs.address6.+groups_in.Given as goal

abbrev pub decreases-groups_in : goal.decreases-groups_in
decreases-groups_in l = l.most
