use Rattle.ctl_core.proofs.controller.Controller.tables_sent.Goals as goal

pub tables_of-requires : goal.tables_of-requires
tables_of-requires c = c.self.invariant c.if-self.false
