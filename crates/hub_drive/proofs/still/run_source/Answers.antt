use Rattle.std.proofs.Common.{sym}
use Rattle.hub_drive.proofs.still.run_source.Goals as goal

pub returns-clause-runs : goal.returns-clause-runs
returns-clause-runs g c = λ w stands. record {
  hub = c.new-hub.result;
  after = c.take_turns-drove.new.hub;
  begins = c.new-hub.ensures.starts;
  tells = c.refused-refused.ensures;
  took = c.take_turns-drove.ensures.took w stands;
}

pub returns-clause-reads : goal.returns-clause-reads
returns-clause-reads g c = record {
  hub = c.new-hub.result;
  after = c.take_turns-drove.new.hub;
  begins = c.new-hub.ensures.starts;
  takes = c.new-hub.ensures.source;
  gives = sym c.into_source.ensures;
  goes = c.take_turns-drove.ensures.goes;
}
