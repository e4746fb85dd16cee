use Rattle.std.proofs.Common.{sym}
use Rattle.hub_drive.proofs.replay.run_source.Goals as goal

pub returns-clause-runs : goal.returns-clause-runs
returns-clause-runs g c = λ w stands. record {
  hub = c.new-hub.result;
  after = c.drive-drove.new.hub;
  begins = c.new-hub.ensures.starts;
  tells = c.refused-refused.ensures;
  drives = c.drive-drove.ensures.drove w stands;
}

pub returns-clause-reads : goal.returns-clause-reads
returns-clause-reads g c = record {
  hub = c.new-hub.result;
  after = c.drive-drove.new.hub;
  begins = c.new-hub.ensures.starts;
  takes = c.new-hub.ensures.source;
  gives = sym c.into_source.ensures;
  goes = c.drive-drove.ensures.goes;
}
