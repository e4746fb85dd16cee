use Rattle.prom_text.proofs.ReadBack.{block_read}
use Rattle.prom_text.proofs.laws.a_block_is_read_back.Goals as goal

pub returns : goal.returns
returns c = block_read
