use Rattle.std.proofs.Common.{arith}
use Rattle.law_texts.proofs.BlockLaws.{begun_found, begun_there, end_found, end_there, top_found, top_there}
use Rattle.law_texts.proofs.blocks.lines_begin_and_end_blocks_by_their_indents.Goals as goal

pub returns : goal.returns
returns c = record {
  innermost = λ indent frames. (top_found indent frames, top_there indent frames);
  ended = λ indent item f around. (end_found indent item f around, end_there indent item f around);
  begun = λ frames slot indent item. (begun_found frames slot indent item, begun_there frames slot indent item);
  levels = λ frames few. omega arith;
}
