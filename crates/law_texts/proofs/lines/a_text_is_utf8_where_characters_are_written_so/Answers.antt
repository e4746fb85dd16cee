use Rattle.std.proofs.lemmas.Str.{IsUtf8-from_is_utf8, is_utf8-from_IsUtf8}
use Rattle.law_texts.proofs.lines.a_text_is_utf8_where_characters_are_written_so.Goals as goal

pub returns : goal.returns
returns c = λ text. (IsUtf8-from_is_utf8 text, is_utf8-from_IsUtf8 text)
