use Rattle.law_texts.proofs.OpenedLines.{leads_open, open_leads}
use Rattle.law_texts.proofs.texts.lines_leave_open_what_the_grammar_says.Goals as goal

pub returns : goal.returns
returns c = λ before end. (leads_open before end, open_leads before end)
