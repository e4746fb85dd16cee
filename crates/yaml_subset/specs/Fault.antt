-- What is printed of a fault, and what a reader of the code gives.
use Rattle.std.specs.Prelude.{ℕ, List, ◌++◌, codes}
use Rattle.yaml_subset.specs.declared.fault.YamlForm.{YamlForm}
use Rattle.yaml_subset.specs.declared.fault.YamlForm.TheVariants.{Anchor, Alias, Tag, BlockScalar, Directive, ComplexKey, MergeKey, Documents, LongFlow, LongQuote, Wide}
use Rattle.yaml_subset.specs.declared.fault.YamlCause.{YamlCause}
use Rattle.yaml_subset.specs.declared.fault.YamlCause.TheVariants.{NotUtf8, TooLong, TooDeep, Tab, LeftOut, Indent, DuplicateKey, Syntax}

-- the name of a form that the subset leaves out
abbrev pub form_text : YamlForm → List ℕ
form_text Anchor = codes "Anchor"
form_text Alias = codes "Alias"
form_text Tag = codes "Tag"
form_text BlockScalar = codes "BlockScalar"
form_text Directive = codes "Directive"
form_text ComplexKey = codes "ComplexKey"
form_text MergeKey = codes "MergeKey"
form_text Documents = codes "Documents"
form_text LongFlow = codes "LongFlow"
form_text LongQuote = codes "LongQuote"
form_text Wide = codes "Wide"

-- a cause as it is printed
abbrev pub cause_text : YamlCause → List ℕ
cause_text NotUtf8 = codes "NotUtf8"
cause_text TooLong = codes "TooLong"
cause_text TooDeep = codes "TooDeep"
cause_text Tab = codes "Tab"
cause_text (LeftOut form) = codes "LeftOut " ++ form_text form
cause_text Indent = codes "Indent"
cause_text DuplicateKey = codes "DuplicateKey"
cause_text Syntax = codes "Syntax"
