-- The first of the faults that stand in a line or a part of one: that at the least column, and of
-- several there that whose cause has the least number. Columns count from the part's first byte.
use Rattle.std.specs.Prelude.{◌≡◌, ◌⊎◌, ℕ, ◌+◌, ◌<◌, ◌≤◌, Result, Ok, Err}
use Rattle.yaml_subset.specs.declared.fault.YamlForm.{YamlForm}
use Rattle.yaml_subset.specs.declared.fault.YamlForm.TheVariants.{Anchor, Alias, Tag, BlockScalar, Directive, ComplexKey, MergeKey, Documents, LongFlow, LongQuote, Wide}
use Rattle.yaml_subset.specs.declared.fault.YamlCause.{YamlCause}
use Rattle.yaml_subset.specs.declared.fault.YamlCause.TheVariants.{NotUtf8, TooLong, TooDeep, Tab, LeftOut, Indent, DuplicateKey, Syntax}

-- the forms that are left out, in their order
abbrev pub form_number : YamlForm → ℕ
form_number Anchor = 1
form_number Alias = 2
form_number Tag = 3
form_number BlockScalar = 4
form_number Directive = 5
form_number ComplexKey = 6
form_number MergeKey = 7
form_number Documents = 8
form_number LongFlow = 9
form_number LongQuote = 10
form_number Wide = 11

-- the causes, in their order
abbrev pub cause_number : YamlCause → ℕ
cause_number NotUtf8 = 1
cause_number TooLong = 2
cause_number TooDeep = 3
cause_number Tab = 4
cause_number (LeftOut form) = 4 + form_number form
cause_number Indent = 16
cause_number DuplicateKey = 17
cause_number Syntax = 18

-- a fault is told before another: it stands at a lesser column, or its cause has no greater number
abbrev pub ComesFirst : ℕ → YamlCause → ℕ → YamlCause → Type 0
ComesFirst at cause other_at other = (at < other_at) ⊎ ((at ≡ other_at) × (cause_number cause ≤ cause_number other))

-- the fault stands there, and none that stands there is told before it
pub record IsFirst (Stands : ℕ → YamlCause → Type 0) (at : ℕ) (cause : YamlCause) : Type 0 where
  pub there : Stands at cause
  pub least : (other_at : ℕ) (other : YamlCause) → Stands other_at other → ComesFirst at cause other_at other

-- what is read has no fault, and a cause that is told is that of the first
abbrev pub Tells : {X : Type 0} → (ℕ → YamlCause → Type 0) → Result X YamlCause → Type 0
Tells Stands (Ok x) = (at : ℕ) (cause : YamlCause) → Stands at cause → ⊥
Tells Stands (Err cause) = (at : ℕ) × IsFirst Stands at cause
