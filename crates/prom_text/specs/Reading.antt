-- How a block is read: Prometheus' text exposition format (version 0.0.4), of samples with whole numbers as values and
-- without timestamps.
use Rattle.std.specs.Prelude.{◌≡◌, ℕ, ◌^◌, ◌<◌, ◌==◌, ◌&&◌, ◌||◌, Bool, true, false, if◌then◌else◌, List, [], ◌∷◌, ◌++◌, codes, Option, Some, None}
use Rattle.std.specs.Char.{is_ascii_alphabetic, is_ascii_digit}
use Rattle.std.specs.List.{list_all, AllByRecursion}
use Rattle.std.specs.Str.{bytes_eq}
use Rattle.std.specs.Str.Parse.{digits_value}
use Rattle.prom_text.specs.Samples.{Label, Sample, Metric}

-- ---- names and kinds

abbrev pub starts_label : ℕ → Bool
starts_label b = is_ascii_alphabetic b || b == 95

abbrev pub is_of_label : ℕ → Bool
is_of_label b = starts_label b || is_ascii_digit b

-- the name of a metric may have colons too
abbrev pub starts_metric : ℕ → Bool
starts_metric b = starts_label b || b == 58

abbrev pub is_of_metric : ℕ → Bool
is_of_metric b = is_of_label b || b == 58

abbrev pub is_label_name : List ℕ → Bool
is_label_name [] = false
is_label_name (b ∷ more) = starts_label b && list_all is_of_label more

abbrev pub is_metric_name : List ℕ → Bool
is_metric_name [] = false
is_metric_name (b ∷ more) = starts_metric b && list_all is_of_metric more

abbrev pub is_kind : List ℕ → Bool
is_kind word =
    bytes_eq word (codes "counter") || (bytes_eq word (codes "gauge") || (bytes_eq word (codes "histogram")
    || (bytes_eq word (codes "summary") || bytes_eq word (codes "untyped"))))

abbrev pub is_blank : ℕ → Bool
is_blank b = b == 32 || b == 9

-- ---- one line

-- a sample under way: its metric, and its labels so far
pub record Under : Type 0 where
  pub name : List ℕ
  pub labels : List Label

-- where a reader is in a line
pub data Place : Type 0 where
  -- nothing of the line was read
  at_start : Place
  -- in a comment, with its words so far
  in_comment : (words : List (List ℕ)) → (word : List ℕ) → Place
  in_name : (name : List ℕ) → Place
  -- behind the opening brace, or behind a comma
  at_label : Under → Place
  in_label : Under → (name : List ℕ) → Place
  -- behind the equals sign
  at_quote : Under → (name : List ℕ) → Place
  in_value : Under → (name value : List ℕ) → Place
  -- behind a backslash
  in_escape : Under → (name value : List ℕ) → Place
  -- behind a closing quote
  behind_label : Under → Place
  -- behind the closing brace
  behind_labels : Under → Place
  in_number : Under → (digits : List ℕ) → Place
  wrong : Place

-- a word ends, where one was begun
abbrev pub with_word : List (List ℕ) → List ℕ → List (List ℕ)
with_word words [] = words
with_word words (b ∷ more) = words ++ (b ∷ more) ∷ []

abbrev pub with_label : Under → (name value : List ℕ) → Under
with_label u name value = record u { labels = u.labels ++ record { name = name; value = value } ∷ [] }

-- the byte behind a backslash
abbrev pub unescaped : Under → (name value : List ℕ) → ℕ → Place
unescaped u name value b =
    if b == 92 then in_value u name (value ++ 92 ∷ []) else (
    if b == 34 then in_value u name (value ++ 34 ∷ []) else (
    if b == 110 then in_value u name (value ++ 10 ∷ []) else wrong))

-- one byte that doesn't end the line
abbrev pub step : Place → ℕ → Place
step at_start b =
    if b == 35 then in_comment [] [] else (
    if starts_metric b then in_name (b ∷ []) else (
    if is_blank b then at_start else wrong))
step (in_comment words word) b = if is_blank b then in_comment (with_word words word) [] else in_comment words (word ++ b ∷ [])
step (in_name name) b =
    if is_of_metric b then in_name (name ++ b ∷ []) else (
    if b == 123 then at_label (record { name = name; labels = [] }) else wrong)
step (at_label u) b =
    if starts_label b then in_label u (b ∷ []) else (
    if b == 125 then behind_labels u else (
    if is_blank b then at_label u else wrong))
step (in_label u name) b =
    if is_of_label b then in_label u (name ++ b ∷ []) else (
    if b == 61 then at_quote u name else wrong)
step (at_quote u name) b = if b == 34 then in_value u name [] else (if is_blank b then at_quote u name else wrong)
step (in_value u name value) b =
    if b == 92 then in_escape u name value else (
    if b == 34 then behind_label (with_label u name value) else in_value u name (value ++ b ∷ []))
step (in_escape u name value) b = unescaped u name value b
step (behind_label u) b =
    if b == 44 then at_label u else (
    if b == 125 then behind_labels u else (
    if is_blank b then behind_label u else wrong))
step (behind_labels u) b =
    if is_ascii_digit b then in_number u (b ∷ []) else (
    if is_blank b then behind_labels u else wrong)
step (in_number u digits) b = if is_ascii_digit b then in_number u (digits ++ b ∷ []) else wrong
step wrong b = wrong

-- ---- lines

-- what was read: metrics before the last one, and the last one, to which samples belong
pub record Reader : Type 0 where
  pub before : List Metric
  pub last : Option Metric
  pub place : Place

abbrev pub with_last : List Metric → Option Metric → List Metric
with_last before None = before
with_last before (Some m) = before ++ m ∷ []

-- a comment that tells the kind of a metric begins that metric; other comments are passed over
abbrev pub end_comment : Reader → (words : List (List ℕ)) → Reader
end_comment r (word ∷ name ∷ kind ∷ []) =
    if bytes_eq word (codes "TYPE")
    then (if is_metric_name name && is_kind kind
    then record { before = with_last r.before r.last; last = Some (record { name = name; kind = kind; samples = [] }); place = at_start }
    else record r { place = wrong })
    else record r { place = at_start }
end_comment r words = record r { place = at_start }

-- a sample stands behind the line of its metric
abbrev pub end_sample : Reader → Option Metric → Under → Sample → Reader
end_sample r None u s = record r { place = wrong }
end_sample r (Some m) u s =
    if bytes_eq m.name u.name
    then record { before = r.before; last = Some (record m { samples = m.samples ++ s ∷ [] }); place = at_start }
    else record r { place = wrong }

abbrev pub end_line : Reader → Place → Reader
end_line r at_start = r
end_line r (in_comment words word) = end_comment r (with_word words word)
end_line r (in_number u digits) = end_sample r r.last u (record { labels = u.labels; value = digits_value 10 digits })
end_line r place = record r { place = wrong }

abbrev pub read_byte : Reader → ℕ → Reader
read_byte r b = if b == 10 then end_line r r.place else record r { place = step r.place b }

abbrev pub read_on : Reader → List ℕ → Reader
read_on r [] = r
read_on r (b ∷ more) = read_on (read_byte r b) more

-- ---- a whole text, whose last line has its end

abbrev pub read_with : Reader → Place → Option (List Metric)
read_with r at_start = Some (with_last r.before r.last)
read_with r place = None

abbrev pub begun : Reader
begun = record { before = []; last = None; place = at_start }

unfoldable pub read : List ℕ → Option (List Metric)
read text = let r = read_on begun text in read_with r r.place

-- ---- metrics that can be read back

pub record IsSample (s : Sample) : Type 0 where
  pub labels : AllByRecursion (λ l. is_label_name l.name ≡ true) s.labels
  pub value : s.value < 2 ^ 64

pub record IsMetric (m : Metric) : Type 0 where
  pub name : is_metric_name m.name ≡ true
  pub kind : is_kind m.kind ≡ true
  pub samples : AllByRecursion IsSample m.samples
