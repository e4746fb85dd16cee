-- The text that a look finds.
use Rattle.std.specs.Prelude.{◌≡◌, ◌⊎◌, ℕ, List, take, Option, Some, None, Result, Ok, Err, unwrap_or, []}
use Rattle.fg_outside.specs.Contents.{Contents}
use Rattle.yaml_tree.specs.declared.tree.Tree.{Tree}
use Rattle.yaml_subset.specs.Printed.{printed}
use Rattle.conf_gather.specs.declared.refused.LoadRefused.{LoadRefused}
use Rattle.conf_gather.specs.declared.refused.LoadRefused.TheVariants.{Absent}
use Rattle.conf_gather.specs.Gathered.{Held, gathered}

-- the first bytes of a file: one more than a text may have, so that a longer one is seen to be too long
abbrev pub front_of : List ℕ → List ℕ
front_of file = take 1048577 file

-- a needed file isn't there, or what was read is refused
abbrev pub refused_text : (main : List ℕ) → LoadRefused → Option (List ℕ)
refused_text main (Absent file) = None
refused_text main _ = Some (front_of main)

abbrev pub gathered_text : (main : List ℕ) → Result Tree LoadRefused → Option (List ℕ)
gathered_text main (Ok t) = Some (printed t)
gathered_text main (Err refused) = refused_text main refused

-- The text of a file with its includes, where these files are held: the canonical text of what is gathered, or where that is
-- refused, the front of the main file. None where a file that has to be there isn't.
abbrev pub text_of : Held → (name : List ℕ) → Option (List ℕ)
text_of held name = gathered_text (unwrap_or (held name) []) (gathered held name)

-- A look found this text, or none: a text is the one that the files have, where they tell it, and there is none only where a
-- read failed or a needed file isn't there.
pub record Finds (contents : Option Contents) (name : List ℕ) (text : Option (List ℕ)) (fault absence : Type 0) : Type 0 where
  pub told : (held : Contents) (found : List ℕ) → contents ≡ Some held → text ≡ Some found → text_of (held 0) name ≡ Some found
  pub missing : (held : Contents) → contents ≡ Some held → text ≡ None → fault ⊎ (text_of (held 0) name ≡ None)
  pub unread : text ≡ None → fault ⊎ absence
