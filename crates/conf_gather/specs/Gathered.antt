-- A configuration file with all that it includes, as one tree.
use Rattle.std.specs.Prelude.{◌≡◌, IsErrOf, ℕ, zero, suc, Bool, if◌then◌else◌, List, [], ◌∷◌, ◌++◌, codes, Option, Some, None, Result, Ok, Err}
use Rattle.std.specs.Option.{option_or}
use Rattle.std.specs.List.{list_any}
use Rattle.std.specs.Str.{bytes_eq}
use Rattle.fg_outside.specs.Contents.{Contents}
use Rattle.fg_outside.specs.declared.files.ReadRefused.{ReadRefused}
use Rattle.fg_outside.specs.declared.files.ReadRefused.TheVariants as reads
use Rattle.yaml_subset.specs.declared.fault.YamlFault.{YamlFault}
use Rattle.yaml_tree.specs.declared.tree.Pair.{Pair}
use Rattle.yaml_tree.specs.declared.tree.Tree.{Tree}
use Rattle.yaml_tree.specs.declared.tree.Tree.TheVariants as tree
use Rattle.yaml_subset.specs.Reading.{read_of}
use Rattle.conf_shape.specs.declared.refused.ConfCause.{ConfCause}
use Rattle.conf_shape.specs.declared.refused.ConfCause.TheVariants.{WrongType, Duplicate}
use Rattle.conf_shape.specs.declared.refused.ConfFault.{ConfFault}
use Rattle.conf_shape.specs.Reads.{entries_of}
use Rattle.conf_gather.specs.declared.refused.LoadRefused.{LoadRefused}
use Rattle.conf_gather.specs.declared.refused.LoadRefused.TheVariants.{Read, Yaml, Conf, IncludeTwice, IncludeDepth, Absent, Memory}
use Rattle.conf_gather.specs.declared.include.Role.{Role}
use Rattle.conf_gather.specs.declared.include.Role.TheVariants.{Main}
use Rattle.conf_gather.specs.declared.include.Include.{Include}
use Rattle.conf_gather.specs.declared.take.Gathered.{Gathered}
use Rattle.conf_gather.specs.Gives.{◌>>=◌}
use Rattle.conf_gather.specs.Includes.{is_included, is_optional, includes_of}
use Rattle.conf_gather.specs.WrongTypes.{is_document, wrong_entries}
use Rattle.conf_gather.specs.Joined.{all_given_again, joined}

-- the bytes under each name; none where there is no such file
abbrev pub Held : Type 0
Held = List ℕ → Option (List ℕ)

-- ---- one file

-- the tree of a file that may not be there; none where it is passed over
abbrev pub text_tree : (name : List ℕ) → Result Tree YamlFault → Result (Option Tree) LoadRefused
text_tree name (Ok t) = Ok (Some t)
text_tree name (Err fault) = Err (Yaml name fault)

abbrev pub tree_of : Include → Option (List ℕ) → Result (Option Tree) LoadRefused
tree_of i None = if is_optional i.role then Ok None else Err (Absent i.name)
tree_of i (Some text) = text_tree i.name (read_of text)

-- how the tree of a file is found
abbrev pub Finds : Type 0
Finds = Include → Result (Option Tree) LoadRefused

-- by what these files hold
abbrev pub held_by : Held → Finds
held_by held i = tree_of i (held i.name)

-- the same, where each read of the file of this name fails
abbrev pub unread_at : (file : List ℕ) → Held → Finds
unread_at file held i = if bytes_eq i.name file then Err (Read file) else held_by held i

-- `Read` names a file such that the definition gives just that where each read of this file fails
abbrev pub NamesUnread : {Y : Type 0} → Option Contents → Result Y LoadRefused → (Finds → Result Y LoadRefused) → Type 0
NamesUnread contents answer given = (held : Contents) (file : List ℕ) → contents ≡ Some held → IsErrOf answer (Read file) → given (unread_at file (held 0)) ≡ Err (Read file)

-- why a file has no text
abbrev pub unread : Include → ReadRefused → Result (Option Tree) LoadRefused
unread i reads.Absent = if is_optional i.role then Ok None else Err (Absent i.name)
unread i reads.Failed = Err (Read i.name)
unread i reads.Memory = Err Memory

abbrev pub fault_at : ConfCause → Option (List ℕ) → Option ConfFault
fault_at cause None = None
fault_at cause (Some path) = Some (record { path = path; cause = cause })

-- what is wrong with a file's entries behind those gathered: a type, or else a name that was given before
abbrev pub entries_fault : Role → List Pair → List Pair → Option ConfFault
entries_fault role gathered pairs =
    option_or (fault_at WrongType (wrong_entries (is_included role) gathered pairs)) (fault_at Duplicate (all_given_again gathered pairs))

abbrev pub tree_fault : Role → List Pair → Tree → Option ConfFault
tree_fault role gathered t = if is_document t then entries_fault role gathered (entries_of t) else fault_at WrongType (Some (codes "."))

-- a file was reached, and its entries are joined with those gathered
abbrev pub with_tree : Include → Gathered → Tree → Gathered
with_tree i g t = record { reached = g.reached ++ i.name ∷ []; pairs = joined g.pairs (entries_of t) }

abbrev pub unless_fault : Option ConfFault → Gathered → Result Gathered LoadRefused
unless_fault None g = Ok g
unless_fault (Some fault) g = Err (Conf fault)

abbrev pub taken : Include → Gathered → Tree → Result Gathered LoadRefused
taken i g t = unless_fault (tree_fault i.role g.pairs t) (with_tree i g t)

-- ---- a file with its includes

abbrev pub was_reached : List ℕ → List (List ℕ) → Bool
was_reached name reached = list_any (bytes_eq name) reached

-- files one after the other, each by the same rule
unfoldable pub each : (Include → Gathered → Result Gathered LoadRefused) → List Include → Gathered → Result Gathered LoadRefused
each one [] g = Ok g
each one (i ∷ is) g = one i g >>= each one is

-- a file that was read, and its includes by this rule; one that is passed over gives nothing
abbrev pub with_includes : (Include → Gathered → Result Gathered LoadRefused) → Include → Gathered → Option Tree → Result Gathered LoadRefused
with_includes one i g None = Ok g
with_includes one i g (Some t) = taken i g t >>= each one (includes_of i.name (entries_of t))

-- a file and its includes, depth first, behind what was gathered before, with at most so many levels of files
unfoldable pub gather : Finds → (levels : ℕ) → Include → Gathered → Result Gathered LoadRefused
gather finds zero i g = if was_reached i.name g.reached then Err (IncludeTwice i.name) else Err (IncludeDepth i.name)
gather finds (suc n) i g =
    if was_reached i.name g.reached then Err (IncludeTwice i.name)
    else (finds i >>= with_includes (gather finds n) i g)

-- ---- the whole

abbrev pub nothing : Gathered
nothing = record { reached = []; pairs = [] }

abbrev pub main_file : List ℕ → Include
main_file name = record { name = name; role = Main }

abbrev pub tree_with : Gathered → Result Tree LoadRefused
tree_with g = Ok (tree.Map g.pairs)

-- the tree of the main file with its includes, which lie at most 8 deep
abbrev pub gathered_by : Finds → (name : List ℕ) → Result Tree LoadRefused
gathered_by finds name = gather finds 9 (main_file name) nothing >>= tree_with

abbrev pub gathered : Held → (name : List ℕ) → Result Tree LoadRefused
gathered held name = gathered_by (held_by held) name
