-- The table of the differences of two policies, as CSV.
use Rattle.std.specs.Prelude.{ℕ, not, nat_lt, ◌==◌, ◌*◌, if◌then◌else◌, List, [], ◌∷◌, ◌++◌, codes, drop, filter, flat_map, length, map}
use Rattle.std.specs.Prelude.{slice_get}
use Rattle.std.specs.List.{list_any, range_with_len}
use Rattle.std.specs.Prelude.{None, Option, Some}
use Rattle.csv.specs.Writing.{default_writer, field_text, fields_text}
use Rattle.audit_files.specs.Report.{verdict_place, verdict_tags, verdict_word}
use Rattle.sudo_text.specs.declared.line.Place.{Place}
use Rattle.sudo_match.specs.declared.people.Group.{Group}
use Rattle.sudo_match.specs.declared.request.Verdict.{Verdict}
use Rattle.sudo_match.specs.declared.request.Verdict.TheVariants.{NoMatch}
use Rattle.sudo_match.specs.KnownRows.{KnownRows}
use Rattle.sudo_parser.specs.Texts.{atom_text, user_text}
use Rattle.sudo_grammar.specs.declared.policy.Policy.{Policy}
use Rattle.review_grants.specs.declared.marks.Marks.{Marks}
use Rattle.review_grants.specs.Depends.{depends_text, has_mark, joined_marks, marks_at, unmarked}
use Rattle.review_grants.specs.GrantRows.{joined}
use Rattle.review_texts.specs.Masks.{as_written}
use Rattle.review_texts.specs.Notes.{notes}
use Rattle.review_compare.specs.declared.cell.AskedGroups.{AskedGroups}
use Rattle.review_compare.specs.declared.cell.AskedGroups.TheVariants as which
use Rattle.review_compare.specs.declared.compared.Compared.{Compared}
use Rattle.review_compare.specs.declared.compared.Compared.TheVariants as compared
use Rattle.review_compare.specs.declared.compared.Decider.{Decider}
use Rattle.review_compare.specs.declared.row.Row.{Row}
use Rattle.review_compare.specs.declared.witness.Witness.{Witness}
use Rattle.review_compare.specs.Cells.{answered_by}
use Rattle.review_compare.specs.Differences.{targets_of}
use Rattle.review_compare.specs.Names.{answer_name}

-- the names of the known users and hosts, and of the groups, each as it would stand in a policy
abbrev pub user_names : KnownRows → List (List ℕ)
user_names d = map (λ u. user_text u.name) d.people

abbrev pub host_names : KnownRows → List (List ℕ)
host_names d = map (λ m. user_text m.name) d.machines

abbrev pub group_names : List Group → List (List ℕ)
group_names groups = map (λ g. user_text g.name) groups

-- the name at an index
abbrev pub name_if : Option (List ℕ) → List ℕ
name_if None = []
name_if (Some name) = name

abbrev pub name_at : List (List ℕ) → ℕ → List ℕ
name_at names i = name_if (slice_get names i)

-- the indices below a count that are not among these
abbrev pub missing : ℕ → List ℕ → List ℕ
missing count numbers = filter (λ i. not (list_any (λ n. n == i) numbers)) (range_with_len 0 count)

-- all names but those at these indices, as a list of a policy says it
abbrev pub all_but : List (List ℕ) → List ℕ → List ℕ
all_but names indices = codes "ALL" ++ flat_map (λ i. codes ", !" ++ name_at names i) indices

-- the names at these indices, with a comma and a space between them; `ALL` but those that are missing, where there are more than
-- four times as many
abbrev pub names_text : List (List ℕ) → List ℕ → List ℕ
names_text names numbers =
    if nat_lt (4 * length (missing (length names) numbers)) (length numbers) then all_but names (missing (length names) numbers)
    else joined (map (name_at names) numbers)

abbrev pub numbers_of : List (Option ℕ) → List ℕ
numbers_of [] = []
numbers_of (None ∷ numbers) = numbers_of numbers
numbers_of (Some i ∷ numbers) = i ∷ numbers_of numbers

-- the names of those that are asked for; nothing where none is
abbrev pub asked_if : List (List ℕ) → List ℕ → List ℕ
asked_if names [] = []
asked_if names (i ∷ numbers) = names_text names (i ∷ numbers)

abbrev pub asked_text : List (List ℕ) → List (Option ℕ) → List ℕ
asked_text names numbers = asked_if names (numbers_of numbers)

-- those of the groups that are asked for one by one
abbrev pub each_of : List AskedGroups → List (Option ℕ)
each_of [] = []
each_of (which.One index ∷ groups) = index ∷ each_of groups
each_of (_ ∷ groups) = each_of groups

-- those that depend on the target; a name of a group has no parenthesis without a backslash
abbrev pub by_target : List AskedGroups → List (List ℕ)
by_target [] = []
by_target (which.Own ∷ groups) = codes "(own)" ∷ by_target groups
by_target (which.Others ∷ groups) = codes "(others)" ∷ by_target groups
by_target (_ ∷ groups) = by_target groups

abbrev pub text_if : List ℕ → List (List ℕ)
text_if [] = []
text_if (byte ∷ bytes) = (byte ∷ bytes) ∷ []

-- the names of the groups, and then those that depend on the target
abbrev pub groups_text : List (List ℕ) → List AskedGroups → List ℕ
groups_text names groups = joined (text_if (asked_text names (each_of groups)) ++ by_target groups)

-- the first record: the names of the columns
abbrev pub table_header : List ℕ
table_header =
    codes "users,hosts,runas_user,runas_group,answer,command,arguments,old,old_place,old_tags,new,new_place,new_tags,depends"

-- whose cells, where and as whom: the fields with which each record of a row begins
abbrev pub row_head : KnownRows → List Group → Row → List ℕ
row_head d groups r =
    field_text default_writer (names_text (user_names d) r.users)
    ++ fields_text default_writer (names_text (host_names d) r.hosts
    ∷ asked_text (user_names d) (targets_of r.targets) ∷ groups_text (group_names groups) r.groups ∷ [])

-- a policy as the table shows it: the paths of its files, and which notes its lines have
pub record Source : Type 0 where
  pub files : List (List ℕ)
  pub marks : Place → Marks

abbrev pub source_of : Policy → Source
source_of p = record { files = p.files; marks = marks_at p }

-- the word of a verdict, its place, and its tags
abbrev pub verdict_fields : List (List ℕ) → Verdict → List (List ℕ)
verdict_fields files v = verdict_word v ∷ verdict_place files v ∷ verdict_tags v ∷ []

-- both verdicts, what they depend on, and the end of the record
abbrev pub verdicts_text : Source → Source → Verdict → Verdict → List ℕ → List ℕ
verdicts_text s t old new depends =
    fields_text default_writer (verdict_fields s.files old)
    ++ (fields_text default_writer (verdict_fields t.files new) ++ (fields_text default_writer (depends ∷ []) ++ 10 ∷ []))

-- the record of a witness, whose verdicts depend on nothing
abbrev pub witness_line : Source → Source → List ℕ → Witness → List ℕ
witness_line s t head w =
    head ++ (fields_text default_writer (answer_name w.answer ∷ w.command ∷ w.arguments ∷ []) ++ verdicts_text s t w.old w.new [])

abbrev pub row_verdict : Option Decider → Verdict
row_verdict None = NoMatch
row_verdict (Some d) = answered_by d.place d.answer

abbrev pub row_texts : Option Decider → List ℕ
row_texts None = []
row_texts (Some d) = 44 ∷ 32 ∷ as_written (atom_text d.atom)

-- which notes the line of a row has
abbrev pub row_marks : Source → Option Decider → Marks
row_marks s None = unmarked
row_marks s (Some d) = s.marks d.place

-- the names of the notes of the lines of both rows
abbrev pub rows_depend : Source → Source → Option Decider → Option Decider → List ℕ
rows_depend s t old new = depends_text (filter (has_mark (joined_marks (row_marks s old) (row_marks t new))) notes)

-- the record of rows that may answer a command otherwise: their commands, with a comma and a space between them, what each answers,
-- and what their lines depend on
abbrev pub may_line : Source → Source → List ℕ → Option Decider → Option Decider → List ℕ
may_line s t head old new =
    head ++ (fields_text default_writer (codes "may" ∷ drop 2 (row_texts old ++ row_texts new) ∷ [] ∷ [])
    ++ verdicts_text s t (row_verdict old) (row_verdict new) (rows_depend s t old new))

abbrev pub found_lines : Source → Source → List ℕ → Compared → List ℕ
found_lines s t head compared.Same = []
found_lines s t head (compared.Differs ws) = flat_map (witness_line s t head) ws
found_lines s t head (compared.May old new) = may_line s t head old new

-- the records of a row
abbrev pub row_lines : Source → Source → KnownRows → List Group → Row → List ℕ
row_lines s t d groups row = found_lines s t (row_head d groups row) row.found

-- the header, and the records of the rows, in their order
abbrev pub table_text : Source → Source → KnownRows → List Group → List Row → List ℕ
table_text old new d groups rows = table_header ++ 10 ∷ flat_map (row_lines old new d groups) rows
