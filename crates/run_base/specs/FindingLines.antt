-- The lines of findings.
use Rattle.std.specs.Prelude.{ℕ, Bool, not, List, [], ◌∷◌, ◌++◌, ◌||◌, codes, flat_map, if◌then◌else◌}
use Rattle.sudo_policy.specs.declared.finding.Class.{Class}
use Rattle.sudo_policy.specs.declared.finding.Class.TheVariants.{Redefined, Undefined, Cycle, TooDeep, TooWide, Unused}
use Rattle.sudo_policy.specs.declared.finding.Finding.{Finding}
use Rattle.sudo_policy.specs.Found.{is_error}
use Rattle.sudo_grammar.specs.declared.kind.Kind.{Kind}
use Rattle.sudo_grammar.specs.declared.kind.Kind.TheVariants as kinds
use Rattle.audit_files.specs.Places.{place_text}

-- the keyword of a kind of alias
abbrev pub keyword_text : Kind → List ℕ
keyword_text kinds.User = codes "User_Alias"
keyword_text kinds.Runas = codes "Runas_Alias"
keyword_text kinds.Host = codes "Host_Alias"
keyword_text kinds.Cmnd = codes "Cmnd_Alias"

-- the text of a class of findings
abbrev pub class_text : Class → List ℕ
class_text Redefined = codes ": error: redefined "
class_text Undefined = codes ": error: undefined "
class_text Cycle = codes ": error: cycle "
class_text TooDeep = codes ": error: too deep "
class_text TooWide = codes ": error: too wide "
class_text Unused = codes ": warning: unused "

-- the line of a finding on a policy with these files
abbrev pub finding_line : List (List ℕ) → Finding → List ℕ
finding_line files finding = place_text files finding.place ++ class_text finding.class ++ keyword_text finding.kind
    ++ codes " " ++ finding.name ++ 10 ∷ []

-- the line of a finding, if it is listed: a warning is not, if only errors are
abbrev pub listed_line : List (List ℕ) → Bool → Finding → List ℕ
listed_line files errors_alone finding = if not errors_alone || is_error finding.class then finding_line files finding else []

-- the lines of all findings, or of the errors only
abbrev pub finding_lines : List (List ℕ) → Bool → List Finding → List ℕ
finding_lines files errors_alone found = flat_map (listed_line files errors_alone) found
