-- The lines of cautions, and the line that counts them.
use Rattle.std.specs.Prelude.{ℕ, Bool, not, List, [], ◌∷◌, ◌++◌, codes, decimal, filter, flat_map, fold, length, bytes_eq}
use Rattle.std.specs.Prelude.{◌==◌, if◌then◌else◌}
use Rattle.std.specs.List.{list_any}
use Rattle.audit_files.specs.Places.{place_text}
use Rattle.run_base.specs.Endings.{Notices, notices}
use Rattle.run_base.specs.FaultLines.{policy_explained}
use Rattle.run_base.specs.Faults.{policy_status}
use Rattle.run_base.specs.declared.fault.PolicyFault.{PolicyFault}
use Rattle.audit_commands.specs.FaultLines.{report_explained}
use Rattle.audit_commands.specs.Faults.{report_status}
use Rattle.audit_commands.specs.declared.fault.ReportFault.{ReportFault}
use Rattle.review_cautions.specs.Classes.{class_name, class_text, classes}
use Rattle.review_cautions.specs.declared.caution.Caution.{Caution}
use Rattle.review_cautions.specs.declared.class.CautionClass.{CautionClass}

-- the name of the program
abbrev pub program_name : List ℕ
program_name = codes "sudo_review"

-- the subject of a caution, if it has one, and a colon
abbrev pub subject_text : List ℕ → List ℕ
subject_text [] = []
subject_text (b ∷ rest) = (b ∷ rest) ++ codes ": "

-- the class of a caution, between colons
abbrev pub heading : CautionClass → List ℕ
heading class = codes ": caution: " ++ class_name class ++ codes ": "

-- what a caution says: its subject, if it has one, and the text of its class
abbrev pub explanation : Caution → List ℕ
explanation caution = subject_text caution.subject ++ class_text caution.class ++ 10 ∷ []

-- `PATH:LINE: caution: CLASS: TEXT`, or `PATH:LINE: caution: CLASS: SUBJECT: TEXT`
abbrev pub caution_line : List (List ℕ) → Caution → List ℕ
caution_line files caution = place_text files caution.place ++ heading caution.class ++ explanation caution

-- `cautions: N`
abbrev pub counted_line : ℕ → List ℕ
counted_line count = codes "cautions: " ++ decimal count ++ 10 ∷ []

-- a line for each caution, and one with their number
abbrev pub cautions_text : List (List ℕ) → List Caution → List ℕ
cautions_text files found = flat_map (caution_line files) found ++ counted_line (length found)

-- 5 if there is a caution, otherwise 0
abbrev pub cautions_status : List Caution → ℕ
cautions_status [] = 0
cautions_status (caution ∷ rest) = 5

-- the class is one of these: its name is that of one of them
abbrev pub is_without : List CautionClass → CautionClass → Bool
is_without without class = list_any (λ other. bytes_eq (class_name other) (class_name class)) without

-- the cautions but for those of these classes
abbrev pub kept_cautions : List CautionClass → List Caution → List Caution
kept_cautions without found = filter (λ caution. not (is_without without caution.class)) found

-- one of the cautions has this class: its name
abbrev pub has_class : List Caution → CautionClass → Bool
has_class found class = list_any (λ caution. bytes_eq (class_name caution.class) (class_name class)) found

-- the name of a class after those so far, after a comma unless it is the first
abbrev pub with_class : List ℕ → CautionClass → List ℕ
with_class [] class = class_name class
with_class (b ∷ before) class = (b ∷ before) ++ codes ", " ++ class_name class

-- the names so far, and that of a class if one of the cautions has it
abbrev pub with_found : List Caution → List ℕ → CautionClass → List ℕ
with_found found before class = if has_class found class then with_class before class else before

-- the names of the classes of the cautions, in the order of the classes
abbrev pub listed_classes : List Caution → List ℕ
listed_classes found = fold (with_found found) [] classes

-- names of classes in parentheses, and the end of the line (41 is `)`)
abbrev pub in_parentheses : List ℕ → List ℕ
in_parentheses names = codes " cautions (" ++ names ++ 41 ∷ 10 ∷ []

-- a number of cautions, and their classes
abbrev pub counted_classes : ℕ → List ℕ → List ℕ
counted_classes count names = decimal count ++ in_parentheses names

-- the line that a command which judges ends with: `sudo_review: N cautions (CLASS, ..)`; nothing if there is no caution
abbrev pub notice_text : List Caution → List ℕ
notice_text found = if length found == 0 then []
    else (program_name ++ codes ": ") ++ counted_classes (length found) (listed_classes found)

-- how a line of one policy of two begins: `sudo_review: PATH: `
abbrev pub path_beginning : List ℕ → List ℕ
path_beginning path = (program_name ++ codes ": ") ++ (path ++ codes ": ")

-- the line for one policy of two, by the path of its main file: `sudo_review: PATH: N cautions (CLASS, ..)`; nothing if there is
-- no caution
abbrev pub path_notice : List ℕ → List Caution → List ℕ
path_notice path found = if length found == 0 then []
    else path_beginning path ++ counted_classes (length found) (listed_classes found)

-- the lines for both policies
abbrev pub pair_notice : List ℕ → List Caution → List ℕ → List Caution → List ℕ
pair_notice old_path old_found new_path new_found = path_notice old_path old_found ++ path_notice new_path new_found

-- what each command prints for its faults
abbrev pub policy_notices : Notices PolicyFault
policy_notices = notices policy_status policy_explained program_name

abbrev pub report_notices : Notices ReportFault
report_notices = notices report_status report_explained program_name
