-- The policy of a run.
use Rattle.std.specs.Prelude.{◌≡◌, ◌≤◌, ◌⊎◌, ◌==◌, if◌then◌else◌, ⊤, ℕ, length, List, Option, None, Some, Ok, Err, true, option_and_then}
use Rattle.audit_files.specs.Places as places
use Rattle.sudo_grammar.specs.declared.fault.ParseFault.{ParseFault}
use Rattle.sudo_grammar.specs.declared.fault.ParseFault.TheVariants as parses
use Rattle.sudo_grammar.specs.declared.policy.Policy.{Policy}
use Rattle.sudo_load.specs.declared.fault.LoadFault.{LoadFault}
use Rattle.sudo_load.specs.declared.fault.LoadFault.TheVariants as load_faults
use Rattle.sudo_load.specs.declared.fault.Want.{Want}
use Rattle.sudo_load.specs.declared.supply.Supply.{Supply}
use Rattle.sudo_load.specs.Load.{IsLoad}
use Rattle.sudo_policy.specs.Checking.{FailsCheck, Passes}
use Rattle.sudo_policy.specs.declared.finding.Finding.{Finding}
use Rattle.sudo_text.specs.declared.fault.TextFault.{TextFault}
use Rattle.sudo_text.specs.declared.fault.TextFault.TheVariants as texts
use Rattle.sudo_text.specs.declared.line.Place.{Place}
use Rattle.run_base.specs.FaultTexts.{wanted_path}
use Rattle.run_base.specs.FindingLines.{finding_lines}
use Rattle.run_base.specs.Holding.{AreHeld, Holdings, file_at}
use Rattle.run_base.specs.declared.fault.PolicyFault.{PolicyFault}
use Rattle.run_base.specs.declared.fault.PolicyFault.TheVariants as faults
use Rattle.run_base.specs.declared.obstacle.Obstacle.{Obstacle}
use Rattle.run_base.specs.declared.obstacle.Obstacle.TheVariants as obstacles

-- the policy is that to which this text of the main file, and these texts and names of what is included, unfold; they are
-- those of the files that exist, if these are specified
abbrev pub IsLoadedFrom : Holdings → List ℕ → List ℕ → List Supply → Policy → Type 0
IsLoadedFrom held path text handed policy = held.is_file path (Some text) × AreHeld held handed × IsLoad path text handed (Ok policy)

-- the policy is that to which some text of the main file, and some texts and names of what is included, unfold
abbrev pub IsLoaded : Holdings → List ℕ → Policy → Type 0
IsLoaded held path policy = (text : List ℕ) × (handed : List Supply) × IsLoadedFrom held path text handed policy

-- the content of the files is refused: no further file is needed, and allocation did not fail
abbrev pub IsOfContent : LoadFault → Type 0
IsOfContent (load_faults.Wanted want) = ⊥
IsOfContent load_faults.Memory = ⊥
IsOfContent fault = ⊤

-- the text of the main file, and what was handed in of the files that exist, end in this fault;
-- `read` are the paths of the files that were read until then
abbrev pub EndsIn : Holdings → List ℕ → List (List ℕ) → LoadFault → Type 0
EndsIn held path read fault = (text : List ℕ) × (handed : List Supply) × held.is_file path (Some text) × AreHeld held handed
    × IsLoad path text handed (Err (read, fault))

-- the place of a fault of a text, if it is in a line
abbrev pub text_place : TextFault → Option Place
text_place (texts.BadQuote place col) = Some place
text_place (texts.BadHex place col) = Some place
text_place (texts.BadEscape place col) = Some place
text_place (texts.NotPrintable place col) = Some place
text_place _ = None

-- the place of a fault of a policy's lines
abbrev pub parse_place : ParseFault → Option Place
parse_place (parses.Syntax place col expected) = Some place
parse_place (parses.Unsupported place what) = Some place
parse_place (parses.NotCommand place col) = Some place
parse_place (parses.BadNumber place col) = Some place
parse_place (parses.TooMany place) = Some place
parse_place (parses.Text fault) = text_place fault
parse_place parses.Memory = None

-- the place of a fault in a line
abbrev pub fault_place : LoadFault → Option Place
fault_place (load_faults.Parse fault) = parse_place fault
fault_place fault = None

-- the text of the file of this number, given the text of the main file, what was handed in, and the paths of the files
abbrev pub text_of_file : List ℕ → List Supply → List (List ℕ) → ℕ → Option (List ℕ)
text_of_file main handed read number =
    if number == 0 then Some main else file_at handed (places.path_of read number)

-- the text of the file in which a fault is, if it is in a line
abbrev pub text_at_fault : List ℕ → List Supply → List (List ℕ) → LoadFault → Option (List ℕ)
text_at_fault main handed read fault = option_and_then (λ place. text_of_file main handed read place.file) (fault_place fault)

-- the files unfold to no policy, for this reason, which is their content; `faulty` is the text of the file in which it is
abbrev pub IsUnloaded : Holdings → List ℕ → List (List ℕ) → LoadFault → Option (List ℕ) → Type 0
IsUnloaded held path read fault faulty = IsOfContent fault × ((text : List ℕ) × (handed : List Supply) × held.is_file path (Some text)
    × AreHeld held handed × IsLoad path text handed (Err (read, fault)) × (faulty ≡ text_at_fault text handed read fault))

-- the path is that of the main file, or it is needed after what was handed in
abbrev pub IsNeeded : Holdings → List ℕ → List ℕ → Type 0
IsNeeded held path needed = (needed ≡ path) ⊎ ((want : Want) × (needed ≡ wanted_path want)
    × ((read : List (List ℕ)) × EndsIn held path read (load_faults.Wanted want)))

-- a needed path cannot be read, for this reason; or it is that of the main file, which does not exist
abbrev pub IsUnreadPath : Holdings → List ℕ → List ℕ → Obstacle → Type 0
IsUnreadPath held path unread why = (IsNeeded held path unread × held.is_unreadable unread why)
    ⊎ ((unread ≡ path) × held.is_file path None × (why ≡ obstacles.NotFound))

-- the file at a needed path is too long
abbrev pub IsLongPath : Holdings → List ℕ → List ℕ → Type 0
IsLongPath held path long = IsNeeded held path long × held.is_long long

-- the most files and folders that are handed in
abbrev pub most_supplies : ℕ
most_supplies = 2048

-- as many files and folders exist as are handed in at most
abbrev pub AreTooMany : Holdings → Type 0
AreTooMany held = (handed : List Supply) × AreHeld held handed × (most_supplies ≤ length handed)

-- why there is no policy: a path cannot be read, a file is too long, too many files are needed, memory failed, or the
-- content of the files is refused
abbrev pub IsNoPolicy : Holdings → List ℕ → PolicyFault → Type 0
IsNoPolicy held path (faults.Refused files fault text) = IsUnloaded held path files fault text
IsNoPolicy held path (faults.CannotRead unread why) = IsUnreadPath held path unread why
IsNoPolicy held path (faults.TooLong long) = IsLongPath held path long
IsNoPolicy held path faults.TooManyFiles = AreTooMany held
IsNoPolicy held path faults.Memory = ⊤
IsNoPolicy held path (faults.Errors lines) = ⊥

-- the policy is that to which the file at a path unfolds, and it passes the check
pub record IsChecked (held : Holdings) (path : List ℕ) (policy : Policy) : Type 0 where
  pub loaded : IsLoaded held path policy
  pub passes : Passes policy

-- the policy at a path, with all that it includes, has no error
abbrev pub PassesCheck : Holdings → List ℕ → Type 0
PassesCheck held path = (policy : Policy) × IsChecked held path policy

-- these are the lines of the errors that the check finds in a policy, of at least one error
abbrev pub AreErrorsOf : Policy → List ℕ → Type 0
AreErrorsOf policy lines = (found : List Finding) × FailsCheck policy found × (lines ≡ finding_lines policy.files true found)

-- these are the lines of the errors of the policy that the file at a path unfolds to
abbrev pub AreErrors : Holdings → List ℕ → List ℕ → Type 0
AreErrors held path lines = (policy : Policy) × IsLoaded held path policy × AreErrorsOf policy lines

-- why no policy passes the check: it has errors, or there is no policy
abbrev pub IsNotChecked : Holdings → List ℕ → PolicyFault → Type 0
IsNotChecked held path (faults.Errors lines) = AreErrors held path lines.items
IsNotChecked held path fault = IsNoPolicy held path fault
