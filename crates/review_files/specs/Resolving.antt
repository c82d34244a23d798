-- How a path below a folder is resolved, name by name. path_resolution(7), with the folder in place of the root.
--
-- `shows` says what a look at a path may show.
use Rattle.std.specs.Prelude.{◌≡◌, ℕ, zero, suc, nat_lt, ◌==◌, if◌then◌else◌, List, [], ◌∷◌, ◌++◌, length, take, ◌+◌, ◌-◌}
use Rattle.std.specs.Prelude.{MatchBool}
use Rattle.run_base.specs.declared.obstacle.Obstacle.TheVariants as obstacles
use Rattle.review_files.specs.declared.tree.Entry.{Entry}
use Rattle.review_files.specs.declared.tree.Entry.TheVariants as entries
use Rattle.review_files.specs.declared.tree.Kind.{Kind}
use Rattle.review_files.specs.declared.tree.Kind.TheVariants as kinds
use Rattle.review_files.specs.declared.walk.Outcome.{Outcome}
use Rattle.review_files.specs.declared.walk.Outcome.TheVariants as outcomes
use Rattle.review_files.specs.declared.walk.Step.{Step}
use Rattle.review_files.specs.declared.walk.Step.TheVariants as steps
use Rattle.review_files.specs.declared.walk.Walk.{Walk}
use Rattle.review_files.specs.Paths.{after_name, first_name, has_slash, is_absolute, is_parent, is_same, path_below}

-- the most links of a path
abbrev pub most_links : ℕ
most_links = 40

-- the greatest length of a path, in bytes
abbrev pub most_bytes : ℕ
most_bytes = 4096

-- the most names of a path, with those of the targets of its links
abbrev pub most_steps : ℕ
most_steps = 4096

-- the walk with these names, and without the first name of the path that is left
abbrev pub further : List (List ℕ) → Walk → Walk
further names walk = record { names = names; left = after_name walk.left; links = walk.links }

-- the names with the first one of the path that is left
abbrev pub names_next : Walk → List (List ℕ)
names_next walk = walk.names ++ first_name walk.left ∷ []

-- to the folder above, which must be below the folder
abbrev pub step_up : List ℕ → Walk → Step
step_up folder walk =
    if length walk.names == 0 then steps.End (outcomes.Stopped (obstacles.LeadsOut folder))
    else steps.On (further (take (length walk.names - 1) walk.names) walk)

-- the path that is left after a link: its target, and what is left behind the link
abbrev pub left_after : List ℕ → List ℕ → List ℕ
left_after left target = if has_slash left then target ++ 47 ∷ after_name left else target

-- to the target of a link: an absolute one begins at the folder
abbrev pub linked : Walk → List ℕ → Walk
linked walk target = record {
  names = if is_absolute target then [] else walk.names;
  left = left_after walk.left target;
  links = walk.links + 1;
}

-- a folder is entered; any other entry ends the walk, and must be the last name
abbrev pub kind_step : Walk → Kind → Step
kind_step walk kinds.Folder = steps.On (further (names_next walk) walk)
kind_step walk kind =
    if has_slash walk.left then steps.End (outcomes.Stopped obstacles.NotFolder)
    else steps.End (outcomes.At (names_next walk) kind)

-- the step at an entry
abbrev pub entry_step : Walk → Entry → Step
entry_step walk entries.Absent = steps.End outcomes.Missing
entry_step walk (entries.Link target) =
    if nat_lt walk.links most_links then steps.On (linked walk target)
    else steps.End (outcomes.Stopped obstacles.TooManyLinks)
entry_step walk (entries.Is kind) = kind_step walk kind
entry_step walk (entries.Unseen why) = steps.End (outcomes.Stopped why)

-- the step at an entry that a look at the next name may show
abbrev pub IsLookStep : (List ℕ → Entry → Type 0) → List ℕ → Walk → Step → Type 0
IsLookStep shows folder walk step =
    (entry : Entry) × shows (path_below folder (names_next walk)) entry × (step ≡ entry_step walk entry)

-- the step at the next name of the path that is left
abbrev pub IsNameStep : (List ℕ → Entry → Type 0) → List ℕ → Walk → Step → Type 0
IsNameStep shows folder walk step =
    MatchBool (is_same (first_name walk.left)) (step ≡ steps.On (further walk.names walk))
    (MatchBool (is_parent (first_name walk.left)) (step ≡ step_up folder walk) (IsLookStep shows folder walk step))

-- the next step of a walk; with no path left it ends in the folder that was entered last
abbrev pub IsStep : (List ℕ → Entry → Type 0) → List ℕ → Walk → Step → Type 0
IsStep shows folder walk step =
    MatchBool (length walk.left == 0) (step ≡ steps.End (outcomes.At walk.names kinds.Folder))
    (IsNameStep shows folder walk step)

-- the outcome after a step
abbrev pub Ends : (Walk → Outcome → Type 0) → Step → Outcome → Type 0
Ends leads (steps.On walk) outcome = leads walk outcome
Ends leads (steps.End end) outcome = outcome ≡ end

-- the walk leads to the outcome in at most this number of steps, or does not end in as many
unfoldable pub Leads : (List ℕ → Entry → Type 0) → List ℕ → ℕ → Walk → Outcome → Type 0
Leads shows folder zero walk outcome = outcome ≡ outcomes.Stopped obstacles.Other
Leads shows folder (suc count) walk outcome =
    (step : Step) × IsStep shows folder walk step × Ends (Leads shows folder count) step outcome

-- the walk towards a path, from the folder on, whether the path is absolute or not
abbrev pub beginning : List ℕ → Walk
beginning path = record { names = []; left = path; links = 0 }

-- the path may lead to this outcome; an empty path leads to nothing
abbrev pub Resolves : (List ℕ → Entry → Type 0) → List ℕ → List ℕ → Outcome → Type 0
Resolves shows folder path outcome =
    MatchBool (length path == 0) (outcome ≡ outcomes.Missing)
    (MatchBool (nat_lt most_bytes (length path)) (outcome ≡ outcomes.Stopped obstacles.Other)
    (Leads shows folder most_steps (beginning path) outcome))
