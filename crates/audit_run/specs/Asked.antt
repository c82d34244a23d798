-- The requests and the close counts of each sender, over all its sources.
use Rattle.std.specs.Prelude.{ℕ, Bool, List, [], ◌∷◌, ◌==◌, Ok, Err, count_by, flat_map, if◌then◌else◌, option_to_list}
use Rattle.sudo_match.specs.declared.request.Request.{Request}
use Rattle.audit_run.specs.Parts.{Stated}

-- the requests of a source, in order
abbrev pub requests_stated : Stated → List Request
requests_stated (Ok requests) = requests.list
requests_stated (Err fault) = []

-- the count of a source's close row, if it has one
abbrev pub counts_in : Stated → List ℕ
counts_in (Ok requests) = option_to_list requests.close
counts_in (Err fault) = []

-- the values of a source of this sender; none of another's
abbrev pub values_of_sender : {X : Type 0} → ℕ → (Stated → List X) → ℕ × Stated → List X
values_of_sender sender f part = if part.0 == sender then f part.1 else []

-- the requests of a sender, source by source
abbrev pub asked_of : ℕ → List (ℕ × Stated) → List Request
asked_of sender parts = flat_map (values_of_sender sender requests_stated) parts

-- the counts of a sender's close marks
abbrev pub counts_of : ℕ → List (ℕ × Stated) → List ℕ
counts_of sender parts = flat_map (values_of_sender sender counts_in) parts

abbrev pub has_number : ℕ → Request → Bool
has_number number request = request.number == number

-- how often a sender asks for a number
abbrev pub times_asked : ℕ → ℕ → List (ℕ × Stated) → ℕ
times_asked sender number parts = count_by (has_number number) (asked_of sender parts)
