-- The names that a table is about. Only proofs of bodies use these.
use Rattle.std.specs.Prelude.{◌≡◌, ℕ, List, Option}
use Rattle.sudo_match.specs.declared.people.Machine.{Machine}
use Rattle.sudo_match.specs.declared.people.Person.{Person}
use Rattle.review_grants.specs.GrantRows.{grants_text}
use Rattle.review_commands.specs.Endings.{Printing}
use Rattle.review_grants.specs.WhoRows.{Sought, who_text}
use Rattle.review_commands.specs.Surveying.{AreGrants, IsWho}
use Rattle.review_commands.specs.declared.survey.Survey.{Survey}
use Rattle.review_commands.specs.declared.fault.TableFault.{TableFault}
use Rattle.review_commands.specs.declared.fault.TableFault.TheVariants as tables

abbrev pub IsNothing : TableFault → Type 0
IsNothing fault = ⊥

-- the table of grants of a survey in a scope, with its notice
abbrev pub AreScopedGrants : Survey → Option Person → Option Machine → Printing
AreScopedGrants s person machine text notice status =
    (text ≡ grants_text s.checked.policy s.directory person machine) × (notice ≡ s.notice.items) × (status ≡ 0)

-- the table of grants of a survey for these names, with its notice
abbrev pub AreNamedGrants : Survey → Option (List ℕ) → Option (List ℕ) → Printing
AreNamedGrants s user host text notice status =
    AreGrants user host s.checked.policy s.directory text status × (notice ≡ s.notice.items)

-- the table of who may run a command, of a survey, with its notice
abbrev pub IsWhoFound : Survey → Sought → Printing
IsWhoFound s sought text notice status =
    (text ≡ who_text s.checked.policy s.directory sought) × (notice ≡ s.notice.items) × (status ≡ 0)

-- the same where the user to run it as, if one is asked for, is known
abbrev pub IsWhoKnown : Survey → Sought → Printing
IsWhoKnown s sought text notice status =
    IsWho sought s.checked.policy s.directory text status × (notice ≡ s.notice.items)

abbrev pub IsMemory : TableFault → Type 0
IsMemory fault = fault ≡ tables.Memory
