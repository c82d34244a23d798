-- The policy of a main file and of all that it includes.
use Rattle.std.specs.Prelude.{◌≡◌, ◌≢◌, ℕ, List, Option, None, Some, Result, Ok, Err}
use Rattle.sudo_text.specs.declared.line.Place.{Place}
use Rattle.sudo_grammar.specs.declared.policy.Policy.{Policy}
use Rattle.sudo_grammar.specs.declared.fault.ParseFault.TheVariants as parse_faults
use Rattle.sudo_parser.specs.Parsed.{over_limit}
use Rattle.sudo_load.specs.declared.fault.LoadFault.TheVariants as faults
use Rattle.sudo_load.specs.declared.loading.LoadState.{LoadState}
use Rattle.sudo_load.specs.declared.supply.Supply.{Supply}
use Rattle.sudo_load.specs.Unfolding.{Refusal, Outcome, Unfolds}

-- the loaded files and entries are the policy, unless a definition is past the limit for its kind in all files together
abbrev pub Closes : LoadState → Option Place → Result Policy Refusal → Type 0
Closes loaded None (Ok policy) = (policy.files ≡ loaded.files) × (policy.entries ≡ loaded.entries)
Closes loaded None (Err refusal) = ⊥
Closes loaded (Some place) result = result ≡ Err (loaded.files, faults.Parse (parse_faults.TooMany place))

abbrev pub ClosesBy : Outcome → Result Policy Refusal → Type 0
ClosesBy (Ok loaded) result = Closes loaded (over_limit loaded.entries) result
ClosesBy (Err refusal) result = result ≡ Err refusal

-- the policy of a file, by its path and text, with the provided files and folders; or its refusal
abbrev pub IsLoad : List ℕ → List ℕ → List Supply → Result Policy Refusal → Type 0
IsLoad path text supplies result = (outcome : Outcome) × Unfolds path text supplies outcome × ClosesBy outcome result

-- the result is that of loading, or allocation failed
abbrev pub LoadGives : List ℕ → List ℕ → List Supply → Result Policy Refusal → Type 0
LoadGives path text supplies (Ok policy) = IsLoad path text supplies (Ok policy)
LoadGives path text supplies (Err refusal) = refusal.1 ≢ faults.Memory → IsLoad path text supplies (Err refusal)

-- the same policy, by its files and entries, or the same refusal
abbrev pub SameLoad : Result Policy Refusal → Result Policy Refusal → Type 0
SameLoad (Ok a) (Ok b) = (a.files ≡ b.files) × (a.entries ≡ b.entries)
SameLoad (Err a) (Err b) = a ≡ b
SameLoad (Ok a) (Err b) = ⊥
SameLoad (Err a) (Ok b) = ⊥
