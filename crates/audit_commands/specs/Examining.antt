-- The output of `check`.
use Rattle.std.specs.Prelude.{◌≡◌, ℕ, false, List, [], ◌∷◌, ◌++◌, Option, codes, if◌then◌else◌}
use Rattle.sudo_policy.specs.Found.{AreFindings, has_error}
use Rattle.sudo_policy.specs.declared.finding.Finding.{Finding}
use Rattle.sudo_grammar.specs.declared.policy.Policy.{Policy}
use Rattle.run_base.specs.FindingLines.{finding_lines}
use Rattle.run_base.specs.Holding.{Holdings}
use Rattle.run_base.specs.Loading.{IsLoaded}

-- a line for each finding, and `ok` if none is an error
abbrev pub check_text : List (List ℕ) → List Finding → List ℕ
check_text files found = finding_lines files false found ++ (if has_error found then [] else codes "ok" ++ 10 ∷ [])

-- 1 if one of the findings is an error, else 0
abbrev pub check_status : List Finding → ℕ
check_status found = if has_error found then 1 else 0

-- the output of `check` and its status, for the policy that the file at a path unfolds to
pub record IsExamined (held : Holdings) (path : List ℕ) (text : List ℕ) (status : ℕ) : Type 0 where
  pub policy : Policy
  pub loaded : IsLoaded held path policy
  pub found : List Finding
  pub are : AreFindings policy found
  pub text_is : text ≡ check_text policy.files found
  pub status_is : status ≡ check_status found
