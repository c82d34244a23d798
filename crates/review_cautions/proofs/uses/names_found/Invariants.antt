use Rattle.std.proofs.Common.{◌≡◌, ℕ, List, drop}
use Rattle.std.specs.Prelude.{◌||◌, is_some}
use Rattle.std.specs.List.{list_any}
use Rattle.sudo_base.specs.NameIndices.{index_of}
use Rattle.review_cautions.specs.Body.UnusedNames.{is_on}
use Rattle.review_cautions.proofs.uses.names_found.Given as goal

abbrev pub invariant-loop-finding : goal.invariant-loop-finding
invariant-loop-finding l = (name : List ℕ) → (is_some (index_of l.names name)
    || list_any (is_on l.kind name) (drop l.finding-index l.findings)) ≡ list_any (is_on l.kind name) l.findings
