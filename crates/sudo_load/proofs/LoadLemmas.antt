-- The cases in which a file or a folder is included.
use Rattle.std.proofs.Common.{◌≡◌, ℕ, zero, suc, ◌-◌, ◌<◌, ◌≤◌, true, false, List, length, Option, Some, Result, Ok}
use Rattle.std.proofs.Common.{Err, refl, sym, ◌∙◌, ap, subst, arith}
use Rattle.std.specs.Prelude.{nat_lt, map}
use Rattle.std.proofs.lemmas.Bool.Decides.{nat_tests}
use Rattle.sudo_text.specs.declared.line.Place.{Place}
use Rattle.sudo_load.specs.declared.fault.LoadFault.TheVariants as faults
use Rattle.sudo_load.specs.declared.loading.LoadState.{LoadState}
use Rattle.sudo_load.specs.declared.supply.Supply.{Supply}
use Rattle.sudo_load.specs.Body.Outcomes.{GivesBy}
use Rattle.sudo_load.specs.Paths.{in_folder}
use Rattle.sudo_load.specs.Supplies.{supplied_file, supplied_folder}
use Rattle.sudo_load.specs.Unfolding.{Refusal, Outcome, Inclusion, refused_with, with_folder, IfElse, SuppliedLoads}
use Rattle.sudo_load.specs.Unfolding.{FileLoads, NamesLoad, FolderLoads, FilesLoad, IsFolderOrder}

pub nested : (levels : ℕ) (supplies : List Supply) (loaded : LoadState) (place : Place) (path : List ℕ) → levels ≡ 0
    → FileLoads levels supplies loaded place path (refused_with loaded (faults.TooNested place))
unfolding FileLoads
nested zero supplies loaded place path none = refl
nested (suc levels) supplies loaded place path none = absurd (omega arith)

pub full : (levels : ℕ) (supplies : List Supply) (loaded : LoadState) (place : Place) (path : List ℕ) → 0 < levels
    → 1024 ≤ length loaded.files
    → FileLoads levels supplies loaded place path (refused_with loaded (faults.TooMany place))
unfolding FileLoads
full zero supplies loaded place path some many = absurd (omega arith)
full (suc levels) supplies loaded place path some many =
    let test : nat_lt (length loaded.files) 1024 ≡ false = grind (arith, nat_tests) in
    subst (λ b. IfElse b (SuppliedLoads (FileLoads levels supplies) supplies loaded place path
    (supplied_file supplies path) (refused_with loaded (faults.TooMany place)))
    (refused_with loaded (faults.TooMany place) ≡ refused_with loaded (faults.TooMany place))) (sym test) refl

pub supplied : (levels : ℕ) (supplies : List Supply) (loaded : LoadState) (place : Place) (path : List ℕ)
    (found : Option (Option (List ℕ))) (outcome : Outcome)
    → 0 < levels → length loaded.files < 1024 → found ≡ supplied_file supplies path
    → SuppliedLoads (FileLoads (levels - 1) supplies) supplies loaded place path found outcome
    → FileLoads levels supplies loaded place path outcome
unfolding FileLoads
supplied zero supplies loaded place path found outcome some few is loads = absurd (omega arith)
supplied (suc levels) supplies loaded place path found outcome some few is loads =
    let test : nat_lt (length loaded.files) 1024 ≡ true = grind (arith, nat_tests) in
    let n : suc levels - 1 ≡ levels = omega arith in
    let there : SuppliedLoads (FileLoads levels supplies) supplies loaded place path (supplied_file supplies path) outcome =
    subst (λ s. SuppliedLoads (FileLoads levels supplies) supplies loaded place path s outcome) is
    (subst (λ (m : ℕ). SuppliedLoads (FileLoads m supplies) supplies loaded place path found outcome) n loads) in
    subst (λ b. IfElse b (SuppliedLoads (FileLoads levels supplies) supplies loaded place path
    (supplied_file supplies path) outcome) (outcome ≡ refused_with loaded (faults.TooMany place))) (sym test) there

pub folder_supplied : (include : Inclusion) (supplies : List Supply) (loaded : LoadState) (place : Place)
    (path : List ℕ) (found : Option (List (List ℕ))) (outcome : Outcome)
    → loaded.folders < 1024 → found ≡ supplied_folder supplies path
    → NamesLoad include loaded place path found outcome → FolderLoads include supplies loaded place path outcome
folder_supplied include supplies loaded place path found outcome few is loads =
    let test : nat_lt loaded.folders 1024 ≡ true = grind (arith, nat_tests) in
    subst (λ b. IfElse b (NamesLoad include loaded place path (supplied_folder supplies path) outcome)
    (outcome ≡ refused_with loaded (faults.TooMany place))) (sym test)
    (subst (λ s. NamesLoad include loaded place path s outcome) is loads)

-- What is given by one relation is given by another that follows from it.
pub gives : (P Q : Outcome → Type 0) (result : Result LoadState Refusal) → GivesBy P result
    → ((outcome : Outcome) → P outcome → Q outcome) → GivesBy Q result
gives P Q (Ok loaded) given follows = follows (Ok loaded) given
gives P Q (Err refusal) given follows = (λ no_memory. follows (Err refusal) (given.0 no_memory), given.1)

pub names-load : (include : Inclusion) (loaded : LoadState) (place : Place) (path p : List ℕ)
    (names n : List (List ℕ)) (paths : List (List ℕ)) (outcome : Outcome)
    → p ≡ path → n ≡ names → (ordered : List (List ℕ)) × IsFolderOrder n ordered × (paths ≡ map (in_folder p) ordered)
    → FilesLoad include (with_folder loaded) place paths outcome → NamesLoad include loaded place path (Some names) outcome
names-load include loaded place path p names n paths outcome same_path same_names (ordered, is, eq) loads = (
  ordered,
  subst (λ m. IsFolderOrder m ordered) same_names is,
  subst (λ q. FilesLoad include (with_folder loaded) place q outcome) (eq ∙ ap (λ q. map (in_folder q) ordered) same_path) loads,
)
