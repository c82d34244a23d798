-- The contracts of tables from those of their parts.
use Rattle.std.proofs.Common.{◌≡◌, ℕ, List, Option, Result, Ok, Err, subst, sym}
use Rattle.std.specs.Prelude.{IfErr, IfOk}
use Rattle.std.specs.declared.alloc.AllocError.{AllocError}
use Rattle.sudo_grammar.specs.declared.policy.Policy.{Policy}
use Rattle.sudo_match.specs.KnownRows.{KnownRows}
use Rattle.run_base.specs.declared.run_output.RunOutput.{RunOutput}
use Rattle.review_commands.specs.Endings.{IsNotedTable}
use Rattle.review_commands.specs.Body.Surveying.{IsMemory}
use Rattle.review_commands.specs.Surveying.{Inputs, IsNotGranted, IsNotInScope, IsNotSurveyed, IsSurveyed, IsTabled, Table}
use Rattle.review_commands.specs.declared.ending.NotedOutput.{NotedOutput}
use Rattle.review_commands.specs.declared.fault.TableFault.{TableFault}
use Rattle.review_commands.specs.declared.fault.TableFault.TheVariants as tables
use Rattle.review_commands.proofs.ReportSteps.{checked_of}

-- a table that was made is printed
pub tabled-of : (Made : Table) (given : Inputs) (policy : Policy) (directory : KnownRows) (notice : List ℕ)
    (table : Result RunOutput TableFault) (r : Result NotedOutput TableFault) → IsSurveyed given policy directory notice
    → IfOk table (λ o. Made policy directory o.text.items o.status) → IfOk r (λ p. IsNotedTable table notice p)
    → IfOk r (λ p. IsTabled Made given p.text.items p.notice.items p.status)
tabled-of Made given policy directory notice table (Err fault) surveyed made is = tt
tabled-of Made given policy directory notice table (Ok p) surveyed made is =
    let own : Made policy directory is.output.text.items is.output.status =
    subst (λ t. IfOk t (λ o. Made policy directory o.text.items o.status)) is.is_output made in
    record {
      policy = policy;
      directory = directory;
      surveyed = subst (IsSurveyed given policy directory) (sym is.notice_is) surveyed;
      made = subst (λ t. Made policy directory t p.status) (sym is.text_is)
          (subst (Made policy directory is.output.text.items) (sym is.status_is) own);
    }

-- a table that is made unless memory fails
pub made-of : (Made : Table) (policy : Policy) (directory : KnownRows) (made : Result RunOutput AllocError)
    (r : Result RunOutput TableFault) → IfOk made (λ o. Made policy directory o.text.items o.status) → IfOk r (λ o. made ≡ Ok o)
    → IfOk r (λ o. Made policy directory o.text.items o.status)
made-of Made policy directory made (Ok o) is same =
    subst (λ t. IfOk t (λ o. Made policy directory o.text.items o.status)) same is
made-of Made policy directory made (Err fault) is same = tt

-- the fault is that memory failed
pub memory-of : (given : Inputs) (table : Result RunOutput TableFault) (r : Result NotedOutput TableFault)
    → IfErr table IsMemory → IfErr r (λ fault. table ≡ Err fault) → IfErr r (IsNotSurveyed given)
memory-of given table (Ok p) memory is = tt
memory-of given table (Err fault) memory is =
    subst (IsNotSurveyed given) (sym (subst (λ t. IfErr t IsMemory) is memory)) tt

module _ (given : Inputs) (policy : Policy) (directory : KnownRows) (user host : Option (List ℕ)) where
  -- no known one has a name that is given
  pub fault-of : (notice : List ℕ) (fault : TableFault) → IsSurveyed given policy directory notice
      → IsNotInScope directory user host fault → IsNotGranted given user host fault
  fault-of notice (tables.NoSuchUser name) surveyed (asked, lacks) = record {
    directory = directory;
    passes = (policy, checked_of _ _ _ _ _ surveyed.are.loaded surveyed.passes);
    is_directory = surveyed.is_directory;
    asked = asked;
    lacks = lacks;
  }
  fault-of notice (tables.NoSuchHost name) surveyed (asked, lacks, known) = record {
    directory = directory;
    passes = (policy, checked_of _ _ _ _ _ surveyed.are.loaded surveyed.passes);
    is_directory = surveyed.is_directory;
    asked = asked;
    user_known = known;
    lacks = lacks;
  }
  fault-of notice tables.Memory surveyed not = tt
  fault-of notice (tables.Policy fault) surveyed not = absurd not
  fault-of notice (tables.Directory fault) surveyed not = absurd not

-- nor is there a table of grants where there is no other
pub not-granted : (given : Inputs) (user host : Option (List ℕ)) (fault : TableFault) → IsNotSurveyed given fault
    → IsNotGranted given user host fault
not-granted given user host (tables.Policy fault) not = not
not-granted given user host (tables.Directory fault) not = not
not-granted given user host (tables.NoSuchUser name) not = absurd not
not-granted given user host (tables.NoSuchHost name) not = absurd not
not-granted given user host tables.Memory not = tt
