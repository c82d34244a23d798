-- The contracts of a comparison from those of its parts.
use Rattle.std.proofs.Common.{◌≡◌, ℕ, List, Option, Result, Ok, Err, subst, sym}
use Rattle.std.specs.Prelude.{IfErr, IfOk}
use Rattle.run_base.specs.declared.run_output.RunOutput.{RunOutput}
use Rattle.sudo_grammar.specs.declared.policy.Policy.{Policy}
use Rattle.sudo_match.specs.KnownRows.{KnownRows}
use Rattle.review_commands.specs.Endings.{IsNotedTable}
use Rattle.review_commands.specs.Pairing.{BothPass, IsNotPaired, IsPaired, PairInputs}
use Rattle.review_commands.specs.Surveying.{IsNotInScope}
use Rattle.review_commands.specs.declared.ending.NotedOutput.{NotedOutput}
use Rattle.review_commands.specs.declared.fault.TableFault.{TableFault}
use Rattle.review_commands.specs.declared.fault.TableFault.TheVariants as tables
use Rattle.review_commands.proofs.ReportSteps.{checked_of}
use Rattle.review_program.specs.Comparing.{AreNamedDifferences, IsComparison, IsNoComparison}

-- without a pair there is no comparison
pub not-compared : (given : PairInputs) (user host : Option (List ℕ)) (fault : TableFault) → IsNotPaired given fault
    → IsNoComparison given user host fault
not-compared given user host (tables.Policy fault) not = not
not-compared given user host (tables.Directory fault) not = not
not-compared given user host (tables.NoSuchUser name) not = absurd not
not-compared given user host (tables.NoSuchHost name) not = absurd not
not-compared given user host tables.Memory not = tt

module _ (given : PairInputs) (user host : Option (List ℕ)) (old new : Policy) (directory : KnownRows) (notice : List ℕ)
    (paired : IsPaired given old new directory notice) where
  both : BothPass given
  both = (
    (old, checked_of _ _ _ _ _ paired.old_are.loaded paired.old_passes),
    (new, checked_of _ _ _ _ _ paired.new_are.loaded paired.new_passes),
  )

  -- no known one has a name that is given
  unknown : (fault : TableFault) → IsNotInScope directory user host fault → IsNoComparison given user host fault
  unknown (tables.NoSuchUser name) (asked, lacks) = record {
    directory = directory;
    pass = both;
    is_directory = paired.is_directory;
    asked = asked;
    lacks = lacks;
  }
  unknown (tables.NoSuchHost name) (asked, lacks, known) = record {
    directory = directory;
    pass = both;
    is_directory = paired.is_directory;
    asked = asked;
    user_known = known;
    lacks = lacks;
  }
  unknown tables.Memory not = tt
  unknown (tables.Policy fault) not = absurd not
  unknown (tables.Directory fault) not = absurd not

  -- a table that was made is printed
  pub compared-of : (table : Result RunOutput TableFault) (r : Result NotedOutput TableFault)
      → IfOk table (λ o. AreNamedDifferences user host old new directory o.text.items o.status)
      → IfOk r (λ p. IsNotedTable table notice p)
      → IfOk r (λ p. IsComparison given user host p.text.items p.notice.items p.status)
  compared-of table (Err fault) made is = tt
  compared-of table (Ok p) made is =
      let own : AreNamedDifferences user host old new directory is.output.text.items is.output.status =
      subst (λ t. IfOk t (λ o. AreNamedDifferences user host old new directory o.text.items o.status)) is.is_output made in
      record {
        old = old;
        new = new;
        directory = directory;
        paired = subst (IsPaired given old new directory) (sym is.notice_is) paired;
        made = subst (λ t. AreNamedDifferences user host old new directory t p.status) (sym is.text_is)
            (subst (AreNamedDifferences user host old new directory is.output.text.items) (sym is.status_is) own);
      }

  pub not-compared-of : (table : Result RunOutput TableFault) (r : Result NotedOutput TableFault)
      → IfErr table (IsNotInScope directory user host) → IfErr r (λ fault. table ≡ Err fault)
      → IfErr r (IsNoComparison given user host)
  not-compared-of table (Ok p) not is = tt
  not-compared-of table (Err fault) not is =
      unknown fault (subst (λ t. IfErr t (IsNotInScope directory user host)) is not)
