-- The contract of the input of a comparison from those of its parts.
use Rattle.std.proofs.Common.{inl, inr}
use Rattle.run_base.specs.Loading.{PassesCheck}
use Rattle.review_commands.specs.Body.Knowing.{IsNotKnown}
use Rattle.review_commands.specs.Body.Pairing.{IsNotPassing}
use Rattle.review_commands.specs.Pairing.{BothPass, IsNotPaired, PairInputs}
use Rattle.review_commands.specs.declared.fault.TableFault.{TableFault}
use Rattle.review_commands.specs.declared.fault.TableFault.TheVariants as tables

-- the old policy does not pass the check
pub not-old : (given : PairInputs) (fault : TableFault) → IsNotPassing given.old_held given.old_path fault → IsNotPaired given fault
not-old given (tables.Policy fault) (other, not) = (other, inl not)
not-old given tables.Memory not = tt
not-old given (tables.Directory fault) not = absurd not
not-old given (tables.NoSuchUser name) not = absurd not
not-old given (tables.NoSuchHost name) not = absurd not

-- the old policy passes the check, and the new one does not
pub not-new : (given : PairInputs) (fault : TableFault) → PassesCheck given.old_held given.old_path
    → IsNotPassing given.new_held given.new_path fault → IsNotPaired given fault
not-new given (tables.Policy fault) passes (other, not) = (other, inr (passes, not))
not-new given tables.Memory passes not = tt
not-new given (tables.Directory fault) passes not = absurd not
not-new given (tables.NoSuchUser name) passes not = absurd not
not-new given (tables.NoSuchHost name) passes not = absurd not

-- both policies pass the check, and the users and hosts are refused
pub not-known : (given : PairInputs) (fault : TableFault) → BothPass given → IsNotKnown given.users given.hosts fault
    → IsNotPaired given fault
not-known given (tables.Directory fault) pass (other, not) = (other, pass, not)
not-known given tables.Memory pass not = tt
not-known given (tables.Policy fault) pass not = absurd not
not-known given (tables.NoSuchUser name) pass not = absurd not
not-known given (tables.NoSuchHost name) pass not = absurd not
