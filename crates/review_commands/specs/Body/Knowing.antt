-- The known users and hosts of a comparison. Only proofs of bodies use these.
use Rattle.std.specs.Prelude.{◌≢◌, ⊤, Option}
use Rattle.audit_commands.specs.Auditing.{IsNoDirectory}
use Rattle.audit_commands.specs.declared.fault.DirectoryFault.TheVariants as directories
use Rattle.audit_files.specs.Feeding.{Ahead}
use Rattle.review_commands.specs.declared.fault.TableFault.{TableFault}
use Rattle.review_commands.specs.declared.fault.TableFault.TheVariants as tables

-- why there are no known users and hosts: they are refused, or memory failed
abbrev pub IsNotKnown : Option Ahead → Option Ahead → TableFault → Type 0
IsNotKnown users hosts (tables.Directory fault) = (fault ≢ directories.Memory) × IsNoDirectory users hosts fault
IsNotKnown users hosts tables.Memory = ⊤
IsNotKnown users hosts (tables.Policy fault) = ⊥
IsNotKnown users hosts (tables.NoSuchUser name) = ⊥
IsNotKnown users hosts (tables.NoSuchHost name) = ⊥
