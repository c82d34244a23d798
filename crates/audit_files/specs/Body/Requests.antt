-- The content of a requests file. Only proofs of bodies use these.
use Rattle.std.specs.Prelude.{[], ◌∷◌}
use Rattle.audit_files.specs.Rows.{Fields}
use Rattle.audit_files.specs.declared.requests.RequestRow.{RequestRow}

-- the fields of a row
abbrev pub fields_in : RequestRow → Fields
fields_in row = row.number.now ∷ row.user.now ∷ row.host.now ∷ row.runas_user.now ∷ row.runas_group.now
    ∷ row.command.now ∷ row.arguments.now ∷ []
