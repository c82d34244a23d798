use Rattle.std.proofs.Common.{◌≡◌, true, take}
use Rattle.std.specs.List.{list_all}
use Rattle.audit_files.specs.Body.Plain.{is_field_byte}
use Rattle.audit_files.proofs.plain.plain_bytes.Given as goal

abbrev pub invariant-loop-at : goal.invariant-loop-at
invariant-loop-at l = list_all is_field_byte (take l.at l.text) ≡ true
