use Rattle.std.proofs.Common.{◌≡◌, ◌++◌, drop}
use Rattle.csv.specs.Writing.{default_writer, escaped}
use Rattle.audit_files.proofs.quoting.push_quoted.Given as goal

-- the bytes so far stand behind the first quote
abbrev pub invariant-loop-byte : goal.invariant-loop-byte
invariant-loop-byte l = l.text.items ++ escaped default_writer (drop l.byte-index l.field) ≡ l.initial.text.items
    ++ escaped default_writer l.field
