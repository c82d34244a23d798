-- How far the records of a file were taken.
use Rattle.std.proofs.Common.{◌≡◌, ◌∙◌, List, [], ◌∷◌, ◌++◌, refl, sym, append_assoc, Option, Some, None}
use Rattle.std.proofs.lemmas.List.{append-nil}
use Rattle.audit_files.specs.Rows.{Fields, first_fault}
use Rattle.audit_files.specs.declared.fault.FileFault.{FileFault}

-- the fault of a record after others
abbrev pub Judging : Type 0
Judging = List Fields → Fields → Option FileFault

-- from these records on, all that followed were taken without a fault up to those that are left
pub record Reaches (fault : Judging) (start all done left : List Fields) : Type 0 where
  pub records : start ++ all ≡ done ++ left
  pub first : first_fault fault start all ≡ first_fault fault done left

pub at_start : (fault : Judging) (start all : List Fields) → Reaches fault start all start all
at_start fault start all = record { records = refl; first = refl }

-- one more record
pub one_more : (fault : Judging) (start all done : List Fields) (fields : Fields) (left after : List Fields)
    → Reaches fault start all done left → left ≡ fields ∷ after → fault done fields ≡ None
    → Reaches fault start all (done ++ fields ∷ []) after
one_more fault start all done fields left after far next faultless = record {
  records = rw next at far.records ∙ sym (append_assoc done (fields ∷ []) after);
  first = far.first ∙ rw (next, faultless) refl;
}

-- a record with a fault
pub faulty : (fault : Judging) (start all done : List Fields) (fields : Fields) (left after : List Fields) (e : FileFault)
    → Reaches fault start all done left → left ≡ fields ∷ after → fault done fields ≡ Some e → first_fault fault start all ≡ Some e
faulty fault start all done fields left after e far next found = far.first ∙ rw (next, found) refl

-- no record is left
pub at_end : (fault : Judging) (start all done left : List Fields) → Reaches fault start all done left → left ≡ []
    → (first_fault fault start all ≡ None) × (done ≡ start ++ all)
at_end fault start all done left far none = (far.first ∙ rw none refl, sym (rw (none, append-nil done) at far.records))
