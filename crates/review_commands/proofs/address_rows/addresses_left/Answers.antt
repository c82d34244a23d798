use Rattle.std.proofs.Common.{◌++◌, ◌∷◌, [], length-append, arith}
use Rattle.csv.specs.Records.{fields_of}
use Rattle.audit_files.specs.Body.Rows.{records_left}
use Rattle.audit_files.proofs.Progress.{one_more}
use Rattle.review_commands.specs.Addresses.{address_fault}
use Rattle.review_commands.proofs.address_rows.addresses_left.Goals as goal

pub loop-row-preserved : goal.loop-row-preserved
loop-row-preserved c =
    let (reading, (done, at, of, far)) = c.loop-row.invariant in
    let fields = fields_of c.next.new.self.record in
    let next = rw c.if-not-branch.false at c.in_ok-next.ensures.left in
    let added = c.in_ok-push_address.ensures.ok done of at in (
      c.in_ok-next.ensures.reading c.if-not-branch.false,
      (
        done ++ fields ∷ [],
        omega (arith, at, length-append done (fields ∷ [])),
        added.1,
        one_more address_fault [] (records_left c.args.rows.now.reader) done fields _ _ far next added.0,
      ),
    )
