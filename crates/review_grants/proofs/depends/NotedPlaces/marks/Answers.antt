use Rattle.review_texts.specs.declared.note.Note.TheVariants.{Digest, Time, Chroot, Regex}
use Rattle.review_grants.specs.Depends.{marks_in}
use Rattle.review_grants.proofs.NotedLemmas.{same-marks}
use Rattle.review_grants.proofs.depends.NotedPlaces.marks.Goals as goal

pub returns : goal.returns
returns c =
    same-marks c.marks_at.result (marks_in c.args.self.now c.args.at) (c.marks_at.ensures Digest) (c.marks_at.ensures Time)
    (c.marks_at.ensures Chroot) (c.marks_at.ensures Regex)
