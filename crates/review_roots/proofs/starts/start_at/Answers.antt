use Rattle.review_roots.proofs.starts.start_at.Goals as goal

pub returns : goal.returns
returns c = λ found are. are c.args.user c.requires
