use Rattle.review_texts.proofs.NoPath.{note_fits_nothing, note_found}
use Rattle.review_texts.proofs.laws.notes_fit_nothing.Goals as goal

pub returns : goal.returns
returns c = λ note what. (note_found note what, λ command arguments. note_fits_nothing note what command arguments)
