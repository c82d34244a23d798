use Rattle.sudo_laws.proofs.OneSpelling.{one_spelling}
use Rattle.sudo_laws.proofs.SpelledLemmas.{run_printable, run_spells}
use Rattle.sudo_laws.proofs.texts.bytes_spell_characters.Goals as goal

pub returns-clause-spelled : goal.returns-clause-spelled
returns-clause-spelled c = run_spells

pub returns-clause-printable : goal.returns-clause-printable
returns-clause-printable c = run_printable

pub returns-clause-one : goal.returns-clause-one
returns-clause-one c = one_spelling
