use Rattle.sudo_laws.proofs.LoadOutcomes.{load_of}
use Rattle.sudo_laws.proofs.existence.files_are_loaded_or_refused.Goals as goal

pub returns : goal.returns
returns c = load_of
