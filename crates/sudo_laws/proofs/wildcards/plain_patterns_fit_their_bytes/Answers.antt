use Rattle.sudo_laws.proofs.WildcardLemmas.{plain_fits}
use Rattle.sudo_laws.proofs.wildcards.plain_patterns_fit_their_bytes.Goals as goal

pub returns : goal.returns
returns c = plain_fits
