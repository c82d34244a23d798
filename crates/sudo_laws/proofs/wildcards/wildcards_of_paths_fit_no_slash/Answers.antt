use Rattle.sudo_laws.proofs.WildcardLemmas.{count_slashes, path_slashes}
use Rattle.sudo_laws.proofs.wildcards.wildcards_of_paths_fit_no_slash.Goals as goal
use Rattle.sudo_match.specs.Pattern.{parts}

pub returns-clause-parts : goal.returns-clause-parts
returns-clause-parts c = λ chars text fit. count_slashes (parts chars) text fit

pub returns-clause-paths : goal.returns-clause-paths
returns-clause-paths c = path_slashes
