-- Chains are paths.
use Rattle.std.proofs.Common.{[], ◌∷◌}
use Rattle.std.specs.List.{Contains}
use Rattle.std.proofs.lemmas.List.Elements.{All-head, All-tail}
use Rattle.review_roots.specs.Chains.{ChainsArePaths, here, more}

pub chains-are-paths : (S : Type 0) → ChainsArePaths S
chains-are-paths S g l s [] inside all leads = here inside leads
chains-are-paths S g l s (t ∷ ts) inside all leads =
    more inside leads.0
    (chains-are-paths S g l t ts (All-head (Contains g.states) t ts all) (All-tail (Contains g.states) t ts all) leads.1)
