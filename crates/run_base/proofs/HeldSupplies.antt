-- Supplies that may exist.
use Rattle.std.proofs.Common.{List, [], ◌∷◌, ◌++◌}
use Rattle.sudo_load.specs.declared.supply.Supply.{Supply}
use Rattle.run_base.specs.Holding.{AreHeld, Holdings, IsHeld}

-- One more that may be there.
pub held-push : (held : Holdings) (handed : List Supply) (supply : Supply) → AreHeld held handed
    → IsHeld held supply → AreHeld held (handed ++ supply ∷ [])
held-push held [] supply are is = (is, tt)
held-push held (first ∷ rest) supply are is = (are.0, held-push held rest supply are.1 is)
