-- The results of the loading functions, up to allocation failure.
use Rattle.std.specs.Prelude.{◌≡◌, ◌≢◌, [], Result, Ok, Err}
use Rattle.sudo_load.specs.declared.fault.LoadFault.TheVariants as faults
use Rattle.sudo_load.specs.declared.loading.LoadState.{LoadState}
use Rattle.sudo_load.specs.Unfolding.{Refusal, Outcome}

-- the result is the outcome, or allocation failed, and then there are no paths
abbrev pub GivesBy : (Outcome → Type 0) → Result LoadState Refusal → Type 0
GivesBy Is (Ok loaded) = Is (Ok loaded)
GivesBy Is (Err refusal) = (refusal.1 ≢ faults.Memory → Is (Err refusal)) × (refusal.1 ≡ faults.Memory → refusal.0 ≡ [])
