-- The steps on a host that count: all of them, those that may go without a password, or those that ask for none.
use Rattle.std.specs.Prelude.{ℕ}
use Rattle.review_roots.specs.declared.given.Counted.TheVariants as counted
use Rattle.review_roots.specs.declared.host.HostSteps.{HostSteps}
use Rattle.review_roots.specs.declared.search.Sought.{Sought}
use Rattle.review_roots.specs.declared.state.State.{State}
use Rattle.review_roots.specs.Chains.{Steps}
use Rattle.review_roots.specs.States.{steps_to}

-- the steps on the host that are sought
abbrev pub steps_of : HostSteps → Sought → Steps State
steps_of h q = steps_to h.checked.now h.directory.now h.host.now h.groups.now q.target q.counted

-- all steps towards a user, those that may go without a password, and those that ask for none
abbrev pub any_steps : HostSteps → ℕ → Steps State
any_steps h target = steps_to h.checked.now h.directory.now h.host.now h.groups.now target counted.Any

abbrev pub unasked_steps : HostSteps → ℕ → Steps State
unasked_steps h target = steps_to h.checked.now h.directory.now h.host.now h.groups.now target counted.Unasked

abbrev pub free_steps : HostSteps → ℕ → Steps State
free_steps h target = steps_to h.checked.now h.directory.now h.host.now h.groups.now target counted.Free
