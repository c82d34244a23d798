-- The results of a function that may fail to allocate memory.
use Rattle.std.specs.Prelude.{◌≡◌}
use Rattle.std.specs.Prelude.{Result}
use Rattle.std.specs.Prelude.{Ok, Err}
use Rattle.sudo_text.specs.declared.fault.TextFault.{TextFault}
use Rattle.sudo_text.specs.declared.fault.TextFault.TheVariants as faults

-- the returned fault is the wanted one, or allocation failed
abbrev pub Fails : {Y : Type 0} → TextFault → Result Y TextFault → Type 0
Fails faults.Memory wanted = Unit {0}
Fails (faults.BadQuote place col) wanted = wanted ≡ Err (faults.BadQuote place col)
Fails (faults.BadHex place col) wanted = wanted ≡ Err (faults.BadHex place col)
Fails (faults.BadEscape place col) wanted = wanted ≡ Err (faults.BadEscape place col)
Fails (faults.NotPrintable place col) wanted = wanted ≡ Err (faults.NotPrintable place col)
Fails (faults.TooLong file) wanted = wanted ≡ Err (faults.TooLong file)

-- the returned value, under a view, is the wanted one, or allocation failed
abbrev pub Gives : {X Y : Type 0} → (X → Y) → Result X TextFault → Result Y TextFault → Type 0
Gives view (Ok x) wanted = wanted ≡ Ok (view x)
Gives view (Err f) wanted = Fails f wanted
