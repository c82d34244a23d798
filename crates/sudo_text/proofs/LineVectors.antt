-- Worked examples of the definition of logical lines.
use Rattle.std.proofs.Common.{◌≡◌, [], ◌∷◌, ◌++◌, refl, Ok, Err}
use Rattle.std.specs.Prelude.{codes}
use Rattle.sudo_text.specs.declared.fault.TextFault.TheVariants.{BadEscape}
use Rattle.sudo_text.specs.Lines.{place, logical_lines}

-- an empty text has no line, and a newline at the end begins none
empty : logical_lines 0 [] ≡ Ok []
empty = refl

one_newline : logical_lines 0 (10 ∷ []) ≡ Ok (record { first = place 0 1; text = []; joins = [] } ∷ [])
one_newline = refl

-- a line that ends in a backslash goes on with the next one, without its leading blanks
continuation : logical_lines 0 (codes "#1000 ALL = /bin/ls, \\" ++ 10 ∷ codes "    /bin/cat # note" ++ 10 ∷ [])
    ≡ Ok (record { first = place 0 1; text = codes "#1000 ALL = /bin/ls, /bin/cat # note"; joins = 21 ∷ [] } ∷ [])
continuation = refl

-- nothing follows the backslash at offset 20
no_next_line : logical_lines 0 (codes "alice ALL = /bin/ls \\") ≡ Err (BadEscape (place 0 1) 21)
no_next_line = refl

-- nor does a last newline begin a line
no_line_after_newline : logical_lines 0 (codes "alice ALL = /bin/ls \\" ++ 10 ∷ []) ≡ Err (BadEscape (place 0 1) 21)
no_line_after_newline = refl

-- a comment line is never continued
comment : logical_lines 0 (codes "# old rule \\" ++ 10 ∷ codes "alice ALL = /bin/ls")
    ≡ Ok (record { first = place 0 1; text = codes "# old rule \\"; joins = [] }
    ∷ record { first = place 0 2; text = codes "alice ALL = /bin/ls"; joins = [] } ∷ [])
comment = refl

-- an include directive is no comment, a carriage return goes, and two backslashes are no continuation
mixed : logical_lines 0 (codes "#include a\\" ++ 10 ∷ codes "  b" ++ 13 ∷ 10 ∷ 9 ∷ codes "c\\\\" ++ 10 ∷ 10 ∷ codes "#2 d")
    ≡ Ok (record { first = place 0 1; text = codes "#include ab"; joins = 10 ∷ [] }
    ∷ record { first = place 0 3; text = codes "c\\\\"; joins = [] }
    ∷ record { first = place 0 4; text = []; joins = [] }
    ∷ record { first = place 0 5; text = codes "#2 d"; joins = [] } ∷ [])
mixed = refl

-- a fault in the second logical line, after three physical lines
open_end_later : logical_lines 0 (codes "a\\" ++ 10 ∷ codes "b\\" ++ 10 ∷ codes "c" ++ 10
    ∷ codes "d\\" ++ 10 ∷ codes "e\\") ≡ Err (BadEscape (place 0 4) 3)
open_end_later = refl
