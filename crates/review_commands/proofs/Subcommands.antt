-- What the subcommand of the words asks for.
use Rattle.std.proofs.Common.{◌≡◌, ◌∙◌, ap, Bool, codes, false, sym, true, List, Option}
use Rattle.std.proofs.Common.{Some, None, Result, Ok, Err, inl, inr, option_map, refl, subst}
use Rattle.std.specs.Prelude.{◌≢◌, Box, IfErr, IfOk}
use Rattle.std.specs.Box.{box_value}
use Rattle.clap.specs.Words.{Row, Text, kind_of, subcommand_of, subcommand_rows}
use Rattle.clap.specs.declared.error.Error.{Error}
use Rattle.clap.specs.declared.error.ErrorKind.TheVariants.{OutOfMemory}
use Rattle.clap.specs.declared.parser.matches.ArgMatches.TheViews.{out-SubCommand}
use Rattle.clap.specs.declared.parser.matches.SubCommand.{SubCommand}
use Rattle.sudo_base.proofs.Options.{none_some}
use Rattle.review_commands.specs.Words.{AsksNothing, HoldsCommand, IsErrorOfWords, IsFlag, program_app}
use Rattle.run_base.specs.Arguments.{IsUnaskedKind}
use Rattle.review_commands.specs.declared.request.Asked.{Asked}
use Rattle.review_commands.specs.declared.words.Unasked.{Unasked}
use Rattle.review_commands.specs.declared.words.Unasked.TheVariants.{BadClass, BadCommand, BadHostname, BadKind, Missing, Memory, Scoped}

-- a subcommand by its name and its rows
pub by_parts : {Z : Type 0} (s : Option (Box SubCommand Z)) (name : Text) (rows : List Row)
    → Some name ≡ option_map (λ b. (out-SubCommand (box_value b)).name.now) s
    → Some rows ≡ option_map (λ p. p.1) (subcommand_rows s) → subcommand_rows s ≡ Some (name, rows)
by_parts None name rows n r = cc
by_parts (Some b) name rows n r = cc

no_rows : (o : Option (Text × List Row)) → None ≡ option_map (λ p. p.1) o → o ≡ None
no_rows None e = refl
no_rows (Some p) e = absurd cc

pub without_rows : (o : Option (Text × List Row)) (p : Text × List Row) → None ≡ option_map (λ p. p.1) o → o ≡ Some p → ⊥
without_rows o p none is = none_some p (sym (no_rows o none) ∙ is)

pub stated_of : (r : Result Asked Unasked) (o : Option (Text × List Row)) (q : Text × List Row) → o ≡ Some q
    → IfOk r (λ a. HoldsCommand a q) → IfOk r (λ a. (p : Text × List Row) × (o ≡ Some p) × HoldsCommand a p)
stated_of (Ok a) o q is h = (q, is, h)
stated_of (Err e) o q is h = tt

some_is : (a b : Text × List Row) → Some a ≡ Some b → a ≡ b
some_is a b e = cc

pub nothing_of : (r : Result Asked Unasked) (o : Option (Text × List Row)) (q : Text × List Row) → o ≡ Some q
    → IfErr r (λ e. e ≢ Memory → AsksNothing q)
    → IfErr r (λ e. e ≢ Memory → (p : Text × List Row) → o ≡ Some p → AsksNothing p)
nothing_of (Ok a) o q is h = tt
nothing_of (Err e) o q is h = λ other p there. subst AsksNothing (some_is q p (sym is ∙ there)) (h other)

-- the error of words that ask for no command is one for these words
pub refused_by : (words : List Text) (e : Error) (unasked : Unasked) (o : Option (Text × List Row))
    → subcommand_of program_app words ≡ o → (unasked ≡ Memory → kind_of e ≡ OutOfMemory)
    → (unasked ≢ Memory → IsUnaskedKind (kind_of e))
    → (unasked ≢ Memory → (p : Text × List Row) → o ≡ Some p → AsksNothing p) → IsErrorOfWords words e
refused_by words e Memory o read memory kinds nothing = inl (memory refl)
refused_by words e Missing o read memory kinds nothing =
    let other : Missing ≢ Memory = λ same. cc in
    inr (inr (kinds other, λ p is. nothing other p (sym read ∙ is)))
refused_by words e BadClass o read memory kinds nothing =
    let other : BadClass ≢ Memory = λ same. cc in
    inr (inr (kinds other, λ p is. nothing other p (sym read ∙ is)))
refused_by words e BadKind o read memory kinds nothing =
    let other : BadKind ≢ Memory = λ same. cc in
    inr (inr (kinds other, λ p is. nothing other p (sym read ∙ is)))
refused_by words e BadCommand o read memory kinds nothing =
    let other : BadCommand ≢ Memory = λ same. cc in
    inr (inr (kinds other, λ p is. nothing other p (sym read ∙ is)))
refused_by words e BadHostname o read memory kinds nothing =
    let other : BadHostname ≢ Memory = λ same. cc in
    inr (inr (kinds other, λ p is. nothing other p (sym read ∙ is)))
refused_by words e Scoped o read memory kinds nothing =
    let other : Scoped ≢ Memory = λ same. cc in
    inr (inr (kinds other, λ p is. nothing other p (sym read ∙ is)))

-- the value of a flag by the text of its row
pub flag-of : (on : Bool) (o : Option Text) → (o ≡ None → on ≡ false) → (o ≡ Some (codes "true") → on ≡ true)
    → (o ≡ Some (codes "false") → on ≡ false) → IsFlag on o
flag-of on None none given not_given = none refl
flag-of on (Some text) none given not_given = (λ is. given (ap Some is), λ is. not_given (ap Some is))
