use Rattle.std.proofs.Common.{◌≡◌, ◌∙◌, sym, refl, ap, subst, IfErr, Result, Ok, Err, inl, inr, Bool, true, false}
use Rattle.std.proofs.Common.{List, map}
use Rattle.std.specs.Prelude.{IsErrAnd}
use Rattle.clap.specs.Words.{App, Text, is_simple, subcommand_of, subcommand_rows_of}
use Rattle.clap.proofs.OnLiterals.{clap_on_literals}
use Rattle.clap.specs.Words.{kind_of, takes}
use Rattle.clap.specs.Faults.{fault_of, is_simple_and_free}
use Rattle.clap.specs.Kinds.{HasKind}
use Rattle.clap.specs.declared.error.Error.{Error}
use Rattle.clap.specs.declared.error.ErrorKind.TheVariants.{OutOfMemory}
use Rattle.review_commands.specs.Words.{IsErrorOfWords, program_app}
use Rattle.review_commands.proofs.Subcommands.{refused_by}
use Rattle.review_commands.proofs.words.asked_of.Goals as goal

-- the command is one that `clap` gives a meaning for
program_is_simple : is_simple program_app ≡ true
unfolding clap_on_literals
program_is_simple = refl

pub returns-in-Ok-clause-stated : goal.returns-in-Ok-clause-stated
returns-in-Ok-clause-stated g c =
    let app = c.requires in
    let words = map g.S.AsStr.text c.args.words.now in
    let exact = c.in_ok-matches.ensures.ok.2 (ap is_simple app ∙ program_is_simple) in
    let read : subcommand_of program_app words ≡ subcommand_rows_of c.in_ok-matches.matches =
    ap (λ (a : App). subcommand_of a words) (sym app) ∙ sym exact.1 in
    (c.in-Ok.ensures.stated.0, read ∙ c.in-Ok.ensures.stated.1, c.in-Ok.ensures.stated.2)

-- no argument of the command has a rule on another
program_is_free : is_simple_and_free program_app ≡ true
unfolding clap_on_literals
program_is_free = refl

by_passes : (words : List Text) (error : Error) → (takes program_app words ≡ true → kind_of error ≡ OutOfMemory)
    → HasKind (fault_of program_app words) error → IsErrorOfWords words error
by_passes words error passes kinds = go (takes program_app words) refl passes
  where
    go : (b : Bool) → takes program_app words ≡ b → (b ≡ true → kind_of error ≡ OutOfMemory) → IsErrorOfWords words error
    go true is memory = inl (memory refl)
    go false is memory = elim kinds [
      | inl out ↦ inl out
      | inr among ↦ inr (inl (is, among))
    ]

moved : {T : Type 0} (words : List Text) (old : Error) (r : Result T Error) → IsErrAnd r (λ e. e ≡ old)
    → IsErrorOfWords words old → IfErr r (λ e. IsErrorOfWords words e)
moved words old (Ok x) is refused = tt
moved words old (Err e) is refused = subst (IsErrorOfWords words) (sym is) refused

pub returns-in_err-matches-clause-refused : goal.returns-in_err-matches-clause-refused
returns-in_err-matches-clause-refused g c =
    let words = map g.S.AsStr.text c.args.words.now in
    let error = c.in_err-matches.field-0.0 in
    let kinds : HasKind (fault_of program_app words) error =
    subst (λ (a : App). HasKind (fault_of a words) error) c.requires
    (c.in_err-matches.ensures.kinds (ap is_simple_and_free c.requires ∙ program_is_free)) in
    let refused : IsErrorOfWords words error =
    by_passes words error (λ taken. c.in_err-matches.ensures.passes (ap (λ (a : App). takes a words) c.requires ∙ taken)) kinds in
    moved words error c.from_residual.result c.from_residual.ensures.1 refused

pub returns-clause-refused : goal.returns-clause-refused
returns-clause-refused g c =
    let app = c.requires in
    let words = map g.S.AsStr.text c.args.words.now in
    let exact = c.in_ok-matches.ensures.ok.2 (ap is_simple app ∙ program_is_simple) in
    let read : subcommand_of program_app words ≡ subcommand_rows_of c.in_ok-matches.matches =
    ap (λ (a : App). subcommand_of a words) (sym app) ∙ sym exact.1 in
    refused_by words c.in_ok-unasked_error-in-Err.field-0 c.in-Err.unasked _ read c.in_ok-unasked_error-in-Err.ensures.memory
    c.in_ok-unasked_error-in-Err.ensures.kinds c.in-Err.ensures.nothing
