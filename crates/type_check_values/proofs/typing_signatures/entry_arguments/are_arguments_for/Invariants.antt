use Rattle.std.proofs.Common.{◌≡◌, drop}
use Rattle.argument_conventions.specs.Arguments.{arguments_of}
use Rattle.argument_conventions.specs.inner.Remaining.{remaining_told}
use Rattle.sil_types.specs.Typing.Same.{all_pairs}
use Rattle.sil_types.specs.Typing.SignatureRules.{is_argument_for}
use Rattle.type_check_values.proofs.typing_signatures.entry_arguments.are_arguments_for.Given as goal

abbrev pub invariant-loop-arg : goal.invariant-loop-arg
invariant-loop-arg l =
    all_pairs (is_argument_for l.form) (drop l.arg-index l.args) (remaining_told l.rest)
    ≡ all_pairs (is_argument_for l.form) l.args (arguments_of l.signature)
