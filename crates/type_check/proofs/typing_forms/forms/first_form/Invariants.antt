use Rattle.std.proofs.Common.{◌≡◌, drop}
use Rattle.std.specs.Prelude.{find, option_map}
use Rattle.sil_types.specs.Typing.FormRules.{form_of, has_body}
use Rattle.type_check.proofs.typing_forms.forms.first_form.Given as goal

abbrev pub invariant-loop-function : goal.invariant-loop-function
invariant-loop-function l = option_map form_of (find has_body (drop l.function-index l.function-items)) ≡ option_map form_of (find has_body l.function-items)
