-- The lines of what the verifier reports.
use Rattle.std.specs.Prelude.{List, [], ◌++◌, ℕ, Option, Some, None, slice_get}
use Rattle.sil_ast.specs.declared.function.Function.{Function}
use Rattle.sil_ast.specs.declared.module.Module.{Module}
use Rattle.sil_ast.specs.declared.place.FuncId.{FuncId}
use Rattle.sil_ast.specs.declared.place.ValueId.{ValueId}
use Rattle.sil_verifier.specs.declared.refusal.Refusal.{Refusal}
use Rattle.sil_command_lines.specs.Texts.{refused_text}
use Rattle.sil_command_lines.specs.ValueTexts.{shown_lines}

abbrev pub function_in : Module → Option FuncId → Option Function
function_in m None = None
function_in m (Some n) = slice_get m.functions n.0

abbrev pub lines_behind : Module → Refusal → Option ValueId → List ℕ
lines_behind m r None = []
lines_behind m r (Some v) = shown_lines v r.other r.rule (function_in m r.function) r.walk

-- where there is a value, what is shown of it stands behind the first line
abbrev pub report_text : Module → Refusal → List ℕ
report_text m r = refused_text m r.rule r.function r.item r.point ++ lines_behind m r r.subject
