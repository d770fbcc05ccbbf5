-- The first function that has a body and no `[ossa]`.
use Rattle.std.specs.Prelude.{ℕ, ◌+◌, List, [], ◌∷◌, Bool, false, ◌&&◌, ◌||◌, ◌==◌, nat_lt, nat_le, is_none, Option, Some, None, if◌then◌else◌}
use Rattle.sil_ast.specs.declared.function.Function.{Function}
use Rattle.sil_ast.specs.declared.place.FuncId.{FuncId}
use Rattle.sil_rules.specs.Rules.{number_of}
use Rattle.sil_rules.specs.declared.rule.Rule.TheVariants as rule
use Rattle.sil_types.specs.Typing.FormRules.{is_lowered}
use Rattle.sil_types.specs.Typing.Typed.{at_function}
use Rattle.type_check.specs.Refusals.{fault_at}
use Rattle.type_check.specs.declared.fault.TypingFault.{TypingFault}

-- 207 at the first of some functions that is lowered, of which the first has the number n
abbrev pub first_lowered : ℕ → List Function → Option TypingFault
first_lowered n [] = None
first_lowered n (f ∷ fs) = if is_lowered f.form then Some (fault_at (at_function n) rule.MixedForms) else first_lowered (n + 1) fs

abbrev pub is_before_by : Option FuncId → Option FuncId → TypingFault → TypingFault → Bool
is_before_by None other a b = false
is_before_by (Some one) None a b = false
is_before_by (Some one) (Some other) a b =
    nat_lt one.0 other.0 || (one.0 == other.0 && is_none a.point && nat_le (number_of a.rule) (number_of b.rule))

-- the first fault is that of an earlier function, or of the same function itself with a rule that isn't later
abbrev pub is_before : TypingFault → TypingFault → Bool
is_before a b = is_before_by a.function b.function a b
