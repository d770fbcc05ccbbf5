-- What is refused of a module's typing, and in which order.
use Rattle.std.specs.Prelude.{◌≡◌, ℕ, List, [], Option, Some, None, ⊤}
use Rattle.sil_ast.specs.declared.module.Module.{Module}
use Rattle.sil_ast.specs.declared.place.FuncId.{FuncId}
use Rattle.sil_ast.specs.declared.place.PointId.{PointId}
use Rattle.sil_rules.specs.Order.{IsLeast, function_key, point_key, vtable_key}
use Rattle.sil_rules.specs.declared.rule.Rule.{Rule}
use Rattle.sil_types.specs.Typing.Typed.{BreaksAt, Site, at_function, at_point, at_vtable}
use Rattle.type_check.specs.declared.fault.TypingFault.{TypingFault}
use Rattle.type_check.specs.declared.refusal.CheckRefusal.{CheckRefusal}
use Rattle.type_check.specs.declared.refusal.CheckRefusal.TheVariants as refusal

abbrev pub function_id : ℕ → FuncId
function_id n = record { 0 = n }

abbrev pub point_id : ℕ → ℕ → PointId
point_id block index = record { block = record { 0 = block }; index = index }

-- the rule, as it is broken at this site
abbrev pub fault_at : Site → Rule → TypingFault
fault_at (at_function n) r = record { rule = r; function = Some (function_id n); point = None; vtable = None }
fault_at (at_point n block index) r = record { rule = r; function = Some (function_id n); point = Some (point_id block index); vtable = None }
fault_at (at_vtable n) r = record { rule = r; function = None; point = None; vtable = Some n }

-- the rule is broken there
pub data IsBroken (m : Module) : TypingFault → Type 0 where
  broken : (s : Site) (r : Rule) → BreaksAt m s r → IsBroken m (fault_at s r)

abbrev pub key_in_function : ℕ → Option PointId → Rule → List ℕ
key_in_function n None r = function_key n r
key_in_function n (Some p) r = point_key n p.block.0 p.index r

abbrev pub key_of_vtable : Option ℕ → List ℕ
key_of_vtable None = []
key_of_vtable (Some n) = vtable_key n

abbrev pub key_by : Option FuncId → TypingFault → List ℕ
key_by None f = key_of_vtable f.vtable
key_by (Some n) f = key_in_function n.0 f.point f.rule

-- by function, within it at the function before its points, the points in order, at one place by rule; behind these by vtable
abbrev pub fault_key : TypingFault → List ℕ
fault_key f = key_by f.function f

-- the first rule that is broken, unless memory ran out
abbrev pub IsRefusal : Module → CheckRefusal → Type 0
IsRefusal m (refusal.Rule r f p v) = IsLeast fault_key (IsBroken m) (record { rule = r; function = f; point = p; vtable = v })
IsRefusal m refusal.Memory = ⊤
