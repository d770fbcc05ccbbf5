-- The lines of a report: the events in order, the ending, after a return the objects that are left, and how often references were counted.
use Rattle.std.specs.Prelude.{ℕ, ◌==◌, List, [], ◌∷◌, ◌++◌, Bool, true, false, length, codes, decimal, find, slice_get, unwrap_or}
use Rattle.std.specs.Prelude.{option_map}
use Rattle.std.specs.Fmt.{signed_decimal}
use Rattle.std.specs.List.{flat_map}
use Rattle.sil_ast.specs.declared.module.Module.{Module}
use Rattle.sil_ast.specs.declared.place.FuncId.{FuncId}
use Rattle.sil_ast.specs.declared.place.ObjectId.{ObjectId}
use Rattle.ownership_kinds_origins.specs.numbered_form.Names.{Name, function_name}
use Rattle.sil_printer.specs.Words.{in_parens, line, quote}
use Rattle.holder_model_values.specs.RunValues.Shapes.{Shape}
use Rattle.holder_model.specs.declared.event.Event.{Event}
use Rattle.holder_model.specs.declared.event.Event.TheVariants as event
use Rattle.holder_model.specs.declared.left_object.LeftObject.{LeftObject}
use Rattle.holder_model.specs.declared.trap.Trap.{Trap}
use Rattle.holder_model.specs.declared.trap.Trap.TheVariants as trap
use Rattle.holder_model.specs.Outcomes.{Outcome}
use Rattle.holder_model.specs.States.{Ending, Faulted, OutOfTurns, Returned, Trapped}
use Rattle.holder_model.specs.RunReport.ValueTexts.{object_text, value_text}

abbrev pub name_of : Module → FuncId → Name
name_of m g = unwrap_or (option_map function_name (slice_get m.functions g.0)) []

-- `call @show(1, -2)`, `deinit Node#0`
abbrev pub event_line : Module → Event → List ℕ
event_line m (event.Call g args) = line (codes "call @" ++ name_of m g ++ in_parens signed_decimal args)
event_line m (event.Deinit class o) = line (codes "deinit " ++ object_text class o)

abbrev pub trap_words : Trap → List ℕ
trap_words (trap.CondFail message) = codes "cond_fail " ++ quote ++ message ++ quote
trap_words trap.Unreachable = codes "unreachable"
trap_words trap.Unowned = codes "unowned"
trap_words trap.Escaped = codes "escaped"
trap_words trap.Depth = codes "depth"

abbrev pub phase_words : Bool → List ℕ
phase_words true = codes " live"
phase_words false = codes " dead"

-- `object Node#0 live strong 1 unowned 0 weak 0`
abbrev pub object_line : LeftObject → List ℕ
object_line x =
    line (codes "object " ++ object_text x.class_name x.object ++ phase_words x.live ++ codes " strong " ++ decimal x.strong
    ++ codes " unowned " ++ decimal x.unowned ++ codes " weak " ++ decimal x.weak)

abbrev pub is_it : ObjectId → LeftObject → Bool
is_it o x = x.object.0 == o.0

abbrev pub class_name_of : LeftObject → Name
class_name_of x = x.class_name

-- the class that was allocated of an object that is left
abbrev pub class_among : List LeftObject → ObjectId → Name
class_among left o = unwrap_or (option_map class_name_of (find (is_it o) left)) []

abbrev pub left_lines : List LeftObject → List ℕ
left_lines left = line (codes "objects " ++ decimal (length left)) ++ flat_map object_line left

abbrev pub count_line : ℕ → ℕ → List ℕ
count_line retains releases = line (codes "retains " ++ decimal retains ++ codes " releases " ++ decimal releases)

-- S is the shape of what is returned. Of a fault no ending is told
module _ {X : Type 0} (m : Module) (S : Shape) where
  abbrev pub ending_lines : Ending X → List LeftObject → List ℕ
  ending_lines (Returned x) left = line (codes "returned " ++ value_text (class_among left) S x) ++ left_lines left
  ending_lines (Trapped t) left = line (codes "trap " ++ trap_words t)
  ending_lines OutOfTurns left = line (codes "out of turns")
  ending_lines (Faulted x) left = []

  -- the report of an outcome
  abbrev pub report : Outcome X → List ℕ
  report outcome = flat_map (event_line m) outcome.events ++ ending_lines outcome.ending outcome.left ++ count_line outcome.retains outcome.releases
