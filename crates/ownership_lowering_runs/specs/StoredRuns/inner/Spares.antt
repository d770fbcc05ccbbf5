-- Spare values of lowered code: what a place held, until it is released.
use Rattle.std.specs.Prelude.{◌≡◌, ◌<◌, ◌==◌, false, true}
use Rattle.std.specs.List.{list_any}
use Rattle.sil_ast.specs.declared.function.Function.{Function}
use Rattle.sil_ast.specs.declared.module.Module.{Module}
use Rattle.sil_ast.specs.declared.place.FuncId.{FuncId}
use Rattle.sil_ast.specs.declared.place.ValueId.{ValueId}
use Rattle.sil_types_declarations.specs.TypeDefinitions.Declarations.{Declarations, declarations_of}
use Rattle.ownership_lowering_laws.specs.LoweringLaws.inner.Laws.{defined_by}
use Rattle.numbered_form.specs.Numbering.{is_value}
use Rattle.sil_verifier_runs.specs.sil_verifier_values.inner.Known.{IsAcceptedBody}
use Rattle.ownership_lowering_runs.specs.StoredRuns.inner.Names.{IsOld, IsSpare, lowered_count, lowered_number}

-- a spare value that lowered code defines has a number of its own
pub record AreSparesApart (d : Declarations) (f : Function) : Type 0 where
  pub few : (v : ValueId) → IsSpare f v → list_any (is_value v) (defined_by d f) ≡ true → (lowered_number d f v).0 < lowered_count d f
  pub apart : (v u : ValueId) → IsSpare f v → list_any (is_value v) (defined_by d f) ≡ true → IsOld f u
      → ((lowered_number d f u).0 == (lowered_number d f v).0) ≡ false

abbrev pub AreAcceptedSparesApart : Type 0
AreAcceptedSparesApart = (m : Module) (g : FuncId) (f : Function) → IsAcceptedBody m g.0 f → AreSparesApart (declarations_of m) f
