-- A row of a right state that makes a change finds what the lowered run needs.
use Rattle.std.proofs.Common.{◌≡◌, ℕ, List, refl, true}
use Rattle.sil_ast.specs.declared.module.Module.{Module}
use Rattle.holder_model_values.specs.RunValues.Places.{Place}
use Rattle.sil_verifier_runs.specs.sil_verifier_accepted.AcceptedModules.inner.Checked.{IsVerified}
use Rattle.sil_verifier_runs.specs.inner.RightStates.{IsRightState}
use Rattle.sil_verifier_runs.specs.holder_model.Effects.{Change, effect_of}
use Rattle.sil_verifier_runs.specs.holder_model.Frames.{Entry}
use Rattle.sil_verifier_runs.specs.holder_model.HolderStates.{HolderState}
use Rattle.sil_verifier_runs.specs.holder_model.declared.row_effect.RowEffect.{RowEffect}
use Rattle.sil_verifier_runs.specs.holder_model.declared.row_effect.RowEffect.TheVariants as row
use Rattle.sil_verifier_runs.specs.holder_model.LoweredRun.LowStepParts.{LowState}
use Rattle.ownership_lowering_runs.specs.StoredRuns.inner.RowsRight.{RowRight, is_place_row}
use Rattle.ownership_lowering_runs.specs.StoredRuns.inner.TypedPlainRows.{is_plain_row}
use Rattle.ownership_lowering_runs.specs.StoredRuns.inner.TypedSteps.{IsTypedFor}
use Rattle.ownership_lowering_runs.proofs.StoredRuns.PlacesTold.{are_places_told}
use Rattle.ownership_lowering_runs.proofs.StoredRuns.Typed.TypedPlainRows.{are_typed_plain_rows}
use Rattle.ownership_lowering_runs.proofs.StoredRuns.Typed.TypedRows.{are_typed_place_rows}
use Rattle.ownership_lowering_runs.specs.SameRuns.inner.InRightStates.{AtInst, IsNoCall, LeavesSo, RowsAreRight}
use Rattle.ownership_lowering_runs.proofs.SameRuns.RetainedAlive.{retained_alive}
use Rattle.ownership_lowering_runs.proofs.SameRuns.SparedParts.{parts_spared}
use Rattle.ownership_lowering_runs.proofs.SameRuns.RowsFound.{accepted, frame_is, stands}
use Rattle.ownership_lowering_runs.proofs.SameRuns.TakenApartRows.{apart_right}

-- which lemma a row is
data RowSo (r : RowEffect) : Type 0 where
  at_place : is_place_row r ≡ true → RowSo r
  plain : is_plain_row r ≡ true → RowSo r
  apart : r ≡ row.GivesMembers → RowSo r
  calls : r ≡ row.CallsFunction → RowSo r

row_so : (r : RowEffect) → RowSo r
row_so row.NoEffect = RowSo.plain refl
row_so row.GivesLiteral = RowSo.plain refl
row_so row.GivesFunction = RowSo.plain refl
row_so row.Computes = RowSo.plain refl
row_so row.TrapsWhereSet = RowSo.plain refl
row_so row.MakesObject = RowSo.plain refl
row_so row.MakesSlot = RowSo.plain refl
row_so row.RemovesSlot = RowSo.at_place refl
row_so row.GivesOperand = RowSo.plain refl
row_so row.CopiesOperand = RowSo.plain refl
row_so row.RetainsOperand = RowSo.plain refl
row_so row.DropsOperand = RowSo.plain refl
row_so row.LoadsValue = RowSo.at_place refl
row_so row.StoresValue = RowSo.at_place refl
row_so row.DestroysPlace = RowSo.at_place refl
row_so row.LoadsName = RowSo.at_place refl
row_so row.Groups = RowSo.plain refl
row_so row.ChoosesCase = RowSo.plain refl
row_so row.GivesMember = RowSo.plain refl
row_so row.GivesMembers = RowSo.apart refl
row_so row.AddressesMember = RowSo.plain refl
row_so row.AddressesField = RowSo.plain refl
row_so row.CallsFunction = RowSo.calls refl

module _ (m : Module) (bound : ℕ) (s : HolderState) (verified : IsVerified m) (right : IsRightState m s) (l : LowState) (x : AtInst m s)
    (h : IsTypedFor m s l) (other : IsNoCall m bound s x) (c : Change) (slots : List Place) (entries : List Entry) (leaves : LeavesSo m bound s x c slots entries) where
  row_right : RowRight m s l x.frame x.f x.i x.ops c
  row_right = by (row_so (effect_of x.i.op))
    where
      by : RowSo (effect_of x.i.op) → RowRight m s l x.frame x.f x.i x.ops c
      by (RowSo.at_place e) =
          are_typed_place_rows m s l h.typed.world x.frame x.rest x.f x.i x.ops c (accepted m bound s l x h) h.typed.of h.typed.memory (frame_is m bound s l x h)
          (stands m bound s l x h)
          (are_places_told m s l h.typed.world x.frame x.rest x.f x.i x.ops (accepted m bound s l x h) (frame_is m bound s l x h) (stands m bound s l x h)
          (parts_spared m bound s verified right l x h other c slots entries leaves)) e leaves.makes
      by (RowSo.plain e) =
          are_typed_plain_rows m s l h.typed.world x.frame x.rest x.f x.i x.ops c (accepted m bound s l x h) h.typed.of h.typed.memory (frame_is m bound s l x h)
          (stands m bound s l x h) e leaves.makes
      by (RowSo.apart e) =
          apart_right m s l h.typed.world x.frame x.rest x.f x.i x.ops c (accepted m bound s l x h) (frame_is m bound s l x h) (stands m bound s l x h) e leaves.makes
      by (RowSo.calls e) = absurd (other e)

pub rows_right : RowsAreRight
rows_right m bound s verified right l x h other c slots entries leaves =
    (row_right m bound s verified right l x h other c slots entries leaves, retained_alive m bound s verified right x other c slots entries leaves)
