-- Rows that leave stored numbers as they are.
use Rattle.std.proofs.Common.{◌≡◌, List, refl, Bool, true, false}
use Rattle.sil_ast.specs.declared.inst.Inst.{Inst}
use Rattle.sil_types_declarations.specs.TypeDefinitions.Declarations.{Declarations}
use Rattle.holder_model.specs.holder_model_values.RunValues.Memory.{Memory}
use Rattle.holder_model.specs.holder_model_values.RunValues.Shapes.{Shape}
use Rattle.holder_model.specs.Data.{Datum}
use Rattle.holder_model.specs.ModuleShapes.{ModuleShapes}
use Rattle.holder_model.specs.Outcomes.{Numbers}
use Rattle.holder_model.specs.declared.row_effect.RowEffect.{RowEffect}
use Rattle.holder_model.specs.declared.row_effect.RowEffect.TheVariants as row
use Rattle.holder_model.specs.LoweredRun.LowEffects.{stored_by}
use Rattle.holder_model_laws.proofs.StoredCounts.RowsMade.{is_told}

-- rows that change what storage names
abbrev pub changes_names : RowEffect → Bool
changes_names row.StoresValue = true
changes_names row.LoadsName = true
changes_names row.DestroysPlace = true
changes_names r = false

-- those are told exactly
pub untold_quiet : (r : RowEffect) → is_told r ≡ false → changes_names r ≡ false
untold_quiet row.StoresValue e = cc
untold_quiet row.LoadsName e = cc
untold_quiet row.DestroysPlace e = cc
untold_quiet row.NoEffect e = refl
untold_quiet row.GivesLiteral e = refl
untold_quiet row.GivesFunction e = refl
untold_quiet row.Computes e = refl
untold_quiet row.TrapsWhereSet e = refl
untold_quiet row.MakesObject e = refl
untold_quiet row.MakesSlot e = refl
untold_quiet row.RemovesSlot e = refl
untold_quiet row.GivesOperand e = refl
untold_quiet row.CopiesOperand e = refl
untold_quiet row.RetainsOperand e = refl
untold_quiet row.DropsOperand e = refl
untold_quiet row.LoadsValue e = refl
untold_quiet row.Groups e = refl
untold_quiet row.ChoosesCase e = refl
untold_quiet row.GivesMember e = refl
untold_quiet row.GivesMembers e = refl
untold_quiet row.AddressesMember e = refl
untold_quiet row.AddressesField e = refl
untold_quiet row.CallsFunction e = refl

module _ (d : Declarations) (shapes : ModuleShapes) (values : List Shape) (m : Memory) (i : Inst) (xs : List Datum) (stored : List Numbers) where
  -- the others leave stored numbers as they are
  pub stays_stored : (r : RowEffect) → changes_names r ≡ false → stored_by d shapes values m i r xs stored ≡ stored
  stays_stored row.StoresValue e = cc
  stays_stored row.LoadsName e = cc
  stays_stored row.DestroysPlace e = cc
  stays_stored row.NoEffect e = refl
  stays_stored row.GivesLiteral e = refl
  stays_stored row.GivesFunction e = refl
  stays_stored row.Computes e = refl
  stays_stored row.TrapsWhereSet e = refl
  stays_stored row.MakesObject e = refl
  stays_stored row.MakesSlot e = refl
  stays_stored row.RemovesSlot e = refl
  stays_stored row.GivesOperand e = refl
  stays_stored row.CopiesOperand e = refl
  stays_stored row.RetainsOperand e = refl
  stays_stored row.DropsOperand e = refl
  stays_stored row.LoadsValue e = refl
  stays_stored row.Groups e = refl
  stays_stored row.ChoosesCase e = refl
  stays_stored row.GivesMember e = refl
  stays_stored row.GivesMembers e = refl
  stays_stored row.AddressesMember e = refl
  stays_stored row.AddressesField e = refl
  stays_stored row.CallsFunction e = refl
