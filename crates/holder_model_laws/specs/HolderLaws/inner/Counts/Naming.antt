-- What an instruction leaves names nothing dead: its results, what it drops and what memory holds come from its operands, from what memory held
-- strongly, or from what is alive.
use Rattle.std.specs.Prelude.{◌≡◌, ℕ, List, [], ◌∷◌, true, false, map, sum}
use Rattle.numbered_form.specs.Lists.{Each}
use Rattle.sil_ast.specs.declared.decl.Storage.TheVariants as storage
use Rattle.sil_ast.specs.declared.inst.Inst.{Inst}
use Rattle.sil_ast.specs.declared.place.ObjectId.{ObjectId}
use Rattle.sil_types_declarations.specs.TypeDefinitions.Declarations.{Declarations}
use Rattle.holder_model.specs.holder_model_values.RunValues.Memory.{Memory, is_dead}
use Rattle.holder_model.specs.holder_model_values.RunValues.Places.{Place, cells_at}
use Rattle.holder_model.specs.holder_model_values.RunValues.Shapes.{Shape}
use Rattle.holder_model.specs.declared.row_effect.RowEffect.TheVariants as row
use Rattle.holder_model.specs.Data.{AddressOf, Datum, references_in}
use Rattle.holder_model.specs.Effects.{Change, effect_of}
use Rattle.holder_model.specs.Frames.{any_dead}
use Rattle.holder_model.specs.Holders.{in_memory, of_references}
use Rattle.holder_model.specs.ModuleShapes.{ModuleShapes}
use Rattle.holder_model_laws.specs.HolderLaws.inner.Counts.Doing.{Leaves}
use Rattle.holder_model_laws.specs.HolderLaws.inner.Counts.Keeping.{IsWithin, KeepsStrongly}

-- what data name
abbrev pub in_datum : (ObjectId → ℕ) → Datum → ℕ
in_datum weight x = of_references weight (references_in x)

abbrev pub in_data : (ObjectId → ℕ) → List Datum → ℕ
in_data weight xs = sum (map (in_datum weight) xs)

-- only what is dead weighs something
abbrev pub WeighsDead : (ObjectId → ℕ) → Memory → Type 0
WeighsDead weight m = (o : ObjectId) → is_dead m o ≡ false → weight o ≡ 0

-- a datum names nothing dead
abbrev pub IsAlive : Memory → Datum → Type 0
IsAlive m x = any_dead m (references_in x) ≡ false

-- a place whose cells are there, each of which keeps strongly what it keeps
pub record IsReadStrongly (m : Memory) (p : Place) : Type 0 where
  pub within : IsWithin m p
  pub strongly : Each KeepsStrongly (cells_at m p)

abbrev pub LoadsStrongly : Memory → Inst → List Datum → Type 0
LoadsStrongly m i xs = (p : Place) → effect_of i.op ≡ row.LoadsValue → xs ≡ AddressOf p ∷ [] → IsReadStrongly m p

pub record HoldsNone (weight : ObjectId → ℕ) (c : Change) : Type 0 where
  pub results : in_data weight c.results ≡ 0
  pub dropped : of_references weight c.dropped ≡ 0
  pub memory : in_memory weight storage.Strong c.memory ≡ 0

-- where operands and memory hold nothing dead, neither does what is left
abbrev pub AreLeftAlive : Type 0
AreLeftAlive = (d : Declarations) (shapes : ModuleShapes) (values : List Shape) (m : Memory) (i : Inst) (xs : List Datum) (c : Change) (weight : ObjectId → ℕ)
    → Leaves d shapes values m i xs c → Each (IsAlive m) xs → LoadsStrongly m i xs → WeighsDead weight c.memory
    → in_data weight xs ≡ 0 → in_memory weight storage.Strong m ≡ 0 → HoldsNone weight c

-- no instruction kills
abbrev pub AreDeadBefore : Type 0
AreDeadBefore = (d : Declarations) (shapes : ModuleShapes) (values : List Shape) (m : Memory) (i : Inst) (xs : List Datum) (c : Change)
    → Leaves d shapes values m i xs c → (o : ObjectId) → is_dead c.memory o ≡ true → is_dead m o ≡ true
