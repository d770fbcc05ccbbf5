-- Places of typed memory: where no storage is in a shape, its cells may be taken, and the value that they keep has the references that they hold.
use Rattle.std.specs.Prelude.{◌≡◌, [], true, None, Some}
use Rattle.numbered_form.specs.Lists.{Each}
use Rattle.sil_ast.specs.declared.decl.Storage.{Storage}
use Rattle.sil_ast.specs.declared.module.Module.{Module}
use Rattle.holder_model_values.specs.RunValues.Cells.{in_cells}
use Rattle.holder_model_values.specs.RunValues.Memory.{Memory}
use Rattle.holder_model_values.specs.RunValues.Places.{Place, cells_at, is_there_at, value_at}
use Rattle.holder_model_values.specs.RunValues.Shapes.{Shape, Stored, storage_in}
use Rattle.holder_model_values.specs.RunValues.Values.{Value, references_of}
use Rattle.holder_model_values.specs.RunValues.Trivial.{is_trivial}
use Rattle.sil_verifier_runs.specs.holder_model.MemoryEffects.{references_at}
use Rattle.sil_verifier_runs.specs.holder_model.RunTyping.Forms.{has_no_storage}
use Rattle.sil_verifier_runs.specs.holder_model.RunTyping.StorageForms.{IsNamed}
use Rattle.ownership_lowering_laws.specs.holder_model_typing.TypedMemory.inner.Worlds.{MemoryIs, PlaceIs, Suits, World}
use Rattle.ownership_lowering_runs.specs.StoredRuns.inner.Memories.{MayBeTaken}

module _ (m : Module) (w : World) (memory : Memory) (y : Place) where
  pub record IsPlainPlace : Type 0 where
    pub bare : storage_in y.shape ≡ None
    pub strong : is_there_at memory y ≡ true → Each MayBeTaken (cells_at memory y)
    pub references : (z : Value) → is_there_at memory y ≡ true → value_at memory y ≡ Some z → references_of z ≡ references_at memory y
    pub new : (x : Value) → Suits m w y.shape x → Each MayBeTaken ((in_cells y.shape).cells x)

abbrev pub ArePlainPlaces : Type 0
ArePlainPlaces = (m : Module) (w : World) (memory : Memory) (y : Place) → MemoryIs m w memory → PlaceIs m w y → has_no_storage y.shape ≡ true
    → IsPlainPlace m w memory y

-- storage holds no references
abbrev pub AreStoragePlaces : Type 0
AreStoragePlaces = (m : Module) (w : World) (memory : Memory) (y : Place) (how : Storage) (inner : Shape) → MemoryIs m w memory → PlaceIs m w y
    → y.shape ≡ Stored how inner → IsNamed how inner → references_at memory y ≡ []

-- nor does a place of a trivial shape
abbrev pub AreTrivialPlaces : Type 0
AreTrivialPlaces = (m : Module) (w : World) (memory : Memory) (y : Place) → MemoryIs m w memory → PlaceIs m w y → is_trivial y.shape ≡ true
    → references_at memory y ≡ []
