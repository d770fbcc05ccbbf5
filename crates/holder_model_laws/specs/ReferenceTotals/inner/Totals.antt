-- What the totals of a run of lowered code have to do with stored numbers. A reference is made where an object is allocated and by each retain, and a release
-- ends one.
use Rattle.std.specs.Prelude.{◌≡◌, ℕ, ◌+◌, List, true, length}
use Rattle.std.specs.List.{sum_by}
use Rattle.sil_ast.specs.declared.function.Function.{Function}
use Rattle.sil_ast.specs.declared.module.Module.{Module}
use Rattle.sil_ast.specs.declared.place.FuncId.{FuncId}
use Rattle.sil_ast.specs.declared.place.ObjectId.{ObjectId}
use Rattle.holder_model.specs.holder_model_values.RunValues.Memory.{Memory, is_dead}
use Rattle.holder_model.specs.holder_model_values.RunValues.Values.{Value}
use Rattle.holder_model.specs.ModuleShapes.{ModuleShapes}
use Rattle.holder_model.specs.Outcomes.{Numbers, Outcome, run}
use Rattle.holder_model.specs.States.{Ends, Goes, Returned}
use Rattle.holder_model.specs.declared.left_object.LeftObject.{LeftObject}
use Rattle.holder_model.specs.LoweredRun.LowOutcomes.{low_begins, low_outcome_at}
use Rattle.holder_model.specs.LoweredRun.LowStepParts.{LowNext, LowState}
use Rattle.holder_model.specs.LoweredRun.LowSteps.{low_step}
use Rattle.holder_model.specs.LoweredRun.Stored.{numbers_of}

-- the sum of the strong numbers that are stored
abbrev pub strong_sum : List Numbers → ℕ
strong_sum stored = sum_by (λ (n : Numbers). n.strong) stored

-- the sum of the strong numbers that an outcome tells
abbrev pub strong_told : List LeftObject → ℕ
strong_told left = sum_by (λ (x : LeftObject). x.strong) left

-- each object has its numbers; what was made is what is stored and what was released; and of a dead object no reference is stored
pub record AreTotals (memory : Memory) (stored : List Numbers) (retains releases : ℕ) : Type 0 where
  pub size : length stored ≡ length memory.objects
  pub even : length memory.objects + retains ≡ strong_sum stored + releases
  pub dead : (o : ObjectId) → is_dead memory o ≡ true → (numbers_of stored o).strong ≡ 0

abbrev pub AreTotalsOf : LowState → Type 0
AreTotalsOf l = AreTotals l.memory l.numbers l.retains l.releases

-- the state from which a run goes on, or in which it ends
abbrev pub come_to : LowNext → LowState
come_to (Goes l) = l
come_to (Ends e l) = l

-- they are even where a run begins
abbrev pub BeginWithTotals : Type 0
BeginWithTotals = (e : FuncId) (f : Function) → AreTotalsOf (low_begins e f)

-- and so in each state that it comes to
abbrev pub AreTotalsStored : Type 0
AreTotalsStored = (m : Module) (told : ModuleShapes) (bound : ℕ) (e : FuncId) (f : Function) (steps : ℕ)
    → AreTotalsOf (come_to (run (low_step m told bound) steps (low_begins e f)))

-- what was made is what an outcome tells and what was released, with so many objects allocated
abbrev pub AreTotalsIn : {X : Type 0} → ℕ → Outcome X → Type 0
AreTotalsIn allocated o = allocated + o.retains ≡ strong_told o.left + o.releases

-- a run that has returned tells all references that are left: an object that is freed, and so isn't told, has none
abbrev pub AreTotalsLeft : Type 0
AreTotalsLeft = (m : Module) (told : ModuleShapes) (bound : ℕ) (e : FuncId) (f : Function) (steps : ℕ) (x : Value) (last : LowState)
    → run (low_step m told bound) steps (low_begins e f) ≡ Ends (Returned x) last → AreTotalsIn (length last.memory.objects) (low_outcome_at (Returned x) last)
