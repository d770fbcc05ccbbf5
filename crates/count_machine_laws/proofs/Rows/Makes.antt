-- What an instruction has made: its results are put, and control goes on behind it.
use Rattle.std.proofs.Common.{◌≡◌, ◌∙◌, ℕ, List, [], ◌∷◌, Option, Some, refl, ap, true}
use Rattle.std.specs.Prelude.{Ok, set}
use Rattle.count_machine_model.specs.holder_model.Data.{AddressOf, Datum, FunctionOf, ValueOf}
use Rattle.count_machine_model.specs.holder_model.Effects.{Change, unchanged}
use Rattle.count_machine_model.specs.holder_model.ModuleShapes.{shapes_of}
use Rattle.count_machine_model.specs.holder_model.Outcomes.{Numbers}
use Rattle.count_machine_model.specs.holder_model.Standing.{point_behind}
use Rattle.count_machine_model.specs.holder_model.States as low
use Rattle.sil_cfg_items.specs.Items.{item_defined}
use Rattle.sil_cfg_items.specs.Parts.{inst_at}
use Rattle.count_machine_model.specs.holder_model.LoweredRun.LowFrames.{LowFrame, put_all}
use Rattle.count_machine_model.specs.holder_model.LoweredRun.LowStepParts.{LowNext, LowState, numbers_for, on_ok, on_some, retains_each, slots_behind}
use Rattle.count_machine_model.specs.holder_model.LoweredRun.LowSteps as run
use Rattle.count_machine_model.specs.declared.machine_steps.address.Address.{Address}
use Rattle.count_machine_model.specs.declared.machine_steps.frame.Frame.{Frame}
use Rattle.count_machine_model.specs.declared.machine_steps.frame.Task.{Task}
use Rattle.count_machine_model.specs.MachineSteps.Operands.{gives, gives_address, go_on, put_there}
use Rattle.count_machine_model.specs.MachineSteps.Views.{MachineView}
use Rattle.count_machine_model.specs.ReadyCode.Layout.{local, local_address}
use Rattle.count_machine_model.specs.holder_model.RunTyping.CallForms.{IsOf}
use Rattle.count_machine_model.specs.holder_model.RunTyping.Forms.{OfFunction, OfPlace, OfValue, form_of}
use Rattle.holder_model_values.specs.RunValues.Leaves.{leaves_of}
use Rattle.holder_model_values.specs.RunValues.Memory.{Memory}
use Rattle.holder_model_values.specs.RunValues.Places.{Place}
use Rattle.holder_model_values.specs.RunValues.Shapes.{Shape}
use Rattle.holder_model_values.specs.RunValues.Values.{Value}
use Rattle.holder_model_values.specs.declared.run_values.leaf.Leaf.{Leaf}
use Rattle.sil_ast.specs.declared.function.Function.{Function}
use Rattle.sil_ast.specs.declared.inst.Inst.{Inst}
use Rattle.sil_ast.specs.declared.module.Module.{Module}
use Rattle.sil_ast.specs.declared.place.FuncId.{FuncId}
use Rattle.sil_ast.specs.declared.place.ValueId.{ValueId}
use Rattle.sil_cfg.specs.declared.item.Item.TheVariants as item
use Rattle.sil_types_declarations.specs.TypeDefinitions.Declarations.{declarations_of}
use Rattle.holder_model_values.specs.ValueParts.inner.Suits.{suits}
use Rattle.count_machine_laws.proofs.Ending.{Alike, alike_by}
use Rattle.count_machine_laws.proofs.Entries.{Ends}
use Rattle.count_machine_laws.proofs.FrameSteps.{Running}
use Rattle.count_machine_laws.proofs.Memories.{NamesPlace}
use Rattle.count_machine_laws.proofs.Objects.{is_of_class}
use Rattle.count_machine_laws.proofs.Rows.Steps.{address_put, defined_by, function_put, goes_behind, value_put}
use Rattle.count_machine_laws.proofs.Slots.{Made}
use Rattle.count_machine_laws.proofs.Tasks.{Beginning}

module _ (m : Module) (entry : Beginning) (bound : ℕ) (f : Function) (lf : LowFrame) (mf : Frame) (below : Ends) (rest : List (low.Task LowFrame)) (rest' : List Task)
    (i : Inst) (there : inst_at f lf.at ≡ Some i) where
  -- the run behind the instruction, by the change that it leaves
  module _ (s : LowState) (c : Change) where
    abbrev frame_with : List (Option Datum) → List Place → LowFrame
    frame_with values slots = record lf { at = point_behind lf.at; values = values; slots = slots }

    abbrev state_with : List (Option Datum) → List Place → LowState → LowState
    state_with values slots s' =
        record s' { tasks = low.dropping c.dropped (low.Runs (frame_with values slots) ∷ rest); memory = c.memory; numbers = numbers_for c.memory s'.numbers }

    pub makes_with : (slots : List Place) (values : List (Option Datum))
        → slots_behind c.slots lf.slots ≡ Ok slots → put_all (item_defined f (item.Inst lf.at)) c.results lf.values ≡ Some values
        → run.goes_on m (shapes_of m) bound s rest lf f (item.Inst lf.at) c ≡ retains_each c.retained s (λ t. low.Goes (state_with values slots t))
    makes_with slots values is_slots is_values =
        ap (on_ok s (λ ps. on_some s (λ xs. retains_each c.retained s (λ t. low.Goes (state_with xs ps t))) (put_all (item_defined f (item.Inst lf.at)) c.results lf.values))) is_slots
        ∙ ap (on_some s (λ xs. retains_each c.retained s (λ t. low.Goes (state_with xs slots t)))) is_values

    makes_so : (s' : LowState) (slots : List Place) (values : List (Option Datum)) → ((go : LowState → LowNext) → retains_each c.retained s go ≡ go s')
        → slots_behind c.slots lf.slots ≡ Ok slots → put_all (item_defined f (item.Inst lf.at)) c.results lf.values ≡ Some values
        → run.goes_on m (shapes_of m) bound s rest lf f (item.Inst lf.at) c ≡ low.Goes (state_with values slots s')
    makes_so s' slots values kept is_slots is_values = makes_with slots values is_slots is_values ∙ kept (λ t. low.Goes (state_with values slots t))

    -- it has dropped nothing
    pub makes_alike : {made : List Made} {st : MachineView} (s' : LowState) (ns : List Numbers) (slots : List Place) (values : List (Option Datum))
        → ((go : LowState → LowNext) → retains_each c.retained s go ≡ go s') → c.dropped ≡ [] → numbers_for c.memory s'.numbers ≡ ns
        → slots_behind c.slots lf.slots ≡ Ok slots → put_all (item_defined f (item.Inst lf.at)) c.results lf.values ≡ Some values
        → Running m entry made (record s' { memory = c.memory; numbers = ns }) st f (record lf { values = values; slots = slots }) mf below rest rest'
        → Alike m entry (run.goes_on m (shapes_of m) bound s rest lf f (item.Inst lf.at) c) (go_on st mf rest')
    makes_alike s' ns slots values kept dropped numbers is_slots is_values running =
        alike_by
        (makes_so s' slots values kept is_slots is_values
        ∙ ap (λ os. low.Goes (record s' { tasks = low.dropping os (low.Runs (frame_with values slots) ∷ rest); memory = c.memory; numbers = numbers_for c.memory s'.numbers })) dropped
        ∙ ap (λ n. low.Goes (record s' { tasks = low.Runs (frame_with values slots) ∷ rest; memory = c.memory; numbers = n })) numbers)
        refl (goes_behind running i there)

  -- one result is put
  pub one_put : (r : ValueId) → i.results ≡ r ∷ [] → (x : Datum) (values : List (Option Datum))
      → put_all (item_defined f (item.Inst lf.at)) (x ∷ []) values ≡ Some (set values r.0 (Some x))
  one_put r results x values = ap (λ vs. put_all vs (x ∷ []) values) (defined_by f lf i there ∙ results)

  pub none_put : i.results ≡ [] → (values : List (Option Datum)) → put_all (item_defined f (item.Inst lf.at)) [] values ≡ Some values
  none_put results values = ap (λ vs. put_all vs [] values) (defined_by f lf i there ∙ results)

  -- in a memory that has changed already
  module _ {made : List Made} (s : LowState) {mem : Memory} {ns : List Numbers} {st : MachineView} (numbers : numbers_for mem s.numbers ≡ ns)
      (running : Running m entry made (record s { memory = mem; numbers = ns }) st f lf mf below rest rest') where
    pub nothing_given : i.results ≡ [] → Alike m entry (run.goes_on m (shapes_of m) bound s rest lf f (item.Inst lf.at) (unchanged mem)) (go_on st mf rest')
    nothing_given results = makes_alike s (unchanged mem) s ns lf.slots lf.values (λ go. refl) refl numbers refl (none_put results lf.values) running

    module _ (r : ValueId) (results : i.results ≡ r ∷ []) (is_of : IsOf f r) where
      pub value_given : (t : Shape) → form_of (declarations_of m) f r ≡ OfValue t → (x : Value) → suits (is_of_class m mem) t x ≡ true → (ls : List Leaf) → ls ≡ leaves_of t x
          → Alike m entry (run.goes_on m (shapes_of m) bound s rest lf f (item.Inst lf.at) (record (unchanged mem) { results = ValueOf x ∷ [] }))
          (gives st mf rest' (local (declarations_of m) f r) ls)
      value_given t form x fits ls is =
          makes_alike s (record (unchanged mem) { results = ValueOf x ∷ [] }) s ns lf.slots (set lf.values r.0 (Some (ValueOf x))) (λ go. refl) refl numbers refl
          (one_put r results (ValueOf x) lf.values) (value_put running r is_of t form x fits ls is)

      pub address_given : (p : Place) → form_of (declarations_of m) f r ≡ OfPlace p.shape → (a : Address) → NamesPlace m made st.slots mem a p
          → Alike m entry (run.goes_on m (shapes_of m) bound s rest lf f (item.Inst lf.at) (record (unchanged mem) { results = AddressOf p ∷ [] }))
          (gives_address st mf rest' (local_address (declarations_of m) f r) a)
      address_given p form a names =
          makes_alike s (record (unchanged mem) { results = AddressOf p ∷ [] }) s ns lf.slots (set lf.values r.0 (Some (AddressOf p))) (λ go. refl) refl numbers refl
          (one_put r results (AddressOf p) lf.values) (address_put running r is_of p form a names)

      pub function_given : (g : FuncId) → form_of (declarations_of m) f r ≡ OfFunction g
          → Alike m entry (run.goes_on m (shapes_of m) bound s rest lf f (item.Inst lf.at) (record (unchanged mem) { results = FunctionOf g ∷ [] }))
          (go_on (put_there st mf r) mf rest')
      function_given g form =
          makes_alike s (record (unchanged mem) { results = FunctionOf g ∷ [] }) s ns lf.slots (set lf.values r.0 (Some (FunctionOf g))) (λ go. refl) refl numbers refl
          (one_put r results (FunctionOf g) lf.values) (function_put running r is_of g form)
