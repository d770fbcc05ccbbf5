-- Jumps and branches.
use Rattle.std.proofs.Common.{◌≡◌, ◌++◌, ◌∙◌, ℕ, ℤ, List, [], ◌∷◌, Bool, true, false, Some, cond, length, map, refl, sym, ap, subst, append-nil}
use Rattle.std.specs.Prelude.{Ok, slice_get}
use Rattle.std.proofs.lemmas.List.{length-map}
use Rattle.std.proofs.lemmas.Option.{same_Some}
use Rattle.count_machine_model.specs.holder_model.Builtins.{is_set}
use Rattle.count_machine_model.specs.holder_model.Data.{Datum, ValueOf}
use Rattle.count_machine_model.specs.holder_model.Edges.{branch_of, carried_by, edge_of}
use Rattle.count_machine_model.specs.holder_model.ModuleShapes.{shapes_of}
use Rattle.count_machine_model.specs.holder_model.States as low
use Rattle.instruction_table.specs.Forms.{ending_of}
use Rattle.instruction_table.specs.declared.entries.Ending.TheVariants as ending
use Rattle.sil_cfg_items.specs.Items.{taken_in}
use Rattle.sil_cfg_items.specs.Parts.{terminator_of}
use Rattle.sil_cfg_items.specs.Roles.{taken_by}
use Rattle.count_machine_model.specs.holder_model.LoweredRun.LowFrames.{LowFrame, read_all}
use Rattle.count_machine_model.specs.holder_model.LoweredRun.LowStepParts.{LowNext, LowState, on_ok, taken_value, values_taken}
use Rattle.count_machine_model.specs.holder_model.LoweredRun.LowSteps as run
use Rattle.count_machine_model.specs.declared.machine_steps.frame.Frame.{Frame}
use Rattle.count_machine_model.specs.declared.machine_steps.frame.Task.{Task}
use Rattle.count_machine_model.specs.MachineSteps.Ends as machine
use Rattle.count_machine_model.specs.MachineSteps.Operands.{contents, int_among, with_all}
use Rattle.count_machine_model.specs.MachineSteps.Views.{MachineView, Went}
use Rattle.numbered_form.specs.Lists.{Each}
use Rattle.count_machine_model.specs.declared.ready_code.block.ReadyEnd.TheVariants as end
use Rattle.count_machine_model.specs.declared.ready_code.function.ReadyModule.{ReadyModule}
use Rattle.count_machine_model.specs.ReadyCode.Layout.{local}
use Rattle.count_machine_model.specs.ReadyCode.ReadyEnds.{ready_edge}
use Rattle.count_machine_model.specs.ReadyCode.ReadyOps.{operands_of}
use Rattle.count_machine_model.specs.holder_model.RunTyping.CallForms.{IsOf}
use Rattle.count_machine_model.specs.holder_model.RunTyping.EndForms.{EdgeForms, EndForms, branch, branches, cases, handed_over, operand_forms, returns, unreachable, value_in}
use Rattle.count_machine_model.specs.holder_model.RunTyping.Forms.{OfValue, form_of}
use Rattle.count_machine_model.specs.holder_model.RunTyping.RowForms.{bit}
use Rattle.count_machine_model.specs.holder_model.RunTyping.RunTyped.{RunTyped}
use Rattle.holder_model_values.specs.RunValues.Leaves.{leaves_of}
use Rattle.holder_model_values.specs.RunValues.Shapes.{Shape}
use Rattle.holder_model_values.specs.RunValues.Values.{Value}
use Rattle.sil_ast.specs.declared.function.Function.{Function}
use Rattle.sil_ast.specs.declared.inst.Edge.{Edge}
use Rattle.sil_ast.specs.declared.inst.Inst.{Inst}
use Rattle.sil_ast.specs.declared.module.Module.{Module}
use Rattle.sil_ast.specs.declared.place.ValueId.{ValueId}
use Rattle.sil_cfg.specs.declared.item.Item.TheVariants as item
use Rattle.sil_types_declarations.specs.TypeDefinitions.Declarations.{Declarations, declarations_of}
use Rattle.holder_model_values.specs.ValueParts.inner.Suits.{suits}
use Rattle.holder_model_values.proofs.ValueParts.Plain.{integer_leaf, suits_integer}
use Rattle.count_machine_laws.proofs.Edging.{EdgeThere, edge_alike}
use Rattle.count_machine_laws.proofs.Ending.{Alike, alike_by}
use Rattle.count_machine_laws.proofs.Entries.{Ends}
use Rattle.count_machine_laws.proofs.FrameGoes.{read_behind}
use Rattle.count_machine_laws.proofs.FrameSteps.{Running, reads_known}
use Rattle.count_machine_laws.proofs.Objects.{is_of_class}
use Rattle.count_machine_laws.proofs.Operands.{AllRead, more, none, read_value}
use Rattle.count_machine_laws.proofs.Slots.{Made}
use Rattle.count_machine_laws.proofs.Tasks.{Beginning}

-- a frame that stands at a terminator
pub record StandsAtEnd (m : Module) (f : Function) (lf : LowFrame) (i : Inst) : Type 0 where
  pub terminator : terminator_of f lf.at.block.0 ≡ Some i
  pub forms : EndForms (declarations_of m) f i
  pub takes : map taken_value (taken_by i) ≡ map value_in i.operands

-- what typing says of a terminator with an ending

jump_forms : (d : Declarations) (f : Function) (i : Inst) (e : Edge) → ending_of i.op ≡ ending.OneBranch → slice_get i.edges 0 ≡ Some e → EndForms d f i
    → (i.operands ≡ []) × EdgeForms d f e
jump_forms d f i e is edge (branch e' is' bare edge' forms) = (bare, subst (EdgeForms d f) (same_Some e' e (sym edge' ∙ edge)) forms)
jump_forms d f i e is edge (branches set clear is' operands set_is clear_is set_forms clear_forms) = absurd (cc)
jump_forms d f i e is edge (cases s is' operands shape all) = absurd (cc)
jump_forms d f i e is edge (returns is' operands) = absurd (cc)
jump_forms d f i e is edge (unreachable is') = absurd (cc)

branch_forms : (d : Declarations) (f : Function) (i : Inst) (set clear : Edge) → ending_of i.op ≡ ending.TwoBranches → slice_get i.edges 0 ≡ Some set
    → slice_get i.edges 1 ≡ Some clear → EndForms d f i → (operand_forms d f i ≡ OfValue bit ∷ []) × EdgeForms d f set × EdgeForms d f clear
branch_forms d f i set clear is set_is clear_is (branch e is' bare edge forms) = absurd (cc)
branch_forms d f i set clear is set_is clear_is (branches set' clear' is' operands set_is' clear_is' set_forms clear_forms) =
    (operands, subst (EdgeForms d f) (same_Some set' set (sym set_is' ∙ set_is)) set_forms, subst (EdgeForms d f) (same_Some clear' clear (sym clear_is' ∙ clear_is)) clear_forms)
branch_forms d f i set clear is set_is clear_is (cases s is' operands shape all) = absurd (cc)
branch_forms d f i set clear is set_is clear_is (returns is' operands) = absurd (cc)
branch_forms d f i set clear is set_is clear_is (unreachable is') = absurd (cc)

module _ (m : Module) (ready : ReadyModule) (entry : Beginning) (bound : ℕ) (typed : RunTyped m) (made : List Made) (s : LowState) (st : MachineView) (f : Function) (lf : LowFrame)
    (mf : Frame) (below : Ends) (rest : List (low.Task LowFrame)) (rest' : List Task) (running : Running m entry made s st f lf mf below rest rest')
    (i : Inst) (stands : StandsAtEnd m f lf i) where
  abbrev edge_there : (k : ℕ) (e : Edge) → slice_get i.edges k ≡ Some e → EdgeThere m f lf i k e
  edge_there k e edge = record { terminator = stands.terminator; edge = edge; takes = stands.takes }

  pub exit_takes : values_taken f (item.Exit lf.at) ≡ map value_in i.operands
  exit_takes = ap (λ t. map taken_value (taken_in t ++ [])) stands.terminator ∙ ap (map taken_value) (append-nil (taken_by i)) ∙ stands.takes

  pub operands_are_of : Each (IsOf f) (operands_of i)
  operands_are_of = subst (Each (IsOf f)) exit_takes ((typed.functions lf.function.0 f running.frame.there).items (item.Exit lf.at)).taken

  pub jump_alike : (e : Edge) → ending_of i.op ≡ ending.OneBranch → slice_get i.edges 0 ≡ Some e
      → Alike m entry (run.ends_block_by m (shapes_of m) bound (ending_of i.op) s rest lf f i) (machine.ends_with ready bound st mf rest' (end.Jump (ready_edge (declarations_of m) f e)))
  jump_alike e is edge =
      let forms = jump_forms (declarations_of m) f i e is edge stands.forms in
      alike_by (ap (λ x. run.ends_block_by m (shapes_of m) bound x s rest lf f i) is) refl
      (edge_alike m ready entry bound typed made s st f lf mf below rest rest' running i 0 e (edge_there 0 e edge) forms.1 (λ xs. ap (λ x. carried_by x f (edge_of lf.at 0) e xs) is) []
      (ap length (sym forms.0)) (λ go. ap (λ os. on_ok s go (read_all lf.values (map value_in os ++ handed_over e))) forms.0))

  -- the operand of the terminator, of a shape, and what it is
  pub record OperandRead (v : ValueId) (shape : Shape) : Type 0 where
    pub value : Value
    pub fits : suits (is_of_class m s.memory) shape value ≡ true
    pub leaves : contents st mf (local (declarations_of m) f v) ≡ leaves_of shape value
    pub known : read_all lf.values (v ∷ []) ≡ Ok (ValueOf value ∷ [])

  -- one operand, of a shape, is read
  pub operand_alike : (v : ValueId) (shape : Shape) → operands_of i ≡ v ∷ [] → form_of (declarations_of m) f v ≡ OfValue shape → (go : List Datum → LowNext) (w : Went)
      → ((read : OperandRead v shape) → Alike m entry (go (ValueOf read.value ∷ [])) w)
      → Alike m entry (on_ok s go (read_all lf.values (operands_of i))) (with_all st mf (v ∷ []) w)
  operand_alike v shape operands form go w then =
      alike_by (ap (λ vs. on_ok s go (read_all lf.values vs)) operands) refl
      (reads_known running.parts running.frame (v ∷ []) (subst (Each (IsOf f)) operands operands_are_of) go w at)
    where
      at : (xs : List Datum) → AllRead m made s.memory st f mf (v ∷ []) xs → read_all lf.values (v ∷ []) ≡ Ok xs → Alike m entry (go xs) w
      at _ (more _ x _ _ is none) known =
          let value = read_value is shape form in
          alike_by (ap (λ y. go (y ∷ [])) value.1) refl
          (then (record { value = value.0; fits = value.2; leaves = value.3; known = known ∙ ap (λ y. Ok (y ∷ [])) value.1 }))

  pub branch_alike : (v : ValueId) (set clear : Edge) → ending_of i.op ≡ ending.TwoBranches → operands_of i ≡ v ∷ [] → slice_get i.edges 0 ≡ Some set → slice_get i.edges 1 ≡ Some clear
      → Alike m entry (run.ends_block_by m (shapes_of m) bound (ending_of i.op) s rest lf f i)
      (machine.ends_with ready bound st mf rest' (end.Branch (local (declarations_of m) f v) (ready_edge (declarations_of m) f set) (ready_edge (declarations_of m) f clear)))
  branch_alike v set clear is operands set_is clear_is =
      alike_by (ap (λ x. run.ends_block_by m (shapes_of m) bound x s rest lf f i) is) refl (operand_alike v bit operands form chosen (cond (is_set here) (to set) (to clear)) by)
    where
      forms : (operand_forms (declarations_of m) f i ≡ OfValue bit ∷ []) × EdgeForms (declarations_of m) f set × EdgeForms (declarations_of m) f clear
      forms = branch_forms (declarations_of m) f i set clear is set_is clear_is stands.forms

      form : form_of (declarations_of m) f v ≡ OfValue bit
      form = same_Some (form_of (declarations_of m) f v) (OfValue bit) (ap (λ vs. slice_get (map (form_of (declarations_of m) f) vs) 0) (sym operands) ∙ ap (λ fs. slice_get fs 0) forms.0)

      here : ℤ
      here = int_among (contents st mf (local (declarations_of m) f v))

      to : Edge → Went
      to e = machine.takes_edge ready bound st mf rest' (ready_edge (declarations_of m) f e)

      goes_along : ℕ → LowNext
      goes_along k = run.takes_edge m (shapes_of m) bound s rest lf f (edge_of lf.at k)

      chosen : List Datum → LowNext
      chosen = run.chosen_edge m (shapes_of m) bound s branch_of goes_along

      along : (k : ℕ) (e : Edge) → slice_get i.edges k ≡ Some e → EdgeForms (declarations_of m) f e → (x : Datum) → read_all lf.values (v ∷ []) ≡ Ok (x ∷ [])
          → Alike m entry (goes_along k) (to e)
      along k e edge edge_forms x known =
          edge_alike m ready entry bound typed made s st f lf mf below rest rest' running i k e (edge_there k e edge) edge_forms (λ xs. ap (λ y. carried_by y f (edge_of lf.at k) e xs) is)
          (x ∷ []) (sym (ap length operands) ∙ length-map i.operands value_in)
          (λ go. ap (λ vs. on_ok s go (read_all lf.values (vs ++ handed_over e))) operands ∙ read_behind s go lf.values v x (handed_over e) known)

      by : (read : OperandRead v bit) → Alike m entry (chosen (ValueOf read.value ∷ [])) (cond (is_set here) (to set) (to clear))
      by read =
          let integer = suits_integer (is_of_class m s.memory) 1 read.value read.fits in
          let is_here : here ≡ integer.0 = ap int_among (read.leaves ∙ ap (leaves_of bit) integer.1 ∙ integer_leaf 1 integer.0) in
          alike_by (ap (λ x. chosen (ValueOf x ∷ [])) integer.1) (ap (λ n. cond (is_set n) (to set) (to clear)) is_here)
          (at (ValueOf read.value) read.known (is_set integer.0))
        where
          at : (x : Datum) → read_all lf.values (v ∷ []) ≡ Ok (x ∷ []) → (b : Bool) → Alike m entry (goes_along (cond b 0 1)) (cond b (to set) (to clear))
          at x known true = along 0 set set_is forms.1 x known
          at x known false = along 1 clear clear_is forms.2 x known
