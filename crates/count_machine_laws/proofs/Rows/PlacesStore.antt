-- A value is stored in a place without storage.
use Rattle.std.proofs.Common.{◌≡◌, ◌∙◌, List, [], ◌∷◌, Bool, true, false, Option, None, Some, cond, refl, sym, ap, subst, map, not}
use Rattle.std.proofs.lemmas.Bool.{false≢true}
use Rattle.std.specs.Prelude.{is_some, replicate, ◌||◌}
use Rattle.count_machine_model.specs.holder_model.Data.{ValueOf}
use Rattle.count_machine_model.specs.holder_model.Effects.{Effect, Faults, Makes, effect_of, unchanged, with_some}
use Rattle.count_machine_model.specs.holder_model.ModuleShapes.{shapes_of}
use Rattle.count_machine_model.specs.holder_model.Outcomes.{Numbers}
use Rattle.count_machine_model.specs.holder_model.declared.row_effect.RowEffect.TheVariants as row
use Rattle.sil_cfg_items.specs.Parts.{inst_at}
use Rattle.count_machine_model.specs.holder_model.LoweredRun.LowEffects as low_effects
use Rattle.count_machine_model.specs.holder_model.LoweredRun.LowStepParts.{LowNext}
use Rattle.count_machine_model.specs.holder_model.LoweredRun.Stored.{named, unnamed}
use Rattle.count_machine_model.specs.holder_model.declared.lowered_run.low_fault.LowFault.TheVariants as fault
use Rattle.count_machine_model.specs.holder_model.declared.lowered_run.low_fault.LowFault.{LowFault}
use Rattle.count_machine_model.specs.MachineSteps.Held.{Held, held_at, write_at}
use Rattle.count_machine_model.specs.MachineSteps.Operands.{address_in, faults, go_on}
use Rattle.count_machine_model.specs.MachineSteps.Places as machine
use Rattle.count_machine_model.specs.MachineSteps.Views.{Went}
use Rattle.count_machine_model.specs.declared.machine_steps.address.Address.{Address}
use Rattle.count_machine_model.specs.memory_rules_accesses.declared.access.Operation.{Operation}
use Rattle.count_machine_model.specs.ReadyCode.Layout.{leaves_in, local, local_address, size_of}
use Rattle.count_machine_model.specs.ReadyCode.ReadyOps.{operands_of}
use Rattle.count_machine_model.specs.declared.ready_code.op.ReadyOp.TheVariants as op
use Rattle.count_machine_model.specs.holder_model.RunTyping.Forms.{OfPlace, OfValue, form_of, has_no_storage}
use Rattle.holder_model_values.specs.RunValues.Cells as cells
use Rattle.holder_model_values.specs.RunValues.Cells.{Cell, cell_count, in_cells}
use Rattle.holder_model_values.specs.RunValues.Leaves.{leaves_of}
use Rattle.holder_model_values.specs.RunValues.Places.{Place, cells_at, filled, value_at}
use Rattle.holder_model_values.specs.RunValues.Shapes.{Shape, storage_in}
use Rattle.holder_model_values.specs.RunValues.Values.{Value, references_of}
use Rattle.sil_ast.specs.declared.decl.Storage.{Storage}
use Rattle.sil_ast.specs.declared.module.Module.{Module}
use Rattle.sil_ast.specs.declared.place.ValueId.{ValueId}
use Rattle.holder_model_values.specs.ValueParts.inner.Suits.{suits}
use Rattle.count_machine_laws.proofs.Ending.{Alike, alike_by}
use Rattle.count_machine_laws.proofs.FrameSteps.{StandsAt}
use Rattle.count_machine_laws.proofs.Held.{HeldIs, IsReachable, held_agrees}
use Rattle.count_machine_laws.proofs.LastStrongs.{SameStrongs, named_same, unnamed_same}
use Rattle.count_machine_laws.proofs.Memories.{NamesPlace}
use Rattle.count_machine_laws.proofs.Named.{empty_unnamed, plain_named, plain_unnamed}
use Rattle.count_machine_laws.proofs.Objects.{is_of_class}
use Rattle.count_machine_laws.proofs.Operands.{read_place, read_value}
use Rattle.count_machine_laws.proofs.Rows.Effects.{RowAlike, Runs, d, does_at, forms_by, performed, row_by, values}
use Rattle.count_machine_laws.proofs.Rows.Gives.{faults_alike, no_values, two_read}
use Rattle.count_machine_laws.proofs.Rows.Places.{AccessAlike, access, access_alike}
use Rattle.count_machine_laws.proofs.Rows.PlacesChanged.{address_part, changed_alike}
use Rattle.count_machine_laws.proofs.Rows.PlacesForms.{plain_store}
use Rattle.count_machine_laws.proofs.Tasks.{Beginning}
use Rattle.count_machine_laws.proofs.Writing.{write_agrees}

module _ {m : Module} {entry : Beginning} (r : Runs m entry) where
  abbrev pub written : Place → Value → Effect LowFault
  written p x = Makes (unchanged (filled r.s.memory p x))

  -- what the run does by its operation, and at a place by the storage that it is
  abbrev pub does_store : Value → Place → Option Operation → LowNext
  does_store x p o = performed r
      (record r.s { numbers = low_effects.value_stored (d r) (shapes_of m) (values r) r.s.memory r.i o (Some x) (Some p) r.s.numbers })
      (with_some (λ y. low_effects.stores_by (d r) (shapes_of m) (values r) r.s.memory r.i y x p) o)

  abbrev stores_where : Value → Place → Option Storage → Effect LowFault
  stores_where x p w = access r p (cond (is_some w) (references_of x) []) (cond (is_some w) true p.is_part) (written p x)

  module _ (there : inst_at r.f r.lf.at ≡ Some r.i) (results : r.i.results ≡ []) (a : Address) (p : Place) (names : NamesPlace m r.made r.st.slots r.s.memory a p)
      (bare : has_no_storage p.shape ≡ true) (x : Value) (fits : suits (is_of_class m r.s.memory) p.shape x ≡ true) where
    abbrev numbers_behind : List Numbers
    numbers_behind = named ((in_cells p.shape).cells x) (unnamed (cells_at r.s.memory p) r.s.numbers)

    abbrev goes_on : Went
    goes_on = go_on (write_at r.st a (leaves_of p.shape x)) r.mf r.rest'

    behind_same : SameStrongs numbers_behind r.s.numbers
    behind_same o = named_same ((in_cells p.shape).cells x) (unnamed (cells_at r.s.memory p) r.s.numbers) o ∙ unnamed_same (cells_at r.s.memory p) r.s.numbers o

    -- no object is named
    same_numbers : (cs : List Cell) → cells_at r.s.memory p ≡ cs → unnamed cs r.s.numbers ≡ r.s.numbers → numbers_behind ≡ r.s.numbers
    same_numbers cs has none =
        ap (λ c. named ((in_cells p.shape).cells x) (unnamed c r.s.numbers)) has ∙ ap (named ((in_cells p.shape).cells x)) none ∙ plain_named p.shape x r.s.numbers bare

    write : IsReachable r.s.memory p → (p.is_part ≡ true → is_some (value_at r.s.memory p) ≡ true) → numbers_behind ≡ r.s.numbers
        → Alike m entry (performed r (record r.s { numbers = numbers_behind }) (written p x)) goes_on
    write reach full same =
        alike_by (ap (λ ns. performed r (record r.s { numbers = ns }) (written p x)) same) refl
        (changed_alike r (write_agrees m r.typed r.running.parts.memory a p x names reach full fits) there results)

    -- a part isn't written in an empty place
    in_empty : (b : Bool) → p.is_part ≡ b → IsReachable r.s.memory p → cells_at r.s.memory p ≡ replicate (cell_count p.shape) cells.Empty
        → Alike m entry (performed r (record r.s { numbers = numbers_behind }) (cond (not b || false) (written p x) (Faults fault.Empty))) (cond b (faults fault.Empty r.st) goes_on)
    in_empty true part reach has = faults_alike r numbers_behind behind_same fault.Empty
    in_empty false whole reach has =
        write reach (λ part. absurd (false≢true (sym whole ∙ part))) (same_numbers (replicate (cell_count p.shape) cells.Empty) has (empty_unnamed (cell_count p.shape) r.s.numbers))

    pub store : (h : Held) → HeldIs m r.s.memory p h → AccessAlike r p [] p.is_part (written p x) numbers_behind (machine.stores r.st r.mf r.rest' a (leaves_of p.shape x) h)
    store = access_alike r p [] p.is_part (written p x) numbers_behind behind_same refl (machine.stores r.st r.mf r.rest' a (leaves_of p.shape x)) refl (λ o. refl)
        (λ reach has. alike_by refl (ap (λ b. cond b (faults fault.Empty r.st) goes_on) (address_part names)) (in_empty p.is_part refl reach has))
        (λ y ls reach has at suit leaves. write reach (λ part. ap is_some at) (same_numbers ((in_cells p.shape).cells y) has (plain_unnamed p.shape y r.s.numbers bare)))

  pub stores_alike : (v w : ValueId) (s : Shape) → effect_of r.i.op ≡ row.StoresValue → operands_of r.i ≡ v ∷ w ∷ [] → form_of (d r) r.f w ≡ OfPlace s → storage_in s ≡ None
      → StandsAt m r.f r.lf r.i (op.Store (local (d r) r.f v) (local_address (d r) r.f w)) → RowAlike r (op.Store (local (d r) r.f v) (local_address (d r) r.f w))
  stores_alike v w s is operands form none stands =
      let forms = plain_store m r.i (form_of (d r) r.f v) s (forms_by r stands row.StoresValue is)
      (ap (map (form_of (d r) r.f)) operands ∙ ap (λ y. form_of (d r) r.f v ∷ y ∷ []) form) none in
      let results = sym (no_values (form_of (d r) r.f) r.i.results forms.none) in
      let a = address_in r.st r.mf (local_address (d r) r.f w) in
      row_by r stands row.StoresValue is (sym operands)
      (λ xs all.
      let two = two_read v w xs operands all in
      let place = read_place two.4 s form in
      let p = place.0 in
      let from = forms.value ∙ ap OfValue (sym place.2) in
      let value = read_value two.3 p.shape from in
      let x = value.0 in
      let bare = subst (λ t. has_no_storage t ≡ true) (sym place.2) forms.bare in
      alike_by
      (ap (does_at r row.StoresValue) (two.2 ∙ ap (λ y. y ∷ two.1 ∷ []) value.1 ∙ ap (λ y. ValueOf x ∷ y ∷ []) place.1)
      ∙ ap (does_store x p) forms.operation
      ∙ ap (λ u. performed r (record r.s { numbers = named ((in_cells p.shape).cells x) (unnamed (cells_at r.s.memory p) r.s.numbers) }) (stores_where x p u))
      (ap storage_in place.2 ∙ none))
      (ap (λ ls. machine.stores r.st r.mf r.rest' a ls (held_at r.st a (local (d r) r.f v).size)) value.3
      ∙ ap (λ n. machine.stores r.st r.mf r.rest' a (leaves_of p.shape x) (held_at r.st a n)) (ap leaves_in from))
      (store stands.inst results a p place.3 bare x value.2 (held_at r.st a (size_of p.shape)) (held_agrees m r.running.parts.memory a p place.3)))
