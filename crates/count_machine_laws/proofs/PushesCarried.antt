-- Values that are carried from a frame into another one, or into itself: the values' leaves.
use Rattle.std.proofs.Common.{◌≡◌, ◌++◌, List, [], ◌∷◌, Some, Option, length, map, refl, sym, ap, ◌∙◌, subst, arith}
use Rattle.std.specs.Prelude.{drop, set}
use Rattle.count_machine_model.specs.holder_model.Data.{Datum, ValueOf}
use Rattle.count_machine_model.specs.holder_model.LoweredRun.LowFrames.{LowFrame}
use Rattle.count_machine_model.specs.MachineSteps.Calling as machine
use Rattle.count_machine_model.specs.declared.machine_steps.frame.Frame.{Frame}
use Rattle.count_machine_model.specs.MachineSteps.Operands.{contents, put}
use Rattle.count_machine_model.specs.MachineSteps.Views.{MachineView}
use Rattle.numbered_form.specs.Lists.{Each}
use Rattle.count_machine_model.specs.declared.ready_code.local.Carry.{Carry}
use Rattle.count_machine_model.specs.ReadyCode.Layout.{carry, local, value_carried, values_carried}
use Rattle.count_machine_model.specs.holder_model.RunTyping.CallForms.{IsOf}
use Rattle.count_machine_model.specs.holder_model.RunTyping.Forms.{Form, OfFunction, OfNothing, OfPlace, OfValue, form_of, forms_of}
use Rattle.holder_model_values.specs.RunValues.Memory.{Memory}
use Rattle.holder_model_values.specs.declared.run_values.leaf.Leaf.{Leaf}
use Rattle.sil_ast.specs.declared.function.Function.{Function}
use Rattle.sil_ast.specs.declared.module.Module.{Module}
use Rattle.sil_ast.specs.declared.place.ValueId.{ValueId}
use Rattle.sil_types_declarations.specs.TypeDefinitions.Declarations.{Declarations, declarations_of}
use Rattle.count_machine_laws.proofs.Agreement.{ends_of}
use Rattle.count_machine_laws.proofs.Entries.{Ends, FrameAgrees}
use Rattle.count_machine_laws.proofs.GrowsTasks.{AtMost, KeepsBelow, keeps_itself, keeps_then}
use Rattle.count_machine_laws.proofs.Operands.{AllRead, IsRead, more, none, read_value}
use Rattle.count_machine_laws.proofs.Puts.{put_agrees, put_ends, put_keeps}
use Rattle.count_machine_laws.proofs.Slots.{Made}

-- a frame goes on to another state of the machine, where nothing below it changed and the stacks end as before
pub record Reached (m : Module) (made : List Made) (mem : Memory) (g : Function) (to : Frame) (below above : Ends) (st : MachineView) (st' : MachineView) (lf' : LowFrame) : Type 0 where
  pub frame : FrameAgrees m made mem st' g lf' to below above
  pub keeps : KeepsBelow below st st'
  pub ends : ends_of st' ≡ ends_of st
  pub slots : st'.slots ≡ st.slots

module _ {m : Module} {made : List Made} {mem : Memory} {g : Function} {to : Frame} {below above : Ends} where
  pub reached_then : {st st' st'' : MachineView} {lf' lf'' : LowFrame} → Reached m made mem g to below above st st' lf' → Reached m made mem g to below above st' st'' lf''
      → Reached m made mem g to below above st st'' lf''
  reached_then first then = record {
    frame = then.frame;
    keeps = keeps_then first.keeps then.keeps;
    ends = then.ends ∙ first.ends;
    slots = then.slots ∙ first.slots;
  }

  pub reached_itself : {st : MachineView} {lf : LowFrame} → FrameAgrees m made mem st g lf to below above → Reached m made mem g to below above st st lf
  reached_itself {st = st} frame = record { frame = frame; keeps = keeps_itself below st; ends = refl; slots = refl }

-- in the run: of data that are put those that are values

abbrev pub value_put : Form → ValueId → Datum → List (Option Datum) → List (Option Datum)
value_put (OfValue s) w x values = set values w.0 (Some x)
value_put (OfPlace s) w x values = values
value_put (OfFunction h) w x values = values
value_put OfNothing w x values = values

abbrev pub values_put : Declarations → Function → List ValueId → List Datum → List (Option Datum) → List (Option Datum)
values_put d g [] xs values = values
values_put d g (w ∷ ws) [] values = values
values_put d g (w ∷ ws) (x ∷ xs) values = values_put d g ws xs (value_put (form_of d g w) w x values)

abbrev pub head_form : Form → List Form → Form
head_form other [] = other
head_form other (form ∷ forms) = form

-- from the frame of f, as it was in a state, to the frame of g
module _ (m : Module) (made : List Made) (mem : Memory) (f g : Function) (mf to : Frame) (below above : Ends) (old : MachineView) where
  abbrev read_in : Carry → List Leaf
  read_in c = contents old mf c.from

  abbrev puts : MachineView → List Carry → MachineView
  puts st cs = machine.put_all st to cs (map read_in cs)

  -- the others that are carried behind one
  abbrev Goes : List Carry → List ValueId → List Datum → Type 0
  Goes cs ws xs = (st : MachineView) (lf : LowFrame) → FrameAgrees m made mem st g lf to below above → AtMost above (ends_of st)
      → Reached m made mem g to below above st (puts st cs) (record lf { values = values_put (declarations_of m) g ws xs lf.values })

  carry_one : (st : MachineView) (lf : LowFrame) → FrameAgrees m made mem st g lf to below above → AtMost above (ends_of st)
      → (v w : ValueId) (x : Datum) → IsOf g w → IsRead m made mem old f mf v x → (cs : List Carry) (ws : List ValueId) (xs : List Datum) → Goes cs ws xs
      → (form : Form) → form_of (declarations_of m) f v ≡ form → form_of (declarations_of m) g w ≡ form
      → Reached m made mem g to below above st (puts st (value_carried (declarations_of m) f g form (carry (declarations_of m) f g v w) ++ cs))
      (record lf { values = values_put (declarations_of m) g ws xs (value_put form w x lf.values) })
  carry_one st lf frame reach v w x is_of read cs ws xs goes (OfValue s) e e' =
      let is = read_value read s e in
      let ls = contents old mf (local (declarations_of m) f v) in
      let now = put st to (local (declarations_of m) g w) ls in
      let values = set lf.values w.0 (Some (ValueOf is.0)) in
      let ends : ends_of now ≡ ends_of st = put_ends frame reach w is_of s is.0 ls e' is.2 is.3 in
      let one : Reached m made mem g to below above st now (record lf { values = values }) = record {
        frame = put_agrees frame reach w is_of s is.0 ls e' is.2 is.3;
        keeps = put_keeps frame reach w is_of s is.0 ls e' is.2 is.3;
        ends = ends;
        slots = refl;
      } in
      let all = reached_then one (goes now (record lf { values = values }) one.frame (subst (AtMost above) (sym ends) reach)) in
      subst (λ z. Reached m made mem g to below above st (puts now cs) (record lf { values = values_put (declarations_of m) g ws xs (set lf.values w.0 (Some z)) })) (sym is.1) all
  carry_one st lf frame reach v w x is_of read cs ws xs goes (OfPlace s) e e' = goes st lf frame reach
  carry_one st lf frame reach v w x is_of read cs ws xs goes (OfFunction h) e e' = goes st lf frame reach
  carry_one st lf frame reach v w x is_of read cs ws xs goes OfNothing e e' = goes st lf frame reach

  pub carry_values : {vs : List ValueId} {xs : List Datum} → AllRead m made mem old f mf vs xs → (ws : List ValueId) → Each (IsOf g) ws
      → forms_of (declarations_of m) f vs ≡ forms_of (declarations_of m) g ws → Goes (values_carried (declarations_of m) f g vs ws) ws xs
  carry_values none [] are_of same = λ st lf frame reach. reached_itself frame
  carry_values none (w ∷ ws) are_of same = absurd (omega (arith, ap length same))
  carry_values (more v x vs xs read reads) [] are_of same = absurd (omega (arith, ap length same))
  carry_values (more v x vs xs read reads) (w ∷ ws) are_of same = λ st lf frame reach.
      let d = declarations_of m in
      let form : form_of d f v ≡ form_of d g w = ap (head_form (form_of d g w)) same in
      let others = carry_values reads ws are_of.1 (ap (drop 1) same) in
      subst (λ φ. Reached m made mem g to below above st (puts st (value_carried d f g φ (carry d f g v w) ++ values_carried d f g vs ws))
      (record lf { values = values_put d g ws xs (value_put (form_of d g w) w x lf.values) })) (sym form)
      (carry_one st lf frame reach v w x are_of.0 read (values_carried d f g vs ws) ws xs others (form_of d g w) form refl)
