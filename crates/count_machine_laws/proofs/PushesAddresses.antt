-- Addresses that are carried from a frame into another one, which lies behind it.
use Rattle.std.proofs.Common.{◌≡◌, ◌<◌, ◌+◌, ◌++◌, List, [], ◌∷◌, Some, Option, length, refl, sym, ap, ◌∙◌, subst, arith}
use Rattle.std.specs.Prelude.{drop, set}
use Rattle.count_machine_model.specs.holder_model.Data.{AddressOf, Datum}
use Rattle.count_machine_model.specs.holder_model.LoweredRun.LowFrames.{LowFrame}
use Rattle.count_machine_model.specs.MachineSteps.Calling as machine
use Rattle.count_machine_model.specs.declared.machine_steps.frame.Frame.{Frame}
use Rattle.count_machine_model.specs.MachineSteps.Operands.{address_in, no_address, put_address}
use Rattle.count_machine_model.specs.MachineSteps.Views.{MachineView}
use Rattle.numbered_form.specs.Lists.{Each}
use Rattle.count_machine_model.specs.declared.ready_code.local.CarryAddress.{CarryAddress}
use Rattle.count_machine_model.specs.ReadyCode.Layout.{address_carried, addresses_carried, carry_address, local_address}
use Rattle.count_machine_model.specs.holder_model.RunTyping.CallForms.{IsOf}
use Rattle.count_machine_model.specs.holder_model.RunTyping.Forms.{Form, OfFunction, OfNothing, OfPlace, OfValue, form_of, forms_of}
use Rattle.holder_model_values.specs.RunValues.Memory.{Memory}
use Rattle.holder_model_values.specs.RunValues.Shapes.{Shape}
use Rattle.sil_ast.specs.declared.function.Function.{Function}
use Rattle.sil_ast.specs.declared.module.Module.{Module}
use Rattle.sil_ast.specs.declared.place.ValueId.{ValueId}
use Rattle.sil_types_declarations.specs.TypeDefinitions.Declarations.{Declarations, declarations_of}
use Rattle.count_machine_laws.proofs.Agreement.{ends_of}
use Rattle.count_machine_laws.proofs.Entries.{Ends, FrameAgrees}
use Rattle.count_machine_laws.proofs.GrowsTasks.{AtMost, KeepsBelow, keeps_then}
use Rattle.count_machine_laws.proofs.LayoutsLists.{at_taken}
use Rattle.count_machine_laws.proofs.Memories.{NamesPlace}
use Rattle.count_machine_laws.proofs.Operands.{AllRead, IsRead, more, none, read_place}
use Rattle.count_machine_laws.proofs.PushesCarried.{Reached, head_form, reached_itself, reached_then}
use Rattle.count_machine_laws.proofs.Puts.{put_address_agrees, put_address_ends, put_address_keeps}
use Rattle.count_machine_laws.proofs.Slots.{Made}

-- in the run: of data that are put those that are addresses

abbrev pub address_put : Form → ValueId → Datum → List (Option Datum) → List (Option Datum)
address_put (OfValue s) w x values = values
address_put (OfPlace s) w x values = set values w.0 (Some x)
address_put (OfFunction h) w x values = values
address_put OfNothing w x values = values

abbrev pub addresses_put : Declarations → Function → List ValueId → List Datum → List (Option Datum) → List (Option Datum)
addresses_put d g [] xs values = values
addresses_put d g (w ∷ ws) [] values = values
addresses_put d g (w ∷ ws) (x ∷ xs) values = addresses_put d g ws xs (address_put (form_of d g w) w x values)

-- from the frame of f, as it was in a state, to the frame of g
module _ (m : Module) (made : List Made) (mem : Memory) (f g : Function) (mf to : Frame) (below above : Ends) (old : MachineView) where
  -- the addresses of f lie below the frame of g
  abbrev pub LiesBelow : Type 0
  LiesBelow = (v : ValueId) (s : Shape) → IsOf f v → form_of (declarations_of m) f v ≡ OfPlace s → mf.addresses + (local_address (declarations_of m) f v).at < below.addresses

  -- the others that are carried behind one
  abbrev Goes : List CarryAddress → List ValueId → List Datum → Type 0
  Goes cs ws xs = (st : MachineView) (lf : LowFrame) → FrameAgrees m made mem st g lf to below above → AtMost above (ends_of st) → KeepsBelow below old st → st.slots ≡ old.slots
      → Reached m made mem g to below above st (machine.addresses_carried st mf to cs) (record lf { values = addresses_put (declarations_of m) g ws xs lf.values })

  carry_one : (st : MachineView) (lf : LowFrame) → FrameAgrees m made mem st g lf to below above → AtMost above (ends_of st) → KeepsBelow below old st → st.slots ≡ old.slots → LiesBelow
      → (v w : ValueId) (x : Datum) → IsOf f v → IsOf g w → IsRead m made mem old f mf v x → (cs : List CarryAddress) (ws : List ValueId) (xs : List Datum) → Goes cs ws xs
      → (form : Form) → form_of (declarations_of m) f v ≡ form → form_of (declarations_of m) g w ≡ form
      → Reached m made mem g to below above st (machine.addresses_carried st mf to (address_carried (declarations_of m) f g form (carry_address (declarations_of m) f g v w) ++ cs))
      (record lf { values = addresses_put (declarations_of m) g ws xs (address_put form w x lf.values) })
  carry_one st lf frame reach keeps slots lies v w x is_of is_of' read cs ws xs goes (OfPlace s) e e' =
      let is = read_place read s e in
      let d = declarations_of m in
      let a = address_in st mf (local_address d f v) in
      let now = put_address st to (local_address d g w) a in
      let values = set lf.values w.0 (Some (AddressOf is.0)) in
      let ends : ends_of now ≡ ends_of st = put_address_ends frame reach w is_of' a in
      let same : a ≡ address_in old mf (local_address d f v) =
      at_taken st.addresses old.addresses below.addresses (mf.addresses + (local_address d f v).at) no_address keeps.addresses (lies v s is_of e) in
      let names : NamesPlace m made st.slots mem a is.0 =
      subst (λ b. NamesPlace m made st.slots mem b is.0) (sym same) (subst (λ ss. NamesPlace m made ss mem (address_in old mf (local_address d f v)) is.0) (sym slots) is.3) in
      let one : Reached m made mem g to below above st now (record lf { values = values }) = record {
        frame = put_address_agrees frame reach w is_of' is.0 a (e' ∙ ap OfPlace (sym is.2)) names;
        keeps = put_address_keeps frame reach w is_of' a;
        ends = ends;
        slots = refl;
      } in
      let all = reached_then one (goes now (record lf { values = values }) one.frame (subst (AtMost above) (sym ends) reach) (keeps_then keeps one.keeps) slots) in
      subst (λ z. Reached m made mem g to below above st (machine.addresses_carried now mf to cs) (record lf { values = addresses_put d g ws xs (set lf.values w.0 (Some z)) })) (sym is.1) all
  carry_one st lf frame reach keeps slots lies v w x is_of is_of' read cs ws xs goes (OfValue s) e e' = goes st lf frame reach keeps slots
  carry_one st lf frame reach keeps slots lies v w x is_of is_of' read cs ws xs goes (OfFunction h) e e' = goes st lf frame reach keeps slots
  carry_one st lf frame reach keeps slots lies v w x is_of is_of' read cs ws xs goes OfNothing e e' = goes st lf frame reach keeps slots

  pub carry_addresses : LiesBelow → {vs : List ValueId} {xs : List Datum} → AllRead m made mem old f mf vs xs → (ws : List ValueId) → Each (IsOf f) vs → Each (IsOf g) ws
      → forms_of (declarations_of m) f vs ≡ forms_of (declarations_of m) g ws → Goes (addresses_carried (declarations_of m) f g vs ws) ws xs
  carry_addresses lies none [] are_of are_of' same = λ st lf frame reach keeps slots. reached_itself frame
  carry_addresses lies none (w ∷ ws) are_of are_of' same = absurd (omega (arith, ap length same))
  carry_addresses lies (more v x vs xs read reads) [] are_of are_of' same = absurd (omega (arith, ap length same))
  carry_addresses lies (more v x vs xs read reads) (w ∷ ws) are_of are_of' same = λ st lf frame reach keeps slots.
      let d = declarations_of m in
      let form : form_of d f v ≡ form_of d g w = ap (head_form (form_of d g w)) same in
      let others = carry_addresses lies reads ws are_of.1 are_of'.1 (ap (drop 1) same) in
      subst (λ φ. Reached m made mem g to below above st (machine.addresses_carried st mf to (address_carried d f g φ (carry_address d f g v w) ++ addresses_carried d f g vs ws))
      (record lf { values = addresses_put d g ws xs (address_put (form_of d g w) w x lf.values) })) (sym form)
      (carry_one st lf frame reach keeps slots lies v w x are_of.0 are_of'.0 read (addresses_carried d f g vs ws) ws xs others (form_of d g w) form refl)
