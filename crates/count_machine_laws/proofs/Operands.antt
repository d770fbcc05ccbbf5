-- Operands are read by the run and by the machine alike.
use Rattle.std.proofs.Common.{◌≡◌, ◌⊎◌, inl, inr, ℕ, List, [], ◌∷◌, Bool, false, true, cond, not, Option, Some, None, refl, sym, ap, ◌∙◌, subst, arith}
use Rattle.std.specs.Prelude.{Err, Ok, find}
use Rattle.count_machine_model.specs.holder_model.Data.{AddressOf, Datum, FunctionOf, ValueOf}
use Rattle.count_machine_model.specs.holder_model.declared.lowered_run.low_fault.LowFault.TheVariants as fault
use Rattle.count_machine_model.specs.holder_model.LoweredRun.LowFrames.{LowFrame, and_others, read_all, there, value_at}
use Rattle.count_machine_model.specs.declared.machine_steps.address.Address.{Address}
use Rattle.count_machine_model.specs.declared.machine_steps.frame.Frame.{Frame}
use Rattle.count_machine_model.specs.MachineSteps.Operands.{address_in, contents, is_missing, is_there_in}
use Rattle.count_machine_model.specs.MachineSteps.Views.{MachineView}
use Rattle.numbered_form.specs.Lists.{Each}
use Rattle.count_machine_model.specs.ReadyCode.Layout.{local, local_address}
use Rattle.count_machine_model.specs.holder_model.RunTyping.CallForms.{IsOf}
use Rattle.count_machine_model.specs.holder_model.RunTyping.Forms.{Form, OfFunction, OfNothing, OfPlace, OfValue, form_of}
use Rattle.holder_model_values.specs.RunValues.Leaves.{leaves_of}
use Rattle.holder_model_values.specs.RunValues.Memory.{Memory}
use Rattle.holder_model_values.specs.RunValues.Places.{Place}
use Rattle.holder_model_values.specs.RunValues.Shapes.{Shape, Unknown}
use Rattle.holder_model_values.specs.RunValues.Values.{Value}
use Rattle.holder_model_values.specs.declared.run_values.leaf.Leaf.{Leaf}
use Rattle.sil_ast.specs.declared.function.Function.{Function}
use Rattle.sil_ast.specs.declared.module.Module.{Module}
use Rattle.sil_ast.specs.declared.place.FuncId.{FuncId}
use Rattle.sil_ast.specs.declared.place.ValueId.{ValueId}
use Rattle.sil_types_declarations.specs.TypeDefinitions.Declarations.{Declarations, declarations_of}
use Rattle.holder_model_values.specs.ValueParts.inner.Suits.{suits}
use Rattle.count_machine_laws.proofs.Entries.{Ends, EntryAgrees, FrameAgrees, absent, function, place, value}
use Rattle.count_machine_laws.proofs.Memories.{NamesPlace}
use Rattle.count_machine_laws.proofs.Objects.{is_of_class}
use Rattle.count_machine_laws.proofs.Slots.{Made}

module _ (m : Module) (made : List Made) (mem : Memory) (st : MachineView) where
  -- a value that was read, of a form
  abbrev pub IsRead : Function → Frame → ValueId → Datum → Type 0
  IsRead f mf v x = EntryAgrees m made mem st (form_of (declarations_of m) f v) (Some x) true
      (contents st mf (local (declarations_of m) f v)) (address_in st mf (local_address (declarations_of m) f v))

  pub data AllRead (f : Function) (mf : Frame) : List ValueId → List Datum → Type 0 where
    none : AllRead f mf [] []
    more : (v : ValueId) (x : Datum) (vs : List ValueId) (xs : List Datum) → IsRead f mf v x → AllRead f mf vs xs → AllRead f mf (v ∷ vs) (x ∷ xs)

  pub data OperandsRead (f : Function) (lf : LowFrame) (mf : Frame) (vs : List ValueId) : Type 0 where
    missing : (v : ValueId) → find (is_missing st mf) vs ≡ Some v → read_all lf.values vs ≡ Err (fault.Missing v) → OperandsRead f lf mf vs
    read : (xs : List Datum) → find (is_missing st mf) vs ≡ None → read_all lf.values vs ≡ Ok xs → AllRead f mf vs xs → OperandsRead f lf mf vs

  is_present : {form : Form} {x : Option Datum} {b : Bool} {ls : List Leaf} {a : Address} → EntryAgrees m made mem st form x b ls a
      → ((x ≡ None) × (b ≡ false)) ⊎ ((y : Datum) × (x ≡ Some y) × (b ≡ true))
  is_present (absent ls a) = inl (refl, refl)
  is_present (value s x ls a form fits is) = inr (ValueOf x, refl, refl)
  is_present (place p ls a form names) = inr (AddressOf p, refl, refl)
  is_present (function g ls a form) = inr (FunctionOf g, refl, refl)

  one_read : {f : Function} {lf : LowFrame} {mf : Frame} {below above : Ends} → FrameAgrees m made mem st f lf mf below above → (v : ValueId) (vs : List ValueId) → IsOf f v
      → OperandsRead f lf mf vs → OperandsRead f lf mf (v ∷ vs)
  one_read {f = f} {lf = lf} {mf = mf} agrees v vs is_of rest = by_presence (is_present (agrees.entries v is_of))
    where
      d : Declarations
      d = declarations_of m

      x : Option Datum
      x = value_at lf.values v

      b : Bool
      b = is_there_in st mf v

      by_presence : ((x ≡ None) × (b ≡ false)) ⊎ ((y : Datum) × (x ≡ Some y) × (b ≡ true)) → OperandsRead f lf mf (v ∷ vs)
      by_presence (inl lacks) = missing v (ap (λ c. cond (not c) (Some v) (find (is_missing st mf) vs)) lacks.1) (ap (λ o. and_others (there v o) (read_all lf.values vs)) lacks.0)
      by_presence (inr has) = with_rest rest
        where
          first : read_all lf.values (v ∷ vs) ≡ and_others (Ok has.0) (read_all lf.values vs)
          first = ap (λ o. and_others (there v o) (read_all lf.values vs)) has.1

          found : find (is_missing st mf) (v ∷ vs) ≡ find (is_missing st mf) vs
          found = ap (λ c. cond (not c) (Some v) (find (is_missing st mf) vs)) has.2

          entry : IsRead f mf v has.0
          entry = subst (λ c. EntryAgrees m made mem st (form_of d f v) (Some has.0) c (contents st mf (local d f v)) (address_in st mf (local_address d f v))) has.2
              (subst (λ o. EntryAgrees m made mem st (form_of d f v) o b (contents st mf (local d f v)) (address_in st mf (local_address d f v))) has.1 (agrees.entries v is_of))

          with_rest : OperandsRead f lf mf vs → OperandsRead f lf mf (v ∷ vs)
          with_rest (missing w is fault) = missing w (found ∙ is) (first ∙ ap (and_others (Ok has.0)) fault)
          with_rest (read xs is all entries) = read (has.0 ∷ xs) (found ∙ is) (first ∙ ap (and_others (Ok has.0)) all) (more v has.0 vs xs entry entries)

  pub operands_read : {f : Function} {lf : LowFrame} {mf : Frame} {below above : Ends} → FrameAgrees m made mem st f lf mf below above → (vs : List ValueId) → Each (IsOf f) vs
      → OperandsRead f lf mf vs
  operands_read agrees [] are_of = read [] refl refl none
  operands_read agrees (v ∷ vs) are_of = one_read agrees v vs are_of.0 (operands_read agrees vs are_of.1)

-- what was read is what its form says

abbrev pub kind_of : Form → ℕ
kind_of (OfValue s) = 0
kind_of (OfPlace s) = 1
kind_of (OfFunction g) = 2
kind_of OfNothing = 3

abbrev shape_in : Form → Shape
shape_in (OfValue s) = s
shape_in (OfPlace s) = s
shape_in (OfFunction g) = Unknown
shape_in OfNothing = Unknown

abbrev function_in : FuncId → Form → FuncId
function_in other (OfValue s) = other
function_in other (OfPlace s) = other
function_in other (OfFunction g) = g
function_in other OfNothing = other

module _ (m : Module) (made : List Made) (mem : Memory) (st : MachineView) where
  abbrev ValueRead : Shape → Datum → List Leaf → Type 0
  ValueRead s x ls = (v : Value) × (x ≡ ValueOf v) × (suits (is_of_class m mem) s v ≡ true) × (ls ≡ leaves_of s v)

pub read_value : {m : Module} {made : List Made} {mem : Memory} {st : MachineView} {form : Form} {x : Datum} {ls : List Leaf} {a : Address}
    → EntryAgrees m made mem st form (Some x) true ls a → (s : Shape) → form ≡ OfValue s
    → (v : Value) × (x ≡ ValueOf v) × (suits (is_of_class m mem) s v ≡ true) × (ls ≡ leaves_of s v)
read_value {m = m} {made = made} {mem = mem} {st = st} (value t v ls a form fits is) s e =
    subst (λ u. ValueRead m made mem st u (ValueOf v) ls) (ap shape_in (sym form ∙ e)) (v, refl, fits, is)
read_value (place p ls a form names) s e = absurd (omega (arith, ap kind_of (sym form ∙ e)))
read_value (function g ls a form) s e = absurd (omega (arith, ap kind_of (sym form ∙ e)))

pub read_place : {m : Module} {made : List Made} {mem : Memory} {st : MachineView} {form : Form} {x : Datum} {ls : List Leaf} {a : Address}
    → EntryAgrees m made mem st form (Some x) true ls a → (s : Shape) → form ≡ OfPlace s → (p : Place) × (x ≡ AddressOf p) × (p.shape ≡ s) × NamesPlace m made st.slots mem a p
read_place (value t v ls a form fits is) s e = absurd (omega (arith, ap kind_of (sym form ∙ e)))
read_place (place p ls a form names) s e = (p, refl, ap shape_in (sym form ∙ e), names)
read_place (function g ls a form) s e = absurd (omega (arith, ap kind_of (sym form ∙ e)))

pub read_function : {m : Module} {made : List Made} {mem : Memory} {st : MachineView} {form : Form} {x : Datum} {ls : List Leaf} {a : Address}
    → EntryAgrees m made mem st form (Some x) true ls a → (g : FuncId) → form ≡ OfFunction g → x ≡ FunctionOf g
read_function (value t v ls a form fits is) g e = absurd (omega (arith, ap kind_of (sym form ∙ e)))
read_function (place p ls a form names) g e = absurd (omega (arith, ap kind_of (sym form ∙ e)))
read_function (function h ls a form) g e = ap FunctionOf (ap (function_in h) (sym form ∙ e))
