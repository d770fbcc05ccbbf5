-- What an instruction with typed operands does: it leaves typed results and typed memory, calls what takes its operands, traps, or meets another fault.
use Rattle.std.proofs.Common.{◌≡◌, ◌⊎◌, inl, ℤ, List, [], ◌∷◌, refl, sym, subst, Bool, true, false, Option, Some, None}
use Rattle.std.specs.Prelude.{cond, is_some, option_and_then, slice_get}
use Rattle.holder_model_laws.specs.holder_model.RunTyping.Forms.{Form, OfValue, entry_forms, given_shape}
use Rattle.argument_conventions.specs.declared.row.Content.{Content}
use Rattle.argument_conventions.specs.declared.row.Content.TheVariants as content
use Rattle.instruction_table.specs.Forms.{result_kind_of}
use Rattle.instruction_table.specs.declared.entries.ResultKind.TheVariants.{OwnedResult}
use Rattle.instruction_table.specs.declared.op.Op.{Op}
use Rattle.numbered_form.specs.Lists.{Each}
use Rattle.holder_model_laws.specs.holder_model.Data.{Datum, all_of, values_of}
use Rattle.holder_model_laws.specs.holder_model.Effects.{Calls, Change, Effect, Faults, Makes, Traps, effect_by, effect_of, gives, result_shape_of, unchanged}
use Rattle.holder_model_laws.specs.holder_model.Faults.{HolderFault, NotLastSlot}
use Rattle.holder_model_laws.specs.holder_model.Frames.{has_any}
use Rattle.holder_model_laws.specs.holder_model.MemoryEffects.{at_places, fault_of, holds, where_held}
use Rattle.holder_model_laws.specs.holder_model.ModuleShapes.{shapes_of}
use Rattle.holder_model_laws.specs.holder_model.declared.row_effect.RowEffect.{RowEffect}
use Rattle.holder_model_laws.specs.holder_model.declared.trap.Trap.{Trap}
use Rattle.holder_model_values.specs.RunValues.Memory.{Memory}
use Rattle.holder_model_values.specs.RunValues.Places.{Place, is_there_at}
use Rattle.holder_model_values.specs.RunValues.Shapes.{NoMember, Shape, Tuple}
use Rattle.holder_model_values.specs.RunValues.Values.{integer_of}
use Rattle.sil_ast.specs.declared.function.Function.{Function}
use Rattle.sil_ast.specs.declared.inst.Inst.{Inst}
use Rattle.sil_ast.specs.declared.module.Module.{Module}
use Rattle.sil_ast.specs.declared.place.FuncId.{FuncId}
use Rattle.sil_types_declarations.specs.TypeDefinitions.Declarations.{Declarations, declarations_of}
use Rattle.sil_verifier_trails.specs.holder_model_typing.TypedMemory.inner.Worlds.{DatumIs, Grows, IsWorldOf, MemoryIs, World}
use Rattle.sil_verifier_trails.proofs.holder_model_typing.TypedMemory.Growth.{grows_none}
use Rattle.sil_verifier_frames.specs.inner.Typed.TypedStates.{IsMade}
use Rattle.sil_verifier_frames.proofs.Typed.Data.{DataAre, IsBare}
use Rattle.sil_verifier_frames.proofs.Typed.Operands.{IsOther}
use Rattle.sil_verifier_frames.proofs.Typed.WithoutOwner.{IsOwningRow}

module _ (m : Module) where
  -- a change that leaves all typed in a later world
  pub record Changed (w : World) (ys : List Form) (c : Change) : Type 0 where
    pub later : World
    pub grows : Grows w later
    pub of : IsWorldOf m later
    pub memory : MemoryIs m later c.memory
    pub results : DataAre m later ys c.results
    pub dropped : Each (IsMade m later) c.dropped

  pub data EffectFits (w : World) (o : Op) (xs : List Datum) (ys : List Form) : Effect HolderFault → Type 0 where
    makes : (c : Change) → Changed w ys c → (Each IsBare xs → Each IsBare c.results) ⊎ IsOwningRow o → EffectFits w o xs ys (Makes c)
    calls : (g : FuncId) (args : List Datum) (callee : Function) → slice_get m.functions g.0 ≡ Some callee → has_any callee.blocks ≡ true
        → DataAre m w (entry_forms (declarations_of m) callee) args → ys ≡ OfValue (given_shape (declarations_of m) callee) ∷ [] → result_kind_of o ≡ OwnedResult
        → EffectFits w o xs ys (Calls g args)
    calls_out : (g : FuncId) (args : List Datum) (callee : Function) (ns : List ℤ) → slice_get m.functions g.0 ≡ Some callee → has_any callee.blocks ≡ false
        → option_and_then (all_of integer_of) (values_of args) ≡ Some ns → ys ≡ OfValue (Tuple NoMember) ∷ [] → EffectFits w o xs ys (Calls g args)
    traps : (t : Trap) → EffectFits w o xs ys (Traps t)
    faults : (x : HolderFault) → IsOther x → EffectFits w o xs ys (Faults x)

-- an instruction in typed memory
pub record Done (m : Module) : Type 0 where
  pub w : World
  pub of : IsWorldOf m w
  pub memory : Memory
  pub typed : MemoryIs m w memory
  pub values : List Shape
  pub i : Inst

module _ {m : Module} (x : Done m) where
  abbrev pub d : Declarations
  d = declarations_of m

  abbrev pub Fitting : List Datum → List Form → Effect HolderFault → Type 0
  Fitting xs ys e = EffectFits m x.w x.i.op xs ys e

  -- what the row does
  abbrev pub effect_at : RowEffect → List Datum → Effect HolderFault
  effect_at e xs = effect_by d (shapes_of m) x.values x.memory x.i (at_places d (shapes_of m) x.values x.memory x.i) e xs

  pub by_row : (e : RowEffect) → effect_of x.i.op ≡ e → (xs : List Datum) (ys : List Form) → Fitting xs ys (effect_at e xs) → Fitting xs ys (effect_at (effect_of x.i.op) xs)
  by_row e is xs ys h = subst (λ r. Fitting xs ys (effect_at r xs)) (sym is) h

  -- the shape that a run has of the first result
  abbrev pub result_shape : Shape
  result_shape = result_shape_of d (shapes_of m) x.values x.memory x.i x.i.results

  -- the world stays
  pub stays : (xs : List Datum) (ys : List Form) (c : Change) → MemoryIs m x.w c.memory → DataAre m x.w ys c.results → Each (IsMade m x.w) c.dropped
      → (Each IsBare xs → Each IsBare c.results) ⊎ IsOwningRow x.i.op → Fitting xs ys (Makes c)
  stays xs ys c memory results dropped keeps = EffectFits.makes c (record {
    later = x.w;
    grows = grows_none x.w;
    of = x.of;
    memory = memory;
    results = results;
    dropped = dropped;
  }) keeps

  -- nothing is given
  pub gives_nothing : (xs : List Datum) → Fitting xs [] (gives x.memory [])
  gives_nothing xs = stays xs [] (unchanged x.memory) x.typed DataAre.none tt (inl (λ bare. tt))

  -- one datum is given, which names no object where the operands name none
  pub gives_one : (xs : List Datum) (form : Form) (y : Datum) → DatumIs m x.w form y → (Each IsBare xs → IsBare y) → Fitting xs (form ∷ []) (gives x.memory (y ∷ []))
  gives_one xs form y is keeps =
      stays xs (form ∷ []) (record (unchanged x.memory) { results = y ∷ [] }) x.typed (DataAre.more form y [] [] is DataAre.none) tt (inl (λ bare. (keeps bare, tt)))

  -- the place is looked at first

  content_other : (c : Content) → IsOther (fault_of c)
  content_other content.Empty = λ shape. cc
  content_other content.Full = λ shape. cc

  abbrev held : Place → Option Content → Effect HolderFault → Effect HolderFault
  held p c e = where_held d (shapes_of m) x.values x.memory x.i p c e

  module _ (xs : List Datum) (ys : List Form) (p : Place) (e : Effect HolderFault) where
    pub where_asked : (c : Content) → (holds x.memory c p ≡ true → Fitting xs ys e) → Fitting xs ys (held p (Some c) e)
    where_asked c fits = at (is_there_at x.memory p) (holds x.memory c p) refl
      where
        at : (there b : Bool) → holds x.memory c p ≡ b → Fitting xs ys (cond there (cond b e (Faults (fault_of c))) (Faults NotLastSlot))
        at true true so = fits so
        at true false so = EffectFits.faults (fault_of c) (content_other c)
        at false b so = EffectFits.faults NotLastSlot (λ shape. cc)

    pub where_any : (c : Option Content) → Fitting xs ys e → Fitting xs ys (held p c e)
    where_any (Some c) fits = where_asked c (λ so. fits)
    where_any None fits = at (is_there_at x.memory p)
      where
        at : (there : Bool) → Fitting xs ys (cond there e (Faults NotLastSlot))
        at true = fits
        at false = EffectFits.faults NotLastSlot (λ shape. cc)

-- a full place has a value
pub some_value : {A : Type 0} (o : Option A) → is_some o ≡ true → (y : A) × (o ≡ Some y)
some_value None e = absurd (cc)
some_value (Some y) e = (y, refl)
