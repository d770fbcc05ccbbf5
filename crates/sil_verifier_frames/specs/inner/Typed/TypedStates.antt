-- States of a run by holders that are typed: entries, memory and tasks have the shapes that the types of the module say.
use Rattle.std.specs.Prelude.{◌≡◌, ◌⊎◌, List, [], ◌∷◌, true, length, Some, Ok, slice_get}
use Rattle.sil_ast.specs.declared.function.Function.{Function}
use Rattle.sil_ast.specs.declared.inst.Inst.{Inst}
use Rattle.sil_ast.specs.declared.module.Module.{Module}
use Rattle.sil_ast.specs.declared.place.FuncId.{FuncId}
use Rattle.sil_ast.specs.declared.place.ObjectId.{ObjectId}
use Rattle.sil_ast.specs.declared.place.ValueId.{ValueId}
use Rattle.numbered_form.specs.Lists.{Each}
use Rattle.numbered_form.specs.Names.{Name}
use Rattle.sil_cfg_items.specs.Parts.{inst_at}
use Rattle.sil_types_declarations.specs.TypeDefinitions.Declarations.{declarations_of}
use Rattle.sil_types_declarations.specs.TypeDefinitions.Lookups.{deinit_of}
use Rattle.sil_types_declarations.specs.declared.type_definitions.kind.Kind.{Kind}
use Rattle.sil_types_declarations.specs.declared.type_definitions.kind.Kind.TheVariants as kind
use Rattle.holder_model_values.specs.RunValues.Trivial.{is_trivial}
use Rattle.holder_model_laws.specs.holder_model.Calling.{value_count}
use Rattle.holder_model_laws.specs.holder_model.Data.{Datum}
use Rattle.holder_model_laws.specs.holder_model.Frames.{Entry, Frame, Gone, entry_at, has_any, made_entry}
use Rattle.holder_model_laws.specs.holder_model.HolderStates.{HolderState}
use Rattle.holder_model_laws.specs.holder_model.Standing.{stands_at}
use Rattle.holder_model_laws.specs.holder_model.States.{Task}
use Rattle.holder_model_laws.specs.holder_model.RunTyping.CallForms.{IsOf}
use Rattle.holder_model_laws.specs.holder_model.RunTyping.Forms.{Form, OfValue, form_of, given_shape}
use Rattle.sil_verifier_trails.specs.RunTrails.inner.RunTrails.{GoesOn, IsRunTrail}
use Rattle.sil_verifier_trails.specs.sil_verifier_values.inner.Known.{kind_at}
use Rattle.holder_model_laws.specs.HolderLaws.inner.Steps.Stacks.{Going}
use Rattle.sil_verifier_trails.specs.holder_model_typing.TypedMemory.inner.Worlds.{DatumIs, IsWorldOf, MemoryIs, World, names}

module _ (m : Module) (w : World) where
  -- the entry of a value of this kind and form: it isn't there, or was made as its kind asks
  pub data EntryIs (k : Kind) (form : Form) : Entry → Type 0 where
    gone : EntryIs k form Gone
    made : (x : Datum) (e : Entry) → made_entry k x ≡ Ok e → DatumIs m w form x → EntryIs k form e

  -- each value of the function has an entry, and there are no others
  pub record EntriesAre (f : Function) (entries : List Entry) : Type 0 where
    pub size : length entries ≡ value_count f
    pub each : (v : ValueId) → IsOf f v → EntryIs (kind_at (declarations_of m) f v) (form_of (declarations_of m) f v) (entry_at entries v)

  -- a frame of a function: it stands where its trail has come to, and may go on
  pub record FrameIs (f : Function) (frame : Frame) : Type 0 where
    pub is : slice_get m.functions frame.function.0 ≡ Some f
    pub bodied : has_any f.blocks ≡ true
    pub trail : IsRunTrail f frame.trail
    pub goes : GoesOn frame.trail
    pub entries : EntriesAre f frame.entries

  abbrev pub GoesTyped : Frame → List (Task Frame) → Type 0
  GoesTyped frame rest = (f : Function) × FrameIs f frame

  -- what the callee returns, the frame takes as the result of the call at which it stands
  pub record WaitsTyped (callee frame : Frame) (rest : List (Task Frame)) : Type 0 where
    pub f : Function
    pub of : FrameIs f frame
    pub call : Inst
    pub stands : inst_at f (stands_at f frame.trail) ≡ Some call
    pub result : ValueId
    pub results : call.results ≡ result ∷ []
    pub body : Function
    pub there : slice_get m.functions callee.function.0 ≡ Some body
    pub form : form_of (declarations_of m) f result ≡ OfValue (given_shape (declarations_of m) body)
    pub taken : (kind_at (declarations_of m) f result ≡ kind.Owned)
        ⊎ ((kind_at (declarations_of m) f result ≡ kind.Plain) × (is_trivial (given_shape (declarations_of m) body) ≡ true))

  -- an object that was made
  abbrev pub IsMade : ObjectId → Type 0
  IsMade o = (class : Name) × (slice_get w.classes o.0 ≡ Some class)

  abbrev pub DroppedTyped : List ObjectId → Type 0
  DroppedTyped references = Each IsMade references

  -- the deinitialiser of a class of the object: its own or an ancestor
  pub record DeinitsClass (o : ObjectId) (g : FuncId) : Type 0 where
    pub class : Name
    pub is : deinit_of (declarations_of m) class ≡ Some g
    pub names : names m w class o ≡ true

  abbrev pub FinishedTyped : List FuncId → ObjectId → Type 0
  FinishedTyped deinits o = IsMade o × Each (DeinitsClass o) deinits

  -- a deinitialiser's result is looked at by nobody
  abbrev pub DeinitsTyped : Frame → ObjectId → Type 0
  DeinitsTyped callee o = Unit {0}

  abbrev pub TasksAre : List (Task Frame) → Type 0
  TasksAre tasks = Going GoesTyped WaitsTyped DeinitsTyped DroppedTyped FinishedTyped tasks

pub record IsTypedState (m : Module) (s : HolderState) : Type 0 where
  pub world : World
  pub of : IsWorldOf m world
  pub memory : MemoryIs m world s.memory
  pub tasks : TasksAre m world s.tasks
