-- A frame goes on behind an item, or a function is entered: typed data lead to a typed state.
use Rattle.std.proofs.Common.{◌≡◌, ◌<◌, ℕ, List, [], ◌∷◌, length, refl, subst, arith, true}
use Rattle.std.specs.Prelude.{Err, Ok, Some, slice_get}
use Rattle.sil_verifier_trails.specs.sil_verifier_values.inner.Known.{IsAcceptedBody}
use Rattle.holder_model_laws.specs.holder_model.RunTyping.Forms.{entry_forms}
use Rattle.sil_verifier_trails.specs.sil_verifier_accepted.AcceptedModules.inner.Checked.{IsVerified}
use Rattle.sil_verifier_trails.specs.sil_verifier_accepted.AcceptedModules.Refusals.{lowered}
use Rattle.sil_verifier_trails.proofs.AcceptedFacts.Facts.{accepted_facts}
use Rattle.holder_model_laws.specs.HolderLaws.inner.Steps.Ways.{Enters, GoesBehind}
use Rattle.holder_model_laws.proofs.HolderLaws.Steps.WhichFaults.{slots_err}
use Rattle.sil_cfg_items.specs.Items.{item_defined}
use Rattle.numbered_form.specs.Lists.{Each}
use Rattle.sil_verifier_trails.specs.holder_model_typing.OwnedRunTyping.inner.OwnedTyped.{OwnedFunction, OwnedTyped}
use Rattle.holder_model_laws.specs.holder_model.Calling.{value_count}
use Rattle.holder_model_laws.specs.holder_model.Data.{Datum}
use Rattle.holder_model_laws.specs.holder_model.Effects.{Change, SlotChange}
use Rattle.holder_model_laws.specs.holder_model.Faults.{HolderFault, NotLastSlot, WrongShape}
use Rattle.holder_model_laws.specs.holder_model.Frames.{Frame, has_any, no_entries, results_put}
use Rattle.holder_model_laws.specs.holder_model.HolderStates.{HolderNext, HolderState}
use Rattle.holder_model_laws.specs.holder_model.ModuleFacts.{facts_of}
use Rattle.holder_model_laws.specs.holder_model.Standing.{stands_at}
use Rattle.holder_model_laws.specs.holder_model.StepParts.{fault, new_frame, slots_behind}
use Rattle.holder_model_laws.specs.holder_model.States.{Ending, Ends, Faulted, Goes, OutOfTurns, Runs, Task, Trapped}
use Rattle.holder_model_laws.specs.holder_model.declared.trap.Trap.TheVariants as trap
use Rattle.sil_verifier_trails.specs.RunTrails.inner.RunTrails.{ComesAt, GoesOn}
use Rattle.holder_model_values.specs.RunValues.Places.{Place}
use Rattle.sil_ast.specs.declared.function.Block.{Block}
use Rattle.sil_ast.specs.declared.function.Function.{Function}
use Rattle.sil_ast.specs.declared.module.Module.{Module}
use Rattle.sil_ast.specs.declared.place.FuncId.{FuncId}
use Rattle.sil_cfg.specs.declared.item.Item.{Item}
use Rattle.sil_cfg.specs.declared.item.Item.TheVariants as item
use Rattle.sil_types_declarations.specs.TypeDefinitions.Declarations.{declarations_of}
use Rattle.sil_verifier_trails.specs.holder_model_typing.TypedMemory.inner.Worlds.{IsWorldOf, MemoryIs, World}
use Rattle.sil_verifier_frames.specs.inner.Typed.TypedStates.{FrameIs, IsMade, IsTypedState}
use Rattle.sil_verifier_frames.proofs.Typed.Data.{DataAre}
use Rattle.sil_verifier_frames.proofs.Typed.Entries.{FitEach, no_entries_typed, results_other, results_typed}
use Rattle.sil_verifier_frames.proofs.Typed.WithoutOwner.{arguments_fit}
use Rattle.sil_verifier_frames.proofs.Typed.Operands.{IsOther}
use Rattle.sil_verifier_frames.proofs.Typed.Stacks.{BelowTyped, below_same, dropping_typed}

-- the next state is typed, or the run ends, and not with a value of another shape
pub data NextTyped (m : Module) : HolderNext → Type 0 where
  goes : (s : HolderState) → IsTypedState m s → NextTyped m (Goes s)
  ends : (e : Ending HolderFault) (s : HolderState) → (e ≡ Faulted WrongShape → ⊥) → NextTyped m (Ends e s)

pub other_fault : (m : Module) (s : HolderState) (x : HolderFault) → IsOther x → NextTyped m (fault s x)
other_fault m s x other = ends (Faulted x) s (λ e. let same : x ≡ WrongShape = cc in other same)

-- an accepted module is typed in the words of a run
pub typed_module : (m : Module) → IsVerified m → OwnedTyped m
typed_module m v = accepted_facts.values_have_forms m (accepted_facts.modules_are_well_typed m v) (λ n f there form. v.accepted.types.owned _ (lowered n f there form))

pub has_blocks : (bs : List Block) → has_any bs ≡ true → 0 < length bs
has_blocks [] e = absurd (cc)
has_blocks (b ∷ bs) e = omega arith

pub accepted_body : (m : Module) → IsVerified m → (g : FuncId) (f : Function) → slice_get m.functions g.0 ≡ Some f → has_any f.blocks ≡ true → IsAcceptedBody m g.0 f
accepted_body m v g f there bodied = record { verified = v; body = record { there = there; body = has_blocks f.blocks bodied } }

slot_other : (c : SlotChange) (slots : List Place) (x : HolderFault) → slots_behind c slots ≡ Err x → IsOther x
slot_other c slots x e shape = let last : x ≡ NotLastSlot = slots_err c slots x e in cc

-- a frame of a typed state, and the tasks below it
pub record Running (m : Module) (s : HolderState) (rest : List (Task Frame)) (frame : Frame) (f : Function) : Type 0 where
  pub w : World
  pub of : IsWorldOf m w
  pub memory : MemoryIs m w s.memory
  pub typed : FrameIs m w f frame
  pub below : BelowTyped m w frame rest

module _ (m : Module) (v : IsVerified m) (bound : ℕ) where
  module _ (w : World) (of : IsWorldOf m w) where
    -- the frame goes on behind the item
    pub goes_behind : (s : HolderState) (rest : List (Task Frame)) (frame : Frame) (f : Function) → FrameIs m w f frame → BelowTyped m w frame rest
        → (i : Item) → ComesAt f (stands_at f frame.trail) i → ((t : List Item) → GoesOn (i ∷ t)) → (c : Change) → MemoryIs m w c.memory
        → FitEach m w f (item_defined f i) c.results → Each (IsMade m w) c.dropped → (next : HolderNext) → GoesBehind m (facts_of m) bound s rest frame f i c next → NextTyped m next
    goes_behind s rest frame f typed below i comes going c memory fits dropped _ (GoesBehind.goes slots entries slots_is put) =
        goes _ (record {
          world = w;
          of = of;
          memory = memory;
          tasks = dropping_typed m w c.dropped (Runs behind ∷ rest) dropped (
            (
              f,
              record {
                is = typed.is;
                bodied = typed.bodied;
                trail = (accepted_facts.next_items_come_next f frame.trail i typed.goes comes, typed.trail);
                goes = going frame.trail;
                entries = results_typed m w f fits frame.entries entries typed.entries
                    (subst (λ fs. results_put fs (item_defined f i) c.results frame.entries ≡ Ok entries) (accepted_facts.run_facts_are_facts m frame.function f typed.is) put);
              },
            ),
            below_same m w frame behind rest refl below,
          );
        })
      where
        behind : Frame
        behind = record frame { trail = i ∷ frame.trail; entries = entries; slots = slots; lent = [] }
    goes_behind s rest frame f typed below i comes going c memory fits dropped _ (GoesBehind.wrong_slot x e) = other_fault m s x (slot_other c.slots frame.slots x e)
    goes_behind s rest frame f typed below i comes going c memory fits dropped _ (GoesBehind.wrong_result slots x slots_is put) =
        let facts = accepted_facts.run_facts_are_facts m frame.function f typed.is in
        other_fault m s x (results_other m w f fits frame.entries x (subst (λ fs. results_put fs (item_defined f i) c.results frame.entries ≡ Err x) facts put))

    -- a function with a body is entered
    pub enters : (s : HolderState) → MemoryIs m w s.memory → (rest : List (Task Frame)) (g : FuncId) (callee : Function) → slice_get m.functions g.0 ≡ Some callee
        → has_any callee.blocks ≡ true → (args : List Datum) → DataAre m w (entry_forms (declarations_of m) callee) args
        → ((frame : Frame) → frame.function ≡ g → BelowTyped m w frame rest) → (next : HolderNext) → Enters m (facts_of m) bound s rest g callee args next → NextTyped m next
    enters s memory rest g callee there bodied args typed_as below next way = by next way
      where
        typed : OwnedFunction m callee
        typed = (typed_module m v).functions g.0 callee there

        fits : FitEach m w callee (item_defined callee item.Entry) args
        fits = arguments_fit m g.0 callee (accepted_body m v g callee there bodied) w 0 (typed.items item.Entry).defined typed_as

        by : (next : HolderNext) → Enters m (facts_of m) bound s rest g callee args next → NextTyped m next
        by _ (Enters.enters entries put depth turn) = goes _ (record {
          world = w;
          of = of;
          memory = memory;
          tasks = (
            (
              callee,
              record {
                is = there;
                bodied = bodied;
                trail = (has_blocks callee.blocks bodied, tt);
                goes = tt;
                entries = results_typed m w callee fits (no_entries (value_count callee)) entries (no_entries_typed m w callee)
                    (subst (λ fs. results_put fs (item_defined callee item.Entry) args (no_entries (value_count callee)) ≡ Ok entries) (accepted_facts.run_facts_are_facts m g callee there) put);
              },
            ),
            below (new_frame g entries) refl,
          );
        })
        by _ (Enters.wrong_argument x put) =
            other_fault m s x (results_other m w callee fits (no_entries (value_count callee)) x
            (subst (λ fs. results_put fs (item_defined callee item.Entry) args (no_entries (value_count callee)) ≡ Err x) (accepted_facts.run_facts_are_facts m g callee there) put))
        by _ (Enters.too_deep depth) = ends (Trapped trap.Depth) s (λ e. cc)
        by _ (Enters.no_turn depth turn) = ends OutOfTurns s (λ e. cc)
