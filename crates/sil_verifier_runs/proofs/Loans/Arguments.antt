-- The places of arguments are on the stack: an argument of the entry that is an address is a root.
use Rattle.std.proofs.Common.{◌≡◌, ℕ, List, ◌∷◌, Bool, Contains, Option, Some, None, refl, sym, ◌∙◌, subst, slice_get}
use Rattle.std.proofs.lemmas.Option.{same_Some}
use Rattle.sil_verifier_frames.specs.holder_model.Data.{AddressOf}
use Rattle.sil_verifier_frames.specs.holder_model.Frames.{Frame, datum_in, entry_at}
use Rattle.sil_verifier_frames.specs.holder_model.HolderStates.{HolderState}
use Rattle.sil_verifier_frames.specs.holder_model.States.{Runs, Task}
use Rattle.sil_verifier_frames.specs.memory_rules_accesses.Sources.{argument_source_or, handed_source, source_at, sources_of}
use Rattle.sil_verifier_frames.specs.memory_rules_accesses.declared.source.Source.{Source}
use Rattle.sil_verifier_frames.specs.memory_rules_accesses.declared.source.Source.TheVariants as source
use Rattle.sil_verifier_frames.proofs.sil_verifier_trails.AcceptedPlaces.Fields.{has_among}
use Rattle.sil_verifier_frames.proofs.sil_verifier_trails.AcceptedPlaces.Naming.{MakesAddress, address_made}
use Rattle.sil_verifier_frames.specs.sil_verifier_trails.AcceptedPlaces.inner.Located.{IsAddress, IsRoot}
use Rattle.sil_verifier_frames.proofs.sil_verifier_values.Counted.{stands}
use Rattle.sil_verifier_frames.specs.sil_verifier_accepted.AcceptedModules.inner.Checked.{IsVerified}
use Rattle.sil_verifier_frames.specs.sil_verifier_values.inner.Known.{IsAcceptedBody}
use Rattle.argument_conventions.specs.Arguments.{Told, arguments_of}
use Rattle.argument_conventions.specs.Rows.{address_row}
use Rattle.argument_conventions.specs.declared.row.AddressRow.{AddressRow}
use Rattle.sil_cfg_items.specs.Items.{item_defined}
use Rattle.sil_verifier_frames.proofs.sil_verifier_trails.PlacedValues.ArgumentsTold.{entry_source}
use Rattle.numbered_form.proofs.PointChecks.Among.{contained_among}
use Rattle.holder_model_values.specs.RunValues.Places.{OnStack, Place}
use Rattle.sil_ast.specs.declared.function.Function.{Function}
use Rattle.sil_ast.specs.declared.module.Module.{Module}
use Rattle.sil_ast.specs.declared.place.ValueId.{ValueId}
use Rattle.sil_cfg.specs.declared.item.Item.TheVariants as item
use Rattle.sil_types_declarations.specs.TypeDefinitions.Declarations.{Declarations, declarations_of}
use Rattle.sil_verifier_frames.proofs.Typed.GoesOn.{accepted_body}
use Rattle.sil_verifier_frames.specs.inner.Typed.TypedStates.{FrameIs, TasksAre}
use Rattle.sil_verifier_runs.proofs.Guarded.Following.{argument_made}
use Rattle.sil_verifier_runs.specs.inner.Guarded.Guards.{IsArgument}
use Rattle.sil_verifier_runs.specs.inner.Guarded.LoansKept.{IsPlacedState}
use Rattle.sil_verifier_frames.specs.inner.Placed.FramePlaces.{HoldsPlaces}
use Rattle.sil_verifier_frames.specs.inner.Placed.PlaceStates.{AreSlotsRight, TasksPlaced}
use Rattle.sil_verifier_frames.specs.inner.Placed.Roots.{argument}
use Rattle.sil_verifier_frames.proofs.Placed.Naming.{names_once}
use Rattle.sil_verifier_frames.proofs.Placed.PlainAddresses.{named_address}
use Rattle.sil_verifier_runs.specs.inner.Loans.Loans.{loans_of}

-- an argument by its signature, or nothing to memory
data IsToldSource : Source → Type 0 where
  told : (row : AddressRow) (trivial : Bool) → IsToldSource (source.Argument row trivial)
  nothing : IsToldSource source.Other

handed_told : (trivial : Bool) (o : Option AddressRow) → IsToldSource (handed_source trivial o)
handed_told trivial None = nothing
handed_told trivial (Some row) = told row trivial

signature_told : (d : Declarations) (o : Option Told) → IsToldSource (argument_source_or d o)
signature_told d None = nothing
signature_told d (Some a) = handed_told _ (address_row a.convention)

no_root : (s : Source) → IsRoot s → s ≡ source.Other → ⊥
no_root _ IsRoot.slot e = cc
no_root _ IsRoot.argument e = cc
no_root _ IsRoot.field e = cc

record IsHandedIn (s : Source) : Type 0 where
  row : AddressRow
  trivial : Bool
  is : s ≡ source.Argument row trivial

module _ (m : Module) (n : ℕ) (f : Function) (a : IsAcceptedBody m n f) (v : ValueId) (is_argument : IsArgument f v) (address : IsAddress (declarations_of m) f v) where
  defined : Contains (item_defined f item.Entry) v
  defined = contained_among v (item_defined f item.Entry) (has_among (item_defined f item.Entry) v (argument_made m n f a v is_argument))

  told_source : IsToldSource (source_at (sources_of (declarations_of m) f) v)
  told_source =
      let s = stands (item_defined f item.Entry) v defined in
      subst IsToldSource (sym (entry_source m n f a s.0 v s.1)) (signature_told (declarations_of m) (slice_get (arguments_of f.signature) s.0))

  handed_in : IsHandedIn (source_at (sources_of (declarations_of m) f) v)
  handed_in = at (source_at (sources_of (declarations_of m) f) v) refl told_source
    where
      never : source_at (sources_of (declarations_of m) f) v ≡ source.Other → MakesAddress (declarations_of m) f item.Entry v → ⊥
      never e (MakesAddress.makes_root root) = no_root _ root e
      never e (MakesAddress.makes_member of k is taken at) = let two : source.Part of k ≡ source.Other = sym is ∙ e in cc

      at : (s : Source) → source_at (sources_of (declarations_of m) f) v ≡ s → IsToldSource s → IsHandedIn s
      at _ e (IsToldSource.told row trivial) = record { row = row; trivial = trivial; is = refl }
      at _ e IsToldSource.nothing = absurd (never e (address_made m n f a item.Entry v defined address))

module _ (m : Module) (verified : IsVerified m) where
  pub arguments_on_stack : (s : HolderState) (rest : List (Task Frame)) (frame : Frame) (f : Function) → IsPlacedState m (loans_of m) (AreSlotsRight m) s
      → s.tasks ≡ Runs frame ∷ rest → slice_get m.functions frame.function.0 ≡ Some f → (v : ValueId) (p : Place) → IsArgument f v
      → datum_in (entry_at frame.entries v) ≡ Some (AddressOf p) → p.home ≡ OnStack
  arguments_on_stack s rest frame f state tasks there v p is_argument names =
      let src = handed_in m frame.function.0 f accepted v is_argument (named_address m state.typed.world frame.function.0 f accepted frame.entries of.entries v p names) in
      let y = holds.named v (argument src.row src.trivial src.is) in
      subst (λ (q : Place). q.home ≡ OnStack) (names_once frame.entries v y.place p y.names names) y.home
    where
      typed : TasksAre m state.typed.world (Runs frame ∷ rest)
      typed = subst (TasksAre m state.typed.world) tasks state.typed.tasks

      placed : TasksPlaced m s.memory (Runs frame ∷ rest)
      placed = subst (TasksPlaced m s.memory) tasks state.placed

      of : FrameIs m state.typed.world f frame
      of = subst (λ g. FrameIs m state.typed.world g frame) (same_Some typed.0.0 f (sym typed.0.1.is ∙ there)) typed.0.1

      holds : HoldsPlaces m s.memory f frame rest
      holds = subst (λ g. HoldsPlaces m s.memory g frame rest) (same_Some placed.0.f f (sym placed.0.is ∙ there)) placed.0.holds

      accepted : IsAcceptedBody m frame.function.0 f
      accepted = accepted_body m verified frame.function f of.is of.bodied
