-- A frame without the operands that ended holds what it held, and a frame that goes on stands over the frames below as before.
use Rattle.std.proofs.Common.{◌≡◌, ◌⊎◌, ◌≤◌, ◌++◌, ℕ, suc, List, [], ◌∷◌, length, Bool, Option, Some, None, Ok, refl, sym, ap, ◌∙◌, subst, slice_get}
use Rattle.std.proofs.lemmas.Option.{same_Some}
use Rattle.holder_model_laws.specs.holder_model.Calling.{argument_data, given_places, lent_with, place_in, places_given}
use Rattle.holder_model_laws.specs.holder_model.Data.{AddressOf}
use Rattle.holder_model_laws.specs.holder_model.Frames.{Entry, Frame, Plain, datum_in, entry_at, plain_address, without_ended}
use Rattle.holder_model_laws.specs.holder_model.States.{Runs, Task, dropping}
use Rattle.holder_model_laws.specs.memory_rules_accesses.Sources.{handed_source, source_at, sources_of}
use Rattle.holder_model_laws.specs.memory_rules_accesses.declared.source.Source.TheVariants as source
use Rattle.sil_verifier_trails.specs.AcceptedPlaces.inner.Stacks.{slots_on}
use Rattle.holder_model_laws.specs.sil_types.Typing.Shapes.{is_trivial_object}
use Rattle.sil_verifier_trails.specs.sil_verifier_values.inner.Known.{IsAcceptedBody}
use Rattle.argument_conventions.specs.Arguments.{Told, arguments_of}
use Rattle.argument_conventions.specs.Rows.{address_row}
use Rattle.argument_conventions.specs.declared.row.AddressRow.{AddressRow}
use Rattle.sil_cfg_items.specs.Items.{item_defined}
use Rattle.sil_cfg_items.specs.declared.taken.Taken.{Taken}
use Rattle.holder_model_laws.specs.HolderLaws.inner.Cells.Cells.{cell_at}
use Rattle.holder_model_laws.specs.ownership_kinds_chains.declared.ownership_chains.facts.Facts.{Facts}
use Rattle.holder_model_values.specs.RunValues.Memory.{Memory}
use Rattle.holder_model_values.specs.RunValues.Places.{OnStack, Place}
use Rattle.sil_ast.specs.declared.function.Function.{Function}
use Rattle.sil_ast.specs.declared.module.Module.{Module}
use Rattle.sil_ast.specs.declared.place.ObjectId.{ObjectId}
use Rattle.sil_ast.specs.declared.place.ValueId.{ValueId}
use Rattle.sil_cfg.specs.declared.item.Item.TheVariants as item
use Rattle.sil_types_declarations.specs.TypeDefinitions.Declarations.{declarations_of}
use Rattle.sil_verifier_frames.specs.inner.Placed.FramePlaces.{HoldsPlaces, IsFree, Names}
use Rattle.sil_verifier_frames.specs.inner.Placed.PlaceStates.{BelowPlaced, TasksPlaced}
use Rattle.sil_verifier_frames.specs.inner.Placed.Roots.{IsThere}
use Rattle.sil_verifier_frames.specs.inner.Placed.TrailLaws.{TrailLaws}
use Rattle.sil_verifier_frames.proofs.Placed.Calls.{below_same}
use Rattle.sil_verifier_frames.proofs.Placed.EntriesKept.{left_was, plain_left}
use Rattle.sil_verifier_frames.proofs.Placed.Keeping.{slot_there, slots_still}
use Rattle.sil_verifier_frames.proofs.Placed.Staying.{below_still}

-- the entries of addresses are made as those of values without a kind
abbrev pub AreAddressesPlain : List Entry → Type 0
AreAddressesPlain entries = (v : ValueId) (p : Place) → Names entries v p → entry_at entries v ≡ plain_address p.home (AddressOf p)

-- that of a place on the stack stays when operands end
pub name_left : (facts : ValueId → Option Facts) (ts : List Taken) (entries left : List Entry) → without_ended facts ts entries ≡ Ok left → AreAddressesPlain entries
    → (v : ValueId) (p : Place) → Names entries v p → p.home ≡ OnStack → entry_at left v ≡ entry_at entries v
name_left facts ts entries left is plain v p names home =
    let as_plain : entry_at entries v ≡ Plain (AddressOf p) = plain v p names ∙ ap (λ h. plain_address h (AddressOf p)) home in
    plain_left facts ts entries left is v (AddressOf p) as_plain ∙ sym as_plain

module _ (laws : TrailLaws) (m : Module) (number : ℕ) (f : Function) (body : IsAcceptedBody m number f) where
  module _ (memory : Memory) (frame : Frame) (rest : List (Task Frame)) (facts : ValueId → Option Facts) (ts : List Taken) (left : List Entry) where
    pub root_left : HoldsPlaces m memory f frame rest → without_ended facts ts frame.entries ≡ Ok left → AreAddressesPlain frame.entries
        → (v : ValueId) → IsThere (declarations_of m) f frame.trail v → entry_at left v ≡ entry_at frame.entries v
    root_left h is plain v there =
        let x = h.named v there in
        name_left facts ts frame.entries left is plain v x.place x.names x.home

    pub taken_holds : HoldsPlaces m memory f frame rest → without_ended facts ts frame.entries ≡ Ok left → AreAddressesPlain frame.entries
        → HoldsPlaces m memory f (record frame { entries = left }) rest
    taken_holds h is plain = record {
      named = λ v there.
          let x = h.named v there in
          record { place = x.place; names = ap datum_in (root_left h is plain v there) ∙ x.names; home = x.home; inside = x.inside };
      cells = λ v there p names. h.cells v there p (was v p names);
      apart = λ v w a b other shared p q pn qn. h.apart v w a b other shared p q (was v p pn) (was w q qn);
      free = λ v there own p names. h.free v there own p (was v p names);
      parts = λ v l loc part made whole p one two. h.parts v l loc part made whole p (was l.root whole one) (was v p two);
      fields = λ v l loc of k trivial src p names. h.fields v l loc of k trivial src p (was v p names);
      handed = λ v row trivial src p names. h.handed v row trivial src p (was v p names);
      slots = slots_still frame.entries left (slots_on (declarations_of m) f frame.trail) frame.slots
          (λ v there. root_left h is plain v (slot_there laws m number f body frame.trail v there)) h.slots;
    }
      where
        was : (v : ValueId) (p : Place) → Names left v p → Names frame.entries v p
        was v p names = left_was facts ts frame.entries left is v (AddressOf p) names

  -- what a function was given is told by the entries of its arguments that are addresses
  pub given_kept : (old new : List Entry) → ((v : ValueId) (row : AddressRow) (trivial : Bool) → source_at (sources_of (declarations_of m) f) v ≡ source.Argument row trivial
      → entry_at new v ≡ entry_at old v) → places_given f new ≡ places_given f old
  given_kept old new kept = at (arguments_of f.signature) (item_defined f item.Entry) (λ k v a row vk ak is.
      kept v row (is_trivial_object (declarations_of m) a.ty)
      (laws.from_told m number f body k v a vk ak ∙ ap (handed_source (is_trivial_object (declarations_of m) a.ty)) is))
    where
      head : (a : Told) (v : ValueId) → ((row : AddressRow) → address_row a.convention ≡ Some row → entry_at new v ≡ entry_at old v) → (r : Option AddressRow) → address_row a.convention ≡ r
          → lent_with r (place_in (datum_in (entry_at new v))) ≡ lent_with r (place_in (datum_in (entry_at old v)))
      head a v same None e = refl
      head a v same (Some row) e = ap (λ x. lent_with (Some row) (place_in (datum_in x))) (same row e)

      at : (told : List Told) (vs : List ValueId)
          → ((k : ℕ) (v : ValueId) (a : Told) (row : AddressRow) → slice_get vs k ≡ Some v → slice_get told k ≡ Some a → address_row a.convention ≡ Some row → entry_at new v ≡ entry_at old v)
          → given_places told (argument_data new vs) ≡ given_places told (argument_data old vs)
      at [] vs same = refl
      at (a ∷ told) [] same = refl
      at (a ∷ told) (v ∷ vs) same =
          ap (λ xs. xs ++ given_places told (argument_data new vs)) (head a v (λ row is. same 0 v a row refl refl is) (address_row a.convention) refl)
          ∙ ap (λ xs. lent_with (address_row a.convention) (place_in (datum_in (entry_at old v))) ++ xs) (at told vs (λ k w b row wk bk is. same (suc k) w b row wk bk is))

-- ---- the tasks behind an item

pub dropping_placed : (m : Module) (memory : Memory) (os : List ObjectId) (tasks : List (Task Frame)) → TasksPlaced m memory tasks → TasksPlaced m memory (dropping os tasks)
dropping_placed m memory [] tasks h = h
dropping_placed m memory (o ∷ os) tasks h = (tt, h)

pub goes_placed : (m : Module) (before after : Memory) (f : Function) (frame next : Frame) (rest : List (Task Frame)) → slice_get m.functions frame.function.0 ≡ Some f
    → next.function ≡ frame.function → next.lent ≡ [] → places_given f next.entries ≡ places_given f frame.entries → HoldsPlaces m after f next rest
    → length before.stack ≤ length after.stack → ((n : ℕ) → IsFree m rest n ⊎ (cell_at after OnStack n ≡ cell_at before OnStack n)) → BelowPlaced m before frame rest
    → TasksPlaced m after (Runs next ∷ rest)
goes_placed m before after f frame next rest is same none given holds more stays below = (
  record { f = f; is = ap (λ g. slice_get m.functions g.0) same ∙ is; holds = holds; none_lent = none },
  below_same m after frame next rest same (λ g there. subst (λ b. places_given b next.entries ≡ places_given b frame.entries) (same_Some f g (sym is ∙ there)) given)
      (below_still m before after more frame rest below (λ n lt. stays n)),
)
