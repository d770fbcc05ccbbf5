-- What an item reads: an operand's datum is that of its entry and names no dead object, so a place that it names in an object has its cells.
use Rattle.std.proofs.Common.{◌≡◌, ◌≤◌, ◌<◌, ◌+◌, List, [], ◌∷◌, ◌++◌, length, refl, sym, ap, ◌∙◌, subst, arith, length-append, Bool, true, false, cond}
use Rattle.std.proofs.Common.{inl, inr, Option, Some, None, Ok, Err}
use Rattle.std.specs.Prelude.{Contains, slice_get, unwrap_or}
use Rattle.std.specs.declared.result.Result.{Result}
use Rattle.std.proofs.lemmas.Bool.{or_parts}
use Rattle.std.proofs.lemmas.Option.{none-some, same_Some, slice_get_within}
use Rattle.sil_verifier_frames.specs.holder_model.Data.{AddressOf, Datum, home_references, references_in}
use Rattle.sil_verifier_frames.specs.holder_model.Faults.{HolderFault, NamesDead}
use Rattle.sil_verifier_frames.specs.holder_model.Frames.{Entry, Gone, Held, Lent, Operands, Plain, and_more, any_dead, datum_in, datum_or_fault, ends, entry_at, operand}
use Rattle.sil_verifier_frames.specs.holder_model.Frames.{operand_data}
use Rattle.sil_verifier_frames.specs.holder_model.Frames.{operands_of, unless_dead, used_datum}
use Rattle.sil_verifier_frames.specs.holder_model.RunTyping.CallForms.{IsOf}
use Rattle.sil_verifier_frames.specs.holder_model.RunTyping.Forms.{Form, OfPlace, form_of}
use Rattle.sil_verifier_frames.specs.holder_model_laws.HolderLaws.inner.Built.FrameObjects.{Names}
use Rattle.sil_verifier_frames.proofs.holder_model_laws.HolderLaws.Counts.Entries.{IsLeftOf, chosen_ok, left_of, ok_through, was_there}
use Rattle.sil_verifier_frames.proofs.holder_model_laws.HolderLaws.Counts.Moves.{operands_are}
use Rattle.sil_cfg_items.specs.declared.taken.Taken.{Taken}
use Rattle.sil_verifier_frames.specs.holder_model_laws.HolderLaws.inner.Cells.Cells.{IsInside, behind}
use Rattle.sil_verifier_frames.specs.ownership_kinds_chains.declared.ownership_chains.facts.Facts.{Facts}
use Rattle.numbered_form.proofs.PointChecks.Among.{Among, among_contained}
use Rattle.holder_model_values.specs.RunValues.Cells.{Cell, cell_count}
use Rattle.holder_model_values.specs.RunValues.Memory.{Memory, is_dead, object_at}
use Rattle.holder_model_values.specs.RunValues.Places.{Inside, Place, home_cells}
use Rattle.holder_model_values.specs.RunValues.Shapes.{Shape}
use Rattle.sil_ast.specs.declared.function.Function.{Function}
use Rattle.sil_ast.specs.declared.module.Module.{Module}
use Rattle.sil_ast.specs.declared.place.ObjectId.{ObjectId}
use Rattle.sil_ast.specs.declared.place.ValueId.{ValueId}
use Rattle.sil_types_declarations.specs.TypeDefinitions.Declarations.{declarations_of}
use Rattle.sil_verifier_frames.specs.inner.Typed.TypedStates.{EntriesAre}
use Rattle.sil_verifier_frames.proofs.Typed.Entries.{entry_fits}
use Rattle.sil_verifier_frames.specs.holder_model_typing.TypedMemory.inner.Worlds.{CellIs, CellsAre, DatumIs, IsIn, MemoryIs, PlaceIs, World, fields_of_class}
use Rattle.sil_verifier_frames.proofs.holder_model_typing.TypedMemory.CellShapes.{place_within, shape_count}
use Rattle.sil_verifier_frames.proofs.holder_model_typing.TypedMemory.Homes.{object_is}
use Rattle.sil_verifier_frames.proofs.holder_model_typing.TypedMemory.Zips.{zip_beside}

-- ---- operands

module _ (facts : ValueId → Option Facts) (m : Memory) (before left : List Entry) (from : IsLeftOf before left) where
  datum_of : (o : Option Datum) (y : Datum) → datum_or_fault o ≡ Ok y → o ≡ Some y
  datum_of None y e = cc
  datum_of (Some z) y e = let same : z ≡ y = cc in ap (λ x. Some x) same

  -- an operand that is read is that of its entry
  operand_read : (t : Taken) (x : Datum) → operand facts m before left t ≡ Ok x → (datum_in (entry_at before t.value) ≡ Some x) × (any_dead m (references_in x) ≡ false)
  operand_read t x h =
      let y = ok_through (unless_dead m) (cond (ends facts t) (datum_or_fault (datum_in (entry_at before t.value))) (used_datum t.role (entry_at left t.value))) x h in
      let put = chosen_ok (any_dead m (references_in y.0)) NamesDead (Ok y.0) x y.2 in
      let same : y.0 ≡ x = let e = put.1 in cc in
      (at (ends facts t) y.0 y.1 ∙ ap (λ z. Some z) same, subst (λ z. any_dead m (references_in z) ≡ false) same put.0)
    where
      of_entry : (e : Entry) (y : Datum) → used_datum t.role e ≡ Ok y → datum_in e ≡ Some y
      of_entry Gone y e = cc
      of_entry (Held z) y e = let same : z ≡ y = cc in ap (λ x. Some x) same
      of_entry (Lent z) y e = let same : z ≡ y = let r = (chosen_ok _ _ (Ok z) y e).1 in cc in ap (λ x. Some x) same
      of_entry (Plain z) y e = let same : z ≡ y = cc in ap (λ x. Some x) same

      at : (b : Bool) (y : Datum) → cond b (datum_or_fault (datum_in (entry_at before t.value))) (used_datum t.role (entry_at left t.value)) ≡ Ok y
          → datum_in (entry_at before t.value) ≡ Some y
      at true y e = datum_of (datum_in (entry_at before t.value)) y e
      at false y e =
          let used = of_entry (entry_at left t.value) y e in
          ap datum_in (was_there before left t.value from (λ gone. absurd (none-some y (sym (ap datum_in gone) ∙ used)))) ∙ used

  more_parts : (x : Datum) (r : Result (List Datum) HolderFault) (all : List Datum) → and_more x r ≡ Ok all → (xs : List Datum) × (r ≡ Ok xs)
  more_parts x (Ok xs) all h = (xs, refl)
  more_parts x (Err e) all h = cc

  data_read : (ts : List Taken) (xs : List Datum) → operand_data facts m before left ts ≡ Ok xs → (t : Taken) → Among t ts
      → (x : Datum) × (datum_in (entry_at before t.value) ≡ Some x) × (any_dead m (references_in x) ≡ false)
  data_read [] xs h t among = absurd among
  data_read (y ∷ ts) xs h t among =
      let first = ok_through (λ x. and_more x (operand_data facts m before left ts)) (operand facts m before left y) xs h in
      let more = more_parts first.0 (operand_data facts m before left ts) xs first.2 in
      by first.0 first.1 (data_read ts more.0 more.1 t) among
    where
      by : (x : Datum) → operand facts m before left y ≡ Ok x
          → (Among t ts → (x : Datum) × (datum_in (entry_at before t.value) ≡ Some x) × (any_dead m (references_in x) ≡ false))
          → Among t (y ∷ ts) → (x : Datum) × (datum_in (entry_at before t.value) ≡ Some x) × (any_dead m (references_in x) ≡ false)
      by x is rest (inl same) =
          let read = operand_read y x is in
          subst (λ (z : Taken). (x : Datum) × (datum_in (entry_at before z.value) ≡ Some x) × (any_dead m (references_in x) ≡ false)) (sym same) (x, read.0, read.1)
      by x is rest (inr more) = rest more

-- the object in which an operand names a place isn't dead
pub operand_alive : (facts : ValueId → Option Facts) (m : Memory) (entries : List Entry) (ts : List Taken) (ops : Operands) → operands_of facts m entries ts ≡ Ok ops
    → (t : Taken) → Contains ts t → (p : Place) → Names entries t.value (AddressOf p) → (o : ObjectId) → p.home ≡ Inside o → is_dead m o ≡ false
operand_alive facts m entries ts ops h t c p names o home =
    let are = operands_are facts m entries ts ops h in
    let read = data_read facts m entries ops.left (left_of facts ts entries ops.left are.left) ts ops.given are.given t (among_contained t ts c) in
    let same : read.0 ≡ AddressOf p = same_Some read.0 (AddressOf p) (sym read.1 ∙ names) in
    (or_parts (is_dead m o) false (sym (ap (λ x. any_dead m (home_references x)) home) ∙ sym (ap (λ x. any_dead m (references_in x)) same) ∙ read.2)).0

-- ---- places

module _ (m : Module) (w : World) where
  -- the datum at an address's entry is that of a place
  datum_place : (form : Form) (x : Datum) → DatumIs m w form x → (p : Place) → x ≡ AddressOf p → (PlaceIs m w p) × (form ≡ OfPlace p.shape)
  datum_place _ _ (DatumIs.value s x suits) p e = absurd (cc)
  datum_place _ _ (DatumIs.place q is) p e = let same : q ≡ p = cc in (subst (PlaceIs m w) same is, ap (λ (r : Place). OfPlace r.shape) same)
  datum_place _ _ (DatumIs.function g) p e = absurd (cc)

  module _ (f : Function) (entries : List Entry) (typed : EntriesAre m w f entries) where
    entry_of : (v : ValueId) (x : Datum) → Names entries v x → IsOf f v
    entry_of v x names = at (slice_get entries v.0) refl names
      where
        at : (o : Option Entry) → slice_get entries v.0 ≡ o → datum_in (unwrap_or o Gone) ≡ Some x → IsOf f v
        at None is h = absurd (none-some x h)
        at (Some e) is h = subst (λ n. v.0 < n) typed.size (slice_get_within entries v.0 e is)

    pub named_datum : (v : ValueId) (x : Datum) → Names entries v x → DatumIs m w (form_of (declarations_of m) f v) x
    named_datum v x names = (entry_fits m w f v (typed.each v (entry_of v x names)) x names).is

    pub named_place : (v : ValueId) (p : Place) → Names entries v (AddressOf p) → (PlaceIs m w p) × (form_of (declarations_of m) f v ≡ OfPlace p.shape)
    named_place v p names = datum_place (form_of (declarations_of m) f v) (AddressOf p) (named_datum v (AddressOf p) names) p refl

  within : (shapes : List Shape) (p : Place) → IsIn shapes p → (cells : List Cell) → CellsAre m w shapes cells → behind p ≤ length cells
  within shapes p at cells are =
      let beside = (zip_beside (CellIs m w) (place_within shapes p at) cells are).0 in
      let count : length beside.before ≡ p.first = beside.count in
      let own : length beside.own ≡ cell_count p.shape = beside.size ∙ shape_count p.shape in
      let all : length cells ≡ length beside.before + (length beside.own + length beside.behind) =
      ap length beside.splits ∙ length-append beside.before (beside.own ++ beside.behind)
      ∙ ap (λ n. length beside.before + n) (length-append beside.own beside.behind) in
      omega arith

  -- where its object isn't dead, a place has its cells
  pub place_inside : (memory : Memory) → MemoryIs m w memory → (p : Place) → PlaceIs m w p → ((o : ObjectId) → p.home ≡ Inside o → is_dead memory o ≡ false) → IsInside memory p
  place_inside memory typed p (PlaceIs.on_stack home at) alive =
      subst (λ h. behind p ≤ length (home_cells memory h)) (sym home) (within w.slots p at memory.stack typed.stack)
  place_inside memory typed p (PlaceIs.inside o class home there at) alive =
      subst (λ h. behind p ≤ length (home_cells memory h)) (sym home)
      (within (fields_of_class m w class) p at (object_at memory o).cells ((object_is m w memory typed o class there).cells (alive o home)))
