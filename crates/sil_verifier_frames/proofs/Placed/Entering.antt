-- A function with a body is called: what the frame that waits and the new frame hold.
use Rattle.std.proofs.Common.{◌≡◌, ⊎_elim, ◌==◌, ◌&&◌, ◌<◌, ◌≤◌, ℕ, List, [], ◌∷◌, Bool, true, false, Option, Some, None, refl, sym, ap, ◌∙◌, subst, arith, slice_get, eq-eqb}
use Rattle.std.specs.Prelude.{cond}
use Rattle.std.proofs.lemmas.Bool.{and_right, cases_eq, cases_lt, false≢true, true≢false}
use Rattle.std.proofs.lemmas.Option.{none-some, same_Some}
use Rattle.holder_model_laws.specs.holder_model.Calling.{argument_data, lent_by, places_given}
use Rattle.holder_model_laws.specs.holder_model.Frames.{Entry, Frame, Gone, LentPlace, datum_in, entry_at}
use Rattle.holder_model_laws.specs.holder_model.StepParts.{new_frame}
use Rattle.holder_model_laws.specs.holder_model.States.{Task}
use Rattle.holder_model_laws.specs.memory_rules_accesses.Locations.{location_of}
use Rattle.holder_model_laws.specs.memory_rules_accesses.Rows.{is_part}
use Rattle.holder_model_laws.specs.memory_rules_accesses.Sources.{argument_source_or, handed_source, source_at, sources_of}
use Rattle.holder_model_laws.specs.memory_rules_accesses.declared.location.Location.{Location}
use Rattle.holder_model_laws.specs.memory_rules_accesses.declared.source.Source.TheVariants as source
use Rattle.holder_model_laws.specs.memory_rules_parts.Parts.{whole_cell}
use Rattle.holder_model_laws.specs.memory_rules_parts.declared.part.Part.TheVariants.{Contents}
use Rattle.sil_verifier_trails.specs.PlacedValues.inner.Arguments.{IsTold}
use Rattle.sil_verifier_trails.specs.AcceptedPlaces.inner.Cells.{is_full, part_by}
use Rattle.sil_verifier_trails.specs.AcceptedPlaces.inner.Stacks.{slots_on}
use Rattle.sil_verifier_trails.proofs.AcceptedPlaces.Fields.{has_among}
use Rattle.sil_verifier_trails.proofs.sil_verifier_values.Counted.{stands}
use Rattle.holder_model_laws.specs.sil_types.Typing.Shapes.{is_trivial_object}
use Rattle.sil_verifier_trails.specs.sil_verifier_values.inner.Known.{IsAcceptedBody}
use Rattle.sil_verifier_trails.proofs.PlacedValues.ArgumentsTold.{entry_source}
use Rattle.argument_conventions.specs.Arguments.{Told, arguments_of}
use Rattle.argument_conventions.specs.Rows.{address_row}
use Rattle.argument_conventions.specs.declared.convention.AddressConvention.TheVariants as address
use Rattle.argument_conventions.specs.declared.convention.ArgumentConvention.{ArgumentConvention}
use Rattle.argument_conventions.specs.declared.convention.ArgumentConvention.TheVariants as convention
use Rattle.argument_conventions.specs.declared.row.AddressRow.{AddressRow}
use Rattle.argument_conventions.specs.declared.row.Content.TheVariants as content
use Rattle.sil_cfg_items.specs.Items.{item_defined}
use Rattle.holder_model_laws.specs.HolderLaws.inner.Cells.Cells.{AreApart, IsCell, IsInside, cell_at, has_cell}
use Rattle.holder_model_laws.specs.ownership_kinds_chains.OwnershipChains.Facts.{has}
use Rattle.numbered_form.proofs.PointChecks.Among.{Among, contained_among}
use Rattle.holder_model_values.specs.RunValues.Memory.{Memory}
use Rattle.holder_model_values.specs.RunValues.Places.{OnStack, Place}
use Rattle.sil_ast.specs.declared.function.Function.{Function}
use Rattle.sil_ast.specs.declared.module.Module.{Module}
use Rattle.sil_ast.specs.declared.place.FuncId.{FuncId}
use Rattle.sil_ast.specs.declared.place.ValueId.{ValueId}
use Rattle.sil_cfg.specs.declared.item.Item.TheVariants as item
use Rattle.sil_types_declarations.specs.TypeDefinitions.Declarations.{declarations_of}
use Rattle.sil_verifier_frames.specs.inner.Placed.FramePlaces.{AreSlotsOf, HoldsPlaces, IsFree, Names}
use Rattle.sil_verifier_frames.specs.inner.Placed.Roots.{IsThere, argument, full_by, is_full_on, is_shared_source, slot}
use Rattle.sil_verifier_frames.specs.inner.Placed.TrailLaws.{TrailLaws}
use Rattle.sil_verifier_frames.proofs.Placed.Given.{ArePairsApart, apart_turned, get_mapped, given_apart, given_has, has_at}
use Rattle.sil_verifier_frames.proofs.Placed.Reading.{root_itself}

-- what is shared is full before and behind a call
pub shared_full : (c : ArgumentConvention) (row : AddressRow) → address_row c ≡ Some row → row.shared ≡ true → (row.before ≡ content.Full) × (row.after ≡ content.Full)
shared_full convention.Plain row is own = absurd (none-some row is)
shared_full convention.Owned row is own = absurd (none-some row is)
shared_full convention.Guaranteed row is own = absurd (none-some row is)
shared_full (convention.Address address.Inout) row is own = absurd (false≢true (ap (λ r. r.shared) (same_Some _ row is) ∙ own))
shared_full (convention.Address address.In) row is own = absurd (false≢true (ap (λ r. r.shared) (same_Some _ row is) ∙ own))
shared_full (convention.Address address.InGuaranteed) row is own = (ap (λ r. r.before) (sym (same_Some _ row is)), ap (λ r. r.after) (sym (same_Some _ row is)))
shared_full (convention.Address address.Out) row is own = absurd (false≢true (ap (λ r. r.shared) (same_Some _ row is) ∙ own))

-- ---- arguments of a frame and the places that it was given

module _ (laws : TrailLaws) (m : Module) (number : ℕ) (f : Function) (body : IsAcceptedBody m number f) where
  pub told_of : (v : ValueId) (row : AddressRow) (trivial : Bool) → source_at (sources_of (declarations_of m) f) v ≡ source.Argument row trivial
      → IsTold (declarations_of m) f v row trivial
  told_of = laws.told m number f body

  pub argument_place : (entries : List Entry) (v : ValueId) (row : AddressRow) (trivial : Bool)
      → source_at (sources_of (declarations_of m) f) v ≡ source.Argument row trivial → (p : Place) → Names entries v p → Among (lent_by row p) (places_given f entries)
  argument_place entries v row trivial is p names =
      let told = told_of v row trivial is in
      given_has (arguments_of f.signature) (argument_data entries (item_defined f item.Entry)) told.number told.told row p told.told_is told.row_is
      (get_mapped (λ w. datum_in (entry_at entries w)) (item_defined f item.Entry) told.number v told.is ∙ ap Some names)

  pub arguments_apart : (entries : List Entry) → ArePairsApart (places_given f entries) → (v w : ValueId) (one other : AddressRow) (t u : Bool)
      → source_at (sources_of (declarations_of m) f) v ≡ source.Argument one t → source_at (sources_of (declarations_of m) f) w ≡ source.Argument other u
      → (v.0 == w.0) ≡ false → (one.shared && other.shared) ≡ false → (p q : Place) → Names entries v p → Names entries w q → AreApart p q
  arguments_apart entries pairs v w one other t u vs ws differ own p q pn qn = ⊎_elim
      (λ (same : a.number ≡ b.number). absurd (true≢false (sym (eq-eqb v.0 w.0 (ap (λ x. x.0) (same_Some v w (sym a.is ∙ ap (slice_get (item_defined f item.Entry)) same ∙ b.is)))) ∙ differ)))
      (λ (not_so : a.number ≡ b.number → ⊥). ⊎_elim
      (λ (lt : a.number < b.number). pair v w one other p q a b lt pn qn own)
      (λ (le : b.number ≤ a.number).
      apart_turned q p (pair w v other one q p b a (omega (arith, le, not_so)) qn pn (turned one.shared other.shared own)))
      (cases_lt a.number b.number))
      (cases_eq a.number b.number)
    where
      a : IsTold (declarations_of m) f v one t
      a = told_of v one t vs

      b : IsTold (declarations_of m) f w other u
      b = told_of w other u ws

      turned : (x y : Bool) → (x && y) ≡ false → (y && x) ≡ false
      turned true y e = ap (λ z. z && true) e
      turned false y e = and_right y false refl

      pair : {t u : Bool} (v w : ValueId) (one other : AddressRow) (p q : Place) (a : IsTold (declarations_of m) f v one t) (b : IsTold (declarations_of m) f w other u)
          → a.number < b.number → Names entries v p → Names entries w q → (one.shared && other.shared) ≡ false → AreApart p q
      pair v w one other p q a b lt pn qn own =
          given_apart (arguments_of f.signature) (argument_data entries (item_defined f item.Entry)) pairs a.number b.number lt a.told b.told one other p q
          a.told_is b.told_is a.row_is b.row_is
          (get_mapped (λ w. datum_in (entry_at entries w)) (item_defined f item.Entry) a.number v a.is ∙ ap Some pn)
          (get_mapped (λ w. datum_in (entry_at entries w)) (item_defined f item.Entry) b.number w b.is ∙ ap Some qn)
          own

  -- an argument's place at the entry is as its row says
  pub full_at_entry : (v : ValueId) (row : AddressRow) (trivial : Bool) → source_at (sources_of (declarations_of m) f) v ≡ source.Argument row trivial
      → is_full_on (declarations_of m) f v (item.Entry ∷ []) ≡ Some (is_full row.before)
  full_at_entry v row trivial is =
      ap (λ s. full_by (declarations_of m) f (item.Entry ∷ []) (part_by (sources_of (declarations_of m) f) v s)) is ∙ at row.shared refl
    where
      at : (b : Bool) → row.shared ≡ b → full_by (declarations_of m) f (item.Entry ∷ []) (part_by (sources_of (declarations_of m) f) v (source.Argument row trivial)) ≡ Some (is_full row.before)
      at true e =
          let told = told_of v row trivial is in
          ap (full_by (declarations_of m) f (item.Entry ∷ [])) (ap (λ b. cond b None (Some (Contents (whole_cell v) trivial (Some row.after)))) e)
          ∙ ap (λ c. Some (is_full c)) (sym (shared_full told.told.convention row told.row_is e).0)
      at false e =
          let told = told_of v row trivial is in
          ap (full_by (declarations_of m) f (item.Entry ∷ [])) (ap (λ b. cond b None (Some (Contents (whole_cell v) trivial (Some row.after)))) e)
          ∙ laws.given m number f body v row trivial is e (has_at (item_defined f item.Entry) told.number v told.is)

  -- at the entry the arguments alone are there
  pub no_slots : slots_on (declarations_of m) f (item.Entry ∷ []) ≡ []
  no_slots = laws.slots_kept m number f body [] item.Entry refl

  pub there_at_entry : (v : ValueId) → IsThere (declarations_of m) f (item.Entry ∷ []) v
      → (row : AddressRow) × (trivial : Bool) × (source_at (sources_of (declarations_of m) f) v ≡ source.Argument row trivial)
  there_at_entry v (slot trivial is there) = absurd (false≢true (sym (ap (λ vs. has vs v.0) no_slots) ∙ there))
  there_at_entry v (argument row trivial is) = (row, trivial, is)

  -- a function begins so, if the places that it was given are as their rows say
  pub record IsGiven (memory : Memory) (entries : List Entry) (rest : List (Task Frame)) : Type 0 where
    pub named : (v : ValueId) (row : AddressRow) (trivial : Bool) → source_at (sources_of (declarations_of m) f) v ≡ source.Argument row trivial → (p : Place) × Names entries v p
    pub others : (v : ValueId) → has (item_defined f item.Entry) v.0 ≡ false → entry_at entries v ≡ Gone
    pub pairs : ArePairsApart (places_given f entries)
    pub each : (l : LentPlace) → Among l (places_given f entries) → (l.place.home ≡ OnStack) × IsInside memory l.place × (l.place.is_part ≡ false)
    pub cells : (l : LentPlace) → Among l (places_given f entries) → (n : ℕ) → has_cell l.place n ≡ true → IsCell (is_full l.row.before) (cell_at memory OnStack n)
    pub free : (l : LentPlace) → Among l (places_given f entries) → l.row.shared ≡ false → (n : ℕ) → has_cell l.place n ≡ true → IsFree m rest n

  pub begins_so : (memory : Memory) (g : FuncId) (entries : List Entry) (rest : List (Task Frame)) → IsGiven memory entries rest
      → HoldsPlaces m memory f (new_frame g entries) rest
  begins_so memory g entries rest x = record {
    named = λ v there.
        let a = there_at_entry v there in
        let p = x.named v a.0 a.1 a.2 in
        let e = x.each (lent_by a.0 p.0) (argument_place entries v a.0 a.1 a.2 p.0 p.1) in
        record { place = p.0; names = p.1; home = e.0; inside = e.1 };
    cells = λ v there p names on is n has unlent.
        let a = there_at_entry v there in
        let same : is_full a.0.before ≡ on = same_Some (is_full a.0.before) on (sym (full_at_entry v a.0 a.1 a.2) ∙ is) in
        subst (λ b. IsCell b (cell_at memory OnStack n)) same (x.cells (lent_by a.0 p) (argument_place entries v a.0 a.1 a.2 p names) n has);
    apart = λ v w a b differ shared p q pn qn.
        let s = there_at_entry v a in
        let t = there_at_entry w b in
        arguments_apart entries x.pairs v w s.0 t.0 s.1 t.1 s.2 t.2 differ
        (sym (ap (λ y. is_shared_source y && is_shared_source (source_at (sources_of (declarations_of m) f) w)) s.2 ∙ ap (λ y. s.0.shared && is_shared_source y) t.2) ∙ shared)
        p q pn qn;
    free = λ v there own p names n has.
        let a = there_at_entry v there in
        x.free (lent_by a.0 p) (argument_place entries v a.0 a.1 a.2 p names) (sym (ap is_shared_source a.2) ∙ own) n has;
    parts = λ v l is part made whole p one two. absurd (no_part v l is part p two (has (item_defined f item.Entry) v.0) refl);
    fields = λ v l is of k trivial src p names home. no_field v l is of k trivial src p names (has (item_defined f item.Entry) v.0) refl;
    handed = λ v row trivial is p names. (x.each (lent_by row p) (argument_place entries v row trivial is p names)).2;
    slots = subst (λ vs. AreSlotsOf entries vs []) (sym no_slots) tt;
  }
    where
      no_part : (v : ValueId) (l : Location) → location_of (sources_of (declarations_of m) f) v ≡ Some l → is_part l ≡ true → (p : Place) → Names entries v p
          → (b : Bool) → has (item_defined f item.Entry) v.0 ≡ b → ⊥
      no_part v l is part p names true e = true≢false (sym part ∙ laws.whole m number f body v e l is)
      no_part v l is part p names false e = none-some _ (ap datum_in (sym (x.others v e)) ∙ names)

      -- what an argument of the entry is by its source
      no_source : (o : Option Told) (of : ValueId) (k : ℕ) (trivial : Bool) → argument_source_or (declarations_of m) o ≡ source.Field of k trivial → ⊥
      no_source None of k trivial e = absurd (cc)
      no_source (Some a) of k trivial e = handed_no (address_row a.convention) e
        where
          handed_no : (r : Option AddressRow) → handed_source (is_trivial_object (declarations_of m) a.ty) r ≡ source.Field of k trivial → ⊥
          handed_no None e = absurd (cc)
          handed_no (Some row) e = absurd (cc)

      no_field : (v : ValueId) (l : Location) → location_of (sources_of (declarations_of m) f) v ≡ Some l → (of : ValueId) (k : ℕ) (trivial : Bool)
          → source_at (sources_of (declarations_of m) f) l.root ≡ source.Field of k trivial → (p : Place) → Names entries v p
          → (b : Bool) → has (item_defined f item.Entry) v.0 ≡ b → ⊥
      no_field v l is of k trivial src p names false e = none-some _ (ap datum_in (sym (x.others v e)) ∙ names)
      no_field v l is of k trivial src p names true e =
          let at = stands (item_defined f item.Entry) v (contained_among v (item_defined f item.Entry) (has_among (item_defined f item.Entry) v e)) in
          let itself = root_itself (sources_of (declarations_of m) f) v l is (laws.whole m number f body v e l is) in
          no_source (slice_get (arguments_of f.signature) at.0) of k trivial
          (sym (entry_source m number f body at.0 v at.1) ∙ ap (source_at (sources_of (declarations_of m) f)) (sym itself) ∙ src)
