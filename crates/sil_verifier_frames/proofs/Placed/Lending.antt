-- What a call lends: each place is lent by an operation, within the place of its root, and holds what its row asks before the call.
use Rattle.std.proofs.Common.{◌≡◌, ⊎_elim, inl, inr, ◌&&◌, ◌||◌, ◌++◌, ℕ, List, [], ◌∷◌, Bool, true, false, cond, not, Some, refl, sym, ap, ◌∙◌, subst}
use Rattle.std.proofs.lemmas.Bool.{false≢true, true≢false}
use Rattle.sil_verifier_trails.specs.AcceptedTrails.inner.Bases.{IsAsMade}
use Rattle.holder_model_laws.specs.holder_model.Frames.{Entry, LentPlace}
use Rattle.holder_model_laws.specs.memory_rules_accesses.Locations.{do_overlap, location_of}
use Rattle.holder_model_laws.specs.memory_rules_accesses.Operations.{deallocates, operations_of}
use Rattle.holder_model_laws.specs.memory_rules_accesses.Rows.{has_by, has_operation, is_part, shared_has, slot_has}
use Rattle.holder_model_laws.specs.memory_rules_accesses.Sources.{is_trivial_at, source_at, sources_of}
use Rattle.holder_model_laws.specs.memory_rules_accesses.declared.access.Operated.{Operated}
use Rattle.holder_model_laws.specs.memory_rules_accesses.declared.access.Operation.TheVariants.{Handed}
use Rattle.holder_model_laws.specs.memory_rules_accesses.declared.location.Location.{Location}
use Rattle.holder_model_laws.specs.memory_rules_accesses.declared.source.Source.{Source}
use Rattle.holder_model_laws.specs.memory_rules_parts.Contents.{handed_mark}
use Rattle.sil_verifier_trails.specs.RunTrails.inner.RunTrails.{GoesOn, IsRunTrail}
use Rattle.sil_verifier_trails.specs.RunTrails.inner.Switched.{finds}
use Rattle.sil_verifier_trails.specs.AcceptedPlaces.inner.Cells.{mark_at}
use Rattle.sil_verifier_trails.specs.sil_verifier_values.inner.Known.{IsAcceptedBody}
use Rattle.argument_conventions.specs.Rows.{keeps_full, row_of}
use Rattle.argument_conventions.specs.declared.convention.AddressConvention.{AddressConvention}
use Rattle.argument_conventions.specs.declared.convention.AddressConvention.TheVariants as convention
use Rattle.argument_conventions.specs.declared.row.AddressRow.{AddressRow}
use Rattle.argument_conventions.specs.declared.row.Content.{Content}
use Rattle.argument_conventions.specs.declared.row.Content.TheVariants as content
use Rattle.sil_cfg_items.specs.Parts.{inst_at}
use Rattle.numbered_form.proofs.PointChecks.Among.{Among, contained_among}
use Rattle.sil_ast.specs.declared.function.Function.{Function}
use Rattle.sil_ast.specs.declared.inst.Inst.{Inst}
use Rattle.sil_ast.specs.declared.module.Module.{Module}
use Rattle.sil_ast.specs.declared.place.PointId.{PointId}
use Rattle.sil_cfg.specs.declared.item.Item.{Item}
use Rattle.sil_cfg.specs.declared.item.Item.TheVariants as item
use Rattle.sil_types_declarations.specs.TypeDefinitions.Declarations.{declarations_of}
use Rattle.sil_verifier_frames.specs.inner.Placed.FramePlaces.{Names}
use Rattle.sil_verifier_frames.specs.inner.Placed.PlaceStates.{AreLentBy}
use Rattle.sil_verifier_frames.specs.inner.Placed.Roots.{IsThere, is_shared, is_shared_source}
use Rattle.sil_verifier_frames.specs.inner.Placed.TrailLaws.{TrailLaws}
use Rattle.sil_verifier_frames.proofs.Placed.Contents.{FoundAt, IsOnStack, found_at, on_stack}

-- ---- lent places and operations, one by one

pub record IsLentBy (entries : List Entry) (os : List Operated) (l : LentPlace) : Type 0 where
  pub by : Operated
  pub among : Among by os
  pub operation : by.operation ≡ Handed l.row
  pub names : Names entries by.address l.place

pub record Lends (entries : List Entry) (ls : List LentPlace) (o : Operated) : Type 0 where
  pub place : LentPlace
  pub among : Among place ls
  pub operation : o.operation ≡ Handed place.row
  pub names : Names entries o.address place.place

module _ (entries : List Entry) where
  pub lent_by_one : (os : List Operated) (ls : List LentPlace) → AreLentBy entries os ls → (l : LentPlace) → Among l ls → IsLentBy entries os l
  lent_by_one [] [] h l c = absurd c
  lent_by_one [] (k ∷ ls) h l c = absurd h
  lent_by_one (o ∷ os) [] h l c = absurd h
  lent_by_one (o ∷ os) (k ∷ ls) h l c = ⊎_elim
      (λ (here : l ≡ k). record {
        by = o;
        among = inl refl;
        operation = h.0 ∙ ap (λ x. Handed x.row) (sym here);
        names = subst (λ x. Names entries o.address x.place) (sym here) h.1;
      })
      (λ (later : Among l ls).
      let x = lent_by_one os ls h.2 l later in
      record { by = x.by; among = inr x.among; operation = x.operation; names = x.names })
      c

  pub lends_one : (os : List Operated) (ls : List LentPlace) → AreLentBy entries os ls → (o : Operated) → Among o os → Lends entries ls o
  lends_one [] [] h o c = absurd c
  lends_one [] (k ∷ ls) h o c = absurd c
  lends_one (p ∷ os) [] h o c = absurd h
  lends_one (p ∷ os) (k ∷ ls) h o c = ⊎_elim
      (λ (here : o ≡ p). record {
        place = k;
        among = inl refl;
        operation = ap (λ x. x.operation) here ∙ h.0;
        names = subst (λ x. Names entries x.address k.place) (sym here) h.1;
      })
      (λ (later : Among o os).
      let x = lends_one os ls h.2 o later in
      record { place = x.place; among = inr x.among; operation = x.operation; names = x.names })
      c

-- ---- what rows ask

pub full_asked : (trivial on : Bool) (before after : Content) → finds (handed_mark trivial before after).needs on ≡ true → before ≡ content.Full → on ≡ true
full_asked trivial on content.Full content.Full found e = found
full_asked true on content.Full content.Empty found e = found
full_asked false on content.Full content.Empty found e = found
full_asked trivial on content.Empty after found e = absurd (not_so e)
  where
    not_so : content.Empty ≡ content.Full → ⊥
    not_so e = cc

pub off_needed : (on : Bool) → finds (Some false) on ≡ true → on ≡ false
off_needed true e = absurd (false≢true e)
off_needed false e = refl

pub empty_asked : (on : Bool) (before after : Content) → finds (handed_mark false before after).needs on ≡ true → before ≡ content.Empty → on ≡ false
empty_asked on content.Empty content.Full found e = off_needed on found
empty_asked on content.Empty content.Empty found e = off_needed on found
empty_asked on content.Full after found e = absurd (not_so e)
  where
    not_so : content.Full ≡ content.Empty → ⊥
    not_so e = cc

-- what is handed over so that the callee fills it isn't shared, and is a whole
pub whole_where_empty : (sources : List Source) (s : Source) → IsOnStack s → (part : Bool) (c : AddressConvention) → (row_of c).before ≡ content.Empty
    → has_by sources s part (Handed (row_of c)) ≡ true → part ≡ false
whole_where_empty sources s on part convention.Inout e has = absurd (not_so e)
  where
    not_so : content.Full ≡ content.Empty → ⊥
    not_so e = cc
whole_where_empty sources s on part convention.In e has = absurd (not_so e)
  where
    not_so : content.Full ≡ content.Empty → ⊥
    not_so e = cc
whole_where_empty sources s on part convention.InGuaranteed e has = absurd (not_so e)
  where
    not_so : content.Full ≡ content.Empty → ⊥
    not_so e = cc
whole_where_empty sources _ (IsOnStack.a_slot trivial) part convention.Out e has = at part has
  where
    at : (b : Bool) → (not b || false) ≡ true → b ≡ false
    at true e = absurd (false≢true e)
    at false e = refl
whole_where_empty sources _ (IsOnStack.an_argument row trivial) part convention.Out e has = by row.shared has
  where
    at : (b : Bool) → (not b || false) ≡ true → b ≡ false
    at true e = absurd (false≢true e)
    at false e = refl

    by : (b : Bool) → cond b false (not part || false) ≡ true → part ≡ false
    by true e = absurd (false≢true e)
    by false e = at part e

-- what isn't handed over to be shared isn't at a root that is shared
pub alone_where_own : (sources : List Source) (s : Source) → IsOnStack s → (part : Bool) (c : AddressConvention) → (row_of c).shared ≡ false
    → has_by sources s part (Handed (row_of c)) ≡ true → is_shared_source s ≡ false
alone_where_own sources _ (IsOnStack.a_slot trivial) part c own has = refl
alone_where_own sources _ (IsOnStack.an_argument row trivial) part c own has = by row.shared c own has
  where
    by : (b : Bool) (c : AddressConvention) → (row_of c).shared ≡ false → cond b (shared_has (Handed (row_of c))) (slot_has part (Handed (row_of c))) ≡ true → b ≡ false
    by false c own has = refl
    by true convention.Inout own has = absurd (false≢true has)
    by true convention.In own has = absurd (false≢true has)
    by true convention.InGuaranteed own has = absurd (true≢false own)
    by true convention.Out own has = absurd (false≢true has)

-- a part is handed over where it stays full
pub whole_or_full : (sources : List Source) (s : Source) → IsOnStack s → (part : Bool) (c : AddressConvention) → part ≡ true
    → has_by sources s part (Handed (row_of c)) ≡ true → keeps_full (row_of c) ≡ true
whole_or_full sources s on part convention.Inout e has = refl
whole_or_full sources s on part convention.InGuaranteed e has = refl
whole_or_full sources _ (IsOnStack.a_slot trivial) part convention.In e has = absurd (false≢true (ap (λ b. not b || false) (sym e) ∙ has))
whole_or_full sources _ (IsOnStack.a_slot trivial) part convention.Out e has = absurd (false≢true (ap (λ b. not b || false) (sym e) ∙ has))
whole_or_full sources _ (IsOnStack.an_argument row trivial) part convention.In e has = by row.shared has
  where
    by : (b : Bool) → cond b false (not part || false) ≡ true → false ≡ true
    by true h = h
    by false h = ap (λ b. not b || false) (sym e) ∙ h
whole_or_full sources _ (IsOnStack.an_argument row trivial) part convention.Out e has = by row.shared has
  where
    by : (b : Bool) → cond b false (not part || false) ≡ true → false ≡ true
    by true h = h
    by false h = ap (λ b. not b || false) (sym e) ∙ h

-- ---- the call

module _ (laws : TrailLaws) (m : Module) (number : ℕ) (f : Function) (body : IsAcceptedBody m number f) (t : List Item) (point : PointId) (x : Inst) where
  pub record IsLocatedAt (o : Operated) : Type 0 where
    pub location : Location
    pub is : location_of (sources_of (declarations_of m) f) o.address ≡ Some location
    pub there : IsThere (declarations_of m) f t location.root
    pub made : IsAsMade f t location.root o.address

  -- a trail has come to a call, whose operations are at locations that are there
  pub record IsCallAt : Type 0 where
    pub inst : inst_at f point ≡ Some x
    pub trail : IsRunTrail f (item.Inst point ∷ t)
    pub goes : GoesOn t
    pub kept : deallocates x ≡ false
    pub located : (o : Operated) → Among o (operations_of x) → IsLocatedAt o
    pub rows : (o : Operated) → Among o (operations_of x) → (l : Location) → location_of (sources_of (declarations_of m) f) o.address ≡ Some l
        → has_operation (sources_of (declarations_of m) f) l o.operation ≡ true
    pub tabled : (o : Operated) → Among o (operations_of x) → (row : AddressRow) → o.operation ≡ Handed row → (c : AddressConvention) × (row ≡ row_of c)
    pub apart : (before between rest : List Operated) (a b : Operated) (one other : AddressRow) → operations_of x ≡ before ++ a ∷ (between ++ b ∷ rest)
        → a.operation ≡ Handed one → b.operation ≡ Handed other → (one.shared && other.shared) ≡ false
        → do_overlap (sources_of (declarations_of m) f) a.address b.address ≡ false

  module _ (call : IsCallAt) (o : Operated) (c : Among o (operations_of x)) where
    pub root_on_stack : IsOnStack (source_at (sources_of (declarations_of m) f) (call.located o c).location.root)
    root_on_stack = on_stack laws m number f body t (call.located o c).location.root (call.located o c).there

    pub found_there : FoundAt laws m number f body t (item.Inst point) (call.located o c).location o.operation
    found_there = found_at laws m number f body t point call.trail o (call.located o c).location
        (record { inst = x; is = call.inst; among = contained_among o (operations_of x) c; at = (call.located o c).is })
        root_on_stack

    module _ (row : AddressRow) (is : o.operation ≡ Handed row) where
      abbrev by_table : AddressConvention
      by_table = (call.tabled o c row is).0

      has : has_operation (sources_of (declarations_of m) f) (call.located o c).location (Handed (row_of by_table)) ≡ true
      has = ap (has_operation (sources_of (declarations_of m) f) (call.located o c).location) (sym (is ∙ ap Handed (call.tabled o c row is).1))
          ∙ call.rows o c (call.located o c).location (call.located o c).is

      pub is_whole : row.before ≡ content.Empty → is_part (call.located o c).location ≡ false
      is_whole e = whole_where_empty (sources_of (declarations_of m) f) _ root_on_stack (is_part (call.located o c).location) by_table
          (ap (λ r. r.before) (sym (call.tabled o c row is).1) ∙ e) has

      pub is_alone : row.shared ≡ false → is_shared (declarations_of m) f (call.located o c).location.root ≡ false
      is_alone e = alone_where_own (sources_of (declarations_of m) f) _ root_on_stack (is_part (call.located o c).location) by_table
          (ap (λ r. r.shared) (sym (call.tabled o c row is).1) ∙ e) has

      pub part_full : is_part (call.located o c).location ≡ true → keeps_full row ≡ true
      part_full e = ap keeps_full (call.tabled o c row is).1
          ∙ whole_or_full (sources_of (declarations_of m) f) _ root_on_stack (is_part (call.located o c).location) by_table e has

      -- what is to be filled isn't shared
      pub own_where_empty : row.before ≡ content.Empty → row.shared ≡ false
      own_where_empty e = ap (λ r. r.shared) (call.tabled o c row is).1 ∙ at by_table (ap (λ r. r.before) (sym (call.tabled o c row is).1) ∙ e)
        where
          at : (c : AddressConvention) → (row_of c).before ≡ content.Empty → (row_of c).shared ≡ false
          at convention.Inout e = refl
          at convention.In e = refl
          at convention.InGuaranteed e = absurd (not_so e)
            where
              not_so : content.Full ≡ content.Empty → ⊥
              not_so e = cc
          at convention.Out e = refl

      found_by_row : finds (handed_mark (is_trivial_at (sources_of (declarations_of m) f) (call.located o c).location.root) row.before row.after).needs found_there.on ≡ true
      found_by_row = subst (λ p. finds (mark_at (declarations_of m) f (call.located o c).location p).needs found_there.on ≡ true) is found_there.found

      pub found_full : row.before ≡ content.Full → found_there.on ≡ true
      found_full e = full_asked (is_trivial_at (sources_of (declarations_of m) f) (call.located o c).location.root) found_there.on row.before row.after found_by_row e

      pub found_empty : row.before ≡ content.Empty → is_trivial_at (sources_of (declarations_of m) f) (call.located o c).location.root ≡ false → found_there.on ≡ false
      found_empty e not_so = empty_asked found_there.on row.before row.after
          (subst (λ b. finds (handed_mark b row.before row.after).needs found_there.on ≡ true) not_so found_by_row) e
